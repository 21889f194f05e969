use Rattle.std.proofs.Common.{ap, refl, rules}
use Rattle.std.specs.Option.{option_copied}
use Rattle.apollo_document.proofs.StandsLemmas.{stands-named, named-left, named-put, named-taken}
use Rattle.apollo_document.proofs.tables.Tables.take_named.Goals as goal

pub returns-in-Some : goal.returns-in-Some
returns-in-Some c = λ name errors xs was.
    let s = option_copied c.args.schema in
    let n = c.args.node.now in
    let noted = c.note_kept.new.self in
    stands-named s xs errors n c.args.self.now _ c.args.name.now name was (named-taken s n c.args.name.now
    c.args.self.now noted c.in_ok-note_kept.ensures c.in-Some.kept.now _ (search rules)
    (ap (λ l. record noted { faults = l }) (search rules)))

pub returns-in_default-2 : goal.returns-in_default-2
returns-in_default-2 c = λ name errors xs was.
    let s = option_copied c.args.schema in
    let n = c.args.node.now in
    stands-named s xs errors n c.args.self.now _ c.args.name.now name was (named-left s n c.args.name.now
    c.args.self.now c.note_kept.new.self c.in_ok-note_kept.ensures _ (search rules) (search rules)
    (search rules))

pub returns : goal.returns
returns c = λ name errors xs was.
    let s = option_copied c.args.schema in
    let n = c.args.node.now in
    stands-named s xs errors n c.args.self.now _ c.args.name.now name was (named-put s n c.args.name.now
    c.args.self.now c.note_kept.new.self c.in_ok-note_kept.ensures _ _ _ c.build_operation.new.self _
    (search rules) (search rules) (search rules) (search rules) c.in_ok-insert.ensures.entries refl)
