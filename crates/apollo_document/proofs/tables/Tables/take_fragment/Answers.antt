use Rattle.std.proofs.Common.{ap, refl, rules}
use Rattle.std.specs.Option.{option_copied}
use Rattle.apollo_document.proofs.StandsLemmas.{stands-fragment, fragment-left, fragment-put, fragment-taken}
use Rattle.apollo_document.proofs.tables.Tables.take_fragment.Goals as goal

pub returns-in-Some : goal.returns-in-Some
returns-in-Some c = λ errors xs was.
    let s = option_copied c.args.schema in
    let n = c.args.node.now in
    let t = c.args.self.now in
    stands-fragment s xs errors n t _ was (fragment-taken s n t c.in-Some.kept.now _ (search rules)
    (ap (λ l. record t { faults = l }) (search rules)))

pub returns-in_default-2 : goal.returns-in_default-2
returns-in_default-2 c = λ errors xs was.
    let s = option_copied c.args.schema in
    let n = c.args.node.now in
    let t = c.args.self.now in
    stands-fragment s xs errors n t _ was (fragment-left s n t _ (search rules) (search rules)
    c.in_ok-fragment.ensures.faults)

pub returns : goal.returns
returns c = λ errors xs was.
    let s = option_copied c.args.schema in
    let n = c.args.node.now in
    let t = c.args.self.now in
    stands-fragment s xs errors n t _ was (fragment-put s n t _ _ _ c.build_fragment.new.self _ (search rules)
    (search rules) c.in_ok-fragment.ensures.faults (search rules) c.in_ok-insert.ensures.entries refl)
