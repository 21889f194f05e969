use Rattle.apollo_meaning.proofs.Prelude.{is_some, refl, sym, ap, ◌∙◌, filter_map, TypePart, extended_part}
use Rattle.apollo_meaning.proofs.Prelude.{extended_parts, items_of, insert_entry, same_text, rules, ◌≡◌}
use Rattle.std.specs.Option.{option_copied}
use Rattle.apollo_folding.specs.DeclaredParts.{part_seen}
use Rattle.apollo_schema.proofs.Stands.StandsLemmas.{Stands-again, Stands-new, new-spent}
use Rattle.apollo_folding.proofs.RefusalLemmas.{RefusedAs-through}
use Rattle.apollo_schema.proofs.tables.Tables.define.Goals as goal

pub returns-in-Some-clause-stands : goal.returns-in-Some-clause-stands
returns-in-Some-clause-stands c = λ start xs was.
    let p : TypePart = record (part_seen c.args.definition.now) { ignorable = c.args.ignores } in
    Stands-again was p _ c.in-Some.previous.now (sym c.get.ensures ∙ ap option_copied c.in-Some.is) refl refl
    refl refl refl c.in_ok-note_redefinition.ensures.noted

pub returns-in_err-ty-clause-refused : goal.returns-in_err-ty-clause-refused
returns-in_err-ty-clause-refused c =
    let p : TypePart = record (part_seen c.args.definition.now) { ignorable = c.args.ignores } in
    RefusedAs-through c.from_residual-in_err-ty.result c.in_err-ty.field-0.0
    c.from_residual-in_err-ty.ensures.1 (λ full start xs was. new-spent was p
    (extended_parts c.as_slice.result.now) (ap is_some (sym c.get.ensures
    ∙ ap option_copied c.in_default.is)) (ap (filter_map extended_part) (ap items_of c.as_slice.ensures
    ∙ c.take_waiting-extensions.ensures.taken)) full) c.in_err-ty.ensures.refused

pub returns-clause-stands : goal.returns-clause-stands
returns-clause-stands c = λ start xs was.
    let p : TypePart = record (part_seen c.args.definition.now) { ignorable = c.args.ignores } in
    let name : c.in_ok-clone.field-0 ≡ p.name = search rules in
    let put = c.in_ok-insert.ensures.entries
    ∙ ap (λ k. insert_entry same_text c.args.self.now.types k c.in_ok-ty.ty) name in
    Stands-new was p _ c.in_ok-ty.ty (extended_parts c.as_slice.result.now) (ap is_some (sym c.get.ensures
    ∙ ap option_copied c.in_default.is)) (ap (filter_map extended_part) (ap items_of c.as_slice.ensures
    ∙ c.take_waiting-extensions.ensures.taken)) (c.in_ok-ty.ensures.made c.args.ignores) refl refl
    put refl c.take_waiting-extensions.ensures.names (c.in_ok-ty.ensures.faults
    c.args.ignores) c.take_waiting-extensions.ensures.left c.in_ok-ty.ensures.next
