use Rattle.apollo_meaning.proofs.Prelude.{◌+◌, ◌^◌, ◌≤◌, List, ◌++◌, length, subst, Definition, added}
use Rattle.apollo_meaning.proofs.Prelude.{added_items, folded}
use Rattle.apollo_schema.specs.Stands.{Stands}
use Rattle.apollo_folding.proofs.RefusalLemmas.{RefusedAs-through}
use Rattle.apollo_schema.proofs.state.Added.take_document.Goals as goal

pub returns-clause-stands : goal.returns-clause-stands
returns-clause-stands c =
    λ start xs was. subst (λ (l : List Definition). Stands start (xs ++ added_items (added c.args.ignores l))
    c.take.new.self) c.as_slice.ensures (c.in_ok-take.ensures.stands start xs was)

pub returns-in_err-take-clause-refused : goal.returns-in_err-take-clause-refused
returns-in_err-take-clause-refused c = RefusedAs-through c.from_residual.result c.in_err-take.field-0.0
    c.from_residual.ensures.1 (λ full start xs was.
    let all = λ (l : List Definition). xs ++ added_items (added c.args.ignores l) in
    subst (λ (l : List Definition). 2 ^ 64 ≤ start + length (folded (all l))) c.as_slice.ensures
    (full start xs was)) c.in_err-take.ensures.refused
