use Rattle.apollo_meaning.proofs.Prelude.{◌≡◌, ◌+◌, ◌^◌, ◌≤◌, List, ◌++◌, length, sym, ap, subst, ◌∙◌}
use Rattle.apollo_meaning.proofs.Prelude.{ListItem, adopted, with_adopted, folded}
use Rattle.apollo_folding.specs.Adopting.{adopted_for_each}
use Rattle.apollo_schema.specs.Stands.{Stands}
use Rattle.apollo_meaning.proofs.Completion.OrphanLemmas.{held-adopted}
use Rattle.apollo_folding.proofs.RefusalLemmas.{RefusedAs-through}
use Rattle.apollo_schema.proofs.tables.Tables.adopt.Goals as goal

pub returns-then-not-adopts-clause-stands : goal.returns-then-not-adopts-clause-stands
returns-then-not-adopts-clause-stands c = λ start xs was. subst (λ b. Stands start (with_adopted b xs)
    c.args.self.now) (sym c.if-not-adopts.true) was

pub returns-in_err-adopt_each-clause-refused : goal.returns-in_err-adopt_each-clause-refused
returns-in_err-adopt_each-clause-refused c = RefusedAs-through c.from_residual-in_err-adopt_each.result
    c.in_err-adopt_each.field-0.0 c.from_residual-in_err-adopt_each.ensures.1 (λ full start xs was.
    let these : adopted_for_each c.as_slice.result.now ≡ adopted xs =
    ap adopted_for_each c.as_slice.ensures ∙ c.in_ok-firsts.ensures
    ∙ held-adopted xs c.args.self.now.waiting was.names was.waiting in
    subst (λ b. 2 ^ 64 ≤ start + length (folded (with_adopted b xs))) (sym c.if-not-adopts.false)
    (subst (λ (l : List ListItem). 2 ^ 64 ≤ start + length (folded (xs ++ l))) these (full start xs was)))
    c.in_err-adopt_each.ensures.refused

pub returns-clause-stands : goal.returns-clause-stands
returns-clause-stands c = λ start xs was.
    let these : adopted_for_each c.as_slice.result.now ≡ adopted xs =
    ap adopted_for_each c.as_slice.ensures ∙ c.in_ok-firsts.ensures
    ∙ held-adopted xs c.args.self.now.waiting was.names was.waiting in
    subst (λ b. Stands start (with_adopted b xs) c.adopt_each.new.self) (sym c.if-not-adopts.false)
    (subst (λ (l : List ListItem). Stands start (xs ++ l) c.adopt_each.new.self) these
    (c.in_ok-adopt_each.ensures.stands start xs was))
