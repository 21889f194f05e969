use Rattle.apollo_meaning.proofs.Prelude.{◌≡◌, ◌+◌, ◌^◌, ◌≤◌, ℕ, List, ◌++◌, length, arith, sym, ap, subst}
use Rattle.apollo_meaning.proofs.Prelude.{◌∙◌, next_number, source_at, Added, Folding, ListItem, added}
use Rattle.apollo_meaning.proofs.Prelude.{added_items, folding_order, folded}
use Rattle.apollo_folding.specs.declared.builder_error.BuilderError.{BuilderError}
use Rattle.apollo_folding.specs.declared.builder_error.BuilderError.TheVariants.{ExtensionIds}
use Rattle.apollo_folding.specs.Refusals.{RefusedAs}
use Rattle.apollo_schema.specs.BuilderStands.{Building, SpendsSoFar, refused, with_built_ins, with_document}
use Rattle.apollo_schema.specs.Stands.{Stands}
use Rattle.apollo_schema.specs.declared.state.State.TheVariants.{Failed}
use Rattle.apollo_schema.proofs.BuilderLemmas.{folds_with, holds-as, more_items, seen, seen-as, whole_list}
use Rattle.apollo_schema.proofs.Ends.OutcomeLemmas.{past}
use Rattle.apollo_meaning.proofs.Order.MomentLemmas.{folding_order-forget}
use Rattle.apollo_schema.proofs.schema_builder.SchemaBuilder.add_ast.Goals as goal

pub invariant_of-self-2 : goal.invariant_of-self-2
invariant_of-self-2 c =
    let b = c.self.inside in
    let more = added b.ignore_builtin_redefinitions c.args.document.now.definitions in
    subst (λ (l : List ListItem). Stands b.first_number l c.take_document.new.self.tables)
    (more_items b.added.items more ∙ ap (λ (l : List Added). added_items (with_built_ins l))
    (sym c.with-self-inside.ensures)) (c.in_default-take_document.ensures.stands b.first_number
    (added_items (whole_list b)) (holds-as b c.in-Open.is c.self.invariant))

pub invariant_of-self-in-Err : goal.invariant_of-self-in-Err
invariant_of-self-in-Err c =
    let b = c.self.inside in
    past c.starting_at.result b.first_number (length (folded (added_items (whole_list b))))
    (c.starting_at.ensures ∙ ap source_at c.next_number-before.ensures
    ∙ (holds-as b c.in-Open.is c.self.invariant).next)

pub returns-in-Err-clause-refused : goal.returns-in-Err-clause-refused
returns-in-Err-clause-refused c =
    let b = c.self.inside in
    let left = c.starting_at.ensures ∙ ap source_at c.next_number-before.ensures
    ∙ (holds-as b c.in-Open.is c.self.invariant).next
    ∙ ap (λ (l : List Folding). source_at (b.first_number + length l))
    (sym (folding_order-forget (added_items (whole_list b)))) in
    ap (λ source. seen b (Failed source)) left ∙ ap refused (seen-as b c.in-Open.is c.self.view_is)

pub returns-in-Err-clause-spent : goal.returns-in-Err-clause-spent
returns-in-Err-clause-spent c = λ spent.
    let b = c.self.inside in
    let more = added b.ignore_builtin_redefinitions c.args.document.now.definitions in
    let is : c.in-Err.error ≡ ExtensionIds = cc in
    let reason = subst (λ (e : BuilderError). RefusedAs e ((start : ℕ) (xs : List ListItem)
    → Stands start xs c.in-Open.held.tables → 2 ^ 64 ≤ start + length (folded (xs ++ added_items more))))
    is c.in-Err.ensures.refused in
    subst (λ (b : Building). SpendsSoFar (with_document c.args.document.now b))
    (seen-as b c.in-Open.is c.self.view_is)
    (subst (λ n. 2 ^ 64 ≤ n) (folds_with b.first_number (whole_list b) more)
    (reason b.first_number (added_items (whole_list b)) (holds-as b c.in-Open.is c.self.invariant)))

-- the source that is left has a number
pub returns-clause-unspent : goal.returns-clause-unspent
returns-clause-unspent c = λ spends.
    let b = c.self.inside in
    let more = added b.ignore_builtin_redefinitions c.args.document.now.definitions in
    let stands = c.in_default-take_document.ensures.stands b.first_number (added_items (whole_list b))
    (holds-as b c.in-Open.is c.self.invariant) in
    let all = folding_order (added_items (whole_list b ++ more)) in
    let left : next_number c.take_document.new.self.tables.fold.ids ≡ b.first_number + length all =
    ap next_number stands.next ∙ folds_with b.first_number (whole_list b) more in
    let spent : 2 ^ 64 ≤ b.first_number + length all =
    subst (λ (b : Building). SpendsSoFar (with_document c.args.document.now b))
    (sym (seen-as b c.in-Open.is c.self.view_is)) spends in
    omega (arith, c.next_number-is_a_number.type_inv, c.next_number-is_a_number.ensures, left, spent)
