use Rattle.std.proofs.Common.{rules, refl, sym, ap, subst, ◌∙◌, true≢false}
use Rattle.apollo_executable.specs.Walks.Introspection.{IsMetaName}
use Rattle.apollo_executable.specs.declared.selection.Field.{Field}
use Rattle.apollo_executable.proofs.Walking.IntrospectionLemmas.{given-meta, given-one_more}
use Rattle.apollo_executable.proofs.Walking.IntrospectionLemmas.{meta-introspection, introspection-meta}
use Rattle.apollo_executable.proofs.operation.Operation.is_introspection.Goals as goal

pub returns-then-not-is_meta_name-clause-answer : goal.returns-then-not-is_meta_name-clause-answer
returns-then-not-is_meta_name-clause-answer c =
    let walk = c.root_fields-walk in
    let named = c.as_str.ensures ∙ ap (λ (f : Field). f.name.text) c.deref.ensures in (
      λ no. absurd (true≢false (sym no)),
      λ is.
          let head = given-meta c.in_ok-field.field-0 c.loop-field.invariant c.in-Some.ensures.steps
          (search rules) (introspection-meta c.args.document.now c.args.self.now walk.result.coming
          (λ n. c.walks_give_what_is_reached.ensures _ _ _ n walk.ensures.coming) is) in
          sym c.if-not-is_meta_name.true ∙ c.is_meta_name.ensures.1 (subst IsMetaName (sym named) head),
    )

pub returns-clause-answer : goal.returns-clause-answer
returns-clause-answer c =
    let walk = c.root_fields-walk in (
      λ _. meta-introspection c.args.document.now c.args.self.now walk.result.coming
          (λ n. c.walks_give_what_is_reached.ensures _ _ _ n walk.ensures.coming)
          (c.is_query.ensures.0 c.if-not-is_query.false)
          (c.loop-field.invariant.all (rw c.in_default.ensures.steps.gives.0 (λ n h. absurd h))),
      λ _. refl,
    )

pub loop-field-preserved : goal.loop-field-preserved
loop-field-preserved c =
    let named = c.as_str.ensures ∙ ap (λ (f : Field). f.name.text) c.deref.ensures in
    given-one_more c.in_ok-field.field-0 c.loop-field.invariant c.in-Some.ensures.steps (search rules)
    (subst IsMetaName named (c.is_meta_name.ensures.0 c.if-not-is_meta_name.false))
