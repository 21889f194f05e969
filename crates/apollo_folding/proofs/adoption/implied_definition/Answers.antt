use Rattle.apollo_meaning.proofs.Prelude.{◌≡◌, ◌==◌, true, false, None, [], ◌∷◌, length, sym, ap, ◌∙◌, rules}
use Rattle.apollo_meaning.proofs.Prelude.{SchemaPart, schema_definition_part, SchemaDefined}
use Rattle.graphql_ast.specs.Parts.{no_parts}
use Rattle.apollo_meaning.specs.Completion.ImpliedSchema.{schema_of_roots}
use Rattle.apollo_folding.specs.HeldRoots.{held_roots}
use Rattle.apollo_folding.proofs.CompletionLemmas.{implied-adopting, implied-some}
use Rattle.apollo_folding.proofs.adoption.implied_definition.Goals.{else-not-adopts-via-then-not-adopts+else-is_empty}
use Rattle.apollo_folding.proofs.adoption.implied_definition.Goals.{else-not-adopts-via-else-not-adopts}
use Rattle.apollo_folding.proofs.adoption.implied_definition.Goals as goal

pub returns : goal.returns
returns c =
    let roots = c.in_ok-root_operations.root_operations in
    let xs = c.args.extensions.now in
    let implicit = held_roots c.args.types.now in
    let made : schema_definition_part c.in_ok-new.field-0 ≡ schema_of_roots roots =
    ap schema_definition_part c.in_ok-new.ensures
    ∙ λ i. record {
      location = None;
      description = None;
      parts = record no_parts { directives = c.new.ensures i; roots = roots };
    } in
    ap (λ (s : SchemaPart). SchemaDefined s ∷ []) made ∙ elim c.else-not-adopts.branch [
      | else-not-adopts-via-then-not-adopts+else-is_empty w ↦
          let some : (length roots == 0) ≡ false = sym w.is_empty.ensures ∙ w.if-is_empty.false in
          implied-some xs implicit roots c.args.adopts some c.in_ok-root_operations.ensures
      | else-not-adopts-via-else-not-adopts w ↦
          let adopting : c.args.adopts ≡ true = search rules in
          implied-adopting xs implicit roots c.args.adopts adopting c.in_ok-root_operations.ensures
    ]
