use Rattle.apollo_meaning.proofs.Prelude.{◌≡◌, [], ◌∷◌, ◌∙◌, None, schema_definition_part}
use Rattle.apollo_meaning.proofs.Prelude.{schema_definition_of}
use Rattle.apollo_component.specs.declared.extension.ComponentOrigin.TheVariants.{Definition}
use Rattle.apollo_folding.proofs.fold.Fold.schema_from_ast.Goals as goal

-- before its components are folded in, the definition is that of no parts
bare_definition : (c : goal.In_ok-made)
    → c.in_ok-definition.definition ≡ schema_definition_of (schema_definition_part c.args.node.now) []
bare_definition c = c.in_ok-definition.ensures ∙ λ i. record {
  description = (c.deref.ensures i).description;
  directives = record { 0 = [] };
  query = None;
  mutation = None;
  subscription = None;
}

pub returns-clause-made : goal.returns-clause-made
returns-clause-made c =
    let n = c.args.node.now in
    let head = schema_definition_part n in
    let directives : head.parts.directives ≡ c.as_slice.result.now = cc in
    let roots : head.parts.roots ≡ c.as_slice-2.result.now = cc in
    let folded : c.fold_schema.new.definition ≡ schema_definition_of head ((Definition, head) ∷ []) =
    c.in_ok-fold_schema.ensures.folded head head [] directives roots (bare_definition c) in
    c.in_ok-made.ensures ∙ λ i. record { value = folded i; location = n.location }

pub returns-clause-faults : goal.returns-clause-faults
returns-clause-faults c =
    let head = schema_definition_part c.args.node.now in
    let roots : head.parts.roots ≡ c.as_slice-2.result.now = cc in
    let found = c.in_ok-fold_schema.ensures.faults head head [] roots (bare_definition c) in
    λ i. record c.args.self.now { faults = found i }
