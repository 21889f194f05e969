-- What a definition does that neither defines nor extends a type.
use Rattle.apollo_meaning.proofs.Prelude.{◌≡◌, [], ◌∷◌, refl, sym, ◌∙◌, arith, NodeView, Directives}
use Rattle.apollo_meaning.proofs.Prelude.{directive_definitions, other_faults, Definition, Other, item_of}
use Rattle.apollo_meaning.proofs.Prelude.{◌⊎◌, inl, inr}
use Rattle.graphql_ast.specs.Declarations.{OfSchema, declaration_of}
use Rattle.graphql_ast.specs.DeclarationsSeen.{declaration_seen}
use Rattle.graphql_ast.specs.Definitions.{definition_location}
use Rattle.graphql_ast.specs.DefinitionTexts.{definition_text}
use Rattle.graphql_ast.specs.declared.operation.OperationDefinition.{OperationDefinition}
use Rattle.graphql_ast.specs.declared.operation.FragmentDefinition.{FragmentDefinition}
use Rattle.graphql_ast.specs.declared.declaration.SchemaDeclaration.{SchemaDeclaration}
use Rattle.graphql_ast.specs.declared.declaration_ref.DeclarationRef.{DeclarationRef}
use Rattle.graphql_ast.specs.declared.declaration_ref.DeclarationRef.TheVariants as seen
use Rattle.graphql_ast.specs.declared.declaration_ref.TypeDeclarationRef.{TypeDeclarationRef}
use Rattle.graphql_ast.specs.declared.type_system.DirectiveDefinition.{DirectiveDefinition}
use Rattle.graphql_ast.specs.declared.type_system.SchemaDefinition.{SchemaDefinition}
use Rattle.graphql_ast.specs.declared.type_system.SchemaExtension.{SchemaExtension}
use Rattle.apollo_meaning.specs.declared.build_error.BuildError.TheVariants as errors
use Rattle.graphql_ast.specs.declared.definition.Definition.TheVariants as ast
use Rattle.apollo_folding.specs.DeclaredParts.{item_seen}
use Rattle.apollo_folding.proofs.DeclarationLemmas.{item-seen}

-- an operation or fragment is no directive definition, and at fault
pub executable-other : (ds : Directives) (d : Definition)
    → ((n : NodeView OperationDefinition) × (d ≡ ast.OperationDefinition n))
    ⊎ ((n : NodeView FragmentDefinition) × (d ≡ ast.FragmentDefinition n))
    → (directive_definitions (Other d ∷ []) ≡ []) × (other_faults ds d
    ≡ (definition_location d, errors.ExecutableDefinition (definition_text d)) ∷ [])
executable-other ds d (inl h) = rw h.1 (refl, refl)
executable-other ds d (inr h) = rw h.1 (refl, refl)

pub executable-item : (d : Definition)
    → ((n : NodeView OperationDefinition) × (d ≡ ast.OperationDefinition n))
    ⊎ ((n : NodeView FragmentDefinition) × (d ≡ ast.FragmentDefinition n)) → item_of d ≡ Other d
executable-item d (inl h) = rw h.1
executable-item d (inr h) = rw h.1

-- what is neither of a type nor of the schema is the definition itself
other-is : (d x : Definition) → item_of d ≡ Other x → d ≡ x
other-is d x is = grind arith

-- what declares the schema defines or extends it
schema-is : (d : Definition) (s : SchemaDeclaration) → declaration_of d ≡ OfSchema s
    → ((n : NodeView SchemaDefinition) → d ≡ ast.SchemaDefinition n → ⊥)
    → ((n : NodeView SchemaExtension) → d ≡ ast.SchemaExtension n → ⊥) → ⊥
schema-is (ast.SchemaDefinition n) s is undefined unextended = undefined n refl
schema-is (ast.SchemaExtension n) s is undefined unextended = unextended n refl
schema-is d s is undefined unextended = grind arith

-- what declares neither a type nor the schema nor a directive is an operation or a fragment
module _ (d : Definition) (undefined : (n : NodeView SchemaDefinition) → d ≡ ast.SchemaDefinition n
    → ⊥) (unextended : (n : NodeView SchemaExtension) → d ≡ ast.SchemaExtension n
    → ⊥) (undirected : (n : NodeView DirectiveDefinition) → d ≡ ast.DirectiveDefinition n → ⊥) where
  declared : (v : DeclarationRef) → declaration_seen v ≡ declaration_of d → (x : Definition)
      → item_seen v ≡ Other x → d ≡ x
  declared v sees x is = other-is d x (item-seen d v sees ∙ is)

  pub executable-seen : (v : DeclarationRef) → declaration_seen v ≡ declaration_of d
      → ((t : TypeDeclarationRef) → v ≡ seen.Type t → ⊥)
      → ((n : NodeView OperationDefinition) × (d ≡ ast.OperationDefinition n))
      ⊎ ((n : NodeView FragmentDefinition) × (d ≡ ast.FragmentDefinition n))
  executable-seen (seen.Type t) sees untyped = absurd (untyped t refl)
  executable-seen (seen.Schema s) sees untyped = absurd (schema-is d _ (sym sees) undefined unextended)
  executable-seen (seen.Directive n) sees untyped =
      absurd (undirected n.now (declared (seen.Directive n) sees _ refl))
  executable-seen (seen.Operation n) sees untyped = inl (n.now, declared (seen.Operation n) sees _ refl)
  executable-seen (seen.Fragment n) sees untyped = inr (n.now, declared (seen.Fragment n) sees _ refl)
