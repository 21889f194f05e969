-- The text of a path, which begins with that of its definition's name. GraphQL specification of October 2021,
-- sections 2.3 to 2.8.
use Rattle.std.specs.Prelude.{ℕ, List, [], ◌∷◌, ◌++◌, codes}
use Rattle.graphql_nodes.specs.NameView.{NameView}
use Rattle.graphql_nodes.specs.OperationTexts.{operation_text}
use Rattle.apollo_document.specs.declared.selection_path.ExecutableDefinitionName.{ExecutableDefinitionName}
use Rattle.apollo_document.specs.declared.selection_path.SelectionPath.{SelectionPath}
use Rattle.apollo_document.specs.declared.selection_path.ExecutableDefinitionName.TheVariants.{AnonymousOperation}
use Rattle.apollo_document.specs.declared.selection_path.ExecutableDefinitionName.TheVariants.{NamedOperation}
use Rattle.apollo_document.specs.declared.selection_path.ExecutableDefinitionName.TheVariants.{Fragment}

-- `query`, `query N` or `fragment F`
abbrev pub definition_name_text : ExecutableDefinitionName → List ℕ
definition_name_text (AnonymousOperation kind) = operation_text kind
definition_name_text (NamedOperation kind name) = operation_text kind ++ (codes " " ++ name.text)
definition_name_text (Fragment name) = codes "fragment " ++ name.text

-- ` → `, whose arrow is U+2192, in UTF-8
abbrev pub arrow : List ℕ
arrow = 32 ∷ 226 ∷ 134 ∷ 146 ∷ 32 ∷ []

-- each response key behind an arrow
abbrev pub keys_text : List NameView → List ℕ
keys_text [] = []
keys_text (key ∷ keys) = arrow ++ (key.text ++ keys_text keys)

-- `query Q → user → id`
abbrev pub path_text : SelectionPath → List ℕ
path_text path = definition_name_text path.root ++ keys_text path.nested_fields
