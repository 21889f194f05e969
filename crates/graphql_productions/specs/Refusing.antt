-- What productions refuse, however many signs may be open.
use Rattle.std.specs.Prelude.{ℕ, suc, Bool, List}
use Rattle.graphql_nodes.specs.declared.source.FileId.{FileId}
use Rattle.graphql_ast.specs.declared.definition.Definition.{Definition}
use Rattle.graphql_ast.specs.declared.selection.Selection.{Selection}
use Rattle.graphql_ast.specs.declared.type_reference.Type.{«Type» as TypeReference}
use Rattle.graphql_ast.specs.declared.value.Value.{Value}
use Rattle.graphql_grammar.specs.Pieces.{Piece}
use Rattle.graphql_grammar.specs.Refusals.{CanGoOn, RulesOut}
use Rattle.graphql_productions.specs.Documents.{definition, selections}
use Rattle.graphql_productions.specs.Selections.{bare_selections, selection_set}
use Rattle.graphql_productions.specs.Types.{type}
use Rattle.graphql_productions.specs.Values.{value}

-- what is refused is refused for all words so far
abbrev pub RulesOutAll : (A : Type 0) → (ℕ → Piece A) → Type 0
RulesOutAll A p = (depth : ℕ) → RulesOut (p depth) (p depth).spells

-- the words before what is refused go on where one sign more may be open
abbrev pub GoesOnDeeper : (A : Type 0) → (ℕ → Piece A) → Type 0
GoesOnDeeper A p = (depth : ℕ) → CanGoOn (p depth) (p (suc depth)).spells

-- what holds of each production by how many signs may be open: of definitions, of selections with braces or
-- without, of types and of values
pub record OfEachProduction (P : (A : Type 0) → (ℕ → Piece A) → Type 0) : Type 0 where
  pub definition : (file : FileId) → P Definition (definition file)
  pub selections : (file : FileId) → P (List Selection) (selections file)
  pub selection_set : (file : FileId) → P (List Selection) (selection_set file)
  pub bare_selections : (file : FileId) → P (List Selection) (bare_selections file)
  pub type_reference : (file : FileId) → P TypeReference (type file)
  pub value : (file : FileId) (constant : Bool) → P Value (value file constant)
