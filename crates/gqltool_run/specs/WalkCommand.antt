-- What the command `walk` answers: docs/NOTATION.md, and GraphQL specification of October 2021, sections 2.2
-- to 2.8.
use Rattle.std.specs.Prelude.{◌≡◌, ◌&&◌, ◌==◌, ◌++◌, ◌-◌, ◌^◌, ℕ, Bool, true, false, not, List, [], ◌∷◌}
use Rattle.std.specs.Prelude.{length, map, min, codes, decimal}
use Rattle.std.specs.List.{flat_map}
use Rattle.graphql_nodes.specs.NameView.{NameView}
use Rattle.graphql_nodes.specs.NodeView.{NodeView}
use Rattle.graphql_nodes.specs.OperationTexts.{operation_text}
use Rattle.apollo_executable.specs.Operations.{all_operations}
use Rattle.apollo_executable.specs.SelectionParts.{response_key}
use Rattle.apollo_executable.specs.Walks.WalkView.{AreWalked, TakesAllTurns}
use Rattle.apollo_executable.specs.declared.document.ExecutableDocument.{ExecutableDocument}
use Rattle.apollo_executable.specs.declared.operation.Operation.{Operation}
use Rattle.apollo_executable.specs.declared.operation.Fragment.{Fragment}
use Rattle.apollo_executable.specs.declared.selection.Field.{Field}
use Rattle.apollo_executable.specs.declared.selection.SelectionSet.{SelectionSet}
use Rattle.bench_notation.specs.HeaderWords.{name_word}
use Rattle.gqltool_run.specs.DocumentAnswers.{IsDocumentAnswer}

-- the line of an operation
abbrev pub operation_line : Operation → List ℕ
operation_line operation =
    codes "walk operation "
    ++ (operation_text operation.operation_type ++ (codes " " ++ (name_word operation.name ++ codes "\n")))

-- the line of what stands under this name among the fragments
abbrev pub fragment_line : NameView → List ℕ
fragment_line name = codes "walk fragment " ++ (name.text ++ codes "\n")

-- the line of a field that a walk gives: its response key
abbrev pub field_line : List ℕ → NodeView Field → List ℕ
field_line word field = word ++ ((response_key field.value).text ++ codes "\n")

-- the line of a number of turns
abbrev pub turns_line : List ℕ → ℕ → List ℕ
turns_line word turns = word ++ (decimal turns ++ codes "\n")

-- the fields of a whole walk over a set, and then its turns, or the greatest number where they are more
pub record IsWalkText (deep : Bool) (word turns_word : List ℕ) (document : ExecutableDocument)
    (set : SelectionSet) (text : List ℕ) : Type 0 where
  pub fields : List (NodeView Field)
  pub walked : AreWalked deep document set fields
  -- how many turns the walk takes
  pub turns : ℕ
  pub takes : TakesAllTurns deep document set turns
  pub says : text ≡ flat_map (field_line word) fields ++ turns_line turns_word (min turns (2 ^ 64 - 1))

-- the walk over root fields, and then the walk over all
pub record IsSetText (document : ExecutableDocument) (set : SelectionSet) (text : List ℕ) : Type 0 where
  -- the text of the walk over root fields
  pub root : List ℕ
  pub root_says : IsWalkText false (codes "root ") (codes "root-turns ") document set root
  -- the text of the walk over all fields
  pub all : List ℕ
  pub all_says : IsWalkText true (codes "all ") (codes "all-turns ") document set all
  pub says : text ≡ root ++ all

-- these sets, in order, each below its line
abbrev pub AreSetsText : ExecutableDocument → List (List ℕ × SelectionSet) → List ℕ → Type 0
AreSetsText document [] text = text ≡ []
AreSetsText document (set ∷ sets) text = (said : List ℕ)
    × (IsSetText document set.1 said
    × ((rest : List ℕ) × (AreSetsText document sets rest × (text ≡ set.0 ++ (said ++ rest)))))

-- an operation's selections, and its line
abbrev pub operation_with_line : NodeView Operation → List ℕ × SelectionSet
operation_with_line operation = (operation_line operation.value, operation.value.selection_set)

-- the selections of what stands under a name among the fragments, and its line
abbrev pub fragment_with_line : NameView × NodeView Fragment → List ℕ × SelectionSet
fragment_with_line entry = (fragment_line entry.0, entry.1.value.selection_set)

-- the operations, the anonymous one first, and then the fragments
abbrev pub AreWalksText : ExecutableDocument → List ℕ → Type 0
AreWalksText document text =
    (operations : List ℕ)
    × (AreSetsText document (map operation_with_line (all_operations document.operations)) operations
    × ((fragments : List ℕ)
    × (AreSetsText document (map fragment_with_line document.fragments) fragments
    × (text ≡ operations ++ fragments))))

-- the text is that of the walks over the typed document that the input means, and then of its schema's faults
-- and its own
abbrev pub IsWalkAnswer : List ℕ → List ℕ → Bool → Type 0
IsWalkAnswer = IsDocumentAnswer (λ _ document. AreWalksText document) (λ _ _. 0)
