-- What a builder stands for: GraphQL specification of October 2021, section 3.
--
-- **A builder as a value.** Contracts see a builder as a value (`Building`). It has the number of its first
-- extension (`start`), its two options (`adopts` and `ignores`) and how it stands (`standing`). It is `Open`
-- with the list of what was added, the built-in definitions first, and with the source files of the
-- documents. Each definition of the list is there with its setting. Once a call was refused it is `Failed`,
-- with the source of numbers that is left. So a call is an equation. `building_from start` is a builder to
-- which no document was added, and `with_document document builder` one with a document more.
-- `refused builder` is what a refused call leaves. Adoption is settled at the end: the setting at `build`
-- counts, for the whole list. Whether further definitions of built-in types are ignored counts when a
-- definition is added.
--
-- `StandsFor start list builder` says that the builder is open with this list, and that `start` is its
-- first number; `HasFailed builder` that a call was refused. `source_left` and `source_after` are the
-- source of numbers before the list is completed, and after, or the one that is left.
use Rattle.std.specs.Prelude.{◌≡◌, ℕ, ◌+◌, Bool, false, List, [], ◌++◌, Result, Ok, Err, refl}
use Rattle.std.specs.Coded.{Coded, code_by, coded×, coded_bool, coded_list, coded_result, coded_ℕ}
use Rattle.graphql_nodes.specs.Sources.{Files, merged}
use Rattle.graphql_nodes.specs.declared.source.FileId.{FileId}
use Rattle.graphql_nodes.specs.declared.source.SourceFile.{SourceFile}
use Rattle.graphql_ast.specs.declared.definition.Definition.{Definition}
use Rattle.graphql_ast.specs.declared.document.Document.{Document}
use Rattle.apollo_meaning.specs.BuiltInTable.{built_in_definitions}
use Rattle.apollo_component.specs.Extensions.{source_at}
use Rattle.apollo_component.specs.declared.extension.ExtensionSource.{ExtensionSource}
use Rattle.apollo_meaning.specs.Items.ListItems.{Added, added}
use Rattle.apollo_meaning.specs.Order.SpentIds.{SpendsIds, SpendsIdsSoFar, folds_so_far}
use Rattle.apollo_meaning.specs.Schema.Whole.{folds}

-- what was added, the built-in definitions first, with the source files of the documents, until a call was
-- refused. Then the source of numbers that is left
pub data Standing : Type 0 where
  Open : (list : List Added) → (sources : Files) → Standing
  Failed : (source : ExtensionSource) → Standing

-- a builder
pub record Building : Type 0 where
  -- the number of its first extension
  pub start : ℕ
  -- whether it adopts what is extended only
  pub adopts : Bool
  -- whether it ignores redefinitions of built-in types
  pub ignores : Bool
  pub standing : Standing

-- what was added with its source files, or the source of numbers that is left
abbrev pub as_added : Standing → Result (List Added × Files) ExtensionSource
as_added (Open xs files) = Ok (xs, files)
as_added (Failed source) = Err source

-- how a builder stands to which this was added, or of which this source is left
abbrev pub from_added : Result (List Added × Files) ExtensionSource → Standing
from_added (Ok added) = Open added.0 added.1
from_added (Err source) = Failed source

-- each way to stand is told by what was added or is left
pub as_added-back : (standing : Standing) → from_added (as_added standing) ≡ standing
as_added-back (Open xs files) = refl
as_added-back (Failed source) = refl

-- builders can be told apart, as all that a reference refers to has to be
abbrev pub building_code : Coded Definition → Coded FileId → Coded SourceFile → Coded ExtensionSource
    → Coded Building
building_code definition number file source =
    code_by (ℕ × (Bool × (Bool × Result (List Added × Files) ExtensionSource)))
    (coded× coded_ℕ (coded× coded_bool (coded× coded_bool (coded_result
    (coded× (coded_list (coded× coded_bool definition)) (coded_list (coded× number file))) source))))
    (λ b. (b.start, (b.adopts, (b.ignores, as_added b.standing))))
    (λ p. record { start = p.0; adopts = p.1.0; ignores = p.1.1.0; standing = from_added p.1.1.1 })
    (λ b i. record {
      start = b.start;
      adopts = b.adopts;
      ignores = b.ignores;
      standing = as_added-back b.standing i;
    })

-- the built-in definitions, and these after them
abbrev pub with_built_ins : List Added → List Added
with_built_ins more = added false built_in_definitions ++ more

-- a builder without either option, with its extensions numbered from `start`, to which no document was added
abbrev pub building_from : ℕ → Building
building_from start = record {
  start = start;
  adopts = false;
  ignores = false;
  standing = Open (added false built_in_definitions) [];
}

-- with the definitions of a document behind what was added, and its source files; nothing changes after a
-- refusal
abbrev pub standing_with : Bool → Document → Standing → Standing
standing_with ignores document (Open xs files) =
    Open (xs ++ added ignores document.definitions) (merged files document.sources)
standing_with ignores document (Failed source) = Failed source

-- the builder with a document more
abbrev pub with_document : Document → Building → Building
with_document document b = record b { standing = standing_with b.ignores document b.standing }

-- the source of numbers, past the extensions that are folded so far; after a refusal the one that is left
abbrev pub source_left : ℕ → Standing → ExtensionSource
source_left start (Open xs files) = source_at (start + folds_so_far xs)
source_left start (Failed source) = source

-- the builder after a refusal: its source of numbers is left, and all that was added is dropped
abbrev pub refused : Building → Building
refused b = record b { standing = Failed (source_left b.start b.standing) }

-- the source of numbers, past the extensions that the completed list folds; the one that is left after a
-- refusal
abbrev pub source_completed : ℕ → Bool → Standing → ExtensionSource
source_completed start adopts (Open xs files) = source_at (start + folds adopts xs)
source_completed start adopts (Failed source) = source

-- the source of numbers after a build
abbrev pub source_after : Building → ExtensionSource
source_after b = source_completed b.start b.adopts b.standing

-- a builder stands so after a refusal
abbrev pub IsFailed : Standing → Type 0
IsFailed (Open xs files) = ⊥
IsFailed (Failed source) = Unit {0}

-- a call on the builder was refused
abbrev pub HasFailed : Building → Type 0
HasFailed b = IsFailed b.standing

-- no call was refused, and this is what was added
abbrev pub IsOpenWith : List Added → Standing → Type 0
IsOpenWith xs (Open list files) = list ≡ xs
IsOpenWith xs (Failed source) = ⊥

-- the builder stands for this list, with its extensions numbered from `start`, which is its first number
abbrev pub StandsFor : ℕ → List Added → Building → Type 0
StandsFor start xs b = (b.start ≡ start) × IsOpenWith xs b.standing

-- what was added; nothing once a call was refused
abbrev pub list_left : Standing → List Added
list_left (Open xs files) = xs
list_left (Failed source) = []

-- what was added to a builder; nothing once a call was refused
abbrev pub list_of : Building → List Added
list_of b = list_left b.standing

-- the source files that were added; none once a call was refused
abbrev pub sources_left : Standing → Files
sources_left (Open xs files) = files
sources_left (Failed source) = []

-- the source files of the documents that were added to a builder; none once a call was refused
abbrev pub sources_of : Building → Files
sources_of b = sources_left b.standing

-- no call was refused, and P holds of the first number and of what was added
abbrev pub IsOpenBy : (ℕ → List Added → Type 0) → ℕ → Standing → Type 0
IsOpenBy P start (Open xs files) = P start xs
IsOpenBy P start (Failed source) = ⊥

-- no call was refused, and P holds of the builder's first number and of what was added to it
abbrev pub OfAdded : (ℕ → List Added → Type 0) → Building → Type 0
OfAdded P b = IsOpenBy P b.start b.standing

-- the numbers don't suffice for the extensions that are folded so far
abbrev pub SpendsSoFar : Building → Type 0
SpendsSoFar b = OfAdded SpendsIdsSoFar b

-- the numbers don't suffice for the extensions that the completed list folds
abbrev pub SpendsAtBuild : Building → Type 0
SpendsAtBuild b = OfAdded (λ start xs. SpendsIds start b.adopts xs) b
