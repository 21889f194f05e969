-- What is read of texts is not marked built-in, and each schema definition in it names a root.
use Rattle.apollo_canonical.proofs as canonical
use canonical.Prelude.{Added, AddedText, AllByRecursion, AreRead, AreWellFormed, Definition, IfSome}
use canonical.Prelude.{IsUnmarkedAndRooted, IsWellFormed, IsWellFormedDefinition, IsWellFormedPart, List, []}
use canonical.Prelude.{added_item, added_texts, arith, defined_schema, definition_parts, directives_parts}
use canonical.Prelude.{document_parts, each-weaken, item_of, node_parts, root_parts, spells_document, true}
use canonical.Prelude.{wanted_parts, words_of, ℕ, ◌≢◌}
use canonical.Schemas.Alike.{IsUnmarked}
use canonical.Schemas.WellFormedLists.{each-chosen, each-flat_map, each-from_flat_map, each-map, each-split}
use Rattle.std.proofs.lemmas.List.Elements.{All-from_recursion}
use Rattle.graphql_nodes.specs.declared.source.FileId.{FileId}
use Rattle.graphql_ast.specs.declared.definition.Definition.TheVariants as d
use Rattle.graphql_grammar.specs.Words.{WordView}
use Rattle.graphql_productions.specs.Places.{IsNowhereBuiltIn}

-- the first part of a definition says where it stands
unmarked : (x : Definition) → IsNowhereBuiltIn (definition_parts x) → IsUnmarked x
unmarked (d.OperationDefinition n) h = h.0
unmarked x h = h.0

pub all-unmarked : (xs : List Definition) → IsNowhereBuiltIn (document_parts xs)
    → AllByRecursion IsUnmarked xs
all-unmarked xs h = each-weaken _ _ unmarked xs (each-from_flat_map _ definition_parts xs h.1)

-- a schema definition names a root
abbrev IsRooted : Definition → Type 0
IsRooted x = IfSome (defined_schema (item_of x)) (λ s. s.parts.roots ≢ [])

rooted : (x : Definition) → IsWellFormedDefinition x → IsRooted x
rooted (d.SchemaDefinition n) h =
    let behind = each-split IsWellFormedPart _ _ h.1 in
    let last = each-split IsWellFormedPart (directives_parts true n.value.directives)
    (wanted_parts (node_parts root_parts) n.value.root_operations) behind.1 in
    λ none. grind (arith, none, last.1.0)
rooted x h = tt

all-well_formed : (xs : List Definition) → IsWellFormed (document_parts xs)
    → AllByRecursion IsWellFormedDefinition xs
all-well_formed xs h = each-from_flat_map IsWellFormedPart definition_parts xs h.1

-- so with what texts add
module _ (nowhere : (file : FileId) (depth : ℕ) (words : List WordView) (x : List Definition)
    → file.0 ≢ 0 → spells_document file depth x words
    → IsNowhereBuiltIn (document_parts x)) (formed : (file : FileId) (depth allowed : ℕ) (text : List ℕ)
    (x : List Definition) → spells_document file depth x (words_of allowed text)
    → IsWellFormed (document_parts x)) where
  each-text : (P : Definition → Type 0)
      → ((xs : List Definition) → IsNowhereBuiltIn (document_parts xs) → IsWellFormed (document_parts xs)
      → AllByRecursion P xs) → (texts : List AddedText) → AreRead texts
      → AllByRecursion (λ a. P a.1) (added_texts texts)
  each-text P all texts read =
      each-flat_map _ _ texts
      (each-weaken _ _ (λ t r. each-map _ _ t.definitions
      (all t.definitions (nowhere t.reading.file t.reading.depth _ t.definitions r.handed_in r.spelled)
      (formed t.reading.file t.reading.depth t.reading.allowed t.reading.text t.definitions r.spelled))) texts
      read)

  pub well_formed : (texts : List AddedText) → AreRead texts → AreWellFormed (added_texts texts)
  well_formed = each-text IsWellFormedDefinition (λ xs n w. all-well_formed xs w)

  pub handed_in : (texts : List AddedText) → AreRead texts
      → AllByRecursion (λ a. IsUnmarked a.1) (added_texts texts)
  handed_in = each-text IsUnmarked (λ xs n w. all-unmarked xs n)

  pub within : (texts : List AddedText) → AreRead texts → IsUnmarkedAndRooted (added_texts texts)
  within texts read = record {
    unmarked = All-from_recursion _ _ (handed_in texts read);
    rooted = All-from_recursion _ _ (each-chosen _ _ defined_schema (λ x h. h) _ (each-map _ added_item _
        (each-weaken _ _ item _ (each-text IsRooted
        (λ xs n w. each-weaken _ _ rooted xs (all-well_formed xs w)) texts read))));
  }
    where
      item : (a : Added) → IsRooted a.1 → IfSome (defined_schema (added_item a)) (λ s. s.parts.roots ≢ [])
      item (b, d.SchemaDefinition n) h = h
      item (b, x) h = tt
