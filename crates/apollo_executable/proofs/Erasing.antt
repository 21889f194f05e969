-- What a field, an inline fragment and a set are erased to, by what their parts are. A document with a
-- fragment is not erased to nothing.
use Rattle.std.proofs.Common.{◌≡◌, ◌≢◌, ◌<◌, ap, arith, ℕ, List, [], ◌++◌, map, length, length-append}
use Rattle.std.proofs.lemmas.List.{length-map}
use Rattle.graphql_nodes.specs.Tables.{values_of}
use Rattle.apollo_executable.specs.declared.selection.Selection.TheFolds.{fold_out-SelectionSet}
use Rattle.apollo_executable.specs.declared.selection.SelectionSet.{SelectionSet}
use Rattle.apollo_executable.specs.declared.document.ExecutableDocument.{ExecutableDocument}
use Rattle.apollo_executable.specs.Erasure.{ES, EF, EI, EL, selection_step, field_step, inline_step, set_step}
use Rattle.apollo_executable.specs.Erasure.{erased, erased_set, erased_definitions}

pub set_erases : (s : SelectionSet) → erased_set s ≡ map erased s.selections
set_erases s = fold_out-SelectionSet ES EF EI EL selection_step field_step inline_step set_step s

-- what stands behind other things is there
some-behind : {A B : Type 0} (front : List B) (f : A → B) (xs : List A) (n : ℕ) → n < length xs
    → front ++ map f xs ≢ []
some-behind front f xs n lt none = omega (arith, simp (length-append, length-map) at (ap length none))

pub fragments-erased : (document : ExecutableDocument) (n : ℕ) → n < length (values_of document.fragments)
    → erased_definitions document ≢ []
fragments-erased document n lt = some-behind _ _ (values_of document.fragments) n lt
