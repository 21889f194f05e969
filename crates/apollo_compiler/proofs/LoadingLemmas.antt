-- Files that are loaded, one after another.
use Rattle.std.proofs.Common.{◌≡◌, ◌≢◌, ℕ, ◌+◌, ◌<◌, ◌≤◌, suc, false, List, [], ◌∷◌, ◌++◌, Option, None}
use Rattle.std.proofs.Common.{length, map, get_or, take, refl, sym, ap, ◌∙◌, arith, length-take-le, le_of_lt}
use Rattle.std.proofs.Common.{IsSomeAnd}
use Rattle.std.specs.Borrow.{Bor}
use Rattle.std.specs.List.{AllZip, enumerate_from, filter_map, list_any}
use Rattle.std.proofs.lemmas.List.{append-nil, length-map, map-append, take_more}
use Rattle.std.proofs.lemmas.List.Elements.{filter_map-append}
use Rattle.std.proofs.lemmas.List.FromFn.{length-enumerate_from}
use Rattle.graphql_nodes.specs.Sources.{same_file}
use Rattle.graphql_nodes.specs.declared.source.FileId.{FileId}
use Rattle.graphql_nodes.specs.declared.source.SourceFile.{SourceFile}
use Rattle.graphql_text.specs.declared.parsing.ParseOptions.{ParseOptions}
use Rattle.apollo_component.proofs.FirstOfEachLemmas.{insert_entry-last}
use Rattle.apollo_component.proofs.Lists.Ends.{enumerate_from-append}
use Rattle.apollo_compiler.specs.declared.loading.LoadedDocuments.{LoadedDocuments}
use Rattle.apollo_compiler.specs.declared.reading.Reading.{Reading}
use Rattle.apollo_compiler.specs.declared.reading.Reading.TheVariants as readings
use Rattle.apollo_compiler.specs.Loading.{AreLoaded, IsReading, document_of, numbered, numbered_source}
use Rattle.apollo_compiler.specs.Loading.{paths_of, refusal_of, source_of, sources_from, with_source}

-- one place more in both lists
all-more : {A B : Type 0} (R : A → B → Type 0) (xs : List A) (ys : List B) (x : A) (y : B) → AllZip R xs ys
    → R x y → AllZip R (xs ++ x ∷ []) (ys ++ y ∷ [])
all-more R [] [] x y are is = (is, are)
all-more R [] (first ∷ ys) x y are is = absurd are
all-more R (first ∷ xs) [] x y are is = absurd are
all-more R (first ∷ xs) (other ∷ ys) x y are is = (are.0, all-more R xs ys x y are.1 is)

all-long : {A B : Type 0} (R : A → B → Type 0) (xs : List A) (ys : List B) → AllZip R xs ys
    → length ys ≡ length xs
all-long R [] [] are = refl
all-long R [] (y ∷ ys) are = absurd are
all-long R (x ∷ xs) [] are = absurd are
all-long R (x ∷ xs) (y ∷ ys) are = ap suc (all-long R xs ys are.1)

-- one path more
paths-more : (paths : List (Bor (List ℕ))) (i : ℕ) (d : Bor (List ℕ)) → i < length paths
    → paths_of (take (i + 1) paths) ≡ paths_of (take i paths) ++ (get_or paths i d).now ∷ []
paths-more paths i d below = ap paths_of (take_more paths i d below) ∙ map-append _ _ _

so_many : (paths : List (Bor (List ℕ))) (i : ℕ) → i < length paths → length (paths_of (take i paths)) ≡ i
so_many paths i below = length-map (take i paths) (λ (path : Bor (List ℕ)). path.now)
    ∙ length-take-le i paths (le_of_lt below)

-- what was read has no number from the next one on
fresh : (first : ℕ) (done : List Reading) (number : ℕ) → first + length done ≤ number
    → list_any (λ (e : FileId × SourceFile). same_file (numbered number) e.0) (sources_from first done)
    ≡ false
fresh first [] number above = refl
fresh first (readings.Unread path why ∷ done) number above = fresh (first + 1) done number (omega arith)
fresh first (readings.Refused file error ∷ done) number above =
    grind (arith, fresh (first + 1) done number (omega arith))
fresh first (readings.Read file document ∷ done) number above =
    grind (arith, fresh (first + 1) done number (omega arith))

-- the sources of one reading more stand last
sources-append : (first : ℕ) (done : List Reading) (reading : Reading)
    → sources_from first (done ++ reading ∷ [])
    ≡ sources_from first done ++ sources_from (first + length done) (reading ∷ [])
sources-append first done reading =
    ap (filter_map numbered_source) (enumerate_from-append first done (reading ∷ []))
    ∙ filter_map-append numbered_source (enumerate_from first done) (enumerate_from (first + length done)
    (reading ∷ []))

-- so they are put there under the next number
sources-more : (first : ℕ) (done : List Reading) (reading : Reading)
    → with_source (numbered (first + length done)) (source_of reading) (sources_from first done)
    ≡ sources_from first (done ++ reading ∷ [])
sources-more first done (readings.Unread path why) =
    sym (sources-append first done (readings.Unread path why) ∙ append-nil (sources_from first done))
sources-more first done (readings.Refused file error) =
    insert_entry-last same_file (sources_from first done) _ file (fresh first done _ (omega arith))
    ∙ sym (sources-append first done (readings.Refused file error))
sources-more first done (readings.Read file document) =
    insert_entry-last same_file (sources_from first done) _ file (fresh first done _ (omega arith))
    ∙ sym (sources-append first done (readings.Read file document))

module _ (held : List ℕ → List ℕ → Type 0) (may_fail : List ℕ → Type 0) (options : ParseOptions)
    (first : ℕ) where
  abbrev Fits : ℕ × List ℕ → Reading → Type 0
  Fits it reading = IsReading held may_fail options (numbered it.0) it.1 reading

  -- one file more is loaded
  pub next-file : (paths : List (Bor (List ℕ))) (i : ℕ) (d : Bor (List ℕ)) (number : ℕ) (reading : Reading)
      (old new : LoadedDocuments) → i < length paths → number ≡ first + i
      → IsReading held may_fail options (numbered number) (get_or paths i d).now reading
      → AreLoaded held may_fail options first (paths_of (take i paths)) old
      → new.documents.items ≡ old.documents.items ++ filter_map document_of (reading ∷ [])
      → new.refused.items ≡ old.refused.items ++ filter_map refusal_of (reading ∷ [])
      → new.sources ≡ with_source (numbered number) (source_of reading) old.sources
      → AreLoaded held may_fail options first (paths_of (take (i + 1) paths)) new
  next-file paths i d number reading old new below at is was documents refused sources =
      let path = (get_or paths i d).now in
      let done = was.readings in
      let so_far : length (paths_of (take i paths)) ≡ i = so_many paths i below in
      let long : length done ≡ i = all-long Fits _ done was.are
      ∙ length-enumerate_from first (paths_of (take i paths)) ∙ so_far in
      let placed : IsReading held may_fail options (numbered (first + length (paths_of (take i paths)))) path
      reading = rw (so_far, sym at) is in
      let numbers : number ≡ first + length done = rw long at in
      record {
        readings = done ++ reading ∷ [];
        are = rw (
          paths-more paths i d below,
          enumerate_from-append first (paths_of (take i paths)) (path
              ∷ []),
        ) (all-more Fits _ done _ reading was.are placed);
        documents = documents ∙ ap (λ l. l ++ filter_map document_of (reading ∷ [])) was.documents
            ∙ sym (filter_map-append document_of done (reading ∷ []));
        refused = refused ∙ ap (λ l. l ++ filter_map refusal_of (reading ∷ [])) was.refused
            ∙ sym (filter_map-append refusal_of done (reading ∷ []));
        sources = sources ∙ ap (with_source (numbered number) (source_of reading)) was.sources
            ∙ ap (λ n. with_source (numbered n) (source_of reading) (sources_from first done)) numbers
            ∙ sources-more first done reading;
      }
