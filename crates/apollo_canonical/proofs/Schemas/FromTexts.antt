-- The text of a schema of texts is read as definitions that build the schema again.
use Rattle.apollo_canonical.proofs.Prelude.{Added, AllByRecursion, BuildAgain, Definition, IsBuiltOfTexts}
use Rattle.apollo_canonical.proofs.Prelude.{IsMeantByList, IsReadingOf, IsWellFormed, List, Reading, Reads}
use Rattle.apollo_canonical.proofs.Prelude.{Schema, TextLaws, [], added, added_texts, ap, bare_definition}
use Rattle.apollo_canonical.proofs.Prelude.{document_parts, false, map, sym, true, with_built_ins, words_of}
use Rattle.apollo_canonical.proofs.Prelude.{write_schema, written_again, ◌∙◌, ◌≡◌, ◌≢◌}
use Rattle.apollo_canonical.proofs.Schemas.Alike.{IsUnmarked, equal, faultless, written}
use Rattle.apollo_canonical.proofs.Schemas.Read.{all-unmarked, handed_in, well_formed, within}
use Rattle.apollo_canonical.proofs.Schemas.ReadAgain as again
use Rattle.apollo_canonical.proofs.Schemas.Unmarked.{unmarked-written}

module _ (laws : TextLaws) (schema : Schema) (built : IsBuiltOfTexts schema) (some : write_schema schema
    ≢ []) (r : Reading) (is : IsReadingOf schema r) where
  abbrev ds : List Definition
  ds = write_schema schema

  abbrev more : List Added
  more = added_texts built.texts

  meant : IsMeantByList schema
  meant = record {
    start = built.start;
    adopts = built.adopts;
    more = more;
    within = within laws.nowhere laws.reading.formed built.texts built.read;
    means = built.means;
  }

  well : IsWellFormed (document_parts ds)
  well = laws.joined ds some (laws.written_well built.start built.adopts more schema built.means
      (well_formed laws.nowhere laws.reading.formed built.texts built.read))

  pub reads : r.file.0 ≢ 0 → (definitions : List Definition) × Reads r definitions
  reads = again.reads laws.reading ds well r is

  -- whatever it is read as differs in locations alone, and builds the schema again
  module _ (definitions : List Definition) (read : Reads r definitions) where
    alike : map bare_definition ds ≡ map bare_definition definitions
    alike = sym (again.alike laws.reading ds well r is definitions read)

    ours : AllByRecursion IsUnmarked ds
    ours = unmarked-written laws.by_kind laws.all_folded built.start built.adopts more schema
        (handed_in laws.nowhere laws.reading.formed built.texts built.read) built.means

    theirs : AllByRecursion IsUnmarked definitions
    theirs = all-unmarked definitions (laws.nowhere r.file r.depth (words_of r.allowed r.text) definitions
        read.handed_in read.spelled)

    abbrev again_list : List Added
    again_list = with_built_ins (added false definitions)

    pub builds : BuildAgain schema definitions
    builds = record {
      faultless = faultless ds definitions ours theirs alike (laws.none schema meant false);
      means = λ start. laws.some_schema start true again_list;
      equal = λ start other means.
          let first = laws.some_schema start true (written_again false schema) in
          sym (laws.equal_lists true (written_again false schema) again_list
          (equal ds definitions ours theirs alike) start start first.0 other first.1 means)
          ∙ laws.same schema first.0 meant false start first.1;
      text = λ start other means.
          let first = laws.some_schema start true (written_again false schema) in
          laws.one_text (write_schema other) ds
          (sym (written ds definitions ours theirs alike start first.0 other first.1 means)
          ∙ ap (map bare_definition) (laws.same_written schema first.0 meant false start first.1));
    }
