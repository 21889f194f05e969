-- The text of well-formed definitions is read again, and what it is read as differs in locations alone.
use Rattle.apollo_canonical.proofs.Prelude.{Definition, IsReadingOfDefinitions, IsWellFormed, List, Reading}
use Rattle.apollo_canonical.proofs.Prelude.{ReadingLaws, Reads, bare_definition, document_parts, length}
use Rattle.apollo_canonical.proofs.Prelude.{map, spells_document, subst, sym, words_of, ◌≡◌, ◌≢◌, ◌≤◌}
use Rattle.graphql_round_trip.specs.ReadAgain.{SpellEqual}

module _ (laws : ReadingLaws) (ds : List Definition) (well : IsWellFormed (document_parts ds)) (r : Reading)
    (is : IsReadingOfDefinitions ds r) where
  again : SpellEqual (spells_document r.file r.depth) (map bare_definition) ds (words_of r.allowed r.text)
  again = subst (λ t. SpellEqual (spells_document r.file r.depth) (map bare_definition) ds
      (words_of r.allowed t)) (sym is.text) (laws.read_again r.file r.depth r.allowed ds well is.deep
      (subst (λ t. length t ≤ r.allowed) is.text is.long))

  pub reads : r.file.0 ≢ 0 → (definitions : List Definition) × Reads r definitions
  reads handed = (again.tree, record { handed_in = handed; spelled = again.spelled })

  pub alike : (definitions : List Definition) → Reads r definitions
      → map bare_definition definitions ≡ map bare_definition ds
  alike definitions read = simp (
    laws.one_tree r.file r.depth (words_of r.allowed r.text) definitions again.tree read.spelled
        again.spelled,
    again.equal,
  )
