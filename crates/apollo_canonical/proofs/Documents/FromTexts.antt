-- The text of a document of texts is read as definitions that build the document again.
use Rattle.apollo_canonical.proofs as canonical
use canonical.Prelude.{AddedText, AllByRecursion, AreEqualInOrder, AreEqualItems, Bool}
use canonical.Prelude.{BuildDocumentAgain, Definition, DocumentItem, DocumentTextLaws, ExecutableDocument}
use canonical.Prelude.{HasWellFormedExecutables, IsDocumentOf, IsDocumentOfTexts, IsFilledDocument}
use canonical.Prelude.{IsReadingOfDocument, IsWellFormed, List, None, Option, Schema, []}
use canonical.Prelude.{added_documents, ambiguous_if, ap, bare_definition, bare_faults, document_faults}
use canonical.Prelude.{document_list, document_parts, each-append, erased_definitions, flat_map, fragment_in}
use canonical.Prelude.{inl, inr, map, map-map, operation_in, option_map, subst, sym, ◌++◌, ◌∙◌, ◌∷◌}
use canonical.Prelude.{◌≡◌, ◌≢◌, ◌⊎◌}
use canonical.Schemas.WellFormedLists.{flat_map-none, map-empty}
use canonical.Documents.AlikeTypable.{said}
use canonical.Documents.PlainDocuments.{equal, in_order, written}
use canonical.Documents.KeptDefinitions.{FragmentIsWell, OperationIsWell}
use canonical.Documents.PlainListFaults.{list_faults}
use Rattle.apollo_canonical.specs.SchemaTexts.{AreRead}
use Rattle.apollo_canonical.specs.EqualDocuments.{bare_item}
use Rattle.std.proofs.lemmas.List.Elements.{filter_map-append}
use Rattle.apollo_executable.specs.declared.operation_map.OperationMap.{OperationMap}
use Rattle.apollo_document.specs.WrittenAgain.{ambiguous_again}
use Rattle.apollo_canonical.proofs.Schemas.ReadAgain as again
use Rattle.apollo_canonical.specs.SchemaTexts.{Reading, Reads}

-- two lists of well-formed operations and fragments, one after the other
joined : (xs ys : List DocumentItem) → HasWellFormedExecutables xs → HasWellFormedExecutables ys
    → HasWellFormedExecutables (xs ++ ys)
joined xs ys a b = record {
  each_operation = subst (AllByRecursion OperationIsWell) (sym (filter_map-append operation_in xs ys))
      (each-append OperationIsWell _ _ a.each_operation b.each_operation);
  each_fragment = subst (AllByRecursion FragmentIsWell) (sym (filter_map-append fragment_in xs ys))
      (each-append FragmentIsWell _ _ a.each_fragment b.each_fragment);
}

-- nothing is ambiguous where all operations have names, or none has
unambiguous : (m : OperationMap) → (m.anonymous ≡ None) ⊎ (m.named ≡ []) → ambiguous_again m ≡ []
unambiguous m (inl none) = simp (none, flat_map-none)
unambiguous m (inr none) = ap (λ es. flat_map (λ e. ambiguous_if (option_map (λ n. n.location) m.anonymous))
    es) none

module _ (laws : DocumentTextLaws) where
  -- what texts add is well-formed
  well_formed : (texts : List AddedText) → AreRead texts
      → HasWellFormedExecutables (added_documents texts)
  well_formed [] a = record { each_operation = tt; each_fragment = tt }
  well_formed (t ∷ texts) a =
      joined _ _ (laws.executables t.setting t.definitions (laws.reading.formed t.reading.file t.reading.depth
      t.reading.allowed t.reading.text t.definitions a.0.spelled)) (well_formed texts a.1)

  module _ (schema : Option Schema) (document : ExecutableDocument) (built : IsDocumentOfTexts schema
      document) (filled : IsFilledDocument document) (some : erased_definitions document ≢ []) (r : Reading)
      (is : IsReadingOfDocument document r) where
    abbrev ds : List Definition
    ds = erased_definitions document

    abbrev added : List DocumentItem
    added = added_documents built.texts

    well : IsWellFormed (document_parts ds)
    well = laws.written_well schema added document built.means (well_formed built.texts built.read) filled
        some

    pub reads : r.file.0 ≢ 0 → (definitions : List Definition) × Reads r definitions
    reads = again.reads laws.reading ds well r is

    -- whatever it is read as differs in locations alone, and builds the document again
    module _ (definitions : List Definition) (read : Reads r definitions) (errors : Bool) where
      abbrev list : List DocumentItem
      list = document_list errors definitions

      items : AreEqualItems list (document_list errors ds)
      items = simp (split definitions, again.alike laws.reading ds well r is definitions read, split ds)
        where
          split : (l : List Definition)
              → map bare_item (document_list errors l) ≡ map (λ x. (errors, x)) (map bare_definition l)
          split l = simp map-map

      same_faults : bare_faults (document_faults schema list)
          ≡ bare_faults (ambiguous_again document.operations)
      same_faults = list_faults schema list _ items
          ∙ ap bare_faults (laws.faults schema added errors document built.means)

      -- a document that they mean is equal in order
      ordered : (other : ExecutableDocument) → IsDocumentOf schema list other → AreEqualInOrder other document
      ordered other means = in_order laws.lists schema list _ items other document means
          (laws.itself schema added errors document built.means)

    pub builds : (definitions : List Definition) → Reads r definitions
        → BuildDocumentAgain schema document definitions
    builds definitions read = record {
      means = λ errors. laws.some_document schema (document_list errors definitions);
      equal = λ errors other means. equal other document (ordered definitions read errors other means);
      ordered = ordered definitions read;
      text = λ errors other means. laws.lists.one_text (erased_definitions other) ds
          (written other document (ordered definitions read errors other means));
      faults = same_faults definitions read;
      faultless = λ errors names. map-empty said _ (same_faults definitions read errors
          ∙ ap bare_faults (unambiguous document.operations names));
    }
