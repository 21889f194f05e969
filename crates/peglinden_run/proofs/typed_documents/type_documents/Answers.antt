use Rattle.std.proofs.Common.{◌++◌, sym, ap, ◌∙◌}
use Rattle.graphql_nodes.specs.Sources.{merged}
use Rattle.peglinden_run.specs.Documents.{texts_of}
use Rattle.peglinden_run.proofs.TypedLemmas.{both-read, first-fits, texts-length, typed-of}
use Rattle.peglinden_run.proofs.typed_documents.type_documents.Goals as goal

pub split_at-requires : goal.split_at-requires
split_at-requires g c =
    let held = g.F.Files.holds c.args.files.now in
    let first = c.args.schema_paths.now in
    let second = c.args.document_paths.now in
    let whole = c.as_slice.ensures.value ∙ c.in_ok-extend_from_slice-2.ensures.items ∙ ap (λ l. l ++ second)
    (c.in_ok-extend_from_slice.ensures.items ∙ ap (λ l. l ++ first) c.new-paths.ensures.items) in
    let read = both-read held first second _ _ whole c.in_ok-documents.ensures.documents in
    rw c.as_slice-2.ensures.value (first-fits held first second _ read)

pub returns-clause-typed : goal.returns-clause-typed
returns-clause-typed g c =
    let held = g.F.Files.holds c.args.files.now in
    let first = c.args.schema_paths.now in
    let second = c.args.document_paths.now in
    let documents = c.in_ok-documents.documents.items in
    let whole = c.as_slice.ensures.value ∙ c.in_ok-extend_from_slice-2.ensures.items ∙ ap (λ l. l ++ second)
    (c.in_ok-extend_from_slice.ensures.items ∙ ap (λ l. l ++ first) c.new-paths.ensures.items) in
    let read = both-read held first second _ _ whole c.in_ok-documents.ensures.documents in
    let count = sym (texts-length first) in
    let front = rw (count, c.as_slice-2.ensures.value) at c.split_at.ensures.front in
    let back = rw (count, c.as_slice-2.ensures.value) at c.split_at.ensures.back in
    typed-of held (texts_of first) (texts_of second) documents _ _ c.none.result _
    c.none.ensures front back read c.in_ok-schema.ensures.means c.in_ok-schema.ensures.faults
    c.in_ok-document.ensures.means c.in_ok-document.ensures.faults
    (rw (c.in_ok-leaves.ensures.faults, c.as_slice-3.ensures.value) at c.in_ok-leaf_faults.ensures)
    (c.in_ok-merge_sources.ensures.merged
    ∙ (λ i. merged ((c.in_ok-sources.ensures.cases.1 (λ x y e. e) (λ x y e. e)
    ∙ c.in_ok-schema.ensures.sources) i) (c.in_ok-document.ensures.sources i))) c.in_ok-hints.ensures
