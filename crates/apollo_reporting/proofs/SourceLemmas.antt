-- An index is that of the file at its place.
use Rattle.std.proofs.Common.{◌≡◌, ℕ, List, Some, option_map, slice_get, sym, ap, ◌∙◌}
use Rattle.std.proofs.lemmas.Option.{slice_get-map}
use Rattle.graphql_nodes.specs.Sources.{Files}
use Rattle.graphql_nodes.specs.Tables.{values_of}
use Rattle.graphql_nodes.specs.declared.line_index.LineIndex.{LineIndex}
use Rattle.graphql_nodes.specs.declared.source.FileId.{FileId}
use Rattle.graphql_nodes.specs.declared.source.SourceFile.{SourceFile}
use Rattle.apollo_reporting.specs.SourceLines.{file_texts, indexed_texts}

pub indexed_at : (indexes : List LineIndex) (files : Files) (n : ℕ) (number : FileId) (file : SourceFile)
    → indexed_texts indexes ≡ file_texts files → slice_get files n ≡ Some (number, file)
    → option_map (λ (index : LineIndex). index.text.now) (slice_get indexes n) ≡ Some file.text
indexed_at indexes files n number file same there =
    sym (slice_get-map (λ (index : LineIndex). index.text.now) indexes n)
    ∙ ap (λ (texts : List (List ℕ)). slice_get texts n) same ∙ slice_get-map (λ (f : SourceFile). f.text)
    (values_of files) n ∙ ap (option_map (λ (f : SourceFile). f.text))
    (slice_get-map (λ (e : FileId × SourceFile). e.1) files n
    ∙ ap (option_map (λ (e : FileId × SourceFile). e.1)) there)
