use Rattle.std.proofs.Common.{◌≡◌, ◌≤◌, string_bytes, take}
use Rattle.peglinden_run.specs.Documents.{AreDocumentsAt, texts_of}
use Rattle.peglinden_run.proofs.DocumentLemmas.{Reported}
use Rattle.peglinden_run.proofs.documents.read_documents.Given as goal

abbrev pub invariant-loop-index : goal.invariant-loop-index
invariant-loop-index g l = record {
  documents : l.refused ≡ 0 → AreDocumentsAt (g.F.Files.holds l.files) 1 (texts_of (take l.index l.paths))
      l.documents.items;
  reported : Reported l.form (g.F.Files.holds l.files) (g.F.Files.may_fail l.files) l.paths l.index
      (string_bytes l.reports) l.refused;
  few : l.refused ≤ l.index;
}
