-- The first file of a document, as it is looked at.
use Rattle.std.proofs.Common.{◌≡◌, ◌∙◌, ℕ, List, [], ◌∷◌, Some, true, false, refl}
use Rattle.std.specs.Prelude.{nat_eq, slice_get}
use Rattle.std.specs.Cmp.Lexicographic.{pointwise}
use Rattle.graphql_nodes.specs.Sources.{Files}
use Rattle.graphql_nodes.specs.declared.source.FileId.{FileId}
use Rattle.graphql_nodes.specs.declared.source.SourceFile.{SourceFile}
use Rattle.graphql_ast.specs.declared.definition.Definition.{Definition}
use Rattle.peglinden_run.specs.Layouts.{changed_first, file_unless, kept_layout}

first-changed : (definitions : List Definition) (files : Files) (first : FileId × SourceFile)
    → Some first ≡ slice_get files 0
    → changed_first definitions files
    ≡ file_unless first.1.path first.1.text (kept_layout definitions first.1.text)
first-changed definitions [] first is = cc
first-changed definitions (file ∷ files) first is =
    let same : first ≡ file = cc in
    rw same refl

module _ (definitions : List Definition) (files : Files) (first : FileId × SourceFile)
    (is : Some first ≡ slice_get files 0) (path text layout : List ℕ) (named : path ≡ first.1.path)
    (reads : text ≡ first.1.text) (laid_out : layout ≡ kept_layout definitions first.1.text) where
  -- a file whose text differs
  pub differs : pointwise nat_eq layout text ≡ false → changed_first definitions files ≡ (path, layout) ∷ []
  differs other = first-changed definitions files first is ∙ rw (← named, ← laid_out, ← reads, other) refl

  -- and one whose text doesn't
  pub is_same : pointwise nat_eq layout text ≡ true → changed_first definitions files ≡ []
  is_same same = first-changed definitions files first is ∙ rw (← laid_out, ← reads, same) refl
