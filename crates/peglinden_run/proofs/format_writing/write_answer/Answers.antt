use Rattle.std.proofs.Common.{◌∙◌, ap, sym}
use Rattle.std.proofs.lemmas.Result.{err_from_is_err_and}
use Rattle.peglinden_run.specs.Layouts.{changed_bytes, changed_files}
use Rattle.peglinden_run.proofs.TypedLemmas.{texts-length}
use Rattle.peglinden_run.proofs.WriteLemmas.{write-cause}
use Rattle.peglinden_run.proofs.format_writing.write_answer.Goals as goal

pub returns-in_err-replace_files-clause-causes : goal.returns-in_err-replace_files-clause-causes
returns-in_err-replace_files-clause-causes g c =
    let p = err_from_is_err_and c.from_residual-in_err-replace_files.result
    c.from_residual-in_err-replace_files.ensures.1
    in
    let kept = rw c.as_slice.ensures.value at c.in_ok-refuse_comments.ensures.kept in
    rw (p.1, p.2) (write-cause _ _ c.args.drop_comments c.args.reporting.now _ _ _ _ _ _ _
    c.in_ok-documents.documents.items c.form_of-form.ensures (sym (texts-length c.args.paths.now))
    (ap changed_bytes c.as_slice-4.ensures.value ∙ c.in_ok-changed.ensures
    ∙ ap changed_files c.as_slice-2.ensures.value) c.in_ok-documents.ensures.documents kept
    c.in_err-replace_files.ensures.causes)
