use Rattle.std.proofs.Common.{◌∙◌, ◌++◌, ap, arith, string_bytes}
use Rattle.std.proofs.lemmas.Result.{err_from_is_err_and}
use Rattle.peglinden_run.specs.Layouts.{changed_bytes}
use Rattle.peglinden_run.proofs.WriteLemmas.{all-replaced, cut-off, cut-off-then, next-done, next-left, tried-whole}
use Rattle.peglinden_run.proofs.format_writing.replace_files.Goals as goal
use Rattle.peglinden_run.proofs.format_writing.replace_files.Goals.{in-Some+in_ok-push_str, in_default}

pub returns-in_err-report-clause-causes : goal.returns-in_err-report-clause-causes
returns-in_err-report-clause-causes g c =
    let p = err_from_is_err_and c.from_residual.result c.from_residual.ensures.1 in
    let files = changed_bytes c.args.changed.now in
    let cut = cut-off c.args.form c.loop-file.file-index files _ _ _ _ c.loop-file.invariant.tried in
    rw (p.1, p.2) (cut-off-then files _ _ _ cut c.in_err-report.ensures.kept)

pub returns-in_err-push_str-clause-causes : goal.returns-in_err-push_str-clause-causes
returns-in_err-push_str-clause-causes g c =
    let p = err_from_is_err_and c.from_residual-in_err-push_str.result
    c.from_residual-in_err-push_str.ensures.1
    in
    let files = changed_bytes c.args.changed.now in
    let cut = cut-off c.args.form c.loop-file.file-index files _ _ _ _ c.loop-file.invariant.tried in
    let tried = rw c.in-Some.is at c.in_ok-report.ensures.tried in
    rw (p.1, p.2) (cut-off-then files _ _ _ cut tried.0)

pub loop-file-preserved : goal.loop-file-preserved
loop-file-preserved g c =
    let was = c.loop-file.invariant in
    elim c.match-branch-2.branch [
      | in-Some+in_ok-push_str w ↦
          record {
            tried = next-left c.args.form c.args.changed.now c.loop-file.file-index c.file-item.result
                c.loop-file-test.true c.file-item.is _ _ _ _ _ was.tried (string_bytes w.in-Some.report)
                _ _ (rw w.in-Some.is at c.in_ok-report.ensures.tried) (ap string_bytes w.said-is
                ∙ w.in_ok-push_str.ensures.bytes
                ∙ ap (λ l. string_bytes c.loop-file.said ++ l) w.as_str.ensures.value) w.left-is;
            few = let few = was.few in let is = w.left-is in omega (arith, few, is);
          }
      | in_default w ↦
          record {
            tried = rw (w.said-is, w.left-is) (next-done c.args.form c.args.changed.now c.loop-file.file-index
                c.file-item.result c.loop-file-test.true c.file-item.is _ _ _ _ _ was.tried
                (rw w.in_default.is at c.in_ok-report.ensures.tried));
            few = let few = was.few in let is = w.left-is in omega (arith, few, is);
          }
    ]

pub returns-then-left-eq0-clause-replaced : goal.returns-then-left-eq0-clause-replaced
returns-then-left-eq0-clause-replaced g c =
    let whole = tried-whole c.args.form c.args.changed.now c.loop-file.file-index _ _ _ _
    c.loop-file-test.false c.loop-file.invariant.tried
    in
    all-replaced c.args.form (changed_bytes c.args.changed.now) _ _ _ _ whole c.if-left-eq0.true

pub returns-in_err-unwritten_printed-clause-causes :
    goal.returns-in_err-unwritten_printed-clause-causes
returns-in_err-unwritten_printed-clause-causes g c =
    let p = err_from_is_err_and c.from_residual-in_err-unwritten_printed.result
    c.from_residual-in_err-unwritten_printed.ensures.1
    in
    rw (p.1, p.2) (cut-off c.args.form c.loop-file.file-index (changed_bytes c.args.changed.now) _ _ _ _
    c.loop-file.invariant.tried)
