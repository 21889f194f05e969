use Rattle.std.proofs.Common.{◌∙◌, Err, ap, sym}
use Rattle.std.proofs.lemmas.Result.{err_from_is_err_and}
use Rattle.peglinden_c.specs.declared.files.PegFile.{PegFile}
use Rattle.peglinden_c.proofs.FileLemmas.{more_mapped, more_texts, text_of_each, texts_of_all}
use Rattle.peglinden_c.proofs.files.push_files.Goals as goal

pub loop-file-preserved : goal.loop-file-preserved
loop-file-preserved c =
    let below = c.loop-file-test.true in
    let before = c.loop-file.invariant in
    record {
      files = more_mapped (λ (file : PegFile). (file.path.now, file.text.now)) _ _ _ _ _ _ below before.files
          c.in_ok-push_file.ensures.file;
      paths = more_mapped (λ (file : PegFile). file.path.now) _ _ _ _ _ _ below before.paths
          c.in_ok-push_file.ensures.path;
      texts = more_texts _ _ _ below before.texts c.in_ok-push_file.ensures.proper;
    }

pub returns-in_err-push_file-clause-improper : goal.returns-in_err-push_file-clause-improper
returns-in_err-push_file-clause-improper c = λ improper texts.
    let same = err_from_is_err_and c.from_residual.result c.from_residual.ensures.1 in
    c.in_err-push_file.ensures.improper (sym (same.1 ∙ ap Err same.2) ∙ improper)
    (text_of_each _ _ _ c.loop-file-test.true texts)

pub returns-clause-proper : goal.returns-clause-proper
returns-clause-proper c = texts_of_all _ _ c.loop-file-test.false c.loop-file.invariant.texts
