use Rattle.std.proofs.Common.{◌∙◌, ap, refl}
use Rattle.peglinden_run.specs.declared.form.Form.{Form}
use Rattle.peglinden_run.specs.DocumentCommands.{named_files, notes_of, output_of}
use Rattle.peglinden_run.specs.Findings.{found_in}
use Rattle.peglinden_run.specs.Forms.{form_of}
use Rattle.peglinden_run.proofs.AnswerLemmas.{answer-as}
use Rattle.peglinden_run.proofs.document_commands.document_answer.Goals as goal

pub returns-clause-means : goal.returns-clause-means
returns-clause-means g c =
    let typed = c.in_ok-typed.typed in
    let typing = c.args.typing.now in
    record {
      typed = typed;
      is_typed = rw (c.as_slice-schema_paths.ensures.value, c.as_slice-document_paths.ensures.value)
          at c.in_ok-typed.ensures.typed;
      bare = c.in_ok-answer.answer;
      is = answer-as typing.reporting _ (named_files typing) (found_in typed.findings)
          (found_in typed.findings) _
          (output_of (form_of typing.reporting) c.args.shown typed) c.in_ok-answer.answer
          c.named_files-count.ensures refl (c.in_ok-output.ensures
          ∙ ap (λ (f : Form). output_of f c.args.shown typed) c.form_of-form.ensures) c.in_ok-answer.ensures;
      noted = rw (c.in_ok-notes.ensures ∙ ap (λ (f : Form). notes_of f typed) c.form_of-form.ensures)
          at c.in_ok-with_notes.ensures;
    }
