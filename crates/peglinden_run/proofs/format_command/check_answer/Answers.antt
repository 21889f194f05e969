use Rattle.std.proofs.Common.{◌≡◌, ◌==◌, ◌∙◌, ℕ, List, ap, length, sym}
use Rattle.std.specs.Prelude.{not}
use Rattle.std.proofs.lemmas.List.{length-map}
use Rattle.peglinden_run.specs.Findings.{at_most}
use Rattle.peglinden_run.specs.FormatCommand.{changed_text}
use Rattle.peglinden_run.specs.Layouts.{changed_bytes, changed_files}
use Rattle.peglinden_run.specs.declared.layouts.ChangedFile.{ChangedFile}
use Rattle.peglinden_run.proofs.AnswerLemmas.{at_most-map, check-shown-as}
use Rattle.peglinden_run.proofs.format_command.check_answer.Goals as goal

pub returns : goal.returns
returns c =
    let changed = changed_files c.args.documents.now in
    let items = c.in_ok-changed.changed.items in
    let all : changed_bytes items ≡ changed = c.in_ok-changed.ensures in
    let cut : c.at_most-shown.result.now ≡ at_most c.args.most items = c.at_most-shown.ensures
    ∙ ap (λ (l : List ChangedFile). at_most c.args.most l) c.as_slice-differing.ensures.value in
    let first : changed_bytes c.at_most-shown.result.now ≡ at_most c.args.most changed =
    ap changed_bytes cut ∙ at_most-map _ c.args.most items
    ∙ ap (λ (l : List (List ℕ × List ℕ)). at_most c.args.most l) all
    in
    let faults : length c.as_slice-differing.result.now ≡ length changed =
    ap length c.as_slice-differing.ensures.value ∙ sym (length-map items _) ∙ ap length all in
    let shown : length c.at_most-shown.result.now ≡ length (at_most c.args.most changed) =
    sym (length-map c.at_most-shown.result.now _) ∙ ap length first in
    record {
      shows = check-shown-as c.args.form _ _ _ _ c.in_ok-checked_printed.field-0 (λ i. record {
        faults = faults i;
        shown = shown i;
        files = c.args.files;
      }) (c.in_ok-said.ensures ∙ ap (changed_text c.args.form) first)
          c.in_ok-checked_printed.ensures;
      any = ap (λ (n : ℕ). not (n == 0)) faults;
    }
