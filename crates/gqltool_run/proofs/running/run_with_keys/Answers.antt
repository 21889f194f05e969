use Rattle.std.proofs.Common.{inl, inr, refl, sym, ◌∙◌}
use Rattle.std.proofs.lemmas.Bool.{true≢false}
use Rattle.bench_notation.specs.Line.{texts_of}
use Rattle.gqltool_run.specs.declared.task.Task.TheVariants as tasks
use Rattle.gqltool_run.specs.Prepared.{has_fault}
use Rattle.gqltool_run.proofs.EndLemmas.{beginning_appended, no_error, nothing_written, two_ends}
use Rattle.gqltool_run.proofs.EndLemmas.{usage_refused, with_answer, with_sent_answer, without_answer}
use Rattle.gqltool_run.proofs.PreparedLemmas.{walks_answer, walks_print}
use Rattle.gqltool_run.proofs.running.run_with_keys.Goals as goal

pub returns-in-Ok-Answer : goal.returns-in-Ok-Answer
returns-in-Ok-Answer g c =
    let is = c.in-Ok-Answer.ensures in
    let ready = rw c.in-Ok-Answer.field-0-is at is.ready in
    let written = c.end_with_answer.ensures.written in
    record {
      ends = with_answer _ _ _ _ _ _ _ _ written ready.0 ready.1;
      refused = λ e. absurd (rw e at written);
      exhausted = λ e no_walk. absurd (rw e at written);
      begun = λ e. absurd (rw e at written);
      quiet = c.end_with_answer.ensures.quiet;
      usage = λ none. absurd (no_error ((is.usage none).0));
      no_coordinate = λ refused. absurd (true≢false (sym ((is.no_coordinate refused).0)));
    }

pub returns-in-Ok-Walks : goal.returns-in-Ok-Walks
returns-in-Ok-Walks g c =
    let words = texts_of c.args.words.now in
    let held = g.R.Input.holds c.args.reader.now in
    let may_fail = g.R.Input.may_fail c.args.reader.now in
    let old = g.O.Write.contents c.args.output.now in
    let new = g.O.Write.contents c.end_with_walks.new.output in
    let compiled = c.in-Ok-Walks.compiled in
    let is = c.in-Ok-Walks.ensures in
    let ready = rw c.in-Ok-Walks.field-0-is at is.ready in
    let text = c.end_with_walks.ensures.sent.0 in
    let lines = c.end_with_walks.ensures.sent.1.0 in
    let sent = c.end_with_walks.ensures.sent.1.1 in
    let means = walks_answer words held compiled text _ ready.0 ready.1 lines refl in
    record {
      ends = with_sent_answer words tasks.Walk held may_fail old new text _
          c.end_with_walks.result sent ready.0 means (walks_print words compiled text ready.0 lines);
      refused = λ e. absurd (rw e at sent);
      exhausted = λ e no_walk. absurd (no_walk ready.0);
      begun = λ e. inr (beginning_appended words held old new text (has_fault compiled) means (rw e at sent));
      quiet = c.end_with_walks.ensures.quiet;
      usage = λ none. absurd (no_error ((is.usage none).0));
      no_coordinate = λ refused. absurd (true≢false (sym ((is.no_coordinate refused).0)));
    }

pub returns-in-Err : goal.returns-in-Err
returns-in-Err g c =
    let failure = c.in-Err.failure in
    let is = c.in-Err.ensures in
    let ended = c.end_without_answer.ensures in
    record {
      ends = rw ended (without_answer _ _ _ _ _ failure is.causes);
      refused = λ _. refl {a = c.args.output.now};
      exhausted = λ _ _. refl {a = c.args.output.now};
      begun = λ _. inl (refl {a = c.args.output.now});
      quiet = λ writes. absurd (nothing_written failure (rw ended at writes));
      usage = λ none. (ended ∙ usage_refused failure ((is.usage none).0), (is.usage none).1);
      no_coordinate = λ refused. (rw ended (two_ends failure), (is.no_coordinate refused).1);
    }
