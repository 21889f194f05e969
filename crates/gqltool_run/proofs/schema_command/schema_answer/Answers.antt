use Rattle.std.proofs.Common.{◌≡◌, ℕ, ◌==◌, true, not, List, ◌++◌, length, vec_len, sym, ap, ◌∙◌}
use Rattle.std.proofs.lemmas.List.{append-nil}
use Rattle.std.proofs.lemmas.Result.{err_from_is_err_and}
use Rattle.apollo_meaning.specs.Faults.Collisions.{Fault}
use Rattle.apollo_schema.specs.SchemaWriteOut.{write_schema}
use Rattle.gqltool_run.proofs.BuiltLemmas.{built}
use Rattle.gqltool_run.proofs.FaultLineLemmas.{no-lines, not-false}
use Rattle.bench_notation.specs.Text.{printed_definitions}
use Rattle.gqltool_run.proofs.schema_command.schema_answer.Goals as goal

pub returns-clause-means : goal.returns-clause-means
returns-clause-means c =
    let compiled = c.in_ok-compiled.compiled in
    let lines = c.in_ok-push_faults.ensures.0 in
    let len : vec_len compiled.schema_faults ≡ length c.as_slice-2.result.now =
    sym c.as_slice-2.ensures.len in
    let faults = c.as_slice-2.ensures.value in
    record {
      schema = compiled.schema;
      faults = compiled.schema_faults.items;
      means = built c.args.options c.args.input.now compiled c.in_ok-compiled.ensures.compiled;
      lines = lines;
      prints = c.in_ok-push_faults.ensures.1.0 ∙ ap (λ l. l ++ lines) (c.in_ok-text.ensures
          ∙ ap printed_definitions (c.as_slice.ensures.value ∙ c.in_ok-compiled.ensures.compiled.1.1.ast));
      tells = rw faults at c.in_ok-push_faults.ensures.1.1;
      any = ap not (c.is_empty.ensures ∙ ap (λ (n : ℕ). n == 0) len ∙ ap (λ (l : List Fault). length l == 0)
          faults);
    }

pub returns-clause-printed : goal.returns-clause-printed
returns-clause-printed c = λ none.
    let compiled = c.in_ok-compiled.compiled in
    let lines = c.in_ok-push_faults.ensures.0 in
    let len : vec_len compiled.schema_faults ≡ length c.as_slice-2.result.now =
    sym c.as_slice-2.ensures.len in
    let empty : (length c.as_slice-2.result.now == 0) ≡ true = ap (λ (n : ℕ). n == 0) (sym len)
    ∙ sym c.is_empty.ensures ∙ not-false c.is_empty.result none in (
      write_schema compiled.schema,
      c.in_ok-push_faults.ensures.1.0
          ∙ (λ i. (c.in_ok-text.ensures ∙ ap printed_definitions (c.as_slice.ensures.value
          ∙ c.in_ok-compiled.ensures.compiled.1.1.ast)) i
          ++ no-lines c.as_slice-2.result.now lines empty c.in_ok-push_faults.ensures.1.1 i) ∙ append-nil _,
    )

pub returns-in_err-text-clause-causes : goal.returns-in_err-text-clause-causes
returns-in_err-text-clause-causes c =
    let exit = err_from_is_err_and c.from_residual-in_err-text.result c.from_residual-in_err-text.ensures.1 in
    rw (exit.1, exit.2) tt

pub returns-in_err-push_faults-clause-causes : goal.returns-in_err-push_faults-clause-causes
returns-in_err-push_faults-clause-causes c =
    let exit = err_from_is_err_and c.from_residual-in_err-push_faults.result
    c.from_residual-in_err-push_faults.ensures.1 in
    rw (exit.1, exit.2) tt
