use Rattle.apollo_meaning.proofs.Prelude.{sym, ◌∙◌, arith, with_adopted, implied_schema}
use Rattle.apollo_meaning.proofs.Completion.CompletionLemmas.{faults-completed}
use Rattle.apollo_folding.proofs.RefusalLemmas.{RefusedAs-through}
use Rattle.apollo_meaning.proofs.Items.ItemLemmas.{length-folded-front}
use Rattle.apollo_schema.proofs.tables.Tables.complete.Goals as goal

pub returns-in_err-adopt-clause-refused : goal.returns-in_err-adopt-clause-refused
returns-in_err-adopt-clause-refused c = RefusedAs-through c.from_residual.result c.in_err-adopt.field-0.0
    c.from_residual.ensures.1 (λ full start xs was.
    let ys = with_adopted c.args.adopts xs in
    let some = full start xs was in
    omega (arith, some, length-folded-front ys (implied_schema c.args.adopts ys)))
    c.in_err-adopt.ensures.refused

pub returns-in_err-end-clause-refused : goal.returns-in_err-end-clause-refused
returns-in_err-end-clause-refused c = RefusedAs-through c.from_residual-in_err-end.result
    c.in_err-end.field-0.0 c.from_residual-in_err-end.ensures.1 (λ full start xs was. full start (with_adopted
    c.args.adopts xs) (c.in_ok-adopt.ensures.stands start xs was)) c.in_err-end.ensures.refused

pub returns-clause-completes : goal.returns-clause-completes
returns-clause-completes c = λ start xs was.
    let ended = c.in_ok-end.ensures.ends start (with_adopted c.args.adopts xs) (c.in_ok-adopt.ensures.stands
    start xs was) in
    record {
      definition = ended.definition;
      types = ended.types;
      directives = ended.directives;
      faults = ended.faults ∙ sym (faults-completed c.args.adopts xs);
      next = ended.next;
    }
