use Rattle.std.proofs.Common.{◌∙◌, length}
use Rattle.std.proofs.lemmas.Map.Iter.{iter_turn}
use Rattle.std.proofs.lemmas.Result.{MatchResult-from_err}
use Rattle.std.specs.Map.Iter.{deref}
use Rattle.graphql_nodes.specs.Tables.{values_of}
use Rattle.apollo_executable.proofs.Erasing.{fragments-erased}
use Rattle.apollo_executable.proofs.document.ExecutableDocument.to_ast.Goals as goal

pub returns-in_err-push-2-clause-memory : goal.returns-in_err-push-2-clause-memory
returns-in_err-push-2-clause-memory c =
    let l = c.loop-fragment in
    let turn = iter_turn deref (values_of c.args.self.now.fragments) l.yielded _ l.fragment-iterator _ _
    (c.into_iter-fragment-iterator.ensures.into_iter_gives ∙ c.values-fragment-items.ensures.rest)
    l.yielded_by _ c.in-Some-fragment.is c.next-in-loop-fragment.ensures.steps in
    MatchResult-from_err c.from_residual-in_err-push-2.result _ _ c.from_residual-in_err-push-2.ensures.0
    (λ _. fragments-erased c.args.self.now (length l.yielded) turn.0)
