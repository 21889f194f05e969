use Rattle.std.proofs.Common.{◌∙◌, length}
use Rattle.std.proofs.lemmas.Map.Iter.{iter_turn}
use Rattle.std.proofs.lemmas.Result.{MatchResult-from_err}
use Rattle.std.specs.Map.Iter.{deref}
use Rattle.graphql_nodes.specs.Tables.{values_of}
use Rattle.apollo_executable.specs.Operations.{all_operations}
use Rattle.leafcheck.proofs.AroundLemmas.{operation-noted, fragment-noted}
use Rattle.leafcheck.proofs.NotingLemmas.{operation-at, fragment-at}
use Rattle.leafcheck.proofs.checking.leaf_faults.Goals as goal

pub returns-in_err-note_set-clause-memory : goal.returns-in_err-note_set-clause-memory
returns-in_err-note_set-clause-memory c =
    let s = c.args.schema.now in
    let document = c.args.document.now in
    let l = c.loop-operation in
    let operation = c.in-Some.operation in
    let turn = iter_turn deref (all_operations document.operations) l.yielded
    c.into_iter-operation-iterator.result l.operation-iterator c.next.new.self c.next.result
    (c.into_iter-operation-iterator.ensures.into_iter_gives ∙ c.iter-operation-items.ensures.rest)
    l.yielded_by operation c.in-Some.is c.next.ensures.steps in
    let some = operation-at s document (length l.yielded) operation.now turn.1
    (operation-noted s c.deref.result c.deref-in-loop-operation.result operation.now c.deref.ensures
    c.deref-in-loop-operation.ensures c.in_err-note_set.ensures.memory) in
    MatchResult-from_err c.from_residual.result _ _ c.from_residual.ensures.0 (λ _. some)

pub returns-in_err-note_set-2-clause-memory : goal.returns-in_err-note_set-2-clause-memory
returns-in_err-note_set-2-clause-memory c =
    let s = c.args.schema.now in
    let document = c.args.document.now in
    let l = c.loop-fragment in
    let fragment = c.in-Some-fragment.fragment in
    let turn = iter_turn deref (values_of document.fragments) l.yielded c.into_iter-fragment-iterator.result
    l.fragment-iterator c.next-in-loop-fragment.new.self c.next-in-loop-fragment.result
    (c.into_iter-fragment-iterator.ensures.into_iter_gives ∙ c.values-fragment-items.ensures.rest)
    l.yielded_by fragment c.in-Some-fragment.is c.next-in-loop-fragment.ensures.steps in
    let some = fragment-at s document (length l.yielded) fragment.now turn.1
    (fragment-noted s c.deref-in-loop-fragment.result c.deref-in-loop-fragment-2.result fragment.now
    c.deref-in-loop-fragment.ensures c.deref-in-loop-fragment-2.ensures
    c.in_err-note_set-2.ensures.memory) in
    MatchResult-from_err c.from_residual-in_err-note_set-2.result _ _
    c.from_residual-in_err-note_set-2.ensures.0 (λ _. some)
