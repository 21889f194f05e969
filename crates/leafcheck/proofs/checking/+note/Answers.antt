use Rattle.std.proofs.Common.{◌∙◌, ap, sym, List, [], ◌∷◌, ◌++◌, map, length}
use Rattle.std.proofs.lemmas.Iterator.{YieldsList-from_slice}
use Rattle.std.proofs.lemmas.Iterator.Consumers.{YieldsList-turn}
use Rattle.std.proofs.lemmas.List.{map-append}
use Rattle.std.proofs.lemmas.Result.{MatchResult-from_err}
use Rattle.std.specs.Borrow.{Bor}
use Rattle.apollo_executable.specs.declared.selection.Selection.{Selection}
use Rattle.leafcheck.specs.Around.{path_of}
use Rattle.leafcheck.specs.LeafFaults.{leaf_faults_in}
use Rattle.leafcheck.proofs.NotingLemmas.{faults-more, faults-at}
use Rattle.leafcheck.proofs.checking.+note.Goals as goal

pub note_set-loop-selection-preserved : goal.note_set-loop-selection-preserved
note_set-loop-selection-preserved t c =
    let s = c.args.schema.now in
    let ty = c.args.set.now.ty in
    let path = path_of c.args.around.now in
    let old = c.args.faults.now in
    let given = c.loop-selection.yielded in
    let selection = c.in-Some.selection in
    let now : Bor Selection → Selection = λ s. s.now in
    faults-more s ty path old c.loop-selection.faults c.note_selection.new.faults (map now given)
    selection.now c.loop-selection.invariant c.in_ok-note_selection.ensures.noted
    ∙ ap (λ (xs : List Selection). old ++ leaf_faults_in s ty path xs)
    (sym (map-append now given (selection ∷ [])))

pub note_set-returns-in_err-note_selection-clause-memory :
    goal.note_set-returns-in_err-note_selection-clause-memory
note_set-returns-in_err-note_selection-clause-memory t c =
    let set = c.args.set.now in
    let given = c.loop-selection.yielded in
    let selection = c.in-Some.selection in
    let turn = YieldsList-turn (YieldsList-from_slice set.selections
    c.into_iter-selection-iterator.ensures.into_iter_gives.0) given _ c.loop-selection.yielded_by _ _
    selection c.in-Some.is c.next.ensures.steps in
    let some = faults-at c.args.schema.now set.ty (path_of c.args.around.now) set.selections (length given)
    selection.now turn c.in_err-note_selection.ensures.memory in
    MatchResult-from_err c.from_residual.result _ _ c.from_residual.ensures.0 (λ _. some)
