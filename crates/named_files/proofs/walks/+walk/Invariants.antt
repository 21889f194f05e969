use Rattle.std.proofs.Common.{take, ◌*◌, ◌+◌, ◌-◌}
use Rattle.program_io.specs.Entries.{named_entry}
use Rattle.named_files.specs.Wanted.{enters, takes}
use Rattle.named_files.specs.Walks.{Adds, FindsAt, FindsBelow, FindsEach}
use Rattle.named_files.proofs.walks.+walk.Given as goal

abbrev pub decreases-add_below : goal.decreases-add_below
decreases-add_below g l = 2 * l.depth

abbrev pub decreases-add_entry : goal.decreases-add_entry
decreases-add_entry g l = 2 * l.depth + 1

abbrev pub invariant-add_below-loop-entry : goal.invariant-add_below-loop-entry
invariant-add_below-loop-entry g l =
    Adds (FindsEach (λ entry. FindsAt (takes l.wanted) (enters l.wanted)
    (FindsBelow (takes l.wanted) (enters l.wanted) (g.F.Folders.lists l.folders)
    (g.F.Folders.may_hide l.folders) (l.depth - 1)) l.prefix (named_entry entry))
    (take l.entry-index l.entry-items)) l.fn.found.items l.found.items
