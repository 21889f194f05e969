use Rattle.std.proofs.Common.{◌≡◌}
use Rattle.named_files.specs.Naming.{first_ones, parts_of}
use Rattle.named_files.specs.Seen.{Tracks}
use Rattle.named_files.proofs.naming.first_ones.Given as goal

abbrev pub invariant-loop-one : goal.invariant-loop-one
invariant-loop-one l = record {
  can : (goal.iterator-loop-one).can_next l.one-iterator;
  finite : (goal.iterator-loop-one).is_finite l.one-iterator;
  first : parts_of l.named ≡ first_ones l.yielded;
  tracks : Tracks l.seen l.named.named.items;
}
