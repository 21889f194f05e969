use Rattle.std.proofs.Common.{◌≡◌, ℕ, List, take}
use Rattle.std.specs.BTreeMap.{get_by_text}
use Rattle.named_files.specs.Refused.{refusal_at}
use Rattle.named_files.proofs.with_refusals.add_refusals.Given as goal

abbrev pub invariant-loop-one : goal.invariant-loop-one
invariant-loop-one l = (path : List ℕ)
    → get_by_text l.refused path ≡ refusal_at (take l.one-index l.named) path (get_by_text l.fn.refused path)
