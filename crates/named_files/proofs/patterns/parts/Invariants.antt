use Rattle.std.proofs.Common.{◌≡◌, ◌++◌, drop, map}
use Rattle.std.specs.Str.{chars}
use Rattle.named_files.specs.Patterns.{texts}
use Rattle.named_files.proofs.patterns.parts.Given as goal

abbrev pub invariant-loop-text : goal.invariant-loop-text
invariant-loop-text l =
    texts l.parts.items ++ map chars (map (λ part. part.now) (drop l.text-index l.text-items))
    ≡ map chars (map (λ part. part.now) l.text-items)
