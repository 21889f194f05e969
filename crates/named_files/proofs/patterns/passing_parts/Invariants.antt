use Rattle.std.proofs.Common.{◌≡◌, ◌++◌, drop, map}
use Rattle.named_files.specs.Patterns.{part_matches, texts}
use Rattle.named_files.proofs.patterns.passing_parts.Given as goal

abbrev pub invariant-loop-text : goal.invariant-loop-text
invariant-loop-text l = l.passing.items ++ map (part_matches l.part) (texts (drop l.text-index l.there))
    ≡ map (part_matches l.part) (texts l.there)
