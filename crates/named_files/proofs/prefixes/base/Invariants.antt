use Rattle.std.proofs.Common.{◌≡◌, ◌++◌, ◌⊎◌, ℕ, List, [], ◌∷◌, length, string_bytes}
use denote.Text.{Utf8}
use denote.Shadow.{shadow}
use Rattle.named_files.specs.Naming.{before_wild}
use Rattle.named_files.proofs.prefixes.base.Given as goal

abbrev pub invariant-loop-part : goal.invariant-loop-part
invariant-loop-part l = record {
  text : shadow (Utf8 l.rest);
  split : before_wild l.pattern ≡ string_bytes l.base ++ l.rest;
  ends : (string_bytes l.base ≡ []) ⊎ ((front : List ℕ) × (string_bytes l.base ≡ front ++ 47 ∷ []));
}

abbrev pub decreases-loop-part : goal.decreases-loop-part
decreases-loop-part l = length l.rest
