-- The parts stand round the first mark.
use Rattle.std.proofs.Common.{◌≡◌, ◌<◌, ℕ, List, Option, None, Some, Bor, MatchOption, length, nat_eq}
use Rattle.std.specs.List.{position_or_len, before_first, after_first}
use Rattle.apollo_coordinate.specs.Refusals.{Lacks, IsCut}
use Rattle.apollo_coordinate.proofs.MarkLemmas.{lacks_all, first_cut}
use Rattle.apollo_coordinate.proofs.text_parts.cut.Goals as goal

parts : (mark : ℕ) (t : List ℕ) (r : Option (Bor (List ℕ) × Bor (List ℕ)))
    → MatchOption r (position_or_len (λ b. nat_eq b mark) t ≡ length t)
    (λ x. (x.0.now ≡ before_first (λ b. nat_eq b mark) t) × (x.1.now ≡ after_first (λ b. nat_eq b mark) t)
    × (position_or_len (λ b. nat_eq b mark) t < length t))
    → MatchOption r (Lacks mark t) (λ x. IsCut mark t x.0.now x.1.now)
parts mark t None none = lacks_all mark t none
parts mark t (Some x) some = rw (some.0, some.1) (first_cut mark t some.2)

pub returns : goal.returns
returns c = parts c.args.mark c.args.text.now c.split_once.result (c.split_once.ensures.byte c.requires
    (λ w o f. f))
