-- The text once more is what was written, and then the text.
use Rattle.std.proofs.Common.{◌≡◌, ◌+◌, ℕ, zero, suc, List, ◌++◌, sym, ap, ◌∙◌, append_assoc, add-one, rules}
use Rattle.std.specs.List.{repeat}
use Rattle.std.proofs.Output.{has_written_append, has_written_of_eq}
use Rattle.std.proofs.lemmas.List.{append-nil}
use Rattle.apollo_reporting.proofs.writing.write_times.Goals as goal

repeat-turned : (n : ℕ) (xs : List ℕ) → repeat n xs ++ xs ≡ xs ++ repeat n xs
repeat-turned zero xs = sym (append-nil xs)
repeat-turned (suc n) xs = append_assoc xs (repeat n xs) xs ∙ ap (λ r. xs ++ r) (repeat-turned n xs)

repeat-more : (n : ℕ) (xs : List ℕ) → repeat n xs ++ xs ≡ repeat (n + 1) xs
repeat-more n xs = repeat-turned n xs ∙ ap (λ (k : ℕ). repeat k xs) (sym (add-one n))

pub loop-preserved : goal.loop-preserved
loop-preserved g c = λ plain.
    let before = c.loop.invariant plain in
    has_written_of_eq _ _ _ _ _ (repeat-more c.loop.counter c.args.text.now) (has_written_append _ _ _ _ _ _
    before (c.write_str.ensures.writes before.plain (search rules)))
