-- Iterators that are seen as the list of what is left.
use Rattle.std.proofs.Common.{length, ap}
use Rattle.std.proofs.iter.runs.Sources.{from_front}
use Rattle.std.specs.Map.Iter.{TakesFirst, ShowsInOrder}

-- each run of `next` shows what was left, in order
pub shows_in_order : {A X : Type 0} (shows : A → X) → ShowsInOrder shows
shows_in_order shows = from_front (TakesFirst shows) shows (λ s. s) (λ s t h. ap length h.0) (λ s x t h. h)
