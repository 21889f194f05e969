-- What words spell lies within them, in their file.
use Rattle.std.proofs.Common.{◌≡◌, ℕ, ◌≤◌, false, List, [], ◌∷◌, ◌++◌, refl, arith}
use Rattle.graphql_nodes.specs.BuiltIn.{is_built_in}
use Rattle.graphql_nodes.specs.declared.source.FileId.{FileId}
use Rattle.graphql_grammar.specs.TextsOfWords.{StandInOrder}
use Rattle.graphql_grammar.specs.Words.{WordView, ended}
use Rattle.graphql_productions.specs.Nodes.{span_at}
use Rattle.graphql_productions.specs.Places.{LiesAt, asks_location}
use Rattle.graphql_productions.proofs.PartLaws.{Serves}

module _ (to : ℕ) where
  from_before : (from next : ℕ) (ws : List WordView) → from ≤ next → StandInOrder next to ws
      → StandInOrder from to ws
  from_before from next [] less h = tt
  from_before from next (w ∷ ws) less h = (omega (arith, less, h.0), h.1, h.2, h.3)

  split_order : (from : ℕ) (head tail : List WordView) → StandInOrder from to (head ++ tail)
      → StandInOrder from to head × StandInOrder from to tail
  split_order from [] tail h = (tt, h)
  split_order from (w ∷ ws) tail h =
      let rest = split_order w.end ws tail h.3 in
      ((h.0, h.1, h.2, rest.0), from_before from w.end tail (omega (arith, h.0, h.1)) rest.1)

  -- the last word ends behind the first, and within
  ends : (at : ℕ) (ws : List WordView) → at ≤ to → StandInOrder at to ws
      → (at ≤ ended at ws) × (ended at ws ≤ to)
  ends at [] within h = (omega arith, within)
  ends at (w ∷ ws) within h = let rest = ends w.end ws h.2 h.3 in (omega (arith, h.0, h.1, rest.0), rest.1)

-- the place of one word
word_place : (file : FileId) (from to : ℕ) (w : WordView) → StandInOrder from to (w ∷ [])
    → LiesAt file from to (span_at file (w.start, w.end))
word_place file from to w h = (refl, h.0, h.1, h.2)

pub placed : (file : FileId) (from to : ℕ)
    → Serves (asks_location (LiesAt file from to)) file (StandInOrder from to)
placed file from to = record {
  split = split_order to from;
  node = λ w ws h. (let end = ends to w.end ws h.2 h.3 in (refl, h.0, omega (arith, h.1, end.0), end.1));
  name = λ w h named. word_place file from to w h;
  fragment_name = λ w h named. word_place file from to w h;
  enum_name = λ w h named. word_place file from to w h;
  variable = λ w h named. word_place file from to w h;
  description = λ w h text. word_place file from to w h;
  int = λ w h number. tt;
  float = λ w h number. tt;
  wanted = tt;
}

-- nothing is in the file of built-in definitions where the words aren't
pub elsewhere : (file : FileId) → is_built_in (span_at file (0, 0)) ≡ false
    → Serves (asks_location (λ at. is_built_in at ≡ false)) file (λ words. Unit {0})
elsewhere file other = record {
  split = λ head tail h. (tt, tt);
  node = λ w ws h. other;
  name = λ w h named. other;
  fragment_name = λ w h named. other;
  enum_name = λ w h named. other;
  variable = λ w h named. other;
  description = λ w h text. other;
  int = λ w h number. tt;
  float = λ w h number. tt;
  wanted = tt;
}
