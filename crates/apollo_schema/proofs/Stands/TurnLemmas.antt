-- Lists that tables take definition by definition.
use Rattle.apollo_meaning.proofs.Prelude.{◌≡◌, ℕ, ◌+◌, ◌<◌, ◌≤◌, get_or, take, drop, List, [], ◌∷◌, ◌++◌}
use Rattle.apollo_meaning.proofs.Prelude.{length, sym, ap, subst, ◌∙◌, append_assoc, append-nil, take_more}
use Rattle.apollo_meaning.proofs.Prelude.{take-append-drop, flat_map, flat_map-append, Definition, ListItem}
use Rattle.apollo_meaning.proofs.Prelude.{folded}
use Rattle.apollo_meaning.proofs.Items.ItemLemmas.{length-folded-front}

-- one more of the definitions, each of which gives items
module _ (give : Definition → List ListItem) (ds : List Definition) (i : ℕ) (d : Definition)
    (lt : i < length ds) (is : d ≡ get_or ds i d) (xs : List ListItem) where
  abbrev so_far : List ListItem
  so_far = xs ++ flat_map give (take i ds)

  pub given-turn : xs ++ flat_map give (take (i + 1) ds) ≡ so_far ++ give d
  given-turn = ap (λ l. xs ++ flat_map give l) (take_more ds i d lt ∙ ap (λ e. take i ds ++ e ∷ []) (sym is))
      ∙ ap (λ l. xs ++ l) (flat_map-append give (take i ds) (d ∷ [])
      ∙ ap (λ l. flat_map give (take i ds) ++ l) (append-nil (give d)))
      ∙ sym (append_assoc xs (flat_map give (take i ds)) (give d))

  -- no more extensions are folded so far than of all
  pub folded-turn : length (folded (so_far ++ give d)) ≤ length (folded (xs ++ flat_map give ds))
  folded-turn =
      let rest = flat_map give (drop (i + 1) ds) in
      let whole : (so_far ++ give d) ++ rest ≡ xs ++ flat_map give ds =
      ap (λ l. l ++ rest) (sym given-turn) ∙ append_assoc xs (flat_map give (take (i + 1) ds)) rest
      ∙ ap (λ l. xs ++ l) (sym (flat_map-append give (take (i + 1) ds) (drop (i + 1) ds))
      ∙ ap (flat_map give) (take-append-drop (i + 1) ds)) in
      subst (λ (l : List ListItem). length (folded (so_far ++ give d)) ≤ length (folded l)) whole
      (length-folded-front (so_far ++ give d) rest)
