-- What a block string has of its text, byte by byte.
use Rattle.std.proofs.Common.{◌≡◌, ℕ, ◌+◌, ◌<◌, ◌≤◌, true, false, List, [], ◌∷◌, ◌++◌, length, get_or, take}
use Rattle.std.proofs.Common.{drop, drop-drop, nat_eq, refl, arith}
use Rattle.std.proofs.lemmas.Bool.{and_parts, eqb-true, false≢true}
use Rattle.std.proofs.lemmas.List.{drop_more}
use Rattle.graphql_tokens.specs.Strings.{begins_with_quotes}
use Rattle.graphql_printing.specs.Descriptions.{further_in, with_marks}
use Rattle.graphql_printing.specs.Layout.{line_end}
use Rattle.graphql_printing.proofs.BlockCharacters.{other_first}

-- what is written from a place on that isn't inside of a `"""`
abbrev Rest : ℕ → List ℕ → List ℕ
Rest indent text = further_in indent (with_marks 0 text)

pub no_quotes_at : (s : List ℕ) (i : ℕ) → i < length s → nat_eq (get_or s i 0) 34 ≡ false
    → begins_with_quotes (drop i s) ≡ false
no_quotes_at s i within h = rw (drop_more s i 0 within) (other_first (get_or s i 0 ∷ drop (i + 1) s) h)

-- a line feed
feeds : (indent : ℕ) (cs : List ℕ) → Rest indent (10 ∷ cs) ≡ line_end indent ++ Rest indent cs
feeds indent cs = rw (other_first (10 ∷ cs) refl) refl

pub feed_at : (s : List ℕ) (indent i : ℕ) → i < length s → get_or s i 0 ≡ 10
    → Rest indent (drop i s) ≡ line_end indent ++ Rest indent (drop (i + 1) s)
feed_at s indent i within is = rw (drop_more s i 0 within, is) (feeds indent _)

-- three quotes
record Quoted (text : List ℕ) : Type 0 where
  rest : List ℕ
  are : text ≡ 34 ∷ 34 ∷ 34 ∷ rest

quoted : (text : List ℕ) → begins_with_quotes text ≡ true → Quoted text
quoted [] h = absurd (false≢true h)
quoted (a ∷ []) h = absurd (false≢true h)
quoted (a ∷ b ∷ []) h = absurd (false≢true h)
quoted (a ∷ b ∷ c ∷ rest) h =
    let first = and_parts _ _ h in
    let others = and_parts _ _ first.1 in
    record {
      rest = rest;
      are = rw (eqb-true a 34 first.0, eqb-true b 34 others.0, eqb-true c 34 others.1) refl;
    }

pub quotes_long : (text : List ℕ) → begins_with_quotes text ≡ true → 3 ≤ length text
quotes_long text h = let q = quoted text h in rw q.are (omega arith)

quotes_first : (indent : ℕ) (text : List ℕ) → begins_with_quotes text ≡ true
    → Rest indent text ≡ (92 ∷ []) ++ (take 3 text ++ Rest indent (drop 3 text))
quotes_first indent text h = let q = quoted text h in rw q.are refl

pub quotes_at : (s : List ℕ) (indent i : ℕ) → begins_with_quotes (drop i s) ≡ true
    → Rest indent (drop i s) ≡ (92 ∷ []) ++ (take 3 (drop i s) ++ Rest indent (drop (i + 3) s))
quotes_at s indent i h =
    let behind : drop 3 (drop i s) ≡ drop (i + 3) s = drop-drop 3 i s in
    rw (← behind) (quotes_first indent _ h)

-- any other byte
plain : (indent c : ℕ) (cs : List ℕ) → nat_eq c 10 ≡ false → begins_with_quotes (c ∷ cs) ≡ false
    → Rest indent (c ∷ cs) ≡ c ∷ Rest indent cs
plain indent c cs h is = rw is (rw h refl)

pub plain_at : (s : List ℕ) (indent i : ℕ) → i < length s → nat_eq (get_or s i 0) 10 ≡ false
    → begins_with_quotes (drop i s) ≡ false
    → Rest indent (drop i s) ≡ get_or s i 0 ∷ Rest indent (drop (i + 1) s)
plain_at s indent i within h is =
    rw (drop_more s i 0 within) (plain indent _ _ h (rw (drop_more s i 0 within) at is))
