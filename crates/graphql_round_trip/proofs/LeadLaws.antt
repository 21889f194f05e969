-- Words at the front of texts, and blanks before them.
use Rattle.std.proofs.lemmas.Bool.{and_parts}
use Rattle.std.proofs.Common.{◌≡◌, ◌+◌, ℕ, suc, true, List, [], ◌∷◌, ◌++◌, drop, Some, Ok, Err, refl, sym, ap}
use Rattle.std.proofs.Common.{subst, ◌∙◌, append_assoc, arith}
use Rattle.std.specs.List.{list_all}
use Rattle.graphql_tokens.specs.Bytes.{is_blank}
use Rattle.graphql_tokens.specs.First.{First, first_behind, first_of, read_behind}
use Rattle.graphql_tokens.specs.Ignored.{ignored, one_ignored}
use Rattle.graphql_tokens.specs.Lexemes.{Reading}
use Rattle.graphql_grammar.specs.Words.{WordView}
use Rattle.graphql_round_trip.specs.Printed.{Leads}

-- one blank more is passed
pub one_blank : (c : ℕ) (cs : List ℕ) → is_blank c ≡ true → ignored (c ∷ cs) ≡ suc (ignored cs)
one_blank c cs blank =
    let one : one_ignored (c ∷ cs) ≡ 1 = rw blank refl in
    let next : ignored cs + 1 ≡ suc (ignored cs) = omega arith in
    rw one next

-- the same token with another number of bytes before it
abbrev passing : ℕ → First → First
passing n f = record f { passed = n }

read_past : (n m : ℕ) (text : List ℕ) (r : Reading) (f : First) → read_behind n text r ≡ Ok (Some f)
    → read_behind m text r ≡ Ok (Some (passing m f))
read_past n m text (Ok l) f is = cc
read_past n m text (Err e) f is = absurd cc

first_past : (n m : ℕ) (text : List ℕ) (f : First) → first_behind n text ≡ Ok (Some f)
    → first_behind m text ≡ Ok (Some (passing m f))
first_past n m [] f is = absurd cc
first_past n m (c ∷ cs) f is = read_past n m (c ∷ cs) _ f is

-- the token behind a blank
behind_one : (c : ℕ) (cs : List ℕ) (f : First) → is_blank c ≡ true → first_of cs ≡ Ok (Some f)
    → first_of (c ∷ cs) ≡ Ok (Some (passing (suc (ignored cs)) f))
behind_one c cs f blank is = rw (one_blank c cs blank) (first_past _ _ (drop (ignored cs) cs) f is)

-- words that come first come first behind blanks
pub behind_blanks : (total : ℕ) (gap text : List ℕ) (words : List WordView) (rest : List ℕ)
    → list_all is_blank gap ≡ true → Leads total text words rest → Leads total (gap ++ text) words rest
behind_blanks total [] text words rest blank leads = leads
behind_blanks total (c ∷ cs) text words rest blank leads =
    let b = and_parts (is_blank c) (list_all is_blank cs) blank in
    one words (behind_blanks total cs text words rest b.1 leads)
  where
    one : (words : List WordView) → Leads total (cs ++ text) words rest
        → Leads total (c ∷ cs ++ text) words rest
    one [] h = (
      c ∷ h.0,
      rw (and_parts (is_blank c) (list_all is_blank cs) blank).0 h.1,
      ap (λ (t : List ℕ). c ∷ t) h.2,
    )
    one (w ∷ ws) h = (
      passing (suc (ignored (cs ++ text))) h.0,
      behind_one c (cs ++ text) h.0 (and_parts (is_blank c) (list_all is_blank cs) blank).0 h.1,
      h.2,
      h.3,
    )

-- words that come first, and then words that come first in what is left
pub leads_on : (total : ℕ) (text : List ℕ) (words : List WordView) (middle : List ℕ) (more : List WordView)
    (rest : List ℕ) → Leads total text words middle → Leads total middle more rest
    → Leads total text (words ++ more) rest
leads_on total text [] middle more rest h g = subst (λ (t : List ℕ). Leads total t more rest) (sym h.2)
    (behind_blanks total h.0 middle more rest h.1 g)
leads_on total text (w ∷ ws) middle more rest h g =
    (h.0, h.1, h.2, leads_on total h.0.rest ws middle more rest h.3 g)

-- what is left may begin behind its blanks
pub passed_blanks : (total : ℕ) (text : List ℕ) (words : List WordView) (gap rest : List ℕ)
    → list_all is_blank gap ≡ true → Leads total text words (gap ++ rest) → Leads total text words rest
passed_blanks total text [] gap rest blank h =
    (h.0 ++ gap, all_blank h.0 h.1, h.2 ∙ sym (append_assoc h.0 gap rest))
  where
    all_blank : (front : List ℕ) → list_all is_blank front ≡ true → list_all is_blank (front ++ gap) ≡ true
    all_blank [] e = blank
    all_blank (c ∷ cs) e = let b = and_parts _ (list_all is_blank cs) e in rw b.0 (all_blank cs b.1)
passed_blanks total text (w ∷ ws) gap rest blank h =
    (h.0, h.1, h.2, passed_blanks total h.0.rest ws gap rest blank h.3)
