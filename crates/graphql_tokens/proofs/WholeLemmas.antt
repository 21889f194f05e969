-- The tokens of a text and what says nothing make up the text.
use Rattle.std.proofs.Common.{◌≡◌, ◌+◌, ◌-◌, ◌<◌, ◌≤◌, ℕ, zero, suc, List, [], ◌∷◌, length, take, drop, refl}
use Rattle.std.proofs.Common.{sym, ap, subst, ◌∙◌, arith, Ok, Err}
use Rattle.std.specs.Prelude.{None, Some, slice_range}
use Rattle.std.proofs.lemmas.List.{drop-drop, length-drop, length-take-le}
use Rattle.graphql_tokens.specs.First.{FirstReading, first_of}
use Rattle.graphql_tokens.specs.Ignored.{ignored}
use Rattle.graphql_tokens.specs.Tokens.{Tokens, put_first, tokens_from, tokens_of}
use Rattle.graphql_tokens.specs.WholeTexts.{ComesNext, IsMadeOf, SaysNothing}
use Rattle.graphql_tokens.specs.declared.token.Token.{Token}
use Rattle.graphql_tokens.proofs.AloneLemmas.{ignored_alone}
use Rattle.graphql_tokens.proofs.FirstLemmas.{by_first, ignored_within, nothing_left, parts, token_there}
use Rattle.graphql_tokens.proofs.FirstLemmas.{tokens_by}

-- so many bytes from a place on
from_place : (text : List ℕ) (at n to : ℕ) → to ≡ at + n → slice_range text at to ≡ take n (drop at text)
from_place text at n to is = let size : to - at ≡ n = omega arith in rw size

-- what is ignored from a place on says nothing
nothing_there : (text : List ℕ) (at to : ℕ) → to ≡ at + ignored (drop at text) → SaysNothing text at to
nothing_there text at to is =
    let rest = drop at text in
    let slice = from_place text at (ignored rest) to is in
    ap ignored slice ∙ ignored_alone rest ∙ sym (length-take-le (ignored rest) rest (ignored_within rest))
    ∙ sym (ap length slice)

-- a token that is put in front comes first
pub record PutFirst (t : Token) (more : Tokens) (list : List Token) : Type 0 where
  pub rest : List Token
  pub is : list ≡ t ∷ rest
  pub behind : more ≡ Ok rest

put_first_ok : (t : Token) (more : Tokens) (list : List Token) → put_first t more ≡ Ok list
    → PutFirst t more list
put_first_ok t (Ok rest) list is = record { rest = rest; is = cc is; behind = refl }
put_first_ok t (Err e) list is = absurd cc

made_from : (fuel : ℕ) (text : List ℕ) (at : ℕ) (list : List Token) → length text - at < fuel
    → at ≤ length text → tokens_from 0 at (drop at text) ≡ Ok list → IsMadeOf text at list
made_from zero text at list enough within is = absurd (omega arith)
made_from (suc fuel) text at list enough within is =
    by (first_of (drop at text)) refl (sym (by_first at (drop at text)) ∙ is) (made_from fuel text)
  where
    by : (r : FirstReading) → first_of (drop at text) ≡ r → tokens_by at r ≡ Ok list
        → ((at : ℕ) (list : List Token) → length text - at < fuel → at ≤ length text
        → tokens_from 0 at (drop at text) ≡ Ok list → IsMadeOf text at list) → IsMadeOf text at list
    by (Ok None) read is further =
        let none : [] ≡ list = cc is in
        let long = length-drop at text in
        let all = nothing_left (drop at text) read in
        subst (IsMadeOf text at) none (nothing_there text at (length text) (omega arith))
    by (Ok (Some f)) read is further =
        let part = parts (drop at text) f read in
        let put = put_first_ok (token_there at f) (tokens_from 0 (at + f.passed + length f.text) f.rest) list
        is in
        let long = length-drop at text in
        let end : ℕ = at + f.passed + length f.text in
        let ends : end ≤ length text = omega (arith, part.whole) in
        let behind : f.rest ≡ drop end text = part.behind ∙ drop-drop (f.passed + length f.text) at text
        ∙ ap (λ (n : ℕ). drop n text) (omega arith) in
        let next : ComesNext text at (token_there at f) = record {
          in_order = omega arith;
          some = omega (arith, part.some);
          within = ends;
          nothing = nothing_there text at (at + f.passed) (ap (λ (n : ℕ). at + n) part.passed);
        } in
        let more = further end put.rest (omega (arith, part.some)) ends
        (ap (tokens_from 0 end) (sym behind) ∙ put.behind) in
        subst (IsMadeOf text at) (sym put.is) (next, more)
    by (Err e) read is further = absurd cc

-- so the tokens of a whole text make it up
pub made_of_tokens : (text : List ℕ) (list : List Token) → tokens_of text ≡ Ok list → IsMadeOf text 0 list
made_of_tokens text list is = made_from (length text + 1) text 0 list (omega arith) (omega arith) is
