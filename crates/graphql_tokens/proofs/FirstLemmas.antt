-- The token that comes first in a text, and the tokens of the text.
use Rattle.std.proofs.Common.{◌≡◌, ◌+◌, ◌-◌, ◌<◌, ◌≤◌, ℕ, List, [], ◌∷◌, length, get_or, take, drop, refl}
use Rattle.std.proofs.Common.{sym, ap, subst, ◌∙◌, arith, Ok, Err}
use Rattle.std.specs.Prelude.{None, Some}
use Rattle.std.specs.Str.{IsCharBoundary, IsUtf8}
use Rattle.std.proofs.lemmas.List.{drop-drop, get_or-drop, get_or_default, length-drop, length-take-le}
use Rattle.std.proofs.lemmas.Str.{IsCharBoundary-after_ascii, IsCharBoundary-before_ascii}
use Rattle.graphql_tokens.specs.First.{First, FirstReading, first_behind, first_of, read_behind}
use Rattle.graphql_tokens.specs.Ignored.{ignored, one_ignored}
use Rattle.graphql_tokens.specs.Lexemes.{Reading, lexeme, token}
use Rattle.graphql_tokens.specs.Tokens.{Tokens, put_first, tokens_from}
use Rattle.graphql_tokens.specs.declared.lexemes.Lexeme.{Lexeme}
use Rattle.graphql_tokens.specs.declared.token.Token.{Token}
use Rattle.graphql_tokens.proofs.EndLemmas.{ends_within, inside, lexeme_ascii}
use Rattle.graphql_tokens.proofs.PieceLemmas.{pieces_within, rest-is, rest_at}
use Rattle.graphql_tokens.proofs.TokenLemmas.{a_fault, a_token, behind_ignored, nothing_ignored}

-- what is read from a slice of a text is read there
pub read_there : (bytes text : List ℕ) (at : ℕ) (r : Reading) → bytes ≡ text → r ≡ lexeme (rest_at at bytes)
    → lexeme (drop at text) ≡ r
read_there bytes text at r same read = ap (λ (b : List ℕ). lexeme (drop at b)) (sym same)
    ∙ sym (ap lexeme (rest-is at bytes)) ∙ sym read

ascii_at : (text : List ℕ) (at i : ℕ) → get_or (drop at text) i 255 < 128 → get_or text (at + i) 255 < 128
ascii_at text at i ascii = rw get_or-drop at ascii

ascii_there : (text : List ℕ) (i : ℕ) → get_or text i 255 < 128 → get_or text i 0 < 128
ascii_there text i ascii = rw (← get_or_default text i 255 0 (inside text i ascii)) ascii

-- a text may be cut before and behind a token
pub starts_at_boundary : (text : List ℕ) (at : ℕ) (l : Lexeme) → lexeme (drop at text) ≡ Ok l
    → IsCharBoundary text at
starts_at_boundary text at l read =
    let place : at + 0 ≡ at = omega arith in
    let ascii = subst (λ (i : ℕ). get_or text i 255 < 128) place
    (ascii_at text at 0 (lexeme_ascii (drop at text) l read).first) in
    IsCharBoundary-before_ascii text at (inside text at ascii) (ascii_there text at ascii)

pub ends_at_boundary : (text : List ℕ) (at : ℕ) (l : Lexeme) → IsUtf8 text → lexeme (drop at text) ≡ Ok l
    → IsCharBoundary text (at + l.size)
ends_at_boundary text at l utf8 read =
    let ends = (lexeme_ascii (drop at text) l read).last in
    let ascii = ascii_at text at (l.size - 1) ends.ascii in
    let place : at + (l.size - 1) + 1 ≡ at + l.size = omega (arith, ends.some) in
    subst (IsCharBoundary text) place (IsCharBoundary-after_ascii text (at + (l.size - 1)) utf8
    (inside text (at + (l.size - 1)) ascii) (ascii_there text (at + (l.size - 1)) ascii))

-- where there are bytes, something is read of them
something : (passed : ℕ) (xs : List ℕ) → 0 < length xs
    → first_behind passed xs ≡ read_behind passed xs (lexeme xs)
something passed [] some = absurd (omega (arith, some))
something passed (c ∷ cs) some = refl

-- what is read behind what says nothing
pub first_read : (text : List ℕ) (at : ℕ) → at ≡ ignored text → at < length text
    → first_of text ≡ read_behind at (drop at text) (lexeme (drop at text))
first_read text at is some = ap (λ (n : ℕ). first_behind n (drop n text)) (sym is)
    ∙ something at (drop at text) (let long = length-drop at text in omega (arith, some))

-- so it is the token that stands there
pub first_found : (text : List ℕ) (at : ℕ) (l : Lexeme) (token rest : List ℕ) → at ≡ ignored text
    → at < length text → lexeme (drop at text) ≡ Ok l → token ≡ take l.size (drop at text)
    → rest ≡ drop (at + l.size) text
    → ◌≡◌ {A = FirstReading} (Ok (Some (record { passed = at; kind = l.kind; text = token; rest = rest })))
    (first_of text)
first_found text at l token rest is some read same behind =
    let past : drop (at + l.size) text ≡ drop l.size (drop at text) = sym (drop-drop l.size at text) in
    let found : (a b : List ℕ) → FirstReading =
    λ a b. Ok (Some (record { passed = at; kind = l.kind; text = a; rest = b })) in
    ap (λ (a : List ℕ). found a rest) same ∙ ap (found (take l.size (drop at text))) (behind ∙ past)
    ∙ sym (first_read text at is some ∙ ap (read_behind at (drop at text)) read)

pub ignored_within : (text : List ℕ) → ignored text ≤ length text
ignored_within text = pieces_within one_ignored 0 text

-- a token at its place in the text that has it, where the text before it begins at this place
abbrev pub token_there : ℕ → First → Token
token_there at f = record { kind = f.kind; start = at + f.passed; end = at + f.passed + length f.text }

-- the tokens of a text whose first byte stands at this place, by what comes first in it
abbrev pub tokens_by : ℕ → FirstReading → Tokens
tokens_by at (Ok None) = Ok []
tokens_by at (Ok (Some f)) = put_first (token_there at f) (tokens_from 0 (at + f.passed + length f.text)
    f.rest)
tokens_by at (Err e) = Err (record { kind = e.kind; at = at + e.at })

step : (at passed : ℕ) (xs : List ℕ) → one_ignored xs ≡ 0
    → tokens_from 0 (at + passed) xs ≡ tokens_by at (first_behind passed xs)
step at passed [] none = refl
step at passed (c ∷ cs) none = by (lexeme (c ∷ cs)) refl
  where
    by : (r : Reading) → lexeme (c ∷ cs) ≡ r
        → tokens_from 0 (at + passed) (c ∷ cs) ≡ tokens_by at (read_behind passed (c ∷ cs) r)
    by (Ok l) read =
        let ends = (lexeme_ascii (c ∷ cs) l read).last in
        let within = ends_within (c ∷ cs) l.size ends in
        a_token (at + passed) (c ∷ cs) l none read ends.some within
        ∙ ap (λ (n : ℕ). put_first (record { kind = l.kind; start = at + passed; end = at + passed + n })
        (tokens_from 0 (at + passed + n) (drop l.size (c ∷ cs))))
        (sym (length-take-le l.size (c ∷ cs) within))
    by (Err e) read =
        let place : at + passed + e.at ≡ at + (passed + e.at) = omega arith in
        a_fault (at + passed) (c ∷ cs) e none read (omega arith)
        ∙ ap (λ (n : ℕ). Err (record { kind = e.kind; at = n })) place

-- the tokens of a text are the one that comes first, and those of what stands behind it
pub by_first : (at : ℕ) (text : List ℕ) → tokens_from 0 at text ≡ tokens_by at (first_of text)
by_first at text = behind_ignored at text ∙ step at (ignored text) (drop (ignored text) text)
    (nothing_ignored text)

-- a token that comes first, what stands before it and what stands behind it are the text
pub record Parts (text : List ℕ) (f : First) : Type 0 where
  pub passed : f.passed ≡ ignored text
  pub some : 0 < length f.text
  pub read : lexeme (drop f.passed text) ≡ token f.kind (length f.text)
  pub bytes : f.text ≡ take (length f.text) (drop f.passed text)
  pub behind : f.rest ≡ drop (f.passed + length f.text) text
  pub whole : f.passed + length f.text + length f.rest ≡ length text

pub parts : (text : List ℕ) (f : First) → first_of text ≡ Ok (Some f) → Parts text f
parts text f is = by (drop (ignored text) text) refl is (length-drop (ignored text) text)
    (ignored_within text)
  where
    by : (xs : List ℕ) → drop (ignored text) text ≡ xs → first_behind (ignored text) xs ≡ Ok (Some f)
        → length xs ≡ length text - ignored text → ignored text ≤ length text → Parts text f
    by [] here is long within = absurd cc
    by (c ∷ cs) here is long within = read (lexeme (c ∷ cs)) refl is
      where
        read : (r : Reading) → lexeme (c ∷ cs) ≡ r → read_behind (ignored text) (c ∷ cs) r ≡ Ok (Some f)
            → Parts text f
        read (Ok l) stands is =
            let ends = (lexeme_ascii (c ∷ cs) l stands).last in
            let fits = ends_within (c ∷ cs) l.size ends in
            let some = ends.some in
            let front = length-take-le l.size (c ∷ cs) fits in
            let back = length-drop l.size (c ∷ cs) in
            let made : First = record {
              passed = ignored text;
              kind = l.kind;
              text = take l.size (c ∷ cs);
              rest = drop l.size (c ∷ cs);
            } in
            let same : made ≡ f = cc is in
            let lengths : Parts text made = record {
              passed = refl;
              some = omega (arith, some);
              read = ap lexeme here ∙ stands ∙ ap (token l.kind) (sym front);
              bytes = ap (λ (n : ℕ). take n (c ∷ cs)) (sym front)
                  ∙ ap (take (length (take l.size (c ∷ cs)))) (sym here);
              behind = ap (drop l.size) (sym here) ∙ drop-drop l.size (ignored text) text
                  ∙ ap (λ (n : ℕ). drop (ignored text + n) text) (sym front);
              whole = omega arith;
            } in
            subst (Parts text) same lengths
        read (Err e) stands is = absurd cc

-- what stands behind it is shorter than the text
pub shorter : (text : List ℕ) (f : First) → first_of text ≡ Ok (Some f) → length f.rest < length text
shorter text f is = omega (arith, (parts text f is).some, (parts text f is).whole)

-- where none comes, all says nothing
pub nothing_left : (text : List ℕ) → first_of text ≡ Ok None → ignored text ≡ length text
nothing_left text none = by (drop (ignored text) text) none (length-drop (ignored text) text)
    (ignored_within text)
  where
    by : (xs : List ℕ) → first_behind (ignored text) xs ≡ Ok None → length xs ≡ length text - ignored text
        → ignored text ≤ length text → ignored text ≡ length text
    by [] is long within = omega arith
    by (c ∷ cs) is long within = read (lexeme (c ∷ cs)) is
      where
        read : (r : Reading) → read_behind (ignored text) (c ∷ cs) r ≡ Ok None → ignored text ≡ length text
        read (Ok l) is = absurd cc
        read (Err e) is = absurd cc
