-- A quoted string is one token, whatever stands behind it, and says its text: GraphQL specification of
-- October 2021, section 2.9.4.
use Rattle.std.proofs.Common.{◌≡◌, ◌+◌, ◌-◌, ◌<◌, ℕ, suc, Bool, true, false, List, [], ◌∷◌, ◌++◌, length}
use Rattle.std.proofs.Common.{drop, cond, refl, sym, ap, subst, ◌∙◌, arith, append_assoc, append-nil}
use Rattle.std.specs.Prelude.{nat_eq, Some, Ok}
use Rattle.std.proofs.Math.Seq.{take-append_seam, drop-append_seam}
use Rattle.std.proofs.lemmas.Bool.{ne_eqb}
use Rattle.std.proofs.lemmas.Bool.Decides.{nat_tests}
use Rattle.std.proofs.lemmas.List.{length-append}
use Rattle.graphql_tokens.specs.Bytes.{begins}
use Rattle.graphql_tokens.specs.First.{first_of}
use Rattle.graphql_tokens.specs.Ignored.{ignored}
use Rattle.graphql_tokens.specs.Lexemes.{block_string_token, lexeme, string_token, token}
use Rattle.graphql_tokens.specs.Pieces.{pieces}
use Rattle.graphql_tokens.specs.Strings.{begins_with_quotes, character_size, characters}
use Rattle.graphql_tokens.specs.StringValues.{character_says, characters_say, said, string_value}
use Rattle.graphql_tokens.specs.declared.token.TokenKind.TheVariants as k
use Rattle.graphql_tokens.proofs.FirstLemmas.{first_found}
use Rattle.graphql_printing.specs.Strings.{are_control, number_escape, quoted, quoted_byte, quoted_bytes}
use Rattle.graphql_printing.proofs.QuotedCharacters.{Spells, byte_spells, control_spells}

-- these bytes are characters of a string up to a quote behind them, and say those
record Between (bytes text : List ℕ) : Type 0 where
  size : (rest : List ℕ) → characters (bytes ++ 34 ∷ rest) ≡ length bytes
  says : (rest : List ℕ) → characters_say (bytes ++ 34 ∷ rest) ≡ text

module _ (size : List ℕ → ℕ) where
  -- what is still of the piece before is passed over
  passed : (front rest : List ℕ)
      → pieces size (length front) (front ++ rest) ≡ length front + pieces size 0 rest
  passed [] rest = omega arith
  passed (c ∷ cs) rest = let more = passed cs rest in omega (arith, more)

  -- a piece, and those behind it
  first_piece : (front rest : List ℕ) → 0 < length front → size (front ++ rest) ≡ length front
      → pieces size 0 (front ++ rest) ≡ length front + pieces size 0 rest
  first_piece [] rest some is = absurd (omega (arith, some))
  first_piece (c ∷ cs) rest some is =
      let one : suc (length cs) - 1 ≡ length cs = omega arith in
      let more = passed cs rest in
      rw (is, ne_eqb (suc (length cs)) 0 (λ e. omega (arith, e)), one) (omega (arith, more))

  module _ (says : List ℕ → List ℕ) where
    passed_over : (front rest : List ℕ)
        → said size says (length front) (front ++ rest) ≡ said size says 0 rest
    passed_over [] rest = refl
    passed_over (c ∷ cs) rest = passed_over cs rest

    -- what a character says, and those behind it
    first_said : (front rest text : List ℕ) → 0 < length front → size (front ++ rest) ≡ length front
        → says (front ++ rest) ≡ text → said size says 0 (front ++ rest) ≡ text ++ said size says 0 rest
    first_said [] rest text some is says_it = absurd (omega (arith, some))
    first_said (c ∷ cs) rest text some is says_it =
        let one : suc (length cs) - 1 ≡ length cs = omega arith in
        rw (is, ne_eqb (suc (length cs)) 0 (λ e. omega (arith, e)), one, passed_over cs rest, says_it) refl

-- a character, and then the others
one_more : {front text bytes others : List ℕ} → Spells front text → Between bytes others
    → Between (front ++ bytes) (text ++ others)
one_more {front} {text} {bytes} {others} one more = record {
  size = λ rest. ap characters (append_assoc front bytes _) ∙ first_piece character_size front _ one.some
      (one.size (bytes ++ 34 ∷ rest))
      ∙ ap (λ (n : ℕ). length front + n) (more.size rest) ∙ sym (length-append front bytes);
  says = λ rest. ap characters_say (append_assoc front bytes _)
      ∙ first_said character_size character_says front _ text one.some (one.size (bytes ++ 34 ∷ rest))
      (one.says (bytes ++ 34 ∷ rest)) ∙ ap (λ (l : List ℕ). text ++ l) (more.says rest);
}

none : Between [] []
none = record { size = λ rest. refl; says = λ rest. refl }

between : (text : List ℕ) → Between (quoted_bytes text) text
between [] = none
between (a ∷ []) = subst (λ (l : List ℕ). Between l (a ∷ [])) (append-nil _) (one_more (byte_spells a) none)
between (a ∷ b ∷ rest) = by (are_control a b) refl (between rest) (between (b ∷ rest))
  where
    by : (pair : Bool) → are_control a b ≡ pair → Between (quoted_bytes rest) rest
        → Between (quoted_bytes (b ∷ rest)) (b ∷ rest)
        → Between (cond pair (number_escape b ++ quoted_bytes rest) (quoted_byte a
        ++ quoted_bytes (b ∷ rest))) (a ∷ b ∷ rest)
    by true h more _ = one_more (control_spells a b h) more
    by false h _ more = one_more (byte_spells a) more

-- it says its text
pub quoted_says_the_text : (text : List ℕ) → string_value (quoted text) ≡ text
quoted_says_the_text text = (between text).says []

-- a quoted string, and what stands behind it
behind_quoted : (text rest : List ℕ) → quoted text ++ rest ≡ 34 ∷ quoted_bytes text ++ 34 ∷ rest
behind_quoted text rest = ap (λ (l : List ℕ). 34 ∷ l) (append_assoc _ (34 ∷ []) rest)

-- what stands between the quotes does not begin with one
no_quote : (b : ℕ) (bs text : List ℕ) → Between (b ∷ bs) text → nat_eq b 34 ≡ false
no_quote b bs text whole = grind (arith, (whole.size []))

-- it is no block string, unless it is empty and a quote stands behind it
no_block : (bytes text rest : List ℕ) → Between bytes text → (text ≡ [] → begins (nat_eq 34) rest ≡ false)
    → begins_with_quotes (34 ∷ bytes ++ 34 ∷ rest) ≡ false
no_block [] text [] whole alone = refl
no_block [] text (c ∷ cs) whole alone = let other =
    alone (sym (whole.says [])) in grind (arith, nat_tests, other)
no_block (b ∷ []) text rest whole alone = rw (no_quote b [] text whole) refl
no_block (b ∷ c ∷ cs) text rest whole alone = rw (no_quote b (c ∷ cs) text whole) refl

-- it is a token, unless it is empty and a quote stands behind it
pub quoted_is_a_token : (text rest : List ℕ) → (text ≡ [] → begins (nat_eq 34) rest ≡ false)
    → lexeme (quoted text ++ rest) ≡ token k.String (length (quoted text))
quoted_is_a_token text rest alone =
    let bytes = quoted_bytes text in
    let whole = between text in
    let closed : string_token (bytes ++ 34 ∷ rest) ≡ token k.String (length bytes + 2) =
    rw (whole.size rest, drop-append_seam bytes (34 ∷ rest)) refl in
    let long : length bytes + 2 ≡ length (quoted text) = omega (arith, length-append bytes (34 ∷ [])) in
    ap lexeme (behind_quoted text rest)
    ∙ ap (λ (b : Bool). cond b (block_string_token (drop 2 (bytes ++ 34 ∷ rest))) (string_token (bytes
    ++ 34 ∷ rest))) (no_block bytes text rest whole alone) ∙ closed ∙ ap (token k.String) long

none_ignored : (cs : List ℕ) → ignored (34 ∷ cs) ≡ 0
none_ignored [] = refl
none_ignored (a ∷ []) = refl
none_ignored (a ∷ b ∷ rest) = refl

-- it comes first in a text that begins with it
pub first_is_quoted : (text rest : List ℕ) → (text ≡ [] → begins (nat_eq 34) rest ≡ false)
    → first_of (quoted text ++ rest)
    ≡ Ok (Some (record { passed = 0; kind = k.String; text = quoted text; rest = rest }))
first_is_quoted text rest alone =
    let size = length (quoted text) in
    let place : 0 + size ≡ size = omega arith in
    sym (first_found (quoted text ++ rest) 0 (record { kind = k.String; size = size }) (quoted text) rest
    (sym (none_ignored _)) (omega arith) (quoted_is_a_token text rest alone)
    (sym (take-append_seam (quoted text) rest)) (sym (ap (λ (n : ℕ). drop n (quoted text ++ rest)) place
    ∙ drop-append_seam (quoted text) rest)))
