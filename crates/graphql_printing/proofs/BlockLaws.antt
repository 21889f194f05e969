-- Block strings of descriptions are read back: GraphQL specification of October 2021, section 2.9.4.
use Rattle.std.proofs.Common.{◌≡◌, ◌+◌, ℕ, true, false, List, [], ◌∷◌, ◌++◌, Ok, Some, length, drop, refl}
use Rattle.std.proofs.Common.{sym, ap, ◌∙◌, arith, append_assoc, length-append}
use Rattle.std.specs.Prelude.{not}
use Rattle.std.proofs.lemmas.Bool.{and_parts, not-true}
use Rattle.std.proofs.lemmas.List.{drop_at, take_at}
use Rattle.graphql_tokens.specs.First.{first_of, read_behind}
use Rattle.graphql_tokens.specs.Lexemes.{block_string_token, lexeme}
use Rattle.graphql_tokens.specs.BlockStringValues.{block_string_value}
use Rattle.graphql_tokens.specs.Strings.{block_characters}
use Rattle.graphql_tokens.specs.declared.token.TokenKind.TheVariants as k
use Rattle.graphql_printing.specs.Descriptions.{block, has_unprintable, is_block, reads_back, with_marks}
use Rattle.graphql_printing.proofs.BlockBody.{block_is, body, body_spelled}
use Rattle.graphql_printing.proofs.BlockValue.{block_says}
use lib.Pointwise.{bytes_decides}

printable : (text : List ℕ) → is_block text ≡ true → has_unprintable text ≡ false
printable text h = not-true _ (and_parts _ _ h).1

-- characters with quotes behind them
token_of_characters : (characters rest : List ℕ)
    → block_characters (characters ++ 34 ∷ 34 ∷ 34 ∷ rest) ≡ length characters
    → block_string_token (characters ++ 34 ∷ 34 ∷ 34 ∷ rest)
    ≡ Ok (record { kind = k.BlockString; size = length characters + 6 })
token_of_characters characters rest counts = rw (counts, drop_at characters _ _ refl) refl

-- a block string is one token, whatever stands behind it
pub block_is_a_token : (indent : ℕ) (text rest : List ℕ) → is_block text ≡ true
    → lexeme (block indent text ++ rest)
    ≡ Ok (record { kind = k.BlockString; size = length (block indent text) })
block_is_a_token indent text rest h =
    let characters = with_marks 0 (body indent text) in
    let counts = (body_spelled indent text rest (printable text h)).counts in
    let size : length characters + 6 ≡ length (block indent text) =
    let long = ap (λ (t : List ℕ). length t) (block_is indent text) in
    let parts = length-append characters (34 ∷ 34 ∷ 34 ∷ []) in omega (arith, long, parts) in
    ap (λ (t : List ℕ). lexeme (t ++ rest)) (block_is indent text)
    ∙ ap block_string_token (append_assoc characters (34 ∷ 34 ∷ 34 ∷ []) rest)
    ∙ token_of_characters characters rest (omega (arith, counts))
    ∙ ap (λ (n : ℕ). Ok (record { kind = k.BlockString; size = n })) size

-- it stands first
pub first_is_block : (indent : ℕ) (text rest : List ℕ) → is_block text ≡ true
    → first_of (block indent text ++ rest)
    ≡ Ok (Some (record { passed = 0; kind = k.BlockString; text = block indent text; rest = rest }))
first_is_block indent text rest h =
    let token = block indent text in
    ap (λ (t : List ℕ). first_of (t ++ rest)) (block_is indent text)
    ∙ ap (λ (t : List ℕ). read_behind 0 (t ++ rest) (lexeme (t ++ rest))) (sym (block_is indent text))
    ∙ ap (read_behind 0 (token ++ rest)) (block_is_a_token indent text rest h) ∙ ap (λ (t : List ℕ). Ok
    (Some (record {
      passed = 0;
      kind = k.BlockString;
      text = t;
      rest = drop (length token) (token ++ rest);
    }))) (take_at token rest (length token) refl)
    ∙ ap (λ (t : List ℕ). Ok (Some (record { passed = 0; kind = k.BlockString; text = token; rest = t })))
    (drop_at token rest (length token) refl)

-- and says the text, however far in it stands
pub block_says_the_text : (indent : ℕ) (text : List ℕ) → is_block text ≡ true
    → block_string_value (block indent text) ≡ text
unfolding reads_back
block_says_the_text indent text h =
    let plain = printable text h in
    block_says indent text plain ∙ sym (block_says 0 text plain)
    ∙ (bytes_decides (block_string_value (block 0 text)) text).0 (and_parts (reads_back text)
    (not (has_unprintable text)) h).0
