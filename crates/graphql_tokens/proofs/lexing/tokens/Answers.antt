use Rattle.std.proofs.Common.{◌≡◌, ◌+◌, ℕ, List, drop, sym, ap, ◌∙◌, arith, Ok, Err}
use Rattle.std.proofs.lemmas.List.{drop-drop}
use Rattle.std.proofs.lemmas.Result.{err_from_is_err_and}
use Rattle.graphql_tokens.specs.Ignored.{ignored, one_ignored}
use Rattle.graphql_tokens.specs.Lexemes.{lexeme}
use Rattle.graphql_tokens.specs.Tokens.{placed, tokens_from, tokens_of}
use Rattle.graphql_tokens.specs.declared.token.Token.{Token}
use Rattle.graphql_tokens.proofs.PieceLemmas.{length-rest_at, rest-is}
use Rattle.graphql_tokens.proofs.TokenLemmas.{behind_ignored, next_token, nothing_ignored, placed_fault}
use Rattle.graphql_tokens.proofs.TokenLemmas.{put-none, put_before}
use Rattle.graphql_tokens.proofs.lexing.tokens.Goals as goal

-- at first nothing is read
pub tokens-init : goal.tokens-init
tokens-init c =
    let text = c.as_bytes-bytes.result.now in
    let at = c.ignored-at.result in
    let same = c.ignored-at.ensures.same in
    let place : 0 + ignored text ≡ at = omega arith in
    record {
      within = c.ignored-at.ensures.within;
      none = ap (λ (n : ℕ). one_ignored (drop n text)) same ∙ nothing_ignored text;
      whole = behind_ignored 0 text ∙ ap (λ (n : ℕ). tokens_from 0 n (drop (ignored text) text)) place
          ∙ ap (λ (n : ℕ). tokens_from 0 at (drop n text)) (sym same)
          ∙ sym (put-none (tokens_from 0 at (drop at text)))
          ∙ ap (λ (list : List Token). put_before list (tokens_from 0 at (drop at text)))
          (sym c.new-list.ensures);
    }

-- one token more
pub tokens-preserved : goal.tokens-preserved
tokens-preserved c =
    let text = c.as_bytes-bytes.result.now in
    let old = c.tokens.invariant in
    let token = c.in_ok-token.token in
    let stands : placed c.tokens.at (lexeme (drop c.tokens.at text)) ≡ Ok token =
    sym c.in_ok-token.ensures.same in
    let same : c.ignored.result ≡ ignored (drop token.end text) = c.ignored.ensures.same
    ∙ ap ignored (rest-is token.end text) in
    let long = length-rest_at token.end text in
    record {
      within = omega (arith, c.in_ok-token.ensures.within.1, c.ignored.ensures.within);
      none = ap (λ (n : ℕ). one_ignored (drop (token.end + n) text)) same
          ∙ ap one_ignored (sym (drop-drop (ignored (drop token.end text)) token.end text))
          ∙ nothing_ignored (drop token.end text);
      whole = next_token text c.tokens.list c.tokens.at token c.ignored.result old.whole old.none stands
          c.in_ok-token.ensures.within.0 c.in_ok-token.ensures.within.1 same
          ∙ ap (λ (list : List Token). put_before list (tokens_from 0 (token.end + c.ignored.result)
          (drop (token.end + c.ignored.result) text))) (sym c.in_ok-push.ensures.ok);
    }

-- what is wrong where no token stands
pub returns-in_err-token-clause-refused : goal.returns-in_err-token-clause-refused
returns-in_err-token-clause-refused c =
    let text = c.as_bytes-bytes.result.now in
    let old = c.tokens.invariant in
    let wrong = c.in_err-token.field-0.0 in
    let stands : placed c.tokens.at (lexeme (drop c.tokens.at text)) ≡ Err wrong =
    sym c.in_err-token.ensures.same in
    let whole : tokens_of c.args.text.now ≡ Err wrong = ap tokens_of (sym c.as_bytes-bytes.ensures.value)
    ∙ placed_fault text c.tokens.list c.tokens.at wrong old.whole old.none stands c.tokens-test.true in
    let e = err_from_is_err_and c.from_residual.result c.from_residual.ensures.1 in
    rw (e.1, e.2) whole
