use Rattle.std.proofs.Common.{◌≡◌, ◌-◌, ℕ, sym, ap, ◌∙◌, drop, take, arith}
use Rattle.std.specs.List.{prefix_len}
use Rattle.graphql_tokens.specs.BlockStringValues.{block_characters_say, is_plain_in_block}
use Rattle.graphql_tokens.specs.Strings.{block_character_size}
use Rattle.graphql_tokens.proofs.PieceLemmas.{rest_at, rest-is}
use Rattle.graphql_tokens.proofs.StringLemmas.{plain_block_whole}
use Rattle.graphql_tokens.proofs.values.plain_block.Goals as goal

pub returns : goal.returns
returns c =
    let text = c.args.text.now in
    let n = c.plain_block_bytes-plain.result in
    let is : n ≡ prefix_len is_plain_in_block text = cc in
    let rest : rest_at n c.as_bytes-2.result.now ≡ drop n text =
    rest-is n c.as_bytes-2.result.now ∙ ap (drop n) c.as_bytes-2.ensures.value in
    let ends : c.size.result ≡ 0 = omega arith in
    let none : block_character_size (drop n text) ≡ 0 =
    ap block_character_size (sym rest) ∙ sym c.size.ensures.same ∙ ends in
    let whole : take n text ≡ block_characters_say text = plain_block_whole text n is none in
    let front : n - 0 ≡ n = omega arith in
    c.range.ensures.value ∙ ap (λ (k : ℕ). take k text) front ∙ whole
