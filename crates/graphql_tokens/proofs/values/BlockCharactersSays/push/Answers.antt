use Rattle.std.proofs.Common.{◌≡◌, ◌≤◌, length, arith}
use Rattle.std.specs.Prelude.{string_bytes}
use Rattle.std.specs.List.{prefix_len}
use Rattle.graphql_tokens.specs.BlockStringValues.{block_characters_say, block_says, is_plain_in_block}
use Rattle.graphql_tokens.specs.Strings.{block_character_size}
use Rattle.graphql_tokens.proofs.SaidLemmas.{run_said, said_more}
use Rattle.graphql_tokens.proofs.StringLemmas.{block_character_cut, block_character_said, plain_block_cut}
use Rattle.graphql_tokens.proofs.StringLemmas.{plain_block_run}
use Rattle.graphql_tokens.proofs.values.BlockCharactersSays.push.Goals as goal

pub push_front-requires : goal.push_front-requires
push_front-requires c = plain_block_cut c.args.text.now c.plain_block_bytes-plain.result cc

pub returns-then-plain-gt0-clause-said : goal.returns-then-plain-gt0-clause-said
returns-then-plain-gt0-clause-said c = run_said block_characters_say c.args.text.now _ _ _
    c.plain_block_bytes-plain.result _ (plain_block_run c.args.text.now) (cc) c.in_ok-push_front.ensures.added
    c.in_ok-push_front.ensures.behind

pub split_at-requires : goal.split_at-requires
split_at-requires c =
    let text = c.args.text.now in
    let is : c.plain_block_bytes-plain.result ≡ prefix_len is_plain_in_block text = cc in
    let size : c.size-size.result ≡ block_character_size text = cc in
    block_character_cut text c.size-size.result c.utf8.text (omega (arith, is, c.if-plain-gt0.false)) size
    (omega (arith, c.if-size-eq0.false))

pub returns-clause-said : goal.returns-clause-said
returns-clause-said c =
    let text = c.args.text.now in
    let size : c.size-size.result ≡ block_character_size text = cc in
    let within : c.size-size.result ≤ length text =
    omega (arith, c.size-size.ensures.within, c.as_bytes-2.ensures.len) in
    said_more block_characters_say text (string_bytes c.args.value.now)
    (string_bytes c.push_block_character.new.value) (block_says c.split_at.result.0.now)
    c.split_at.result.1.now (block_character_said text c.split_at.result.0.now c.split_at.result.1.now
    c.size-size.result size (omega (arith, c.if-size-eq0.false)) within c.split_at.ensures.front
    c.split_at.ensures.back) c.in_ok-push_block_character.ensures
