use Rattle.std.proofs.Common.{◌≡◌, ◌≤◌, length, arith}
use Rattle.std.specs.Prelude.{string_bytes}
use Rattle.std.specs.List.{prefix_len}
use Rattle.graphql_tokens.specs.StringValues.{bytes_of, characters_say, escaped, is_plain}
use Rattle.graphql_tokens.specs.Strings.{character_size}
use Rattle.graphql_tokens.proofs.SaidLemmas.{run_said, said_more}
use Rattle.graphql_tokens.proofs.StringLemmas.{escape_cut, escape_said, plain_cut, plain_run}
use Rattle.graphql_tokens.proofs.values.CharactersSays.push.Goals as goal

pub push_front-requires : goal.push_front-requires
push_front-requires c = plain_cut c.args.text.now c.plain_bytes-plain.result cc

pub returns-then-plain-gt0-clause-said : goal.returns-then-plain-gt0-clause-said
returns-then-plain-gt0-clause-said c = run_said characters_say c.args.text.now _ _ _
    c.plain_bytes-plain.result _ (plain_run c.args.text.now) (cc)
    c.in_ok-push_front.ensures.added c.in_ok-push_front.ensures.behind

pub range_from-requires : goal.range_from-requires
range_from-requires c =
    let text = c.args.text.now in
    let is : c.plain_bytes-plain.result ≡ prefix_len is_plain text = cc in
    let size : c.size-size.result ≡ character_size text = cc in
    λ _. escape_cut text c.size-size.result c.utf8.text (omega (arith, is, c.if-plain-gt0.false)) size
    (omega (arith, c.if-size-eq0.false))

pub returns-clause-said : goal.returns-clause-said
returns-clause-said c =
    let text = c.args.text.now in
    let is : c.plain_bytes-plain.result ≡ prefix_len is_plain text = cc in
    let none : prefix_len is_plain text ≡ 0 = omega (arith, is, c.if-plain-gt0.false) in
    let size : c.size-size.result ≡ character_size text = cc in
    let within : c.size-size.result ≤ length text =
    omega (arith, c.size-size.ensures.within, c.as_bytes-2.ensures.len) in
    said_more characters_say text (string_bytes c.args.value.now) (string_bytes c.push_escaped.new.value)
    (bytes_of (escaped text)) c.range_from.result.now (escape_said text c.range_from.result.now
    c.size-size.result none size (omega (arith, c.if-size-eq0.false)) within c.range_from.ensures.value)
    (cc (c.in_ok-push_escaped.ensures, c.as_bytes-3.ensures.value))
