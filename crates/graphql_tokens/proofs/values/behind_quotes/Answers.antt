use Rattle.std.proofs.Common.{◌≡◌, ap, sym, ◌∙◌, true}
use Rattle.graphql_tokens.specs.Strings.{begins_with_quotes}
use Rattle.graphql_tokens.proofs.CutLemmas.{cut_behind_quotes}
use Rattle.graphql_tokens.proofs.values.behind_quotes.Goals as goal

pub range_from-requires : goal.range_from-requires
range_from-requires c =
    let there : begins_with_quotes c.args.token.now ≡ true =
    ap begins_with_quotes (sym c.as_bytes.ensures.value) ∙ sym c.begins_with_quotes.ensures
    ∙ c.if-begins_with_quotes.true in
    λ _. cut_behind_quotes c.args.token.now c.utf8.token there
