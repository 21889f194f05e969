use Rattle.std.proofs.Common.{◌≡◌, ap, sym, ◌∙◌, true}
use Rattle.std.specs.Prelude.{nat_eq}
use Rattle.graphql_tokens.specs.Bytes.{begins}
use Rattle.graphql_tokens.proofs.CutLemmas.{cut_behind_quote}
use Rattle.graphql_tokens.proofs.values.behind_quote.Goals as goal

pub range_from-requires : goal.range_from-requires
range_from-requires c =
    let there : begins (nat_eq 34) c.args.token.now ≡ true =
    ap (begins (nat_eq 34)) (sym c.as_bytes.ensures.value) ∙ sym c.begins.ensures ∙ c.if-begins.true in
    λ _. cut_behind_quote c.args.token.now c.utf8.token there
