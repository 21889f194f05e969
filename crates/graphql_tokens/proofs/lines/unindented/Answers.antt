use Rattle.std.proofs.Common.{◌≤◌, arith}
use Rattle.graphql_tokens.specs.BlockStringValues.{indent}
use Rattle.graphql_tokens.proofs.LineLemmas.{indent_cut}
use Rattle.graphql_tokens.proofs.lines.unindented.Goals as goal

pub range_from-requires : goal.range_from-requires
range_from-requires c =
    let within : c.min.result ≤ indent c.args.line.now =
    omega (arith, c.min.ensures, c.indent.ensures.same) in
    λ _. indent_cut c.args.line.now c.min.result c.utf8.line within
