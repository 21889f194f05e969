use Rattle.std.proofs.Common.{◌≡◌, ◌++◌, drop}
use Rattle.std.specs.Prelude.{string_bytes}
use Rattle.graphql_tokens.specs.BlockStringValues.{behind_feeds}
use Rattle.graphql_tokens.specs.Texts.{texts_of}
use Rattle.graphql_tokens.proofs.lines.push_lines.Given as goal

abbrev pub invariant-loop-line : goal.invariant-loop-line
invariant-loop-line l = string_bytes l.value ++ behind_feeds (texts_of (drop l.line-index l.list))
    ≡ string_bytes l.fn.value ++ behind_feeds (texts_of l.list)
