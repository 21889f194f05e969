use Rattle.std.proofs.Common.{◌≡◌, ◌≤◌, length}
use Rattle.graphql_tokens.specs.BlockStringValues.{without_blank_end}
use Rattle.graphql_tokens.specs.Texts.{texts_of}
use Rattle.graphql_tokens.proofs.lines.without_blank_end.Given as goal

abbrev pub invariant-lines : goal.invariant-lines
invariant-lines l = record {
  within : length l.rest ≤ length l.list;
  same : without_blank_end (texts_of l.rest) ≡ without_blank_end (texts_of l.list);
}

abbrev pub decreases-lines : goal.decreases-lines
decreases-lines l = length l.rest
