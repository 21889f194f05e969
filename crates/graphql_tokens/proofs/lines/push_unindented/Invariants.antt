use Rattle.std.proofs.Common.{◌≡◌, ◌++◌, map}
use Rattle.graphql_tokens.specs.BlockStringValues.{lines_left, unindented}
use Rattle.graphql_tokens.specs.Texts.{bytes_left, texts_of}
use Rattle.graphql_tokens.proofs.lines.push_unindented.Given as goal

abbrev pub invariant-lines : goal.invariant-lines
invariant-lines l = texts_of l.list.items ++ map (unindented l.count) (lines_left l.left)
    ≡ texts_of l.fn.list.items ++ map (unindented l.count) (lines_left l.fn.text)

abbrev pub decreases-lines : goal.decreases-lines
decreases-lines l = bytes_left l.left
