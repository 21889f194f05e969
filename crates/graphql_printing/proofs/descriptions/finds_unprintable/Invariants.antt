-- The rest has such a character where the whole has one.
use Rattle.std.proofs.Common.{◌≡◌, length}
use Rattle.graphql_printing.specs.Descriptions.{has_unprintable}
use Rattle.graphql_printing.proofs.descriptions.finds_unprintable.Given as goal

abbrev pub invariant-bytes : goal.invariant-bytes
invariant-bytes l = has_unprintable l.rest ≡ has_unprintable l.text

abbrev pub decreases-bytes : goal.decreases-bytes
decreases-bytes l = length l.rest
