-- What was found, or the rest has, the whole has.
use Rattle.std.proofs.Common.{◌≡◌, ◌||◌, drop, nat_eq}
use Rattle.std.specs.List.{list_any}
use Rattle.graphql_printing.proofs.descriptions.has_line_feed.Given as goal

abbrev pub invariant-loop-byte : goal.invariant-loop-byte
invariant-loop-byte l = (l.found || list_any (nat_eq 10) (drop l.byte-index l.text))
    ≡ list_any (nat_eq 10) l.text
