use Rattle.std.proofs.Common.{◌≡◌, ◌≤◌, drop, min}
use Rattle.graphql_tokens.specs.Strings.{hex_number}
use Rattle.graphql_tokens.proofs.strings.hex_number.Given as goal

abbrev pub invariant-loop-byte : goal.invariant-loop-byte
invariant-loop-byte l = record {
  small : l.number ≤ 1114112;
  whole : min (hex_number l.number (drop l.byte-index l.digits)) 1114112 ≡ min (hex_number 0 l.digits)
      1114112;
}
