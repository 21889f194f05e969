-- The characters so far were written as they are shown.
use Rattle.std.proofs.Common.{flat_map}
use Rattle.std.specs.Prelude.{encode_utf8}
use Rattle.std.specs.Fmt.{HasWritten, IsPlainFormatter}
use Rattle.graphql_nodes.specs.VisibleTexts.{visible_char}
use Rattle.graphql_nodes.proofs.visible_text.write_visible.Given as goal

abbrev pub invariant-loop-character : goal.invariant-loop-character
invariant-loop-character g l = IsPlainFormatter l.initial.f → HasWritten g.W.Write.write_str_gives l.initial.f
    (flat_map (λ c. encode_utf8 (visible_char c)) l.yielded) l.f
