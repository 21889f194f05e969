-- A white byte at the end is passed over; any other decides.
use Rattle.std.proofs.Common.{◌-◌, length, take, sym, ap, ◌∙◌}
use Rattle.std.specs.Prelude.{false, not}
use Rattle.graphql_tokens.specs.BlockStringValues.{lines}
use Rattle.graphql_printing.proofs.BlockWalks.{none_so_far, other_behind, white_behind}
use Rattle.graphql_printing.proofs.descriptions.ends_with_text.Goals as goal

pub returns-then-not-is_white : goal.returns-then-not-is_white
returns-then-not-is_white c =
    let s = c.bytes.rest.now in
    let decides = other_behind false s c.in-len1-up.len_at_least (sym c.is_white.ensures
    ∙ c.if-not-is_white.true) in
    ap not (c.is_line_end.ensures ∙ sym decides ∙ none_so_far (lines s) ∙ c.bytes.invariant)

pub bytes-preserved : goal.bytes-preserved
bytes-preserved c =
    let s = c.bytes.rest.now in
    let same = white_behind false s c.in-len1-up.len_at_least (sym c.is_white.ensures
    ∙ c.if-not-is_white.false) in
    sym (none_so_far (lines (take (length s - 1) s))) ∙ same ∙ none_so_far (lines s) ∙ c.bytes.invariant
