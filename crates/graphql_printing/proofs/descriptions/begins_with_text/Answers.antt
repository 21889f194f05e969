-- A white byte is passed over; any other decides.
use Rattle.std.proofs.Common.{◌+◌, drop, get_or, sym, ap, ◌∙◌}
use Rattle.std.specs.Prelude.{not}
use Rattle.std.proofs.lemmas.List.{drop_more}
use Rattle.graphql_printing.proofs.BlockWalks.{first_at_other, first_behind_white}
use Rattle.graphql_printing.proofs.descriptions.begins_with_text.Goals as goal

pub returns-then-not-is_white : goal.returns-then-not-is_white
returns-then-not-is_white c =
    let s = c.args.text.now in
    let i = c.loop-byte.byte-index in
    let held = rw (drop_more s i 0 c.loop-byte-test.true) at c.loop-byte.invariant in
    let other = first_at_other (get_or s i 0) (drop (i + 1) s) (sym c.is_white.ensures
    ∙ c.if-not-is_white.true) in
    ap not (c.is_line_end.ensures ∙ sym other ∙ held)

pub loop-byte-preserved : goal.loop-byte-preserved
loop-byte-preserved c =
    let s = c.args.text.now in
    let i = c.loop-byte.byte-index in
    let held = rw (drop_more s i 0 c.loop-byte-test.true) at c.loop-byte.invariant in
    sym (first_behind_white (get_or s i 0) (drop (i + 1) s) (sym c.is_white.ensures
    ∙ c.if-not-is_white.false)) ∙ held
