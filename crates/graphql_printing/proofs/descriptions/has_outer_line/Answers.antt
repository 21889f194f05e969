-- A byte further on the same is said, or such a line begins here.
use Rattle.std.proofs.Common.{◌+◌, drop, get_or, sym, ◌∙◌}
use Rattle.std.proofs.lemmas.List.{drop_more}
use Rattle.graphql_printing.proofs.BlockWalks.{outer_found, outer_further}
use Rattle.graphql_printing.proofs.descriptions.has_outer_line.Goals as goal

pub returns-then-stands_out : goal.returns-then-stands_out
returns-then-stands_out c =
    let s = c.args.text.now in
    let i = c.loop-byte.byte-index in
    let held = rw (drop_more s i 0 c.loop-byte-test.true) at c.loop-byte.invariant in
    sym (outer_found c.loop-byte.begins (get_or s i 0) (drop (i + 1) s) (sym c.stands_out.ensures
    ∙ c.if-stands_out.true)) ∙ held

pub loop-byte-preserved : goal.loop-byte-preserved
loop-byte-preserved c =
    let s = c.args.text.now in
    let i = c.loop-byte.byte-index in
    let held = rw (drop_more s i 0 c.loop-byte-test.true) at c.loop-byte.invariant in
    rw c.is_line_end-begins.ensures (sym (outer_further c.loop-byte.begins (get_or s i 0) (drop (i + 1) s)
    (sym c.stands_out.ensures ∙ c.if-stands_out.false)) ∙ held)
