use Rattle.std.proofs.Common.{◌≡◌, arith}
use Rattle.std.specs.List.{prefix_len}
use Rattle.graphql_tokens.specs.BlockStringValues.{is_in_line}
use Rattle.graphql_tokens.proofs.LineLemmas.{found_end, line_and_more, line_cut, one_line}
use Rattle.graphql_tokens.proofs.lines.first_line.Goals as goal

pub range_from-requires : goal.range_from-requires
range_from-requires c =
    let text = c.args.text.now in
    let is : c.line_bytes-size.result ≡ prefix_len is_in_line text = cc in
    let found = found_end c.as_bytes-bytes.result.now text c.line_bytes-size.result c.line_end.result
    c.as_bytes-bytes.ensures.value c.line_bytes-size.ensures.same c.line_end.ensures.same in
    λ _. line_cut text c.line_bytes-size.result c.line_end.result c.utf8.text is found
    (omega (arith, c.if-end-size.false))

pub returns-then-end-size-clause-lines : goal.returns-then-end-size-clause-lines
returns-then-end-size-clause-lines c =
    let text = c.args.text.now in
    let found = found_end c.as_bytes-bytes.result.now text c.line_bytes-size.result c.line_end.result
    c.as_bytes-bytes.ensures.value c.line_bytes-size.ensures.same c.line_end.ensures.same in
    one_line text c.line_end.result found (omega (arith, c.if-end-size.true))

pub returns-else-end-size-clause-lines : goal.returns-else-end-size-clause-lines
returns-else-end-size-clause-lines c =
    let text = c.args.text.now in
    let is : c.line_bytes-size.result ≡ prefix_len is_in_line text = cc in
    let found = found_end c.as_bytes-bytes.result.now text c.line_bytes-size.result c.line_end.result
    c.as_bytes-bytes.ensures.value c.line_bytes-size.ensures.same c.line_end.ensures.same in
    line_and_more text c.range.result.now c.range_from.result.now c.line_bytes-size.result c.line_end.result
    is found (omega (arith, c.if-end-size.false)) c.range.ensures.value c.range_from.ensures.value
