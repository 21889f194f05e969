use Rattle.std.proofs.Common.{◌≡◌, ◌+◌, ◌-◌, ◌<◌, length, drop, ap, sym, ◌∙◌, arith, Ok, Err}
use Rattle.graphql_tokens.specs.First.{read_behind}
use Rattle.graphql_tokens.specs.Ignored.{ignored}
use Rattle.graphql_tokens.proofs.FirstLemmas.{ends_at_boundary, first_found, first_read, read_there}
use Rattle.graphql_tokens.proofs.FirstLemmas.{starts_at_boundary}
use Rattle.graphql_tokens.proofs.first.first_token_of.Goals as goal

pub range-requires-clause-start_boundary : goal.range-requires-clause-start_boundary
range-requires-clause-start_boundary c =
    let at = c.ignored-passed.result in
    let read = read_there c.as_bytes-bytes.result.now c.args.text.now at (Ok c.in-Ok.found)
    c.as_bytes-bytes.ensures.value c.in-Ok.ensures.same in
    λ _. starts_at_boundary c.args.text.now at c.in-Ok.found read

pub range-requires-clause-end_boundary : goal.range-requires-clause-end_boundary
range-requires-clause-end_boundary c =
    let at = c.ignored-passed.result in
    let read = read_there c.as_bytes-bytes.result.now c.args.text.now at (Ok c.in-Ok.found)
    c.as_bytes-bytes.ensures.value c.in-Ok.ensures.same in
    ends_at_boundary c.args.text.now at c.in-Ok.found c.utf8.text read

pub range_from-requires : goal.range_from-requires
range_from-requires c =
    let at = c.ignored-passed.result in
    let read = read_there c.as_bytes-bytes.result.now c.args.text.now at (Ok c.in-Ok.found)
    c.as_bytes-bytes.ensures.value c.in-Ok.ensures.same in
    λ _. ends_at_boundary c.args.text.now at c.in-Ok.found c.utf8.text read

pub returns-in-Ok : goal.returns-in-Ok
returns-in-Ok c =
    let text = c.args.text.now in
    let at = c.ignored-passed.result in
    let found = c.in-Ok.found in
    let read = read_there c.as_bytes-bytes.result.now text at (Ok found) c.as_bytes-bytes.ensures.value
    c.in-Ok.ensures.same in
    let is : at ≡ ignored text = cc in
    let some : at < length text = omega (
      arith,
      c.ignored-passed.ensures.within,
      c.as_bytes-bytes.ensures.len,
      c.if-passed-bytes.false,
    ) in
    let size : (at + found.size) - at ≡ found.size = omega arith in
    first_found text at found c.range.result.now c.range_from.result.now is some read
    (rw size at c.range.ensures.value) c.range_from.ensures.value

pub returns-in-Err : goal.returns-in-Err
returns-in-Err c =
    let text = c.args.text.now in
    let at = c.ignored-passed.result in
    let read = read_there c.as_bytes-bytes.result.now text at (Err c.in-Err.wrong)
    c.as_bytes-bytes.ensures.value c.in-Err.ensures.same in
    let is : at ≡ ignored text = c.ignored-passed.ensures.same ∙ ap ignored c.as_bytes-bytes.ensures.value in
    let some : at < length text =
    omega (
      arith,
      c.ignored-passed.ensures.within,
      c.as_bytes-bytes.ensures.len,
      c.if-passed-bytes.false,
    ) in
    sym (first_read text at is some ∙ ap (read_behind at (drop at text)) read)
