-- A character that is escaped is written at once, behind the bytes that waited; any other byte waits.
use Rattle.std.proofs.Common.{◌≡◌, ◌+◌, ◌-◌, ◌<◌, [], ◌++◌, length, get_or, take, drop, refl, rules, arith}
use Rattle.std.proofs.Common.{append_assoc}
use Rattle.std.proofs.lemmas.Grind.{common_steps}
use Rattle.std.proofs.lemmas.Str.{IsCharBoundary-start}
use Rattle.std.proofs.Output.{has_written_append, has_written_of_eq}
use Rattle.graphql_printing.specs.Escapes.{escape, escaped_size}
use Rattle.graphql_printing.proofs.EscapeLemmas.{escaped_at, plain_at}
use Rattle.graphql_printing.proofs.Runs.{kept, replaced}
use Rattle.graphql_printing.proofs.strings.write_characters.Goals as goal

pub bytes-init : goal.bytes-init
bytes-init g c = (
  omega arith,
  omega arith,
  IsCharBoundary-start c.args.text.now c.utf8.text,
  [],
  refl,
  search rules,
)

pub bytes-preserved-then-size-eq0 : goal.bytes-preserved-then-size-eq0
bytes-preserved-then-size-eq0 g c =
    let l = c.bytes in
    let s = c.args.text.now in
    let (low, high, bound, done, whole, wrote) = l.invariant in
    let within : l.at < length s = omega (arith, c.as_bytes-bytes.ensures.len) in
    let none : escaped_size (drop l.at s) ≡ 0 = grind (arith, common_steps) in (
      omega arith,
      omega arith,
      bound,
      done,
      kept s done _ _ _ l.start l.at low within (plain_at s l.at within none) whole,
      wrote,
    )

pub range-requires-clause-end_boundary : goal.range-requires-clause-end_boundary
range-requires-clause-end_boundary g c =
    let here = escaped_at c.args.text.now c.bytes.at c.escaped_size-size.result c.utf8.text
    (omega (arith, c.as_bytes-bytes.ensures.len)) (grind (arith, common_steps))
    (grind (arith, common_steps)) in
    here.start

pub bytes-preserved : goal.bytes-preserved
bytes-preserved g c =
    let l = c.bytes in
    let s = c.args.text.now in
    let next = l.at + c.escaped_size-size.result in
    let (low, high, bound, done, whole, wrote) = l.invariant in
    let here = escaped_at s l.at c.escaped_size-size.result c.utf8.text
    (omega (arith, c.as_bytes-bytes.ensures.len)) (grind (arith, common_steps))
    (grind (arith, common_steps)) in
    let run = take (l.at - l.start) (drop l.start s) in
    let text = escape (get_or s (next - 1) 0) in (
      omega arith,
      here.end.0,
      here.end,
      done ++ (run ++ text),
      replaced s done _ _ text _ l.start l.at next here.says whole,
      λ plain.
          let sofar = wrote plain in
          let one = c.write_str.ensures.writes sofar.plain (search rules) in
          let two = c.write_escape.ensures one.plain (search rules) in
          has_written_of_eq _ _ _ _ _ (grind (arith, common_steps, append_assoc))
          (has_written_append _ _ _ _ _ _ (has_written_append _ _ _ _ _ _ sofar one) two),
    )
