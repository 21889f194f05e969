-- A line feed and the first of three quotes are written at once, with what is wanted there; any other byte
-- waits.
use Rattle.std.proofs.Common.{◌≡◌, ◌-◌, ◌<◌, false, true, [], ◌∷◌, ◌++◌, length, get_or, nat_eq, take, drop}
use Rattle.std.proofs.Common.{refl, rules, arith, append_assoc, length-drop}
use Rattle.std.proofs.lemmas.Grind.{common_steps}
use Rattle.std.proofs.lemmas.Str.{IsCharBoundary-start, IsCharBoundary-after_ascii}
use Rattle.std.proofs.lemmas.Str.{IsCharBoundary-before_ascii}
use Rattle.std.proofs.Output.{has_written_append, has_written_of_eq}
use Rattle.graphql_tokens.specs.Strings.{begins_with_quotes}
use Rattle.graphql_printing.specs.Layout.{line_end}
use Rattle.graphql_printing.proofs.InsideLemmas.{feed_at, no_quotes_at, plain_at, quotes_at, quotes_long}
use Rattle.graphql_printing.proofs.Runs.{kept, replaced, replaced_before}
use Rattle.graphql_printing.proofs.descriptions.write_inside.Goals as goal
use Rattle.graphql_printing.proofs.descriptions.write_inside.Goals.{else-byte-eq34-via-then-byte-eq34+else-begins_with_quotes}
use Rattle.graphql_printing.proofs.descriptions.write_inside.Goals.{else-byte-eq34-via-else-byte-eq34}

pub bytes-init : goal.bytes-init
bytes-init g c = (
  omega arith,
  omega arith,
  IsCharBoundary-start c.args.text.now c.utf8.text,
  [],
  refl,
  search rules,
)

pub bytes-preserved-then-byte-eq10 : goal.bytes-preserved-then-byte-eq10
bytes-preserved-then-byte-eq10 g c =
    let l = c.bytes in
    let s = c.args.text.now in
    let indent = c.args.indent in
    let (low, most, bound, done, whole, wrote) = l.invariant in
    let within : l.at < length s = grind (arith, common_steps) in
    let feed : get_or s l.at 0 ≡ 10 = grind (arith, common_steps) in
    let run = take (l.at - l.start) (drop l.start s) in (
      omega arith,
      omega (arith, within),
      IsCharBoundary-after_ascii s l.at c.utf8.text within (omega (arith, feed)),
      done ++ (run ++ line_end indent),
      replaced s done _ _ _ _ l.start l.at _ (feed_at s indent l.at within feed) whole,
      λ plain.
          let sofar = wrote plain in
          let one = c.write_str.ensures.writes sofar.plain (search rules) in
          let two = c.write_line_end.ensures one.plain (search rules) in
          has_written_of_eq _ _ _ _ _ (grind (arith, common_steps, append_assoc))
          (has_written_append _ _ _ _ _ _ (has_written_append _ _ _ _ _ _ sofar one) two),
    )

pub bytes-preserved-then-begins_with_quotes : goal.bytes-preserved-then-begins_with_quotes
bytes-preserved-then-begins_with_quotes g c =
    let l = c.bytes in
    let s = c.args.text.now in
    let indent = c.args.indent in
    let (low, most, bound, done, whole, wrote) = l.invariant in
    let within : l.at < length s = grind (arith, common_steps) in
    let quote : get_or s l.at 0 ≡ 34 = grind (arith, common_steps) in
    let begins : begins_with_quotes (drop l.at s) ≡ true = grind (arith, common_steps) in
    let run = take (l.at - l.start) (drop l.start s) in
    let long = quotes_long (drop l.at s) begins in (
      omega arith,
      omega (arith, within, long, length-drop l.at s),
      IsCharBoundary-before_ascii s l.at within (omega (arith, quote)),
      done ++ (run ++ 92 ∷ []),
      replaced_before s done _ _ (92 ∷ []) _ l.start l.at 3 (quotes_at s indent l.at begins) whole,
      λ plain.
          let sofar = wrote plain in
          let one = c.write_str-then-begins_with_quotes.ensures.writes sofar.plain (search rules) in
          let two = c.write_str-then-begins_with_quotes-2.ensures.writes one.plain (search rules) in
          has_written_of_eq _ _ _ _ _ (grind (arith, common_steps, append_assoc))
          (has_written_append _ _ _ _ _ _ (has_written_append _ _ _ _ _ _ sofar one) two),
    )

pub bytes-preserved : goal.bytes-preserved
bytes-preserved g c =
    let l = c.bytes in
    let s = c.args.text.now in
    let indent = c.args.indent in
    let (low, most, bound, done, whole, wrote) = l.invariant in
    let within : l.at < length s = grind (arith, common_steps) in
    let other : nat_eq (get_or s l.at 0) 10 ≡ false = grind (arith, common_steps) in
    let none : begins_with_quotes (drop l.at s) ≡ false = elim c.else-byte-eq34.branch [
      | else-byte-eq34-via-then-byte-eq34+else-begins_with_quotes w ↦ grind (arith, common_steps)
      | else-byte-eq34-via-else-byte-eq34 w ↦ no_quotes_at s l.at within (grind (arith, common_steps))
    ] in (
      omega (arith, low),
      omega (arith, within),
      bound,
      done,
      kept s done _ _ _ l.start l.at low within (plain_at s indent l.at within other none) whole,
      wrote,
    )
