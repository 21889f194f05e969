-- Blanks that are written come behind those before them.
use Rattle.std.proofs.Common.{◌≡◌, ◌∙◌, ◌+◌, ℕ, List, ◌++◌, replicate, ap, arith, rules}
use Rattle.std.proofs.Output.{has_written_append, has_written_of_eq}
use Rattle.std.proofs.lemmas.List.{replicate-append-replicate}
use Rattle.graphql_printing.proofs.LineEnds.{blanks_cut, is_boundary}
use Rattle.graphql_printing.proofs.layout.write_blanks.Goals as goal

pub range-requires-clause-end_boundary : goal.range-requires-clause-end_boundary
range-requires-clause-end_boundary g c = is_boundary c.min-next.result (omega arith)

pub loop-left-preserved : goal.loop-left-preserved
loop-left-preserved g c =
    let next = c.min-next.result in
    let (done, all, wrote) = c.loop-left.invariant in
    let text : c.range.result.now ≡ replicate next 32 = c.range.ensures.value
    ∙ blanks_cut next (omega arith) in (
      done + next,
      omega arith,
      λ plain.
          let before = wrote plain in
          has_written_of_eq _ _ _ _ _ (ap (λ (t : List ℕ). replicate done 32 ++ t) text
          ∙ replicate-append-replicate done next 32)
          (has_written_append _ _ _ _ _ _ before (c.write_str.ensures.writes before.plain (search rules))),
    )
