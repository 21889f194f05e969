use Rattle.std.proofs.Common.{refl, arith, ◌++◌}
use Rattle.std.proofs.Output.{has_written_append}
use Rattle.std.proofs.lemmas.Grind.{common_steps}
use Rattle.apollo_document.specs.PathTexts.{arrow}
use Rattle.apollo_document.proofs.selection_path.SelectionPathDisplay.fmt.Goals as goal

pub loop-key-preserved : goal.loop-key-preserved
loop-key-preserved g c = λ plain.
    let so_far = c.loop-key.invariant plain in (
      so_far.0 ++ (arrow ++ c.in-Some.key.now.text),
      has_written_append _ _ _ _ _ _ so_far.1 (c.in_ok-write.ensures.writes so_far.1.plain refl),
      grind (arith, common_steps, so_far.2),
    )
