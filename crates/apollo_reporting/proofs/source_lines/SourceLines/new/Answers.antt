-- In the end the files so far are all of them.
use Rattle.std.proofs.Common.{map, ap, ◌∙◌}
use Rattle.std.proofs.lemmas.Map.Iter.{iter_end}
use Rattle.std.specs.Map.Iter.{deref}
use Rattle.graphql_nodes.specs.Tables.{values_of}
use Rattle.graphql_nodes.specs.declared.source.SourceFile.{SourceFile}
use Rattle.apollo_reporting.proofs.source_lines.SourceLines.new.Goals as goal

pub invariant_of-result : goal.invariant_of-result
invariant_of-result c =
    let l = c.loop-file in
    let start = c.into_iter-file-iterator.ensures.into_iter_gives ∙ c.values-file-items.ensures.rest in
    let all = iter_end deref (values_of c.args.sources.now) l.yielded c.into_iter-file-iterator.result
    l.file-iterator c.next.new.self c.next.result start l.yielded_by c.in-None.is c.next.ensures.steps in
    record { indexed = l.invariant ∙ ap (map (λ (file : SourceFile). file.text)) all.0 }
