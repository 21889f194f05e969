-- The indexes so far are those of the texts of the files so far.
use Rattle.std.proofs.Common.{◌≡◌, map}
use Rattle.graphql_nodes.specs.declared.source.SourceFile.{SourceFile}
use Rattle.apollo_reporting.specs.SourceLines.{indexed_texts}
use Rattle.apollo_reporting.proofs.source_lines.SourceLines.new.Given as goal

abbrev pub invariant-loop-file : goal.invariant-loop-file
invariant-loop-file l = indexed_texts l.indexes.items ≡ map (λ (file : SourceFile). file.text)
    (map (λ t. t.now) l.yielded)
