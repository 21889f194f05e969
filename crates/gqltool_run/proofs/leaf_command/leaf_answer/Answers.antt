use Rattle.std.proofs.Common.{rules, ◌≡◌, ◌==◌, ◌&&◌, not, List, [], ◌++◌, length, string_bytes, ap, ◌∙◌}
use Rattle.std.specs.List.{flat_map}
use Rattle.leafcheck.specs.declared.leaf_fault.LeafFault.{LeafFault}
use Rattle.gqltool_run.specs.LeafCommand.{leaf_line}
use Rattle.gqltool_run.proofs.BuiltLemmas.{document-answer, with-fault-lines}
use Rattle.gqltool_run.proofs.leaf_command.leaf_answer.Goals as goal

pub returns-clause-means : goal.returns-clause-means
returns-clause-means c =
    let compiled = c.in_ok-compiled.compiled in
    let none : string_bytes c.new-text.result ≡ [] = search rules in
    let leaves = c.as_slice.ensures.value ∙ c.in_ok-faults.ensures.faults in
    let text = c.in_ok-push_leaf_faults.ensures ∙ (λ i. none i ++ flat_map leaf_line (leaves i)) in
    document-answer c.args.input.now compiled c.in_ok-compiled.ensures.compiled _ _
    (with-fault-lines _ _ _ _ _ text (rw c.as_slice-2.ensures.value at c.in_ok-push_faults.ensures)
    (rw c.as_slice-3.ensures.value at c.in_ok-push_faults-2.ensures)) (c.is_at_fault.ensures
    ∙ ap (λ (l : List LeafFault). not ((length l == 0) && ((length compiled.schema_faults.items == 0)
    && (length compiled.document_faults.items == 0)))) (c.as_slice-4.ensures.value
    ∙ c.in_ok-faults.ensures.faults))
