use Rattle.std.proofs.Common.{List, [], ◌∷◌, ◌++◌, take, string_bytes, sym, ap, ◌∙◌, arith}
use Rattle.std.proofs.lemmas.List.{flat_map_more, take_more}
use Rattle.std.specs.List.{flat_map}
use Rattle.leafcheck.specs.declared.leaf_fault.LeafFault.{LeafFault}
use Rattle.gqltool_run.specs.LeafCommand.{leaf_line}
use Rattle.gqltool_run.proofs.leaf_command.push_leaf_faults.Goals as goal

pub loop-fault-preserved : goal.loop-fault-preserved
loop-fault-preserved c =
    let old = string_bytes c.args.text.now in
    let faults = c.args.faults.now in
    let i = c.loop-fault.fault-index in
    let fault = c.fault-item.result in
    c.in_ok-push_leaf_fault.ensures ∙ ap (λ text. text ++ leaf_line fault) c.loop-fault.invariant
    ∙ flat_map_more leaf_line old _ fault
    ∙ ap (λ (f : LeafFault). old ++ flat_map leaf_line (take i faults ++ f ∷ [])) c.fault-item.is
    ∙ ap (λ (l : List LeafFault). old ++ flat_map leaf_line l)
    (sym (take_more faults i fault (omega arith)))
