use Rattle.std.proofs.Common.{◌≡◌, take}
use Rattle.std.specs.List.{filter_map}
use Rattle.std.specs.Option.{option_copied}
use Rattle.apollo_document.specs.Elaborated.{elaborated_selection}
use Rattle.apollo_document.specs.Noted.{noting}
use Rattle.apollo_document.specs.SelectionFaults.{faults_of_selections}
use Rattle.apollo_document.proofs.elaborating.Elaboration.+elaborate.Given as goal

abbrev pub invariant-elaborate_all-loop-selection : goal.invariant-elaborate_all-loop-selection
invariant-elaborate_all-loop-selection l = record {
  kept : l.kept ≡ filter_map (elaborated_selection (option_copied l.parent.schema) l.parent.ty.now)
      (take l.selection-index l.selections);
  faults : l.self ≡ noting
      (faults_of_selections (option_copied l.parent.schema) l.parent.ty.now l.fn.self.path
      (take l.selection-index l.selections)) l.fn.self;
}
