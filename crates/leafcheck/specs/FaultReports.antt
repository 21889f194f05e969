-- What reports and JSON say of leaf faults besides their sentences.
use Rattle.std.specs.Prelude.{List, Some, codes}
use Rattle.apollo_reporting.specs.Abouts.{AboutView, of_kind}
use Rattle.apollo_reporting.specs.Details.{two_texts}
use Rattle.apollo_reporting.specs.declared.detail.Detail.{Detail}
use Rattle.leafcheck.specs.declared.leaf_fault.LeafFault.{LeafFault}
use Rattle.leafcheck.specs.declared.leaf_fault.LeafKind.{LeafKind}
use Rattle.leafcheck.specs.declared.leaf_fault.LeafKind.TheVariants.{MissingSubselection, SubselectionOnLeaf}

-- the name of the kind alone
abbrev pub of_leaf_kind : LeafKind → AboutView
of_leaf_kind SubselectionOnLeaf = of_kind (codes "SubselectionOnLeaf")
of_leaf_kind MissingSubselection = of_kind (codes "MissingSubselection")

-- the name of the kind, and the path
abbrev pub leaf_fault_about : LeafFault → AboutView
leaf_fault_about fault = record (of_leaf_kind fault.kind) { path = Some fault.path }

-- the response key of the field, and the type of the set that it stands in
abbrev pub leaf_fault_details : LeafFault → List Detail
leaf_fault_details fault =
    two_texts (codes "response_key") fault.response_key.text (codes "parent_type") fault.parent_type.text
