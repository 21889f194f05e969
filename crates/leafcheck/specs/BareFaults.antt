-- What `==` compares of faults: names without their locations. GraphQL specification of October 2021, section
-- 5.3.3.
use Rattle.graphql_nodes.specs.Comparing.{bare_name}
use Rattle.apollo_document.specs.BareErrors.{bare_path}
use Rattle.leafcheck.specs.declared.leaf_fault.LeafFault.{LeafFault}

-- a fault, its names without locations
abbrev pub bare_fault : LeafFault → LeafFault
bare_fault fault = record {
  location = fault.location;
  parent_type = bare_name fault.parent_type;
  response_key = bare_name fault.response_key;
  path = bare_path fault.path;
  kind = fault.kind;
}
