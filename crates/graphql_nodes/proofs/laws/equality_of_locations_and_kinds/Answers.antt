use Rattle.graphql_nodes.proofs.LocationEquality.{file_ids, source_spans, line_columns, source_files}
use Rattle.graphql_nodes.proofs.LocationEquality.{hash_keys, operation_types, type_kinds, directive_locations}
use Rattle.graphql_nodes.proofs.laws.equality_of_locations_and_kinds.Goals as goal

pub returns-clause-file_id : goal.returns-clause-file_id
returns-clause-file_id c = file_ids.at

pub returns-clause-source_span : goal.returns-clause-source_span
returns-clause-source_span c = source_spans.at

pub returns-clause-line_column : goal.returns-clause-line_column
returns-clause-line_column c = line_columns.at

pub returns-clause-source_file : goal.returns-clause-source_file
returns-clause-source_file c = source_files.at

pub returns-clause-operation_type : goal.returns-clause-operation_type
returns-clause-operation_type c = operation_types.at

pub returns-clause-type_kind : goal.returns-clause-type_kind
returns-clause-type_kind c = type_kinds.at

pub returns-clause-directive_location : goal.returns-clause-directive_location
returns-clause-directive_location c = directive_locations.at

pub returns-clause-hash_keys : goal.returns-clause-hash_keys
returns-clause-hash_keys c = hash_keys.at
