use Rattle.graphql_nodes.proofs.TableEquality.{tables_of_names}
use Rattle.apollo_types.proofs.TypeEquality.{scalars, objects, interfaces, unions, enums, input_objects}
use Rattle.apollo_types.proofs.TypeEquality.{extended_types}
use Rattle.apollo_types.proofs.laws.equality_of_types.Goals as goal

pub returns-clause-scalar_type : goal.returns-clause-scalar_type
returns-clause-scalar_type c = scalars.at

pub returns-clause-object_type : goal.returns-clause-object_type
returns-clause-object_type c = objects.at

pub returns-clause-interface_type : goal.returns-clause-interface_type
returns-clause-interface_type c = interfaces.at

pub returns-clause-union_type : goal.returns-clause-union_type
returns-clause-union_type c = unions.at

pub returns-clause-enum_type : goal.returns-clause-enum_type
returns-clause-enum_type c = enums.at

pub returns-clause-input_object_type : goal.returns-clause-input_object_type
returns-clause-input_object_type c = input_objects.at

pub returns-clause-extended_type : goal.returns-clause-extended_type
returns-clause-extended_type c = extended_types.at

pub returns-clause-types_by_name : goal.returns-clause-types_by_name
returns-clause-types_by_name c = (tables_of_names extended_types).at
