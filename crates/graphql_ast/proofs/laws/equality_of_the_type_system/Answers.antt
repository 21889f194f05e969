use Rattle.graphql_ast.proofs.TypeSystemEquality as equality
use Rattle.graphql_ast.proofs.laws.equality_of_the_type_system.Goals as goal

pub returns-clause-field_definition : goal.returns-clause-field_definition
returns-clause-field_definition c = equality.field_definitions.at

pub returns-clause-input_value_definition : goal.returns-clause-input_value_definition
returns-clause-input_value_definition c = equality.input_value_definitions.at

pub returns-clause-enum_value_definition : goal.returns-clause-enum_value_definition
returns-clause-enum_value_definition c = equality.enum_value_definitions.at

pub returns-clause-directive_definition : goal.returns-clause-directive_definition
returns-clause-directive_definition c = equality.directive_definitions.at

pub returns-clause-schema_definition : goal.returns-clause-schema_definition
returns-clause-schema_definition c = equality.schema_definitions.at

pub returns-clause-scalar_type_definition : goal.returns-clause-scalar_type_definition
returns-clause-scalar_type_definition c = equality.scalar_type_definitions.at

pub returns-clause-object_type_definition : goal.returns-clause-object_type_definition
returns-clause-object_type_definition c = equality.object_type_definitions.at

pub returns-clause-interface_type_definition : goal.returns-clause-interface_type_definition
returns-clause-interface_type_definition c = equality.interface_type_definitions.at

pub returns-clause-union_type_definition : goal.returns-clause-union_type_definition
returns-clause-union_type_definition c = equality.union_type_definitions.at

pub returns-clause-enum_type_definition : goal.returns-clause-enum_type_definition
returns-clause-enum_type_definition c = equality.enum_type_definitions.at

pub returns-clause-input_object_type_definition : goal.returns-clause-input_object_type_definition
returns-clause-input_object_type_definition c = equality.input_object_type_definitions.at

pub returns-clause-schema_extension : goal.returns-clause-schema_extension
returns-clause-schema_extension c = equality.schema_extensions.at

pub returns-clause-scalar_type_extension : goal.returns-clause-scalar_type_extension
returns-clause-scalar_type_extension c = equality.scalar_type_extensions.at

pub returns-clause-object_type_extension : goal.returns-clause-object_type_extension
returns-clause-object_type_extension c = equality.object_type_extensions.at

pub returns-clause-interface_type_extension : goal.returns-clause-interface_type_extension
returns-clause-interface_type_extension c = equality.interface_type_extensions.at

pub returns-clause-union_type_extension : goal.returns-clause-union_type_extension
returns-clause-union_type_extension c = equality.union_type_extensions.at

pub returns-clause-enum_type_extension : goal.returns-clause-enum_type_extension
returns-clause-enum_type_extension c = equality.enum_type_extensions.at

pub returns-clause-input_object_type_extension : goal.returns-clause-input_object_type_extension
returns-clause-input_object_type_extension c = equality.input_object_type_extensions.at
