-- Words of components and of types.
pub use Rattle.apollo_component.specs.BareComponents.{bare_component, bare_component_name}
pub use Rattle.apollo_component.specs.EachAfter.{each_after}
pub use Rattle.apollo_component.specs.Extensions.{extension_id, id_of, number_of, extension_location, same_id}
pub use Rattle.apollo_component.specs.Extensions.{same_origin}
pub use Rattle.apollo_component.specs.FirstOfEach.{first_of_each}
pub use Rattle.apollo_component.specs.WriteOut.{SourcedPart, by_origin, identities, of_extensions, of_origin}
pub use Rattle.apollo_component.specs.WriteOut.{origins_in, written_type}
pub use Rattle.apollo_component.specs.declared.component.Component.{Component}
pub use Rattle.apollo_component.specs.declared.component.ComponentName.{ComponentName}
pub use Rattle.apollo_component.specs.declared.extension.ComponentOrigin.{ComponentOrigin}
pub use Rattle.apollo_component.specs.declared.extension.ComponentOrigin.TheVariants.{Definition, Extension}
pub use Rattle.apollo_component.specs.declared.extension.ExtensionId.{ExtensionId}
pub use Rattle.apollo_component.specs.declared.parts_by_origin.PartsByOrigin.{PartsByOrigin}
pub use Rattle.apollo_component.proofs.FirstOfEachLemmas.{each-first, first_of_each-map}
pub use Rattle.apollo_component.proofs.FirstOfEachLemmas.{list_any-first_of_each, name_laws}
pub use Rattle.apollo_component.proofs.FirstOfEachLemmas.{find-first_of_each}
pub use Rattle.apollo_component.proofs.LaterLemmas.{found-any}
pub use Rattle.apollo_component.proofs.Tabled.{entries_from_lookups, first_of_each-distinct, given-by_keys}
pub use Rattle.apollo_types.specs.BareTypes.{BareType, bare_extended_type, bare_schema_definition}
pub use Rattle.apollo_types.specs.Components.{of_directive, of_root, root_node}
pub use Rattle.apollo_types.specs.SchemaDefinitionWriteOut.{has_implied_root, has_own_root, implied_name}
pub use Rattle.apollo_types.specs.SchemaDefinitionWriteOut.{is_implied, is_some_object, is_written}
pub use Rattle.apollo_types.specs.SchemaDefinitionWriteOut.{schema_components, write_schema_definition}
pub use Rattle.apollo_types.specs.SchemaRoots.{operation_types, root_of}
pub use Rattle.apollo_types.specs.TypeKinds.{is_object}
pub use Rattle.apollo_types.specs.TypeWriteOut.{type_components, type_description, type_kind, type_location}
pub use Rattle.apollo_types.specs.TypeWriteOut.{type_name, write_type}
pub use Rattle.apollo_types.specs.declared.extended_type.ExtendedType.{ExtendedType}
pub use Rattle.apollo_types.specs.declared.extended_type.ExtendedType.TheVariants.{Interface, Object, Scalar}
pub use Rattle.apollo_types.specs.declared.schema_definition.SchemaDefinition.{SchemaDefinition}
