-- What proofs of lists of definitions cite most, of std, of the libraries below, and of what a list means.
pub use Rattle.std.proofs.Common.{◌≡◌, Bool, ◌&&◌, refl, ap, subst, Option, None, Some, ℕ, true, false, cond}
pub use Rattle.std.proofs.Common.{not, ◌==◌, List, [], ◌∷◌, ◌++◌, length, filter, map, is_some, sym, ◌∙◌}
pub use Rattle.std.proofs.Common.{arith, ◌||◌, true≢false, append_assoc, ◌+◌, take, ◌<◌, suc, slice_get}
pub use Rattle.std.proofs.Common.{get_or, if◌then◌else◌, ◌≤◌, length-append, drop, rules, ◌^◌, Result, IfErr}
pub use Rattle.std.proofs.Common.{All, zero, max, IsSome, Ok, Err, ◌⊎◌, inl, inr, IfOk, OnOk}
pub use Rattle.std.specs.Option.{option_map, option_map_or, option_or, unwrap_or, option_copied_mut}
pub use Rattle.std.specs.List.{AllByRecursion, filter_map, flat_map, list_any, find, cons_option}
pub use Rattle.std.specs.List.{enumerate_from, range_with_len}
pub use Rattle.std.specs.Cmp.Lexicographic.{nat_list_eq_equiv}
pub use Rattle.std.proofs.lemmas.Bool.Decides.{nat_tests}
pub use Rattle.std.proofs.lemmas.List.{append-nil, map-append, take_more, take-append-drop, take_all}
pub use Rattle.std.proofs.lemmas.List.Elements.{filter_map-append, filter-append}
pub use Rattle.std.specs.Map.{lookup, keys_of, lookup_key, set_value}
pub use Rattle.std.proofs.lemmas.List.Folds.{list_any-append}
pub use Rattle.std.specs.Cmp.{IsEquivalence, on_equiv}
pub use Rattle.std.proofs.lemmas.Grind.{flat_map-append}
pub use Rattle.std.proofs.lemmas.Simd.{map-map}
pub use Rattle.std.proofs.lemmas.Map.{keys-set_value}
pub use Rattle.std.proofs.lemmas.Result.{err_from_is_err_and}
pub use Rattle.std.proofs.Math.Seq.{take-append_seam}
pub use Rattle.std.proofs.lemmas.Bool.{eq-eqb, ne_eqb}
pub use Rattle.std.specs.Prelude.{nat_eq}
pub use Rattle.indexmap.specs.IndexMap.{insert_entry}
pub use Rattle.graphql_nodes.specs.NameView.{NameView}
pub use Rattle.graphql_nodes.specs.SameText.{same_text, same, by_text}
pub use Rattle.graphql_nodes.proofs.Comparisons.{Compares}
pub use Rattle.graphql_nodes.proofs.Texts.{same-true, same-is, same-flip}
pub use Rattle.graphql_nodes.specs.declared.operation_type.OperationType.{OperationType}
pub use Rattle.graphql_nodes.specs.declared.operation_type.OperationType.TheVariants.{Query, Mutation}
pub use Rattle.graphql_nodes.specs.declared.operation_type.OperationType.TheVariants.{Subscription}
pub use Rattle.graphql_nodes.specs.NodeView.{NodeView}
pub use Rattle.graphql_nodes.specs.declared.type_kind.TypeKind.{TypeKind}
pub use Rattle.graphql_nodes.specs.BuiltIn.{is_built_in}
pub use Rattle.graphql_ast.specs.declared.definition.Definition.{Definition}
pub use Rattle.graphql_ast.specs.declared.type_system.DirectiveDefinition.{DirectiveDefinition}
pub use Rattle.apollo_component.proofs.FirstOfEachLemmas.{list_any-first_of_each, first_of_each-push_new}
pub use Rattle.apollo_component.proofs.FirstOfEachLemmas.{first_of_each-push_old, is_some-lookup, name_laws}
pub use Rattle.apollo_component.proofs.FirstOfEachLemmas.{entry_laws, find-first_of_each, first_of_each-map}
pub use Rattle.apollo_component.proofs.FirstOfEachLemmas.{insert_entry-last, keys_of-first_of_each}
pub use Rattle.apollo_component.proofs.FirstOfEachLemmas.{lookup_key-find}
pub use Rattle.apollo_component.specs.EachAfter.{each_after}
pub use Rattle.apollo_component.specs.FirstOfEach.{first_of_each, same_key, later_of_each}
pub use Rattle.apollo_component.proofs.Lists.Ends.{filter_map-push_none, snoc_ind, enumerate_from-append}
pub use Rattle.apollo_component.proofs.Lists.Ends.{or-none, all-kept, filter-all, filter_map-made}
pub use Rattle.apollo_component.proofs.Lists.Ends.{filter_map-numbered, filter_map-unmade, lookup-append}
pub use Rattle.apollo_component.proofs.Lists.Ends.{slice_get-front, slice_get-last, slice_get-append}
pub use Rattle.apollo_component.proofs.Lists.Each.{flat_map-each, each-filter, each-weaken}
pub use Rattle.apollo_component.proofs.Lists.EachAfter.{each_after-append, each_after-start, each_after-push}
pub use Rattle.apollo_component.specs.declared.component.Component.{Component}
pub use Rattle.apollo_component.specs.declared.component.ComponentName.{ComponentName}
pub use Rattle.apollo_component.specs.Extensions.{next_number, source_at}
pub use Rattle.apollo_component.proofs.LaterLemmas.{found-any, length-first_later, said, said-later, saying}
pub use Rattle.apollo_component.proofs.Lists.Cases.{bool_cases, find-made, list_any-map, lookup-keyed}
pub use Rattle.apollo_component.specs.declared.extension.ComponentOrigin.{ComponentOrigin}
pub use Rattle.apollo_types.specs.TypeWriteOut.{type_kind}
pub use Rattle.apollo_types.specs.declared.extended_type.ExtendedType.{ExtendedType}
pub use Rattle.apollo_types.specs.declared.extended_type.ExtendedType.TheVariants.{Scalar, Object, Interface}
pub use Rattle.apollo_types.specs.declared.extended_type.ExtendedType.TheVariants.{Union, Enum, InputObject}
pub use Rattle.apollo_types.specs.declared.schema_definition.SchemaDefinition.{SchemaDefinition}
pub use Rattle.apollo_types.specs.TypeKinds.{is_object}
pub use Rattle.apollo_meaning.specs.Items.Parts.{TypePart, key_of, SchemaPart, Root, roots_in, kind_of}
pub use Rattle.apollo_meaning.specs.Items.Parts.{same_kind, schema_extension_part, schema_definition_part}
pub use Rattle.apollo_meaning.specs.Items.ListItems.{ListItem, extended_part, Defined, Extended}
pub use Rattle.apollo_meaning.specs.Items.ListItems.{SchemaDefined, SchemaExtended, Other, items_of}
pub use Rattle.apollo_meaning.specs.Items.ListItems.{extended_parts, items_held, extended_schema, Folding}
pub use Rattle.apollo_meaning.specs.Items.ListItems.{defined_part, defined_schema, item_of, Added, added_item}
pub use Rattle.apollo_meaning.specs.Items.ListItems.{added_items, OfType, OfSchema, added}
pub use Rattle.apollo_meaning.specs.Items.Named.{first, extensions_of, schema_extensions, first_schema}
pub use Rattle.apollo_meaning.specs.Items.Named.{of_kind}
pub use Rattle.apollo_meaning.specs.Faults.Collisions.{Fault, Entry, collision, collision_at, collisions}
pub use Rattle.apollo_meaning.specs.Faults.Collisions.{dropped_component, same_name}
pub use Rattle.apollo_meaning.specs.Faults.TypeFaults.{orphan, name_entries}
pub use Rattle.apollo_meaning.specs.Faults.TypeFaults.{part_faults, extension_faults, further_definition}
pub use Rattle.apollo_meaning.specs.Faults.RootFaults.{schema_orphan, schema_faults, further_schema}
pub use Rattle.apollo_meaning.specs.Completion.Adoption.{extended_names, orphans_of, schema_orphans}
pub use Rattle.apollo_meaning.specs.Completion.Adoption.{adopted_part, adopted_by, adopted, with_adopted}
pub use Rattle.apollo_meaning.specs.Completion.ImpliedSchema.{implied_schema, completed, schema_for}
pub use Rattle.apollo_meaning.specs.Steps.Prefixes.{found_at, found, waited_at, waited, folded_at, folded}
pub use Rattle.apollo_meaning.specs.Steps.Prefixes.{types_folded_at, schemas_folded_at}
pub use Rattle.apollo_meaning.specs.Order.Places.{types, extension_places, definition_places, once_if_defined}
pub use Rattle.apollo_meaning.specs.Order.Places.{Placed, Family, is_met, met_when, placed_by, times_met}
pub use Rattle.apollo_meaning.specs.Order.Places.{first_place, schemas, folding_order, folded_when, is_folded}
pub use Rattle.apollo_meaning.specs.declared.collision.Collection.{Collection}
pub use Rattle.apollo_meaning.specs.Steps.Joining.{schema_joining_faults, joining_faults, schema_begun_faults}
pub use Rattle.apollo_meaning.specs.Steps.Joining.{schema_numbered, schema_begun}
pub use Rattle.apollo_meaning.specs.Directives.{directive_definitions, Directives, AreDirectivesOf}
pub use Rattle.apollo_meaning.specs.Faults.OtherFaults.{other_faults}
pub use Rattle.apollo_meaning.specs.Types.Components.{component, distinct_names, Sourced}
pub use Rattle.apollo_meaning.specs.Types.Components.{component_name, same_component_name, distinct_entries}
pub use Rattle.apollo_meaning.specs.Types.Meaning.{extensions_with_origin, type_of_kind, type_from}
pub use Rattle.apollo_meaning.specs.Types.Meaning.{extension_part, numbered, type_names, parts, AreTypesOf}
pub use Rattle.apollo_meaning.specs.Schema.Whole.{whole}
pub use Rattle.apollo_meaning.specs.Schema.Definition.{SourcedSchema, schema_from, schema_of}
pub use Rattle.apollo_meaning.specs.Schema.Definition.{schema_definition_of, same_operation}
pub use Rattle.apollo_meaning.specs.Schema.Definition.{schema_extension_source, schema_parts, schema_sourced}
pub use Rattle.apollo_meaning.specs.Faults.TypeComponents.{TypeComponent, component_in, components_of}
pub use Rattle.apollo_meaning.specs.Faults.TypeComponents.{dropped_from_type, joined_faults, part_components}
pub use Rattle.apollo_meaning.specs.Faults.TypeComponents.{same_component, what_is_held}
