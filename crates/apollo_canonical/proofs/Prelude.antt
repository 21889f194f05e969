-- What the proofs of this crate cite most of the libraries below.
pub use Rattle.std.proofs.Common.{Err, Ok, Result, inl, inr, ◌⊎◌}
pub use Rattle.std.proofs.lemmas.Bool.{and_parts, not-true, or_right}
pub use Rattle.std.proofs.lemmas.List.{length-map, map-id}
pub use Rattle.std.proofs.lemmas.List.Folds.{flat_map-map}
pub use Rattle.std.specs.List.{AllZip, IsDistinct, cons_option, enumerate_from, last_or, list_all, prefix_len}
pub use Rattle.std.specs.Option.{IfSome}
pub use Rattle.std.specs.Prelude.{codes, if◌then◌else◌, ◌≢◌}
pub use Rattle.graphql_nodes.specs.Comparing.{bare_name, bare_node, entries_by_text}
pub use Rattle.graphql_nodes.specs.NameSyntax.{IsName}
pub use Rattle.graphql_nodes.specs.NameView.{plain_name}
pub use Rattle.graphql_nodes.specs.Tables.{keys_of, lookup_key, values_of}
pub use Rattle.graphql_nodes.specs.declared.source.SourceSpan.{SourceSpan}
pub use Rattle.graphql_ast.specs.BareDeclarations.{bare_item, bare_parts}
pub use Rattle.graphql_ast.specs.BareDocuments.{bare_definition, bare_fragment_definition}
pub use Rattle.graphql_ast.specs.BareDocuments.{bare_operation_definition}
pub use Rattle.graphql_ast.specs.BareSelections.{bare_fragment_spread, field_step, inline_step}
pub use Rattle.graphql_ast.specs.BareSelections.{selection_step}
pub use Rattle.graphql_ast.specs.BareTypeSystem.{bare_field_definition, bare_root_operation}
pub use Rattle.graphql_ast.specs.Declarations.{Declaration, OfDirective, OfFragment, OfOperation}
pub use Rattle.graphql_ast.specs.Declarations.{declaration_of, made, schema_definition, schema_extension}
pub use Rattle.graphql_ast.specs.Declarations.{type_definition, type_extension}
pub use Rattle.graphql_ast.specs.Definitions.{definition_location}
pub use Rattle.graphql_ast.specs.Parts.{Directives, Fields, InputFields, Item, Names, Roots, Sort, Values}
pub use Rattle.graphql_ast.specs.Parts.{directive_list, has, listed, no_parts, of_sort, of_type, part_of}
pub use Rattle.graphql_ast.specs.Parts.{parts_of, schema_has, sorts, with_lists}
pub use Rattle.graphql_ast.specs.declared.operation.FragmentDefinition.{FragmentDefinition}
pub use Rattle.graphql_ast.specs.declared.operation.OperationDefinition.{OperationDefinition}
pub use Rattle.graphql_ast.specs.declared.parts.Part.{Part}
pub use Rattle.graphql_ast.specs.declared.parts.Parts.{Parts}
pub use Rattle.graphql_ast.specs.declared.selection.Field.{Field, out-Field, roll-Field}
pub use Rattle.graphql_ast.specs.declared.selection.FragmentSpread.{FragmentSpread}
pub use Rattle.graphql_ast.specs.declared.selection.InlineFragment.{InlineFragment, out-InlineFragment}
pub use Rattle.graphql_ast.specs.declared.selection.InlineFragment.{roll-InlineFragment}
pub use Rattle.graphql_ast.specs.declared.selection.Selection.{Selection, ind-Selection, roll-Selection}
pub use Rattle.graphql_ast.specs.declared.selection.Selection.TheFolds.{fold-Field, fold-InlineFragment}
pub use Rattle.graphql_ast.specs.declared.selection.Selection.TheFolds.{fold-Selection, fold-roll-Selection}
pub use Rattle.graphql_ast.specs.declared.selection.Selection.TheFolds.{fold_out-Field}
pub use Rattle.graphql_ast.specs.declared.selection.Selection.TheFolds.{fold_out-InlineFragment}
pub use Rattle.graphql_ast.specs.declared.selection.Selection.TheFolds.{map-Selection}
pub use Rattle.graphql_ast.specs.declared.selection.Selection.TheOpen.{Selection-F}
pub use Rattle.graphql_ast.specs.declared.selection.Selection.TheViews.{roll-out-Field}
pub use Rattle.graphql_ast.specs.declared.selection.Selection.TheViews.{roll-out-InlineFragment}
pub use Rattle.graphql_ast.specs.declared.type_system.FieldDefinition.{FieldDefinition}
pub use Rattle.graphql_grammar.specs.WordsOfText.{words_of}
pub use Rattle.graphql_productions.proofs.NameTexts.{name_text}
pub use Rattle.graphql_productions.specs.DefinitionTreeParts.{body_parts, declaration_parts, definition_parts}
pub use Rattle.graphql_productions.specs.DefinitionTreeParts.{description_parts, document_parts}
pub use Rattle.graphql_productions.specs.DefinitionTreeParts.{enum_value_parts, field_parts, front_parts}
pub use Rattle.graphql_productions.specs.DefinitionTreeParts.{input_value_parts, is_directives, names_parts}
pub use Rattle.graphql_productions.specs.DefinitionTreeParts.{root_parts, roots_parts, variable_parts}
pub use Rattle.graphql_productions.specs.Documents.{spells_document}
pub use Rattle.graphql_productions.specs.SelectionParts.{selection_parts}
pub use Rattle.graphql_productions.specs.TreeParts.{Description, EnumName, Name, Node, TreePart, Wanted}
pub use Rattle.graphql_productions.specs.TreeParts.{arguments_parts, directive_parts, directives_parts}
pub use Rattle.graphql_productions.specs.TreeParts.{name_parts, node_parts, option_parts, type_step}
pub use Rattle.graphql_productions.specs.TreeParts.{value_step, wanted_parts}
pub use Rattle.graphql_productions.specs.TypeSystem.{is_none}
pub use Rattle.graphql_productions.specs.WellFormed.{IsWellFormed, IsWellFormedPart}
pub use Rattle.apollo_component.proofs.FirstOfEachLemmas.{each-first, first_of_each-map}
pub use Rattle.apollo_component.proofs.Lists.Cases.{find-made, is_some-map, list_any-map}
pub use Rattle.apollo_component.proofs.Lists.Each.{each-append, filter-map}
pub use Rattle.apollo_component.proofs.Tabled.{entries_from_lookups, first_of_each-distinct, given-by_keys}
pub use Rattle.apollo_component.specs.Extensions.{extension_location, id_of, same_id, same_origin}
pub use Rattle.apollo_component.specs.FirstOfEach.{same_key}
pub use Rattle.apollo_component.specs.WriteOut.{SourcedPart, by_origin, identities, of_extensions, of_origin}
pub use Rattle.apollo_component.specs.WriteOut.{origins_in, written_schema, written_type}
pub use Rattle.apollo_component.specs.declared.extension.ComponentOrigin.{ComponentOrigin}
pub use Rattle.apollo_component.specs.declared.extension.ExtensionId.{ExtensionId}
pub use Rattle.apollo_component.specs.declared.parts_by_origin.PartsByOrigin.{PartsByOrigin}
pub use Rattle.apollo_types.specs.SchemaDefinitionWriteOut.{default_name, has_implied_root, has_own_root}
pub use Rattle.apollo_types.specs.SchemaDefinitionWriteOut.{is_some_object, is_written, schema_components}
pub use Rattle.apollo_types.specs.SchemaDefinitionWriteOut.{write_schema_definition}
pub use Rattle.apollo_types.specs.SchemaRoots.{named_roots, operation_types}
pub use Rattle.apollo_types.specs.TypeWriteOut.{type_components, type_description, type_location, type_name}
pub use Rattle.apollo_types.specs.TypeWriteOut.{write_type}
pub use Rattle.apollo_meaning.proofs.Prelude.{Added, AllByRecursion, AreDirectivesOf, AreTypesOf, Bool}
pub use Rattle.apollo_meaning.proofs.Prelude.{Component, ComponentName, Defined, Definition}
pub use Rattle.apollo_meaning.proofs.Prelude.{DirectiveDefinition, Entry, Extended, ExtendedType, Fault}
pub use Rattle.apollo_meaning.proofs.Prelude.{Folding, List, ListItem, Mutation, NameView, NodeView, None}
pub use Rattle.apollo_meaning.proofs.Prelude.{OfSchema, OfType, OperationType, Option, Other, Query, Root}
pub use Rattle.apollo_meaning.proofs.Prelude.{SchemaDefined, SchemaDefinition, SchemaExtended, SchemaPart}
pub use Rattle.apollo_meaning.proofs.Prelude.{Some, Sourced, SourcedSchema, Subscription, TypeKind, TypePart}
pub use Rattle.apollo_meaning.proofs.Prelude.{[], added, added_item, added_items, adopted, adopted_by}
pub use Rattle.apollo_meaning.proofs.Prelude.{adopted_part, ap, arith, by_text, collision_at, collisions}
pub use Rattle.apollo_meaning.proofs.Prelude.{completed, cond, defined_part, defined_schema}
pub use Rattle.apollo_meaning.proofs.Prelude.{directive_definitions, drop, each-filter, each-weaken}
pub use Rattle.apollo_meaning.proofs.Prelude.{each_after, extended_names, extended_part}
pub use Rattle.apollo_meaning.proofs.Prelude.{extended_schema, extension_faults, extension_part}
pub use Rattle.apollo_meaning.proofs.Prelude.{extensions_of, extensions_with_origin, false, filter}
pub use Rattle.apollo_meaning.proofs.Prelude.{filter_map, find, first, first_of_each, first_schema, flat_map}
pub use Rattle.apollo_meaning.proofs.Prelude.{folded, folded_at, folding_order, found, found_at}
pub use Rattle.apollo_meaning.proofs.Prelude.{further_definition, further_schema, implied_schema, is_built_in}
pub use Rattle.apollo_meaning.proofs.Prelude.{is_object, is_some, item_of, joining_faults, key_of, kind_of}
pub use Rattle.apollo_meaning.proofs.Prelude.{length, list_any, list_any-append, lookup, map, map-append}
pub use Rattle.apollo_meaning.proofs.Prelude.{map-map, name_entries, name_laws, not, of_kind}
pub use Rattle.apollo_meaning.proofs.Prelude.{option_map, option_map_or, option_or, orphan, orphans_of}
pub use Rattle.apollo_meaning.proofs.Prelude.{other_faults, part_faults, parts, refl, roots_in, same, same-is}
pub use Rattle.apollo_meaning.proofs.Prelude.{same_text, schema_begun_faults, schema_definition_of}
pub use Rattle.apollo_meaning.proofs.Prelude.{schema_extensions, schema_faults, schema_for, schema_from}
pub use Rattle.apollo_meaning.proofs.Prelude.{schema_joining_faults, schema_of, schema_orphan, schema_orphans}
pub use Rattle.apollo_meaning.proofs.Prelude.{schemas_folded_at, slice_get, subst, sym, take, true}
pub use Rattle.apollo_meaning.proofs.Prelude.{true≢false, type_from, type_kind, type_of_kind, types_folded_at}
pub use Rattle.apollo_meaning.proofs.Prelude.{unwrap_or, whole, with_adopted, ℕ, ◌&&◌, ◌++◌, ◌+◌, ◌==◌, ◌||◌}
pub use Rattle.apollo_meaning.proofs.Prelude.{◌∙◌, ◌∷◌, ◌≡◌, ◌≤◌}
pub use Rattle.apollo_meaning.proofs.Types.NameLemmas.{type_names-first}
pub use Rattle.apollo_meaning.specs.Completion.ImpliedSchema.{default_root, implicit_root, implicit_roots}
pub use Rattle.apollo_meaning.specs.Completion.ImpliedSchema.{is_object_name, schema_of_roots}
pub use Rattle.apollo_meaning.specs.Directives.{directive_of, directive_part, has_text, is_handed_in}
pub use Rattle.apollo_meaning.specs.Faults.ListFaults.{faults_in, faults_of}
pub use Rattle.apollo_meaning.specs.Faults.TypeFaults.{entries_of, names_in}
pub use Rattle.apollo_meaning.specs.Faults.TypeFaults.{collections_of, dropped_from, held_sort, joining_fault}
pub use Rattle.apollo_meaning.specs.Faults.TypeFaults.{named_entries}
pub use Rattle.apollo_meaning.specs.Items.Parts.{held_parts}
pub use Rattle.apollo_meaning.specs.Schema.Definition.{no_schema, of_schema, root_in, roots_of}
pub use Rattle.apollo_meaning.specs.Schema.Definition.{same_operation, schema_directives_of}
pub use Rattle.apollo_meaning.specs.Schema.Definition.{schema_extension_source, schema_parts, schema_sourced}
pub use Rattle.apollo_meaning.specs.Types.Meaning.{type_of}
pub use Rattle.apollo_meaning.specs.declared.collision.Collection.{Collection}
pub use Rattle.apollo_schema.specs.MeantSchema.{AreOf, MeansSchema}
pub use Rattle.apollo_schema.specs.SchemaWriteOut.{write_directives, write_held_schema_definition}
pub use Rattle.apollo_schema.specs.SchemaWriteOut.{write_held_type, write_schema}
pub use Rattle.apollo_schema.specs.declared.schema.Schema.{Schema}
pub use Rattle.apollo_component.proofs.Lists.Reordered.{map-flat_map}
pub use Rattle.apollo_schema_laws.proofs.Rearranged.Bare.{bare_directive_node, bare_other, defined-unplaced}
pub use Rattle.apollo_schema_laws.proofs.Rearranged.Bare.{directive_of-bare, directives-unplaced}
pub use Rattle.apollo_schema_laws.proofs.Rearranged.Bare.{extensions-unplaced, find-bare, first-unplaced}
pub use Rattle.apollo_schema_laws.proofs.Rearranged.Bare.{first_schema-unplaced, mark, mark-kept}
pub use Rattle.apollo_schema_laws.proofs.Rearranged.Bare.{of_kind-unplaced, of_type-bare}
pub use Rattle.apollo_schema_laws.proofs.Rearranged.Bare.{schema_extensions-unplaced, unless-unplaced}
pub use Rattle.apollo_schema_laws.proofs.Rearranged.Bare.{unplaced_item, unplaced_list, unplaced_part}
pub use Rattle.apollo_schema_laws.proofs.Rearranged.Bare.{unplaced_schema_part}
pub use Rattle.apollo_schema_laws.proofs.Rearranged.Bare.{completed-unplaced}
pub use Rattle.apollo_schema_laws.proofs.Rearranged.Bare.{extended_names-unplaced}
pub use Rattle.apollo_schema_laws.proofs.Rearranged.Bare.{implied_schema-unplaced, orphans-unplaced}
pub use Rattle.apollo_schema_laws.proofs.Rearranged.Bare.{roots-unplaced, with_adopted-unplaced}
pub use Rattle.apollo_schema_laws.proofs.Rearranged.Types.{FoldsAll, FoldsByKind}
pub use Rattle.apollo_schema_laws.proofs.Types.Made.{each-of_schema, each-of_type, schema-made, type-made}
pub use Rattle.apollo_schema_laws.specs.WrittenAgain.{IsMeantByList, IsUnmarkedAndRooted, with_built_ins}
pub use Rattle.apollo_schema_laws.specs.WrittenAgain.{written_again}
pub use Rattle.apollo_executable.proofs.Selections.Induction.{of_set}
pub use Rattle.apollo_executable.specs.BareDocuments.{bare_fragment, bare_operation}
pub use Rattle.apollo_executable.specs.BareSelections.{bare_field, bare_inline_fragment, bare_selection}
pub use Rattle.apollo_executable.specs.BareSelections.{bare_selection_set}
pub use Rattle.apollo_executable.specs.Erasure.{EF, EI, EL, ES, at_place, erased, erased_definitions}
pub use Rattle.apollo_executable.specs.Erasure.{erased_field, erased_fragment, erased_inline_fragment}
pub use Rattle.apollo_executable.specs.Erasure.{erased_operation, erased_set, erased_spread}
pub use Rattle.apollo_executable.specs.Operations.{all_operations}
pub use Rattle.apollo_executable.specs.declared.document.ExecutableDocument.{ExecutableDocument}
pub use Rattle.apollo_executable.specs.declared.operation.Fragment.{Fragment}
pub use Rattle.apollo_executable.specs.declared.operation.Operation.{Operation}
pub use Rattle.apollo_executable.specs.declared.selection.SelectionSet.{SelectionSet}
pub use Rattle.apollo_document.proofs.Equations.{elaborated-field, elaborated-fragment, faults-field}
pub use Rattle.apollo_document.proofs.Equations.{faults-fragment, is_bare-map, typed_in}
pub use Rattle.apollo_document.proofs.ErasureLemmas.{elaborated-roll, erased-typed-field}
pub use Rattle.apollo_document.proofs.ErasureLemmas.{erased-typed-fragment, erased-typed-spread}
pub use Rattle.apollo_document.proofs.ErasureLemmas.{field_stripped, fragment_stripped}
pub use Rattle.apollo_document.specs.AddedDefinitions.{DocumentItem, as_fragment, as_operation, document_list}
pub use Rattle.apollo_document.specs.AddedDefinitions.{fragment_in, fragments, operation_in, operations}
pub use Rattle.apollo_document.specs.BareErrors.{bare_build_error, bare_path, bare_root}
pub use Rattle.apollo_document.specs.DocumentFaults.{ambiguous_if, definition_faults, document_faults}
pub use Rattle.apollo_document.specs.DocumentFaults.{faults_at, faults_in_fragment, faults_in_operation}
pub use Rattle.apollo_document.specs.DocumentFaults.{operation_faults, rooted_faults}
pub use Rattle.apollo_document.specs.Documents.{IsDocumentOf, IsUnderName}
pub use Rattle.apollo_document.specs.Elaborated.{elaborated, elaborated_selection, field_over, set_of}
pub use Rattle.apollo_document.specs.Elaborated.{typed_field, typed_inline_fragment, typed_spread}
pub use Rattle.apollo_document.specs.KeptDefinitions.{after_first, first_if_anonymous, fragment_under_name}
pub use Rattle.apollo_document.specs.KeptDefinitions.{is_anonymous, is_on_type, is_repeated, is_rooted}
pub use Rattle.apollo_document.specs.KeptDefinitions.{kept_anonymous, kept_fragments, kept_named}
pub use Rattle.apollo_document.specs.KeptDefinitions.{operation_under_name, root_type_of}
pub use Rattle.apollo_document.specs.SelectionFaults.{FN, FS, below_or_wrong, faults_of_selection}
pub use Rattle.apollo_document.specs.SelectionFaults.{faults_of_selections, faults_step, field_faults_step}
pub use Rattle.apollo_document.specs.SelectionFaults.{fragment_faults_step, inside}
pub use Rattle.apollo_document.specs.Stands.{operation_over, root_or_none, typed_fragment, typed_operation}
pub use Rattle.apollo_document.specs.Stripped.{SF, SI, SS, in_place_of, kept_field, kept_fragment}
pub use Rattle.apollo_document.specs.Stripped.{strip_field_step, strip_fragment_step, strip_step, stripped}
pub use Rattle.apollo_document.specs.Stripped.{stripped_selection}
pub use Rattle.apollo_document.specs.Typable.{Wrong, child_of, defined_as, has_type, if_there, if_typable}
pub use Rattle.apollo_document.specs.Typable.{is_bare, leaf_fault, typable_field, typable_fragment, undefined}
pub use Rattle.apollo_document.specs.Typable.{unless_leaf, with_subselections}
pub use Rattle.apollo_document.specs.TypedDefinitions.{IsFragmentOf, IsOperationOf, stripped_fragment}
pub use Rattle.apollo_document.specs.TypedDefinitions.{stripped_operation}
pub use Rattle.apollo_document.specs.declared.build_error.BuildError.{BuildError}
pub use Rattle.apollo_document.specs.declared.selection_path.SelectionPath.{SelectionPath}
pub use Rattle.apollo_canonical.specs.DocumentTextLaws.{DocumentTextLaws, ListLaws}
pub use Rattle.apollo_canonical.specs.DocumentTexts.{BuildDocumentAgain, IsDocumentOfTexts}
pub use Rattle.apollo_canonical.specs.DocumentTexts.{IsReadingOfDocument, added_documents, document_text}
pub use Rattle.apollo_canonical.specs.EqualDocuments.{AreEqualDocuments, AreEqualInOrder, AreEqualItems}
pub use Rattle.apollo_canonical.specs.EqualDocuments.{bare_entry, bare_faults}
pub use Rattle.apollo_canonical.specs.FilledSets.{Each, IsFilledDocument, all_there, each_filled, is_filled}
pub use Rattle.apollo_canonical.specs.FilledSets.{is_filled_set, some_there}
pub use Rattle.apollo_canonical.specs.HandedIn.{HasWellFormedExecutables}
pub use Rattle.apollo_canonical.specs.SchemaTextLaws.{ReadingLaws, TextLaws}
pub use Rattle.apollo_canonical.specs.SchemaTexts.{AddedText, AreRead, BuildAgain, IsBuiltOfTexts}
pub use Rattle.apollo_canonical.specs.SchemaTexts.{IsReadingOf, IsReadingOfDefinitions, Reading, Reads}
pub use Rattle.apollo_canonical.specs.SchemaTexts.{added_texts}
pub use Rattle.apollo_canonical.specs.WellFormedLists.{AreWellFormed, IsWellFormedDefinition}
