-- Words of lists of definitions, of what they mean, and of schemas.
use Rattle.apollo_meaning.specs as meaning
pub use meaning.Completion.Adoption.{adopted, adopted_by, extended_names, orphans_of, schema_orphans}
pub use meaning.Completion.Adoption.{with_adopted}
pub use meaning.Completion.ImpliedSchema.{adopting_schema, default_root, implicit_roots, implied_schema}
pub use meaning.Completion.ImpliedSchema.{is_object_name, schema_for, schema_of_roots}
pub use meaning.Directives.{AreDirectivesOf, Directives, directive_definitions, directive_names, directive_of}
pub use meaning.Directives.{directive_part, has_text, is_handed_in}
pub use meaning.Items.ListItems.{Added, Defined, Extended, Folding, ListItem, OfSchema, OfType, Other}
pub use meaning.Items.ListItems.{SchemaDefined, SchemaExtended, added, added_item, added_items, defined_part}
pub use meaning.Items.ListItems.{defined_schema, extended_part, extended_schema, ignorable_if, item_of}
pub use meaning.Items.Named.{extensions_of, first, first_schema, named, of_kind, schema_extensions}
pub use meaning.Items.Parts.{Root, SchemaPart, TypePart, held_parts, key_of, kind_of, roots_in, same_kind}
pub use meaning.Order.Places.{Family, Placed, extension_places, folded_when, folding_order, is_folded}
pub use meaning.Order.Places.{met_when, once_if_defined, schemas, times_met, types}
pub use meaning.Schema.Definition.{SourcedSchema, no_schema, of_schema, root_in, roots_of, same_operation}
pub use meaning.Schema.Definition.{schema_definition_of, schema_directives_of, schema_extension_source}
pub use meaning.Schema.Definition.{schema_of}
pub use meaning.Schema.Whole.{folds, whole}
pub use meaning.Types.Components.{Sourced, component, component_name, sourced_directives, distinct_entries}
pub use meaning.Types.Components.{distinct_names, fields_of, input_fields_of, names_of, same_component_name}
pub use meaning.Types.Meaning.{AreTypesOf, extension_part, of_type, parts, type_of_kind, type_from}
pub use meaning.Types.Meaning.{type_names, type_of}
pub use Rattle.apollo_schema_laws.proofs.Subjects.{DirectiveNamed, NoSubject, Subject, TheSchema, TypeNamed}
pub use Rattle.apollo_schema_laws.proofs.Subjects.{first-is, found_at-agree, in-subject, same_subject}
pub use Rattle.apollo_schema_laws.proofs.Subjects.{subject, subject_laws}
pub use Rattle.apollo_schema.specs.MeantSchema.{AreOf, MeansSchema}
pub use Rattle.apollo_schema.specs.SchemaWriteOut.{write_directives, write_held_schema_definition}
pub use Rattle.apollo_schema.specs.SchemaWriteOut.{write_held_type, write_schema}
pub use Rattle.apollo_schema.specs.declared.schema.Schema.{Schema}
