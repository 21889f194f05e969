-- What several of these proofs cite beside the words of lists of definitions.
pub use Rattle.std.proofs.Common.{set, swap}
pub use Rattle.std.specs.List.{cons_option, last_or}
pub use Rattle.std.specs.List.Sorted.{IsPermutation}
pub use Rattle.std.proofs.lemmas.List.Elements.{filter_agree, filter_passes, recursion_from_All}
pub use Rattle.std.proofs.lemmas.List.Folds.{flat_map-map}
pub use Rattle.std.proofs.lemmas.List.Sorted.{IsPermutation-append, IsPermutation-append_comm}
pub use Rattle.std.proofs.lemmas.List.Sorted.{IsPermutation-append_left, IsPermutation-append_right}
pub use Rattle.std.proofs.lemmas.List.Sorted.{IsPermutation-keeps, IsPermutation-map, IsPermutation-refl}
pub use Rattle.std.proofs.lemmas.List.Sorted.{IsPermutation-sym, IsPermutation-trans}
pub use Rattle.apollo_component.proofs.Lists.Each.{each-append, filter-each, filter-fails, filter-map}
pub use Rattle.apollo_component.proofs.Lists.Ends.{all-kept, filter-push_dropped, filter-push_kept}
pub use Rattle.apollo_component.proofs.Lists.Ends.{filter_map-numbered}
pub use Rattle.apollo_component.proofs.FirstOfEachLemmas.{first_of_each-map}
pub use Rattle.apollo_meaning.specs.Completion.ImpliedSchema.{implicit_roots}
pub use Rattle.apollo_meaning.specs.Directives.{directive_of, directive_part, has_text, is_handed_in}
pub use Rattle.apollo_meaning.specs.Schema.Definition.{same_operation, schema_parts, schema_sourced}
pub use Rattle.apollo_meaning.proofs.Completion.CompletionLemmas.{faults-completed}
pub use Rattle.apollo_meaning.proofs.Items.ItemLemmas.{found-push}
pub use Rattle.apollo_schema_laws.specs.Rearranged.{AreRearranged, DefinitionsOf, directive_meant}
pub use Rattle.apollo_schema_laws.specs.Rearranged.{DirectiveDefinitionsOf, ExtensionsOf, Group, is_in}
pub use Rattle.apollo_schema_laws.specs.Rearranged.{schema_meant, SchemaDefinitions, SchemaExtensions}
pub use Rattle.apollo_schema_laws.specs.Rearranged.{type_meant}
pub use Rattle.apollo_meaning.specs.Faults.ListFaults.{faults_in, faults_of, found_of_schema, found_of_type}
pub use Rattle.apollo_meaning.specs.Faults.RootFaults.{root_fault, root_faults}
pub use Rattle.apollo_meaning.specs.Faults.TypeComponents.{joined_faults}
pub use Rattle.apollo_meaning.specs.Faults.TypeFaults.{joining_fault, kind_mismatch}
pub use Rattle.apollo_meaning.specs.Steps.Joining.{type_begun_faults}
pub use Rattle.apollo_component.proofs.Lists.BySubject.{by_subject, chosen-wider, filter-wider}
pub use Rattle.apollo_component.proofs.Lists.BySubject.{filter_map-wider, IsOwn, IsTest, own-kept}
pub use Rattle.apollo_component.proofs.Lists.Cases.{bool_cases, find-first, find-made, lookup-keyed}
pub use Rattle.apollo_component.proofs.Lists.Cases.{option_cases}
pub use Rattle.apollo_component.proofs.Lists.Reordered.{one-element-permutation}
