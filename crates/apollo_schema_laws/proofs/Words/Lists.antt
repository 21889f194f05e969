-- Words of lists, options, truth values and numbers, and what is proved of them below.
pub use Rattle.std.proofs.Common.{Bool, List, None, Option, Some, [], ap, append_assoc, arith, cond, drop}
pub use Rattle.std.proofs.Common.{false, filter, find, is_none, is_some, length, length-append, map, map-id}
pub use Rattle.std.proofs.Common.{not, option_map, refl, slice_get, subst, sym, true, true≢false, ℕ, ◌&&◌}
pub use Rattle.std.proofs.Common.{◌++◌, ◌+◌, ◌==◌, ◌||◌, ◌∙◌, ◌∷◌, ◌≡◌, ◌≤◌}
pub use Rattle.std.specs.Cmp.{IsEquivalence, nat_eq_equiv, on_equiv}
pub use Rattle.std.specs.Cmp.Lexicographic.{nat_list_eq_equiv}
unfoldable pub use Rattle.std.specs.List.{IsDistinct}
pub use Rattle.std.specs.List.{flat_map, All, AllByRecursion, cons_option, enumerate_from, filter_map}
pub use Rattle.std.specs.List.{last_or, list_all, list_any, range_with_len}
pub use Rattle.std.specs.List.Sorted.{IsPermutation}
pub use Rattle.std.specs.Option.{IfSome, option_eq, option_map_or, option_or, unwrap_or}
pub use Rattle.std.specs.Prelude.{nat_eq, ◌≢◌}
pub use Rattle.std.proofs.lemmas.Bool.{and_parts, not-true, or_right}
pub use Rattle.std.proofs.lemmas.Bool.Decides.{nat_tests}
pub use Rattle.std.proofs.lemmas.List.{append-nil, length-map, map-append, nil_from_length}
pub use Rattle.std.proofs.lemmas.List.Concat.{flat_map-append}
pub use Rattle.std.proofs.lemmas.List.Elements.{filter-append, filter_agree, filter_map-append, filter_passes}
pub use Rattle.std.proofs.lemmas.List.Elements.{recursion_from_All, All-contains_itself, All-weaker}
pub use Rattle.std.proofs.lemmas.List.Folds.{find-append, flat_map-map, list_any-append}
pub use Rattle.std.proofs.lemmas.List.Sorted.{IsPermutation-append_right, IsPermutation-filter_both}
pub use Rattle.std.proofs.lemmas.List.Sorted.{IsPermutation-map, IsPermutation-refl, IsPermutation-trans}
pub use Rattle.std.proofs.lemmas.List.Sorted.{list_any-IsPermutation, IsPermutation-append_comm}
pub use Rattle.std.proofs.lemmas.Map.{lookup-none}
pub use Rattle.std.proofs.lemmas.Map.Entries.{none_past_head}
pub use Rattle.std.proofs.lemmas.Map.Keys.{IsDistinct-IsPermutation}
pub use Rattle.std.proofs.lemmas.Simd.{map-map}
pub use Rattle.apollo_component.proofs.Lists.Each.{each-append, each-filter, each-weaken, filter-each}
pub use Rattle.apollo_component.proofs.Lists.Each.{filter-fails, filter-map, flat_map-each}
pub use Rattle.apollo_component.proofs.Lists.Ends.{all-kept, filter-all, filter_map-made, filter_map-numbered}
pub use Rattle.apollo_component.proofs.Lists.Ends.{filter_map-unmade, or-none}
pub use Rattle.apollo_component.proofs.Lists.BySubject.{IsOwn, chosen-wider, filter_map-wider}
pub use Rattle.apollo_component.proofs.Lists.BySubject.{none-by_subject, filter-wider}
pub use Rattle.apollo_component.proofs.Lists.Cases.{bool_cases, find-first, find-made, find-none}
pub use Rattle.apollo_component.proofs.Lists.Cases.{found-passes, is_some-map, list_any-map, lookup-keyed}
pub use Rattle.apollo_component.proofs.Lists.Cases.{option_cases}
pub use Rattle.apollo_component.proofs.Lists.Reordered.{one-element-permutation}
pub use Rattle.apollo_component.proofs.Lists.Reordered.{filter-permutation, map-flat_map}
pub use Rattle.apollo_component.proofs.Lists.Kept.{all-first, both-empty, distinct-by_keys}
pub use Rattle.apollo_component.proofs.Lists.Kept.{distinct-from_first, each-both, each-flat_map}
pub use Rattle.apollo_component.proofs.Lists.Kept.{each-flat_map_back, each-from_map, each-made, each-map}
pub use Rattle.apollo_component.proofs.Lists.Kept.{each-of, filter-alike, filter_map-none, filter_map-some}
pub use Rattle.apollo_component.proofs.Lists.Kept.{flat_map-none, flat_map-nothing, found-holds}
pub use Rattle.apollo_component.proofs.Lists.Kept.{found-permuted, grouped-few, groups, if-found}
pub use Rattle.apollo_component.proofs.Lists.Kept.{keys-distinct, map-each, map-empty, option_map-twice}
pub use Rattle.apollo_component.proofs.Lists.Kept.{own-group, passes, same-once}
pub use Rattle.apollo_component.proofs.Lists.Groups.{distinct-filter, each-found, first-in_order, first-shown}
pub use Rattle.apollo_component.proofs.Lists.Groups.{first-shown_again, first_of_each-again}
pub use Rattle.apollo_component.proofs.Lists.Groups.{first_of_each-append, in_order, in_order-map, is_nothing}
pub use Rattle.apollo_component.proofs.Lists.Groups.{marked, new_to-same, new_to_these, shown}
