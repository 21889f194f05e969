use Rattle.apollo_executable.specs.Walks.Plain.{fragments_of, plain}
use Rattle.apollo_walks.specs.Selections.{no_names}
use Rattle.apollo_compiler.proofs.HeadlineLemmas.{ListLaws, is-schema}
use Rattle.apollo_compiler.proofs.KeptLemmas.{document-kept, operations-rooted}
use Rattle.apollo_compiler.proofs.laws.headline.Goals as goal

pub returns-clause-means : goal.returns-clause-means
returns-clause-means c = c.every_list_means_a_schema.ensures

pub returns-clause-schema : goal.returns-clause-schema
returns-clause-schema c =
    let laws : ListLaws = record {
      folded = c.folded_extensions.ensures;
      schema_folded = c.folded_schema_extensions.ensures;
      numbers = c.folded_extensions_have_numbers_of_their_own.ensures.numbers;
      names = c.type_names_are_the_first_of_each_text.ensures;
    } in
    is-schema laws

pub returns-clause-faults : goal.returns-clause-faults
returns-clause-faults c = λ adopts xs. record {
  all_sorts = c.each_fault_is_of_one_sort.ensures.together adopts xs;
  executables = c.reported_executables_are_the_operations_and_fragments.ensures adopts xs;
  further_schemas = c.reported_collisions_are_the_further_definitions.ensures.schemas adopts xs;
  further_directives = c.reported_collisions_are_the_further_definitions.ensures.directives adopts xs;
  further_types = c.reported_collisions_are_the_further_definitions.ensures.types adopts xs;
  orphans = c.reported_orphans_are_the_extensions_without_a_definition.ensures.types adopts xs;
  schema_orphans = c.reported_orphans_are_the_extensions_without_a_definition.ensures.schemas adopts xs;
  mismatches = c.reported_mismatches_are_the_extensions_of_another_kind.ensures.dropped adopts xs;
  components = c.reported_collisions_are_the_dropped_components.ensures.dropped adopts xs;
  undefined = λ n none. (
    c.reported_mismatches_are_the_extensions_of_another_kind.ensures.none adopts xs n none,
    c.reported_collisions_are_the_dropped_components.ensures.none adopts xs n none,
  );
  roots = c.reported_repeated_roots_are_the_dropped_roots.ensures.dropped adopts xs;
  no_roots = c.reported_repeated_roots_are_the_dropped_roots.ensures.none adopts xs;
}

pub returns-clause-rebuilds : goal.returns-clause-rebuilds
returns-clause-rebuilds c = λ schema rebuilt meant ignores start means. record {
  faultless = c.canonical.ensures.faults schema meant ignores;
  equal = c.canonical.ensures.equal schema rebuilt meant ignores start means;
  same = c.canonical.ensures.written schema rebuilt meant ignores start means;
}

pub returns-clause-typed : goal.returns-clause-typed
returns-clause-typed c = c.every_list_means_a_document.ensures

pub returns-clause-keeps : goal.returns-clause-keeps
returns-clause-keeps c = document-kept

pub returns-clause-rooted : goal.returns-clause-rooted
returns-clause-rooted c =
    λ schema xs. operations-rooted schema xs (c.kept_operations_are_rooted.ensures.anonymous schema xs)
    (c.kept_operations_are_rooted.ensures.named schema xs)

pub returns-clause-walks : goal.returns-clause-walks
returns-clause-walks c = λ deep document set.
    let fragments = fragments_of deep document in
    let s = plain deep set.selections in
    let walk = c.walks_reach_each_field_once.ensures fragments s in
    let all = c.walks_take_few_turns.ensures.all fragments s in
    record {
      fields = walk.0;
      walked = walk.1;
      no_others = λ others other. (c.walks_have_one_order.ensures fragments no_names s others walk.0
          other.opened walk.1.opened other.order walk.1.order).0;
      turns = all.0;
      all = all.1;
      no_more = λ others other. c.reachable_names_are_one_list.ensures.turns fragments s others all.0 other
          all.1;
      few = c.walks_take_few_turns.ensures.few fragments s all.0 all.1;
    }

pub returns-clause-begins : goal.returns-clause-begins
returns-clause-begins c = λ deep document set walk new one. one.no_others walk.coming new.coming
