-- A list of definitions means one schema, but for its source files.
use Rattle.apollo_meaning.proofs.Prelude.{◌≡◌, ℕ, Bool, List, map, sym, subst, ◌∙◌, same_text, name_laws}
use Rattle.apollo_meaning.proofs.Prelude.{Directives, Added, ListItem, whole, type_names}
use Rattle.std.specs.List.{IsDistinct}
use Rattle.apollo_component.proofs.FirstOfEachLemmas.{first_of_each-map}
use Rattle.apollo_component.proofs.Tabled.{entries_from_lookups, first_of_each-distinct}
use Rattle.apollo_meaning.specs.Directives.{directive_names}
use Rattle.apollo_meaning.proofs.Types.NameLemmas.{type_names-first}
use Rattle.apollo_schema.specs.MeantSchema.{MeansSchema}
use Rattle.apollo_schema.specs.declared.schema.Schema.{Schema}

-- no two types of a list have one name, and no two directive definitions
type_names-distinct : (xs : List ListItem) → IsDistinct same_text (type_names xs)
type_names-distinct xs = subst (IsDistinct same_text) (sym (type_names-first xs))
    (first_of_each-distinct same_text _)

directive_names-distinct : (ds : Directives) → IsDistinct same_text (directive_names ds)
directive_names-distinct ds = subst (IsDistinct same_text) (sym (first_of_each-map same_text _ ds))
    (first_of_each-distinct same_text (map (λ d. d.value.name) ds))

pub one_schema : (start : ℕ) (adopts : Bool) (xs : List Added) (s t : Schema) → MeansSchema start adopts xs s
    → MeansSchema start adopts xs t → s ≡ record t { sources = s.sources }
one_schema start adopts xs s t a b = λ i. record {
  sources = s.sources;
  schema_definition = definition i;
  directive_definitions = directives i;
  types = types i;
  meta_fields = tt;
}
  where
    definition : s.schema_definition ≡ t.schema_definition
    definition = a.definition ∙ sym b.definition

    directives : s.directive_definitions ≡ t.directive_definitions
    directives = entries_from_lookups name_laws t.directive_definitions s.directive_definitions
        (subst (IsDistinct same_text) (sym b.directives.names) (directive_names-distinct _))
        (a.directives.names ∙ sym b.directives.names) (λ k. a.directives.each k.text
        ∙ sym (b.directives.each k.text))

    types : s.types ≡ t.types
    types = entries_from_lookups name_laws t.types s.types (subst (IsDistinct same_text) (sym b.types.names)
        (type_names-distinct (whole adopts xs))) (a.types.names ∙ sym b.types.names) (λ k. a.types.each k.text
        ∙ sym (b.types.each k.text))
