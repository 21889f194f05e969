-- What `==` compares of what lookups answer, without locations and origins. Of implementers these are the
-- sets of names, and of the error of a field the name and the type. GraphQL specification of October 2021,
-- sections 3.6 and 3.7.
use Rattle.std.specs.Prelude.{ℕ, Bool, List, Option, None, Some}
use Rattle.graphql_nodes.specs.Comparing.{bare_name, members_by_text}
use Rattle.graphql_nodes.specs.NameView.{NameView}
use Rattle.apollo_types.specs.BareTypes.{BareType, bare_extended_type}
use Rattle.apollo_schema.specs.declared.field_lookup_error.FieldLookupError.{FieldLookupError}
use Rattle.apollo_schema.specs.declared.field_lookup_error.FieldLookupError.TheVariants.{NoSuchType}
use Rattle.apollo_schema.specs.declared.field_lookup_error.FieldLookupError.TheVariants.{NoSuchField}
use Rattle.apollo_schema.specs.declared.implementers.Implementers.{Implementers}

-- of each text whether an object type has it as its name, and whether an interface type does
abbrev pub bare_implementers : Implementers → (List ℕ → Bool) × (List ℕ → Bool)
bare_implementers i = (members_by_text (λ n. n) i.objects, members_by_text (λ n. n) i.interfaces)

-- nothing where there is no type, else the type's name and the type
abbrev pub bare_field_lookup_error : FieldLookupError → Option (NameView × BareType)
bare_field_lookup_error NoSuchType = None
bare_field_lookup_error (NoSuchField key type) = Some (bare_name key.now, bare_extended_type type.now)
