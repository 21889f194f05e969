-- What `==` compares of the errors of requests and of new fields, without locations: GraphQL specification of
-- October 2021, sections 2.5 and 6.1.
use Rattle.std.specs.Prelude.{Option, None, Some}
use Rattle.graphql_nodes.specs.Comparing.{bare_name}
use Rattle.graphql_nodes.specs.NameView.{NameView}
use Rattle.apollo_types.specs.BareTypes.{BareType}
use Rattle.apollo_schema.specs.EqualLookups.{bare_field_lookup_error}
use Rattle.apollo_executable.specs.declared.new_field_error.NewFieldError.{NewFieldError}
use Rattle.apollo_executable.specs.declared.new_field_error.NewFieldError.TheVariants as fields
use Rattle.apollo_executable.specs.declared.request_error.RequestError.{RequestError}
use Rattle.apollo_executable.specs.declared.request_error.RequestError.TheVariants as requests

-- nothing if memory ran out, else the name that no operation has, if one was given
abbrev pub bare_request_error : RequestError → Option (Option NameView)
bare_request_error (requests.NoSuchOperation name) = Some (Some (bare_name name.now))
bare_request_error requests.Ambiguous = Some None
bare_request_error requests.Memory = None

-- nothing if memory ran out, else what is compared of the lookup's error
abbrev pub bare_new_field_error : NewFieldError → Option (Option (NameView × BareType))
bare_new_field_error (fields.Lookup error) = Some (bare_field_lookup_error error)
bare_new_field_error fields.Memory = None
