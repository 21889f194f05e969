-- Equality of what lookups answer.
use Rattle.apollo_meaning.proofs.Prelude.{refl, ap, Some, Compares, same_text}
use Rattle.graphql_nodes.proofs.Comparisons.{At, of_part, and_then, pairs, names}
use Rattle.graphql_nodes.proofs.TableEquality.{sets_of_names, tables_of_names}
use Rattle.graphql_nodes.specs.Comparing.{entries_by_text}
use Rattle.graphql_nodes.specs.Tables.{table_eq}
use Rattle.apollo_types.proofs.TypeEquality.{extended_types}
use Rattle.apollo_schema.specs.EqualLookups.{bare_implementers, bare_field_lookup_error}
use Rattle.apollo_schema.specs.declared.field_lookup_error.FieldLookupError.{FieldLookupError}
use Rattle.apollo_schema.specs.declared.field_lookup_error.FieldLookupError.TheVariants as e
use Rattle.apollo_schema.specs.declared.implementers.Implementers.{Implementers}
use Rattle.apollo_schema.specs.contracts.field_lookup_error.FieldLookupErrorPartialEq.TheImpl as error
use Rattle.apollo_schema.specs.contracts.implementers.ImplementersPartialEq.TheImpl as implementer

pub implementers : Compares implementer.ghosts.eq bare_implementers
implementers = and_then (of_part (λ (i : Implementers). i.objects) sets_of_names)
    (of_part (λ (i : Implementers). i.interfaces) sets_of_names)

pub implementers_maps : Compares (table_eq same_text implementer.ghosts.eq)
    (entries_by_text bare_implementers)
implementers_maps = tables_of_names implementers

error_at : (a b : FieldLookupError) → At error.ghosts.eq bare_field_lookup_error a b
error_at e.NoSuchType e.NoSuchType = (λ _. refl, λ _. refl)
error_at e.NoSuchType b = (λ h. cc, λ h. cc)
error_at (e.NoSuchField n t) (e.NoSuchField n' t') = let w = (pairs names extended_types).at (n.now, t.now)
    (n'.now, t'.now) in (λ h. ap Some (w.0 h), λ h. w.1 cc)
error_at (e.NoSuchField n t) b = (λ h. cc, λ h. cc)

pub field_lookup_errors : Compares error.ghosts.eq bare_field_lookup_error
field_lookup_errors = record { at = error_at }
