-- The extensions that are folded are all those of the list, in its order.
use Rattle.apollo_meaning.proofs.Prelude.{◌≡◌, List, map, ◌∙◌, Some, kind_of, first, of_kind, folded, ℕ}
use Rattle.apollo_meaning.proofs.Prelude.{SchemaPart, ListItem, first_schema, extensions_of, folding_order}
use Rattle.apollo_meaning.proofs.Prelude.{TypePart, schema_extensions, extensions_with_origin, schema_sourced}
use Rattle.apollo_meaning.proofs.Items.PartLemmas.{of_name}
use Rattle.apollo_meaning.proofs.Order.MomentLemmas.{folding_order-forget}
use Rattle.apollo_meaning.proofs.Schema.SchemaLemmas.{schema_sourced-parts}
use Rattle.apollo_meaning.proofs.Types.TypeLemmas.{extensions_with_origin-forget}

-- those of a name are those of its kind
pub folded-of_name : (start : ℕ) (xs : List ListItem) (n : List ℕ) (d : TypePart) → first xs n ≡ Some d
    → map (λ s. s.1) (extensions_with_origin n start (folding_order xs))
    ≡ of_kind (kind_of d) (extensions_of xs n)
folded-of_name start xs n d is =
    rw (folding_order-forget xs) (extensions_with_origin-forget n start (folded xs) ∙ of_name xs n d is)

-- those of the schema, once it has a definition
pub folded-of_schema : (start : ℕ) (xs : List ListItem) (s : SchemaPart) → first_schema xs ≡ Some s
    → map (λ e. e.1) (schema_sourced start (folding_order xs)) ≡ schema_extensions xs
folded-of_schema start xs s some = rw (folding_order-forget xs) (schema_sourced-parts start xs s some)
