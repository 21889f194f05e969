-- Lists of definitions without their locations, but for the mark of what is built-in. Extensions are folded
-- in the same order in such a list.
use Rattle.apollo_canonical.proofs as canonical
use canonical.Prelude.{Defined, Extended, Folding, List, ListItem, OfSchema, OfType, SchemaDefined}
use canonical.Prelude.{SchemaExtended, SchemaPart, TypePart, [], ap, arith, extensions-unplaced}
use canonical.Prelude.{extensions_of, first-unplaced, first_schema-unplaced, folded_at, folding_order, key_of}
use canonical.Prelude.{map, map-append, map-id, map-map, of_kind-unplaced, refl, schema_extensions-unplaced}
use canonical.Prelude.{schemas_folded_at, sym, true, types_folded_at, unplaced_item, unplaced_list}
use canonical.Prelude.{unplaced_part, unplaced_schema_part, ◌++◌, ◌∙◌, ◌≡◌}
use canonical.Schemas.Carried.{each_after-carried}
use Rattle.apollo_meaning.proofs.Order.MomentLemmas.{folding_order-forget}

abbrev pub plain_part : TypePart → TypePart
plain_part = unplaced_part true

abbrev pub plain_schema_part : SchemaPart → SchemaPart
plain_schema_part = unplaced_schema_part true

abbrev pub plain_item : ListItem → ListItem
plain_item = unplaced_item true

abbrev pub plain_list : List ListItem → List ListItem
plain_list = unplaced_list true

-- an extension that is folded
abbrev pub plain_folding : Folding → Folding
plain_folding (OfType p) = OfType (plain_part p)
plain_folding (OfSchema s) = OfSchema (plain_schema_part s)

types-folded : (before : List ListItem) (x : ListItem)
    → types_folded_at (plain_list before) (plain_item x) ≡ map plain_part (types_folded_at before x)
types-folded before (Defined d) = grind (
  arith,
  first-unplaced true before (key_of d),
  extensions-unplaced true before (key_of d),
  of_kind-unplaced true d (extensions_of before (key_of d)),
)
types-folded before (Extended e) = grind (arith, first-unplaced true before (key_of e))
types-folded before x = refl

schemas-folded : (before : List ListItem) (x : ListItem)
    → schemas_folded_at (plain_list before) (plain_item x)
    ≡ map plain_schema_part (schemas_folded_at before x)
schemas-folded before (SchemaDefined s) =
    grind (arith, first_schema-unplaced true before, schema_extensions-unplaced true before)
schemas-folded before (SchemaExtended e) = grind (arith, first_schema-unplaced true before)
schemas-folded before x = refl

all-folded : (before : List ListItem) (x : ListItem)
    → map (λ f. f) (folded_at (plain_list before) (plain_item x)) ≡ map plain_folding (folded_at before x)
all-folded before x = map-id _ ∙ (λ i. map OfType (types-folded before x i)
    ++ map OfSchema (schemas-folded before x i)) ∙ simp (map-append, map-map)

pub folding_order-plain : (xs : List ListItem)
    → folding_order (plain_list xs) ≡ map plain_folding (folding_order xs)
folding_order-plain xs = folding_order-forget (plain_list xs) ∙ sym (map-id _)
    ∙ each_after-carried folded_at folded_at plain_item (λ f. f) plain_folding all-folded [] xs
    ∙ ap (map plain_folding) (sym (folding_order-forget xs))
