-- Well-formed components, those that a type of each kind and the schema have, and what they make together.
use Rattle.apollo_canonical.proofs.Prelude.{AllByRecursion, Bool, Directives, Fields, IfSome, InputFields}
use Rattle.apollo_canonical.proofs.Prelude.{IsWellFormed, List, Names, Part, Parts, Roots, Sort, TypeKind}
use Rattle.apollo_canonical.proofs.Prelude.{Values, arith, filter_map, has, is_directives, is_none, listed}
use Rattle.apollo_canonical.proofs.Prelude.{not, of_sort, parts_of, schema_has, true, ◌&&◌, ◌∷◌, ◌≡◌}
use Rattle.graphql_ast.specs.declared.parts.Part.TheVariants as p
use Rattle.apollo_canonical.proofs.Schemas.Items.{AreWellFormedParts, EachWellFormed, trees}
use Rattle.apollo_canonical.proofs.Schemas.WellFormedLists.{each-chosen}

-- whatever a component is, it is well-formed
abbrev pub IsWellFormedComponent : Part → Type 0
IsWellFormedComponent c = (s : Sort) → IfSome (of_sort s c) (λ n. IsWellFormed (trees s n))

-- the sort of a component
abbrev pub part_sort : Part → Sort
part_sort (p.Directive n) = Directives
part_sort (p.Name n) = Names
part_sort (p.Field n) = Fields
part_sort (p.EnumValue n) = Values
part_sort (p.InputField n) = InputFields
part_sort (p.Root n) = Roots

-- a well-formed component of a sort that may be there
abbrev pub Suits : (Sort → Bool) → Part → Type 0
Suits is_there c = IsWellFormedComponent c × (is_there (part_sort c) ≡ true)

-- components make well-formed parts
pub made_of : (cs : List Part) → AllByRecursion IsWellFormedComponent cs → AreWellFormedParts (parts_of cs)
made_of cs a = by
  where
    each : (s : Sort) → EachWellFormed (trees s) (filter_map (of_sort s) cs)
    each s = each-chosen _ IsWellFormedComponent _ (λ c h. h s) cs a

    by : (s : Sort) → EachWellFormed (trees s) (listed (parts_of cs) s)
    by Directives = each Directives
    by s = each s

-- whether an extension of a type of a kind says anything
abbrev pub says_of_kind : TypeKind → Parts → Bool
says_of_kind kind ps = not (is_none ps.directives && is_directives kind ps)

-- and whether one of the schema does
abbrev pub says_of_schema : Parts → Bool
says_of_schema ps = not (is_none ps.directives && is_none ps.roots)

-- one component is enough
pub one_says : (kind : TypeKind) (c : Part) (cs : List Part) → has kind (part_sort c) ≡ true
    → says_of_kind kind (parts_of (c ∷ cs)) ≡ true
one_says kind c cs h = grind (arith, h)

pub one_says_of_schema : (c : Part) (cs : List Part) → schema_has (part_sort c) ≡ true
    → says_of_schema (parts_of (c ∷ cs)) ≡ true
one_says_of_schema c cs h = grind (arith, h)
