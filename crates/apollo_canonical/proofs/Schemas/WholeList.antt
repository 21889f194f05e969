-- A list of well-formed entries is completed with well-formed entries.
use Rattle.apollo_canonical.proofs as canonical
use canonical.Prelude.{Added, AllByRecursion, AreWellFormed, Bool, Directives, IsName, List, ListItem}
use canonical.Prelude.{Mutation, OperationType, Query, Roots, Sort, Subscription, TypePart, [], adopted_part}
use canonical.Prelude.{codes, cond, default_root, false, has, held_parts, implicit_root, implicit_roots}
use canonical.Prelude.{is_object_name, listed, no_parts, refl, schema_of_roots, true, whole, ◌∷◌}
use canonical.Schemas.BuiltIn.{named}
use canonical.Schemas.WellFormedLists.{each-flat_map}
use canonical.Schemas.Items.{EachWellFormed, IsWellFormedItem, IsWellFormedType, each-added, rooted, trees}
use canonical.Schemas.Whole.{each-completed}
use Rattle.graphql_nodes.specs.OperationTexts.{default_type_text}

-- an adopted definition has the name of an extension, and holds nothing
adopted_one : (e : TypePart) → IsWellFormedType e → IsWellFormedType (adopted_part e)
adopted_one e h = record { name = h.name; parts = none }
  where
    by : (s : Sort) (b : Bool) → EachWellFormed (trees s) (cond b (listed no_parts s) [])
    by Directives true = tt
    by s true = tt
    by s false = tt

    none : (s : Sort) → EachWellFormed (trees s) (listed (held_parts (adopted_part e)) s)
    none Directives = by Directives true
    none s = by s (has e.kind s)

-- the default names of roots are names
default_named : (op : OperationType) → IsName (default_type_text op)
default_named Query = named (codes "Query") refl
default_named Mutation = named (codes "Mutation") refl
default_named Subscription = named (codes "Subscription") refl

-- so implicit roots are well-formed
implicit : (xs : List ListItem) → EachWellFormed (trees Roots) (implicit_roots xs)
implicit xs = each-flat_map _ (implicit_root xs) (Query ∷ Mutation ∷ Subscription ∷ [])
    (one Query, (one Mutation, (one Subscription, tt)))
  where
    one : (op : OperationType) → EachWellFormed (trees Roots) (implicit_root xs op)
    one op = by (is_object_name xs (default_type_text op))
      where
        by : (b : Bool) → EachWellFormed (trees Roots) (cond b (default_root op ∷ []) [])
        by true = ((tt, (default_named op, tt)), tt)
        by false = tt

pub each-whole : (adopts : Bool) (xs : List Added) → AreWellFormed xs
    → AllByRecursion IsWellFormedItem (whole adopts xs)
each-whole adopts xs a = each-completed IsWellFormedItem adopted_one
    (λ ys. rooted (schema_of_roots (implicit_roots ys)).parts tt (implicit ys)) adopts _ (each-added xs a)
