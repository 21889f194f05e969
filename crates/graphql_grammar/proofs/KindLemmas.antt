-- What holds of each kind in turn holds of all.
use Rattle.std.proofs.Common.{◌≡◌, ℕ, zero, suc, true, List, [], ◌∷◌, Option, None, Some, refl, sym, ap, ◌∙◌}
use Rattle.std.proofs.lemmas.Bool.{and_parts, eqb-true}
use Rattle.graphql_grammar.specs.declared.kind.Kind.{Kind}
use Rattle.graphql_grammar.specs.declared.kind.Kind.TheVariants as k
use Rattle.graphql_grammar.specs.Kinds.{Kinds, all_kinds, each_kind, each_of, only, tag}

-- the kind of this number among these
abbrev nth : ℕ → List Kind → Option Kind
nth n [] = None
nth zero (kind ∷ kinds) = Some kind
nth (suc n) (kind ∷ kinds) = nth n kinds

of_nth : (f : Kinds) (kinds : List Kind) → each_of f kinds ≡ true → (n : ℕ) (kind : Kind)
    → nth n kinds ≡ Some kind → f kind ≡ true
of_nth f [] e n kind at = absurd cc
of_nth f (first ∷ kinds) e zero kind at =
    let same : kind ≡ first = cc in rw same (and_parts (f first) (each_of f kinds) e).0
of_nth f (first ∷ kinds) e (suc n) kind at = of_nth f kinds (and_parts (f first) (each_of f kinds) e).1 n
    kind at

stands : (kind : Kind) → nth (tag kind) all_kinds ≡ Some kind
stands k.Name = refl
stands kind = refl

pub of_each : (f : Kinds) → each_kind f ≡ true → (kind : Kind) → f kind ≡ true
of_each f e kind = of_nth f all_kinds e (tag kind) kind (stands kind)

some_of : (kind other : Kind) → Some kind ≡ Some other → kind ≡ other
some_of kind other e = cc

-- the kind alone is no other
pub only_kind : (kind other : Kind) → only kind other ≡ true → other ≡ kind
only_kind kind other e =
    let same : tag other ≡ tag kind = eqb-true (tag other) (tag kind) e in
    some_of other kind (sym (stands other) ∙ ap (λ (n : ℕ). nth n all_kinds) same ∙ stands kind)
