-- A name is told apart from the words of its own length alone.
use Rattle.std.proofs.Common.{arith, ◌≡◌, ℕ, Bool, true, cond, List, [], ◌∷◌, length, refl, sym, ◌∙◌}
use Rattle.std.specs.Prelude.{nat_eq}
use Rattle.std.specs.List.{list_all}
use Rattle.std.proofs.lemmas.Bool.{eq-eqb}
use lib.Pointwise.{pointwise, pointwise_long}
use Rattle.graphql_grammar.specs.Kinds.{Kinds}
use Rattle.graphql_grammar.specs.WordsOfText.{keywords, kind_among, name_kind, of_length}
use Rattle.graphql_grammar.specs.declared.kind.Kind.{Kind}
use Rattle.graphql_grammar.specs.declared.kind.Kind.TheVariants as k

-- a text of this length is a word only where the word is as long
as_long : (n : ℕ) (text word : List ℕ) → length text ≡ n → pointwise nat_eq text word ≡ true
    → nat_eq (length word) n ≡ true
as_long n text word long same = eq-eqb (length word) n (sym (pointwise_long nat_eq text word same) ∙ long)

-- what stands first is passed over where it isn't the text
passed : (b : Bool) (x y : Kind) → (b ≡ true → ⊥) → cond b x y ≡ y
passed b x y never = grind (arith, never)

-- the kind that stands with a text of this length stands with a word of this length
pub in_length : (n : ℕ) (table : List (List ℕ × Kind)) (text : List ℕ) → length text ≡ n
    → kind_among (of_length n table) text ≡ kind_among table text
in_length n [] text long = refl
in_length n (x ∷ xs) text long = grind (arith, as_long n text x.0 long, in_length n xs text long)

among_passes : (test : Kinds) → test k.Name ≡ true → (table : List (List ℕ × Kind)) (text : List ℕ)
    → list_all (λ x. test x.1) table ≡ true → test (kind_among table text) ≡ true
among_passes test name [] text all = name
among_passes test name (x ∷ xs) text all = grind (arith, among_passes test name xs text)

-- the kind of a name passes each test that `Name` and all keywords pass
pub name_passes : (test : Kinds) → test k.Name ≡ true → list_all (λ x. test x.1) keywords ≡ true
    → (text : List ℕ) → test (name_kind text) ≡ true
name_passes test name all text = among_passes test name keywords text all
