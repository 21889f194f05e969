-- The sets that a walk has open.
use Rattle.std.proofs.Common.{◌≡◌, ◌<◌, ℕ, Bool, false, List, [], ◌∷◌, ◌++◌, Option, None, Some, IfNone}
use Rattle.std.proofs.Common.{IfSome, MatchOption, length, get_or, arith, refl, sym, ap, ◌∙◌}
use Rattle.std.proofs.lemmas.List.{reverse-append, map-append, nil_from_length, get_or_read_under, length-map}
use Rattle.std.proofs.lemmas.List.Quantifiers.{position-Some}
use Rattle.std.specs.Option.{option_to_list}
use Rattle.std.specs.Prelude.{nat_eq, position}
use Rattle.graphql_nodes.specs.NameView.{NameView}
use Rattle.graphql_nodes.specs.SameText.{by_text}
use Rattle.graphql_nodes.specs.Tables.{keys_of}
use Rattle.apollo_walks.specs.Selections.{no_names}
use Rattle.apollo_executable.specs.Walks.Left.{marked_names}
use Rattle.apollo_executable.specs.declared.document.ExecutableDocument.{ExecutableDocument}
use Rattle.apollo_executable.proofs.Walking.FlagLemmas.{marked_names-same, marked_names-empty}
use Rattle.apollo_field_usage.specs.Left.{innermost_first}
use Rattle.apollo_field_usage.specs.Seen.{seen_set}
use Rattle.apollo_field_usage.specs.declared.open_sets.OpenSet.{OpenSet}

pub innermost-push : (sets : List OpenSet) (s : OpenSet)
    → innermost_first (sets ++ s ∷ []) ≡ seen_set s ∷ innermost_first sets
unfolding innermost_first
innermost-push sets s = simp (map-append, reverse-append)

pub innermost-empty : innermost_first [] ≡ []
unfolding innermost_first
innermost-empty = refl

pub popped-none : (r : Option OpenSet) (old : List OpenSet) (n : ℕ) → n ≡ length old
    → (P : OpenSet → Type 0) (m : ℕ) → MatchOption r ((n ≡ 0) × (m ≡ 0)) P
    → IfNone r (innermost_first old ≡ [])
popped-none None old n long P m is = ap innermost_first (nil_from_length old (sym long ∙ is.0))
    ∙ innermost-empty
popped-none (Some s) old n long P m is = tt

pub popped-some : (r : Option OpenSet) (old new : List OpenSet) → old ≡ new ++ option_to_list r
    → IfSome r (λ s. innermost_first old ≡ seen_set s ∷ innermost_first new)
popped-some None old new is = tt
popped-some (Some s) old new is = ap innermost_first is ∙ innermost-push new s

-- no name is opened where no place is marked
pub none-marked : (d : ExecutableDocument) (marks : List Bool) → ((k : ℕ) → get_or marks k false ≡ false)
    → marked_names d marks ≡ no_names
none-marked d marks none = marked_names-same d [] marks none ∙ marked_names-empty d [] refl

-- what is read at a place that is there
pub mark-at : (marks : List Bool) (place : ℕ) (found : Bool) → found ≡ get_or marks place found
    → place < length marks → (b : Bool) → found ≡ b → get_or marks place false ≡ b
mark-at marks place found is there b same =
    sym (get_or_read_under marks place (length marks) found false is there refl) ∙ same

-- a key that is found has a place
pub key-there : {V : Type 0} (es : List (NameView × V)) (n : List ℕ) (place : ℕ)
    → position (by_text n) (keys_of es) ≡ Some place → place < length es
key-there es n place is =
    let below = (position-Some (by_text n) (keys_of es) place (record { text = []; location = None }) is).0 in
    omega (arith, below, length-map es (λ e. e.0))

-- a list that is not empty has a first element
pub filled : {A : Type 0} (xs : List A) → (nat_eq (length xs) 0) ≡ false
    → (x : A) × (ys : List A) × (xs ≡ x ∷ ys)
filled [] is = absurd (cc)
filled (x ∷ xs) is = (x, xs, refl)
