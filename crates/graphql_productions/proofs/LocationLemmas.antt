-- The location of a name is the one that has it.
use Rattle.std.proofs.Common.{◌≡◌, ◌≢◌, ℕ, Bool, true, false, List, [], ◌∷◌, Option, None, Some, nat_eq}
use Rattle.std.proofs.Common.{if◌then◌else◌, refl, ap, ◌∙◌, sym}
use Rattle.std.specs.Prelude.{MatchOption}
use lib.Pointwise.{pointwise}
use Rattle.graphql_nodes.specs.declared.directive_location.DirectiveLocation.{DirectiveLocation}
use Rattle.graphql_nodes.specs.declared.directive_location.DirectiveLocation.TheVariants as l
use Rattle.graphql_nodes.proofs.Texts.{same-true}
use Rattle.graphql_nodes.specs.LocationTexts.{location_text}
use Rattle.graphql_productions.specs.Locations.{all_locations, location_of, named_among}

own_name : (location : DirectiveLocation) → location_of (location_text location) ≡ Some location
unfolding location_of
own_name l.Query = refl
own_name l.Mutation = refl
own_name l.Subscription = refl
own_name l.Field = refl
own_name l.FragmentDefinition = refl
own_name l.FragmentSpread = refl
own_name l.InlineFragment = refl
own_name l.VariableDefinition = refl
own_name l.Schema = refl
own_name l.Scalar = refl
own_name l.Object = refl
own_name l.FieldDefinition = refl
own_name l.ArgumentDefinition = refl
own_name l.Interface = refl
own_name l.Union = refl
own_name l.Enum = refl
own_name l.EnumValue = refl
own_name l.InputObject = refl
own_name l.InputFieldDefinition = refl

none_here : (location : DirectiveLocation) (others : Option DirectiveLocation) (text : List ℕ) (same : Bool)
    → pointwise nat_eq (location_text location) text ≡ same → location_text location ≢ text → others ≡ None
    → (if same then Some location else others) ≡ None
none_here location others text true e other rest = absurd (other (same-true (location_text location) text e))
none_here location others text false e other rest = rest

none_of : (locations : List DirectiveLocation) (text : List ℕ)
    → ((location : DirectiveLocation) → location_text location ≢ text) → named_among locations text ≡ None
none_of [] text other = refl
none_of (location ∷ locations) text other = none_here location (named_among locations text) text
    (pointwise nat_eq (location_text location) text) refl (other location) (none_of locations text other)

-- what has this name, or that none has, says which location it is
pub by_name : (answer : Option DirectiveLocation) (text : List ℕ)
    → MatchOption answer ((location : DirectiveLocation) → location_text location
    ≢ text) (λ location. location_text location ≡ text) → answer ≡ location_of text
unfolding location_of
by_name None text other = sym (none_of all_locations text other)
by_name (Some location) text e = sym (own_name location) ∙ ap location_of e
