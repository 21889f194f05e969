-- What ends the parts of definitions and extensions. Where what stands between braces is left out, a `{` goes
-- on with them, and is always taken.
use Rattle.std.proofs.Common.{Bool, List, None, Option, Some, ap, false, not, refl, subst, sym, true, ℕ, ◌&&◌}
use Rattle.std.proofs.Common.{◌∙◌, ◌≡◌}
use Rattle.graphql_nodes.specs.declared.source.FileId.{FileId}
use Rattle.graphql_nodes.specs.declared.type_kind.TypeKind.{TypeKind}
use Rattle.graphql_nodes.specs.declared.type_kind.TypeKind.TheVariants as t
use Rattle.graphql_grammar.specs.declared.fault.Item.TheVariants as i
use Rattle.graphql_grammar.specs.declared.kind.Kind.{Kind}
use Rattle.graphql_grammar.specs.declared.kind.Kind.TheVariants as k
use Rattle.graphql_grammar.specs.Kinds.{Kinds, each_kind, none, only}
use Rattle.graphql_grammar.specs.Pieces.{Piece, Wrong, mapped, optional, seq}
use Rattle.graphql_grammar.specs.Words.{WordView}
use Rattle.graphql_grammar.proofs.EndsLaws.{Bounded, Limits, lawful_bounded, mapped_bounded, never}
use Rattle.graphql_grammar.proofs.EndsLaws.{optional_bounded, optional_limits, same_limits, seq_bounded}
use Rattle.graphql_grammar.proofs.EndsLaws.{stops_by, wider, within}
use Rattle.graphql_grammar.proofs.PieceLaws.{Lawful, Stops, if_then, implied}
use Rattle.graphql_grammar.proofs.KindLemmas.{of_each}
use Rattle.graphql_productions.specs.Directives.{arguments, directive_node, directives}
use Rattle.graphql_productions.specs.Nodes.{name, or_none}
use Rattle.graphql_productions.specs.Operations.{no_root}
use Rattle.graphql_productions.specs.TypeSystem.{enum_value_definition, enum_values, expecting}
use Rattle.graphql_productions.specs.TypeSystem.{field_definition, fielded, fields, goes_on_type, input_value}
use Rattle.graphql_productions.specs.TypeSystem.{input_values, is_none, names_behind, no_enum_value, parts}
use Rattle.graphql_productions.specs.TypeSystem.{parts_take, root}
use Rattle.graphql_productions.proofs.TamePieces.{Disjoint, Leading, disjoint}
use Rattle.graphql_productions.proofs.NodeLaws.{braced}
use Rattle.graphql_productions.proofs.DirectiveLaws.{directives_tame}
use Rattle.graphql_productions.proofs.TypeSystemLaws.{enum_values_led, fields_led, implementing_tame}
use Rattle.graphql_productions.proofs.TypeSystemLaws.{input_fields_led, parts_tame, roots_led}
use Rattle.graphql_productions.proofs.ExtensionParts.{braced_filled, schema_extension_parts}

-- what goes on with a definition, but for `{`
abbrev pub goes_on_plainly : Kinds
goes_on_plainly kind = goes_on_type kind && not (only k.LeftBrace kind)

-- what ends a value that takes braces, or takes none
abbrev pub limits : Bool → Limits
limits true = record { more = goes_on_type; taken = only k.LeftBrace }
limits false = record { more = goes_on_plainly; taken = none }

-- each value of a piece ends so, by whether it takes braces
abbrev pub Braced : {A : Type 0} → Piece A → (A → Bool) → Type 0
Braced p takes = Bounded p (λ x. limits (takes x))

-- ---- pieces that take no braces, or as many as others

pub plain : {A : Type 0} (p : Piece A) → Lawful p
    → each_kind (λ kind. if_then (not (goes_on_plainly kind)) (p.more kind)) ≡ true → Braced p (λ _. false)
plain p pl e = wider p (same_limits p.more) (λ _. limits false) (lawful_bounded p pl)
    (λ x front h rest stops. stops_by goes_on_plainly p.more (within p.more goes_on_plainly e) rest stops)
    (λ x front h rest stops. stops)

pub mapped_braced : {A B : Type 0} {f : A → B} {p : Piece A} (takes : A → Bool) (other : B → Bool)
    → Braced p takes → ((x : A) → takes x ≡ other (f x)) → Braced (mapped f p) other
mapped_braced {f = f} {p = p} takes other pb same =
    mapped_bounded f p (λ x. limits (other x)) (wider p (λ x. limits (takes x)) (λ x. limits (other (f x))) pb
    (λ x front h rest stops. subst (λ (b : Bool). Stops (limits b).more rest) (sym (same x)) stops)
    (λ x front h rest stops. subst (λ (b : Bool). Stops (limits b).taken rest) (same x) stops))

never_plainly : (takes : Bool) (kind : Kind) → (limits takes).more kind ≡ false → goes_on_plainly kind ≡ false
never_plainly true kind h = ap (λ (b : Bool). b && not (only k.LeftBrace kind)) h
never_plainly false kind h = h

not_going : (more empty after : Bool) → implied (more && empty) after ≡ true → empty ≡ true → after ≡ false
    → more ≡ false
not_going true true after e h ends = absurd (let both = sym e ∙ ends in cc)
not_going true false after e h ends = absurd cc
not_going false empty after e h ends = refl

-- the last of several takes braces
pub seq_braced : {A B : Type 0} {p : Piece A} {q : Piece B} (takes : B → Bool) → Lawful p → Braced q takes
    → Disjoint p.more q.first
    → each_kind (λ kind. implied (p.more kind && q.may_be_empty) (goes_on_plainly kind)) ≡ true
    → Braced (seq p q) (λ x. takes x.1)
seq_braced {p = p} {q = q} takes pl qb far passes = seq_bounded p q pl qb.lawful (λ x. limits (takes x.1))
    (λ _. qb) (disjoint p.more q.first far) (λ x empty kind ends. not_going (p.more kind) q.may_be_empty
    (goes_on_plainly kind) (of_each (λ kind. implied (p.more kind && q.may_be_empty) (goes_on_plainly kind))
    passes kind) empty (never_plainly (takes x.1) kind ends))

-- ---- lists between braces

module _ {A : Type 0} (wrong : Wrong) (p : ℕ → Piece A) (t : Leading (braced wrong p)) (depth : ℕ) where
  abbrev list : Piece (List A)
  list = braced wrong p depth

  list_more : (o : Option (List A)) (front : List WordView) → (optional list).spells o front
      → (rest : List WordView) → Stops (limits (is_none (or_none o))).more rest
      → Stops (optional_limits (only k.LeftBrace) (same_limits none) o).more rest
  list_more None front h rest stops =
      stops_by goes_on_type (only k.LeftBrace) (within (only k.LeftBrace) goes_on_type refl) rest stops
  list_more (Some xs) front h rest stops = never rest

  list_taken : (o : Option (List A)) (front : List WordView) → (optional list).spells o front
      → (rest : List WordView) → Stops (optional_limits (only k.LeftBrace) (same_limits none) o).taken rest
      → Stops (limits (is_none (or_none o))).taken rest
  list_taken None front h rest stops = stops
  list_taken (Some xs) front h rest stops = subst (λ (b : Bool). Stops (limits b).taken rest)
      (sym (braced_filled wrong p depth xs front h)) stops

  -- a list that may be left out takes braces where it is
  list_braced : Braced (mapped or_none (optional list)) is_none
  list_braced = mapped_bounded or_none (optional list) (λ xs. limits (is_none xs))
      (wider (optional list) (optional_limits (only k.LeftBrace) (same_limits none))
      (λ o. limits (is_none (or_none o))) (optional_bounded list refl (same_limits none)
      (lawful_bounded list (t depth).law)) list_more list_taken)

-- directives, and such a list
module _ (file : FileId) (depth : ℕ) where
  directed_braced : {A : Type 0} (wrong : Wrong) (p : ℕ → Piece A) → Leading (braced wrong p)
      → Braced (seq (directives file true depth) (mapped or_none (optional (braced wrong p depth))))
      (λ x. is_none x.1)
  unfolding directives directive_node arguments name
  directed_braced wrong p t = seq_braced is_none (directives_tame file true depth).law
      (list_braced wrong p t depth) refl refl

  fielded_braced : Braced (fielded file depth) (λ x. is_none x.fields)
  unfolding fielded fields names_behind directives directive_node arguments name
  fielded_braced = mapped_braced (λ x. is_none x.1.1) (λ x. is_none x.fields) (seq_braced (λ x. is_none x.1)
      (implementing_tame file).law (directed_braced (expecting i.FieldDefinition) (field_definition file)
      (fields_led file)) refl refl) (λ x. refl)

  pub parts_braced : (kind : TypeKind) → Braced (parts file kind depth) (parts_take kind)
  unfolding parts names_behind enum_values input_values directives directive_node arguments name
  parts_braced t.Scalar = plain (parts file t.Scalar depth) (parts_tame file t.Scalar depth).law refl
  parts_braced t.Object = fielded_braced
  parts_braced t.Interface = fielded_braced
  parts_braced t.Union = plain (parts file t.Union depth) (parts_tame file t.Union depth).law refl
  parts_braced t.Enum = mapped_braced (λ x. is_none x.1) (λ x. is_none x.values)
      (directed_braced no_enum_value (enum_value_definition file) (enum_values_led file)) (λ x. refl)
  parts_braced t.InputObject = mapped_braced (λ x. is_none x.1) (λ x. is_none x.input_fields)
      (directed_braced (expecting i.InputValue) (input_value file) (input_fields_led file)) (λ x. refl)

  pub schema_parts_braced : Braced (schema_extension_parts file depth) (λ x. is_none x.roots)
  schema_parts_braced = mapped_braced (λ x. is_none x.1) (λ x. is_none x.roots)
      (directed_braced no_root (λ _. root file) (roots_led file)) (λ x. refl)
