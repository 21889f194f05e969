-- What extensions hold: where there is no part, there are no words; and a directive may always stand there.
use Rattle.std.proofs.Common.{Bool, List, None, Option, Some, [], ap, false, not, refl, suc, sym, true, zero}
use Rattle.std.proofs.Common.{ℕ, ◌&&◌, ◌++◌, ◌∙◌, ◌∷◌, ◌≡◌}
use Rattle.graphql_nodes.specs.declared.source.FileId.{FileId}
use Rattle.graphql_nodes.specs.declared.type_kind.TypeKind.{TypeKind}
use Rattle.graphql_nodes.specs.declared.type_kind.TypeKind.TheVariants as t
use Rattle.graphql_ast.specs.declared.directive.DirectiveList.{DirectiveList}
use Rattle.graphql_ast.specs.declared.parts.Parts.{Parts}
use Rattle.graphql_grammar.specs.declared.fault.Item.TheVariants as i
use Rattle.graphql_grammar.specs.declared.kind.Kind.{Kind}
use Rattle.graphql_grammar.specs.declared.kind.Kind.TheVariants as k
use Rattle.graphql_grammar.specs.Pieces.{Piece, Wrong, filtered, many, mapped, optional, seq}
use Rattle.graphql_grammar.specs.Words.{WordView}
use Rattle.graphql_grammar.specs.Kinds.{none}
use Rattle.graphql_grammar.proofs.ViableLaws.{Begins, GoesOn, filtered_begins, none_goes_on}
use Rattle.graphql_grammar.proofs.PieceLaws.{filtered_law, joined}
use Rattle.graphql_grammar.proofs.BlindLaws.{filtered_blind}
use Rattle.graphql_grammar.proofs.CleanLaws.{filtered_clean}
use Rattle.graphql_productions.specs.Directives.{arguments, directive, directive_node, directives}
use Rattle.graphql_productions.specs.Nodes.{between, name, or_none}
use Rattle.graphql_productions.specs.Operations.{no_root}
use Rattle.graphql_productions.specs.TypeSystem.{enum_parts, enum_value_definition, enum_values, expecting}
use Rattle.graphql_productions.specs.TypeSystem.{field_definition, fielded, fielded_parts, fields, has_part}
use Rattle.graphql_productions.specs.TypeSystem.{input_parts, input_value, input_values, is_none}
use Rattle.graphql_productions.specs.TypeSystem.{names_behind, names_body, no_enum_value, optional_roots}
use Rattle.graphql_productions.specs.TypeSystem.{parts, root, roots, scalar_parts, schema_parts, union_parts}
use Rattle.graphql_productions.proofs.TamePieces.{Nesting, Tame, mapped_tame, optional_tame, seq_tame}
use Rattle.graphql_productions.proofs.NodeLaws.{braced}
use Rattle.graphql_productions.proofs.DirectiveLaws.{directive_tame, directives_tame}
use Rattle.graphql_productions.proofs.TypeSystemLaws.{parts_tame, roots_led}

-- what stands behind `extend schema`
abbrev pub schema_extension_parts : FileId → ℕ → Piece Parts
schema_extension_parts file depth =
    mapped schema_parts (seq (directives file true depth) (optional_roots file depth))

-- ---- lists that are never empty

-- no words spell the empty list
abbrev Filled : {A : Type 0} → Piece (List A) → Type 0
Filled {A} p = (xs : List A) (front : List WordView) → p.spells xs front → is_none xs ≡ false

pub braced_filled : {A : Type 0} (wrong : Wrong) (p : ℕ → Piece A) (depth : ℕ) → Filled (braced wrong p depth)
braced_filled wrong p zero xs front h = absurd h
braced_filled wrong p (suc depth) xs front h = ap is_none h.1 ∙ ap is_none h.2.second.first.1

names_filled : (file : FileId) (opening between : Kind) → Filled (names_body file opening between)
names_filled file opening between xs front h = ap is_none h.1 ∙ ap is_none h.2.second.1

-- ---- no words where there is no part

nothing_left_out : {A : Type 0} (p : Piece (List A)) → Filled p
    → (o : Option (List A)) (front : List WordView) → (optional p).spells o front → is_none (or_none o) ≡ true
    → front ≡ []
nothing_left_out p filled None front h none = h
nothing_left_out p filled (Some xs) front h none = absurd (let both = sym none ∙ filled xs front h in cc)

-- a list that may be left out
list_words : {A : Type 0} (p : Piece (List A)) → Filled p → (xs : List A) (front : List WordView)
    → (mapped or_none (optional p)).spells xs front → is_none xs ≡ true → front ≡ []
list_words p filled xs front h none = nothing_left_out p filled h.0 front h.2 (sym (ap is_none h.1) ∙ none)

many_words : {A : Type 0} (p : Piece A) (xs : List A) (front : List WordView) → (many p).spells xs front
    → is_none xs ≡ true → front ≡ []
many_words p [] front h none = h
many_words p (x ∷ xs) front h none = absurd cc

directive_words : (file : FileId) (depth : ℕ) (x : DirectiveList) (front : List WordView)
    → (directives file true depth).spells x front → is_none x.0 ≡ true → front ≡ []
unfolding directives
directive_words file depth x front h none = many_words (directive file true depth) h.0 front h.2
    (sym (ap (λ (y : DirectiveList). is_none y.0) h.1) ∙ none)

no_words : (front head tail : List WordView) → front ≡ head ++ tail → head ≡ [] → tail ≡ [] → front ≡ []
no_words front head tail whole h g = whole ∙ ap (λ (l : List WordView). l ++ tail) h ∙ g

-- directives, and such a list
directed_words : {A : Type 0} (file : FileId) (depth : ℕ) (p : Piece (List A)) → Filled p
    → (x : DirectiveList × List A) (front : List WordView)
    → (seq (directives file true depth) (mapped or_none (optional p))).spells x front → is_none x.0.0 ≡ true
    → is_none x.1 ≡ true → front ≡ []
directed_words file depth p filled x front h d l = no_words front h.head h.tail h.whole
    (directive_words file depth x.0 h.head h.first d) (list_words p filled x.1 h.tail h.second l)

-- ---- flags

both_flags : (a b : Bool) → not (a && b) ≡ false → (a ≡ true) × (b ≡ true)
both_flags true true e = (refl, refl)
both_flags true false e = absurd cc
both_flags false b e = absurd cc

one_flag : (a : Bool) → not (a && true) ≡ false → a ≡ true
one_flag a e = (both_flags a true e).0

two_flags : (a b : Bool) → not (a && (b && true)) ≡ false → (a ≡ true) × (b ≡ true)
two_flags a true e = both_flags a true e
two_flags a false e = both_flags a false e

-- ---- what stands behind the name of an extension

fielded_words : (file : FileId) (depth : ℕ) (x : Parts) (front : List WordView)
    → (fielded file depth).spells x front → has_part x ≡ false → front ≡ []
unfolding fielded names_behind fields
fielded_words file depth x front h e =
    let f = both_flags (is_none h.0.1.0.0) (is_none h.0.0 && (is_none h.0.1.1 && true)) (sym (ap has_part h.1)
    ∙ e) in
    let g = two_flags (is_none h.0.0) (is_none h.0.1.1) (ap not f.1) in
    no_words front h.2.head h.2.tail h.2.whole (list_words (names_body file k.Implements k.Ampersand)
    (names_filled file k.Implements k.Ampersand) h.0.0 h.2.head h.2.first g.0)
    (directed_words file depth (braced (expecting i.FieldDefinition) (field_definition file) depth)
    (braced_filled (expecting i.FieldDefinition) (field_definition file) depth) h.0.1 h.2.tail h.2.second
    f.0 g.1)

parts_words : (file : FileId) (kind : TypeKind) (depth : ℕ) (x : Parts) (front : List WordView)
    → (parts file kind depth).spells x front → has_part x ≡ false → front ≡ []
unfolding parts names_behind enum_values input_values
parts_words file t.Scalar depth x front h e =
    directive_words file depth h.0 front h.2 (one_flag (is_none h.0.0) (sym (ap has_part h.1) ∙ e))
parts_words file t.Object depth x front h e = fielded_words file depth x front h e
parts_words file t.Interface depth x front h e = fielded_words file depth x front h e
parts_words file t.Union depth x front h e =
    let f = two_flags (is_none h.0.0.0) (is_none h.0.1) (sym (ap has_part h.1) ∙ e) in
    directed_words file depth (names_body file k.Equals k.Pipe) (names_filled file k.Equals k.Pipe) h.0 front
    h.2 f.0 f.1
parts_words file t.Enum depth x front h e =
    let f = two_flags (is_none h.0.0.0) (is_none h.0.1) (sym (ap has_part h.1) ∙ e) in
    directed_words file depth (braced no_enum_value (enum_value_definition file) depth)
    (braced_filled no_enum_value (enum_value_definition file) depth) h.0 front h.2 f.0 f.1
parts_words file t.InputObject depth x front h e =
    let f = two_flags (is_none h.0.0.0) (is_none h.0.1) (sym (ap has_part h.1) ∙ e) in
    directed_words file depth (braced (expecting i.InputValue) (input_value file) depth)
    (braced_filled (expecting i.InputValue) (input_value file) depth) h.0 front h.2 f.0 f.1

schema_parts_words : (file : FileId) (depth : ℕ) (x : Parts) (front : List WordView)
    → (schema_extension_parts file depth).spells x front → has_part x ≡ false → front ≡ []
schema_parts_words file depth x front h e =
    let f = both_flags (is_none h.0.0.0) (is_none h.0.1) (sym (ap has_part h.1) ∙ e) in
    directed_words file depth (roots file depth) (braced_filled no_root (λ _. root file) depth) h.0 front h.2
    f.0 f.1

-- ---- one directive

module _ (file : FileId) (depth : ℕ) where
  -- a directive, and its words
  abbrev directive_there : Begins (directive file true depth) (directive file true (suc depth))
  directive_there = let t : Tame (directive file true depth) (directive file true (suc depth)) =
      directive_tame file true depth in t.goes

  abbrev one_directive : DirectiveList
  one_directive = record { 0 = directive_there.value ∷ [] }

  abbrev directive_front : List WordView
  directive_front = directive_there.words ++ []

  directive_spelled : (directives file true (suc depth)).spells one_directive directive_front
  unfolding directives
  directive_spelled = (
    directive_there.value ∷ [],
    refl,
    joined directive_there.words [] directive_there.some refl,
  )

  -- it, and a list that is left out
  directed_spelled : {A : Type 0} (p : Piece (List A))
      → (seq (directives file true (suc depth)) (mapped or_none (optional p))).spells (one_directive, [])
      (directive_front ++ [])
  directed_spelled p = joined directive_front [] directive_spelled (None, refl, refl)

  directed_there : {A : Type 0} (f : DirectiveList × List A → Parts) (p : Piece (List A))
      → has_part (f (one_directive, [])) ≡ true
      → GoesOn has_part (mapped f (seq (directives file true (suc depth))
      (mapped or_none (optional p)))).spells []
  directed_there f p passes = record {
    more = directive_front ++ [];
    value = f (one_directive, []);
    spelled = ((one_directive, []), refl, directed_spelled p);
    passes = passes;
  }

  fielded_there : GoesOn has_part (fielded file (suc depth)).spells []
  unfolding fielded names_behind fields
  fielded_there = record {
    more = directive_front ++ [];
    value = fielded_parts ([], (one_directive, []));
    spelled = (
      ([], (one_directive, [])),
      refl,
      joined [] (directive_front ++ []) (None, refl, refl)
          (directed_spelled (braced (expecting i.FieldDefinition) (field_definition file) (suc depth))),
    );
    passes = refl;
  }

  parts_there : (kind : TypeKind) → GoesOn has_part (parts file kind (suc depth)).spells []
  unfolding parts names_behind enum_values input_values
  parts_there t.Scalar = record {
    more = directive_front;
    value = scalar_parts one_directive;
    spelled = (one_directive, refl, directive_spelled);
    passes = refl;
  }
  parts_there t.Object = fielded_there
  parts_there t.Interface = fielded_there
  parts_there t.Union = directed_there union_parts (names_body file k.Equals k.Pipe) refl
  parts_there t.Enum = directed_there enum_parts (braced no_enum_value (enum_value_definition file)
      (suc depth)) refl
  parts_there t.InputObject = directed_there input_parts (braced (expecting i.InputValue) (input_value file)
      (suc depth)) refl

-- ---- where a part is missed, a directive may follow

part_tame : {p q : Piece Parts} → Tame p q → GoesOn has_part q.spells []
    → ((x : Parts) (front : List WordView) → q.spells x front → has_part x ≡ false → front ≡ [])
    → Tame (filtered has_part (expecting i.ExtensionPart) p) (filtered has_part (expecting i.ExtensionPart) q)
part_tame {p} {q} t g none = record {
  law = filtered_law has_part (expecting i.ExtensionPart) p t.law;
  blind = filtered_blind has_part (expecting i.ExtensionPart) t.blind;
  clean = filtered_clean (expecting i.ExtensionPart) t.clean;
  goes = filtered_begins has_part (expecting i.ExtensionPart) t.law t.goes (none_goes_on has_part q g.value
      g.more g.spelled g.passes none);
}

pub extension_parts_tame : (file : FileId) (kind : TypeKind)
    → Nesting (λ depth. filtered has_part (expecting i.ExtensionPart) (parts file kind depth))
extension_parts_tame file kind depth = part_tame (parts_tame file kind depth) (parts_there file depth kind)
    (parts_words file kind (suc depth))

pub schema_extension_tame : (file : FileId)
    → Nesting (λ depth. filtered has_part (expecting i.ExtensionPart) (schema_extension_parts file depth))
unfolding directives directive_node arguments name
schema_extension_tame file depth =
    part_tame (mapped_tame (seq_tame (directives_tame file true depth)
    (mapped_tame (optional_tame (roots_led file depth) refl)) refl)) (directed_there file depth schema_parts
    (roots file (suc depth)) refl) (schema_parts_words file (suc depth))
