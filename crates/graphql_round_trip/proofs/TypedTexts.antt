-- Texts of references to types: GraphQL specification of October 2021, section 2.11.
use Rattle.std.proofs.Common.{◌≡◌, ◌≤◌, ℕ, zero, suc, false, List, [], ◌++◌, Option, None, Some, option_map}
use Rattle.std.proofs.Common.{refl, sym, ap, subst, ◌∙◌, append_assoc, arith, true, ◌∷◌, map, ◌+◌, Bool}
use Rattle.std.specs.Prelude.{codes, if◌then◌else◌}
use Rattle.std.proofs.lemmas.List.{append-nil}
use Rattle.graphql_nodes.specs.Comparing.{bare_name, bare_node}
use Rattle.graphql_nodes.specs.NameSyntax.{IsName}
use Rattle.graphql_nodes.specs.NameView.{NameView}
use Rattle.graphql_nodes.specs.declared.source.FileId.{FileId}
use Rattle.graphql_ast.specs.Bare.{bare_type, type_step as bare_step, bare_directive_list, bare_value}
use Rattle.graphql_ast.specs.TypeReferences.{made_non_null, non_null_step}
use Rattle.graphql_ast.specs.declared.type_reference.Type.{«Type» as TypeReference, Named, «List» as ListOf}
use Rattle.graphql_ast.specs.declared.type_reference.Type.{fold-roll-Type, ind-Type, roll-Type}
use Rattle.graphql_ast.specs.declared.type_reference.Type.TheFolds.{map-Type}
use Rattle.graphql_ast.specs.declared.type_reference.Type.TheOpen.{Type-F}
use Rattle.graphql_ast.specs.declared.type_reference.Type.TheViews.{out-roll-Type, roll-out-Type}
use Rattle.graphql_grammar.specs.declared.fault.FaultKind.TheVariants.{Expected}
use Rattle.graphql_grammar.specs.Kinds.{is_name, only}
use Rattle.graphql_grammar.specs.Pieces.{Piece, branch, headed, nothing, optional, sign}
use Rattle.graphql_productions.specs.TreeParts.{TreePart, name_parts, type_parts, type_step as part_step}
use Rattle.graphql_productions.specs.TreeParts.{directives_parts, node_parts, option_parts, value_parts, Name}
use Rattle.graphql_productions.specs.Types.{is_type, list_type_of, named_type, nested_list_type, no_type}
use Rattle.graphql_productions.specs.Types.{required_where, type, type_by, type_pick}
use Rattle.graphql_productions.specs.WellFormed.{IsWellFormed}
use Rattle.graphql_printing.specs.Texts.{type_step as text_step, type_text, directives_text, value_text}
use Rattle.graphql_round_trip.specs.Nesting.{type_level, type_nesting, default_nesting, directives_nesting}
use Rattle.graphql_round_trip.specs.Nesting.{greatest, value_nesting, between, variable_nesting}
use Rattle.graphql_round_trip.specs.Nesting.{input_nesting}
use Rattle.graphql_round_trip.specs.Printed.{Prints, anything, ends_token}
use Rattle.graphql_round_trip.proofs.HeadTexts.{first_text, is_none_of, second_text}
use Rattle.graphql_round_trip.proofs.PieceTexts.{regrouped, grouped5, grouped6, between_prints, loosely}
use Rattle.graphql_round_trip.proofs.PieceTexts.{name_prints, sign_prints, node_prints, sign_before, Opens}
use Rattle.graphql_round_trip.proofs.PieceTexts.{both_seen, branch_at, branch_text, headed_text, heads_on}
use Rattle.graphql_round_trip.proofs.PieceTexts.{mapped_text, none_text, one_text, seq_text, sign_or_text}
use Rattle.graphql_round_trip.proofs.PieceTexts.{there, token_heads, behind_blank, item_text, IsApart}
use Rattle.graphql_round_trip.proofs.PieceTexts.{name_heads, apart_joined, directives_apart}
use Rattle.graphql_round_trip.proofs.TokenTexts.{bang_is_token, left_bracket_is_token, right_bracket_is_token}
use Rattle.graphql_round_trip.proofs.TokenTexts.{colon_is_token, equals_is_token, right_paren_is_token}
use Rattle.graphql_round_trip.proofs.TokenTexts.{left_paren_is_token}
use Rattle.graphql_nodes.specs.NodeView.{NodeView}
use Rattle.graphql_ast.specs.declared.directive.DirectiveList.{DirectiveList}
use Rattle.graphql_ast.specs.declared.value.Value.{Value}
use Rattle.graphql_productions.specs.Nodes.{behind}
use Rattle.graphql_productions.specs.Operations.{default_body, default_value, typed, no_variable}
use Rattle.graphql_productions.specs.Operations.{variable_definition, variable_node, variable_of, variables}
use Rattle.graphql_printing.specs.Operations.{default_text, variable_text, variables_text}
use Rattle.graphql_round_trip.proofs.DirectiveTexts.{directives_print}
use Rattle.graphql_round_trip.proofs.ListTexts.{part_of_front, list_prints, lines_print, braced_or_none_print}
use Rattle.graphql_round_trip.proofs.ListTexts.{ReadAsItself, enclosed_apart}
use Rattle.graphql_round_trip.proofs.ValueTexts.{variable_prints, value_node_prints}
use Rattle.std.specs.List.{flat_map, list_any}
use Rattle.graphql_ast.specs.BareDocuments.{bare_variable_definition}
use Rattle.graphql_ast.specs.declared.operation.VariableDefinition.{VariableDefinition}
use Rattle.graphql_productions.specs.DefinitionTreeParts.{variable_parts, input_value_parts}
use Rattle.graphql_productions.specs.DefinitionTreeParts.{input_values_parts, description_parts}
use Rattle.graphql_ast.specs.BareTypeSystem.{bare_input_value_definition}
use Rattle.graphql_ast.specs.declared.type_system.InputValueDefinition.{InputValueDefinition}
use Rattle.graphql_productions.specs.TypeSystem.{expecting, input_node, input_of, input_value, input_values}
use Rattle.graphql_productions.specs.TypeSystem.{is_described_name}
use Rattle.graphql_printing.specs.Layout.{braces, enclosed, line_end, on_lines}
use Rattle.graphql_printing.specs.TypeSystem.{argument_definitions_text, described, input_value_text}
use Rattle.graphql_printing.specs.TypeSystem.{takes_lines}
use Rattle.graphql_round_trip.proofs.DescriptionTexts.{described_prints}
use Rattle.graphql_tokens.specs.declared.token.TokenKind.TheVariants as t
use Rattle.graphql_grammar.specs.declared.fault.Item.TheVariants as i
use Rattle.graphql_grammar.specs.declared.kind.Kind.TheVariants as k

-- ---- one level of a type

bare_rolled : (y : Type-F TypeReference)
    → bare_type (roll-Type y) ≡ bare_step (map-Type TypeReference TypeReference bare_type y)
bare_rolled y = fold-roll-Type TypeReference bare_step y

text_rolled : (y : Type-F TypeReference)
    → type_text (roll-Type y) ≡ text_step (map-Type TypeReference (List ℕ) type_text y)
text_rolled y = fold-roll-Type (List ℕ) text_step y

nesting_rolled : (y : Type-F TypeReference)
    → type_nesting (roll-Type y) ≡ type_level (map-Type TypeReference ℕ type_nesting y)
nesting_rolled y = fold-roll-Type ℕ type_level y

parts_rolled : (y : Type-F TypeReference)
    → type_parts (roll-Type y) ≡ part_step (map-Type TypeReference (List TreePart) type_parts y)
unfolding type_parts
parts_rolled y = fold-roll-Type _ part_step y

-- ---- `!` behind a type

required_layer : (y : Type-F TypeReference) → made_non_null (roll-Type y) ≡ non_null_step y
required_layer y = ap non_null_step (out-roll-Type y)

-- a type is made non-null with its locations or without
bare_layer_required : (y : Type-F TypeReference)
    → bare_type (non_null_step y) ≡ made_non_null (bare_type (roll-Type y))
unfolding roll-Type denote.Hole.Carrier.roll
bare_layer_required (Type-F.Named n) = bare_rolled (Type-F.NonNullNamed n)
    ∙ sym (ap made_non_null (bare_rolled (Type-F.Named n)) ∙ required_layer (Type-F.Named (bare_name n)))
bare_layer_required (Type-F.NonNullNamed n) = bare_rolled (Type-F.NonNullNamed n)
    ∙ sym (ap made_non_null (bare_rolled (Type-F.NonNullNamed n))
    ∙ required_layer (Type-F.NonNullNamed (bare_name n)))
bare_layer_required (Type-F.List x) = bare_rolled (Type-F.NonNullList x)
    ∙ sym (ap made_non_null (bare_rolled (Type-F.List x)) ∙ required_layer (Type-F.List (bare_type x)))
bare_layer_required (Type-F.NonNullList x) = bare_rolled (Type-F.NonNullList x)
    ∙ sym (ap made_non_null (bare_rolled (Type-F.NonNullList x))
    ∙ required_layer (Type-F.NonNullList (bare_type x)))

bare_required : (x : TypeReference) → bare_type (made_non_null x) ≡ made_non_null (bare_type x)
bare_required x = bare_layer_required _ ∙ ap (λ (y : TypeReference). made_non_null (bare_type y))
    (roll-out-Type x)

-- what is seen of a type, and of a `!` behind it
abbrev Seen : Type 0
Seen = TypeReference × Option (Unit {0})

module _ (file : FileId) (list : Piece TypeReference) where
  -- a type without `!`
  abbrev plain : Piece TypeReference
  plain = branch is_type (λ _. false) (type_pick file list) no_type

  without_bang : {y : TypeReference} {text : List ℕ} → Prints plain bare_type y text ends_token
      → Prints (type_by file list) bare_type y text ends_token
  without_bang {y} {text} reads = regrouped _ text (append-nil text) (mapped_text required_where bare_type y
      same (seq_text reads (none_text (sign k.Bang) there ends_token) (λ rest end. end)))
    where
      same : (x : Seen) → both_seen bare_type (option_map there) x ≡ (y, None)
          → bare_type (required_where x) ≡ y
      same (x, None) e = ap (λ (s : Seen). s.0) e
      same (x, Some _) e = let none : Some tt ≡ None = ap (λ (s : Seen). s.1) e in absurd cc

  with_bang : {y : TypeReference} {text : List ℕ} → Prints plain bare_type y text ends_token
      → Prints (type_by file list) bare_type (made_non_null y) (text ++ codes "!") ends_token
  with_bang {y} {text} reads = mapped_text required_where bare_type (made_non_null y) same (seq_text reads
      (one_text (loosely ends_token (sign_prints k.Bang t.Bang bang_is_token refl))) (λ rest end. refl))
    where
      same : (x : Seen) → both_seen bare_type (option_map there) x ≡ (y, Some tt)
          → bare_type (required_where x) ≡ made_non_null y
      same (x, None) e = let none : None ≡ Some tt = ap (λ (s : Seen). s.1) e in absurd cc
      same (x, Some _) e = bare_required x ∙ ap (λ (s : Seen). made_non_null s.0) e

  -- a name
  named_prints : (n : NameView) → IsName n.text
      → Prints plain bare_type (bare_type (roll-Type (Type-F.Named n))) n.text ends_token
  unfolding named_type roll-Type denote.Hole.Carrier.roll
  named_prints n is = branch_text _ no_type is_name (name_heads n is) (λ kind named. second_text _ list _
      (is_none_of is_name (only k.LeftBracket) refl kind named) (first_text (is_name kind) (named_type file)
      (nothing no_type) named (mapped_text Named bare_type (bare_type (Named n)) same
      (name_prints file n is))))
    where
      same : (m : NameView) → bare_name m ≡ bare_name n → bare_type (Named m) ≡ bare_type (Named n)
      same m e = bare_rolled (Type-F.Named m) ∙ ap (λ (n : NameView). roll-Type (Type-F.Named n)) e
          ∙ sym (bare_rolled (Type-F.Named n))

-- a type between brackets
list_type_prints : (file : FileId) (item : Piece TypeReference) (x : TypeReference) (text : List ℕ)
    → Prints item bare_type (bare_type x) text ends_token
    → Prints (list_type_of item) bare_type (bare_type (roll-Type (Type-F.List x))) (codes "["
    ++ text ++ codes "]") anything
unfolding list_type_of roll-Type denote.Hole.Carrier.roll
list_type_prints file item x text reads =
    mapped_text ListOf bare_type _ same (between_prints k.LeftBracket k.RightBracket _
    (sign_prints k.LeftBracket t.LeftBracket left_bracket_is_token refl) reads (sign_or_text k.RightBracket
    (λ _. Expected (i.Word k.RightBracket)) t.RightBracket right_bracket_is_token refl) (λ rest. refl))
  where
    same : (z : TypeReference) → bare_type z ≡ bare_type x → bare_type (ListOf z) ≡ bare_type (ListOf x)
    same z e = bare_rolled (Type-F.List z) ∙ ap (λ (y : TypeReference). roll-Type (Type-F.List y)) e
        ∙ sym (bare_rolled (Type-F.List x))

module _ (file : FileId) where
  -- list types, where so many signs may be open
  abbrev lists : ℕ → Piece TypeReference
  lists depth = headed (only k.LeftBracket) (nested_list_type file depth)

  -- a type without `!` where so many signs may be open
  abbrev plain_at : ℕ → Piece TypeReference
  plain_at depth = plain file (lists depth)

  bracketed_prints : (depth : ℕ) (x : TypeReference) (text : List ℕ)
      → Prints (type file depth) bare_type (bare_type x) text ends_token
      → Prints (plain_at (suc depth)) bare_type (bare_type (roll-Type (Type-F.List x))) (codes "["
      ++ text ++ codes "]") ends_token
  unfolding nested_list_type
  bracketed_prints depth x text reads =
      loosely ends_token (branch_at (type_pick file (lists (suc depth))) no_type k.LeftBracket
      (heads_on (codes "]") anything (heads_on text anything (token_heads (only k.LeftBracket) t.LeftBracket
      (codes "[") anything refl left_bracket_is_token refl) (λ rest end. refl)) (λ rest end. refl))
      (headed_text (only k.LeftBracket) (list_type_prints file (type file depth) x text reads)))

  -- what is to be shown of a type
  abbrev Shows : TypeReference → Type 0
  Shows x = (depth : ℕ) → IsWellFormed (type_parts x) → type_nesting x ≤ depth → Prints (type file depth)
      bare_type (bare_type x) (type_text x) ends_token

  abbrev Shown : Type 0
  Shown = (x : TypeReference) × Shows x

  -- the same, with what is seen and the text said of one level
  said : (depth : ℕ) (x : TypeReference) {text : List ℕ} {y : TypeReference} → y ≡ bare_type x
      → text ≡ type_text x → Prints (type file depth) bare_type y text ends_token
      → Prints (type file depth) bare_type (bare_type x) (type_text x) ends_token
  said depth x {text} same is reads = subst (λ (y : TypeReference). Prints (type file depth) bare_type y
      (type_text x) ends_token) same (regrouped text _ is reads)

  -- with `!` a type prints as what is non-null
  required : (depth : ℕ) (y : Type-F TypeReference) (z : TypeReference) {text : List ℕ} → non_null_step y ≡ z
      → text ++ codes "!" ≡ type_text z
      → Prints (plain_at depth) bare_type (bare_type (roll-Type y)) text ends_token
      → Prints (type file depth) bare_type (bare_type z) (type_text z) ends_token
  required depth y z made is reads = said depth z (sym (bare_layer_required y) ∙ ap bare_type made) is
      (with_bang file (lists depth) reads)

  named_shows : (n : NameView) → Shows (roll-Type (Type-F.Named n))
  named_shows n depth fine fits =
      let is : IsWellFormed (name_parts n) = rw (parts_rolled (Type-F.Named n)) at fine in
      said depth (roll-Type (Type-F.Named n)) refl (sym (text_rolled (Type-F.Named n)))
      (without_bang file (lists depth) (named_prints file (lists depth) n is.0))

  required_named_shows : (n : NameView) → Shows (roll-Type (Type-F.NonNullNamed n))
  unfolding roll-Type denote.Hole.Carrier.roll
  required_named_shows n depth fine fits =
      let is : IsWellFormed (name_parts n) = rw (parts_rolled (Type-F.NonNullNamed n)) at fine in
      required depth (Type-F.Named n) (roll-Type (Type-F.NonNullNamed n)) refl
      (sym (text_rolled (Type-F.NonNullNamed n))) (named_prints file (lists depth) n is.0)

  -- a list without `!`
  bracketed : (x : TypeReference) → Shows x → (depth : ℕ) → IsWellFormed (type_parts x)
      → suc (type_nesting x) ≤ depth
      → Prints (plain_at depth) bare_type (bare_type (roll-Type (Type-F.List x))) (codes "[" ++ type_text x
      ++ codes "]") ends_token
  bracketed x shows zero fine fits = absurd (omega (arith, fits))
  bracketed x shows (suc depth) fine fits =
      bracketed_prints depth x (type_text x) (shows depth fine (omega (arith, fits)))

  list_shows : (x : TypeReference) → Shows x → Shows (roll-Type (Type-F.List x))
  list_shows x shows depth fine fits = said depth (roll-Type (Type-F.List x)) refl
      (sym (text_rolled (Type-F.List x))) (without_bang file (lists depth) (bracketed x shows depth
      (rw (parts_rolled (Type-F.List x)) at fine) (rw (nesting_rolled (Type-F.List x)) at fits)))

  required_list_shows : (x : TypeReference) → Shows x → Shows (roll-Type (Type-F.NonNullList x))
  unfolding roll-Type denote.Hole.Carrier.roll
  required_list_shows x shows depth fine fits =
      required depth (Type-F.List x) (roll-Type (Type-F.NonNullList x)) refl
      (append_assoc (codes "[" ++ type_text x) (codes "]") (codes "!")
      ∙ sym (text_rolled (Type-F.NonNullList x)))
      (bracketed x shows depth (rw (parts_rolled (Type-F.NonNullList x)) at fine)
      (rw (nesting_rolled (Type-F.NonNullList x)) at fits))

  layer_shows : (y : Type-F Shown) → Shows (roll-Type (map-Type Shown TypeReference (λ s. s.0) y))
  layer_shows (Type-F.Named n) = named_shows n
  layer_shows (Type-F.NonNullNamed n) = required_named_shows n
  layer_shows (Type-F.List x) = list_shows x.0 x.1
  layer_shows (Type-F.NonNullList x) = required_list_shows x.0 x.1

-- a type is read as itself
pub type_prints : (file : FileId) (depth : ℕ) (x : TypeReference) → IsWellFormed (type_parts x)
    → type_nesting x ≤ depth → Prints (type file depth) bare_type (bare_type x) (type_text x) ends_token
type_prints file depth x =
    ind-Type (Shows file) (λ x y is. subst (λ (y : Type-F TypeReference). Shows file (roll-Type y)) is
    (layer_shows file y)) x depth

-- ---- texts of types with default values and directives, behind names

-- a default value stands apart from what is before it
default_apart : (default : Option (NodeView Value)) → IsApart (default_text default)
default_apart None = λ rest end. end
default_apart (Some v) = λ rest end. refl

-- what is seen of a type behind `:`, with its default value and directives: not where they stand
abbrev pub typed_seen : Unit {0} × (NodeView TypeReference × (Option (NodeView Value) × DirectiveList))
    → Unit {0} × (NodeView TypeReference × (Option (NodeView Value) × DirectiveList))
typed_seen = both_seen there (both_seen (bare_node bare_type) (both_seen (option_map (bare_node bare_value))
    bare_directive_list))

default_body_prints : (file : FileId) (depth : ℕ) (v : NodeView Value)
    → IsWellFormed (node_parts (value_parts true) v) → value_nesting v.value ≤ depth
    → Prints (default_body file depth) (bare_node bare_value) (bare_node bare_value v) (codes "= "
    ++ value_text v.value) ends_token
unfolding default_body
default_body_prints file depth v well fits =
    mapped_text behind (bare_node bare_value) (bare_node bare_value v)
    (λ x same. ap (λ (p : Unit {0} × NodeView Value). p.1) same)
    (seq_text (sign_before k.Equals (λ _. Expected (i.Word k.Equals)) t.Equals (codes "=") (codes " ") refl
    equals_is_token refl) (value_node_prints file true depth v well fits) (λ rest _. refl))

-- a default value, if there is one
default_prints : (file : FileId) (depth : ℕ) (default : Option (NodeView Value))
    → IsWellFormed (option_parts (node_parts (value_parts true)) default) → default_nesting default ≤ depth
    → Prints (optional (default_value file depth)) (option_map (bare_node bare_value))
    (option_map (bare_node bare_value) default) (default_text default) ends_token
default_prints file depth None well fits = none_text (default_value file depth) (bare_node bare_value)
    ends_token
default_prints file depth (Some v) well fits =
    one_text (headed_text (only k.Equals) (behind_blank (codes " ") refl (default_body_prints file depth v
    well fits)))

-- a type behind `:`, with a default value, if there is one, and directives
pub typed_prints : (file : FileId) (depth : ℕ) (ty : NodeView TypeReference)
    (default : Option (NodeView Value)) (applied : DirectiveList)
    → IsWellFormed (node_parts type_parts ty ++ (option_parts (node_parts (value_parts true)) default
    ++ directives_parts true applied))
    → greatest (type_nesting ty.value ∷ default_nesting default ∷ directives_nesting applied ∷ []) ≤ depth
    → Prints (typed file depth) typed_seen (typed_seen (tt, (ty, (default, applied)))) (codes ": "
    ++ (type_text ty.value ++ (default_text default ++ directives_text applied.0))) ends_token
unfolding typed
typed_prints file depth ty default applied well fits =
    let behind_colon = part_of_front (node_parts type_parts ty) (option_parts (node_parts (value_parts true))
    default ++ directives_parts true applied) well in
    let behind_type = part_of_front (option_parts (node_parts (value_parts true)) default)
    (directives_parts true applied) behind_colon.1 in
    seq_text (sign_before k.Colon (λ _. Expected (i.Word k.Colon)) t.Colon (codes ":") (codes " ") refl
    colon_is_token refl) (seq_text (node_prints file (type_prints file depth ty.value behind_colon.0.1
    (omega arith))) (seq_text (default_prints file depth default behind_type.0 (omega arith))
    (directives_print file true depth applied behind_type.1 (omega arith)) (directives_apart applied.0))
    (apart_joined (default_text default) (directives_text applied.0) (default_apart default)
    (directives_apart applied.0))) (λ rest _. refl)

-- ---- texts of the definitions of variables: GraphQL specification of October 2021, section 2.10

-- the definition of a variable is read as itself
variable_definition_prints : (file : FileId) (depth : ℕ)
    → ReadAsItself (node_parts variable_parts) variable_nesting depth (variable_definition file depth)
    (bare_node bare_variable_definition) variable_text
unfolding variable_node
variable_definition_prints file depth v well fits =
    item_text (only k.Dollar) no_variable (node_prints file (mapped_text variable_of bare_variable_definition
    (bare_variable_definition v.value) (λ x same. ap variable_of same)
    (regrouped (codes "$" ++ v.value.name.text ++ (codes ": " ++ (type_text v.value.ty.value
    ++ (default_text v.value.default_value ++ directives_text v.value.directives.0)))) (variable_text v)
    (grouped5 (codes "$" ++ v.value.name.text) (codes ": ") (type_text v.value.ty.value)
    (default_text v.value.default_value) (directives_text v.value.directives.0))
    (seq_text (variable_prints file v.value.name well.1.0) (typed_prints file depth v.value.ty
    v.value.default_value v.value.directives well.1.1 fits) (λ rest _. refl)))))

-- variables behind an opening are read as themselves
pub variables_print : (file : FileId) (depth : ℕ) (opening : List ℕ) (xs : List (NodeView VariableDefinition))
    → Opens k.LeftParen opening → IsWellFormed (flat_map (node_parts variable_parts) xs)
    → between variable_nesting xs ≤ depth
    → Prints (variables file depth) (map (bare_node bare_variable_definition))
    (map (bare_node bare_variable_definition) xs) (variables_text opening xs) ends_token
unfolding variables
variables_print file depth opening xs opens well fits = list_prints k.LeftParen k.RightParen no_variable
    (variable_definition file) (bare_node bare_variable_definition) variable_text (node_parts variable_parts)
    variable_nesting (variable_definition_prints file) depth opening (codes ", ") (codes ")") opens
    (sign_or_text k.RightParen no_variable t.RightParen right_paren_is_token refl) refl (λ rest. refl)
    (λ rest. refl) xs well fits

-- ---- texts of arguments and input fields that are defined: GraphQL specification of October 2021, sections
-- 3.6.1 and 3.10

-- the text of an input value, grouped as the grammar groups it
input_grouped : (indent : ℕ) (input : NodeView InputValueDefinition)
    → described indent input.value.description
    ++ (input.value.name.text ++ (codes ": " ++ (type_text input.value.ty.value
    ++ (default_text input.value.default_value ++ directives_text input.value.directives.0))))
    ≡ input_value_text indent input
input_grouped indent input =
    let d = described indent input.value.description in
    let more = type_text input.value.ty.value in
    let default = default_text input.value.default_value in
    let applied = directives_text input.value.directives.0 in
    grouped6 d input.value.name.text (codes ": ") more default applied ∙ ap (λ (front : List ℕ). front
    ++ more ++ default ++ applied) (append_assoc d input.value.name.text _)

-- arguments that are defined stand apart from the name before them
pub arguments_apart : (indent : ℕ) (inputs : List (NodeView InputValueDefinition))
    → IsApart (argument_definitions_text indent inputs)
arguments_apart indent inputs = by (list_any takes_lines inputs)
  where
    by : (b : Bool)
        → IsApart (if b then on_lines (codes "(") (codes ")") indent input_value_text inputs else enclosed
        (codes "(") (codes ", ") (codes ")") (input_value_text indent) inputs)
    by true = enclosed_apart (codes "(" ++ line_end (indent + 2)) (line_end (indent + 2)) (line_end indent
        ++ codes ")") (input_value_text (indent + 2)) (λ rest. refl) inputs
    by false = enclosed_apart (codes "(") (codes ", ") (codes ")") (input_value_text indent) (λ rest. refl)
        inputs

module _ (file : FileId) where
  -- an argument or input field that is defined
  pub input_value_prints : (indent depth : ℕ)
      → ReadAsItself (node_parts input_value_parts) input_nesting depth (input_value file depth)
      (bare_node bare_input_value_definition) (input_value_text indent)
  unfolding input_node
  input_value_prints indent depth input well fits =
      let v = input.value in
      let behind = part_of_front (description_parts v.description) (Name v.name ∷ (node_parts type_parts v.ty
      ++ (option_parts (node_parts (value_parts true)) v.default_value ++ directives_parts true
      v.directives))) well.1 in
      regrouped _ (input_value_text indent input) (input_grouped indent input) (item_text is_described_name
      (expecting i.InputValue) (node_prints file (mapped_text input_of bare_input_value_definition
      (bare_input_value_definition v) (λ x same. ap input_of same)
      (seq_text (described_prints file indent v.description)
      (seq_text (name_prints file v.name behind.1.0) (typed_prints file depth v.ty v.default_value
      v.directives behind.1.1 fits) (λ rest _. refl)) (λ rest _. refl)))))

  -- arguments that are defined, in one line or on lines
  pub argument_definitions_print : (depth indent : ℕ) (inputs : List (NodeView InputValueDefinition))
      → IsWellFormed (input_values_parts inputs) → between input_nesting inputs ≤ depth
      → Prints (input_values file k.LeftParen k.RightParen depth)
      (map (bare_node bare_input_value_definition)) (map (bare_node bare_input_value_definition) inputs)
      (argument_definitions_text indent inputs) ends_token
  unfolding input_values
  argument_definitions_print depth indent inputs well fits = by (list_any takes_lines inputs)
    where
      by : (b : Bool)
          → Prints (input_values file k.LeftParen k.RightParen depth)
          (map (bare_node bare_input_value_definition)) (map (bare_node bare_input_value_definition) inputs)
          (if b then on_lines (codes "(") (codes ")") indent input_value_text inputs else enclosed (codes "(")
          (codes ", ") (codes ")") (input_value_text indent) inputs) ends_token
      by true = lines_print k.LeftParen k.RightParen (expecting i.InputValue) (input_value file)
          (bare_node bare_input_value_definition) (input_value_text (indent + 2)) (node_parts
          input_value_parts) input_nesting (input_value_prints (indent + 2)) depth indent t.LeftParen
          t.RightParen (codes "(") (codes ")") left_paren_is_token refl right_paren_is_token refl inputs well
          fits
      by false = list_prints k.LeftParen k.RightParen (expecting i.InputValue) (input_value file)
          (bare_node bare_input_value_definition) (input_value_text indent) (node_parts input_value_parts)
          input_nesting (input_value_prints indent) depth (codes "(") (codes ", ") (codes ")")
          (sign_prints k.LeftParen t.LeftParen left_paren_is_token refl)
          (sign_or_text k.RightParen (expecting i.InputValue) t.RightParen right_paren_is_token refl) refl
          (λ rest. refl) (λ rest. refl) inputs well fits

  -- input fields
  pub input_fields_print : (depth : ℕ) (inputs : List (NodeView InputValueDefinition))
      → IsWellFormed (input_values_parts inputs) → between input_nesting inputs ≤ depth
      → Prints (input_values file k.LeftBrace k.RightBrace depth)
      (map (bare_node bare_input_value_definition)) (map (bare_node bare_input_value_definition) inputs)
      (braces (codes " {") 0 input_value_text inputs) ends_token
  unfolding input_values
  input_fields_print depth inputs well fits = braced_or_none_print (expecting i.InputValue) (input_value file)
      (bare_node bare_input_value_definition) input_value_text (node_parts input_value_parts) input_nesting
      (input_value_prints 2) depth inputs well fits
