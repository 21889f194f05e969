-- Texts of selections: GraphQL specification of October 2021, section 2.4.
use Rattle.std.proofs.Common.{arith, ◌≡◌, ◌≤◌, ℕ, true, suc, false, List, [], ◌∷◌, ◌++◌, map, None}
use Rattle.std.proofs.Common.{option_map, drop, refl, sym, ap, subst, ◌∙◌, append_assoc, Option, Some, ◌+◌}
use Rattle.graphql_ast.specs.declared.selection.FragmentSpread.{FragmentSpread}
use Rattle.std.specs.Prelude.{codes}
use Rattle.std.specs.List.{AllByRecursion, flat_map}
use Rattle.graphql_nodes.specs.Comparing.{bare_node, bare_name}
use Rattle.graphql_nodes.specs.NodeView.{NodeView}
use Rattle.graphql_nodes.specs.declared.source.FileId.{FileId}
use Rattle.graphql_ast.specs.BareSelections.{bare_field, bare_fragment_spread, bare_inline_fragment}
use Rattle.graphql_ast.specs.BareSelections.{bare_selection}
use Rattle.graphql_ast.specs.declared.selection.Field.{Field, roll-Field}
use Rattle.graphql_ast.specs.declared.selection.InlineFragment.{InlineFragment, roll-InlineFragment}
use Rattle.graphql_ast.specs.declared.selection.Selection.{Selection, roll-Selection}
use Rattle.graphql_ast.specs.declared.selection.Selection.TheOpen.{Selection-F}
use Rattle.graphql_grammar.specs.Kinds.{only, is_name}
use Rattle.graphql_grammar.specs.Pieces.{optional}
use Rattle.graphql_productions.specs.SelectionParts.{selection_parts}
use Rattle.graphql_productions.specs.Selections.{nested_set, no_selection, selection, selection_set}
use Rattle.graphql_productions.specs.Selections.{selections_of}
use Rattle.graphql_productions.specs.TreeParts.{Name, arguments_parts, directives_parts, name_parts}
use Rattle.graphql_productions.specs.TreeParts.{option_parts, wanted_parts, node_parts}
use Rattle.graphql_productions.specs.WellFormed.{IsWellFormed}
use Rattle.graphql_productions.proofs.RolledParts.{field_rolled, field_selection_rolled, inline_parts}
use Rattle.graphql_productions.proofs.RolledParts.{inline_rolled, inline_selection_rolled, selected_parts}
use Rattle.graphql_productions.proofs.RolledParts.{spread_rolled}
use Rattle.graphql_printing.specs.Selections.{condition_text, field_text, inline_text, selection_text}
use Rattle.graphql_printing.specs.Selections.{selections_behind, spread_text, selections_text}
use Rattle.graphql_printing.specs.Texts.{directives_text}
use Rattle.graphql_round_trip.specs.Nesting.{selection_nesting, selections_nesting, fragment_nesting}
use Rattle.graphql_round_trip.specs.Nesting.{operation_nesting}
use Rattle.graphql_round_trip.specs.Printed.{Heads, Prints, anything, ends_token}
use Rattle.graphql_round_trip.proofs.HeadTexts.{sign_heads, keyword_before, keyword_heads}
use Rattle.graphql_round_trip.proofs.HeadTexts.{operation_type_prints}
use Rattle.graphql_round_trip.proofs.BareTexts.{field_says, inline_says, selection_says}
use Rattle.graphql_round_trip.proofs.FieldTexts.{field_prints, inline_prints, spread_prints, condition_prints}
use Rattle.graphql_round_trip.proofs.FieldTexts.{fragment_name_prints}
use Rattle.graphql_round_trip.proofs.PieceTexts.{regrouped, grouped6, grouped4, Opens, loosely, sign_behind}
use Rattle.graphql_round_trip.proofs.PieceTexts.{sign_prints, name_prints, headed_text, none_text, one_text}
use Rattle.graphql_round_trip.proofs.PieceTexts.{heads_on, mapped_text, seq_text, behind_blank, IsApart}
use Rattle.graphql_round_trip.proofs.PieceTexts.{apart_before, directives_apart, apart_joined}
use Rattle.graphql_round_trip.proofs.ListTexts.{left_out, braces_print, inside_fits, part_of_front, each_fits}
use Rattle.graphql_round_trip.proofs.ListTexts.{part_of_each}
use Rattle.graphql_round_trip.proofs.Levels.{FieldLevel, InlineLevel, SelectionLevel, field_nested}
use Rattle.graphql_round_trip.proofs.Levels.{inline_nested, inline_nesting, of_selection, selected_nesting}
use Rattle.graphql_round_trip.proofs.Levels.{selection_bare, selection_nested}
use Rattle.graphql_round_trip.proofs.TokenTexts.{left_brace_is_token, left_paren_is_token}
use Rattle.graphql_ast.specs.BareDocuments.{bare_fragment_definition, bare_operation_definition}
use Rattle.graphql_ast.specs.declared.operation.FragmentDefinition.{FragmentDefinition}
use Rattle.graphql_productions.specs.DefinitionTreeParts.{fragment_parts, operation_parts, variable_parts}
use Rattle.graphql_productions.specs.Operations.{fragment_definition, fragment_of, operation, operation_name}
use Rattle.graphql_productions.specs.Operations.{operation_of, shorthand, shorthand_of}
use Rattle.graphql_printing.specs.Operations.{fragment_definition_text, is_short, long_text, signature_text}
use Rattle.graphql_printing.specs.Operations.{variables_text}
use Rattle.graphql_round_trip.proofs.DirectiveTexts.{directives_print}
use Rattle.graphql_nodes.specs.NameView.{NameView}
use Rattle.graphql_nodes.specs.OperationTexts.{operation_text}
use Rattle.graphql_nodes.specs.declared.operation_type.OperationType.{OperationType}
use Rattle.graphql_ast.specs.declared.directive.Directive.{Directive}
use Rattle.graphql_ast.specs.declared.operation.OperationDefinition.{OperationDefinition}
use Rattle.graphql_ast.specs.declared.operation.VariableDefinition.{VariableDefinition}
use Rattle.graphql_grammar.specs.declared.kind.Kind.{Kind}
use Rattle.graphql_round_trip.proofs.TypedTexts.{variables_print}
use Rattle.graphql_ast.specs.declared.selection.Selection as s
use Rattle.graphql_tokens.specs.declared.token.TokenKind.TheVariants as t
use Rattle.graphql_grammar.specs.declared.kind.Kind.TheVariants as k
use Rattle.graphql_nodes.specs.declared.operation_type.OperationType.TheVariants as o
use Rattle.graphql_round_trip.proofs.BareLists.{each}
use Rattle.graphql_grammar.specs.declared.fault.FaultKind.TheVariants.{Expected}
use Rattle.graphql_grammar.specs.declared.fault.Item.TheVariants as i

-- the text of selections in braces begins with `{`
pub selections_head : (indent : ℕ) (xs : List Selection) → IsWellFormed (wanted_parts selection_parts xs)
    → Heads (only k.LeftBrace) (selections_behind (codes "{") indent xs) anything
selections_head indent [] well = absurd (let w = well.0 in cc)
selections_head indent (x ∷ xs) well = sign_heads _ t.LeftBrace _ _ refl left_brace_is_token refl

-- selections behind what opens them stand apart
selections_apart : (indent : ℕ) (xs : List Selection) → IsApart (selections_behind (codes " {") indent xs)
selections_apart indent [] = λ rest end. end
selections_apart indent (x ∷ xs) = λ rest end. refl

-- what is before selections behind ` {`, of which there is one at least, ends there
pub selections_end : (indent : ℕ) (xs : List Selection) → IsWellFormed (wanted_parts selection_parts xs)
    → (rest : List ℕ) → ends_token (selections_behind (codes " {") indent xs ++ rest) ≡ true
selections_end indent [] well rest = absurd (let w = well.0 in cc)
selections_end indent (x ∷ xs) well rest = refl

-- `{` opens selections
pub opens_brace : Opens k.LeftBrace (codes "{")
opens_brace = sign_prints k.LeftBrace t.LeftBrace left_brace_is_token refl

-- and so it does behind a blank
pub opens_behind : Opens k.LeftBrace (codes " {")
opens_behind = sign_behind k.LeftBrace (λ _. Expected (i.Word k.LeftBrace)) t.LeftBrace (codes " ")
    (codes "{") refl left_brace_is_token refl

-- selections behind ` {`, of which there is one at least, begin so
opened : (indent : ℕ) (xs : List Selection) → IsWellFormed (wanted_parts selection_parts xs)
    → selections_behind (codes " {") indent xs ≡ codes " {" ++ drop 2 (selections_behind (codes " {") indent
    xs)
opened indent [] well = absurd (let w = well.0 in cc)
opened indent (x ∷ xs) well = refl

-- a selection is read as it is printed
abbrev SelectionPrints : Selection → Type 0
SelectionPrints x = (file : FileId) (depth indent : ℕ) → IsWellFormed (selection_parts x)
    → selection_nesting x ≤ depth → Prints (selection file depth (selection_set file depth)) bare_selection
    (bare_selection x) (selection_text x indent) ends_token

abbrev FieldPrints : Field → Type 0
FieldPrints f = (file : FileId) (depth indent : ℕ) → IsWellFormed (selected_parts f) → selected_nesting f
    ≤ depth → Prints (selection file depth (selection_set file depth)) bare_selection
    (s.Field (record { value = bare_field f; location = None })) (field_text f indent) ends_token

abbrev InlinePrints : InlineFragment → Type 0
InlinePrints f = (file : FileId) (depth indent : ℕ) → IsWellFormed (inline_parts f) → inline_nesting f ≤ depth
    → Prints (selection file depth (selection_set file depth)) bare_selection (s.InlineFragment
    (record { value = bare_inline_fragment f; location = None })) (inline_text f indent) ends_token

-- ---- selections in braces, of which each is read as it is printed

each_prints : (file : FileId) (depth indent : ℕ) (xs : List Selection) → AllByRecursion SelectionPrints xs
    → AllByRecursion (λ x. IsWellFormed (selection_parts x)) xs
    → AllByRecursion (λ x. selection_nesting x ≤ depth) xs
    → AllByRecursion (λ x. Prints (selection file depth (selection_set file depth)) bare_selection
    (bare_selection x) (selection_text x indent) ends_token) xs
each_prints file depth indent [] all well fits = tt
each_prints file depth indent (x ∷ xs) all well fits =
    (all.0 file depth indent well.0 fits.0, each_prints file depth indent xs all.1 well.1 fits.1)

braced_prints : (file : FileId) (depth indent : ℕ) (opening : List ℕ) (x : Selection) (xs : List Selection)
    → AllByRecursion SelectionPrints (x ∷ xs) → Opens k.LeftBrace opening
    → AllByRecursion (λ x. IsWellFormed (selection_parts x)) (x ∷ xs)
    → AllByRecursion (λ x. selection_nesting x ≤ depth) (x ∷ xs)
    → Prints (nested_set file (suc depth)) (map bare_selection) (map bare_selection (x ∷ xs))
    (selections_behind opening indent (x ∷ xs)) anything
unfolding nested_set selections_of
braced_prints file depth indent opening x xs all opens well fits =
    braces_print no_selection (selection file depth (selection_set file depth)) bare_selection
    (λ inner x. selection_text x inner) opening indent opens x xs (each_prints file depth (indent + 2) (x
    ∷ xs) all well fits)

set_prints : (file : FileId) (depth indent : ℕ) (opening : List ℕ) (xs : List Selection)
    → AllByRecursion SelectionPrints xs → Opens k.LeftBrace opening
    → IsWellFormed (wanted_parts selection_parts xs) → selections_nesting xs ≤ depth
    → Prints (selection_set file depth) (map bare_selection) (map bare_selection xs)
    (selections_behind opening indent xs) anything
set_prints file depth indent opening [] all opens well fits = absurd (let w = well.0 in cc)
set_prints file depth indent opening (x ∷ xs) all opens well fits =
    let h = inside_fits selection_nesting x xs depth fits in
    headed_text (only k.LeftBrace) (subst (λ (d : ℕ). Prints (nested_set file d) (map bare_selection)
    (map bare_selection (x ∷ xs)) (selections_behind opening indent (x ∷ xs)) anything) (sym h.1)
    (braced_prints file h.0 indent opening x xs all opens (part_of_each selection_parts (x ∷ xs) well.1)
    (each_fits selection_nesting (x ∷ xs) h.0 h.2)))

-- the same of selections that may be left out
set_or_none_prints : (file : FileId) (depth indent : ℕ) (xs : List Selection)
    → AllByRecursion SelectionPrints xs → IsWellFormed (flat_map selection_parts xs)
    → selections_nesting xs ≤ depth
    → Prints (optional (selection_set file depth)) (option_map (map bare_selection))
    (left_out (map bare_selection xs)) (selections_behind (codes " {") indent xs) ends_token
set_or_none_prints file depth indent [] all well fits =
    none_text (selection_set file depth) (map bare_selection) ends_token
set_or_none_prints file depth indent (x ∷ xs) all well fits =
    loosely ends_token (one_text (set_prints file depth indent (codes " {") (x ∷ xs) all opens_behind
    (refl, well) fits))

-- ---- one level after the other

-- a selection has this text
abbrev SelectedAs : FileId → ℕ → Selection → List ℕ → Type 0
SelectedAs file depth y text = Prints (selection file depth (selection_set file depth)) bare_selection y text
    ends_token

-- and so has what is the same the same text
same_selected : (file : FileId) (depth : ℕ) (y z : Selection) (text same : List ℕ) → z ≡ y → same ≡ text
    → SelectedAs file depth y text → SelectedAs file depth z same
same_selected file depth y z text same seen told t = rw (seen, told) t

field_shows : (n : NodeView Field) → FieldPrints n.value
    → SelectionPrints (roll-Selection (Selection-F.Field n))
unfolding roll-Selection denote.Hole.Carrier.roll
field_shows n shown = λ file depth indent well fits.
    let z : SelectionLevel = Selection-F.Field n in
    same_selected file depth (s.Field (bare_node bare_field n)) (bare_selection (s.Field n))
    (field_text n.value indent) (selection_text (s.Field n) indent) (selection_bare z)
    (selection_says z indent) (shown file depth indent (rw (field_selection_rolled n) at well).1
    (rw (selection_nested z) at fits))

spread_shows : (n : NodeView FragmentSpread) → SelectionPrints (roll-Selection (Selection-F.FragmentSpread n))
unfolding roll-Selection denote.Hole.Carrier.roll
spread_shows n = λ file depth indent well fits.
    let z : SelectionLevel = Selection-F.FragmentSpread n in
    same_selected file depth (s.FragmentSpread (bare_node bare_fragment_spread n))
    (bare_selection (s.FragmentSpread n)) (spread_text n.value) (selection_text (s.FragmentSpread n) indent)
    (selection_bare z) (selection_says z indent) (spread_prints file depth (selection_set file depth) n.value
    (rw (spread_rolled n) at well).1 (rw (selection_nested z) at fits))

inline_shows : (n : NodeView InlineFragment) → InlinePrints n.value
    → SelectionPrints (roll-Selection (Selection-F.InlineFragment n))
unfolding roll-Selection denote.Hole.Carrier.roll
inline_shows n shown = λ file depth indent well fits.
    let z : SelectionLevel = Selection-F.InlineFragment n in
    same_selected file depth (s.InlineFragment (bare_node bare_inline_fragment n))
    (bare_selection (s.InlineFragment n)) (inline_text n.value indent)
    (selection_text (s.InlineFragment n) indent) (selection_bare z) (selection_says z indent)
    (shown file depth indent (rw (inline_selection_rolled n) at well).1 (rw (selection_nested z) at fits))

field_level : (x : FieldLevel) → AllByRecursion SelectionPrints x.selection_set → FieldPrints (roll-Field x)
field_level x all = λ file depth indent well fits.
    let parts = rw (field_rolled x.arguments x.directives x.selection_set x.alias x.name) at well in
    let named = part_of_front (option_parts name_parts x.alias) (Name x.name
    ∷ (arguments_parts false x.arguments ++ (directives_parts false x.directives
    ++ flat_map selection_parts x.selection_set))) parts in
    let argued = part_of_front (arguments_parts false x.arguments) (directives_parts false x.directives
    ++ flat_map selection_parts x.selection_set) named.1.1 in
    let inner = part_of_front (directives_parts false x.directives) (flat_map selection_parts x.selection_set)
    argued.1 in
    let deep = rw (field_nested x) at fits in
    rw (field_says x indent) (field_prints file depth (selection_set file depth) x indent parts
    (omega arith) (omega arith) (selections_behind (codes " {") indent x.selection_set)
    (set_or_none_prints file depth indent x.selection_set all inner.1 (omega arith))
    (selections_apart indent x.selection_set))

inline_level : (x : InlineLevel) → AllByRecursion SelectionPrints x.selection_set
    → InlinePrints (roll-InlineFragment x)
inline_level x all = λ file depth indent well fits.
    let parts = rw (inline_rolled x.directives x.selection_set x.type_condition) at well in
    let named = part_of_front (option_parts name_parts x.type_condition) (directives_parts false x.directives
    ++ wanted_parts selection_parts x.selection_set) parts in
    let inner = part_of_front (directives_parts false x.directives) (wanted_parts selection_parts
    x.selection_set) named.1 in
    let deep = rw (inline_nested x) at fits in
    let braced = opened indent x.selection_set inner.1 in
    subst (λ (bytes : List ℕ). SelectedAs file depth
    (s.InlineFragment (record { value = bare_inline_fragment (roll-InlineFragment x); location = None }))
    bytes) (ap (λ (set : List ℕ). codes "..." ++ condition_text x.type_condition
    ++ directives_text x.directives.0 ++ set) (sym braced)
    ∙ sym (inline_says x indent)) (loosely ends_token (inline_prints file depth (selection_set file depth)
    x named.0 inner.0 (omega arith) (drop 2 (selections_behind (codes " {") indent x.selection_set))
    (regrouped (selections_behind (codes " {") indent x.selection_set)
    (codes " {" ++ drop 2 (selections_behind (codes " {") indent x.selection_set)) braced (set_prints file
    depth indent (codes " {") x.selection_set all opens_behind inner.1 (omega arith)))))

selection_prints : (x : Selection) → SelectionPrints x
selection_prints = of_selection SelectionPrints FieldPrints InlinePrints field_shows spread_shows inline_shows
    field_level inline_level

-- selections in braces are read as they are printed
pub selections_print : (file : FileId) (depth indent : ℕ) (opening : List ℕ) (xs : List Selection)
    → Opens k.LeftBrace opening → IsWellFormed (wanted_parts selection_parts xs)
    → selections_nesting xs ≤ depth
    → Prints (selection_set file depth) (map bare_selection) (map bare_selection xs)
    (selections_behind opening indent xs) anything
selections_print file depth indent opening xs opens well fits =
    set_prints file depth indent opening xs (each selection_prints xs) opens well fits

-- ---- texts of the definitions of fragments: GraphQL specification of October 2021, section 2.8

-- the definition of a fragment begins with its keyword
pub fragment_head : (x : FragmentDefinition) → Heads (only k.Fragment) (fragment_definition_text x) anything
fragment_head x = heads_on _ anything (keyword_heads k.Fragment (codes "fragment") refl refl) (λ rest _. refl)

-- the definition of a fragment is read as it is printed
pub fragment_prints : (file : FileId) (depth : ℕ) (x : FragmentDefinition) → IsWellFormed (fragment_parts x)
    → fragment_nesting x ≤ depth
    → Prints (fragment_definition file depth) bare_fragment_definition (bare_fragment_definition x)
    (fragment_definition_text x) anything
unfolding fragment_definition
fragment_prints file depth x well fits =
    regrouped (codes "fragment " ++ (x.name.text ++ (codes " on " ++ x.type_condition.text ++ (dirs ++ set))))
    (fragment_definition_text x) (ap (λ (behind : List ℕ). codes "fragment " ++ (x.name.text ++ behind))
    (append_assoc (codes " on ") x.type_condition.text (dirs ++ set)) ∙ grouped6 (codes "fragment ")
    x.name.text (codes " on ") x.type_condition.text dirs set)
    (mapped_text fragment_of bare_fragment_definition (bare_fragment_definition x)
    (λ v same. ap fragment_of same) (seq_text (keyword_before k.Fragment (codes "fragment") refl refl)
    (seq_text (fragment_name_prints file x.name well.0.0 well.0.1)
    (seq_text (condition_prints file x.type_condition well.1.0)
    (seq_text (directives_print file false depth x.directives applied.0 (omega arith))
    (selections_print file depth 0 (codes " {") x.selection_set opens_behind applied.1 (omega arith))
    (λ rest _. set_ends rest)) (λ rest _. apart_before dirs set (directives_apart x.directives.0) set_ends
    rest)) (λ rest _. refl)) (λ rest _. refl)))
  where
    dirs : List ℕ
    dirs = directives_text x.directives.0

    set : List ℕ
    set = selections_behind (codes " {") 0 x.selection_set

    applied : IsWellFormed (directives_parts false x.directives)
        × IsWellFormed (wanted_parts selection_parts x.selection_set)
    applied = part_of_front (directives_parts false x.directives) (wanted_parts selection_parts
        x.selection_set) well.1.1

    set_ends : (rest : List ℕ) → ends_token (set ++ rest) ≡ true
    set_ends = selections_end 0 x.selection_set applied.1

-- ---- texts of operations: GraphQL specification of October 2021, section 2.3

-- ---- keywords

-- the kind of an operation's keyword
abbrev pub keyword_kind : OperationType → Kind
keyword_kind o.Query = k.Query
keyword_kind o.Mutation = k.Mutation
keyword_kind o.Subscription = k.Subscription

-- an operation type begins with its keyword
type_head : (ty : OperationType) → Heads (only (keyword_kind ty)) (operation_text ty) ends_token
type_head o.Query = keyword_heads k.Query _ refl refl
type_head o.Mutation = keyword_heads k.Mutation _ refl refl
type_head o.Subscription = keyword_heads k.Subscription _ refl refl

-- ---- names and variables

-- the name of an operation behind a blank, or nothing where it has none
abbrev called : Option NameView → List ℕ
called None = []
called (Some n) = codes " " ++ n.text

name_prints_behind : (file : FileId) (name : Option NameView) → IsWellFormed (option_parts name_parts name)
    → Prints (optional (operation_name file)) (option_map bare_name) (option_map bare_name name) (called name)
    ends_token
name_prints_behind file None well = none_text (operation_name file) bare_name ends_token
name_prints_behind file (Some n) well =
    one_text (headed_text is_name (behind_blank (codes " ") refl (name_prints file n well.0)))

called_apart : (name : Option NameView) → IsApart (called name)
called_apart None = λ rest end. end
called_apart (Some n) = λ rest end. refl

-- what variables stand behind: a blank too, where the operation has no name
abbrev opening : Option NameView → List ℕ
opening None = codes " ("
opening (Some n) = codes "("

opens_paren : (name : Option NameView) → Opens k.LeftParen (opening name)
opens_paren None = sign_behind k.LeftParen (λ _. Expected (i.Word k.LeftParen)) t.LeftParen (codes " ")
    (codes "(") refl left_paren_is_token refl
opens_paren (Some n) = sign_prints k.LeftParen t.LeftParen left_paren_is_token refl

variables_apart : (name : Option NameView) (xs : List (NodeView VariableDefinition))
    → IsApart (variables_text (opening name) xs)
variables_apart name [] = λ rest end. end
variables_apart None (x ∷ xs) = λ rest end. refl
variables_apart (Some n) (x ∷ xs) = λ rest end. refl

-- both are a signature
signed : (name : Option NameView) (xs : List (NodeView VariableDefinition))
    → called name ++ variables_text (opening name) xs ≡ signature_text name xs
signed None xs = refl
signed (Some n) xs = refl

-- ---- operations

-- the parts of an operation
module _ (x : OperationDefinition) (well : IsWellFormed (operation_parts x)) where
  named : IsWellFormed (option_parts name_parts x.name) × IsWellFormed (flat_map (node_parts variable_parts)
      x.variables ++ (directives_parts false x.directives ++ wanted_parts selection_parts x.selection_set))
  named = part_of_front _ _ well

  given : IsWellFormed (flat_map (node_parts variable_parts) x.variables)
      × IsWellFormed (directives_parts false x.directives ++ wanted_parts selection_parts x.selection_set)
  given = part_of_front _ _ named.1

  -- its directives and its selections are well-formed
  pub applied : IsWellFormed (directives_parts false x.directives)
      × IsWellFormed (wanted_parts selection_parts x.selection_set)
  applied = part_of_front _ _ given.1

  -- what is before the directives and selections of an operation ends there
  tail_ends : (rest : List ℕ)
      → ends_token (directives_text x.directives.0 ++ selections_behind (codes " {") 0 x.selection_set
      ++ rest) ≡ true
  tail_ends = apart_before (directives_text x.directives.0) _ (directives_apart x.directives.0)
      (selections_end 0 x.selection_set applied.1)

  behind_ends : (rest : List ℕ)
      → ends_token (variables_text (opening x.name) x.variables ++ (directives_text x.directives.0
      ++ selections_behind (codes " {") 0 x.selection_set) ++ rest) ≡ true
  behind_ends = apart_before (variables_text (opening x.name) x.variables) (directives_text x.directives.0
      ++ selections_behind (codes " {") 0 x.selection_set) (variables_apart x.name x.variables) tail_ends

  -- an operation with its keyword begins with it
  pub long_head : Heads (only (keyword_kind x.operation_type)) (long_text x) anything
  long_head = heads_on (selections_behind (codes " {") 0 x.selection_set) anything
      (heads_on (directives_text x.directives.0) ends_token (heads_on (signature_text x.name x.variables)
      ends_token (type_head x.operation_type) signature_apart) (directives_apart x.directives.0))
      (λ rest _. selections_end 0 x.selection_set applied.1 rest)
    where
      signature_apart : IsApart (signature_text x.name x.variables)
      signature_apart = subst IsApart (signed x.name x.variables) (apart_joined (called x.name)
          (variables_text (opening x.name) x.variables) (called_apart x.name)
          (variables_apart x.name x.variables))

-- an operation is read as it is printed with its keyword
pub operation_prints : (file : FileId) (depth : ℕ) (x : OperationDefinition)
    → IsWellFormed (operation_parts x) → operation_nesting x ≤ depth
    → Prints (operation file depth) bare_operation_definition (bare_operation_definition x) (long_text x)
    anything
unfolding operation
operation_prints file depth x well fits = regrouped (front ++ (called x.name ++ (vars ++ (dirs ++ set))))
    (long_text x) (ap (λ (behind : List ℕ). front ++ behind) (sym (append_assoc (called x.name) vars
    (dirs ++ set))) ∙ grouped4 front (called x.name ++ vars) dirs set
    ∙ ap (λ (signature : List ℕ). front ++ signature ++ dirs ++ set) (signed x.name x.variables))
    (mapped_text operation_of bare_operation_definition (bare_operation_definition x)
    (λ v same. ap operation_of same) (seq_text (operation_type_prints x.operation_type)
    (seq_text (name_prints_behind file x.name (named x well).0)
    (seq_text (variables_print file depth (opening x.name) x.variables (opens_paren x.name) (given x well).0
    (omega arith)) (seq_text (directives_print file false depth x.directives (applied x well).0 (omega arith))
    (selections_print file depth 0 (codes " {") x.selection_set opens_behind (applied x well).1 (omega arith))
    (λ rest _. selections_end 0 x.selection_set (applied x well).1 rest)) (λ rest _. tail_ends x well rest))
    (λ rest _. behind_ends x well rest)) (λ rest _. apart_before (called x.name) (vars ++ (dirs ++ set))
    (called_apart x.name) (behind_ends x well) rest)))
  where
    front : List ℕ
    front = operation_text x.operation_type

    vars : List ℕ
    vars = variables_text (opening x.name) x.variables

    dirs : List ℕ
    dirs = directives_text x.directives.0

    set : List ℕ
    set = selections_behind (codes " {") 0 x.selection_set

-- ---- queries that are their selections alone

short_bare : (ty : OperationType) (name : Option NameView) (vs : List (NodeView VariableDefinition))
    (ds : List (NodeView Directive)) (xs : List Selection) → is_short ty name vs ds ≡ true
    → bare_operation_definition (record {
      operation_type = ty;
      name = name;
      variables = vs;
      directives = record { 0 = ds };
      selection_set = xs;
    }) ≡ shorthand_of (map bare_selection xs)
short_bare o.Query None [] [] xs is = refl
short_bare ty name vs ds xs is = absurd cc

-- a query that is printed as its selections alone is read as it is printed
pub shorthand_prints : (file : FileId) (depth : ℕ) (x : OperationDefinition)
    → IsWellFormed (operation_parts x) → operation_nesting x ≤ depth
    → is_short x.operation_type x.name x.variables x.directives.0 ≡ true
    → Prints (shorthand file depth) bare_operation_definition (bare_operation_definition x)
    (selections_text 0 x.selection_set) anything
unfolding shorthand
shorthand_prints file depth x well fits is = mapped_text shorthand_of bare_operation_definition
    (bare_operation_definition x) (λ xs same. ap shorthand_of same
    ∙ sym (short_bare x.operation_type x.name x.variables x.directives.0 x.selection_set is))
    (selections_print file depth 0 (codes "{") x.selection_set opens_brace (applied x well).1 (omega arith))
