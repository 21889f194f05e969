-- Texts of fields: GraphQL specification of October 2021, sections 2.5 to 2.7.
use Rattle.std.proofs.Common.{◌≡◌, ◌≤◌, ℕ, Bool, true, false, cond, List, [], ◌∷◌, ◌++◌, map, option_map}
use Rattle.std.proofs.Common.{Option, None, Some, refl, sym, ap, subst, ◌∙◌, append_assoc, ◌≢◌, not, ◌||◌}
use Rattle.std.specs.Prelude.{codes, nat_lt}
use Rattle.std.specs.List.{flat_map}
use Rattle.graphql_nodes.specs.Comparing.{bare_name, bare_node}
use Rattle.graphql_nodes.specs.NameSyntax.{IsName}
use Rattle.graphql_nodes.specs.NameView.{NameView}
use Rattle.graphql_nodes.specs.NodeView.{NodeView}
use Rattle.graphql_nodes.specs.declared.source.FileId.{FileId}
use Rattle.graphql_ast.specs.Bare.{bare_argument, bare_directive_list}
use Rattle.graphql_ast.specs.BareSelections.{bare_field, bare_selection, bare_fragment_spread}
use Rattle.graphql_ast.specs.BareSelections.{bare_inline_fragment}
use Rattle.graphql_ast.specs.declared.directive.Argument.{Argument}
use Rattle.graphql_ast.specs.declared.directive.DirectiveList.{DirectiveList}
use Rattle.graphql_ast.specs.declared.selection.Field.{Field, roll-Field}
use Rattle.graphql_ast.specs.declared.selection.Selection.{Selection}
use Rattle.graphql_ast.specs.declared.selection.Selection.TheOpen.{Selection-F}
use Rattle.graphql_grammar.specs.Kinds.{is_name, only, Kinds, names_of}
use Rattle.graphql_grammar.specs.Pieces.{Piece, choose, nothing, optional, seq, mapped}
use Rattle.graphql_productions.specs.Directives.{arguments, directives}
use Rattle.graphql_productions.specs.Nodes.{behind, or_none, span_at}
use Rattle.graphql_productions.specs.SelectionParts.{selection_parts, spread_parts}
use Rattle.graphql_productions.specs.Selections.{alias, alias_body, field, field_made, field_selection}
use Rattle.graphql_productions.specs.Selections.{fragment, no_selection, selection, selection_pick}
use Rattle.graphql_productions.specs.Selections.{condition_body, fragment_body, fragment_name, fragment_pick}
use Rattle.graphql_productions.specs.Selections.{inline_at, inline_body, inline_of, no_fragment_name}
use Rattle.graphql_productions.specs.Selections.{placed_fragment, spread_at, spread_body, spread_of}
use Rattle.graphql_productions.specs.Selections.{type_condition}
use Rattle.graphql_productions.specs.TreeParts.{Name, arguments_parts, directives_parts, name_parts}
use Rattle.graphql_productions.specs.TreeParts.{option_parts}
use Rattle.graphql_productions.specs.WellFormed.{IsWellFormed}
use Rattle.graphql_printing.specs.Fields.{argument_lines, field_head, field_name_text, short_head}
use Rattle.graphql_printing.specs.Texts.{arguments_text, directives_text}
use Rattle.graphql_printing.specs.Widths.{width}
use Rattle.graphql_round_trip.specs.Nesting.{arguments_nesting, directives_nesting}
use Rattle.graphql_round_trip.specs.Printed.{Heads, Prints, ends_token, anything}
use Rattle.graphql_round_trip.proofs.HeadTexts.{first_text, is_none_of, second_text, fragment_kind}
use Rattle.graphql_round_trip.proofs.HeadTexts.{branch_behind, sign_heads, keyword_before, keyword_heads}
use Rattle.graphql_round_trip.proofs.DirectiveTexts.{argument_lines_print, arguments_print, directives_print}
use Rattle.graphql_round_trip.proofs.PieceTexts.{grouped4, regrouped, name_heads, name_prints, node_prints}
use Rattle.graphql_round_trip.proofs.PieceTexts.{sign_before, name_seen, sign_prints, both_seen, branch_text}
use Rattle.graphql_round_trip.proofs.PieceTexts.{headed_text, heads_on, mapped_text, none_text, one_text}
use Rattle.graphql_round_trip.proofs.PieceTexts.{seq_text, behind_blank, branch_at, located_text, token_heads}
use Rattle.graphql_round_trip.proofs.PieceTexts.{word_text, IsApart, apart_joined, directives_apart}
use Rattle.graphql_round_trip.proofs.PieceTexts.{apart_before}
use Rattle.graphql_round_trip.proofs.ListTexts.{left_out, left_out_none, seen_or_none, part_of_front}
use Rattle.graphql_round_trip.proofs.Levels.{FieldLevel, InlineLevel, field_bare, inline_bare, selection_bare}
use Rattle.graphql_round_trip.proofs.TokenTexts.{colon_is_token, at_is_token, left_brace_is_token}
use Rattle.graphql_round_trip.proofs.TokenTexts.{name_is_token, name_unblank, spread_is_token}
use Rattle.std.proofs.lemmas.Bool.{and_parts}
use Rattle.graphql_ast.specs.declared.directive.Directive.{Directive}
use Rattle.graphql_ast.specs.declared.selection.FragmentSpread.{FragmentSpread}
use Rattle.graphql_ast.specs.declared.selection.InlineFragment.{InlineFragment, roll-InlineFragment}
use Rattle.graphql_printing.specs.Selections.{condition_text, spread_text}
use Rattle.graphql_ast.specs.declared.selection.Selection as s
use Rattle.graphql_tokens.specs.declared.token.TokenKind.TheVariants as t
use Rattle.graphql_grammar.specs.declared.fault.Item.TheVariants as i
use Rattle.graphql_grammar.specs.declared.kind.Kind.TheVariants as k
use Rattle.graphql_grammar.specs.declared.kind.Names.TheVariants as names
use Rattle.graphql_grammar.specs.declared.fault.FaultKind.TheVariants.{Expected}

-- what stands behind a field's name
abbrev Behind : Type 0
Behind = List (NodeView Argument) × (DirectiveList × Option (List Selection))

abbrev behind_name : FileId → ℕ → Piece (List Selection) → Piece Behind
behind_name file depth p = seq (arguments file false depth) (seq (directives file false depth) (optional p))

abbrev behind_seen : Behind → Behind
behind_seen = both_seen (map (bare_node bare_argument)) (both_seen bare_directive_list
    (option_map (map bare_selection)))

abbrev field_seen : NameView × (Option NameView × Behind) → NameView × (Option NameView × Behind)
field_seen = both_seen bare_name (both_seen (option_map bare_name) behind_seen)

-- a field that is made without locations is one that is made of what has none
made_bare : (x : NameView × (Option NameView × Behind))
    → bare_field (field_made x) ≡ field_made (field_seen x)
made_bare x = by x.0 x.1.0 x.1.1
  where
    by : (n : NameView) (o : Option NameView) (v : Behind)
        → bare_field (field_made (n, (o, v))) ≡ field_made (field_seen (n, (o, v)))
    by n None v = field_bare _ ∙ ap (λ (set : List Selection). roll-Field (record {
      alias = None;
      name = bare_name n;
      arguments = map (bare_node bare_argument) v.0;
      directives = bare_directive_list v.1.0;
      selection_set = set;
    })) (seen_or_none bare_selection v.1.1)
    by n (Some m) v = field_bare _ ∙ ap (λ (set : List Selection). roll-Field (record {
      alias = Some (bare_name n);
      name = bare_name m;
      arguments = map (bare_node bare_argument) v.0;
      directives = bare_directive_list v.1.0;
      selection_set = set;
    })) (seen_or_none bare_selection v.1.1)

-- the name behind an alias
alias_prints : (file : FileId) (n : NameView) → IsName n.text
    → Prints (alias file) bare_name (bare_name n) (codes ": " ++ n.text) ends_token
unfolding alias_body
alias_prints file n is =
    headed_text (only k.Colon) (mapped_text behind bare_name (bare_name n)
    (λ x same. ap (λ (p : Unit {0} × NameView). p.1) same)
    (seq_text (sign_before k.Colon (λ _. Expected (i.Word k.Colon)) t.Colon (codes ":") (codes " ") refl
    colon_is_token refl) (name_prints file n is) (λ rest _. refl)))

module _ (file : FileId) (depth : ℕ) (p : Piece (List Selection)) {v : Behind} {text : List ℕ}
    (tail : Prints (behind_name file depth p) behind_seen v text ends_token) (apart : IsApart text) where
  -- a field without an alias
  unaliased_prints : (n : NameView) → IsName n.text
      → Prints (field file depth p) bare_field (field_made (bare_name n, (None, v))) (n.text
      ++ text) ends_token
  unfolding field
  unaliased_prints n is = mapped_text field_made bare_field _ (λ x same. made_bare x ∙ ap field_made same)
      (seq_text (name_prints file n is) (seq_text (none_text (alias file) bare_name ends_token) tail apart)
      apart)

  -- a field with an alias
  aliased_prints : (n m : NameView) → IsName n.text → IsName m.text
      → Prints (field file depth p) bare_field (field_made (bare_name n, (Some (bare_name m), v))) (n.text
      ++ (codes ": " ++ m.text ++ text)) ends_token
  unfolding field
  aliased_prints n m is named =
      mapped_text field_made bare_field (field_made (bare_name n, (Some (bare_name m), v)))
      (λ x same. made_bare x ∙ ap field_made same) (seq_text (name_prints file n is)
      (seq_text (one_text (alias_prints file m named)) tail apart) (λ rest _. refl))

-- a field by its alias and name, and what stands behind them
abbrev made : Option NameView → NameView → Behind → Field
made o n v = roll-Field (record {
  alias = option_map bare_name o;
  name = bare_name n;
  arguments = v.0;
  directives = v.1.0;
  selection_set = or_none v.1.1;
})

-- a field as a selection
module _ (file : FileId) (depth : ℕ) (p : Piece (List Selection)) where
  field_selected : {y : Field} {text : List ℕ} → Heads is_name text ends_token
      → Prints (field file depth p) bare_field y text ends_token
      → Prints (selection file depth p) bare_selection (s.Field (record { value = y; location = None })) text
      ends_token
  unfolding field_selection
  field_selected {y} {text} head t =
      branch_text _ no_selection is_name head
      (λ kind is. second_text _ _ (choose (is_name kind) (field_selection file depth p)
      (nothing no_selection)) (is_none_of is_name (only k.Spread) refl kind is)
      (first_text (is_name kind) (field_selection file depth p) (nothing no_selection) is
      (mapped_text (λ x. s.Field x) bare_selection (s.Field (record { value = y; location = None }))
      (λ n same. selection_bare (Selection-F.Field n) ∙ ap (λ (n : NodeView Field). s.Field n) same)
      (node_prints file t))))

  -- by its alias and name, and what stands behind them
  selected_prints : {v : Behind} {text : List ℕ}
      → Prints (behind_name file depth p) behind_seen v text ends_token → IsApart text
      → (o : Option NameView) (n : NameView) → IsWellFormed (option_parts name_parts o) → IsName n.text
      → Prints (selection file depth p) bare_selection
      (s.Field (record { value = made o n v; location = None })) (field_name_text o n ++ text) ends_token
  selected_prints {v} {text} tail apart None n well is =
      field_selected (heads_on text ends_token (name_heads n is) apart) (unaliased_prints file depth p tail
      apart n is)
  selected_prints {v} {text} tail apart (Some a) n well is =
      regrouped (a.text ++ (codes ": " ++ n.text ++ text)) (a.text ++ codes ": " ++ n.text ++ text)
      (ap (λ (rest : List ℕ). a.text ++ rest) (append_assoc (codes ": ") n.text text)
      ∙ grouped4 a.text (codes ": ") n.text text)
      (field_selected (heads_on (codes ": " ++ n.text ++ text) ends_token (name_heads a well.0)
      (λ rest _. refl)) (aliased_prints file depth p tail apart a n well.0 is))

-- arguments stand apart
arguments_apart : (xs : List (NodeView Argument)) → IsApart (arguments_text xs)
arguments_apart [] = λ rest end. end
arguments_apart (x ∷ xs) = λ rest end. refl

lines_apart : (indent : ℕ) (xs : List (NodeView Argument)) → IsApart (argument_lines indent xs)
lines_apart indent [] = λ rest end. end
lines_apart indent (x ∷ xs) = λ rest end. refl

-- a field as a selection, where the text of its selections is read as them
pub field_prints : (file : FileId) (depth : ℕ) (p : Piece (List Selection)) (x : FieldLevel) (indent : ℕ)
    → IsWellFormed (option_parts name_parts x.alias ++ (Name x.name ∷ (arguments_parts false x.arguments
    ++ (directives_parts false x.directives ++ flat_map selection_parts x.selection_set))))
    → arguments_nesting x.arguments ≤ depth → directives_nesting x.directives ≤ depth → (set : List ℕ)
    → Prints (optional p) (option_map (map bare_selection)) (left_out (map bare_selection x.selection_set))
    set ends_token → IsApart set
    → Prints (selection file depth p) bare_selection
    (s.Field (record { value = bare_field (roll-Field x); location = None }))
    (field_head indent x.alias x.name x.arguments ++ directives_text x.directives.0 ++ set) ends_token
field_prints file depth p x indent well fits shallow set st apart =
    by (nat_lt 80 (width (short_head x.alias x.name x.arguments)))
  where
    named : IsWellFormed (option_parts name_parts x.alias)
        × IsWellFormed (Name x.name ∷ (arguments_parts false x.arguments
        ++ (directives_parts false x.directives ++ flat_map selection_parts x.selection_set)))
    named = part_of_front (option_parts name_parts x.alias) (Name x.name ∷ (arguments_parts false x.arguments
        ++ (directives_parts false x.directives ++ flat_map selection_parts x.selection_set))) well

    argued : IsWellFormed (arguments_parts false x.arguments)
        × IsWellFormed (directives_parts false x.directives ++ flat_map selection_parts x.selection_set)
    argued = part_of_front (arguments_parts false x.arguments) (directives_parts false x.directives
        ++ flat_map selection_parts x.selection_set) named.1.1

    directed : IsWellFormed (directives_parts false x.directives)
    directed = (part_of_front (directives_parts false x.directives) (flat_map selection_parts x.selection_set)
        argued.1).0

    seen : Behind
    seen = (
      map (bare_node bare_argument) x.arguments,
      (bare_directive_list x.directives, left_out (map bare_selection x.selection_set)),
    )

    same : made x.alias x.name seen ≡ bare_field (roll-Field x)
    same = ap (λ (all : List Selection). roll-Field (record {
      alias = option_map bare_name x.alias;
      name = bare_name x.name;
      arguments = map (bare_node bare_argument) x.arguments;
      directives = bare_directive_list x.directives;
      selection_set = all;
    })) (left_out_none (map bare_selection x.selection_set)) ∙ sym (field_bare x)

    behind_head : IsApart (directives_text x.directives.0 ++ set)
    behind_head = apart_joined (directives_text x.directives.0) set (directives_apart x.directives.0) apart

    laid : (a : List ℕ)
        → Prints (arguments file false depth) (map (bare_node bare_argument)) (map (bare_node bare_argument)
        x.arguments) a ends_token → IsApart a
        → Prints (selection file depth p) bare_selection
        (s.Field (record { value = bare_field (roll-Field x); location = None }))
        (field_name_text x.alias x.name ++ a ++ directives_text x.directives.0 ++ set) ends_token
    laid a t stands = regrouped (field_name_text x.alias x.name
        ++ (a ++ (directives_text x.directives.0 ++ set))) (field_name_text x.alias x.name
        ++ a ++ directives_text x.directives.0 ++ set) (grouped4 (field_name_text x.alias x.name) a
        (directives_text x.directives.0) set)
        (subst (λ (y : Field). Prints (selection file depth p) bare_selection
        (s.Field (record { value = y; location = None })) (field_name_text x.alias x.name
        ++ (a ++ (directives_text x.directives.0 ++ set))) ends_token) same (selected_prints file depth p
        (seq_text t (seq_text (directives_print file false depth x.directives directed shallow) st apart)
        behind_head) (apart_joined a (directives_text x.directives.0 ++ set) stands behind_head) x.alias
        x.name named.0 named.1.0))

    by : (long : Bool)
        → Prints (selection file depth p) bare_selection
        (s.Field (record { value = bare_field (roll-Field x); location = None }))
        (cond long (field_name_text x.alias x.name ++ argument_lines indent x.arguments)
        (short_head x.alias x.name x.arguments) ++ directives_text x.directives.0 ++ set) ends_token
    by true = laid (argument_lines indent x.arguments) (argument_lines_print file false depth indent
        x.arguments argued.0 fits) (lines_apart indent x.arguments)
    by false = laid (arguments_text x.arguments) (arguments_print file false depth x.arguments argued.0 fits)
        (arguments_apart x.arguments)

-- ---- texts of fragment spreads and inline fragments: GraphQL specification of October 2021, section 2.8

-- ---- names and type conditions

-- the name of a fragment
pub fragment_name_prints : (file : FileId) (n : NameView) → IsName n.text → n.text ≢ codes "on"
    → Prints (fragment_name file) bare_name (bare_name n) n.text ends_token
unfolding fragment_name
fragment_name_prints file n is other = mapped_text _ bare_name (bare_name n) (λ w same. ap name_seen same)
    (word_text (names_of names.Fragment) no_fragment_name t.Name (name_is_token n.text is)
    (fragment_kind n.text other))

-- a type condition, behind a blank
pub condition_prints : (file : FileId) (n : NameView) → IsName n.text
    → Prints (type_condition file) bare_name (bare_name n) (codes " on " ++ n.text) ends_token
unfolding condition_body
condition_prints file n is =
    headed_text _ (mapped_text behind bare_name _ (λ x same. ap (λ (p : Unit {0} × NameView). p.1) same)
    (seq_text (behind_blank (codes " ") refl (keyword_before k.On (codes "on") refl refl))
    (name_prints file n is) (λ rest _. refl)))

-- a type condition stands apart
condition_apart : (c : Option NameView) → IsApart (condition_text c)
condition_apart None = λ rest end. end
condition_apart (Some n) = λ rest end. refl

-- ---- behind `...`

-- what is seen of a fragment that is still to be placed: not where
abbrev place_seen : (ℕ × ℕ → Selection) → (ℕ × ℕ → Selection)
place_seen place = λ at. bare_selection (place at)

module _ (file : FileId) (depth : ℕ) (p : Piece (List Selection)) where
  -- a fragment as a selection
  fragment_selected : {y : Selection} {text : List ℕ} {ends : List ℕ → Bool}
      → Prints (fragment_body file depth p) place_seen (λ at. y) text ends
      → Prints (selection file depth p) bare_selection y (codes "..." ++ text) ends
  unfolding fragment
  fragment_selected {y} {text} body = branch_at (selection_pick file depth p) no_selection k.Spread
      (sign_heads _ t.Spread _ text refl spread_is_token refl) (mapped_text placed_fragment bare_selection y
      (λ x same. ap (λ (q : Unit {0} × (ℕ × ℕ → Selection)). q.1 x.1) same) (located_text
      (seq_text (sign_prints k.Spread t.Spread spread_is_token refl) body (λ rest _. refl))))

  -- a spread, behind its `...`
  spread_placed : {y : FragmentSpread} (more : List ℕ) (n : NameView) → IsName n.text → n.text ≢ codes "on"
      → IsApart more → Prints (spread_body file depth) bare_fragment_spread y (n.text ++ more) ends_token
      → Prints (fragment_body file depth p) place_seen
      (λ at. s.FragmentSpread (record { value = y; location = None })) (n.text ++ more) ends_token
  spread_placed {y} more n is other apart body = branch_text _ no_selection (names_of names.Fragment)
      (heads_on more ends_token (token_heads (names_of names.Fragment) t.Name n.text ends_token
      (name_unblank n.text is) (name_is_token n.text is) (fragment_kind n.text other)) apart)
      (λ kind is. second_text (begins_inline kind) (mapped (inline_at file) (inline_body file depth p))
      (choose (is_name kind) (mapped (spread_at file) (spread_body file depth)) (nothing no_selection))
      (is_none_of (names_of names.Fragment) begins_inline refl kind is)
      (first_text (is_name kind) (mapped (spread_at file) (spread_body file depth)) (nothing no_selection)
      (and_parts (is_name kind) (not (only k.On kind)) is).0 (mapped_text (spread_at file) place_seen
      (λ at. s.FragmentSpread (record { value = y; location = None }))
      (λ x same i at. (selection_bare (Selection-F.FragmentSpread (record {
        value = x;
        location = span_at file at;
      })) ∙ ap (λ (v : FragmentSpread). s.FragmentSpread (record { value = v; location = None })) same) i)
      body)))
    where
      begins_inline : Kinds
      begins_inline kind = only k.On kind || (only k.At kind || only k.LeftBrace kind)

  -- an inline fragment, behind its `...`
  inline_placed : {y : InlineFragment} (c : Option NameView) (ds : List (NodeView Directive)) (more : List ℕ)
      → Prints (inline_body file depth p) bare_inline_fragment y (condition_text c
      ++ (directives_text ds ++ (codes " {" ++ more))) anything
      → Prints (fragment_body file depth p) place_seen
      (λ at. s.InlineFragment (record { value = y; location = None })) (condition_text c
      ++ (directives_text ds ++ (codes " {" ++ more))) anything
  inline_placed {y} c ds more body = by c ds placed
    where
      placed : Prints (mapped (inline_at file) (inline_body file depth p)) place_seen
          (λ at. s.InlineFragment (record { value = y; location = None })) (condition_text c
          ++ (directives_text ds ++ (codes " {" ++ more))) anything
      placed = mapped_text _ place_seen _
          (λ x same i at. (selection_bare (Selection-F.InlineFragment (record {
            value = x;
            location = span_at file at;
          })) ∙ ap (λ (v : InlineFragment). s.InlineFragment (record { value = v; location = None })) same) i)
          body

      by : (c : Option NameView) (ds : List (NodeView Directive))
          → Prints (mapped (inline_at file) (inline_body file depth p)) place_seen
          (λ at. s.InlineFragment (record { value = y; location = None })) (condition_text c
          ++ (directives_text ds ++ (codes " {" ++ more))) anything
          → Prints (fragment_body file depth p) place_seen
          (λ at. s.InlineFragment (record { value = y; location = None })) (condition_text c
          ++ (directives_text ds ++ (codes " {" ++ more))) anything
      by (Some n) ds body = branch_behind (fragment_pick file depth p) no_selection k.On (codes " ") refl
          (heads_on (codes " " ++ (n.text ++ (directives_text ds ++ (codes " {" ++ more)))) anything
          (keyword_heads k.On (codes "on") refl refl) (λ rest _. refl)) body
      by None (d ∷ ds) body = branch_behind (fragment_pick file depth p) no_selection k.At (codes " ") refl
          (sign_heads (only k.At) t.At (codes "@") (d.value.name.text ++ arguments_text d.value.arguments
          ++ directives_text ds ++ (codes " {" ++ more)) refl at_is_token refl) body
      by None [] body = branch_behind (fragment_pick file depth p) no_selection k.LeftBrace (codes " ") refl
          (sign_heads (only k.LeftBrace) t.LeftBrace (codes "{") more refl left_brace_is_token refl) body

-- a spread as a selection
pub spread_prints : (file : FileId) (depth : ℕ) (p : Piece (List Selection)) (x : FragmentSpread)
    → IsWellFormed (spread_parts x) → directives_nesting x.directives ≤ depth
    → Prints (selection file depth p) bare_selection (s.FragmentSpread
    (record { value = bare_fragment_spread x; location = None })) (spread_text x) ends_token
unfolding spread_body
spread_prints file depth p x well fits =
    fragment_selected file depth p (spread_placed file depth p (directives_text x.directives.0)
    x.fragment_name well.0.0 well.0.1 (directives_apart x.directives.0)
    (mapped_text spread_of bare_fragment_spread (bare_fragment_spread x) (λ v same. ap spread_of same)
    (seq_text (fragment_name_prints file x.fragment_name well.0.0 well.0.1) (directives_print file false depth
    x.directives well.1 fits) (directives_apart x.directives.0))))

-- an inline fragment as a selection, where the text of its selections is read as them
pub inline_prints : (file : FileId) (depth : ℕ) (p : Piece (List Selection)) (x : InlineLevel)
    → IsWellFormed (option_parts name_parts x.type_condition)
    → IsWellFormed (directives_parts false x.directives) → directives_nesting x.directives ≤ depth
    → (more : List ℕ)
    → Prints p (map bare_selection) (map bare_selection x.selection_set) (codes " {" ++ more) anything
    → Prints (selection file depth p) bare_selection
    (s.InlineFragment (record { value = bare_inline_fragment (roll-InlineFragment x); location = None }))
    (codes "..." ++ condition_text x.type_condition ++ directives_text x.directives.0 ++ (codes " {" ++ more))
    anything
unfolding inline_body
inline_prints file depth p x named well fits more st =
    regrouped (codes "..." ++ (condition_text x.type_condition ++ (directives_text x.directives.0
    ++ (codes " {" ++ more)))) (codes "..." ++ condition_text x.type_condition
    ++ directives_text x.directives.0
    ++ (codes " {" ++ more)) (grouped4 (codes "...") (condition_text x.type_condition)
    (directives_text x.directives.0) (codes " {" ++ more)) (fragment_selected file depth p
    (inline_placed file depth p x.type_condition x.directives.0 more
    (mapped_text inline_of bare_inline_fragment (bare_inline_fragment (roll-InlineFragment x))
    (λ v same. inline_bare (record { type_condition = v.0; directives = v.1.0; selection_set = v.1.1 })
    ∙ ap inline_of same ∙ sym (inline_bare x)) (seq_text (condition x.type_condition named)
    (seq_text (directives_print file false depth x.directives well fits) st (λ rest _. refl))
    (λ rest _. apart_before (directives_text x.directives.0) (codes " {" ++ more) (directives_apart
    x.directives.0) (λ rest. refl) rest)))))
  where
    condition : (c : Option NameView) → IsWellFormed (option_parts name_parts c)
        → Prints (optional (type_condition file)) (option_map bare_name) (option_map bare_name c)
        (condition_text c) ends_token
    condition None well = none_text (type_condition file) bare_name ends_token
    condition (Some n) well = one_text (condition_prints file n well.0)
