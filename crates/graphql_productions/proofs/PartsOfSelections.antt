-- All parts of selections are as is asked.
use Rattle.std.proofs.Common.{List, None, Option, Some, [], false, suc, zero, ℕ, ◌++◌, ◌||◌, ◌∷◌}
use Rattle.std.specs.List.{flat_map}
use Rattle.graphql_nodes.specs.declared.source.FileId.{FileId}
use Rattle.graphql_nodes.specs.NameView.{NameView}
use Rattle.graphql_nodes.specs.NodeView.{NodeView}
use Rattle.graphql_ast.specs.declared.directive.Argument.{Argument}
use Rattle.graphql_ast.specs.declared.directive.DirectiveList.{DirectiveList}
use Rattle.graphql_ast.specs.declared.selection.Selection.{Selection}
use Rattle.graphql_grammar.specs.declared.kind.Kind.TheVariants as k
use Rattle.graphql_grammar.specs.declared.kind.Names.TheVariants as names
use Rattle.graphql_grammar.specs.Kinds.{is_name, names_of, only}
use Rattle.graphql_grammar.specs.Pieces.{Piece, headed, sign}
use Rattle.graphql_grammar.specs.Words.{WordView}
use Rattle.graphql_grammar.specs.declared.fault.FaultKind.TheVariants.{TooDeep}
use Rattle.graphql_grammar.proofs.PieceLaws.{sign_law}
use Rattle.graphql_productions.specs.Documents.{selections, selections_pick}
use Rattle.graphql_productions.specs.Nodes.{name, or_none, span_at}
use Rattle.graphql_productions.specs.SelectionParts.{selection_parts, spread_parts}
use Rattle.graphql_productions.specs.Selections.{alias, alias_body, bare_selections, condition_body, field}
use Rattle.graphql_productions.specs.Selections.{field_made, field_selection, fragment, fragment_body}
use Rattle.graphql_productions.specs.Selections.{fragment_name, fragment_pick, inline_body, nested_set}
use Rattle.graphql_productions.specs.Selections.{no_fragment_name, no_selection, selection, selection_pick}
use Rattle.graphql_productions.specs.Selections.{selection_set, selections_of, spread_body, type_condition}
use Rattle.graphql_productions.specs.TreeParts.{FragmentName, Node, TreePart, arguments_parts}
use Rattle.graphql_productions.specs.TreeParts.{directives_parts, name_parts, option_parts, wanted_parts}
use Rattle.graphql_productions.proofs.RolledParts.{field_rolled, field_selection_rolled, inline_parts}
use Rattle.graphql_productions.proofs.RolledParts.{inline_rolled, inline_selection_rolled, selected_parts}
use Rattle.graphql_productions.proofs.RolledParts.{spread_rolled}
use Rattle.graphql_productions.proofs.NodeLaws.{name_tame}
use Rattle.graphql_productions.proofs.PartLaws.{Covered, Holds, Serves, Yields, anything, begun_front}
use Rattle.graphql_productions.proofs.PartLaws.{between_covered, branch_covered, branch_yields}
use Rattle.graphql_productions.proofs.PartLaws.{choose_covered, choose_yields, headed_covered, inside}
use Rattle.graphql_productions.proofs.PartLaws.{mapped_covered, mapped_yields, no_parts, node_covered}
use Rattle.graphql_productions.proofs.PartLaws.{nothing_covered, nothing_yields, optional_covered}
use Rattle.graphql_productions.proofs.PartLaws.{place_covered, seq_covered, seq_yields, some_covered}
use Rattle.graphql_productions.proofs.PartLaws.{word_covered, yielded}
use Rattle.graphql_productions.proofs.PartsOfValues.{arguments_covered, directives_covered, name_covered}

module _ {asked : TreePart → Type 0} {file : FileId} {Known : List WordView → Type 0}
    (serves : Serves asked file Known) where
  alias_covered : Covered serves (alias file) name_parts
  unfolding alias_body
  alias_covered = headed_covered (mapped_covered (seq_covered (no_parts (sign k.Colon)) (name_covered serves))
      (λ x all. all))

  pub condition_covered : Covered serves (type_condition file) name_parts
  unfolding condition_body
  condition_covered = headed_covered
      (mapped_covered (seq_covered (no_parts (sign k.On)) (name_covered serves)) (λ x all. all))

  pub fragment_name_covered : Covered serves (fragment_name file) (λ n. FragmentName n ∷ [])
  unfolding fragment_name
  fragment_name_covered = word_covered (names_of names.Fragment) no_fragment_name
      (λ w known h. (serves.fragment_name w known h, tt))

  -- what a field holds, in the order of its words
  abbrev field_words : NameView
      × (Option NameView × (List (NodeView Argument) × (DirectiveList × Option (List Selection))))
      → List TreePart
  field_words x = name_parts x.0 ++ (option_parts name_parts x.1.0 ++ (arguments_parts false x.1.1.0
      ++ (directives_parts false x.1.1.1.0 ++ option_parts (wanted_parts selection_parts) x.1.1.1.1)))

  -- where selections are left out, nothing is missed
  unwanted : (arguments : List (NodeView Argument)) (directives : DirectiveList) (o : Option (List Selection))
      → Holds asked (arguments_parts false arguments ++ (directives_parts false directives
      ++ option_parts (wanted_parts selection_parts) o))
      → Holds asked (arguments_parts false arguments ++ (directives_parts false directives
      ++ flat_map selection_parts (or_none o)))
  unwanted a l None all = all
  unwanted a l (Some xs) all =
      let less : List TreePart = flat_map selection_parts xs in
      let wanted : List TreePart = wanted_parts selection_parts xs in
      inside asked (arguments_parts false a) (directives_parts false l ++ wanted) (directives_parts false l
      ++ less) (inside asked (directives_parts false l) wanted less (λ rest. rest.1)) all

  made_holds : (x : NameView
      × (Option NameView × (List (NodeView Argument) × (DirectiveList × Option (List Selection)))))
      → Holds asked (field_words x) → Holds asked (selected_parts (field_made x))
  made_holds (first, (None, (a, (l, o)))) all = rw field_rolled (all.0, unwanted a l o all.1)
  made_holds (first, (Some second, (a, (l, o)))) all =
      rw field_rolled (all.0, (all.1.0, unwanted a l o all.1.1))

  module _ (depth : ℕ) (p : Piece (List Selection))
      (pg : Covered serves p (wanted_parts selection_parts)) where
    field_covered : Covered serves (field file depth p) selected_parts
    unfolding field
    field_covered = mapped_covered (seq_covered (name_covered serves)
        (seq_covered (optional_covered alias_covered) (seq_covered (arguments_covered serves false depth)
        (seq_covered (directives_covered serves false depth) (optional_covered pg))))) made_holds

    spread_covered : Covered serves (spread_body file depth) spread_parts
    unfolding spread_body
    spread_covered = mapped_covered (seq_covered fragment_name_covered (directives_covered serves false
        depth)) (λ x all. all)

    inline_covered : Covered serves (inline_body file depth p) inline_parts
    unfolding inline_body
    inline_covered = mapped_covered (seq_covered (optional_covered condition_covered)
        (seq_covered (directives_covered serves false depth) pg)) (λ x all. rw inline_rolled all)

    -- what is to be placed, where its place is as is asked
    abbrev Placed : (ℕ × ℕ → Selection) → Type 0
    Placed f = (at : ℕ × ℕ) → asked (Node (span_at file at)) → Holds asked (selection_parts (f at))

    body_yields : Yields Known (fragment_body file depth p) Placed
    body_yields = branch_yields (fragment_pick file depth p) no_selection
        (λ kind. choose_yields (only k.On kind || (only k.At kind || only k.LeftBrace kind))
        (mapped_yields (yielded inline_covered) (λ f all at there. rw inline_selection_rolled (there, all)))
        (choose_yields (is_name kind) (mapped_yields (yielded spread_covered)
        (λ f all at there. rw spread_rolled (there, all))) (nothing_yields no_selection)))

    fragment_covered : Covered serves (fragment file depth p) selection_parts
    unfolding fragment
    fragment_covered = place_covered (only k.Spread) (seq_yields serves (anything (sign k.Spread))
        body_yields) (λ x front h. begun_front (only k.Spread) h.2.0.head h.2.0.tail h.2.0.whole
        ((sign_law k.Spread).begun tt h.2.0.head h.2.0.first)) (λ a placed there. placed.1 a.1 there)

    field_selection_covered : Covered serves (field_selection file depth p) selection_parts
    unfolding field_selection field name
    field_selection_covered =
        mapped_covered (node_covered is_name field_covered (λ x front h. begun_front is_name h.2.0.2.head
        h.2.0.2.tail h.2.0.2.whole ((name_tame file).law.begun h.2.0.0.0 h.2.0.2.head h.2.0.2.first)))
        (λ n all. rw field_selection_rolled all)

    selection_covered : Covered serves (selection file depth p) selection_parts
    selection_covered = branch_covered (selection_pick file depth p) no_selection
        (λ kind. choose_covered (only k.Spread kind) fragment_covered (choose_covered (is_name kind)
        field_selection_covered (nothing_covered no_selection)))

  nested_set_covered : (depth : ℕ) → Covered serves (nested_set file depth) (wanted_parts selection_parts)
  unfolding nested_set selections_of
  nested_set_covered zero = nothing_covered (λ _. TooDeep)
  nested_set_covered (suc depth) = between_covered k.LeftBrace k.RightBrace no_selection
      (some_covered (selection_covered depth (headed (only k.LeftBrace) (nested_set file depth))
      (headed_covered (nested_set_covered depth))))

  pub selection_set_covered : (depth : ℕ)
      → Covered serves (selection_set file depth) (wanted_parts selection_parts)
  selection_set_covered depth = headed_covered (nested_set_covered depth)

  bare_selections_covered : (depth : ℕ)
      → Covered serves (bare_selections file depth) (wanted_parts selection_parts)
  unfolding bare_selections
  bare_selections_covered depth =
      some_covered (selection_covered depth (selection_set file depth) (selection_set_covered depth))

  -- between braces or without
  pub selections_cover : (depth : ℕ) (x : List Selection) (front : List WordView) → Known front
      → (selections file depth).spells x front → Holds asked (wanted_parts selection_parts x)
  selections_cover depth =
      let all : Covered serves (selections file depth) (wanted_parts selection_parts) =
      branch_covered (selections_pick file depth) no_selection (λ kind. choose_covered
      (only k.LeftBrace kind) (selection_set_covered depth) (bare_selections_covered depth)) in
      all.each
