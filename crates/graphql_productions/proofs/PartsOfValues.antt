-- All parts of values, arguments, directives and types are as is asked.
use Rattle.std.proofs.Common.{Bool, List, None, Option, Some, [], false, not, refl, subst, suc, true, zero, ℕ}
use Rattle.std.proofs.Common.{◌||◌, ◌∷◌, ◌≡◌}
use Rattle.graphql_nodes.specs.declared.source.FileId.{FileId}
use Rattle.graphql_nodes.specs.NameView.{NameView}
use Rattle.graphql_nodes.specs.NodeView.{NodeView}
use Rattle.graphql_ast.specs.declared.type_reference.Type.{«Type» as TypeReference}
use Rattle.graphql_ast.specs.declared.value.Value.{Value}
use Rattle.graphql_grammar.specs.declared.fault.FaultKind.TheVariants.{Expected, TooDeep, VariableInConstant}
use Rattle.graphql_grammar.specs.declared.fault.Item.TheVariants as i
use Rattle.graphql_grammar.specs.declared.kind.Kind.{Kind}
use Rattle.graphql_grammar.specs.declared.kind.Kind.TheVariants as k
use Rattle.graphql_grammar.specs.declared.kind.Names.TheVariants as names
use Rattle.graphql_grammar.specs.Kinds.{is_name, names_of, only}
use Rattle.graphql_grammar.specs.Pieces.{Piece, headed, nothing, optional, sign}
use Rattle.graphql_grammar.specs.Words.{WordView}
use Rattle.graphql_grammar.proofs.KindLemmas.{of_each}
use Rattle.graphql_productions.specs.Directives.{argument, argument_node, arguments, directive}
use Rattle.graphql_productions.specs.Directives.{directive_node, directives, no_argument, no_directive}
use Rattle.graphql_productions.specs.Nodes.{name, name_of}
use Rattle.graphql_productions.specs.TreeParts.{TreePart, Variable, argument_parts, arguments_parts}
use Rattle.graphql_productions.specs.TreeParts.{directive_parts, directives_parts, name_parts, node_parts}
use Rattle.graphql_productions.specs.TreeParts.{type_parts, value_parts}
use Rattle.graphql_productions.specs.Types.{is_type, list_type_of, named_type, nested_list_type, no_type}
use Rattle.graphql_productions.specs.Types.{required_where, type, type_by, type_pick}
use Rattle.graphql_productions.specs.Values.{block_value, enum_value, false_value, float_value, group}
use Rattle.graphql_productions.specs.Values.{group_pick, int_value, is_group, is_value, list_of, member}
use Rattle.graphql_productions.specs.Values.{member_body, nested_group, no_member, no_value, null_value}
use Rattle.graphql_productions.specs.Values.{object_of, quoted_value, true_value, value_by, value_node}
use Rattle.graphql_productions.specs.Values.{variable, variable_or_none, variable_value}
use Rattle.graphql_productions.proofs.RolledParts.{boolean_rolled, enum_rolled, float_rolled, int_rolled}
use Rattle.graphql_productions.proofs.RolledParts.{list_rolled, list_type_rolled, member_parts, named_rolled}
use Rattle.graphql_productions.proofs.RolledParts.{null_rolled, object_rolled, required_rolled, string_rolled}
use Rattle.graphql_productions.proofs.RolledParts.{variable_rolled}
use Rattle.graphql_productions.proofs.ValueLaws.{value_node_tame}
use Rattle.graphql_productions.proofs.DirectiveLaws.{argument_tame, directive_tame}
use Rattle.graphql_productions.proofs.PartLaws.{Covered, Holds, Serves, anything, between_covered}
use Rattle.graphql_productions.proofs.PartLaws.{branch_covered, choose_covered, choose_one, covered}
use Rattle.graphql_productions.proofs.PartLaws.{headed_covered, item_covered, list_covered, listed_covered}
use Rattle.graphql_productions.proofs.PartLaws.{many_covered, mapped_covered, mapped_yields, no_parts}
use Rattle.graphql_productions.proofs.PartLaws.{node_covered, nothing_covered, seq_covered, seq_yields}
use Rattle.graphql_productions.proofs.PartLaws.{word_covered, yielded}

-- a name that isn't one of these words may be an enum value's
plain_name : (kind : Kind) → only k.True kind ≡ false → only k.False kind ≡ false → only k.Null kind ≡ false
    → is_name kind ≡ true → names_of names.EnumValue kind ≡ true
plain_name kind t f n named = by (only k.True kind) (only k.False kind) (only k.Null kind) (is_name kind)
    (names_of names.EnumValue kind) t f n named (of_each (λ kind. plain (only k.True kind) (only k.False kind)
    (only k.Null kind) (is_name kind) (names_of names.EnumValue kind)) refl kind)
  where
    plain : Bool → Bool → Bool → Bool → Bool → Bool
    plain a b c d e = a || (b || (c || (not d || e)))

    by : (a b c d e : Bool) → a ≡ false → b ≡ false → c ≡ false → d ≡ true → plain a b c d e ≡ true → e ≡ true
    by false false false true e ha hb hc hd all = all
    by true b c d e ha hb hc hd all = absurd cc
    by false true c d e ha hb hc hd all = absurd cc
    by false false true d e ha hb hc hd all = absurd cc
    by false false false false e ha hb hc hd all = absurd cc

module _ {asked : TreePart → Type 0} {file : FileId} {Known : List WordView → Type 0}
    (serves : Serves asked file Known) where
  pub name_covered : Covered serves (name file) name_parts
  unfolding name
  name_covered = word_covered is_name (λ _. Expected i.Name) (λ w known h. (serves.name w known h, tt))

  -- ---- values of one word

  module _ (constant : Bool) where
    int_covered : Covered serves int_value (value_parts constant)
    unfolding int_value
    int_covered = word_covered (only k.Int) no_value (λ w known h. rw (int_rolled constant)
        (serves.int w known h, tt))

    float_covered : Covered serves float_value (value_parts constant)
    unfolding float_value
    float_covered = word_covered (only k.Float) no_value (λ w known h. rw (float_rolled constant)
        (serves.float w known h, tt))

    quoted_covered : Covered serves quoted_value (value_parts constant)
    unfolding quoted_value
    quoted_covered = word_covered (only k.String) no_value (λ w known h. rw (string_rolled constant) tt)

    block_covered : Covered serves block_value (value_parts constant)
    unfolding block_value
    block_covered = word_covered (only k.BlockString) no_value (λ w known h. rw (string_rolled constant) tt)

    true_covered : Covered serves true_value (value_parts constant)
    unfolding true_value
    true_covered = mapped_covered (no_parts (sign k.True)) (λ x all. rw (boolean_rolled constant) tt)

    false_covered : Covered serves false_value (value_parts constant)
    unfolding false_value
    false_covered = mapped_covered (no_parts (sign k.False)) (λ x all. rw (boolean_rolled constant) tt)

    null_covered : Covered serves null_value (value_parts constant)
    unfolding null_value
    null_covered = mapped_covered (no_parts (sign k.Null)) (λ x all. rw (null_rolled constant) tt)

    enum_holds : (w : WordView) (ws : List WordView) (x : Value) → Known (w ∷ ws)
        → names_of names.EnumValue w.kind ≡ true → (enum_value file).spells x (w ∷ ws)
        → Holds asked (value_parts constant x)
    unfolding enum_value name
    enum_holds w ws x known h s =
        let v : WordView = s.2.0 in
        let same : w ≡ v = cc s.2.2.0 in
        let named = serves.enum_name v (subst Known s.2.2.0 known)
        (subst (λ (u : WordView). names_of names.EnumValue u.kind ≡ true) same h) in
        rw (s.1, s.2.1, enum_rolled constant) (named, tt)

  -- ---- variables

  pub variable_covered : (part : NameView → TreePart)
      → ((w : WordView) → Known (w ∷ []) → is_name w.kind ≡ true → asked (part (name_of file w)))
      → Covered serves (variable file) (λ n. part n ∷ [])
  unfolding variable name
  variable_covered part asks =
      mapped_covered (seq_covered (no_parts (sign k.Dollar)) (word_covered is_name (λ _. Expected i.Name)
      {g = λ n. part n ∷ []} (λ w known h. (asks w known h, tt)))) (λ x all. all)

  variable_value_covered : (constant : Bool)
      → Covered serves (variable_or_none file constant) (value_parts constant)
  unfolding variable_or_none
  variable_value_covered true = nothing_covered (λ _. VariableInConstant)
  variable_value_covered false = mapped_covered (variable_covered (Variable false) serves.variable)
      (λ n all. rw (variable_rolled false) all)

  -- ---- one of several

  value_by_each : (constant : Bool) (grouped : Piece Value) → Covered serves grouped (value_parts constant)
      → (x : Value) (front : List WordView) → Known front → (value_by file constant grouped).spells x front
      → Holds asked (value_parts constant x)
  value_by_each constant grouped pg x [] known h = absurd h
  value_by_each constant grouped pg x (w ∷ ws) known h =
      let l : List WordView = w ∷ ws in
      choose_one (only k.Int w.kind) int_value _ h (λ e s. (int_covered constant).each x l known s)
      (λ e h. choose_one (only k.Float w.kind) float_value _ h (λ e s. (float_covered constant).each x l
      known s) (λ e h. choose_one (only k.String w.kind) quoted_value _ h
      (λ e s. (quoted_covered constant).each x l known s) (λ e h. choose_one (only k.BlockString w.kind)
      block_value _ h (λ e s. (block_covered constant).each x l known s)
      (λ e h. choose_one (only k.True w.kind) true_value _ h (λ e s. (true_covered constant).each x l
      known s) (λ t h. choose_one (only k.False w.kind) false_value _ h
      (λ e s. (false_covered constant).each x l known s) (λ f h. choose_one (only k.Null w.kind)
      null_value _ h (λ e s. (null_covered constant).each x l known s)
      (λ n h. choose_one (only k.Dollar w.kind) (variable_value file constant) _ h
      (λ e s. (variable_value_covered constant).each x l known s) (λ e h. choose_one (is_group w.kind)
      grouped _ h (λ e s. pg.each x l known s) (λ e h. choose_one (is_name w.kind) (enum_value file)
      (nothing no_value) h (λ e s. enum_holds constant w ws x known (plain_name w.kind t f n e) s)
      (λ e h. absurd h))))))))))

  -- ---- lists and objects

  module _ (constant : Bool) (item : Piece (NodeView Value))
      (pg : Covered serves item (node_parts (value_parts constant))) where
    list_of_covered : Covered serves (list_of item) (value_parts constant)
    unfolding list_of
    list_of_covered = mapped_covered (between_covered k.LeftBracket k.RightBracket no_value (many_covered pg))
        (λ items all. rw (list_rolled constant) all)

    member_covered : Covered serves (member file item) (member_parts constant)
    unfolding member_body
    member_covered = headed_covered
        (mapped_covered (seq_covered name_covered (seq_covered (no_parts (sign k.Colon)) pg)) (λ x all. all))

    object_covered : Covered serves (object_of file item) (value_parts constant)
    unfolding object_of
    object_covered = mapped_covered (between_covered k.LeftBrace k.RightBrace no_member
        (many_covered member_covered)) (λ members all. rw (object_rolled constant) all)

    group_covered : Covered serves (group file item) (value_parts constant)
    group_covered = branch_covered (group_pick file item) no_value
        (λ kind. choose_covered (only k.LeftBracket kind) list_of_covered
        (choose_covered (only k.LeftBrace kind) object_covered (nothing_covered no_value)))

  value_by_covered : (constant : Bool) (grouped : Piece Value) → Covered serves grouped (value_parts constant)
      → Covered serves (value_by file constant grouped) (value_parts constant)
  value_by_covered constant grouped pg = record { each = value_by_each constant grouped pg }

  nested_group_covered : (constant : Bool) (depth : ℕ)
      → Covered serves (nested_group file constant depth) (value_parts constant)
  unfolding nested_group
  nested_group_covered constant zero = nothing_covered (λ _. TooDeep)
  nested_group_covered constant (suc depth) = group_covered constant (value_node file constant depth)
      (node_covered is_value (value_by_covered constant (headed is_group (nested_group file constant depth))
      (headed_covered (nested_group_covered constant depth))) (value_node_tame file constant depth).law.begun)

  pub value_node_covered : (constant : Bool) (depth : ℕ)
      → Covered serves (value_node file constant depth) (node_parts (value_parts constant))
  value_node_covered constant depth =
      node_covered is_value (value_by_covered constant (headed is_group (nested_group file constant depth))
      (headed_covered (nested_group_covered constant depth))) (value_node_tame file constant depth).law.begun

  pub value_node_covers : (constant : Bool) (depth : ℕ) (x : NodeView Value) (front : List WordView)
      → Known front → (value_node file constant depth).spells x front
      → Holds asked (node_parts (value_parts constant) x)
  value_node_covers constant depth = (value_node_covered constant depth).each

  -- ---- arguments and directives

  argument_covered : (constant : Bool) (depth : ℕ)
      → Covered serves (argument file constant depth) (node_parts (argument_parts constant))
  unfolding argument_node
  argument_covered constant depth =
      item_covered no_argument
      (node_covered is_name
      (mapped_covered (seq_covered name_covered (seq_covered (no_parts (sign k.Colon)) (value_node_covered
      constant depth))) (λ x all. all)) (argument_tame file constant depth).law.begun)

  pub arguments_covered : (constant : Bool) (depth : ℕ)
      → Covered serves (arguments file constant depth) (arguments_parts constant)
  unfolding arguments
  arguments_covered constant depth = listed_covered (node_parts (argument_parts constant)) (list_covered
      k.LeftParen k.RightParen no_argument depth (argument file constant) (argument_covered constant))

  directive_covered : (constant : Bool) (depth : ℕ)
      → Covered serves (directive file constant depth) (node_parts (directive_parts constant))
  unfolding directive_node
  directive_covered constant depth =
      item_covered no_directive
      (node_covered (only k.At)
      (mapped_covered (seq_covered (no_parts (sign k.At)) (seq_covered name_covered (arguments_covered
      constant depth))) (λ x all. all)) (directive_tame file constant depth).law.begun)

  pub directives_covered : (constant : Bool) (depth : ℕ)
      → Covered serves (directives file constant depth) (directives_parts constant)
  unfolding directives
  directives_covered constant depth = mapped_covered (many_covered (directive_covered constant depth))
      (λ xs all. all)

  -- ---- types

  named_covered : Covered serves (named_type file) type_parts
  unfolding named_type
  named_covered = mapped_covered name_covered (λ n all. rw named_rolled all)

  required_holds : (x : TypeReference × Option (Unit {0})) → Holds asked (type_parts x.0)
      → Holds asked (type_parts (required_where x))
  required_holds (t, None) all = all
  required_holds (t, Some _) all = rw required_rolled all

  type_by_covered : (list : Piece TypeReference) → Covered serves list type_parts
      → Covered serves (type_by file list) type_parts
  type_by_covered list pg =
      covered (mapped_yields
      (seq_yields serves (yielded (branch_covered {first = is_type} {more = λ _. false} (type_pick file list)
      no_type (λ kind. choose_covered (only k.LeftBracket kind) pg (choose_covered (is_name kind)
      named_covered (nothing_covered no_type))))) (anything (optional (sign k.Bang))))
      (λ x both. required_holds x both.0))

  nested_list_covered : (depth : ℕ) → Covered serves (nested_list_type file depth) type_parts
  unfolding nested_list_type list_type_of
  nested_list_covered zero = nothing_covered (λ _. TooDeep)
  nested_list_covered (suc depth) =
      mapped_covered (between_covered k.LeftBracket k.RightBracket (λ _. Expected (i.Word k.RightBracket))
      (type_by_covered (headed (only k.LeftBracket) (nested_list_type file depth))
      (headed_covered (nested_list_covered depth)))) (λ t all. rw list_type_rolled all)

  pub type_covered : (depth : ℕ) → Covered serves (type file depth) type_parts
  type_covered depth = type_by_covered (headed (only k.LeftBracket) (nested_list_type file depth))
      (headed_covered (nested_list_covered depth))

  pub type_covers : (depth : ℕ) (x : TypeReference) (front : List WordView) → Known front
      → (type file depth).spells x front → Holds asked (type_parts x)
  type_covers depth = (type_covered depth).each
