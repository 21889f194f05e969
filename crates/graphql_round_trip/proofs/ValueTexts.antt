-- Texts of values: GraphQL specification of October 2021, section 2.9.
use Rattle.std.proofs.Common.{◌≡◌, ◌≤◌, ℕ, suc, Bool, true, false, not, ◌||◌, List, [], ◌∷◌, ◌++◌, map, refl}
use Rattle.std.proofs.Common.{sym, ap, subst, ◌∙◌}
use Rattle.std.specs.Prelude.{codes}
use Rattle.std.specs.List.{AllByRecursion}
use Rattle.std.proofs.lemmas.Bool.{and_parts}
use Rattle.std.proofs.lemmas.Simd.{map-map}
use Rattle.graphql_nodes.specs.Comparing.{bare_name, bare_node}
use Rattle.graphql_nodes.specs.NameSyntax.{IsName}
use Rattle.graphql_nodes.specs.NameView.{NameView}
use Rattle.graphql_nodes.specs.NodeView.{NodeView}
use Rattle.graphql_nodes.specs.declared.source.FileId.{FileId}
use Rattle.graphql_ast.specs.Bare.{bare_value, value_step as bare_step}
use Rattle.graphql_ast.specs.declared.value.Value.{Value, fold-roll-Value, ind-Value, roll-Value}
use Rattle.graphql_ast.specs.declared.value.Value.TheFolds.{map-Value}
use Rattle.graphql_ast.specs.declared.value.Value.TheOpen.{Value-F}
use Rattle.graphql_tokens.specs.Bytes.{begins, is_blank}
use Rattle.graphql_tokens.specs.declared.token.TokenKind.{TokenKind}
use Rattle.graphql_tokens.specs.declared.token.TokenKind.TheVariants as t
use Rattle.graphql_grammar.specs.WordsOfText.{name_kind, word_kind}
use Rattle.graphql_grammar.specs.declared.kind.Kind.{Kind}
use Rattle.graphql_grammar.specs.declared.kind.Kind.TheVariants as k
use Rattle.graphql_grammar.specs.declared.kind.Names.TheVariants as names
use Rattle.graphql_grammar.specs.Kinds.{Kinds, each_kind, is_name, names_of, none, only}
use Rattle.graphql_grammar.specs.Pieces.{Piece, headed, mapped, nothing, sign, word}
use Rattle.graphql_productions.specs.Nodes.{behind}
use Rattle.graphql_productions.specs.TreeParts.{EnumName, Float, Int, Variable, node_parts, value_parts}
use Rattle.graphql_productions.specs.Values.{block_value, enum_value, false_value, float_value, group_pick}
use Rattle.graphql_productions.specs.Values.{int_value, is_group, list_of, member, member_body, member_of}
use Rattle.graphql_productions.specs.Values.{nested_group, no_member, no_value, null_value, object_of}
use Rattle.graphql_productions.specs.Values.{quoted_value, true_value, value, value_node, value_pick}
use Rattle.graphql_productions.specs.Values.{variable, variable_or_none, variable_value}
use Rattle.graphql_productions.specs.WellFormed.{IsWellFormed}
use Rattle.graphql_productions.proofs.RolledParts.{enum_rolled, float_rolled, int_rolled, list_rolled}
use Rattle.graphql_productions.proofs.RolledParts.{member_parts, object_rolled, variable_rolled}
use Rattle.graphql_printing.specs.Strings.{quoted}
use Rattle.graphql_printing.specs.Texts.{item_text, member_text, value_step as text_step, value_text}
use Rattle.graphql_printing.proofs.QuotedLaws.{quoted_says_the_text}
use Rattle.graphql_round_trip.specs.Nesting.{deepest, value_nesting}
use Rattle.graphql_round_trip.proofs.BareTexts.{list_says, object_says}
use Rattle.graphql_round_trip.specs.Printed.{Heads, IsToken, Prints, anything, ends_token}
use Rattle.graphql_round_trip.proofs.HeadTexts.{first_text, is_none_of, second_text, enum_kind}
use Rattle.graphql_round_trip.proofs.ListTexts.{labelled_prints, separated_text, each_fits, opened}
use Rattle.graphql_round_trip.proofs.ListTexts.{each_of_three, part_of_each}
use Rattle.graphql_round_trip.proofs.PieceTexts.{same_heads}
use Rattle.graphql_round_trip.proofs.PieceTexts.{regrouped, between_prints, loosely, name_prints, node_prints}
use Rattle.graphql_round_trip.proofs.PieceTexts.{sign_prints, branch_at, branch_text, headed_text, heads_on}
use Rattle.graphql_round_trip.proofs.PieceTexts.{mapped_text, seq_text, sign_or_text, token_heads, word_text}
use Rattle.graphql_round_trip.proofs.PieceTexts.{keyword_prints}
use Rattle.graphql_round_trip.proofs.Levels.{item_nesting, list_nested, member_nesting, object_nested}
use Rattle.graphql_round_trip.proofs.NumberTexts.{float_is_token, int_is_token, float_unblank, int_unblank}
use Rattle.graphql_round_trip.proofs.TokenTexts.{quoted_is_token, names as is_word, dollar_is_token}
use Rattle.graphql_round_trip.proofs.TokenTexts.{left_brace_is_token, left_bracket_is_token}
use Rattle.graphql_round_trip.proofs.TokenTexts.{right_brace_is_token, right_bracket_is_token, word_is_token}
use Rattle.graphql_round_trip.proofs.TokenTexts.{name_is_token, name_unblank}
use Rattle.graphql_tokens.specs.StringValues.{string_value}
use Rattle.graphql_round_trip.proofs.BareLists.{Shown, each_given}
use Rattle.graphql_printing.specs.Layout.{separated}

-- ---- one level of a value

bare_rolled : (y : Value-F Value) → bare_value (roll-Value y) ≡ bare_step (map-Value Value Value bare_value y)
bare_rolled y = fold-roll-Value Value bare_step y

text_rolled : (y : Value-F Value)
    → value_text (roll-Value y) ≡ text_step (map-Value Value (List ℕ) value_text y)
text_rolled y = fold-roll-Value (List ℕ) text_step y

-- a member of an object without locations
abbrev bare_member : NameView × NodeView Value → NameView × NodeView Value
bare_member m = (bare_name m.0, bare_node bare_value m.1)

bare_list : (items : List (NodeView Value))
    → bare_value (roll-Value (Value-F.List items))
    ≡ roll-Value (Value-F.List (map (bare_node bare_value) items))
bare_list items = bare_rolled _ ∙ ap (λ l. roll-Value (Value-F.List l)) (map-map _ _ items)

bare_object : (members : List (NameView × NodeView Value))
    → bare_value (roll-Value (Value-F.Object members)) ≡ roll-Value (Value-F.Object (map bare_member members))
bare_object members = bare_rolled _ ∙ ap (λ l. roll-Value (Value-F.Object l)) (map-map _ _ members)

-- ---- values of one word

-- a value of the text of a word
text_prints : (kind : Kind) (of : TokenKind) (f : List ℕ → Value) (text : List ℕ) → IsToken of text ends_token
    → only kind (word_kind of text) ≡ true
    → Prints (mapped (λ w. f w.text) (word (only kind) no_value)) bare_value (bare_value (f text)) text
    ends_token
text_prints kind of f text token is = mapped_text _ bare_value _
    (λ w same. ap (λ (s : Kind × List ℕ). bare_value (f s.1)) same) (word_text _ no_value of token is)

int_prints : (text : List ℕ) → IsToken t.Int text ends_token
    → Prints int_value bare_value (bare_value (roll-Value (Value-F.Int text))) text ends_token
unfolding int_value
int_prints text token = text_prints k.Int t.Int _ text token refl

float_prints : (text : List ℕ) → IsToken t.Float text ends_token
    → Prints float_value bare_value (bare_value (roll-Value (Value-F.Float text))) text ends_token
unfolding float_value
float_prints text token = text_prints k.Float t.Float _ text token refl

quoted_prints : (text : List ℕ)
    → Prints quoted_value bare_value (bare_value (roll-Value (Value-F.String text))) (quoted text) ends_token
unfolding quoted_value
quoted_prints text = subst (λ (s : List ℕ). Prints quoted_value bare_value
    (bare_value (roll-Value (Value-F.String s))) (quoted text) ends_token) (quoted_says_the_text text)
    (text_prints k.String t.String (λ s. roll-Value (Value-F.String (string_value s))) (quoted text)
    (quoted_is_token text) refl)

-- a value that a keyword says
said_prints : (kind : Kind) (x : Value) (text : List ℕ) → is_word text ≡ true
    → only kind (name_kind text) ≡ true
    → Prints (mapped (λ _. x) (sign kind)) bare_value (bare_value x) text ends_token
said_prints kind x text is of = mapped_text (λ _. x) bare_value (bare_value x) (λ _ same. refl)
    (keyword_prints kind text is of)

true_prints : Prints true_value bare_value (bare_value (roll-Value (Value-F.Boolean true))) (codes "true")
    ends_token
unfolding true_value
true_prints = said_prints k.True _ _ refl refl

false_prints : Prints false_value bare_value (bare_value (roll-Value (Value-F.Boolean false))) (codes "false")
    ends_token
unfolding false_value
false_prints = said_prints k.False _ _ refl refl

null_prints : Prints null_value bare_value (bare_value (roll-Value Value-F.Null)) (codes "null") ends_token
unfolding null_value
null_prints = said_prints k.Null _ _ refl refl

enum_prints : (file : FileId) (n : NameView) → IsName n.text
    → Prints (enum_value file) bare_value (bare_value (roll-Value (Value-F.Enum n))) n.text ends_token
unfolding enum_value
enum_prints file n is = mapped_text _ bare_value _ (λ m same. bare_rolled (Value-F.Enum m)
    ∙ ap (λ (n : NameView). roll-Value (Value-F.Enum n)) same ∙ sym (bare_rolled (Value-F.Enum n)))
    (name_prints file n is)

-- a variable
pub variable_prints : (file : FileId) (n : NameView) → IsName n.text
    → Prints (variable file) bare_name (bare_name n) (codes "$" ++ n.text) ends_token
unfolding variable
variable_prints file n is = mapped_text behind bare_name _ (λ x same. ap (λ (s : Unit {0} × NameView). s.1)
    same) (seq_text (sign_prints k.Dollar t.Dollar dollar_is_token refl) (name_prints file n is)
    (λ rest end. refl))

variable_value_prints : (file : FileId) (constant : Bool) (n : NameView) → constant ≡ false → IsName n.text
    → Prints (variable_value file constant) bare_value (bare_value (roll-Value (Value-F.Variable n)))
    (codes "$" ++ n.text) ends_token
unfolding variable_or_none
variable_value_prints file constant n free is =
    headed_text _ (second_text constant _ _ free
    (mapped_text _ bare_value (bare_value (roll-Value (Value-F.Variable n)))
    (λ m same. bare_rolled (Value-F.Variable m) ∙ ap (λ (n : NameView). roll-Value (Value-F.Variable n)) same
    ∙ sym (bare_rolled (Value-F.Variable n))) (variable_prints file n is)))

-- ---- lists and objects

-- what stands between signs begins with the first
heads_between : (kind : Kind) (of : TokenKind) (open_text text close_text : List ℕ) {all : List ℕ}
    → open_text ++ text ++ close_text ≡ all → begins (λ c. not (is_blank c)) open_text ≡ true
    → IsToken of open_text anything → only kind (word_kind of open_text) ≡ true
    → Heads (only kind) all anything
heads_between kind of open_text text close_text whole solid token is =
    same_heads whole (heads_on close_text anything
    (heads_on text anything (token_heads _ of open_text anything solid token is) (λ rest end. refl))
    (λ rest end. refl))

module _ (file : FileId) (item : Piece (NodeView Value)) where
  list_prints : (items : List (NodeView Value))
      → AllByRecursion (λ n. Prints item (bare_node bare_value) (bare_node bare_value n) (item_text n)
      ends_token) items
      → Prints (list_of item) bare_value (bare_value (roll-Value (Value-F.List items)))
      (value_text (roll-Value (Value-F.List items))) anything
  unfolding list_of
  list_prints items all = regrouped (codes "[" ++ separated (codes ", ") item_text items ++ codes "]")
      (value_text (roll-Value (Value-F.List items))) (sym (list_says items))
      (mapped_text (λ items. roll-Value (Value-F.List items)) bare_value
      (bare_value (roll-Value (Value-F.List items))) (λ ns same. bare_list ns
      ∙ ap (λ (l : List (NodeView Value)). roll-Value (Value-F.List l)) same
      ∙ sym (bare_list items)) (between_prints k.LeftBracket k.RightBracket no_value
      (sign_prints k.LeftBracket t.LeftBracket left_bracket_is_token refl)
      (separated_text item (bare_node bare_value) item_text ends_token (codes ", ") refl (λ rest. refl) items
      all) (sign_or_text k.RightBracket no_value t.RightBracket right_bracket_is_token refl) (λ rest. refl)))

  member_prints : (m : NameView × NodeView Value) → IsName m.0.text
      → Prints item (bare_node bare_value) (bare_node bare_value m.1) (item_text m.1) ends_token
      → Prints (member file item) bare_member (bare_member m) (member_text m) ends_token
  unfolding member_body
  member_prints m is reads =
      headed_text is_name (mapped_text member_of bare_member (bare_member m)
      (λ x same. ap (λ (s : NameView × (Unit {0} × NodeView Value)). (s.0, s.1.1)) same)
      (labelled_prints file m.0 is reads))

  object_prints : (members : List (NameView × NodeView Value))
      → AllByRecursion (λ m. Prints (member file item) bare_member (bare_member m) (member_text m) ends_token)
      members
      → Prints (object_of file item) bare_value (bare_value (roll-Value (Value-F.Object members)))
      (value_text (roll-Value (Value-F.Object members))) anything
  unfolding object_of
  object_prints members all = regrouped (codes "{" ++ separated (codes ", ") member_text members ++ codes "}")
      (value_text (roll-Value (Value-F.Object members))) (sym (object_says members))
      (mapped_text (λ members. roll-Value (Value-F.Object members)) bare_value
      (bare_value (roll-Value (Value-F.Object members))) (λ ms same. bare_object ms
      ∙ ap (λ (l : List (NameView × NodeView Value)). roll-Value (Value-F.Object l)) same
      ∙ sym (bare_object members)) (between_prints k.LeftBrace k.RightBrace no_member
      (sign_prints k.LeftBrace t.LeftBrace left_brace_is_token refl) (separated_text (member file item)
      bare_member member_text ends_token (codes ", ") refl (λ rest. refl) members all)
      (sign_or_text k.RightBrace no_member t.RightBrace right_brace_is_token refl) (λ rest. refl)))

-- ---- one of several

module _ (file : FileId) (constant : Bool) (depth : ℕ) where
  -- lists and objects, where so many signs may be open
  abbrev grouped : Piece Value
  grouped = headed is_group (nested_group file constant depth)

  -- a value that begins with a word of this kind
  by_kind : (kind : Kind) {x : Value} {text : List ℕ} → Heads (only kind) text ends_token
      → Prints (value_pick file constant grouped kind) bare_value x text ends_token
      → Prints (value file constant depth) bare_value x text ends_token
  by_kind kind head reads = branch_at (value_pick file constant grouped) no_value kind head reads

  enum_value_prints : (n : NameView) → IsWellFormed (EnumName n ∷ [])
      → Prints (value file constant depth) bare_value (bare_value (roll-Value (Value-F.Enum n))) n.text
      ends_token
  enum_value_prints n fine =
      let is = fine.0 in
      branch_text (value_pick file constant grouped) no_value (names_of names.EnumValue)
      (token_heads (names_of names.EnumValue) t.Name n.text ends_token (name_unblank n.text is.0)
      (name_is_token n.text is.0) (enum_kind n.text is.1 is.2 is.3)) (λ kind named. picked kind named)
    where
      picked : (kind : Kind) → names_of names.EnumValue kind ≡ true
          → Prints (value_pick file constant grouped kind) bare_value
          (bare_value (roll-Value (Value-F.Enum n))) n.text ends_token
      picked kind named = second_text (only k.Int kind) int_value _ (no (only k.Int) refl)
          (second_text (only k.Float kind) float_value _ (no (only k.Float) refl)
          (second_text (only k.String kind) quoted_value _ (no (only k.String) refl)
          (second_text (only k.BlockString kind) block_value _ (no (only k.BlockString) refl)
          (second_text (only k.True kind) true_value _ (no (only k.True) refl)
          (second_text (only k.False kind) false_value _ (no (only k.False) refl)
          (second_text (only k.Null kind) null_value _ (no (only k.Null) refl)
          (second_text (only k.Dollar kind) (variable_value file constant) _ (no (only k.Dollar) refl)
          (second_text (is_group kind) grouped _ (no is_group refl)
          (first_text (is_name kind) (enum_value file) (nothing no_value) (and_parts (is_name kind) _ named).0
          (enum_prints file n fine.0.0))))))))))
        where
          no : (other : Kinds)
              → each_kind (λ kind. not (names_of names.EnumValue kind) || not (other kind)) ≡ true
              → other kind ≡ false
          no other apart = is_none_of (names_of names.EnumValue) other apart kind named

-- a list or an object, where one sign more may be open
module _ (file : FileId) (constant : Bool) (depth : ℕ) where
  -- by its first sign
  group_prints : (kind : Kind) (x : Value) {text : List ℕ} → Heads (only kind) text anything
      → value_pick file constant (grouped file constant (suc depth)) kind ≡ grouped file constant (suc depth)
      → Prints (group_pick file (value_node file constant depth) kind) bare_value (bare_value x) text anything
      → Prints (value file constant (suc depth)) bare_value (bare_value x) text ends_token
  unfolding nested_group
  group_prints kind x head picked reads =
      loosely ends_token (branch_at (value_pick file constant (grouped file constant (suc depth))) no_value
      kind head (rw picked (headed_text is_group (branch_at {first = is_group} {more = none}
      (group_pick file (value_node file constant depth)) no_value kind head reads))))

  list_value_prints : (items : List (NodeView Value))
      → AllByRecursion (λ n. Prints (value_node file constant depth) (bare_node bare_value)
      (bare_node bare_value n) (item_text n) ends_token) items
      → Prints (value file constant (suc depth)) bare_value (bare_value (roll-Value (Value-F.List items)))
      (value_text (roll-Value (Value-F.List items))) ends_token
  list_value_prints items all = group_prints k.LeftBracket _ (heads_between k.LeftBracket t.LeftBracket
      (codes "[") (separated (codes ", ") item_text items) (codes "]") (sym (list_says items)) refl
      left_bracket_is_token refl) refl (list_prints file (value_node file constant depth) items all)

  object_value_prints : (members : List (NameView × NodeView Value))
      → AllByRecursion (λ m. Prints (member file (value_node file constant depth)) bare_member (bare_member m)
      (member_text m) ends_token) members
      → Prints (value file constant (suc depth)) bare_value (bare_value (roll-Value (Value-F.Object members)))
      (value_text (roll-Value (Value-F.Object members))) ends_token
  object_value_prints members all = group_prints k.LeftBrace _ (heads_between k.LeftBrace t.LeftBrace
      (codes "{") (separated (codes ", ") member_text members) (codes "}") (sym (object_says members)) refl
      left_brace_is_token refl) refl (object_prints file (value_node file constant depth) members all)

-- ---- all levels

module _ (file : FileId) (constant : Bool) where
  -- what is to be shown of a value
  abbrev Shows : Value → Type 0
  Shows x = (depth : ℕ) → IsWellFormed (value_parts constant x) → value_nesting x ≤ depth
      → Prints (value file constant depth) bare_value (bare_value x) (value_text x) ends_token

  -- the same, with the text said of one level
  said : (depth : ℕ) (y : Value-F Value) {text : List ℕ}
      → text ≡ text_step (map-Value Value (List ℕ) value_text y)
      → Prints (value file constant depth) bare_value (bare_value (roll-Value y)) text ends_token
      → Prints (value file constant depth) bare_value (bare_value (roll-Value y)) (value_text (roll-Value y))
      ends_token
  said depth y {text} is reads = regrouped text _ (is ∙ sym (text_rolled y)) reads

  node_shows : (depth : ℕ) (n : NodeView Value) → Shows n.value
      → IsWellFormed (node_parts (value_parts constant) n) → value_nesting n.value ≤ depth
      → Prints (value_node file constant depth) (bare_node bare_value) (bare_node bare_value n) (item_text n)
      ends_token
  node_shows depth n shows fine fits = node_prints file (shows depth fine.1 fits)

  -- the same where a keyword says the value
  keyword_said : (depth : ℕ) (y : Value-F Value) (kind : Kind) {text : List ℕ}
      → begins (λ c. not (is_blank c)) text ≡ true → is_word text ≡ true → only kind (name_kind text) ≡ true
      → text ≡ text_step (map-Value Value (List ℕ) value_text y)
      → Prints (value_pick file constant (grouped file constant depth) kind) bare_value
      (bare_value (roll-Value y)) text ends_token
      → Prints (value file constant depth) bare_value (bare_value (roll-Value y)) (value_text (roll-Value y))
      ends_token
  keyword_said depth y kind {text} solid is of same reads =
      said depth y same (by_kind file constant depth kind (token_heads (only kind) t.Name text ends_token
      solid (word_is_token text is) of) reads)

  null_shows : Shows (roll-Value Value-F.Null)
  null_shows depth fine fits = keyword_said depth Value-F.Null k.Null refl refl refl refl null_prints

  boolean_shows : (b : Bool) → Shows (roll-Value (Value-F.Boolean b))
  boolean_shows true depth fine fits = keyword_said depth _ k.True refl refl refl refl true_prints
  boolean_shows false depth fine fits = keyword_said depth _ k.False refl refl refl refl false_prints

  string_shows : (text : List ℕ) → Shows (roll-Value (Value-F.String text))
  string_shows text depth fine fits =
      said depth (Value-F.String text) refl (by_kind file constant depth k.String (token_heads (only k.String)
      t.String (quoted text) ends_token refl (quoted_is_token text) refl) (quoted_prints text))

  enum_shows : (n : NameView) → Shows (roll-Value (Value-F.Enum n))
  enum_shows n depth fine fits = said depth (Value-F.Enum n) refl (enum_value_prints file constant depth n
      (rw (enum_rolled constant n) at fine))

  variable_shows : (n : NameView) → Shows (roll-Value (Value-F.Variable n))
  variable_shows n depth fine fits =
      let is : IsWellFormed (Variable constant n ∷ []) = rw (variable_rolled constant n) at fine in
      said depth (Value-F.Variable n) refl (by_kind file constant depth k.Dollar
      (heads_on n.text ends_token (token_heads _ t.Dollar (codes "$") anything refl dollar_is_token refl)
      (λ rest end. refl)) (variable_value_prints file constant n is.0.1 is.0.0))

  int_shows : (text : List ℕ) → Shows (roll-Value (Value-F.Int text))
  int_shows text depth fine fits =
      let is : IsWellFormed (Int text ∷ []) = rw (int_rolled constant text) at fine in
      let token = int_is_token text is.0 in
      said depth (Value-F.Int text) refl (by_kind file constant depth k.Int (token_heads (only k.Int) t.Int
      text ends_token (int_unblank text is.0) token refl) (int_prints text token))

  float_shows : (text : List ℕ) → Shows (roll-Value (Value-F.Float text))
  float_shows text depth fine fits =
      let is : IsWellFormed (Float text ∷ []) = rw (float_rolled constant text) at fine in
      let token = float_is_token text is.0 in
      said depth (Value-F.Float text) refl (by_kind file constant depth k.Float (token_heads (only k.Float)
      t.Float text ends_token (float_unblank text is.0) token refl) (float_prints text token))

  list_shows : (items : List (NodeView Value)) → AllByRecursion (λ n. Shows n.value) items
      → Shows (roll-Value (Value-F.List items))
  list_shows items shown depth fine fits =
      let room = opened (deepest item_nesting items) depth (rw (list_nested items) at fits) in
      rw room.1 (list_value_prints file constant room.0 items (all room.0 room.2))
    where
      all : (inside : ℕ) → deepest item_nesting items ≤ inside
          → AllByRecursion (λ n. Prints (value_node file constant inside) (bare_node bare_value)
          (bare_node bare_value n) (item_text n) ends_token) items
      all inside fits = each_of_three (λ n. Shows n.value)
          (λ n. IsWellFormed (node_parts (value_parts constant) n)) (λ n. item_nesting n
          ≤ inside) (λ n. Prints (value_node file constant inside) (bare_node bare_value)
          (bare_node bare_value n) (item_text n) ends_token) (node_shows inside) items shown
          (part_of_each (node_parts (value_parts constant)) items (rw (list_rolled constant items) at fine))
          (each_fits item_nesting items inside fits)

  object_shows : (members : List (NameView × NodeView Value)) → AllByRecursion (λ m. Shows m.1.value) members
      → Shows (roll-Value (Value-F.Object members))
  object_shows members shown depth fine fits =
      let room = opened (deepest member_nesting members) depth (rw (object_nested members) at fits) in
      rw room.1 (object_value_prints file constant room.0 members (all room.0 room.2))
    where
      all : (inside : ℕ) → deepest member_nesting members ≤ inside
          → AllByRecursion (λ m. Prints (member file (value_node file constant inside)) bare_member
          (bare_member m) (member_text m) ends_token) members
      all inside fits = each_of_three (λ m. Shows m.1.value) (λ m. IsWellFormed (member_parts constant m))
          (λ m. member_nesting m ≤ inside) (λ m. Prints (member file (value_node file constant inside))
          bare_member (bare_member m) (member_text m) ends_token) (λ m shows fine fits. member_prints file
          (value_node file constant inside) m fine.0 (node_shows inside m.1 shows fine.1 fits)) members shown
          (part_of_each (member_parts constant) members (rw (object_rolled constant members) at fine))
          (each_fits member_nesting members inside fits)

  -- an item and a member without what is to be shown of their values
  abbrev item_of : NodeView (Shown Shows) → NodeView Value
  item_of n = record { value = n.value.0; location = n.location }

  abbrev member_of_shown : NameView × NodeView (Shown Shows) → NameView × NodeView Value
  member_of_shown m = (m.0, item_of m.1)

  layer_shows : (y : Value-F (Shown Shows)) → Shows (roll-Value (map-Value (Shown Shows) Value (λ s. s.0) y))
  layer_shows Value-F.Null = null_shows
  layer_shows (Value-F.Enum n) = enum_shows n
  layer_shows (Value-F.Variable n) = variable_shows n
  layer_shows (Value-F.String text) = string_shows text
  layer_shows (Value-F.Float text) = float_shows text
  layer_shows (Value-F.Int text) = int_shows text
  layer_shows (Value-F.Boolean b) = boolean_shows b
  layer_shows (Value-F.List items) = list_shows (map item_of items)
      (each_given (λ (n : NodeView Value). Shows n.value) item_of (λ n. n.value.1) items)
  layer_shows (Value-F.Object members) = object_shows (map member_of_shown members) (each_given
      (λ (m : NameView × NodeView Value). Shows m.1.value) member_of_shown (λ m. m.1.value.1) members)

  -- a value is read as itself
  pub value_prints : (depth : ℕ) (x : Value) → IsWellFormed (value_parts constant x) → value_nesting x ≤ depth
      → Prints (value file constant depth) bare_value (bare_value x) (value_text x) ends_token
  value_prints depth x = ind-Value Shows (λ x y is. subst (λ (y : Value-F Value). Shows (roll-Value y)) is
      (layer_shows y)) x depth

  -- a value where it stands is read as itself
  pub value_node_prints : (depth : ℕ) (x : NodeView Value)
      → IsWellFormed (node_parts (value_parts constant) x) → value_nesting x.value ≤ depth
      → Prints (value_node file constant depth) (bare_node bare_value) (bare_node bare_value x)
      (value_text x.value) ends_token
  value_node_prints depth x fine fits = node_shows depth x (λ depth. value_prints depth x.value) fine fits
