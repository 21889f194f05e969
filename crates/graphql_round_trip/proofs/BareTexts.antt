-- The text of a value, a type, arguments and directives says no location.
use Rattle.std.proofs.Common.{◌≡◌, ℕ, List, ◌++◌, refl, sym, subst, ap, ◌∙◌, map, codes, Option, None, Some}
use Rattle.std.proofs.Common.{option_map, cond, nat_lt}
use Rattle.std.specs.List.{AllByRecursion}
use Rattle.graphql_nodes.specs.Comparing.{bare_name, bare_node}
use Rattle.graphql_nodes.specs.NameView.{NameView}
use Rattle.graphql_nodes.specs.NodeView.{NodeView}
use Rattle.graphql_ast.specs.Bare.{bare_argument, bare_directive, bare_directive_list, bare_type, bare_value}
use Rattle.graphql_ast.specs.declared.directive.Argument.{Argument}
use Rattle.graphql_ast.specs.declared.directive.Directive.{Directive}
use Rattle.graphql_ast.specs.declared.directive.DirectiveList.{DirectiveList}
use Rattle.graphql_ast.specs.declared.type_reference.Type.{«Type» as TypeReference, fold-roll-Type, ind-Type}
use Rattle.graphql_ast.specs.declared.type_reference.Type.{roll-Type}
use Rattle.graphql_ast.specs.declared.type_reference.Type.TheFolds.{map-Type}
use Rattle.graphql_ast.specs.declared.type_reference.Type.TheOpen.{Type-F}
use Rattle.graphql_ast.specs.declared.value.Value.{Value, fold-roll-Value, ind-Value, roll-Value}
use Rattle.graphql_ast.specs.declared.value.Value.TheFolds.{map-Value}
use Rattle.graphql_ast.specs.declared.value.Value.TheOpen.{Value-F}
use Rattle.graphql_printing.specs.Layout.{separated, braces}
use Rattle.graphql_printing.specs.Texts.{argument_text, arguments_text, directive_text, directives_text}
use Rattle.graphql_printing.specs.Texts.{item_text, label_text, member_step, member_text, type_step}
use Rattle.graphql_printing.specs.Texts.{type_text, value_step, value_text}
use Rattle.graphql_round_trip.proofs.BareLists.{Shown, each, each_behind_stays, each_given, enclosed_stays}
use Rattle.graphql_round_trip.proofs.BareLists.{separated_stays, on_lines_stay}
use Rattle.graphql_round_trip.proofs.Levels.{of_selection}
use Rattle.graphql_ast.specs.BareSelections.{bare_field, bare_fragment_spread, bare_inline_fragment}
use Rattle.graphql_ast.specs.BareSelections.{bare_selection}
use Rattle.graphql_ast.specs.declared.selection.Field.{Field, roll-Field}
use Rattle.graphql_ast.specs.declared.selection.FragmentSpread.{FragmentSpread}
use Rattle.graphql_ast.specs.declared.selection.InlineFragment.{InlineFragment, roll-InlineFragment}
use Rattle.graphql_ast.specs.declared.selection.Selection.{Selection, fold-roll-Selection, roll-Selection}
use Rattle.graphql_ast.specs.declared.selection.Selection.TheFolds.{fold-roll-Field, fold-roll-InlineFragment}
use Rattle.graphql_ast.specs.declared.selection.Selection.TheFolds.{map-Selection}
use Rattle.graphql_ast.specs.declared.selection.Selection.TheOpen.{Field-F, InlineFragment-F, Selection-F}
use Rattle.graphql_printing.specs.Fields.{argument_lines, field_head, field_name_text}
use Rattle.graphql_printing.specs.Selections.{Text, condition_text, field_step, field_text, inline_step}
use Rattle.graphql_printing.specs.Selections.{inline_text, selection_step, selection_text, selections_behind}
use Rattle.graphql_printing.specs.Selections.{selections_text, spread_text}
use Rattle.graphql_printing.specs.Widths.{width}
use Rattle.graphql_ast.specs.Bare as bare
use Rattle.graphql_ast.specs.BareSelections as b

-- where a text says no location, what differs in locations alone has one text
pub one_of_bare : {A B : Type 0} (bare : A → A) (text : A → B) → ((x : A) → text (bare x) ≡ text x)
    → (x y : A) → bare x ≡ bare y → text x ≡ text y
one_of_bare bare text says x y same = sym (says x) ∙ ap text same ∙ says y

-- so it has the text of its bare tree, where each level's text is that of the bare level
stays_by_level : {A L B : Type 0} (bare : A → A) (text : A → B) (roll : L → A) (level : L → B)
    → ((z : L) → text (roll z) ≡ level z) → (z bared : L) → bare (roll z) ≡ roll bared
    → level bared ≡ level z → text (bare (roll z)) ≡ text (roll z)
stays_by_level bare text roll level says z bared is same =
    ap text is ∙ says bared ∙ same ∙ sym (says z)

-- a node of what f gives of its value
abbrev along : {A B : Type 0} → (A → B) → NodeView A → NodeView B
along f n = record { value = f n.value; location = n.location }

-- ---- types

abbrev TypeStays : TypeReference → Type 0
TypeStays x = type_text (bare_type x) ≡ type_text x

-- a type whose bare type and text are such, from one level to the next
type_stays : (z bared : Type-F TypeReference) → bare_type (roll-Type z) ≡ roll-Type bared
    → type_step (map-Type TypeReference (List ℕ) type_text bared)
    ≡ type_step (map-Type TypeReference (List ℕ) type_text z) → TypeStays (roll-Type z)
type_stays = stays_by_level bare_type type_text roll-Type (λ z. type_step (map-Type TypeReference (List ℕ)
    type_text z)) (fold-roll-Type (List ℕ) type_step)

type_level : (y : Type-F (Shown TypeStays))
    → TypeStays (roll-Type (map-Type (Shown TypeStays) TypeReference (λ e. e.0) y))
type_level (Type-F.Named n) = type_stays _ (Type-F.Named _) (fold-roll-Type _ bare.type_step _) refl
type_level (Type-F.NonNullNamed n) = type_stays _ (Type-F.NonNullNamed _) (fold-roll-Type _ bare.type_step _)
    refl
type_level (Type-F.List x) = let inner = x.1 in type_stays (Type-F.List x.0) (Type-F.List (bare_type x.0))
    (fold-roll-Type _ bare.type_step _) (λ i. codes "[" ++ inner i ++ codes "]")
type_level (Type-F.NonNullList x) = let inner = x.1 in type_stays (Type-F.NonNullList x.0)
    (Type-F.NonNullList (bare_type x.0)) (fold-roll-Type _ bare.type_step _)
    (λ i. codes "[" ++ inner i ++ codes "]!")

-- a type
pub type_says_no_location : (x : TypeReference) → type_text (bare_type x) ≡ type_text x
type_says_no_location = ind-Type TypeStays (λ x y is. subst (λ z. TypeStays (roll-Type z)) is (type_level y))

-- types that differ in locations alone have one text
pub one_type_text : (x y : TypeReference) → bare_type x ≡ bare_type y → type_text x ≡ type_text y
one_type_text = one_of_bare bare_type type_text type_says_no_location

-- ---- values

abbrev ValueStays : Value → Type 0
ValueStays x = value_text (bare_value x) ≡ value_text x

-- a value in which none stands, and whose text is that of its bare level
word_stays : (z bared : Value-F Value)
    → bare.value_step (map-Value Value Value bare_value z) ≡ roll-Value bared
    → value_step (map-Value Value (List ℕ) value_text bared)
    ≡ value_step (map-Value Value (List ℕ) value_text z) → ValueStays (roll-Value z)
word_stays z bared is = stays_by_level bare_value value_text roll-Value (λ z. value_step (map-Value Value
    (List ℕ) value_text z)) (fold-roll-Value (List ℕ) value_step) z bared (fold-roll-Value Value
    bare.value_step z ∙ is)

-- the text of a list, from one level to the next
pub list_says : (items : List (NodeView Value))
    → value_text (roll-Value (Value-F.List items)) ≡ codes "[" ++ separated (codes ", ") item_text items
    ++ codes "]"
list_says items = fold-roll-Value (List ℕ) value_step _ ∙ ap (λ (t : List ℕ). codes "[" ++ t ++ codes "]")
    (separated_stays _ item_text _ (codes ", ") items (each (λ x. refl) items))

list_stays : (items : List (NodeView Value)) → AllByRecursion (λ item. ValueStays item.value) items
    → ValueStays (roll-Value (Value-F.List items))
list_stays items all =
    let bared : List (NodeView Value) = map (along bare_value) items in
    ap value_text (fold-roll-Value Value bare.value_step (Value-F.List items))
    ∙ list_says (map (bare_node (λ (v : Value). v)) bared)
    ∙ ap (λ (t : List ℕ). codes "[" ++ t ++ codes "]") (separated_stays (bare_node (λ (v : Value). v))
    item_text item_text (codes ", ") bared (each (λ x. refl) bared) ∙ separated_stays (along bare_value)
    item_text item_text (codes ", ") items all) ∙ sym (list_says items)

abbrev Member : Type 0 → Type 0
Member A = NameView × NodeView A

-- a member of an object, of what f gives of its value
abbrev along_member : {A B : Type 0} → (A → B) → Member A → Member B
along_member f m = (m.0, along f m.1)

-- a member of an object without the locations of its own
abbrev bare_ends : Member Value → Member Value
bare_ends m = (bare_name m.0, bare_node (λ (v : Value). v) m.1)

-- the text of an object, from one level to the next
pub object_says : (members : List (Member Value))
    → value_text (roll-Value (Value-F.Object members)) ≡ codes "{" ++ separated (codes ", ") member_text
    members ++ codes "}"
object_says members = fold-roll-Value (List ℕ) value_step _ ∙ ap (λ (t : List ℕ). codes "{" ++ t ++ codes "}")
    (separated_stays _ member_text member_step (codes ", ") members (each (λ x. refl) members))

member_stays : (m : Member (Shown ValueStays))
    → member_text (along_member bare_value (along_member (λ (e : Shown ValueStays). e.0) m))
    ≡ member_text (along_member (λ (e : Shown ValueStays). e.0) m)
member_stays m = let value = m.1.value.1 in λ i. label_text m.0 ++ value i

object_stays : (members : List (Member Value))
    → AllByRecursion (λ m. member_text (along_member bare_value m) ≡ member_text m) members
    → ValueStays (roll-Value (Value-F.Object members))
object_stays members all =
    let bared : List (Member Value) = map (along_member bare_value) members in
    ap value_text (fold-roll-Value Value bare.value_step (Value-F.Object members))
    ∙ object_says (map bare_ends bared) ∙ ap (λ (t : List ℕ). codes "{" ++ t ++ codes "}")
    (separated_stays bare_ends member_text member_text (codes ", ") bared (each (λ x. refl) bared)
    ∙ separated_stays (along_member bare_value) member_text member_text (codes ", ") members all)
    ∙ sym (object_says members)

value_level : (y : Value-F (Shown ValueStays))
    → ValueStays (roll-Value (map-Value (Shown ValueStays) Value (λ e. e.0) y))
value_level Value-F.Null = word_stays Value-F.Null Value-F.Null refl refl
value_level (Value-F.Enum n) = word_stays _ _ refl refl
value_level (Value-F.Variable n) = word_stays _ _ refl refl
value_level (Value-F.String t) = word_stays _ _ refl refl
value_level (Value-F.Float t) = word_stays _ (Value-F.Float t) refl refl
value_level (Value-F.Int t) = word_stays (Value-F.Int t) (Value-F.Int t) refl refl
value_level (Value-F.Boolean b) = word_stays (Value-F.Boolean b) (Value-F.Boolean b) refl refl
value_level (Value-F.List ys) =
    let shown : NodeView (Shown ValueStays) → NodeView Value = along (λ (e : Shown ValueStays). e.0) in
    list_stays (map shown ys) (each_given (λ (item : NodeView Value). ValueStays item.value) shown
    (λ y. y.value.1) ys)
value_level (Value-F.Object ys) =
    let shown : Member (Shown ValueStays) → Member Value = along_member (λ (e : Shown ValueStays). e.0) in
    object_stays (map shown ys) (each_given (λ (m : Member Value). member_text (along_member bare_value m)
    ≡ member_text m) shown member_stays ys)

-- a value
pub value_says_no_location : (x : Value) → value_text (bare_value x) ≡ value_text x
value_says_no_location = ind-Value ValueStays (λ x y is. subst (λ z. ValueStays (roll-Value z)) is
    (value_level y))

-- values that differ in locations alone have one text
pub one_value_text : (x y : Value) → bare_value x ≡ bare_value y → value_text x ≡ value_text y
one_value_text = one_of_bare bare_value value_text value_says_no_location

-- ---- arguments and directives

-- an argument
pub argument_says_no_location : (a : NodeView Argument)
    → argument_text (bare_node bare_argument a) ≡ argument_text a
argument_says_no_location a = let value = value_says_no_location a.value.value.value in λ i. label_text
    a.value.name ++ value i

-- arguments in one line
pub arguments_say_no_location : (xs : List (NodeView Argument))
    → arguments_text (map (bare_node bare_argument) xs) ≡ arguments_text xs
arguments_say_no_location xs = enclosed_stays (bare_node bare_argument) argument_text argument_text
    (codes "(") (codes ", ") (codes ")") xs (each argument_says_no_location xs)

directive_says_no_location : (d : NodeView Directive)
    → directive_text (bare_node bare_directive d) ≡ directive_text d
directive_says_no_location d = let arguments = arguments_say_no_location d.value.arguments in λ i. codes "@"
    ++ d.value.name.text ++ arguments i

-- directives
pub directives_say_no_location : (l : DirectiveList)
    → directives_text (bare_directive_list l).0 ≡ directives_text l.0
directives_say_no_location l = each_behind_stays (bare_node bare_directive) directive_text directive_text
    (codes " ") l.0 (each directive_says_no_location l.0)

-- ---- the text of selections says no location

-- ---- heads of fields

field_name_stays : (alias : Option NameView) (name : NameView)
    → field_name_text (option_map bare_name alias) (bare_name name) ≡ field_name_text alias name
field_name_stays None name = refl
field_name_stays (Some alias) name = refl

argument_lines_stay : (indent : ℕ) (xs : List (NodeView Argument))
    → argument_lines indent (map (bare_node bare_argument) xs) ≡ argument_lines indent xs
argument_lines_stay indent xs = on_lines_stay (bare_node bare_argument) (λ inner. argument_text) (λ inner.
    argument_text) (codes "(") (codes ")") indent xs (each (λ a inner. argument_says_no_location a) xs)

-- a field's alias, name and arguments
pub field_head_says_no_location : (indent : ℕ) (alias : Option NameView) (name : NameView)
    (xs : List (NodeView Argument))
    → field_head indent (option_map bare_name alias) (bare_name name) (map (bare_node bare_argument) xs)
    ≡ field_head indent alias name xs
field_head_says_no_location indent alias name xs =
    let front = field_name_stays alias name in
    let short = arguments_say_no_location xs in
    let long = argument_lines_stay indent xs in
    λ i. cond (nat_lt 80 (width (front i ++ short i))) (front i ++ long i) (front i ++ short i)

-- ---- selections

abbrev SelectionStays : Selection → Type 0
SelectionStays x = (indent : ℕ) → selection_text (bare_selection x) indent ≡ selection_text x indent

abbrev FieldStays : Field → Type 0
FieldStays x = (indent : ℕ) → field_text (bare_field x) indent ≡ field_text x indent

abbrev InlineStays : InlineFragment → Type 0
InlineStays x = (indent : ℕ) → inline_text (bare_inline_fragment x) indent ≡ inline_text x indent

-- the text of selections, from one level to the next
braces_say : (indent : ℕ) (xs : List Selection)
    → braces (codes " {") indent (λ (inner : ℕ) (text : Text). text inner) (map selection_text xs)
    ≡ selections_behind (codes " {") indent xs
braces_say indent xs = on_lines_stay selection_text (λ (inner : ℕ) (x : Selection). selection_text x inner)
    (λ (inner : ℕ) (text : Text). text inner) (codes " {") (codes "}") indent xs (each (λ x inner. refl) xs)

selections_stay : (opening : List ℕ) (indent : ℕ) (xs : List Selection) → AllByRecursion SelectionStays xs
    → selections_behind opening indent (map bare_selection xs) ≡ selections_behind opening indent xs
selections_stay opening indent xs all = on_lines_stay bare_selection _ (λ (inner : ℕ) (x : Selection).
    selection_text x inner) opening _ indent xs all

spread_stays : (x : FragmentSpread) → spread_text (bare_fragment_spread x) ≡ spread_text x
spread_stays x = let directives = directives_say_no_location x.directives in λ i. codes "..."
    ++ x.fragment_name.text ++ directives i

condition_stays : (condition : Option NameView)
    → condition_text (option_map bare_name condition) ≡ condition_text condition
condition_stays None = refl
condition_stays (Some name) = refl

-- the text of a field, from one level to the next
pub field_says : (f : Field-F Selection Field InlineFragment) (indent : ℕ)
    → field_text (roll-Field f) indent ≡ field_head indent f.alias f.name f.arguments
    ++ directives_text f.directives.0 ++ selections_behind (codes " {") indent f.selection_set
field_says f indent = ap (λ (t : Text). t indent) (fold-roll-Field Text Text Text selection_step field_step
    inline_step f) ∙ ap (λ (t : List ℕ). field_head indent f.alias f.name f.arguments
    ++ directives_text f.directives.0 ++ t) (braces_say indent f.selection_set)

field_stays : (f : Field-F Selection Field InlineFragment) → AllByRecursion SelectionStays f.selection_set
    → FieldStays (roll-Field f)
field_stays f all indent =
    let head = field_head_says_no_location indent f.alias f.name f.arguments in
    let directives = directives_say_no_location f.directives in
    let inside = selections_stay (codes " {") indent f.selection_set all in
    let bared : Field-F Selection Field InlineFragment = record {
      alias = option_map bare_name f.alias;
      name = bare_name f.name;
      arguments = map (bare_node bare_argument) f.arguments;
      directives = bare_directive_list f.directives;
      selection_set = map bare_selection f.selection_set;
    } in
    stays_by_level bare_field (λ (x : Field). field_text x indent) roll-Field _ (λ z. field_says z indent) f
    bared (fold-roll-Field Selection Field InlineFragment b.selection_step b.field_step b.inline_step f)
    (λ i. head i ++ directives i ++ inside i)

-- the text of an inline fragment, from one level to the next
pub inline_says : (f : InlineFragment-F Selection Field InlineFragment) (indent : ℕ)
    → inline_text (roll-InlineFragment f) indent ≡ codes "..." ++ condition_text f.type_condition
    ++ directives_text f.directives.0 ++ selections_behind (codes " {") indent f.selection_set
inline_says f indent = ap (λ (t : Text). t indent) (fold-roll-InlineFragment Text Text Text selection_step
    field_step inline_step f) ∙ ap (λ (t : List ℕ). codes "..." ++ condition_text f.type_condition
    ++ directives_text f.directives.0 ++ t) (braces_say indent f.selection_set)

inline_stays : (f : InlineFragment-F Selection Field InlineFragment)
    → AllByRecursion SelectionStays f.selection_set → InlineStays (roll-InlineFragment f)
inline_stays f all indent =
    let condition = condition_stays f.type_condition in
    let directives = directives_say_no_location f.directives in
    let inside = selections_stay (codes " {") indent f.selection_set all in
    let bared : InlineFragment-F Selection Field InlineFragment = record {
      type_condition = option_map bare_name f.type_condition;
      directives = bare_directive_list f.directives;
      selection_set = map bare_selection f.selection_set;
    } in
    stays_by_level bare_inline_fragment (λ (x : InlineFragment). inline_text x indent) roll-InlineFragment _
    (λ z. inline_says z indent) f bared (fold-roll-InlineFragment Selection Field InlineFragment
    b.selection_step b.field_step b.inline_step f) (λ i. codes "..." ++ condition i ++ directives i
    ++ inside i)

-- one level of the text of a selection
abbrev pub selection_layer : Selection-F Selection Field InlineFragment → Text
selection_layer z = selection_step (map-Selection Selection Field InlineFragment Text Text Text selection_text
    field_text inline_text z)

-- the text of a selection is that of its layer
pub selection_says : (z : Selection-F Selection Field InlineFragment) (indent : ℕ)
    → selection_text (roll-Selection z) indent ≡ selection_layer z indent
selection_says z indent = ap (λ (t : Text). t indent) (fold-roll-Selection Text Text Text selection_step
    field_step inline_step z)

-- a selection whose bare selection and text are such, from one level to the next
selection_stays : (z bared : Selection-F Selection Field InlineFragment) (indent : ℕ)
    → b.selection_step (map-Selection Selection Field InlineFragment Selection Field InlineFragment
    bare_selection bare_field bare_inline_fragment z) ≡ roll-Selection bared
    → selection_layer bared indent ≡ selection_layer z indent
    → selection_text (bare_selection (roll-Selection z)) indent ≡ selection_text (roll-Selection z) indent
selection_stays z bared indent is = stays_by_level bare_selection (λ x. selection_text x indent)
    roll-Selection (λ z. selection_layer z indent) (λ z. selection_says z indent) z bared (fold-roll-Selection
    Selection Field InlineFragment b.selection_step b.field_step b.inline_step z ∙ is)

-- a selection, however far in it stands
pub selection_says_no_location : (x : Selection) (indent : ℕ)
    → selection_text (bare_selection x) indent ≡ selection_text x indent
selection_says_no_location = of_selection SelectionStays FieldStays InlineStays
    (λ n stays indent. selection_stays (Selection-F.Field n) (Selection-F.Field (bare_node bare_field n))
    indent refl (stays indent)) (λ n indent. selection_stays (Selection-F.FragmentSpread n)
    (Selection-F.FragmentSpread (bare_node bare_fragment_spread n)) indent refl (spread_stays n.value))
    (λ n stays indent. selection_stays (Selection-F.InlineFragment n) (Selection-F.InlineFragment
    (bare_node bare_inline_fragment n)) indent refl (stays indent)) field_stays inline_stays

-- selections behind an opening
pub selections_say_no_location : (opening : List ℕ) (indent : ℕ) (xs : List Selection)
    → selections_behind opening indent (map bare_selection xs) ≡ selections_behind opening indent xs
selections_say_no_location opening indent xs =
    selections_stay opening indent xs (each selection_says_no_location xs)

-- selections that differ in locations alone have one text
pub one_selections_text : (xs ys : List Selection) → map bare_selection xs ≡ map bare_selection ys
    → selections_text 0 xs ≡ selections_text 0 ys
one_selections_text = one_of_bare (map bare_selection) (selections_text 0)
    (selections_say_no_location (codes "{") 0)
