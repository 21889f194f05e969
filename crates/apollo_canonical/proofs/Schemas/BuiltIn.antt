-- The built-in definitions are well-formed: their parts are tested, and the tests computed.
use Rattle.apollo_canonical.proofs.Prelude.{AllByRecursion, Bool, Definition, Description, EnumName, IsName}
use Rattle.apollo_canonical.proofs.Prelude.{IsWellFormedDefinition, IsWellFormedPart, List, Name, NameView}
use Rattle.apollo_canonical.proofs.Prelude.{Node, TreePart, Wanted, [], and_parts, ap, arith, codes}
use Rattle.apollo_canonical.proofs.Prelude.{definition_parts, false, length, list_all, name_parts, name_text}
use Rattle.apollo_canonical.proofs.Prelude.{not, prefix_len, refl, same, same-is, sym, take, true, true≢false}
use Rattle.apollo_canonical.proofs.Prelude.{type_step, ℕ, ◌&&◌, ◌==◌, ◌∙◌, ◌≡◌, ◌≢◌}
use Rattle.std.proofs.Math.Seq.{take-length}
use Rattle.graphql_ast.specs.declared.type_reference.Type.{«Type» as TypeReference, NonNullList, NonNullNamed}
use Rattle.graphql_ast.specs.declared.type_reference.Type.{fold-roll-Type, roll-Type}
use Rattle.graphql_ast.specs.declared.type_reference.Type.TheOpen.{Type-F}
use Rattle.graphql_ast.specs.declared.value.Value.{Boolean, «String» as Text, fold-roll-Value, roll-Value}
use Rattle.graphql_ast.specs.declared.value.Value.TheOpen.{Value-F}
use Rattle.graphql_tokens.specs.Bytes.{begins, is_name_byte, is_name_start}
use Rattle.graphql_productions.specs.TreeParts.{type_parts, value_parts}
use Rattle.graphql_productions.proofs.RolledParts.{list_type_rolled, named_rolled}
use Rattle.apollo_canonical.proofs.Schemas.WellFormedLists.{each-tested}
unfoldable use Rattle.apollo_meaning.specs.BuiltInTable.{built_in_definitions}

-- whether a text is a name
abbrev is_name : List ℕ → Bool
is_name text = begins is_name_start text && (prefix_len is_name_byte text == length text)

-- whether a part is well-formed; of numbers and variables it isn't asked
abbrev is_well_formed : TreePart → Bool
is_well_formed (Node at) = true
is_well_formed (Name n) = is_name n.text
is_well_formed (EnumName n) = is_name n.text && (not (same n.text (codes "true"))
    && (not (same n.text (codes "false")) && not (same n.text (codes "null"))))
is_well_formed (Description n) = true
is_well_formed (Wanted there) = there
is_well_formed _ = false

pub named : (text : List ℕ) → is_name text ≡ true → IsName text
named text h =
    let both = and_parts _ (prefix_len is_name_byte text == length text) h in
    let long : prefix_len is_name_byte text ≡ length text = grind (arith, both.1) in
    name_text text (record {
      bytes = text;
      size = prefix_len is_name_byte text;
      token = rw both.0 refl;
      taken = sym (take-length text) ∙ ap (λ (n : ℕ). take n text) (sym long);
    })

other : (text word : List ℕ) → not (same text word) ≡ true → text ≢ word
other text word h = λ e. true≢false (sym h ∙ ap not (same-is text word e))

part : (x : TreePart) → is_well_formed x ≡ true → IsWellFormedPart x
part (Node at) h = tt
part (Name n) h = named n.text h
part (EnumName n) h =
    let a = and_parts _ _ h in
    let b = and_parts _ _ a.1 in
    let c = and_parts _ _ b.1 in (
      named n.text a.0,
      other n.text _ b.0,
      other n.text _ c.0,
      other n.text _ c.1,
    )
part (Description n) h = tt
part (Wanted there) h = h
part _ h = absurd (true≢false (sym h))

-- ---- the parts of types and default values

required : (n : NameView) → type_parts (NonNullNamed n) ≡ name_parts n
unfolding type_parts roll-Type denote.Hole.Carrier.roll
required n = fold-roll-Type _ type_step (Type-F.NonNullNamed n)

required_list : (inner : TypeReference) → type_parts (NonNullList inner) ≡ type_parts inner
unfolding type_parts roll-Type denote.Hole.Carrier.roll
required_list inner = fold-roll-Type _ type_step (Type-F.NonNullList inner)

boolean : (b : Bool) → value_parts true (Boolean b) ≡ []
unfolding value_parts roll-Value denote.Hole.Carrier.roll
boolean b = fold-roll-Value _ _ (Value-F.Boolean b)

string : (text : List ℕ) → value_parts true (Text text) ≡ []
unfolding value_parts roll-Value denote.Hole.Carrier.roll
string text = fold-roll-Value _ _ (Value-F.String text)

abbrev passes : Definition → Bool
passes d = list_all is_well_formed (definition_parts d)

computed : list_all passes built_in_definitions ≡ true
unfolding built_in_definitions
computed = simp (named_rolled, list_type_rolled, required, required_list, boolean, string)

pub built_in : AllByRecursion IsWellFormedDefinition built_in_definitions
built_in = each-tested IsWellFormedDefinition passes (λ d. each-tested IsWellFormedPart is_well_formed part _)
    built_in_definitions computed
