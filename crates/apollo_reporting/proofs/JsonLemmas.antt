-- Values whose parts are written one behind the other.
use Rattle.std.proofs.Common.{◌≡◌, ℕ, List, [], ◌∷◌, ◌++◌, refl, sym, ap, ◌∙◌, append_assoc, codes, true}
use Rattle.std.proofs.lemmas.List.{append-nil}
use Rattle.serde_json.specs.Data.{Data, array, string}
use Rattle.serde_json.specs.View.{items_of}
use Rattle.serde_json.specs.Written.{compact_text, items_text, members_text}
use Rattle.graphql_nodes.specs.NameView.{NameView}
use Rattle.apollo_reporting.specs.FaultData.{Member, key_array, keys_data, members_from, object_of, type_member}
use Rattle.apollo_reporting.specs.JsonObjects.{typed_data}
use Rattle.apollo_reporting.specs.MemberTexts.{data_text, items_behind, key_text, member_text, members_behind}

items_end : (ds : List Data) → items_text true (items_of ds) ≡ items_behind ds ++ codes "]"
unfolding data_text
items_end [] = refl
items_end (d ∷ ds) = ap (λ (rest : List ℕ). 44 ∷ (compact_text d ++ rest)) (items_end ds)
    ∙ ap (λ (rest : List ℕ). 44 ∷ rest) (sym (append_assoc (compact_text d) (items_behind ds) (codes "]")))

array_text : (d : Data) (ds : List Data)
    → codes "[" ++ (data_text d ++ (items_behind ds ++ codes "]")) ≡ data_text (array (items_of (d ∷ ds)))
unfolding data_text
array_text d ds = ap (λ (rest : List ℕ). 91 ∷ (compact_text d ++ rest)) (sym (items_end ds))

-- an array, its bracket, its first value, the others and its other bracket
pub array_written : (old : List ℕ) (d : Data) (ds : List Data)
    → old ++ codes "[" ++ data_text d ++ items_behind ds ++ codes "]"
    ≡ old ++ data_text (array (items_of (d ∷ ds)))
array_written old d ds = simp append_assoc (ap (λ (t : List ℕ). old ++ t) (array_text d ds))

-- a name, its colon, a value and what stands behind
joined : (sign key value rest : List ℕ)
    → sign ++ (key ++ 58 ∷ (value ++ rest)) ≡ sign ++ (key ++ codes ":") ++ value ++ rest
joined sign key value rest = sym (simp append_assoc)

members_end : (ms : List Member) → members_text true (members_from ms) ≡ members_behind ms ++ codes "}"
unfolding data_text key_text
members_end [] = refl
members_end (m ∷ ms) =
    ap (λ (rest : List ℕ). 44 ∷ (compact_text (string m.0) ++ 58 ∷ (compact_text m.1 ++ rest))) (members_end
    ms) ∙ joined (codes ",") (compact_text (string m.0)) (compact_text m.1) (members_behind ms ++ codes "}")
    ∙ sym (append_assoc (member_text (codes ",") m) (members_behind ms) (codes "}"))

object_text : (m : Member) (ms : List Member)
    → member_text (codes "{") m ++ (members_behind ms ++ codes "}") ≡ data_text (object_of (m ∷ ms))
unfolding data_text key_text
object_text m ms = sym
    (ap (λ (rest : List ℕ). 123 ∷ (compact_text (string m.0) ++ 58 ∷ (compact_text m.1 ++ rest))) (members_end
    ms) ∙ joined (codes "{") (compact_text (string m.0)) (compact_text m.1) (members_behind ms ++ codes "}"))

-- an object, its first member, the others and its other brace
pub object_written : (old : List ℕ) (m : Member) (ms : List Member)
    → old ++ member_text (codes "{") m ++ members_behind ms ++ codes "}"
    ≡ old ++ data_text (object_of (m ∷ ms))
object_written old m ms = append_assoc (old ++ member_text (codes "{") m) (members_behind ms) (codes "}")
    ∙ append_assoc old (member_text (codes "{") m) (members_behind ms ++ codes "}")
    ∙ ap (λ (t : List ℕ). old ++ t) (object_text m ms)

behind-append : (xs ys : List Member) → members_behind (xs ++ ys) ≡ members_behind xs ++ members_behind ys
behind-append [] ys = refl
behind-append (x ∷ xs) ys = ap (λ (r : List ℕ). member_text (codes ",") x ++ r) (behind-append xs ys)
    ∙ sym (append_assoc (member_text (codes ",") x) (members_behind xs) (members_behind ys))

regroup : (old t k m f s p d e : List ℕ)
    → old ++ t ++ k ++ m ++ f ++ s ++ p ++ d ++ e ≡ old ++ (t ++ ((k ++ (m ++ (f ++ (s ++ (p ++ d))))) ++ e))
regroup old t k m f s p d e = simp append_assoc

-- an object of these members, which were written in this order
pub fault_written : (type kind message file : Member) (span path details : List Member)
    (old t₀ t₁ t₂ t₃ t₄ t₅ t₆ t₇ : List ℕ) → t₀ ≡ old ++ member_text (codes "{") type
    → t₁ ≡ t₀ ++ member_text (codes ",") kind
    → t₂ ≡ t₁ ++ member_text (codes ",") message → t₃ ≡ t₂ ++ member_text (codes ",") file
    → t₄ ≡ t₃ ++ members_behind span → t₅ ≡ t₄ ++ members_behind path → t₆ ≡ t₅ ++ members_behind details
    → t₇ ≡ t₆ ++ codes "}"
    → t₇ ≡ old ++ data_text (object_of (type ∷ ((kind ∷ message ∷ file ∷ []) ++ (span ++ (path ++ details)))))
fault_written type kind message file span path details old t₀ t₁ t₂ t₃ t₄ t₅ t₆ t₇ e₀ e₁ e₂ e₃ e₄ e₅ e₆ e₇ =
    let t = member_text (codes "{") type in
    let k = member_text (codes ",") kind in
    let m = member_text (codes ",") message in
    let f = member_text (codes ",") file in
    let s = members_behind span in
    let p = members_behind path in
    let d = members_behind details in
    let others : k ++ (m ++ (f ++ (s ++ (p ++ d)))) ≡ members_behind ((kind ∷ message ∷ file ∷ [])
    ++ (span ++ (path ++ details))) =
    sym (ap (λ (r : List ℕ). k ++ (m ++ (f ++ r))) (behind-append span (path ++ details)
    ∙ ap (λ (r : List ℕ). s ++ r) (behind-append path details))) in
    let all : t₇ ≡ old ++ t ++ k ++ m ++ f ++ s ++ p ++ d ++ codes "}" =
    e₇ ∙ ap (λ (x : List ℕ). x ++ codes "}") (e₆ ∙ ap (λ (x : List ℕ). x ++ d) (e₅
    ∙ ap (λ (x : List ℕ). x ++ p) (e₄ ∙ ap (λ (x : List ℕ). x ++ s) (e₃ ∙ ap (λ (x : List ℕ). x ++ f) (e₂
    ∙ ap (λ (x : List ℕ). x ++ m) (e₁ ∙ ap (λ (x : List ℕ). x ++ k) e₀)))))) in
    all ∙ regroup old t k m f s p d (codes "}") ∙ ap (λ (r : List ℕ). old ++ (t ++ (r ++ codes "}"))) others
    ∙ ap (λ (r : List ℕ). old ++ r) (object_text type
    ((kind ∷ message ∷ file ∷ []) ++ (span ++ (path ++ details))))

-- the same of an object of two members
pub pair_written : (first second : Member) (old t₁ t₂ t₃ t₄ : List ℕ)
    → t₁ ≡ old ++ member_text (codes "{") first → t₂ ≡ t₁ ++ key_text (codes ",") second.0
    → t₃ ≡ t₂ ++ data_text second.1 → t₄ ≡ t₃ ++ codes "}"
    → t₄ ≡ old ++ data_text (object_of (first ∷ second ∷ []))
pair_written first second old t₁ t₂ t₃ t₄ e₁ e₂ e₃ e₄ =
    let m = member_text (codes "{") first in
    let l = key_text (codes ",") second.0 in
    let w = data_text second.1 in
    let all : t₄ ≡ old ++ m ++ l ++ w ++ codes "}" =
    e₄ ∙ ap (λ (x : List ℕ). x ++ codes "}") (e₃ ∙ ap (λ (x : List ℕ). x ++ w) (e₂
    ∙ ap (λ (x : List ℕ). x ++ l) e₁)) in
    let behind : (l ++ w) ++ [] ≡ l ++ w = append-nil (l ++ w) in
    let same : old ++ m ++ ((l ++ w) ++ []) ++ codes "}" ≡ old ++ m ++ l ++ w ++ codes "}" =
    ap (λ (x : List ℕ). old ++ m ++ x ++ codes "}") behind
    ∙ ap (λ (x : List ℕ). x ++ codes "}") (sym (append_assoc (old ++ m) l w)) in
    all ∙ sym same ∙ object_written old first (second ∷ [])

-- an array of keys, its bracket, its first key, the others and its other bracket
pub keys_written : (keys others : List NameView) (first : NameView) (shown old t₁ t₂ t₃ t₄ : List ℕ)
    → keys ≡ first ∷ others → shown ≡ first.text → t₁ ≡ old ++ codes "[" → t₂ ≡ t₁ ++ data_text (string shown)
    → t₃ ≡ t₂ ++ items_behind (keys_data others) → t₄ ≡ t₃ ++ codes "]"
    → t₄ ≡ old ++ data_text (key_array keys)
keys_written keys others first shown old t₁ t₂ t₃ t₄ are is e₁ e₂ e₃ e₄ =
    let second : t₂ ≡ old ++ codes "[" ++ data_text (string first.text) =
    e₂ ∙ ap (λ (x : List ℕ). x ++ data_text (string shown)) e₁
    ∙ ap (λ (x : List ℕ). old ++ codes "[" ++ data_text (string x)) is in
    let all : t₄ ≡ old ++ codes "[" ++ data_text (string first.text) ++ items_behind (keys_data others)
    ++ codes "]" = e₄ ∙ ap (λ (x : List ℕ). x ++ codes "]") (e₃
    ∙ ap (λ (x : List ℕ). x ++ items_behind (keys_data others)) second) in
    all ∙ array_written old (string first.text) (keys_data others)
    ∙ ap (λ (ks : List NameView). old ++ data_text (key_array ks)) (sym are)

-- an object that says what it is, its members and its other brace
pub typed_written : (of_type : List ℕ) (ms : List Member) (t₁ t₂ t₃ : List ℕ)
    → t₁ ≡ member_text (codes "{") (type_member of_type) → t₂ ≡ t₁ ++ members_behind ms → t₃ ≡ t₂ ++ codes "}"
    → t₃ ≡ compact_text (typed_data of_type ms)
unfolding data_text
typed_written of_type ms t₁ t₂ t₃ e₁ e₂ e₃ =
    e₃ ∙ ap (λ (x : List ℕ). x ++ codes "}") (e₂ ∙ ap (λ (x : List ℕ). x ++ members_behind ms) e₁)
    ∙ append_assoc (member_text (codes "{") (type_member of_type)) (members_behind ms) (codes "}")
    ∙ object_text (type_member of_type) ms

-- and with where something stands
pub placed_written : (of_type : List ℕ) (ms span : List Member) (file : Member) (t₁ t₂ t₃ t₄ t₅ : List ℕ)
    → t₁ ≡ member_text (codes "{") (type_member of_type) → t₂ ≡ t₁ ++ members_behind ms
    → t₃ ≡ t₂ ++ member_text (codes ",") file → t₄ ≡ t₃ ++ members_behind span → t₅ ≡ t₄ ++ codes "}"
    → t₅ ≡ compact_text (typed_data of_type (ms ++ (file ∷ span)))
placed_written of_type ms span file t₁ t₂ t₃ t₄ t₅ e₁ e₂ e₃ e₄ e₅ =
    let m = members_behind ms in
    let f = member_text (codes ",") file in
    let s = members_behind span in
    let others : t₄ ≡ t₁ ++ members_behind (ms ++ (file ∷ span)) =
    e₄ ∙ ap (λ (x : List ℕ). x ++ s) (e₃ ∙ ap (λ (x : List ℕ). x ++ f) e₂)
    ∙ append_assoc (t₁ ++ m) f s ∙ append_assoc t₁ m (f ++ s)
    ∙ ap (λ (x : List ℕ). t₁ ++ x) (sym (behind-append ms (file ∷ span))) in
    typed_written of_type (ms ++ (file ∷ span)) t₁ t₄ t₅ e₁ others e₅
