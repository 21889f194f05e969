-- What the marks of a text say of its form, and that a refused text is outside the grammar.
use Rattle.std.proofs.Common.{◌≡◌, ◌≢◌, ◌<◌, ◌++◌, ℕ, List, [], ◌∷◌, true, not, nat_eq, codes, refl}
use Rattle.std.proofs.Common.{sym, ap, subst, ◌∙◌, inl, inr, arith, append-nil}
use Rattle.std.specs.Cmp.Lexicographic.{pointwise}
use Rattle.std.proofs.lemmas.List.Elements.{All-weaker, All-append, All-cons}
use Rattle.graphql_nodes.specs.NameSyntax.{IsName, IsNameStart, IsNameContinue}
use Rattle.graphql_nodes.proofs.Comparisons.{head_same, tail_same}
use Rattle.apollo_coordinate.specs.CoordinateText.{IsTypeText, IsAttributeText, IsArgumentText}
use Rattle.apollo_coordinate.specs.CoordinateText.{IsFieldArgumentText, IsDirectiveText}
use Rattle.apollo_coordinate.specs.CoordinateText.{IsDirectiveArgumentText, IsCoordinateText}
use Rattle.apollo_coordinate.specs.Refusals.{Lacks, IsCut, IsNoNames, IsNoAttribute, IsNoDirective}
use Rattle.apollo_coordinate.specs.Refusals.{IsNoArgument, IsNoPair, IsNoArgumentOf, IsNoFieldArgument}
use Rattle.apollo_coordinate.specs.Refusals.{IsNoDirectiveArgument}
use Rattle.apollo_coordinate.specs.declared.parse_error.SchemaCoordinateParseError.{SchemaCoordinateParseError}
use Rattle.apollo_coordinate.specs.declared.parse_error.SchemaCoordinateParseError.TheVariants.{InvalidFormat}
use Rattle.apollo_coordinate.proofs.MarkLemmas.{no_cut, one_cut}

-- a mark is no part of a name
abbrev pub IsMark : ℕ → Type 0
IsMark c = IsNameContinue c → ⊥

pub low_mark : (c : ℕ) → c < 48 → IsMark c
low_mark c low continues = grind (arith, continues)

pub middle_mark : (c : ℕ) → 57 < c → c < 65 → IsMark c
middle_mark c above below continues = grind (arith, continues)

pub point : IsMark 46
point = low_mark 46 (omega arith)

pub bracket : IsMark 40
bracket = low_mark 40 (omega arith)

pub colon : IsMark 58
colon = middle_mark 58 (omega arith) (omega arith)

pub at_sign : IsMark 64
at_sign = middle_mark 64 (omega arith) (omega arith)

-- a name has no mark
pub name_lacks : (mark : ℕ) → IsMark mark → (t : List ℕ) → IsName t → Lacks mark t
name_lacks mark never [] name = absurd name
name_lacks mark never (c ∷ cs) name = All-weaker IsNameContinue (λ b. b ≢ mark) (λ b continues same. never
    (subst IsNameContinue same continues)) (c ∷ cs) (All-cons IsNameContinue c cs (inl name.0) name.1)

-- a text that begins with `@`
abbrev pub BeginsAt : List ℕ → Type 0
BeginsAt t = (d : List ℕ) × (t ≡ codes "@" ++ d)

pub name_first : (name more : List ℕ) → IsName name → BeginsAt (name ++ more) → ⊥
name_first [] more name at = absurd name
name_first (c ∷ cs) more name at = at_sign (inl (subst IsNameStart (head_same at.1) name.0))

-- what the marks of each form are
pub type_begins : (t : List ℕ) → IsTypeText t → BeginsAt t → ⊥
type_begins t name at = name_first t [] name (rw (append-nil t) at)

pub attribute_begins : (t : List ℕ) → IsAttributeText t → BeginsAt t → ⊥
attribute_begins t form at = name_first form.0 (codes "." ++ form.1) form.3 (at.0, sym form.2 ∙ at.1)

empty : (ty a : List ℕ) → [] ≡ ty ++ (codes "." ++ a) → IsName ty → ⊥
empty [] a e name = absurd name
empty (c ∷ cs) a e name = cc

pub head_begins : (head more : List ℕ) → IsAttributeText head → BeginsAt (head ++ more) → ⊥
head_begins [] more form at = empty form.0 form.1 form.2 form.3
head_begins (c ∷ cs) more form at =
    attribute_begins (c ∷ cs) form (cs, let first : c ≡ 64 = head_same at.1 in λ i. first i ∷ cs)

pub field_argument_begins : (t : List ℕ) → IsFieldArgumentText t → BeginsAt t → ⊥
field_argument_begins t form at = head_begins form.0 (codes "(" ++ (form.1 ++ codes ":)")) form.3
    (at.0, sym form.2 ∙ at.1)

pub attribute_lacks : (t : List ℕ) → IsAttributeText t → Lacks 40 t
attribute_lacks t form =
    let P : ℕ → Type 0 = λ b. b ≢ 40 in
    subst (Lacks 40) (sym form.2) (All-append P form.0 (46 ∷ form.1) (name_lacks 40 bracket form.0 form.3)
    (All-cons P 46 form.1 (omega arith) (name_lacks 40 bracket form.1 form.4)))

pub directive_lacks : (t : List ℕ) → IsDirectiveText t → Lacks 40 t
directive_lacks t form =
    let P : ℕ → Type 0 = λ b. b ≢ 40 in
    subst (Lacks 40) (sym form.1) (All-cons P 64 form.0 (omega arith) (name_lacks 40 bracket form.0 form.2))

pub argument_cut : (IsHead : List ℕ → Type 0) (t : List ℕ) → IsArgumentText IsHead t → Lacks 40 t → ⊥
argument_cut IsHead t form lacks = no_cut 40 form.0 (form.1 ++ codes ":)") (subst (Lacks 40) form.2 lacks)

pub attribute_cut : (t : List ℕ) → IsAttributeText t → Lacks 46 t → ⊥
attribute_cut t form lacks = no_cut 46 form.0 form.1 (subst (Lacks 46) form.2 lacks)

-- a text of the grammar is of the form that its marks say
pub only_directive_argument : (t : List ℕ) → BeginsAt t → (Lacks 40 t → ⊥) → IsCoordinateText t
    → IsDirectiveArgumentText t
only_directive_argument t at cut form = grind (
  arith,
  form,
  at,
  cut,
  type_begins t,
  attribute_begins t,
  field_argument_begins t,
  directive_lacks t,
)

pub only_directive : (t : List ℕ) → BeginsAt t → Lacks 40 t → IsCoordinateText t → IsDirectiveText t
only_directive t at lacks form = grind (
  arith,
  form,
  at,
  lacks,
  type_begins t,
  attribute_begins t,
  field_argument_begins t,
  argument_cut IsDirectiveText t,
)

pub argument_begins : (t : List ℕ) → IsDirectiveArgumentText t → BeginsAt t
argument_begins t form = (
  form.3.0 ++ (codes "(" ++ (form.1 ++ codes ":)")),
  form.2 ∙ ap (λ (h : List ℕ). h ++ (codes "(" ++ (form.1 ++ codes ":)"))) form.3.1,
)

pub only_field_argument : (t : List ℕ) → (BeginsAt t → ⊥) → (Lacks 40 t → ⊥) → IsCoordinateText t
    → IsFieldArgumentText t
only_field_argument t never cut (inl form) = absurd (cut (name_lacks 40 bracket t form))
only_field_argument t never cut (inr (inl form)) = absurd (cut (attribute_lacks t form))
only_field_argument t never cut (inr (inr (inl form))) = form
only_field_argument t never cut (inr (inr (inr (inl form)))) = absurd (never (form.0, form.1))
only_field_argument t never cut (inr (inr (inr (inr form)))) = absurd (never (argument_begins t form))

pub only_attribute : (t : List ℕ) → (BeginsAt t → ⊥) → Lacks 40 t → (Lacks 46 t → ⊥) → IsCoordinateText t
    → IsAttributeText t
only_attribute t never lacks cut form = grind (
  arith,
  form,
  never,
  lacks,
  cut,
  name_lacks 46 point t,
  argument_begins t,
  argument_cut IsAttributeText t,
)

pub only_type : (t : List ℕ) → (BeginsAt t → ⊥) → Lacks 40 t → Lacks 46 t → IsCoordinateText t → IsTypeText t
only_type t never lacks whole form = grind (
  arith,
  form,
  never,
  lacks,
  whole,
  attribute_cut t,
  argument_begins t,
  argument_cut IsAttributeText t,
)

-- what a form refuses is outside it
pub no_names : (ty a : List ℕ) (e : SchemaCoordinateParseError) → IsNoNames ty a e → IsName ty → IsName a → ⊥
no_names ty a e none name other = grind (arith, none)

pub no_attribute : (t : List ℕ) (e : SchemaCoordinateParseError) → IsNoAttribute t e → IsAttributeText t → ⊥
no_attribute t e (inl none) form = attribute_cut t form none.0
no_attribute t e (inr parts) form =
    let same = one_cut 46 parts.0 parts.1 form.0 form.1 parts.2.0 (name_lacks 46 point form.0 form.3)
    (sym parts.2.1 ∙ form.2) in
    no_names parts.0 parts.1 e parts.3 (subst IsName (sym same.0) form.3) (subst IsName (sym same.1) form.4)

pub no_directive : (t : List ℕ) (e : SchemaCoordinateParseError) → IsNoDirective t e → IsDirectiveText t → ⊥
no_directive t e (inl none) form = none.0 form.0 form.1
no_directive t e (inr name) form = name.2.0 (subst IsName (tail_same (sym form.1 ∙ name.1)) form.2)

pub no_argument : (a : List ℕ) (e : SchemaCoordinateParseError) → IsNoArgument (a ++ codes ":)") e → IsName a
    → ⊥
no_argument a e (inl none) name = none.0 a (name_lacks 58 colon a name) refl
no_argument a e (inr found) name =
    found.3.0 (subst IsName (one_cut 58 a (codes ")") found.0 (codes ")") (name_lacks 58 colon a name) found.1
    found.2).0 name)

-- of what stands round the first `(`
no_pair : (IsHead : List ℕ → Type 0) (IsNoHead : List ℕ → SchemaCoordinateParseError → Type 0)
    → ((h : List ℕ) (e : SchemaCoordinateParseError) → IsNoHead h e → IsHead h → ⊥)
    → (head a : List ℕ) (e : SchemaCoordinateParseError) → IsNoPair IsHead IsNoHead head (a ++ codes ":)") e
    → IsHead head → IsName a → ⊥
no_pair IsHead IsNoHead refuses head a e (inl first) form name = refuses head e first form
no_pair IsHead IsNoHead refuses head a e (inr second) form name = no_argument a e second.1 name

no_argument_of : (IsHead : List ℕ → Type 0) (IsNoHead : List ℕ → SchemaCoordinateParseError → Type 0)
    → ((h : List ℕ) → IsHead h → Lacks 40 h)
    → ((h : List ℕ) (e : SchemaCoordinateParseError) → IsNoHead h e → IsHead h → ⊥)
    → (t : List ℕ) (e : SchemaCoordinateParseError) → IsNoArgumentOf IsHead IsNoHead t e
    → IsArgumentText IsHead t → ⊥
no_argument_of IsHead IsNoHead lacks refuses t e (inl none) form = argument_cut IsHead t form none.0
no_argument_of IsHead IsNoHead lacks refuses t e (inr parts) form =
    let same = one_cut 40 parts.0 parts.1 form.0 (form.1 ++ codes ":)") parts.2.0 (lacks form.0 form.3)
    (sym parts.2.1 ∙ form.2) in
    no_pair IsHead IsNoHead refuses parts.0 form.1 e (rw same.1 at parts.3) (subst IsHead (sym same.0) form.3)
    form.4

pub no_field_argument : (t : List ℕ) (e : SchemaCoordinateParseError) → IsNoFieldArgument t e
    → IsFieldArgumentText t → ⊥
no_field_argument = no_argument_of IsAttributeText IsNoAttribute attribute_lacks no_attribute

pub no_directive_argument : (t : List ℕ) (e : SchemaCoordinateParseError) → IsNoDirectiveArgument t e
    → IsDirectiveArgumentText t → ⊥
no_directive_argument = no_argument_of IsDirectiveText IsNoDirective directive_lacks no_directive

-- a text that is cut at a mark has it
pub cut_lacks : (mark : ℕ) (t front back : List ℕ) → IsCut mark t front back → Lacks mark t → ⊥
cut_lacks mark t front back cut lacks = no_cut mark front back (subst (Lacks mark) cut.1 lacks)

-- a text without a `:`, or with something else than `)` after the first, is no argument
pub no_colon : (t : List ℕ) → Lacks 58 t → IsNoArgument t InvalidFormat
no_colon t lacks = inl (λ a before same. no_cut 58 a (codes ")") (subst (Lacks 58) same lacks), refl)

pub other_end : (t front back : List ℕ) → IsCut 58 t front back
    → true ≡ not (pointwise nat_eq back (codes ")")) → IsNoArgument t InvalidFormat
other_end t front back cut other = inl (
  λ a before same. let e = (one_cut 58 front back a (codes ")") cut.0 before (sym cut.1 ∙ same)).1 in
      let differs = rw e at other in cc,
  refl,
)
