-- Tame pieces: what is read is spelled so, and the other way round; reading looks at one word ahead only;
-- what is spelled is tokens alone; and the words before a refused one begin what is spelled.
use Rattle.std.proofs.Common.{◌≡◌, ℕ, suc, Bool, true, false, not, ◌&&◌, List, refl}
use Rattle.graphql_grammar.specs.declared.kind.Kind.{Kind}
use Rattle.graphql_grammar.specs.Kinds.{Kinds, each_kind, either_of, is_token, none, only}
use Rattle.graphql_grammar.specs.Pieces.{Piece, Wrong, branch, choose, headed, item, located, many, mapped}
use Rattle.graphql_grammar.specs.Pieces.{nothing, optional, separated, seq, sign, sign_or, some, word}
use Rattle.graphql_grammar.specs.Words.{WordView}
use Rattle.graphql_grammar.proofs.BlindLaws.{Blind, branch_blind, headed_blind, item_blind}
use Rattle.graphql_grammar.proofs.BlindLaws.{located_blind, many_blind, mapped_blind, nothing_blind}
use Rattle.graphql_grammar.proofs.BlindLaws.{optional_blind, separated_blind, seq_blind, sign_or_blind}
use Rattle.graphql_grammar.proofs.BlindLaws.{some_blind, word_blind}
use Rattle.graphql_grammar.proofs.BranchLaws.{branch_law, goes_on_with}
use Rattle.graphql_grammar.proofs.CleanLaws.{Spotless, all_tokens, branch_clean, headed_clean}
use Rattle.graphql_grammar.proofs.CleanLaws.{item_clean, located_clean, many_clean, mapped_clean}
use Rattle.graphql_grammar.proofs.CleanLaws.{nothing_clean, optional_clean, separated_clean, seq_clean}
use Rattle.graphql_grammar.proofs.CleanLaws.{sign_or_clean, some_clean, word_clean}
use Rattle.graphql_grammar.proofs.KindLemmas.{of_each}
use Rattle.graphql_grammar.proofs.ManyLaws.{many_law, some_law}
use Rattle.graphql_grammar.proofs.PieceLaws.{Apart, Begun, Lawful, headed_law, implied, item_law, located_law}
use Rattle.graphql_grammar.proofs.PieceLaws.{mapped_law, nothing_law, optional_law, seq_law, sign_or_law}
use Rattle.graphql_grammar.proofs.PieceLaws.{word_law}
use Rattle.graphql_grammar.proofs.SeparatedLaws.{separated_law}
use Rattle.graphql_grammar.proofs.ViableLaws.{Begins, Leads, begun_leads, branch_leads}
use Rattle.graphql_grammar.proofs.ViableLaws.{headed_begins, headed_leads, item_begins, leads_begins}
use Rattle.graphql_grammar.proofs.ViableLaws.{located_begins, many_begins, mapped_begins, nothing_leads}
use Rattle.graphql_grammar.proofs.ViableLaws.{optional_begins, picked_by, separated_begins, seq_begins}
use Rattle.graphql_grammar.proofs.ViableLaws.{sign_or_begins, some_begins, word_begins}

-- a tame piece, of which what is refused goes on so
pub record TameBy {A : Type 0} (p : Piece A) (Goes : Type 0) : Type 0 where
  pub law : Lawful p
  pub blind : Blind p
  pub clean : Spotless p
  pub goes : Goes

-- what is refused of it begins what another piece spells
abbrev pub Tame : {A : Type 0} → Piece A → Piece A → Type 0
Tame p q = TameBy p (Begins p q)

-- the same, but for what is refused at its first word
abbrev pub Led : {A : Type 0} → Piece A → Piece A → Type 0
Led p q = TameBy p (Leads p q)

-- what is refused of it begins what it spells itself
abbrev pub Steady : {A : Type 0} → Piece A → Type 0
Steady p = Tame p p

-- what is refused where so many signs may be open begins what is spelled where one more may be
abbrev pub Nesting : {A : Type 0} → (ℕ → Piece A) → Type 0
Nesting p = (depth : ℕ) → Tame (p depth) (p (suc depth))

abbrev pub Leading : {A : Type 0} → (ℕ → Piece A) → Type 0
Leading p = (depth : ℕ) → Led (p depth) (p (suc depth))

-- no kind is in both
abbrev pub Disjoint : Kinds → Kinds → Type 0
Disjoint a b = each_kind (λ kind. not (a kind && b kind)) ≡ true

-- each kind of the first is in the second
abbrev Within : Kinds → Kinds → Type 0
Within a b = each_kind (λ kind. implied (a kind) (b kind)) ≡ true

not_both : (a b : Bool) → not (a && b) ≡ true → b ≡ true → a ≡ false
not_both true true e h = absurd cc
not_both true false e h = absurd cc
not_both false b e h = refl

pub disjoint : (a b : Kinds) → Disjoint a b → Apart a b
disjoint a b e kind = not_both (a kind) (b kind) (of_each (λ kind. not (a kind && b kind)) e kind)

going : {A : Type 0} {p : Piece A} {G H : Type 0} → TameBy p G → H → TameBy p H
going t goes = record { law = t.law; blind = t.blind; clean = t.clean; goes = goes }

-- what is never refused at its first word may be
pub led : {A : Type 0} {p q : Piece A} → Tame p q → Led p q
led t = going t (begun_leads t.goes)

-- where something is spelled, it goes on so from its first word
pub begun : {A : Type 0} {p q : Piece A} → Led p q → (x : A) (words : List WordView) → q.spells x words
    → Tame p q
begun t x words h = going t (leads_begins t.goes x words h)

pub word_tame : (kinds : Kinds) (wrong : Wrong) (kind : Kind) → kinds kind ≡ true → all_tokens kinds ≡ true
    → Steady (word kinds wrong)
word_tame kinds wrong kind is tokens = record {
  law = word_law kinds wrong;
  blind = word_blind kinds wrong;
  clean = word_clean kinds wrong tokens;
  goes = word_begins kinds wrong kind is;
}

pub sign_or_tame : (kind : Kind) (wrong : Wrong) → is_token kind ≡ true → Steady (sign_or kind wrong)
sign_or_tame kind wrong token = record {
  law = sign_or_law kind wrong;
  blind = sign_or_blind kind wrong;
  clean = sign_or_clean kind wrong token;
  goes = sign_or_begins kind wrong;
}

pub sign_tame : (kind : Kind) → is_token kind ≡ true → Steady (sign kind)
sign_tame kind token = sign_or_tame kind _ token

pub nothing_tame : {A : Type 0} (wrong : Wrong) {q : Piece A} → Led (nothing {A = A} wrong) q
nothing_tame wrong = record {
  law = nothing_law wrong;
  blind = nothing_blind wrong;
  clean = nothing_clean wrong;
  goes = nothing_leads wrong;
}

pub seq_tame : {A B : Type 0} {p p2 : Piece A} {q q2 : Piece B} → Tame p p2 → Tame q q2
    → Disjoint p.more q.first → Tame (seq p q) (seq p2 q2)
seq_tame {p = p} {q = q} t u far = record {
  law = seq_law p q t.law u.law (disjoint p.more q.first far);
  blind = seq_blind t.blind u.blind;
  clean = seq_clean t.clean u.clean;
  goes = seq_begins t.law t.goes u.goes;
}

pub mapped_tame : {A B : Type 0} {f : A → B} {p q : Piece A} → Tame p q → Tame (mapped f p) (mapped f q)
mapped_tame {f = f} {p = p} t = record {
  law = mapped_law f p t.law;
  blind = mapped_blind f t.blind;
  clean = mapped_clean t.clean;
  goes = mapped_begins f t.goes;
}

pub optional_tame : {A : Type 0} {p q : Piece A} → Led p q → p.may_be_empty ≡ false
    → Tame (optional p) (optional q)
optional_tame {p = p} t solid = record {
  law = optional_law p t.law solid;
  blind = optional_blind t.blind;
  clean = optional_clean t.clean;
  goes = optional_begins t.goes;
}

pub many_tame : {A : Type 0} {p q : Piece A} → Tame p q → p.may_be_empty ≡ false → Disjoint p.more p.first
    → Tame (many p) (many q)
many_tame {p = p} t solid far = record {
  law = many_law p t.law solid (disjoint p.more p.first far);
  blind = many_blind t.law solid t.blind;
  clean = many_clean t.clean;
  goes = many_begins t.law t.goes;
}

pub some_tame : {A : Type 0} {p q : Piece A} → Tame p q → p.may_be_empty ≡ false → Disjoint p.more p.first
    → Tame (some p) (some q)
some_tame {p = p} t solid far = record {
  law = some_law p t.law solid (disjoint p.more p.first far);
  blind = some_blind t.law solid t.blind;
  clean = some_clean t.clean;
  goes = some_begins t.law t.goes;
}

pub separated_tame : {A : Type 0} (kind : Kind) {p q : Piece A} → Tame p q → is_token kind ≡ true
    → p.may_be_empty ≡ false → Disjoint p.more (only kind) → Disjoint (either_of none (only kind)) p.first
    → Tame (separated kind p) (separated kind q)
separated_tame kind {p} t token solid far before = record {
  law = separated_law kind p t.law solid (disjoint p.more (only kind) far)
      (disjoint (either_of none (only kind)) p.first before);
  blind = separated_blind kind t.law t.blind;
  clean = separated_clean kind token t.clean;
  goes = separated_begins kind t.law t.goes;
}

pub choose_tame : {A : Type 0} (flag : Bool) {p p2 q q2 : Piece A} → Led p p2 → Led q q2
    → Led (choose flag p q) (choose flag p2 q2)
choose_tame true t u = t
choose_tame false t u = u

pub branch_tame : {A : Type 0} (first more : Kinds) (pick pick2 : Kind → Piece A) (wrong : Wrong)
    → ((kind : Kind) → Led (pick kind) (pick2 kind)) → each_kind (λ kind. not (pick kind).may_be_empty) ≡ true
    → each_kind (λ kind. implied ((pick kind).first kind) (first kind)) ≡ true → goes_on_with more pick ≡ true
    → Led (branch first more pick wrong) (branch first more pick2 wrong)
branch_tame first more pick pick2 wrong t solid heads goes = record {
  law = branch_law first more pick wrong (λ kind. (t kind).law) solid heads goes;
  blind = branch_blind pick wrong (λ kind. (t kind).blind);
  clean = branch_clean wrong (λ kind. (t kind).clean);
  goes = branch_leads pick pick2 wrong (λ kind. (t kind).goes);
}

-- so it does where one of several is spelled
pub begun_at : {A : Type 0} (first more : Kinds) (pick : Kind → Piece A) (wrong : Wrong) (kind : Kind)
    {p one : Piece A} → Led p (branch first more pick wrong) → Tame one (pick kind)
    → ((x : A) (words : List WordView) → (pick kind).spells x words → Begun (only kind) false words)
    → Tame p (branch first more pick wrong)
begun_at first more pick wrong kind {one = one} t u begins =
    let b : Begins one (pick kind) = u.goes in
    begun t b.value b.words (picked_by pick kind b.value b.words (begins b.value b.words b.some) b.some)

pub located_tame : {A : Type 0} {p q : Piece A} → Tame p q → p.may_be_empty ≡ false
    → Tame (located p) (located q)
located_tame {p = p} t solid = record {
  law = located_law p t.law solid;
  blind = located_blind t.blind;
  clean = located_clean t.clean;
  goes = located_begins t.goes;
}

module _ {A : Type 0} (kinds : Kinds) {p : Piece A} where
  headed_by : {G H : Type 0} → TameBy p G → H → Within p.first kinds
      → each_kind (λ kind. not (p.more kind)) ≡ true → p.may_be_empty ≡ false → TameBy (headed kinds p) H
  headed_by t goes within ends solid = record {
    law = headed_law kinds p t.law within ends solid;
    blind = headed_blind kinds t.blind;
    clean = headed_clean t.clean;
    goes = goes;
  }

  pub headed_tame : {q : Piece A} → Tame p q → Within p.first kinds
      → each_kind (λ kind. not (p.more kind)) ≡ true → p.may_be_empty ≡ false
      → Tame (headed kinds p) (headed kinds q)
  headed_tame t = headed_by t (headed_begins kinds t.goes)

  pub headed_led : {q : Piece A} → Led p q → Within p.first kinds
      → each_kind (λ kind. not (p.more kind)) ≡ true → p.may_be_empty ≡ false
      → Led (headed kinds p) (headed kinds q)
  headed_led t = headed_by t (headed_leads kinds t.goes)

pub item_tame : {A : Type 0} (kinds : Kinds) (wrong : Wrong) {p q : Piece A} → Tame p q → Within p.first kinds
    → p.may_be_empty ≡ false → Tame (item kinds wrong p) (item kinds wrong q)
item_tame kinds wrong {p} t within solid = record {
  law = item_law kinds wrong p t.law within solid;
  blind = item_blind kinds wrong t.blind;
  clean = item_clean wrong t.clean;
  goes = item_begins kinds wrong t.goes;
}
