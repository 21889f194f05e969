-- Names, nodes and lists between signs are tame.
use Rattle.std.proofs.Common.{Bool, List, [], cond, false, not, refl, suc, true, zero, ℕ, ◌&&◌, ◌∷◌, ◌≡◌}
use Rattle.graphql_nodes.specs.declared.source.FileId.{FileId}
use Rattle.graphql_grammar.specs.declared.fault.FaultKind.TheVariants.{Expected, TooDeep}
use Rattle.graphql_grammar.specs.declared.fault.Item.TheVariants as i
use Rattle.graphql_grammar.specs.declared.kind.Kind.{Kind}
use Rattle.graphql_grammar.specs.Kinds.{Kinds, all_kinds, each_kind, each_of, either_of, is_name, is_token}
use Rattle.graphql_grammar.specs.Kinds.{none, only}
use Rattle.graphql_grammar.specs.Pieces.{Piece, Wrong, some}
use Rattle.graphql_grammar.specs.declared.kind.Kind.TheVariants as k
use Rattle.graphql_grammar.proofs.PieceLaws.{implied}
use Rattle.graphql_grammar.proofs.ReadingLemmas.{and_true}
use Rattle.graphql_productions.specs.Nodes.{between, enclosed, name, node}
use Rattle.graphql_productions.proofs.TamePieces.{Disjoint, Leading, Nesting, Steady, Tame, headed_led}
use Rattle.graphql_productions.proofs.TamePieces.{headed_tame, led, located_tame, mapped_tame, nothing_tame}
use Rattle.graphql_productions.proofs.TamePieces.{seq_tame, sign_or_tame, sign_tame, some_tame, word_tame}

pub node_tame : {A : Type 0} {file : FileId} {p q : Piece A} → Tame p q → p.may_be_empty ≡ false
    → Tame (node file p) (node file q)
node_tame t solid = mapped_tame (located_tame t solid)

pub name_tame : (file : FileId) → Steady (name file)
unfolding name
name_tame file = mapped_tame (word_tame is_name (λ _. Expected i.Name) k.Name refl refl)

pub between_tame : {A : Type 0} (opening closing : Kind) (wrong : Wrong) {p q : Piece A} → Tame p q
    → is_token opening ≡ true → is_token closing ≡ true → Disjoint p.more (only closing)
    → Tame (between opening closing wrong p) (between opening closing wrong q)
between_tame opening closing wrong t o c far =
    mapped_tame (seq_tame (sign_tame opening o) (seq_tame t (sign_or_tame closing wrong c) far) refl)

implied_self : (b : Bool) → implied b b ≡ true
implied_self true = refl
implied_self false = refl

each_in_itself : (a : Kinds) (kinds : List Kind) → each_of (λ other. implied (a other) (a other)) kinds ≡ true
each_in_itself a [] = refl
each_in_itself a (kind ∷ kinds) = and_true (implied (a kind) (a kind))
    (each_of (λ other. implied (a other) (a other)) kinds) (implied_self (a kind)) (each_in_itself a kinds)

-- nothing goes on behind the second sign, whether or not anything stands between the two
closed_behind : (may_be_empty : Bool)
    → each_kind (λ other. not (cond (may_be_empty && false) (either_of none none) none other)) ≡ true
closed_behind true = refl
closed_behind false = refl

-- between signs that may nest
enclosed_led : {A : Type 0} (opening closing : Kind) (wrong : Wrong) (p : ℕ → Piece A) → Nesting p
    → is_token opening ≡ true → is_token closing ≡ true → ((n : ℕ) → Disjoint (p n).more (only closing))
    → Leading (λ depth. enclosed opening closing wrong depth p)
enclosed_led opening closing wrong p t o c far zero = headed_led (only opening)
    {q = between opening closing wrong (p zero)} (nothing_tame (λ _. TooDeep)) refl refl refl
enclosed_led opening closing wrong p t o c far (suc depth) =
    led (headed_tame (only opening) (between_tame opening closing wrong (t depth) o c (far depth))
    (each_in_itself (only opening) all_kinds) (closed_behind (p depth).may_be_empty) refl)

-- one item or more between such signs
pub list_led : {A : Type 0} (opening closing : Kind) (wrong : Wrong) (p : ℕ → Piece A) → Nesting p
    → is_token opening ≡ true → is_token closing ≡ true → ((n : ℕ) → (p n).may_be_empty ≡ false)
    → ((n : ℕ) → Disjoint (p n).more (p n).first) → ((n : ℕ) → Disjoint (some (p n)).more (only closing))
    → Leading (λ depth. enclosed opening closing wrong depth (λ n. some (p n)))
list_led opening closing wrong p t o c solid apart far = enclosed_led opening closing wrong (λ n. some (p n))
    (λ n. some_tame (t n) (solid n) (apart n)) o c far

-- such items between braces
abbrev pub braced : {A : Type 0} → Wrong → (ℕ → Piece A) → ℕ → Piece (List A)
braced wrong p depth = enclosed k.LeftBrace k.RightBrace wrong depth (λ n. some (p n))
