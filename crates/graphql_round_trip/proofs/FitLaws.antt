-- What is spelled within a depth nests at most so deep: each piece of a grammar in turn.
use Rattle.std.proofs.Common.{◌≡◌, ◌≤◌, ℕ, zero, suc, Bool, true, false, List, [], ◌∷◌, Option, None, Some}
use Rattle.std.proofs.Common.{sym, subst, arith}
use Rattle.graphql_nodes.specs.declared.source.FileId.{FileId}
use Rattle.graphql_grammar.specs.declared.kind.Kind.{Kind}
use Rattle.graphql_grammar.specs.Kinds.{Kinds}
use Rattle.graphql_grammar.specs.Pieces.{Piece, Wrong, branch, choose, filtered, headed, item, listed}
use Rattle.graphql_grammar.specs.Pieces.{located, many, mapped, nothing, optional, seq, sign, some, sign_or}
use Rattle.graphql_grammar.specs.Spelling.{spells_by, spells_many}
use Rattle.graphql_grammar.specs.Words.{WordView}
use Rattle.graphql_productions.specs.Nodes.{between as between_signs, enclosed, inner, node, node_of, or_none}
use Rattle.graphql_round_trip.specs.Nesting.{between, deepest, if_there}
use Rattle.graphql_grammar.specs.declared.fault.FaultKind.TheVariants.{TooDeep}

-- what a piece spells is so
pub record Keeps {A : Type 0} (p : Piece A) (P : A → Type 0) : Type 0 where
  pub kept : (x : A) (front : List WordView) → p.spells x front → P x

-- what a piece spells nests at most so deep
abbrev pub Fits : {A : Type 0} → Piece A → (A → ℕ) → ℕ → Type 0
Fits p nesting depth = Keeps p (λ x. nesting x ≤ depth)

-- ---- numbers

-- what doesn't nest fits
pub none_fits : {n : ℕ} (depth : ℕ) → n ≡ 0 → n ≤ depth
none_fits depth none = omega (arith, none)

-- what is as deep as what fits
pub same_fits : {n m depth : ℕ} → n ≡ m → m ≤ depth → n ≤ depth
same_fits same fits = omega (arith, same, fits)

-- signs around what fits
pub one_more_fits : {n m depth : ℕ} → n ≡ suc m → m ≤ depth → n ≤ suc depth
one_more_fits more fits = omega (arith, more, fits)

-- brackets around items that fit
pub between_fits : {A : Type 0} (nesting : A → ℕ) (xs : List A) (depth : ℕ) → deepest nesting xs ≤ depth
    → between nesting xs ≤ suc depth
between_fits nesting [] depth fits = omega arith
between_fits nesting (x ∷ xs) depth fits = omega (arith, fits)

-- items whose brackets fit
pub items_fit : {A : Type 0} (nesting : A → ℕ) (xs : List A) (depth : ℕ) → between nesting xs ≤ depth
    → deepest nesting xs ≤ depth
items_fit nesting [] depth fits = fits
items_fit nesting (x ∷ xs) depth fits = omega (arith, fits)

-- items in brackets, or none and no brackets
pub left_out_fits : {A : Type 0} (nesting : A → ℕ) (xs : Option (List A)) (depth : ℕ)
    → if_there (between nesting) xs ≤ depth → between nesting (or_none xs) ≤ depth
left_out_fits nesting None depth fits = fits
left_out_fits nesting (Some xs) depth fits = fits

-- ---- pieces

-- a piece of which nothing is asked
pub unasked : {A : Type 0} (p : Piece A) → Keeps p (λ _. Unit {0})
unasked p = record { kept = λ x front h. tt }

-- nothing
pub nothing_keeps : {A : Type 0} (wrong : Wrong) {P : A → Type 0} → Keeps (nothing wrong) P
nothing_keeps wrong = record { kept = λ x front h. absurd h }

-- one after the other
pub seq_keeps : {A B : Type 0} {p : Piece A} {q : Piece B} {P : A → Type 0} {Q : B → Type 0} → Keeps p P
    → Keeps q Q → Keeps (seq p q) (λ x. P x.0 × Q x.1)
seq_keeps pk qk = record { kept = λ x front h. (pk.kept x.0 h.head h.first, qk.kept x.1 h.tail h.second) }

-- what follows
pub implied_keeps : {A : Type 0} {p : Piece A} {P Q : A → Type 0} → Keeps p P → ((x : A) → P x → Q x)
    → Keeps p Q
implied_keeps pk so = record { kept = λ x front h. so x (pk.kept x front h) }

-- the same, said otherwise
pub mapped_keeps : {A B : Type 0} {f : A → B} {p : Piece A} {P : A → Type 0} {Q : B → Type 0} → Keeps p P
    → ((x : A) → P x → Q (f x)) → Keeps (mapped f p) Q
mapped_keeps {f} {Q} pk so = record { kept = λ x front h. subst Q (sym h.1) (so h.0 (pk.kept h.0 front h.2)) }

-- what passes a test
pub filtered_keeps : {A : Type 0} {test : A → Bool} (wrong : Wrong) {p : Piece A} {P : A → Type 0} → Keeps p P
    → Keeps (filtered test wrong p) P
filtered_keeps wrong pk = record { kept = λ x front h. pk.kept x front h.0 }

module _ {A : Type 0} {p : Piece A} {nesting : A → ℕ} {depth : ℕ} (pf : Fits p nesting depth) where
  one_or_none : (x : Option A) (front : List WordView) → (optional p).spells x front
      → if_there nesting x ≤ depth
  one_or_none None front h = omega arith
  one_or_none (Some x) front h = pf.kept x front h

  -- one or none
  pub optional_fits : Fits (optional p) (if_there nesting) depth
  optional_fits = record { kept = one_or_none }

  any_number : (xs : List A) (front : List WordView) → spells_many p.spells xs front
      → deepest nesting xs ≤ depth
  any_number [] front h = omega arith
  any_number (x ∷ xs) front h = omega (arith, pf.kept x h.head h.first, any_number xs h.tail h.second)

  -- any number
  pub many_fits : Fits (many p) (deepest nesting) depth
  many_fits = record { kept = any_number }

  -- one or more
  pub some_fits : Fits (some p) (deepest nesting) depth
  some_fits = mapped_keeps {f = listed} (seq_keeps pf many_fits) (λ x h. omega arith)

module _ {A : Type 0} {pick : Kind → Piece A} (wrong : Wrong) {P : A → Type 0} (pk : (kind : Kind)
    → Keeps (pick kind) P) where
  by_first_word : (x : A) (front : List WordView) → spells_by (λ kind. (pick kind).spells) x front → P x
  by_first_word x [] h = absurd h
  by_first_word x (w ∷ ws) h = (pk w.kind).kept x (w ∷ ws) h

  -- one of several, by the kind of the first word
  pub branch_keeps : {first more : Kinds} → Keeps (branch first more pick wrong) P
  branch_keeps = record { kept = by_first_word }

-- one of two, by a flag
pub choose_keeps : {A : Type 0} (flag : Bool) {p q : Piece A} {P : A → Type 0} → Keeps p P → Keeps q P
    → Keeps (choose flag p q) P
choose_keeps true pk qk = pk
choose_keeps false pk qk = qk

-- with where it stands
pub located_keeps : {A : Type 0} {p : Piece A} {P : A → Type 0} → Keeps p P → Keeps (located p) (λ x. P x.0)
located_keeps pk = record { kept = λ x front h. pk.kept x.0 front h.0 }

-- a node
pub node_keeps : {A : Type 0} {file : FileId} {p : Piece A} {P : A → Type 0} → Keeps p P
    → Keeps (node file p) (λ n. P n.value)
node_keeps {file} pk = mapped_keeps {f = node_of file} (located_keeps pk) (λ x h. h)

-- what begins with one of these
pub headed_keeps : {A : Type 0} {kinds : Kinds} {p : Piece A} {P : A → Type 0} → Keeps p P
    → Keeps (headed kinds p) P
headed_keeps pk = record { kept = pk.kept }

-- an item
pub item_keeps : {A : Type 0} {kinds : Kinds} (wrong : Wrong) {p : Piece A} {P : A → Type 0} → Keeps p P
    → Keeps (item kinds wrong p) P
item_keeps wrong pk = record { kept = pk.kept }

-- ---- between signs

-- what stands between two signs
pub between_keeps : {A : Type 0} (opening closing : Kind) (wrong : Wrong) {p : Piece A} {P : A → Type 0}
    → Keeps p P → Keeps (between_signs opening closing wrong p) P
between_keeps opening closing wrong pk = mapped_keeps {f = inner} (seq_keeps (unasked (sign opening))
    (seq_keeps pk (unasked (sign_or closing wrong)))) (λ x h. h.1.0)

-- items between two signs, of which one more may be open than inside
pub enclosed_fits : {A : Type 0} (opening closing : Kind) (wrong : Wrong) (depth : ℕ) {p : ℕ → Piece A}
    {nesting : A → ℕ} → ((inside : ℕ) → Fits (p inside) nesting inside)
    → Fits (enclosed opening closing wrong depth (λ inside. some (p inside))) (between nesting) depth
enclosed_fits opening closing wrong zero pf = headed_keeps (nothing_keeps (λ _. TooDeep))
enclosed_fits opening closing wrong (suc depth) {nesting} pf =
    headed_keeps (implied_keeps (between_keeps opening closing wrong (some_fits (pf depth)))
    (λ xs fits. between_fits nesting xs depth fits))

-- items between two signs, or none and no signs
pub list_fits : {A : Type 0} {p : Piece (List A)} (nesting : A → ℕ) {depth : ℕ}
    → Fits p (between nesting) depth → Fits (mapped or_none (optional p)) (between nesting) depth
list_fits nesting {depth} pf = mapped_keeps {f = or_none} (optional_fits pf) (λ xs fits. left_out_fits nesting
    xs depth fits)
