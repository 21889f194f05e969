-- What a piece spells is tokens alone.
use Rattle.std.proofs.Common.{◌≡◌, ℕ, zero, suc, Bool, true, false, List, [], ◌∷◌, ◌++◌, Option, Some, None}
use Rattle.std.proofs.Common.{sym, ap, subst, ◌∙◌}
use Rattle.graphql_grammar.specs.declared.fault.FaultKind.TheVariants.{Expected, TooDeep}
use Rattle.graphql_grammar.specs.declared.fault.Item.TheVariants as i
use Rattle.graphql_grammar.specs.declared.kind.Kind.{Kind}
use Rattle.graphql_grammar.specs.Clean.{AllClean}
use Rattle.graphql_grammar.specs.Kinds.{each_kind, is_token, Kinds}
use Rattle.graphql_grammar.specs.Spelling.{spells_by, spells_many}
use Rattle.graphql_grammar.specs.Words.{WordView}
use Rattle.graphql_grammar.specs.Pieces.{Piece, Wrong, behind_sign, branch, filtered, headed, item}
use Rattle.graphql_grammar.specs.Pieces.{listed, located, many, mapped, nested, nothing, optional, picked}
use Rattle.graphql_grammar.specs.Pieces.{separated, separated_of, seq, sign, sign_or, some, word}
use Rattle.graphql_grammar.proofs.KindLemmas.{of_each, only_kind}
use Rattle.graphql_grammar.proofs.PieceLaws.{Begun, Lawful, by_implied, implied}

-- what a piece spells is tokens alone
pub record Spotless {A : Type 0} (p : Piece A) : Type 0 where
  pub clean : (x : A) (front : List WordView) → p.spells x front → AllClean front

-- tokens, and then tokens
both_clean : (head tail : List WordView) → AllClean head → AllClean tail → AllClean (head ++ tail)
both_clean [] tail h g = g
both_clean (w ∷ ws) tail h g = (h.0, both_clean ws tail h.1 g)

no_words_clean : (front : List WordView) → front ≡ [] → AllClean front
no_words_clean front none = subst AllClean (sym none) tt

one_word_clean : (w : WordView) (front : List WordView) → front ≡ w ∷ [] → is_token w.kind ≡ true
    → AllClean front
one_word_clean w front one h = subst AllClean (sym one) (h, tt)

-- ---- one word

-- these kinds are all of tokens
abbrev pub all_tokens : Kinds → Bool
all_tokens kinds = each_kind (λ kind. implied (kinds kind) (is_token kind))

kind_clean : (kinds : Kinds) → all_tokens kinds ≡ true → (kind : Kind) → kinds kind ≡ true
    → is_token kind ≡ true
kind_clean kinds tokens kind h = by_implied (kinds kind) (is_token kind)
    (of_each (λ kind. implied (kinds kind) (is_token kind)) tokens kind) h

pub word_clean : (kinds : Kinds) (wrong : Wrong) → all_tokens kinds ≡ true → Spotless (word kinds wrong)
word_clean kinds wrong tokens =
    record { clean = λ x front h. one_word_clean x front h.0 (kind_clean kinds tokens x.kind h.1) }

pub picked_clean : {A : Type 0} (pick : WordView → Option A) (kinds : Kinds) (wrong : Wrong)
    → Lawful (picked pick kinds wrong) → all_tokens kinds ≡ true → Spotless (picked pick kinds wrong)
picked_clean pick kinds wrong pl tokens = record {
  clean = λ x front h. one_word_clean h.0 front h.1 (kind_clean kinds tokens h.0.kind
      (subst (λ (f : List WordView). Begun kinds false f) h.1 (pl.begun x front h)));
}

pub sign_or_clean : (kind : Kind) (wrong : Wrong) → is_token kind ≡ true → Spotless (sign_or kind wrong)
sign_or_clean kind wrong token = record {
  clean = λ x front h. one_word_clean h.0 front h.1 (ap is_token (only_kind kind h.0.kind h.2) ∙ token);
}

pub sign_clean : (kind : Kind) → is_token kind ≡ true → Spotless (sign kind)
sign_clean kind token = sign_or_clean kind (λ _. Expected (i.Word kind)) token

-- ---- nothing

pub nothing_clean : {A : Type 0} (wrong : Wrong) → Spotless (nothing {A = A} wrong)
nothing_clean wrong = record { clean = λ x front h. absurd h }

-- ---- one after the other, the same said otherwise, what passes a test, one or none, any number

pub seq_clean : {A B : Type 0} {p : Piece A} {q : Piece B} → Spotless p → Spotless q → Spotless (seq p q)
seq_clean pc qc = record {
  clean = λ x front h. subst AllClean (sym h.whole) (both_clean h.head h.tail (pc.clean x.0 h.head h.first)
      (qc.clean x.1 h.tail h.second));
}

pub mapped_clean : {A B : Type 0} {f : A → B} {p : Piece A} → Spotless p → Spotless (mapped f p)
mapped_clean pc = record { clean = λ x front h. pc.clean h.0 front h.2 }

pub filtered_clean : {A : Type 0} {test : A → Bool} (wrong : Wrong) {p : Piece A} → Spotless p
    → Spotless (filtered test wrong p)
filtered_clean wrong pc = record { clean = λ x front h. pc.clean x front h.0 }

module _ {A : Type 0} {p : Piece A} (pc : Spotless p) where
  one_or_none : (x : Option A) (front : List WordView) → (optional p).spells x front → AllClean front
  one_or_none None front h = no_words_clean front h
  one_or_none (Some a) front h = pc.clean a front h

  pub optional_clean : Spotless (optional p)
  optional_clean = record { clean = one_or_none }

  any_number : (xs : List A) (front : List WordView) → spells_many p.spells xs front → AllClean front
  any_number [] front h = no_words_clean front h
  any_number (x ∷ xs) front h = subst AllClean (sym h.whole)
      (both_clean h.head h.tail (pc.clean x h.head h.first) (any_number xs h.tail h.second))

  pub many_clean : Spotless (many p)
  many_clean = record { clean = any_number }

pub some_clean : {A : Type 0} {p : Piece A} → Spotless p → Spotless (some p)
some_clean pc = mapped_clean {f = listed} (seq_clean pc (many_clean pc))

-- ---- one of several, by the kind of the first word, and one of two, by a flag

module _ {A : Type 0} {pick : Kind → Piece A} (wrong : Wrong) (pc : (kind : Kind)
    → Spotless (pick kind)) where
  by_first_word : (x : A) (front : List WordView) → spells_by (λ kind. (pick kind).spells) x front
      → AllClean front
  by_first_word x [] h = absurd h
  by_first_word x (w ∷ ws) h = (pc w.kind).clean x (w ∷ ws) h

  pub branch_clean : {first more : Kinds} → Spotless (branch first more pick wrong)
  branch_clean = record { clean = by_first_word }

-- ---- with where it stands, what begins with one of these, items, and what is nested

pub located_clean : {A : Type 0} {p : Piece A} → Spotless p → Spotless (located p)
located_clean pc = record { clean = λ x front h. pc.clean x.0 front h.0 }

pub headed_clean : {A : Type 0} {kinds : Kinds} {p : Piece A} → Spotless p → Spotless (headed kinds p)
headed_clean pc = record { clean = pc.clean }

pub item_clean : {A : Type 0} {kinds : Kinds} (wrong : Wrong) {p : Piece A} → Spotless p
    → Spotless (item kinds wrong p)
item_clean wrong pc = record { clean = pc.clean }

pub nested_clean : {A : Type 0} (depth : ℕ) {p : ℕ → Piece A} → ((n : ℕ) → Spotless (p n))
    → Spotless (nested depth p)
nested_clean zero pc = nothing_clean (λ _. TooDeep)
nested_clean (suc depth) pc = pc depth

-- ---- one or more with a sign between them

pub separated_clean : {A : Type 0} (kind : Kind) → is_token kind ≡ true → {p : Piece A} → Spotless p
    → Spotless (separated kind p)
separated_clean kind token pc =
    mapped_clean {f = separated_of} (seq_clean (optional_clean (sign_clean kind token))
    (seq_clean pc (many_clean (mapped_clean {f = behind_sign} (seq_clean (sign_clean kind token) pc)))))
