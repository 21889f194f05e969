-- The words of a text have their texts, and stand in it one behind the other.
use Rattle.std.proofs.Common.{◌≡◌, ℕ, zero, suc, ◌≤◌, ◌+◌, ◌-◌, true, false, List, length, drop, Ok, Err}
use Rattle.std.proofs.Common.{refl, arith}
use Rattle.std.specs.Prelude.{None, Some}
use Rattle.std.specs.List.{AllByRecursion}
use Rattle.graphql_tokens.specs.First.{First, FirstReading, first_of}
use Rattle.graphql_tokens.specs.declared.token.TokenErrorKind.{TokenErrorKind}
use Rattle.graphql_tokens.specs.declared.token.TokenErrorKind.TheVariants as e
use Rattle.graphql_tokens.specs.declared.token.TokenKind.{TokenKind}
use Rattle.graphql_tokens.specs.declared.token.TokenKind.TheVariants as t
use Rattle.graphql_tokens.proofs.FirstLemmas.{parts}
use Rattle.graphql_grammar.specs.declared.kind.Kind.TheVariants as k
use Rattle.graphql_grammar.specs.Kinds.{is_name, only}
use Rattle.graphql_grammar.proofs.KeywordLemmas.{name_passes}
use Rattle.graphql_grammar.proofs.PieceLaws.{apart}
use Rattle.graphql_grammar.specs.TextsOfWords.{HasItsText, IsTextOf, StandInOrder}
use Rattle.graphql_grammar.specs.Words.{WordView}
use Rattle.graphql_grammar.specs.WordsOfText.{error_kind, name_kind, too_many, word_kind, word_of, words_at}
use Rattle.graphql_grammar.specs.WordsOfText.{words_by, words_of, words_within, wrong}

-- ---- the text of the token that comes first

text_of_first : (text : List ℕ) (f : First) → first_of text ≡ Ok (Some f) → IsTextOf f.kind f.text
text_of_first text f is =
    let part = parts text f is in
    record { bytes = drop f.passed text; size = length f.text; token = part.read; taken = part.bytes }

-- ---- kinds of names

-- a name has a kind of names
named : (text : List ℕ) → is_name (name_kind text) ≡ true
named text = name_passes is_name refl refl text

-- ---- each word has its text

-- words that are no names and no numbers
other : (w : WordView) → is_name w.kind ≡ false → only k.Int w.kind ≡ false → only k.Float w.kind ≡ false
    → HasItsText w
other w name int float = record { name = λ h. absurd cc; int = λ h. absurd cc; float = λ h. absurd cc }

a_name : (text : List ℕ) (start end : ℕ) → IsTextOf t.Name text
    → HasItsText (record { kind = name_kind text; text = text; start = start; end = end })
a_name text start end is =
    let int : only k.Int (name_kind text) ≡ false = apart (only k.Int) is_name refl (name_kind text)
    (named text) in
    let float : only k.Float (name_kind text) ≡ false = apart (only k.Float) is_name refl (name_kind text)
    (named text) in
    record { name = λ h. (is, refl); int = λ h. absurd cc; float = λ h. absurd cc }

has : (kind : TokenKind) (text : List ℕ) (start end : ℕ) → IsTextOf kind text
    → HasItsText (record { kind = word_kind kind text; text = text; start = start; end = end })
has t.Name text start end is = a_name text start end is
has t.Int text start end is = record { name = λ h. absurd cc; int = λ h. is; float = λ h. absurd cc }
has t.Float text start end is = record { name = λ h. absurd cc; int = λ h. absurd cc; float = λ h. is }
has kind text start end is =
    other (record { kind = word_kind kind text; text = text; start = start; end = end }) refl refl refl

-- where a text stops being tokens is no name and no number
no_text : (kind : TokenErrorKind)
    → (is_name (error_kind kind) ≡ false) × (only k.Int (error_kind kind) ≡ false)
    × (only k.Float (error_kind kind) ≡ false)
no_text e.UnexpectedCharacter = (refl, refl, refl)
no_text kind = (refl, refl, refl)

each_by : (allowed total : ℕ) (text : List ℕ) (r : FirstReading) (behind : ℕ → List ℕ → List WordView)
    → first_of text ≡ r → ((left : ℕ) (rest : List ℕ) → AllByRecursion HasItsText (behind left rest))
    → AllByRecursion HasItsText (words_by allowed total text r behind)
each_by allowed total text (Ok None) behind is more = tt
each_by allowed total text (Err error) behind is more = let no =
    no_text error.kind in (other (wrong total text error) no.0 no.1 no.2, tt)
each_by zero total text (Ok (Some f)) behind is more = (other (too_many total f) refl refl refl, tt)
each_by (suc allowed) total text (Ok (Some f)) behind is more =
    let w : WordView = word_of total f in
    (has f.kind f.text w.start w.end (text_of_first text f is), more allowed f.rest)

each_within : (size allowed total : ℕ) (text : List ℕ)
    → AllByRecursion HasItsText (words_within size allowed total text)
each_within zero allowed total text = tt
each_within (suc size) allowed total text = each_by allowed total text (first_of text)
    (λ left rest. words_within size left total rest) refl (λ left rest. each_within size left total rest)

-- each word of a text has its text
pub each_has_its_text : (allowed : ℕ) (text : List ℕ) → AllByRecursion HasItsText (words_of allowed text)
unfolding words_at
each_has_its_text allowed text = each_within (suc (length text)) allowed (length text) text

-- ---- words stand in order

order_by : (from allowed total : ℕ) (text : List ℕ) (r : FirstReading) (behind : ℕ → List ℕ → List WordView)
    → first_of text ≡ r → from + length text ≤ total
    → ((next left : ℕ) (rest : List ℕ) → next + length rest ≤ total → StandInOrder next total
    (behind left rest)) → StandInOrder from total (words_by allowed total text r behind)
order_by from allowed total text (Ok None) behind is fits more = tt
order_by from allowed total text (Err e) behind is fits more = (omega arith, omega arith, omega arith, tt)
order_by from zero total text (Ok (Some f)) behind is fits more =
    let whole = (parts text f is).whole in
    (omega arith, omega arith, omega arith, tt)
order_by from (suc allowed) total text (Ok (Some f)) behind is fits more =
    let whole = (parts text f is).whole in
    let next : (total - length f.rest) + length f.rest ≤ total = omega arith in
    (omega arith, omega arith, omega arith, more (total - length f.rest) allowed f.rest next)

order_within : (size from allowed total : ℕ) (text : List ℕ) → from + length text ≤ total
    → StandInOrder from total (words_within size allowed total text)
order_within zero from allowed total text fits = tt
order_within (suc size) from allowed total text fits = order_by from allowed total text (first_of text)
    (λ left rest. words_within size left total rest) refl fits (λ next left rest within. order_within size
    next left total rest within)

-- the words of a text stand in it, one behind the other
pub words_in_order : (allowed : ℕ) (text : List ℕ) → StandInOrder 0 (length text) (words_of allowed text)
unfolding words_at
words_in_order allowed text = order_within (suc (length text)) 0 allowed (length text) text (omega arith)
