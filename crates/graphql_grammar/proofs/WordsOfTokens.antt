-- The words of a text are the words at its tokens where it has tokens, and no more than are allowed. Else not
-- all of them are tokens.
use Rattle.std.proofs.Common.{◌≡◌, ℕ, zero, suc, ◌+◌, ◌-◌, ◌<◌, ◌≤◌, true, List, [], ◌∷◌, length, map, take}
use Rattle.std.proofs.Common.{drop, None, Some, Ok, Err, ◌⊎◌, inl, inr, refl, sym, ap, subst, ◌∙◌, arith}
use Rattle.std.specs.Prelude.{slice_range}
use Rattle.std.proofs.lemmas.List.{drop-drop, length-drop}
use Rattle.graphql_tokens.specs.First.{First, FirstReading, first_of}
use Rattle.graphql_tokens.specs.Tokens.{Tokens, put_first, tokens_from, tokens_of}
use Rattle.graphql_tokens.specs.declared.token.Token.{Token}
use Rattle.graphql_tokens.specs.declared.token.TokenError.{TokenError}
use Rattle.graphql_tokens.specs.declared.token.TokenErrorKind.{TokenErrorKind}
use Rattle.graphql_tokens.specs.declared.token.TokenErrorKind.TheVariants as wrongs
use Rattle.graphql_tokens.specs.declared.token.TokenKind.{TokenKind}
use Rattle.graphql_tokens.specs.declared.token.TokenKind.TheVariants as t
use Rattle.graphql_tokens.proofs.FirstLemmas.{by_first, parts, token_there, tokens_by}
use Rattle.graphql_grammar.specs.Clean.{AllClean}
use Rattle.graphql_grammar.specs.Kinds.{is_token}
use Rattle.graphql_grammar.specs.Words.{WordView}
use Rattle.graphql_grammar.specs.WordsAtTokens.{AreAtTokens, word_at}
use Rattle.graphql_grammar.specs.WordsOfText.{name_kind, too_many, word_kind, word_of, words_at, words_of}
use Rattle.graphql_grammar.specs.WordsOfText.{wrong}
use Rattle.graphql_grammar.proofs.KeywordLemmas.{name_passes}
use Rattle.graphql_grammar.proofs.WordLemmas.{next_left, none_left, too_many_left, wrong_left}

-- ---- words at tokens are tokens

name_clean : (text : List ℕ) → is_token (name_kind text) ≡ true
name_clean text = name_passes is_token refl refl text

kind_clean : (kind : TokenKind) (text : List ℕ) → is_token (word_kind kind text) ≡ true
kind_clean t.Name text = name_clean text
kind_clean kind text = refl

all_clean : (text : List ℕ) (list : List Token) → AllClean (map (word_at text) list)
all_clean text [] = tt
all_clean text (token ∷ list) =
    (kind_clean token.kind (slice_range text token.start token.end), all_clean text list)

-- ---- what stands where a text stops being tokens is none

wrong_kind : (total : ℕ) (text : List ℕ) (kind : TokenErrorKind) (at : ℕ)
    → is_token (wrong total text (record { kind = kind; at = at })).kind ≡ true → ⊥
wrong_kind total text wrongs.UnexpectedCharacter at is = absurd cc
wrong_kind total text kind at is = absurd cc

wrong_unclean : (total : ℕ) (text : List ℕ) (e : TokenError) → is_token (wrong total text e).kind ≡ true → ⊥
wrong_unclean total text e is = wrong_kind total text e.kind e.at is

-- ---- the word of the token that comes first

-- the word of a token that comes first behind a place is the word at the token there
word_there : (text : List ℕ) (at : ℕ) (f : First) → at ≤ length text → first_of (drop at text) ≡ Ok (Some f)
    → word_of (length text) f ≡ word_at text (token_there at f)
word_there text at f within is =
    let part = parts (drop at text) f is in
    let long = length-drop at text in
    let start : length text - length f.rest - length f.text ≡ at + f.passed = omega (arith, part.whole) in
    let end : length text - length f.rest ≡ at + f.passed + length f.text = omega (arith, part.whole) in
    let size : at + f.passed + length f.text - (at + f.passed) ≡ length f.text = omega arith in
    let bytes : f.text ≡ slice_range text (at + f.passed) (at + f.passed + length f.text) =
    part.bytes ∙ ap (take (length f.text)) (drop-drop f.passed at text)
    ∙ ap (λ (n : ℕ). take n (drop (at + f.passed) text)) (sym size) in
    cc

-- ---- words and tokens from a place of a text on

-- not all of these words are tokens, and there are no tokens, or more than are allowed
pub record AreNot (allowed : ℕ) (tokens : Tokens) (words : List WordView) : Type 0 where
  pub unclean : AllClean words → ⊥
  pub others : (list : List Token) → tokens ≡ Ok list → length list ≤ allowed → ⊥

abbrev Linked : ℕ → List ℕ → Tokens → List WordView → Type 0
Linked allowed text tokens words = AreAtTokens allowed text tokens words ⊎ AreNot allowed tokens words

-- a token that is put in front of others is one more
put_there : (token : Token) (more : Tokens) (list : List Token) → put_first token more ≡ Ok list
    → (rest : List Token) × (more ≡ Ok rest) × (length list ≡ suc (length rest))
put_there token (Ok rest) list is = let same : token ∷ rest ≡ list =
    cc is in (rest, refl, sym (ap length same))
put_there token (Err e) list is = absurd cc

link_next : (allowed : ℕ) (text : List ℕ) (token : Token) (more : Tokens) (word : WordView)
    (behind : List WordView) → word ≡ word_at text token → Linked allowed text more behind
    → Linked (suc allowed) text (put_first token more) (word ∷ behind)
link_next allowed text token more word behind at linked = elim linked [
  | inl a ↦
      let few = a.few in
      let same = a.same in
      inl (record { list = token ∷ a.list; read = ap (put_first token) a.read; few = omega arith; same = cc })
  | inr b ↦ inr (record {
    unclean = λ h. b.unclean h.1;
    others = λ list is few. let put = put_there token more list is in let long =
        put.2 in b.others put.0 put.1 (omega arith);
  })
]

link_none : (text : List ℕ) (token : Token) (more : Tokens) (word : WordView)
    → (is_token word.kind ≡ true → ⊥) → Linked 0 text (put_first token more) (word ∷ [])
link_none text token more word unclean = inr (record {
  unclean = λ h. unclean h.0;
  others = λ list is few. let put = put_there token more list is in omega (arith, put.2);
})

linked_from : (fuel allowed : ℕ) (text : List ℕ) (at : ℕ) → length text - at < fuel → at ≤ length text
    → Linked allowed text (tokens_from 0 at (drop at text)) (words_at allowed (length text) (drop at text))
linked_from zero allowed text at enough within = absurd (omega arith)
linked_from (suc fuel) allowed text at enough within =
    rw ((by_first at (drop at text))) (by allowed (first_of (drop at text)) refl
    (λ n place less inside. linked_from fuel n text place less inside))
  where
    by : (allowed : ℕ) (r : FirstReading) → first_of (drop at text) ≡ r
        → ((n place : ℕ) → length text - place < fuel → place ≤ length text
        → Linked n text (tokens_from 0 place (drop place text)) (words_at n (length text) (drop place text)))
        → Linked allowed text (tokens_by at r) (words_at allowed (length text) (drop at text))
    by allowed (Ok None) is further = inl (record {
      list = [];
      read = refl;
      few = omega arith;
      same = none_left allowed (length text) (drop at text) (sym is);
    })
    by allowed (Err e) is further = inr (record {
      unclean = λ h. wrong_unclean (length text) (drop at text) e
          (subst AllClean (wrong_left allowed (length text) (drop at text) e (sym is)) h).0;
      others = λ list read few. absurd cc;
    })
    by zero (Ok (Some f)) is further =
        let rest : Tokens = tokens_from 0 (at + f.passed + length f.text) f.rest in
        subst (Linked 0 text (put_first (token_there at f) rest))
        (sym (too_many_left 0 (length text) (drop at text) f refl (sym is)))
        (link_none text (token_there at f) rest (too_many (length text) f) (λ h. absurd cc))
    by (suc allowed) (Ok (Some f)) is further =
        let part = parts (drop at text) f is in
        let long = length-drop at text in
        let end : ℕ = at + f.passed + length f.text in
        let ends : end ≤ length text = omega (arith, part.whole) in
        let behind : f.rest ≡ drop end text = part.behind ∙ drop-drop (f.passed + length f.text) at text
        ∙ ap (λ (n : ℕ). drop n text) (omega arith) in
        let words : words_at (suc allowed) (length text) (drop at text) ≡ word_of (length text) f
        ∷ words_at allowed (length text) f.rest = next_left (suc allowed) (length text) (drop at text) f
        (λ none. absurd cc) (sym is) ∙ ap (λ (n : ℕ). word_of (length text) f ∷ words_at n (length text)
        f.rest) (omega arith) in
        let more : Linked allowed text (tokens_from 0 end f.rest) (words_at allowed (length text) f.rest) =
        rw behind (further allowed end (omega (arith, part.some)) ends) in
        subst (Linked (suc allowed) text (put_first (token_there at f) (tokens_from 0 end f.rest)))
        (sym words) (link_next allowed text (token_there at f) (tokens_from 0 end f.rest)
        (word_of (length text) f) (words_at allowed (length text) f.rest) (word_there text at f within is)
        more)

-- ---- of a whole text

linked : (allowed : ℕ) (text : List ℕ) → Linked allowed text (tokens_of text) (words_of allowed text)
linked allowed text = linked_from (length text + 1) allowed text 0 (omega arith) (omega arith)

-- where a text has tokens, no more than are allowed, its words are the words at them, and are tokens
pub tokens_are_words : (allowed : ℕ) (text : List ℕ) (list : List Token) → tokens_of text ≡ Ok list
    → length list ≤ allowed
    → (words_of allowed text ≡ map (word_at text) list) × AllClean (words_of allowed text)
tokens_are_words allowed text list is few = elim (linked allowed text) [
  | inl a ↦
      let one : a.list ≡ list = let read = a.read in cc in
      let words : words_of allowed text ≡ map (word_at text) list = a.same ∙ ap (map (word_at text)) one in
      (words, subst AllClean (sym words) (all_clean text list))
  | inr b ↦ absurd (b.others list is few)
]

-- where all words of a text are tokens, the text has tokens, no more than are allowed, and its words are the
-- words at them
pub words_are_at_tokens : (allowed : ℕ) (text : List ℕ) → AllClean (words_of allowed text)
    → AreAtTokens allowed text (tokens_of text) (words_of allowed text)
words_are_at_tokens allowed text clean = elim (linked allowed text) [
  | inl a ↦ a
  | inr b ↦ absurd (b.unclean clean)
]
