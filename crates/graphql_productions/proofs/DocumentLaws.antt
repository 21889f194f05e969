-- Documents: what is read is spelled so, and a document is read where its words spell it, and nowhere else.
use Rattle.std.proofs.Common.{◌≡◌, ℕ, zero, suc, ◌<◌, ◌≤◌, Bool, true, false, not, ◌&&◌, cond, List, [], ◌∷◌}
use Rattle.std.proofs.Common.{◌++◌, length, Result, Ok, inl, inr, refl, sym, ap, subst, ◌∙◌, arith}
use Rattle.std.proofs.lemmas.List.{length-append}
use Rattle.graphql_nodes.specs.declared.source.FileId.{FileId}
use Rattle.graphql_ast.specs.declared.definition.Definition.{Definition}
use Rattle.graphql_grammar.specs.declared.fault.Item.TheVariants as i
use Rattle.graphql_grammar.specs.declared.kind.Kind.{Kind}
use Rattle.graphql_grammar.specs.declared.kind.Kind.TheVariants as k
use Rattle.graphql_grammar.specs.Kinds.{only}
use Rattle.graphql_grammar.specs.Pieces.{Piece, Reading, Refusal, State, ◌>>=◌, all_read, item, listed, many}
use Rattle.graphql_grammar.specs.Pieces.{many_at, read_all}
use Rattle.graphql_grammar.specs.Words.{WordView, begins, ended}
use Rattle.graphql_grammar.proofs.EndsLaws.{item_bounded}
use Rattle.graphql_grammar.proofs.ManyLaws.{and_others, longer, some_sound}
use Rattle.graphql_grammar.proofs.PieceLaws.{Begun, Stops, Took, apart, joined}
use Rattle.graphql_grammar.proofs.ReadingLemmas.{and_true, bind_ok, chosen, ended_append, ok_is}
use Rattle.graphql_productions.specs.Documents.{any_kind, definition, document, is_definition}
use Rattle.graphql_productions.specs.Documents.{spells_document, spells_in_turn, takes_braces}
use Rattle.graphql_productions.specs.TypeSystem.{expecting, goes_on_type}
use Rattle.graphql_productions.proofs.DefinitionLaws.{definition_tame, one_tame}
use Rattle.graphql_productions.proofs.EndsDefinitions.{definition_braced}
use Rattle.graphql_productions.proofs.EndsTypeSystem.{Braced, goes_on_plainly, limits}

abbrev one : FileId → ℕ → Piece Definition
one file depth = item any_kind (expecting i.Definition) (definition file depth)

one_braced : (file : FileId) (depth : ℕ) → Braced (one file depth) takes_braces
one_braced file depth = item_bounded any_kind (expecting i.Definition) (definition file depth)
    (λ x. limits (takes_braces x)) (definition_braced file depth) refl refl

-- what is read of a document is spelled so
pub document_sound : (file : FileId) (depth : ℕ) (s : State) (xs : List Definition) (after : State)
    → (document file depth).read s ≡ Ok (xs, after) → Took (document file depth).spells s xs after
document_sound file depth s xs after e = some_sound (one file depth) (one_tame file depth).law refl s xs after
    e

-- ---- what is spelled in turn is read

-- the next definition ends this one, unless it begins with the braces that this one takes
next_ends : (takes : Bool) (kind : Kind) → is_definition kind ≡ true
    → (takes && only k.LeftBrace kind) ≡ false → (limits takes).more kind ≡ false
next_ends true kind begun e =
    apart goes_on_type (λ other. is_definition other && not (only k.LeftBrace other)) refl kind
    (and_true (is_definition kind) (not (only k.LeftBrace kind)) begun (ap not e))
next_ends false kind begun e = apart goes_on_plainly is_definition refl kind begun

words_end : (takes : Bool) (front rest : List WordView) → Begun is_definition false front
    → (takes && begins (only k.LeftBrace) (front ++ rest)) ≡ false → Stops (limits takes).more (front ++ rest)
words_end takes [] rest begun e = absurd cc
words_end takes (w ∷ ws) rest begun e = next_ends takes w.kind begun e

turn_ends : (file : FileId) (depth : ℕ) (takes : Bool) (xs : List Definition) (words : List WordView)
    → spells_in_turn file depth xs words → (takes && begins (only k.LeftBrace) words) ≡ false
    → Stops (limits takes).more words
turn_ends file depth takes [] words h e = subst (λ (l : List WordView). Stops (limits takes).more l) (sym h)
    tt
turn_ends file depth takes (x ∷ xs) words h e = subst (λ (l : List WordView). Stops (limits takes).more l)
    (sym h.whole) (words_end takes h.head h.tail ((definition_tame file depth).law.begun x h.head h.first)
    (ap (λ (l : List WordView). takes && begins (only k.LeftBrace) l) (sym h.whole) ∙ e))

begun_any : (words : List WordView) → 0 < length words → begins any_kind words ≡ true
begun_any [] h = absurd (omega (arith, h))
begun_any (w ∷ ws) h = refl

in_turn : (file : FileId) (depth : ℕ) (xs : List Definition) (words : List WordView) (last n : ℕ)
    → length words ≤ n → spells_in_turn file depth xs words
    → many_at any_kind (one file depth).read n (record { last = last; left = words })
    ≡ Ok (xs, record { last = ended last words; left = [] })
in_turn file depth [] words last zero le h = rw h refl
in_turn file depth [] words last (suc n) le h = rw h refl
in_turn file depth (x ∷ xs) words last zero le h =
    let some_head : 0 < length h.head = longer (definition file depth) (definition_tame file depth).law refl
    (definition file depth).first false h.head refl ((definition_tame file depth).law.begun x h.head
    h.first) in
    absurd (omega (arith, le, length-append h.head h.tail, ap length h.whole))
in_turn file depth (x ∷ xs) words last (suc n) le h =
    let p : Piece Definition = one file depth in
    let some_head : 0 < length h.head = longer (definition file depth) (definition_tame file depth).law refl
    (definition file depth).first false h.head refl ((definition_tame file depth).law.begun x h.head
    h.first) in
    let fits : length h.tail ≤ n = omega (arith, le, length-append h.head h.tail, ap length h.whole) in
    let begun : begins any_kind words ≡ true =
    begun_any words (omega (arith, length-append h.head h.tail, ap length h.whole)) in
    ap (λ (b : Bool). cond b (p.read (record { last = last; left = words }) >>= and_others p n)
    (Ok ([], record { last = last; left = words }))) begun
    ∙ ap (λ (l : List WordView). p.read (record { last = last; left = l }) >>= and_others p n) h.whole
    ∙ ap (λ (r : Reading Definition). r >>= and_others p n) ((one_braced file depth).ends x h.head h.tail last
    h.first (turn_ends file depth (takes_braces x) xs h.tail h.second.0 h.second.1))
    ∙ ap (λ (r : Reading (List Definition)). r >>= λ z. Ok (x ∷ z.0, z.1)) (in_turn file depth xs h.tail
    (ended last h.head) n fits h.second.0) ∙ ap (λ (m : ℕ). Ok (x ∷ xs, record { last = m; left = [] }))
    (sym (ended_append last h.head h.tail) ∙ ap (λ (l : List WordView). ended last l) (sym h.whole))

-- the parts of reading a whole document
abbrev with_rest : {A : Type 0} → Piece A → Reading A → Reading (A × List A)
with_rest p r = r >>= λ y. (many p).read y.1 >>= λ z. Ok ((y.0, z.0), z.1)

abbrev with_first : {A : Type 0} → A → Reading (List A) → Reading (A × List A)
with_first x r = r >>= λ z. Ok ((x, z.0), z.1)

abbrev as_list : {A : Type 0} → Reading (A × List A) → Reading (List A)
as_list r = r >>= λ v. Ok (listed v.0, v.1)

abbrev to_the_end : {A : Type 0} → Reading (List A) → Result (List A) Refusal
to_the_end r = r >>= λ w. all_read w.0 w.1.left

-- what spells a document is read as that
pub document_again : (file : FileId) (depth : ℕ) (xs : List Definition) (words : List WordView)
    → spells_document file depth xs words → read_all (document file depth) words ≡ Ok xs
document_again file depth [] words h = absurd h
document_again file depth (x ∷ xs) words h =
    let p : Piece Definition = one file depth in
    ap (λ (l : List WordView). read_all (document file depth) l) h.whole
    ∙ ap (λ (r : Reading Definition). to_the_end (as_list (with_rest p r))) ((one_braced file depth).ends
    x h.head h.tail 0 h.first (turn_ends file depth (takes_braces x) xs h.tail h.second.0 h.second.1))
    ∙ ap (λ (r : Reading (List Definition)). to_the_end (as_list (with_first x r)))
    (in_turn file depth xs h.tail (ended 0 h.head) (length h.tail) (omega arith) h.second.0)

-- ---- what is read is spelled in turn

unbraced : (takes : Bool) (left : List WordView) → Stops (limits takes).taken left
    → (takes && begins (only k.LeftBrace) left) ≡ false
unbraced true [] stops = refl
unbraced true (w ∷ ws) stops = stops
unbraced false left stops = refl

-- a definition that is read, and those that are spelled behind it
one_turn : (file : FileId) (depth : ℕ) (s : State) (x : Definition) (after : State) (xs : List Definition)
    → (one file depth).read s ≡ Ok (x, after) → spells_in_turn file depth xs after.left
    → spells_in_turn file depth (x ∷ xs) s.left
one_turn file depth s x after xs e h =
    let t : Took (definition file depth).spells s x after = (one_tame file depth).law.sound s x after e in
    record {
      head = t.front;
      tail = after.left;
      whole = t.left;
      first = t.spelled;
      second = (h, unbraced (takes_braces x) after.left ((one_braced file depth).greedy s x after e));
    }

no_turn : (file : FileId) (depth : ℕ) (s : State) (xs : List Definition) (after : State)
    → ◌≡◌ {A = List Definition × State} ([], s) (xs, after) → after.left ≡ []
    → spells_in_turn file depth xs s.left
no_turn file depth s xs after e none = subst (λ (v : List Definition × State). v.1.left
    ≡ [] → spells_in_turn file depth v.0 s.left) e (λ empty. empty) none

turns : (file : FileId) (depth n : ℕ) (s : State) (xs : List Definition) (after : State)
    → many_at any_kind (one file depth).read n s ≡ Ok (xs, after) → after.left ≡ []
    → spells_in_turn file depth xs s.left
turns file depth zero s xs after e none = no_turn file depth s xs after (ok_is ([], s) (xs, after) e) none
turns file depth (suc n) s xs after e none =
    let p : Piece Definition = one file depth in
    elim (chosen (begins any_kind s.left) (p.read s >>= and_others p n) (Ok ([], s)) (Ok (xs, after)) e) [
      | inl (hit, is) ↦
          let b = bind_ok (p.read s) (and_others p n) (xs, after) is in
          let y : Definition × State = b.0 in
          let d = bind_ok (many_at any_kind p.read n y.1) (λ z. Ok (y.0 ∷ z.0, z.1)) (xs, after) b.2 in
          let z : List Definition × State = d.0 in
          let made : (y.0 ∷ z.0, z.1) ≡ (xs, after) = ok_is (y.0 ∷ z.0, z.1) (xs, after) d.2 in
          let behind : spells_in_turn file depth z.0 y.1.left = turns file depth n y.1 z.0 z.1 d.1
          (ap (λ (v : List Definition × State). v.1.left) made ∙ none) in
          subst (λ (v : List Definition × State). spells_in_turn file depth v.0 s.left) made
          (one_turn file depth s y.0 y.1 z.0 b.1 behind)
      | inr (miss, is) ↦ no_turn file depth s xs after (ok_is ([], s) (xs, after) is) none
    ]

all_done : {A : Type 0} (x y : A) (left : List WordView) → all_read x left ≡ Ok y → (left ≡ []) × (x ≡ y)
all_done x y [] e = (refl, ok_is x y e)
all_done x y (w ∷ ws) e = absurd cc

-- what is read as a document spells that
pub document_found : (file : FileId) (depth : ℕ) (words : List WordView) (xs : List Definition)
    → read_all (document file depth) words ≡ Ok xs → spells_document file depth xs words
document_found file depth words xs e =
    let p : Piece Definition = one file depth in
    let s : State = record { last = 0; left = words } in
    let b = bind_ok ((document file depth).read s) (λ y. all_read y.0 y.1.left) xs e in
    let y : List Definition × State = b.0 in
    let end = all_done y.0 xs y.1.left b.2 in
    let l = bind_ok (with_rest p (p.read s)) (λ v. Ok (listed v.0, v.1)) y b.1 in
    let v : (Definition × List Definition) × State = l.0 in
    let f = bind_ok (p.read s) (λ x. (many p).read x.1 >>= λ z. Ok ((x.0, z.0), z.1)) v l.1 in
    let x : Definition × State = f.0 in
    let m = bind_ok ((many p).read x.1) (λ z. Ok ((x.0, z.0), z.1)) v f.2 in
    let z : List Definition × State = m.0 in
    let made : ((x.0, z.0), z.1) ≡ v = ok_is ((x.0, z.0), z.1) v m.2 in
    let whole : (listed v.0, v.1) ≡ y = ok_is (listed v.0, v.1) y l.2 in
    let same : (x.0 ∷ z.0, z.1) ≡ y = ap (λ (o : (Definition × List Definition) × State). (listed o.0, o.1))
    made ∙ whole in
    let behind : spells_in_turn file depth z.0 x.1.left = turns file depth (length x.1.left) x.1 z.0 z.1 m.1
    (ap (λ (o : List Definition × State). o.1.left) same ∙ end.0) in
    let read : x.0 ∷ z.0 ≡ xs = ap (λ (o : List Definition × State). o.0) same ∙ end.1 in
    subst (λ (o : List Definition). spells_document file depth o words) read (one_turn file depth s x.0 x.1
    z.0 f.1 behind)

-- words spell one document at most
pub documents_are_one : (file : FileId) (depth : ℕ) (words : List WordView) (xs ys : List Definition)
    → spells_document file depth xs words → spells_document file depth ys words → xs ≡ ys
documents_are_one file depth words xs ys h g = ok_is xs ys (sym (document_again file depth xs words h)
    ∙ document_again file depth ys words g)

-- definitions in turn are any number of definitions
many_spelled : (file : FileId) (depth : ℕ) (xs : List Definition) (words : List WordView)
    → spells_in_turn file depth xs words → (many (one file depth)).spells xs words
many_spelled file depth [] words h = h
many_spelled file depth (x ∷ xs) words h =
    rw h.whole (joined h.head h.tail h.first (many_spelled file depth xs h.tail h.second.0))

-- words that spell a document spell it as its production says
pub as_spelled : (file : FileId) (depth : ℕ) (xs : List Definition) (words : List WordView)
    → spells_document file depth xs words → (document file depth).spells xs words
as_spelled file depth [] words h = absurd h
as_spelled file depth (x ∷ xs) words h = (
  (x, xs),
  refl,
  rw h.whole (joined h.head h.tail h.first
      (many_spelled file depth xs h.tail h.second.0)),
)
