-- Texts behind blanks that are read by what they begin with.
use Rattle.std.proofs.Common.{◌≡◌, ℕ, Bool, true, not, List, [], ◌∷◌, ◌++◌, Some, Ok, refl, sym, ap, subst}
use Rattle.std.proofs.Common.{◌∙◌, append_assoc, false, drop, Err, arith, ◌≢◌, ◌||◌, cond}
use Rattle.std.proofs.lemmas.Bool.{and_parts}
use Rattle.std.specs.List.{list_all}
use Rattle.std.proofs.lemmas.List.{append_cancel_right}
use Rattle.graphql_tokens.specs.Bytes.{begins, is_blank}
use Rattle.graphql_tokens.specs.First.{First, first_of, first_behind, read_behind}
use Rattle.graphql_tokens.specs.declared.token.TokenKind.{TokenKind}
use Rattle.graphql_grammar.specs.declared.kind.Kind.{Kind}
use Rattle.graphql_grammar.specs.Kinds.{Kinds, only, each_kind, names_of}
use Rattle.graphql_grammar.specs.Pieces.{Piece, Wrong, branch, mapped, sign, choose}
use Rattle.graphql_grammar.specs.Spelling.{spells_by}
use Rattle.graphql_grammar.specs.Words.{WordView}
use Rattle.graphql_grammar.specs.WordsOfText.{word_kind, word_of, name_kind, keywords, kind_among}
use Rattle.graphql_grammar.proofs.KindLemmas.{only_kind, of_each}
use Rattle.graphql_round_trip.specs.Printed.{Heads, IsToken, Leads, Prints, anything, ends_token}
use Rattle.graphql_round_trip.proofs.LeadLaws.{behind_blanks, one_blank}
use Rattle.graphql_round_trip.proofs.PieceTexts.{same_first, same_words, heads_on, token_heads, before_blank}
use Rattle.graphql_round_trip.proofs.PieceTexts.{branch_at, mapped_text, Opens, keyword_prints}
use Rattle.graphql_tokens.specs.Ignored.{ignored}
use Rattle.graphql_tokens.specs.Lexemes.{Reading}
use Rattle.std.specs.Prelude.{codes, nat_eq}
use Rattle.graphql_nodes.specs.OperationTexts.{operation_text}
use Rattle.graphql_nodes.specs.declared.operation_type.OperationType.{OperationType}
use Rattle.graphql_productions.specs.Operations.{no_root, operation_type, operation_type_pick}
use Rattle.graphql_round_trip.proofs.TokenTexts.{names, word_is_token}
use lib.Pointwise.{bytes_decides, pointwise}
use Rattle.graphql_nodes.specs.declared.operation_type.OperationType.TheVariants as o
use Rattle.graphql_tokens.specs.declared.token.TokenKind.TheVariants as t
use Rattle.graphql_grammar.specs.declared.kind.Kind.TheVariants as k
use Rattle.graphql_grammar.specs.declared.kind.Names.TheVariants as sort

-- bytes that are all blanks have none in front that isn't, also behind blanks
never_blank : (gap text : List ℕ) → list_all is_blank (gap ++ text) ≡ true
    → begins (λ c. not (is_blank c)) text ≡ true → ⊥
never_blank [] [] blank solid = absurd cc
never_blank [] (c ∷ cs) blank solid =
    let other : not true ≡ true =
    rw (and_parts (is_blank c) (list_all is_blank cs) blank).0 at solid in absurd cc
never_blank (c ∷ gap) text blank solid = never_blank gap text (and_parts _ _ blank).1 solid

-- the first word behind blanks is the word that comes first without them
first_behind_blanks : (total : ℕ) (gap text : List ℕ) (f g : First) → list_all is_blank gap ≡ true
    → first_of text ≡ Ok (Some f) → first_of (gap ++ text) ≡ Ok (Some g)
    → (word_of total f).kind ≡ (word_of total g).kind
first_behind_blanks total gap text f g blank is behind =
    let h = behind_blanks total gap text (word_of total f ∷ []) f.rest blank
    (f, is, refl, ([], refl, refl)) in
    ap (λ (w : WordView). w.kind) h.2 ∙ ap (λ (e : First). (word_of total e).kind)
    (same_first h.0 g (gap ++ text) h.1 behind)

-- one of several, behind blanks, where the text begins with a word of this kind
pub branch_behind : {A B : Type 0} {first more : Kinds} {see : A → B} {y : B} {text : List ℕ}
    {ends : List ℕ → Bool} (pick : Kind → Piece A) (wrong : Wrong) (kind : Kind) (gap : List ℕ)
    → list_all is_blank gap ≡ true → Heads (only kind) text ends → Prints (pick kind) see y (gap ++ text) ends
    → Prints (branch first more pick wrong) see y (gap ++ text) ends
branch_behind {A} {B} {first} {more} {see} {y} {text} {ends} pick wrong kind gap blank head t =
    same_words (λ total rest end r. let h = head.first total rest end in
    (r.value, r.same, by total rest h.0 h.1 h.2 r.value r.words r.leads r.spelled)) t
  where
    by : (total : ℕ) (rest : List ℕ) (f : First) → first_of (text ++ rest) ≡ Ok (Some f)
        → only kind (word_of total f).kind ≡ true → (x : A) (words : List WordView)
        → Leads total ((gap ++ text) ++ rest) words rest → (pick kind).spells x words
        → spells_by (λ k. (pick k).spells) x words
    by total rest f is of x [] leads spelled =
        absurd (never_blank gap text (subst (λ (all : List ℕ). list_all is_blank all
        ≡ true) (sym (append_cancel_right _ leads.0 rest leads.2)) leads.1) head.solid)
    by total rest f is of x (w ∷ ws) leads spelled =
        let behind : first_of (gap ++ (text ++ rest)) ≡ Ok (Some leads.0) =
        ap first_of (sym (append_assoc gap text rest)) ∙ leads.1 in
        let same : (word_of total f).kind ≡ w.kind = first_behind_blanks total gap (text ++ rest) f leads.0
        blank is behind ∙ sym (ap (λ (v : WordView). v.kind) leads.2) in
        subst (λ (k : Kind). (pick k).spells x (w ∷ ws)) (sym (only_kind kind (word_of total f).kind of)
        ∙ same) spelled

-- what begins with a sign
pub sign_heads : {ends : List ℕ → Bool} (kinds : Kinds) (of : TokenKind) (sign more : List ℕ)
    → begins (λ c. not (is_blank c)) sign ≡ true → IsToken of sign anything → kinds (word_kind of sign) ≡ true
    → Heads kinds (sign ++ more) ends
sign_heads {ends} kinds of sign more solid token is =
    heads_on more ends (token_heads kinds of sign anything solid token is) (λ rest _. refl)

-- ---- texts that are tokens begin with them

read_passed : (n : ℕ) (text : List ℕ) (r : Reading) (f : First) → read_behind n text r ≡ Ok (Some f)
    → f.passed ≡ n
read_passed n text (Ok l) f is = cc
read_passed n text (Err e) f is = absurd cc

first_passed : (n : ℕ) (text : List ℕ) (f : First) → first_behind n text ≡ Ok (Some f) → f.passed ≡ n
first_passed n [] f is = absurd cc
first_passed n (c ∷ cs) f is = read_passed n (c ∷ cs) _ f is

-- what is a token begins with no blank
token_unblank : (kind : TokenKind) (text : List ℕ) → IsToken kind text ends_token
    → begins (λ c. not (is_blank c)) text ≡ true
token_unblank kind [] token = let none = token [] refl in absurd cc
token_unblank kind (c ∷ cs) token = by (is_blank c) refl
  where
    by : (b : Bool) → is_blank c ≡ b → not b ≡ true
    by false is = refl
    by true is =
        let all : List ℕ = c ∷ cs ++ [] in
        let found : First = record { passed = 0; kind = kind; text = c ∷ cs; rest = [] } in
        let none : 0 ≡ ignored all = first_passed _ (drop (ignored all) all) found (token [] refl) in
        let one = one_blank c (cs ++ []) is in
        absurd (omega (arith, none, one))

-- a token begins with itself
pub begins_itself : (kinds : Kinds) (kind : TokenKind) (text : List ℕ) → IsToken kind text ends_token
    → kinds (word_kind kind text) ≡ true → Heads kinds text ends_token
begins_itself kinds kind text token of =
    token_heads kinds kind text ends_token (token_unblank kind text token) token of

-- ---- texts that begin with keywords, and of operation types: GraphQL specification of October 2021,
-- sections 2.1.9 and 2.3

-- a keyword begins with itself
pub keyword_heads : (kind : Kind) (text : List ℕ) → names text ≡ true → only kind (name_kind text) ≡ true
    → Heads (only kind) text ends_token
keyword_heads kind text is of = begins_itself (only kind) t.Name text (word_is_token text is) of

-- a keyword before a blank
pub keyword_before : (kind : Kind) (text : List ℕ) → names text ≡ true → only kind (name_kind text) ≡ true
    → Opens kind (text ++ codes " ")
keyword_before kind text is of = before_blank (codes " ") refl (keyword_prints kind text is of)
    (λ rest _. refl)

-- the keyword of an operation type
operation_keyword : (type : OperationType) (kind : Kind) → names (operation_text type) ≡ true
    → only kind (name_kind (operation_text type)) ≡ true
    → operation_type_pick kind ≡ mapped (λ _. type) (sign kind)
    → Prints operation_type (λ x. x) type (operation_text type) ends_token
operation_keyword type kind is of picked =
    branch_at operation_type_pick no_root kind (keyword_heads kind (operation_text type) is of)
    (subst (λ (p : Piece OperationType). Prints p (λ x. x) type (operation_text type) ends_token) (sym picked)
    (mapped_text _ (λ x. x) type (λ x same. refl) (keyword_prints kind (operation_text type) is of)))

-- an operation type
pub operation_type_prints : (type : OperationType)
    → Prints operation_type (λ x. x) type (operation_text type) ends_token
operation_type_prints o.Query = operation_keyword o.Query k.Query refl refl refl
operation_type_prints o.Mutation = operation_keyword o.Mutation k.Mutation refl refl refl
operation_type_prints o.Subscription = operation_keyword o.Subscription k.Subscription refl refl refl

-- ---- texts of one piece or another, and the kinds of names that are no such words

-- ---- one piece or another

module _ {A B : Type 0} {see : A → B} {y : B} {text : List ℕ} {ends : List ℕ → Bool} where
  -- the first, where the flag is set
  pub first_text : (b : Bool) (p q : Piece A) → b ≡ true → Prints p see y text ends
      → Prints (choose b p q) see y text ends
  first_text b p q set t = subst (λ (b : Bool). Prints (choose b p q) see y text ends) (sym set) t

  -- the second, where it isn't
  pub second_text : (b : Bool) (p q : Piece A) → b ≡ false → Prints q see y text ends
      → Prints (choose b p q) see y text ends
  second_text b p q unset t = subst (λ (b : Bool). Prints (choose b p q) see y text ends) (sym unset) t

-- ---- kinds

-- a kind of one set is none of another, where each kind tells so
pub is_none_of : (set other : Kinds) → each_kind (λ kind. not (set kind) || not (other kind)) ≡ true
    → (kind : Kind) → set kind ≡ true → other kind ≡ false
is_none_of set other apart kind is =
    by (set kind) (other kind) (of_each (λ kind. not (set kind) || not (other kind)) apart kind) is
  where
    by : (a b : Bool) → not a || not b ≡ true → a ≡ true → b ≡ false
    by true false apart is = refl
    by true true apart is = absurd cc
    by false b apart is = absurd cc

-- the kind of a text passes a test that `Name` passes, and each word's kind but where the text isn't that
-- word
among_passes : (test : Kinds) → test k.Name ≡ true → (table : List (List ℕ × Kind)) (text : List ℕ)
    → list_all (λ x. test x.1 || not (pointwise nat_eq text x.0)) table ≡ true
    → test (kind_among table text) ≡ true
among_passes test name [] text all = name
among_passes test name (x ∷ xs) text all =
    let both = and_parts _ _ all in
    by _ both.0 (among_passes test name xs text both.1)
  where
    by : (b : Bool) → test x.1 || not b ≡ true → test (kind_among xs text) ≡ true
        → test (cond b x.1 (kind_among xs text)) ≡ true
    by false first others = others
    by true first others = last _ first
      where
        last : (a : Bool) → a || false ≡ true → a ≡ true
        last true e = refl
        last false e = e

-- a text is no other
is_no : (text word : List ℕ) → text ≢ word → not (pointwise nat_eq text word) ≡ true
is_no text word other = by (pointwise nat_eq text word) (bytes_decides text word).0
  where
    by : (b : Bool) → (b ≡ true → text ≡ word) → not b ≡ true
    by true same = absurd (other (same refl))
    by false same = refl

-- the kind of an enum value's name is one of those
pub enum_kind : (text : List ℕ) → text ≢ codes "true" → text ≢ codes "false" → text ≢ codes "null"
    → names_of sort.EnumValue (name_kind text) ≡ true
enum_kind text t f n = among_passes (names_of sort.EnumValue) refl keywords text
    (rw (is_no text _ t) (rw (is_no text (codes "false") f) (rw (is_no text (codes "null") n) refl)))

-- the kind of a fragment's name is one of those
pub fragment_kind : (text : List ℕ) → text ≢ codes "on" → names_of sort.Fragment (name_kind text) ≡ true
fragment_kind text on = among_passes (names_of sort.Fragment) refl keywords text (rw (is_no text _ on) refl)
