-- Texts of what a grammar is made of.
use Rattle.std.proofs.Common.{◌≡◌, arith, length, ℕ, Bool, true, not, List, [], ◌∷◌, ◌++◌, map, option_map}
use Rattle.std.proofs.Common.{None, Some, Ok, refl, sym, ap, subst, ◌∙◌, append_assoc, zero, suc}
use Rattle.std.proofs.lemmas.Bool.{and_parts}
use Rattle.std.specs.List.{list_all, AllByRecursion}
use Rattle.std.proofs.lemmas.List.{length-append}
use Rattle.graphql_tokens.specs.Bytes.{begins, is_blank}
use Rattle.graphql_tokens.specs.First.{First, first_of}
use Rattle.graphql_tokens.specs.declared.token.TokenKind.{TokenKind}
use Rattle.graphql_grammar.specs.declared.kind.Kind.{Kind}
use Rattle.graphql_grammar.specs.Kinds.{Kinds, only, is_name}
use Rattle.graphql_grammar.specs.Pieces.{Piece, Wrong, branch, filtered, headed, item, listed, located, many}
use Rattle.graphql_grammar.specs.Pieces.{mapped, optional, seq, sign_or, some, word, sign}
use Rattle.graphql_grammar.specs.Spelling.{spells_by}
use Rattle.graphql_grammar.specs.Words.{WordView, ended, starting}
use Rattle.graphql_grammar.specs.WordsOfText.{word_kind, word_of, name_kind}
use Rattle.graphql_grammar.proofs.KindLemmas.{only_kind}
use Rattle.graphql_printing.specs.Layout.{each_behind, separated, enclosed, line_end}
use Rattle.graphql_round_trip.specs.Printed.{ReadAs, Heads, IsToken, Leads, Prints, ends_token, anything}
use Rattle.graphql_round_trip.proofs.LeadLaws.{behind_blanks, leads_on, passed_blanks}
use Rattle.graphql_nodes.specs.NodeView.{NodeView}
use Rattle.graphql_ast.specs.declared.directive.Directive.{Directive}
use Rattle.graphql_printing.specs.Texts.{directives_text}
use Rattle.std.specs.Prelude.{replicate}
use Rattle.graphql_nodes.specs.Comparing.{bare_name, bare_node}
use Rattle.graphql_nodes.specs.NameSyntax.{IsName}
use Rattle.graphql_nodes.specs.NameView.{NameView}
use Rattle.graphql_nodes.specs.declared.source.FileId.{FileId}
use Rattle.graphql_grammar.specs.declared.fault.FaultKind.TheVariants.{Expected}
use Rattle.graphql_productions.specs.Nodes.{between, inner, name, node}
use Rattle.graphql_round_trip.proofs.TokenTexts.{kind_of_name, name_is_token, names, word_is_token}
use Rattle.graphql_round_trip.proofs.TokenTexts.{name_unblank}
use Rattle.graphql_tokens.specs.declared.token.TokenKind.TheVariants as t
use Rattle.graphql_grammar.specs.declared.fault.Item.TheVariants as i

-- ---- one word

-- a word as a tree keeps it: what it is, and its bytes
abbrev pub bare_word : WordView → Kind × List ℕ
bare_word w = (w.kind, w.text)

-- nothing is left between a token and what stands behind it
token_leads : (total : ℕ) (kind : TokenKind) (text rest : List ℕ)
    → first_of (text ++ rest) ≡ Ok (Some (record { passed = 0; kind = kind; text = text; rest = rest }))
    → Leads total (text ++ rest) (word_of total (record { passed = 0; kind = kind; text = text; rest = rest })
    ∷ []) rest
token_leads total kind text rest is =
    (record { passed = 0; kind = kind; text = text; rest = rest }, is, refl, ([], refl, refl))

pub word_text : (kinds : Kinds) (wrong : Wrong) (kind : TokenKind) {text : List ℕ} {ends : List ℕ → Bool}
    → IsToken kind text ends → kinds (word_kind kind text) ≡ true
    → Prints (word kinds wrong) bare_word (word_kind kind text, text) text ends
word_text kinds wrong kind {text} {ends} token of = record {
  read = λ total rest end. record {
    value = word_of total (record { passed = 0; kind = kind; text = text; rest = rest });
    words = word_of total (record { passed = 0; kind = kind; text = text; rest = rest }) ∷ [];
    same = refl;
    leads = token_leads total kind text rest (token rest end);
    spelled = (refl, of);
  };
}

-- of a sign, only that it is there is seen
abbrev pub there : Unit {0} → Unit {0}
there x = tt

pub sign_or_text : (kind : Kind) (wrong : Wrong) (of : TokenKind) {text : List ℕ} {ends : List ℕ → Bool}
    → IsToken of text ends → only kind (word_kind of text) ≡ true
    → Prints (sign_or kind wrong) there tt text ends
sign_or_text kind wrong of {text} {ends} token is = record {
  read = λ total rest end.
      let w : WordView = word_of total (record { passed = 0; kind = of; text = text; rest = rest }) in
      record {
        value = tt;
        words = w ∷ [];
        same = refl;
        leads = token_leads total of text rest (token rest end);
        spelled = (w, refl, is);
      };
}

-- ---- blanks

pub behind_blank : {A B : Type 0} {p : Piece A} {see : A → B} {y : B} {text : List ℕ} {ends : List ℕ → Bool}
    (gap : List ℕ) → list_all is_blank gap ≡ true → Prints p see y text ends
    → Prints p see y (gap ++ text) ends
behind_blank {text} gap blank t = record {
  read = λ total rest end.
      let r = t.read total rest end in
      record {
        value = r.value;
        words = r.words;
        same = r.same;
        leads = rw (append_assoc gap text rest) (behind_blanks total gap _ r.words rest blank r.leads);
        spelled = r.spelled;
      };
}

-- blanks behind a text, which may stand before anything
pub before_blank : {A B : Type 0} {p : Piece A} {see : A → B} {y : B} {text : List ℕ}
    {ends follows : List ℕ → Bool} (gap : List ℕ) → list_all is_blank gap ≡ true → Prints p see y text ends
    → ((rest : List ℕ) → follows rest ≡ true → ends (gap ++ rest) ≡ true)
    → Prints p see y (text ++ gap) follows
before_blank {text} gap blank t stops = record {
  read = λ total rest end.
      let r = t.read total (gap ++ rest) (stops rest end) in
      record {
        value = r.value;
        words = r.words;
        same = r.same;
        leads = rw (append_assoc text gap rest) (passed_blanks total _ r.words gap rest blank r.leads);
        spelled = r.spelled;
      };
}

-- ---- one after the other, the same said otherwise

abbrev pub both_seen : {A B C D : Type 0} → (A → B) → (C → D) → A × C → B × D
both_seen see look x = (see x.0, look x.1)

pub seq_text : {A B C D : Type 0} {p : Piece A} {q : Piece C} {see : A → B} {look : C → D} {y : B} {z : D}
    {a b : List ℕ} {ends follows : List ℕ → Bool} → Prints p see y a ends → Prints q look z b follows
    → ((rest : List ℕ) → follows rest ≡ true → ends (b ++ rest) ≡ true)
    → Prints (seq p q) (both_seen see look) (y, z) (a ++ b) follows
seq_text {a} {b} s t ends = record {
  read = λ total rest end.
      let l = s.read total (b ++ rest) (ends rest end) in
      let r = t.read total rest end in
      record {
        value = (l.value, r.value);
        words = l.words ++ r.words;
        same = cc (l.same, r.same);
        leads = rw (append_assoc a b rest) (leads_on total _ l.words _ r.words rest l.leads r.leads);
        spelled = record {
          head = l.words;
          tail = r.words;
          whole = refl;
          first = l.spelled;
          second = r.spelled;
        };
      };
}

-- what is read by the words by which something else is read
pub same_words : {A B C D : Type 0} {p : Piece A} {q : Piece C} {see : A → B} {look : C → D} {y : B} {z : D}
    {text : List ℕ} {ends : List ℕ → Bool}
    → ((total : ℕ) (rest : List ℕ) → ends rest ≡ true → (r : ReadAs p see y total text rest)
    → (x : C) × (look x ≡ z) × q.spells x r.words) → Prints p see y text ends → Prints q look z text ends
same_words so t = record {
  read = λ total rest end.
      let r = t.read total rest end in
      let s = so total rest end r in
      record { value = s.0; words = r.words; same = s.1; leads = r.leads; spelled = s.2 };
}

pub mapped_text : {A B C D : Type 0} {p : Piece A} {see : A → B} {y : B} {text : List ℕ}
    {ends : List ℕ → Bool} (f : A → C) (look : C → D) (z : D) → ((x : A) → see x ≡ y → look (f x) ≡ z)
    → Prints p see y text ends → Prints (mapped f p) look z text ends
mapped_text f look z same t =
    same_words (λ _ _ _ r. (f r.value, same r.value r.same, (r.value, refl, r.spelled))) t

-- ---- only what passes a test

pub filtered_text : {A B : Type 0} {p : Piece A} {see : A → B} {y : B} {text : List ℕ} {ends : List ℕ → Bool}
    (test : A → Bool) (wrong : Wrong) → ((x : A) → see x ≡ y → test x ≡ true) → Prints p see y text ends
    → Prints (filtered test wrong p) see y text ends
filtered_text test wrong passes t =
    same_words (λ _ _ _ r. (r.value, r.same, (r.spelled, passes r.value r.same))) t

-- ---- one or none

pub none_text : {A B : Type 0} (p : Piece A) (see : A → B) (ends : List ℕ → Bool)
    → Prints (optional p) (option_map see) None [] ends
none_text p see ends = record {
  read = λ total rest end. record {
    value = None;
    words = [];
    same = refl;
    leads = ([], refl, refl);
    spelled = refl;
  };
}

pub one_text : {A B : Type 0} {p : Piece A} {see : A → B} {y : B} {text : List ℕ} {ends : List ℕ → Bool}
    → Prints p see y text ends → Prints (optional p) (option_map see) (Some y) text ends
one_text t = same_words (λ _ _ _ r. (Some r.value, ap Some r.same, r.spelled)) t

-- ---- with where it stands, what begins with one of these, and items

pub located_text : {A B : Type 0} {p : Piece A} {see : A → B} {y : B} {text : List ℕ} {ends : List ℕ → Bool}
    → Prints p see y text ends → Prints (located p) (λ x. see x.0) y text ends
located_text t = same_words
    (λ _ _ _ r. ((r.value, (starting r.words, ended 0 r.words)), r.same, (r.spelled, refl))) t

pub headed_text : {A B : Type 0} {p : Piece A} {see : A → B} {y : B} {text : List ℕ} {ends : List ℕ → Bool}
    (kinds : Kinds) → Prints p see y text ends → Prints (headed kinds p) see y text ends
headed_text kinds t = same_words (λ _ _ _ r. (r.value, r.same, r.spelled)) t

pub item_text : {A B : Type 0} {p : Piece A} {see : A → B} {y : B} {text : List ℕ} {ends : List ℕ → Bool}
    (kinds : Kinds) (wrong : Wrong) → Prints p see y text ends → Prints (item kinds wrong p) see y text ends
item_text kinds wrong t = same_words (λ _ _ _ r. (r.value, r.same, r.spelled)) t

-- ---- any number

-- items behind bytes that end what stands before them end it, where what stands behind them does
items_end : {A : Type 0} (text : A → List ℕ) (ends : List ℕ → Bool) (before : List ℕ)
    → ((rest : List ℕ) → ends (before ++ rest) ≡ true) → (rest : List ℕ) → ends rest ≡ true → (xs : List A)
    → ends (each_behind before text xs ++ rest) ≡ true
items_end text ends before stops rest end [] = end
items_end text ends before stops rest end (x ∷ xs) =
    simp append_assoc (stops (text x ++ (each_behind before text xs ++ rest)))

-- items, each behind bytes that end what stands before
pub many_text : {A B : Type 0} (p : Piece A) (see : A → B) (text : A → List ℕ) (ends : List ℕ
    → Bool) (before : List ℕ) → list_all is_blank before ≡ true
    → ((rest : List ℕ) → ends (before ++ rest) ≡ true) → (xs : List A)
    → AllByRecursion (λ x. Prints p see (see x) (text x) ends) xs
    → Prints (many p) (map see) (map see xs) (each_behind before text xs) ends
many_text p see text ends before blank stops [] all = record {
  read = λ total rest end. record {
    value = [];
    words = [];
    same = refl;
    leads = ([], refl, refl);
    spelled = refl;
  };
}
many_text {B = B} p see text ends before blank stops (x ∷ xs) all = same_words
    (λ _ _ _ r. (listed r.value, ap (λ (q : B × List B). q.0 ∷ q.1) r.same, r.spelled))
    (seq_text (behind_blank before blank all.0) (many_text p see text ends before blank stops xs all.1)
    (λ rest end. items_end text ends before stops rest end xs))

-- one item or more, with bytes between each two that end what stands before
pub some_text : {A B : Type 0} (p : Piece A) (see : A → B) (text : A → List ℕ) (ends : List ℕ
    → Bool) (between : List ℕ) → list_all is_blank between ≡ true
    → ((rest : List ℕ) → ends (between ++ rest) ≡ true) → (x : A) (xs : List A)
    → AllByRecursion (λ x. Prints p see (see x) (text x) ends) (x ∷ xs)
    → Prints (some p) (map see) (map see (x ∷ xs)) (separated between text (x ∷ xs)) ends
some_text {A} {B} p see text ends between blank stops x xs all =
    mapped_text listed (map see) (map see (x ∷ xs)) (λ y same. ap (λ (p : B × List B). p.0 ∷ p.1) same)
    (seq_text all.0 (many_text p see text ends between blank stops xs all.1) (λ rest end. items_end text ends
    between stops rest end xs))

-- ---- one of several, by the kind of the first word

-- bytes before a rest are all blanks where they and the rest are blanks and the rest
only_blanks : (text gap rest : List ℕ) → list_all is_blank gap ≡ true → text ++ rest ≡ gap ++ rest
    → begins (λ c. not (is_blank c)) text ≡ true → ⊥
only_blanks [] gap rest blank same solid = absurd cc
only_blanks (c ∷ cs) [] rest blank same solid = absurd (omega (arith, ap length same, length-append cs rest))
only_blanks (c ∷ cs) (b ∷ bs) rest blank same solid =
    let head : c ≡ b = cc in
    let white = and_parts (is_blank b) (list_all is_blank bs) blank in
    let no : not (is_blank b) ≡ true = subst (λ (d : ℕ). not (is_blank d) ≡ true) head solid in
    absurd (let other : not true ≡ true = rw white.0 at no in cc)

-- a text has one first token
pub same_first : (f g : First) (text : List ℕ) → first_of text ≡ Ok (Some f) → first_of text ≡ Ok (Some g)
    → f ≡ g
same_first f g text a b = cc

pub branch_text : {A B : Type 0} {first more : Kinds} {see : A → B} {y : B} {text : List ℕ}
    {ends : List ℕ → Bool} (pick : Kind → Piece A) (wrong : Wrong) (kinds : Kinds) → Heads kinds text ends
    → ((kind : Kind) → kinds kind ≡ true → Prints (pick kind) see y text ends)
    → Prints (branch first more pick wrong) see y text ends
branch_text {A} {B} {first} {more} {see} {y} {text} {ends} pick wrong kinds head t = record {
  read = λ total rest end.
      let h = head.first total rest end in
      let r = (t (word_of total h.0).kind h.2).read total rest end in
      record {
        value = r.value;
        words = r.words;
        same = r.same;
        leads = r.leads;
        spelled = by total rest h.0 h.1 r.value r.words r.leads r.spelled;
      };
}
  where
    by : (total : ℕ) (rest : List ℕ) (f : First) → first_of (text ++ rest) ≡ Ok (Some f)
        → (x : A) (words : List WordView) → Leads total (text ++ rest) words rest
        → (pick (word_of total f).kind).spells x words → spells_by (λ kind. (pick kind).spells) x words
    by total rest f is x [] leads spelled = absurd (only_blanks text leads.0 rest leads.1 leads.2 head.solid)
    by total rest f is x (w ∷ ws) leads spelled =
        let same : f ≡ leads.0 = same_first f leads.0 (text ++ rest) is leads.1 in
        let kind : (word_of total f).kind ≡ w.kind = ap (λ (g : First). (word_of total g).kind) same
        ∙ sym (ap (λ (v : WordView). v.kind) leads.2) in
        subst (λ (kind : Kind). (pick kind).spells x (w ∷ ws)) kind spelled

-- the same where the text begins with a word of this kind
pub branch_at : {A B : Type 0} {first more : Kinds} {see : A → B} {y : B} {text : List ℕ}
    {ends : List ℕ → Bool} (pick : Kind → Piece A) (wrong : Wrong) (kind : Kind) → Heads (only kind) text ends
    → Prints (pick kind) see y text ends → Prints (branch first more pick wrong) see y text ends
branch_at {A} {B} {first} {more} {see} {y} {text} {ends} pick wrong kind head t =
    branch_text pick wrong _ head (λ other is. subst (λ (k : Kind). Prints (pick k) see y text ends)
    (sym (only_kind kind other is)) t)

-- ---- what a text begins with

pub token_heads : (kinds : Kinds) (kind : TokenKind) (text : List ℕ) (ends : List ℕ → Bool)
    → begins (λ c. not (is_blank c)) text ≡ true → IsToken kind text ends → kinds (word_kind kind text) ≡ true
    → Heads kinds text ends
token_heads kinds kind text ends solid token of = record {
  solid = solid;
  first = λ total rest end.
      (record { passed = 0; kind = kind; text = text; rest = rest }, token rest end, of);
}

-- what begins with a text begins as it does
pub heads_on : {kinds : Kinds} {a : List ℕ} {ends : List ℕ → Bool} (b : List ℕ) (follows : List ℕ → Bool)
    → Heads kinds a ends → ((rest : List ℕ) → follows rest ≡ true → ends (b ++ rest) ≡ true)
    → Heads kinds (a ++ b) follows
heads_on {kinds} {a} {ends} b follows head stops = record {
  solid = solid_on a head.solid;
  first = λ total rest end. subst (λ (all : List ℕ). (f : First) × (first_of all ≡ Ok (Some f))
      × (kinds (word_of total f).kind ≡ true)) (sym (append_assoc a b rest))
      (head.first total (b ++ rest) (stops rest end));
}
  where
    solid_on : (a : List ℕ) → begins (λ c. not (is_blank c)) a ≡ true
        → begins (λ c. not (is_blank c)) (a ++ b) ≡ true
    solid_on [] h = absurd cc
    solid_on (c ∷ cs) h = h

-- ---- texts in several parts, grouped as the grammar groups them and as texts are written

-- the same bytes are read as the same
pub regrouped : {A B : Type 0} {p : Piece A} {see : A → B} {y : B} {ends : List ℕ → Bool} (text same : List ℕ)
    → text ≡ same → Prints p see y text ends → Prints p see y same ends
regrouped {p} {see} {y} {ends} text same e t = subst (λ (bytes : List ℕ). Prints p see y bytes ends) e t

-- and they begin with the same
pub same_heads : {kinds : Kinds} {ends : List ℕ → Bool} {text same : List ℕ} → text ≡ same
    → Heads kinds text ends → Heads kinds same ends
same_heads {kinds} {ends} e h = subst (λ (bytes : List ℕ). Heads kinds bytes ends) e h

pub grouped3 : (a b c : List ℕ) → a ++ (b ++ c) ≡ a ++ b ++ c
grouped3 a b c = sym (append_assoc a b c)

pub grouped4 : (a b c d : List ℕ) → a ++ (b ++ (c ++ d)) ≡ a ++ b ++ c ++ d
grouped4 a b c d = sym (append_assoc a b (c ++ d)) ∙ grouped3 (a ++ b) c d

pub grouped5 : (a b c d e : List ℕ) → a ++ (b ++ (c ++ (d ++ e))) ≡ a ++ b ++ c ++ d ++ e
grouped5 a b c d e = sym (append_assoc a b _) ∙ grouped4 (a ++ b) c d e

pub grouped6 : (a b c d e f : List ℕ) → a ++ (b ++ (c ++ (d ++ (e ++ f)))) ≡ a ++ b ++ c ++ d ++ e ++ f
grouped6 a b c d e f = sym (append_assoc a b _) ∙ grouped5 (a ++ b) c d e f

-- ---- texts that stand apart from what is before them: nothing, or what begins with a byte that ends each
-- token

-- a token before a text ends there, as it does before what is behind the text
abbrev pub IsApart : List ℕ → Type 0
IsApart text = (rest : List ℕ) → ends_token rest ≡ true → ends_token (text ++ rest) ≡ true

-- a text that stands apart, and then what ends each token, end each token
pub apart_before : (a b : List ℕ) → IsApart a → ((rest : List ℕ) → ends_token (b ++ rest) ≡ true)
    → (rest : List ℕ) → ends_token (a ++ b ++ rest) ≡ true
apart_before a b first second rest = subst (λ (all : List ℕ). ends_token all
    ≡ true) (sym (append_assoc a b rest)) (first (b ++ rest) (second rest))

-- of two texts that stand apart, both together do
pub apart_joined : (a b : List ℕ) → IsApart a → IsApart b → IsApart (a ++ b)
apart_joined a b first second = λ rest end. subst (λ (all : List ℕ). ends_token all
    ≡ true) (sym (append_assoc a b rest)) (first (b ++ rest) (second rest end))

-- directives stand apart
pub directives_apart : (xs : List (NodeView Directive)) → IsApart (directives_text xs)
directives_apart [] = λ rest end. end
directives_apart (x ∷ xs) = λ rest end. refl

-- ---- texts of names, nodes and lists between signs

-- what anything may stand behind, these bytes may stand behind
pub loosely : {A B : Type 0} {p : Piece A} {see : A → B} {y : B} {text : List ℕ} (ends : List ℕ → Bool)
    → Prints p see y text anything → Prints p see y text ends
loosely ends t = record { read = λ total rest end. t.read total rest refl }

-- a sign
pub sign_prints : (kind : Kind) (of : TokenKind) {text : List ℕ} {ends : List ℕ → Bool} → IsToken of text ends
    → only kind (word_kind of text) ≡ true → Prints (sign kind) there tt text ends
sign_prints kind of token is = sign_or_text kind _ of token is

-- a keyword
pub keyword_prints : (kind : Kind) (text : List ℕ) → names text ≡ true → only kind (name_kind text) ≡ true
    → Prints (sign kind) there tt text ends_token
keyword_prints kind text is of = sign_prints kind t.Name (word_is_token text is) of

-- a name without its location, of what a word is and its bytes
abbrev pub name_seen : Kind × List ℕ → NameView
name_seen w = record { text = w.1; location = None }

-- a name
pub name_prints : (file : FileId) (n : NameView) → IsName n.text
    → Prints (name file) bare_name (bare_name n) n.text ends_token
unfolding name
name_prints file n is = mapped_text _ bare_name (bare_name n) (λ w same. ap name_seen same)
    (word_text is_name (λ _. Expected i.Name) t.Name (name_is_token n.text is) (kind_of_name n.text))

-- a name begins with a name
pub name_heads : (n : NameView) → IsName n.text → Heads is_name n.text ends_token
name_heads n is = token_heads is_name t.Name n.text ends_token (name_unblank n.text is)
    (name_is_token n.text is) (kind_of_name n.text)

-- a node
pub node_prints : {A B : Type 0} (file : FileId) {p : Piece A} {see : A → B} {y : B} {text : List ℕ}
    {ends : List ℕ → Bool} → Prints p see y text ends
    → Prints (node file p) (bare_node see) (record { value = y; location = None }) text ends
node_prints {A} {B} file {p} {see} {y} t =
    mapped_text _ _ _ (λ x same. ap (λ (v : B). record { value = v; location = None }) same) (located_text t)

-- what stands between two signs
pub between_prints : {A B : Type 0} (opening closing : Kind) (wrong : Wrong) {p : Piece A}
    {see : A → B} {y : B} {open_text text close_text : List ℕ} {ends : List ℕ → Bool}
    → Prints (sign opening) there tt open_text anything → Prints p see y text ends
    → Prints (sign_or closing wrong) there tt close_text anything
    → ((rest : List ℕ) → ends (close_text ++ rest) ≡ true)
    → Prints (between opening closing wrong p) see y (open_text ++ text ++ close_text) anything
between_prints {A} {B} opening closing wrong {p} {see} {y} {open_text} {text} {close_text} o t c stops =
    regrouped _ _ (grouped3 open_text text close_text)
    (mapped_text inner see y (λ x same. ap (λ (s : Unit {0} × (B × Unit {0})). s.1.0) same)
    (seq_text o (seq_text t c (λ rest _. stops rest)) (λ rest _. refl)))

-- an opening whose sign is a token, behind blanks
abbrev pub Opens : Kind → List ℕ → Type 0
Opens kind text = Prints (sign kind) there tt text anything

-- a closing whose sign is a token, behind blanks, with what is wrong where it isn't there
abbrev pub Closes : Kind → Wrong → List ℕ → Type 0
Closes kind wrong text = Prints (sign_or kind wrong) there tt text anything

-- a sign behind blanks
pub sign_behind : (kind : Kind) (wrong : Wrong) (of : TokenKind) (gap text : List ℕ)
    → list_all is_blank gap ≡ true → IsToken of text anything → only kind (word_kind of text) ≡ true
    → Prints (sign_or kind wrong) there tt (gap ++ text) anything
sign_behind kind wrong of gap text blank token is =
    behind_blank gap blank (sign_or_text kind wrong of token is)

-- a sign before blanks
pub sign_before : (kind : Kind) (wrong : Wrong) (of : TokenKind) (text gap : List ℕ)
    → list_all is_blank gap ≡ true → IsToken of text anything → only kind (word_kind of text) ≡ true
    → Prints (sign_or kind wrong) there tt (text ++ gap) anything
sign_before kind wrong of text gap blank token is =
    before_blank gap blank (sign_or_text kind wrong of token is) (λ rest _. refl)

-- a line end is blank
pub line_blank : (n : ℕ) → list_all is_blank (line_end n) ≡ true
line_blank n = blanks n
  where
    blanks : (n : ℕ) → list_all is_blank (replicate n 32) ≡ true
    blanks zero = refl
    blanks (suc n) = blanks n

-- items in one line or on lines, between an opening and a closing: one at least
pub listed_prints : {A B : Type 0} (opening closing : Kind) (wrong : Wrong) (p : Piece A) (see : A
    → B) (text : A → List ℕ) (open_text separator close_text : List ℕ) → Opens opening open_text
    → Closes closing wrong close_text → list_all is_blank separator ≡ true
    → ((rest : List ℕ) → ends_token (separator ++ rest) ≡ true)
    → ((rest : List ℕ) → ends_token (close_text ++ rest) ≡ true) → (x : A) (xs : List A)
    → AllByRecursion (λ x. Prints p see (see x) (text x) ends_token) (x ∷ xs)
    → Prints (between opening closing wrong (some p)) (map see) (map see (x ∷ xs)) (enclosed open_text
    separator close_text text (x ∷ xs)) anything
listed_prints opening closing wrong p see text open_text separator close_text o c blank ends stops x xs all =
    between_prints opening closing wrong o (some_text p see text ends_token separator blank ends x xs all) c
    stops
