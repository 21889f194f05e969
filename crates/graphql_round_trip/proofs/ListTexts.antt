-- Lists that are left out where they have no item.
use Rattle.std.proofs.Common.{◌≡◌, List, [], ◌∷◌, map, option_map, Option, None, Some, refl, ◌++◌, ◌≤◌, ℕ}
use Rattle.std.proofs.Common.{zero, suc, arith, ◌+◌, Bool, true, sym, ap, subst, ◌∙◌, append_assoc}
use Rattle.graphql_productions.specs.Nodes.{or_none, enclosed, name, between as between_signs}
use Rattle.std.specs.List.{AllByRecursion, flat_map, list_all}
use Rattle.graphql_productions.specs.TreeParts.{TreePart}
use Rattle.graphql_productions.specs.WellFormed.{IsWellFormed}
use Rattle.graphql_round_trip.specs.Nesting.{between, deepest, greatest}
use Rattle.std.specs.Prelude.{codes}
use Rattle.std.proofs.lemmas.List.Folds.{flat_map-map}
use Rattle.graphql_nodes.specs.Comparing.{bare_name}
use Rattle.graphql_nodes.specs.NameSyntax.{IsName}
use Rattle.graphql_nodes.specs.NameView.{NameView}
use Rattle.graphql_nodes.specs.declared.source.FileId.{FileId}
use Rattle.graphql_tokens.specs.Bytes.{is_blank}
use Rattle.graphql_tokens.specs.declared.token.TokenKind.{TokenKind}
use Rattle.graphql_grammar.specs.declared.kind.Kind.{Kind}
use Rattle.graphql_grammar.specs.Kinds.{only, Kinds}
use Rattle.graphql_grammar.specs.WordsOfText.{word_kind}
use Rattle.graphql_grammar.specs.Pieces.{Piece, Wrong, many, mapped, optional, seq, sign, some, behind_sign}
use Rattle.graphql_grammar.specs.Pieces.{picked, separated as separated_by, separated_of, word}
use Rattle.graphql_printing.specs.Layout.{enclosed as enclosed_text, line_end, on_lines, separated}
use Rattle.graphql_printing.specs.Layout.{each_behind, braces}
use Rattle.graphql_printing.specs.Texts.{label_text}
use Rattle.graphql_round_trip.specs.Printed.{IsToken, Prints, anything, ends_token}
use Rattle.graphql_round_trip.proofs.PieceTexts.{regrouped, Closes, Opens, listed_prints, loosely}
use Rattle.graphql_round_trip.proofs.PieceTexts.{sign_before, sign_behind, same_words, both_seen, headed_text}
use Rattle.graphql_round_trip.proofs.PieceTexts.{many_text, mapped_text, none_text, one_text, seq_text}
use Rattle.graphql_round_trip.proofs.PieceTexts.{some_text, there, bare_word, before_blank, IsApart, grouped3}
use Rattle.graphql_round_trip.proofs.PieceTexts.{line_blank, name_prints}
use Rattle.graphql_round_trip.proofs.TokenTexts.{colon_is_token, right_brace_is_token, left_brace_is_token}
use Rattle.graphql_grammar.specs.Words.{WordView}
use Rattle.graphql_tokens.specs.declared.token.TokenKind.TheVariants as t
use Rattle.graphql_grammar.specs.declared.kind.Kind.TheVariants as k
use Rattle.graphql_grammar.specs.declared.fault.FaultKind.TheVariants.{Expected}
use Rattle.graphql_grammar.specs.declared.fault.Item.TheVariants as i

-- a list, or nothing where it has no item
abbrev pub left_out : {A : Type 0} → List A → Option (List A)
left_out [] = None
left_out (x ∷ xs) = Some (x ∷ xs)

-- a list is what it is, left out or not
pub left_out_none : {A : Type 0} (xs : List A) → or_none (left_out xs) ≡ xs
left_out_none [] = refl
left_out_none (x ∷ xs) = refl

-- what is seen of a list that may be left out is seen of its items
pub seen_or_none : {A B : Type 0} (see : A → B) (o : Option (List A))
    → map see (or_none o) ≡ or_none (option_map (map see) o)
seen_or_none see None = refl
seen_or_none see (Some xs) = refl

-- ---- what is well-formed has well-formed parts

-- the parts of two are those of the one and those of the other
pub part_of_front : (a b : List TreePart) → IsWellFormed (a ++ b) → IsWellFormed a × IsWellFormed b
part_of_front [] b all = (tt, all)
part_of_front (x ∷ xs) b all = let rest = part_of_front xs b all.1 in ((all.0, rest.0), rest.1)

-- the parts of a list are those of each item
pub part_of_each : {A : Type 0} (parts : A → List TreePart) (xs : List A) → IsWellFormed (flat_map parts xs)
    → AllByRecursion (λ x. IsWellFormed (parts x)) xs
part_of_each parts [] all = tt
part_of_each parts (x ∷ xs) all = let rest =
    part_of_front (parts x) _ all in (rest.0, part_of_each parts xs rest.1)

-- what follows from what holds of an item in three ways holds of each item
pub each_of_three : {A : Type 0} (P Q R S : A → Type 0) → ((x : A) → P x → Q x → R x → S x) → (xs : List A)
    → AllByRecursion P xs → AllByRecursion Q xs → AllByRecursion R xs → AllByRecursion S xs
each_of_three P Q R S so [] p q r = tt
each_of_three P Q R S so (x ∷ xs) p q r = (so x p.0 q.0 r.0, each_of_three P Q R S so xs p.1 q.1 r.1)

-- and from what holds in two ways
pub each_of_both : {A : Type 0} (P Q R : A → Type 0) → ((x : A) → P x → Q x → R x) → (xs : List A)
    → AllByRecursion P xs → AllByRecursion Q xs → AllByRecursion R xs
each_of_both P Q R so xs p q = each_of_three P Q Q R (λ x p q _. so x p q) xs p q q

-- ---- what a depth that is enough for a tree says of its parts

-- what is enough for the greatest is enough for the first
pub first_fits : (n : ℕ) (ns : List ℕ) (depth : ℕ) → greatest (n ∷ ns) ≤ depth → n ≤ depth
first_fits n ns depth fits = omega (arith, fits)

-- and for the others
pub others_fit : (n : ℕ) (ns : List ℕ) (depth : ℕ) → greatest (n ∷ ns) ≤ depth → greatest ns ≤ depth
others_fit n ns depth fits = omega (arith, fits)

-- what is enough for the deepest item is enough for each
pub each_fits : {A : Type 0} (nesting : A → ℕ) (xs : List A) (depth : ℕ) → deepest nesting xs ≤ depth
    → AllByRecursion (λ x. nesting x ≤ depth) xs
each_fits nesting [] depth fits = tt
each_fits nesting (x ∷ xs) depth fits = (
  first_fits _ _ depth fits,
  each_fits nesting xs depth (others_fit _ _ depth fits),
)

-- what is enough for brackets is one more than what is enough inside
pub opened : (n depth : ℕ) → suc n ≤ depth → (inside : ℕ) × (depth ≡ suc inside) × (n ≤ inside)
opened n zero fits = absurd (omega (arith, fits))
opened n (suc inside) fits = (inside, refl, omega (arith, fits))

-- what is enough for items between brackets is one more than what is enough for the deepest
pub inside_fits : {A : Type 0} (nesting : A → ℕ) (x : A) (xs : List A) (depth : ℕ)
    → between nesting (x ∷ xs) ≤ depth
    → (inside : ℕ) × (depth ≡ suc inside) × (deepest nesting (x ∷ xs) ≤ inside)
inside_fits nesting x xs depth fits = opened _ depth fits

-- ---- texts of lists that may be empty or left out, and of what has a label

-- what is read as one or more is read as any number
many_of_some : {A B : Type 0} (p : Piece A) {look : List A → B} {y : B} {text : List ℕ} {ends : List ℕ → Bool}
    → Prints (some p) look y text ends → Prints (many p) look y text ends
many_of_some p {look} reads =
    same_words (λ _ _ _ r. (r.spelled.0.0 ∷ r.spelled.0.1, ap look (sym r.spelled.1) ∙ r.same, r.spelled.2))
    reads

-- any number of items, with bytes between each two that end what stands before
pub separated_text : {A B : Type 0} (p : Piece A) (see : A → B) (text : A → List ℕ) (ends : List ℕ
    → Bool) (between : List ℕ) → list_all is_blank between ≡ true
    → ((rest : List ℕ) → ends (between ++ rest) ≡ true) → (xs : List A)
    → AllByRecursion (λ x. Prints p see (see x) (text x) ends) xs
    → Prints (many p) (map see) (map see xs) (separated between text xs) ends
separated_text p see text ends between blank stops [] all = many_text p see text ends between blank stops []
    tt
separated_text p see text ends between blank stops (x ∷ xs) all =
    many_of_some p (some_text p see text ends between blank stops x xs all)

-- texts of what is made of each item
pub separated_map : {A B : Type 0} (separator : List ℕ) (text : B → List ℕ) (f : A → B) (xs : List A)
    → separated separator text (map f xs) ≡ separated separator (λ x. text (f x)) xs
separated_map separator text f [] = refl
separated_map separator text f (x ∷ xs) = ap (λ (l : List ℕ). text (f x) ++ l) (flat_map-map _ f xs)

-- a name, a colon and what stands behind it
pub labelled_prints : {A B : Type 0} (file : FileId) (n : NameView) {p : Piece A} {see : A → B} {y : B}
    {text : List ℕ} → IsName n.text → Prints p see y text ends_token
    → Prints (seq (name file) (seq (sign k.Colon) p)) (both_seen bare_name (both_seen there see))
    (bare_name n, (tt, y)) (label_text n ++ text) ends_token
labelled_prints file n {p} {see} {y} {text} is reads =
    regrouped (n.text ++ (codes ": " ++ text)) (label_text n ++ text) (grouped3 n.text (codes ": ") text)
    (seq_text (name_prints file n is) (seq_text (sign_before k.Colon (λ _. Expected (i.Word k.Colon)) t.Colon
    (codes ":") (codes " ") refl colon_is_token refl) reads (λ rest end. refl)) (λ rest end. refl))

-- ---- a list that is left out where it has no item

module _ {A B : Type 0} (p : Piece (List A)) (see : A → B) where
  or_none_seen : (o : Option (List A)) (ys : List B) → option_map (map see) o ≡ Some ys
      → map see (or_none o) ≡ ys
  or_none_seen None ys same = absurd cc
  or_none_seen (Some xs) ys same = cc

  none_seen : (o : Option (List A)) → option_map (map see) o ≡ None → map see (or_none o) ≡ []
  none_seen None same = refl
  none_seen (Some xs) same = absurd cc

  -- nothing is read as no item
  pub left_out_prints : (ends : List ℕ → Bool) → Prints (mapped or_none (optional p)) (map see) [] [] ends
  left_out_prints ends = mapped_text or_none (map see) [] none_seen (none_text p (map see) ends)

  -- what is read as some items is read as these
  pub put_prints : {ys : List B} {text : List ℕ} {ends : List ℕ → Bool} → Prints p (map see) ys text ends
      → Prints (mapped or_none (optional p)) (map see) ys text ends
  put_prints {ys} reads = mapped_text or_none (map see) ys (λ o same. or_none_seen o ys same) (one_text reads)

-- ---- items of which each is read as itself

-- where its parts are well-formed, and so many signs may be open, each item is read as itself
abbrev pub ReadAsItself : {A B : Type 0} → (A → List TreePart) → (A → ℕ) → ℕ → Piece A → (A → B)
    → (A → List ℕ) → Type 0
ReadAsItself {A} parts nesting depth p see text = (x : A) → IsWellFormed (parts x) → nesting x ≤ depth
    → Prints p see (see x) (text x) ends_token

-- each of these items is read as itself, where it may open so many signs
pub items_print : {A B : Type 0} (p : Piece A) (see : A → B) (text : A → List ℕ) (parts : A → List TreePart)
    (nesting : A → ℕ) (depth : ℕ) → ReadAsItself parts nesting depth p see text → (xs : List A)
    → IsWellFormed (flat_map parts xs) → deepest nesting xs ≤ depth
    → AllByRecursion (λ x. Prints p see (see x) (text x) ends_token) xs
items_print p see text parts nesting depth item xs fine fits =
    each_of_both (λ x. IsWellFormed (parts x)) (λ x. nesting x ≤ depth) (λ x. Prints p see (see x) (text x)
    ends_token) item xs (part_of_each parts xs fine) (each_fits nesting xs depth fits)

-- ---- a list of items between signs

module _ {A B : Type 0} (opening closing : Kind) (wrong : Wrong) (p : ℕ → Piece A) (see : A → B) (text : A
    → List ℕ) (parts : A → List TreePart) (nesting : A → ℕ) (item : (depth : ℕ)
    → ReadAsItself parts nesting depth (p depth) see text) where
  -- a list of such items
  abbrev pub list_at : ℕ → Piece (List A)
  list_at depth = mapped or_none (optional (enclosed opening closing wrong depth (λ inside. some (p inside))))

  -- they are read as themselves between such texts
  pub list_prints : (depth : ℕ) (open_text separator close_text : List ℕ) → Opens opening open_text
      → Closes closing wrong close_text → list_all is_blank separator ≡ true
      → ((rest : List ℕ) → ends_token (separator ++ rest) ≡ true)
      → ((rest : List ℕ) → ends_token (close_text ++ rest) ≡ true) → (xs : List A)
      → IsWellFormed (flat_map parts xs) → between nesting xs ≤ depth
      → Prints (list_at depth) (map see) (map see xs) (enclosed_text open_text separator close_text text xs)
      ends_token
  list_prints depth open_text separator close_text o c blank ends stops [] fine fits =
      left_out_prints (enclosed opening closing wrong depth (λ inside. some (p inside))) see ends_token
  list_prints depth open_text separator close_text o c blank ends stops (x ∷ xs) fine fits =
      let room = inside_fits nesting x xs depth fits in
      let list : Piece (List A) = enclosed opening closing wrong (suc room.0) (λ inside. some (p inside)) in
      rw room.1 (put_prints list see (headed_text (only opening)
      (loosely ends_token (listed_prints opening closing wrong (p room.0) see text open_text separator
      close_text o c blank ends stops x xs (items_print (p room.0) see text parts nesting room.0
      (item room.0) (x ∷ xs) fine room.2)))))

  -- they are read as themselves on lines, behind an opening and before a closing that are tokens
  pub lines_print : (depth indent : ℕ) (opener closer : TokenKind) (open_text close_text : List ℕ)
      → IsToken opener open_text anything → only opening (word_kind opener open_text) ≡ true
      → IsToken closer close_text anything → only closing (word_kind closer close_text) ≡ true → (xs : List A)
      → IsWellFormed (flat_map parts xs) → between nesting xs ≤ depth
      → Prints (list_at depth) (map see) (map see xs) (on_lines open_text close_text indent
      (λ (inner : ℕ). text) xs) ends_token
  lines_print depth indent opener closer open_text close_text o opens c closes xs fine fits =
      list_prints depth (open_text ++ line_end (indent + 2)) (line_end (indent + 2)) (line_end indent
      ++ close_text) (sign_before opening (λ _. Expected (i.Word opening)) opener open_text
      (line_end (indent + 2)) (line_blank (indent + 2)) o opens) (sign_behind closing wrong closer
      (line_end indent) close_text (line_blank indent) c closes) (line_blank (indent + 2)) (λ rest. refl)
      (λ rest. refl) xs fine fits

-- ---- texts of items with a sign between each two, and of words that are picked as something

-- a word that is picked as something for what it is and its bytes
pub picked_text : {A : Type 0} {kinds : Kinds} (wrong : Wrong) {y : Kind × List ℕ} {text : List ℕ}
    {ends : List ℕ → Bool} (pick : WordView → Option A) (x : A)
    → ((w : WordView) → bare_word w ≡ y → pick w ≡ Some x) → Prints (word kinds wrong) bare_word y text ends
    → Prints (picked pick kinds wrong) (λ x. x) x text ends
picked_text wrong pick x picks t =
    same_words (λ _ _ _ r. (x, refl, (r.value, r.spelled.0, picks r.value r.same))) t

-- items, each behind a blank and more, stand apart from what is before them
pub behind_blanks_apart : {A : Type 0} (before : List ℕ) (text : A → List ℕ) (xs : List A)
    → IsApart (each_behind (32 ∷ before) text xs)
behind_blanks_apart before text [] = λ rest end. end
behind_blanks_apart before text (x ∷ xs) = λ rest end. refl

module _ {A B : Type 0} (kind : Kind) (p : Piece A) (see : A → B) (text : A → List ℕ) {sign_text : List ℕ}
    (opens : Opens kind sign_text) where
  -- an item behind the sign
  behind_prints : (x : A) → Prints p see (see x) (text x) ends_token
      → Prints (mapped behind_sign (seq (sign kind) p)) see (see x) (sign_text ++ text x) ends_token
  behind_prints x t = mapped_text behind_sign see (see x) (λ y same. ap (λ (q : Unit {0} × B). q.1) same)
      (seq_text opens t (λ rest _. refl))

  all_behind : (xs : List A) → AllByRecursion (λ x. Prints p see (see x) (text x) ends_token) xs
      → AllByRecursion (λ x. Prints (mapped behind_sign (seq (sign kind) p)) see (see x) (sign_text ++ text x)
      ends_token) xs
  all_behind [] all = tt
  all_behind (x ∷ xs) all = (behind_prints x all.0, all_behind xs all.1)

  -- one item or more, with a blank and a sign between each two
  pub separated_prints : (x : A) (xs : List A)
      → AllByRecursion (λ x. Prints p see (see x) (text x) ends_token) (x ∷ xs)
      → Prints (separated_by kind p) (map see) (map see (x ∷ xs)) (separated (codes " " ++ sign_text) text
      (x ∷ xs)) ends_token
  separated_prints x xs all =
      mapped_text separated_of (map see) _ (λ y same. ap (λ (q : Option (Unit {0}) × (B × List B)). q.1.0
      ∷ q.1.1) same) (seq_text (none_text (sign kind) there anything)
      (seq_text all.0 (many_text (mapped behind_sign (seq (sign kind) p)) see (λ y. sign_text ++ text y)
      ends_token (codes " ") refl (λ rest. refl) xs (all_behind xs all.1)) (behind_blanks_apart sign_text text
      xs)) (λ rest _. refl))

-- ---- texts of items, each on a line of its own, in braces

-- items on lines, in braces: one at least
pub braces_print : {A B : Type 0} (wrong : Wrong) (p : Piece A) (see : A → B) (text : ℕ → A → List ℕ)
    (opening : List ℕ) (indent : ℕ) → Opens k.LeftBrace opening → (x : A) (xs : List A)
    → AllByRecursion (λ x. Prints p see (see x) (text (indent + 2) x) ends_token) (x ∷ xs)
    → Prints (between_signs k.LeftBrace k.RightBrace wrong (some p)) (map see) (map see (x ∷ xs))
    (braces opening indent text (x ∷ xs)) anything
braces_print wrong p see text opening indent opens x xs all = listed_prints k.LeftBrace k.RightBrace wrong p
    see (text (indent + 2)) (opening ++ line_end (indent + 2)) (line_end (indent + 2)) (line_end indent
    ++ codes "}") (before_blank (line_end (indent + 2)) (line_blank (indent + 2)) opens (λ rest _. refl))
    (sign_behind k.RightBrace wrong t.RightBrace (line_end indent) (codes "}") (line_blank indent)
    right_brace_is_token refl) (line_blank (indent + 2)) (λ rest. refl) (λ rest. refl) x xs all

-- ---- texts of items on lines between braces, and of lists that stand apart from what is before them

module _ {A B : Type 0} (wrong : Wrong) (p : ℕ → Piece A) (see : A → B) (text : ℕ → A → List ℕ) (parts : A
    → List TreePart) (nesting : A → ℕ) (item : (depth : ℕ)
    → ReadAsItself parts nesting depth (p depth) see (text 2)) (depth : ℕ) where
  -- one item at least is read between braces
  pub braced_print : (x : A) (xs : List A) → IsWellFormed (flat_map parts (x ∷ xs))
      → between nesting (x ∷ xs) ≤ depth
      → Prints (enclosed k.LeftBrace k.RightBrace wrong depth (λ inside. some (p inside))) (map see)
      (map see (x ∷ xs)) (braces (codes " {") 0 text (x ∷ xs)) ends_token
  braced_print x xs well fits =
      let room = inside_fits nesting x xs depth fits in
      rw room.1 (headed_text (only k.LeftBrace) (loosely ends_token (braces_print wrong (p room.0) see text
      (codes " {") 0 (sign_behind k.LeftBrace (λ _. Expected (i.Word k.LeftBrace)) t.LeftBrace (codes " ")
      (codes "{") refl left_brace_is_token refl) x xs (items_print (p room.0) see (text 2) parts nesting
      room.0 (item room.0) (x ∷ xs) well room.2))))

  -- items are read between braces, which are left out where there is none
  pub braced_or_none_print : (xs : List A) → IsWellFormed (flat_map parts xs) → between nesting xs ≤ depth
      → Prints (mapped or_none (optional (enclosed k.LeftBrace k.RightBrace wrong depth
      (λ inside. some (p inside))))) (map see) (map see xs) (braces (codes " {") 0 text xs) ends_token
  braced_or_none_print [] well fits = left_out_prints (enclosed k.LeftBrace k.RightBrace wrong depth
      (λ inside. some (p inside))) see ends_token
  braced_or_none_print (x ∷ xs) well fits = put_prints (enclosed k.LeftBrace k.RightBrace wrong depth
      (λ inside. some (p inside))) see (braced_print x xs well fits)

-- a list stands apart from what is before it, where its opening does
pub enclosed_apart : {A : Type 0} (open_text separator close_text : List ℕ) (text : A → List ℕ)
    → ((rest : List ℕ) → ends_token (open_text ++ rest) ≡ true) → (xs : List A)
    → IsApart (enclosed_text open_text separator close_text text xs)
enclosed_apart open_text separator close_text text opens [] = λ rest end. end
enclosed_apart open_text separator close_text text opens (x ∷ xs) = λ rest _.
    let items : List ℕ = separated separator text (x ∷ xs) in
    subst (λ (whole : List ℕ). ends_token whole ≡ true) (sym (append_assoc _ close_text rest
    ∙ append_assoc open_text items _)) (opens (items ++ (close_text ++ rest)))

-- braces stand apart from what is before them
pub braces_apart : {A : Type 0} (text : ℕ → A → List ℕ) (xs : List A)
    → IsApart (braces (codes " {") 0 text xs)
braces_apart text xs = enclosed_apart (codes " {" ++ line_end 2) (line_end 2) _ (text 2) (λ rest. refl) xs
