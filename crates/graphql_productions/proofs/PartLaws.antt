-- What words give is given to all parts of what they spell: each piece of a grammar in turn.
use Rattle.std.proofs.Common.{Bool, List, None, Option, Some, [], false, refl, subst, suc, sym, true, zero, ℕ}
use Rattle.std.proofs.Common.{◌++◌, ◌∷◌, ◌≡◌}
use Rattle.std.specs.List.{AllByRecursion, flat_map}
use Rattle.graphql_nodes.specs.declared.source.FileId.{FileId}
use Rattle.graphql_nodes.specs.NodeView.{NodeView}
use Rattle.graphql_grammar.specs.declared.kind.Kind.{Kind}
use Rattle.graphql_grammar.specs.declared.kind.Kind.TheVariants as k
use Rattle.graphql_grammar.specs.declared.kind.Names.TheVariants as names
use Rattle.graphql_grammar.specs.Kinds.{Kinds, is_name, names_of, only}
use Rattle.graphql_grammar.specs.Pieces.{Piece, Wrong, behind_sign, branch, choose, filtered, headed, item}
use Rattle.graphql_grammar.specs.Pieces.{listed, located, many, mapped, nothing, optional, separated}
use Rattle.graphql_grammar.specs.Pieces.{separated_of, seq, sign, sign_or, some, word}
use Rattle.graphql_grammar.specs.Words.{WordView, ended, starting}
use Rattle.graphql_grammar.specs.Spelling.{spells_by}
use Rattle.graphql_grammar.proofs.PieceLaws.{Begun}
use Rattle.graphql_productions.specs.Nodes.{between, enclosed, inner, name_of, node, node_of, or_none}
use Rattle.graphql_productions.specs.Nodes.{span_at}
use Rattle.graphql_productions.specs.TreeParts.{Description, EnumName, Float, FragmentName, Int, Name, Node}
use Rattle.graphql_productions.specs.TreeParts.{TreePart, Variable, Wanted, node_parts, option_parts}
use Rattle.graphql_productions.specs.TreeParts.{wanted_parts}
use Rattle.graphql_productions.specs.TypeSystem.{description_of, is_description}

-- all that is asked of these parts
abbrev pub Holds : (TreePart → Type 0) → List TreePart → Type 0
Holds asked parts = AllByRecursion asked parts

-- what is known of words, also of some of them, gives what is asked of the parts that single words and nodes
-- are
pub record Serves (asked : TreePart → Type 0) (file : FileId) (Known : List WordView → Type 0) : Type 0 where
  pub split : (head tail : List WordView) → Known (head ++ tail) → Known head × Known tail
  pub node : (w : WordView) (ws : List WordView)
      → Known (w ∷ ws) → asked (Node (span_at file (w.start, ended w.end ws)))
  pub name : (w : WordView) → Known (w ∷ []) → is_name w.kind ≡ true → asked (Name (name_of file w))
  pub fragment_name : (w : WordView) → Known (w ∷ []) → names_of names.Fragment w.kind ≡ true
      → asked (FragmentName (name_of file w))
  pub enum_name : (w : WordView) → Known (w ∷ []) → names_of names.EnumValue w.kind ≡ true
      → asked (EnumName (name_of file w))
  pub variable : (w : WordView) → Known (w ∷ []) → is_name w.kind ≡ true
      → asked (Variable false (name_of file w))
  pub description : (w : WordView) → Known (w ∷ []) → is_description w.kind ≡ true
      → asked (Description (description_of file w))
  pub int : (w : WordView) → Known (w ∷ []) → only k.Int w.kind ≡ true → asked (Int w.text)
  pub float : (w : WordView) → Known (w ∷ []) → only k.Float w.kind ≡ true → asked (Float w.text)
  pub wanted : asked (Wanted true)

-- what such words spell is so
pub record Yields {A : Type 0} (Known : List WordView → Type 0) (p : Piece A) (Good : A → Type 0) : Type
    0 where
  pub each : (x : A) (front : List WordView) → Known front → p.spells x front → Good x

-- all parts of what such words spell are as is asked
pub record Covered {asked : TreePart → Type 0} {file : FileId} {Known : List WordView → Type 0}
    (serves : Serves asked file Known) {A : Type 0} (p : Piece A) (f : A → List TreePart) : Type 0 where
  pub each : (x : A) (front : List WordView) → Known front → p.spells x front → Holds asked (f x)

pub join : (asked : TreePart → Type 0) (xs ys : List TreePart) → Holds asked xs → Holds asked ys
    → Holds asked (xs ++ ys)
join asked [] ys a b = b
join asked (x ∷ xs) ys a b = (a.0, join asked xs ys a.1 b)

-- what is asked of the back alone
pub inside : (asked : TreePart → Type 0) (front back less : List TreePart)
    → (Holds asked back → Holds asked less) → Holds asked (front ++ back) → Holds asked (front ++ less)
inside asked [] back less f all = f all
inside asked (part ∷ front) back less f all = (all.0, inside asked front back less f all.1)

-- words of which the front begins so begin so
pub begun_front : (first : Kinds) {front : List WordView} (head tail : List WordView) → front ≡ head ++ tail
    → Begun first false head → Begun first false front
begun_front first [] tail whole begun = absurd cc
begun_front first (w ∷ ws) tail whole begun = subst (Begun first false) (sym whole) begun

-- one of two
pub choose_one : {A : Type 0} (b : Bool) (p q : Piece A) {x : A} {front : List WordView} {Good : Type 0}
    → (choose b p q).spells x front → (b ≡ true → p.spells x front → Good)
    → (b ≡ false → q.spells x front → Good) → Good
choose_one true p q h one other = one refl h
choose_one false p q h one other = other refl h

-- all of a list is all of one that may be left out
some_or_none : {A : Type 0} (asked : TreePart → Type 0) (f : A → List TreePart) (o : Option (List A))
    → Holds asked (option_parts (wanted_parts f) o) → Holds asked (flat_map f (or_none o))
some_or_none asked f None all = tt
some_or_none asked f (Some xs) all = all.1

-- ---- what is so of all that such words spell

module _ {Known : List WordView → Type 0} where
  pub anything : {A : Type 0} (p : Piece A) → Yields Known p (λ _. Unit {0})
  anything p = record { each = λ x front known h. tt }

  pub nothing_yields : {A : Type 0} (wrong : Wrong) {Good : A → Type 0} → Yields Known (nothing wrong) Good
  nothing_yields wrong = record { each = λ x front known h. absurd h }

  pub mapped_yields : {A B : Type 0} {f : A → B} {p : Piece A} {P : A → Type 0} {Q : B → Type 0}
      → Yields Known p P → ((a : A) → P a → Q (f a)) → Yields Known (mapped f p) Q
  mapped_yields {Q = Q} pg so =
      record { each = λ x front known h. subst Q (sym h.1) (so h.0 (pg.each h.0 front known h.2)) }

  pub filtered_yields : {A : Type 0} {test : A → Bool} (wrong : Wrong) {p : Piece A} {P : A → Type 0}
      → Yields Known p P → Yields Known (filtered test wrong p) (λ x. P x × (test x ≡ true))
  filtered_yields wrong pg = record { each = λ x front known h. (pg.each x front known h.0, h.1) }

  pub choose_yields : {A : Type 0} (flag : Bool) {p q : Piece A} {Good : A → Type 0} → Yields Known p Good
      → Yields Known q Good → Yields Known (choose flag p q) Good
  choose_yields true pg qg = pg
  choose_yields false pg qg = qg

  branch_each : {A : Type 0} (pick : Kind → Piece A) (Good : A → Type 0)
      → ((kind : Kind) → Yields Known (pick kind) Good) → (x : A) (front : List WordView) → Known front
      → spells_by (λ kind. (pick kind).spells) x front → Good x
  branch_each pick Good pg x [] known h = absurd h
  branch_each pick Good pg x (w ∷ ws) known h = (pg w.kind).each x (w ∷ ws) known h

  pub branch_yields : {A : Type 0} {first more : Kinds} (pick : Kind → Piece A) (wrong : Wrong)
      {Good : A → Type 0} → ((kind : Kind) → Yields Known (pick kind) Good)
      → Yields Known (branch first more pick wrong) Good
  branch_yields pick wrong {Good} pg = record { each = branch_each pick Good pg }

module _ {asked : TreePart → Type 0} {file : FileId} {Known : List WordView → Type 0}
    (serves : Serves asked file Known) where
  pub seq_yields : {A B : Type 0} {p : Piece A} {q : Piece B} {P : A → Type 0} {Q : B → Type 0}
      → Yields Known p P → Yields Known q Q → Yields Known (seq p q) (λ x. P x.0 × Q x.1)
  seq_yields pg qg = record {
    each = λ x front known h. (let both = serves.split h.head h.tail (subst Known
        h.whole known) in (pg.each x.0 h.head both.0 h.first, qg.each x.1 h.tail both.1 h.second));
  }

  located_each : (front : List WordView) (first : Kinds) → Known front → Begun first false front
      → asked (Node (span_at file (starting front, ended 0 front)))
  located_each [] first known begun = absurd cc
  located_each (w ∷ ws) first known begun = serves.node w ws known

module _ {asked : TreePart → Type 0} {file : FileId} {Known : List WordView → Type 0}
    {serves : Serves asked file Known} where
  pub covered : {A : Type 0} {p : Piece A} {f : A → List TreePart} → Yields Known p (λ x. Holds asked (f x))
      → Covered serves p f
  covered pg = record { each = pg.each }

  pub yielded : {A : Type 0} {p : Piece A} {f : A → List TreePart} → Covered serves p f
      → Yields Known p (λ x. Holds asked (f x))
  yielded pg = record { each = pg.each }

  -- ---- words, and what has no parts

  pub no_parts : {A : Type 0} (p : Piece A) → Covered serves p (λ _. [])
  no_parts p = record { each = λ x front known h. tt }

  pub nothing_covered : {A : Type 0} (wrong : Wrong) {f : A → List TreePart}
      → Covered serves (nothing wrong) f
  nothing_covered wrong = record { each = λ x front known h. absurd h }

  pub word_covered : {A : Type 0} (kinds : Kinds) (wrong : Wrong) {f : WordView → A} {g : A → List TreePart}
      → ((w : WordView) → Known (w ∷ []) → kinds w.kind ≡ true → Holds asked (g (f w)))
      → Covered serves (mapped f (word kinds wrong)) g
  word_covered kinds wrong {f} {g} good = record {
    each = λ x front known h. subst (λ y. Holds asked (g y)) (sym h.1)
        (good h.0 (subst Known h.2.0 known) h.2.1);
  }

  -- ---- one after the other, and the same, said otherwise

  pub seq_covered : {A B : Type 0} {p : Piece A} {q : Piece B} {f : A → List TreePart} {g : B → List TreePart}
      → Covered serves p f → Covered serves q g → Covered serves (seq p q) (λ x. f x.0 ++ g x.1)
  seq_covered {f = f} {g = g} pg qg = record {
    each = λ x front known h. (let both = serves.split h.head h.tail
        (subst Known h.whole known) in join asked (f x.0) (g x.1) (pg.each x.0 h.head both.0 h.first)
        (qg.each x.1 h.tail both.1 h.second));
  }

  pub mapped_covered : {A B : Type 0} {f : A → B} {p : Piece A} {g : A → List TreePart}
      {k : B → List TreePart} → Covered serves p g → ((a : A) → Holds asked (g a) → Holds asked (k (f a)))
      → Covered serves (mapped f p) k
  mapped_covered {k = k} pg so = record {
    each = λ x front known h. subst (λ y. Holds asked (k y)) (sym h.1) (so h.0 (pg.each h.0 front known h.2));
  }

  pub headed_covered : {A : Type 0} {kinds : Kinds} {p : Piece A} {f : A → List TreePart} → Covered serves p f
      → Covered serves (headed kinds p) f
  headed_covered pg = record { each = pg.each }

  pub item_covered : {A : Type 0} {kinds : Kinds} (wrong : Wrong) {p : Piece A} {f : A → List TreePart}
      → Covered serves p f → Covered serves (item kinds wrong p) f
  item_covered wrong pg = record { each = pg.each }

  -- ---- one or none, any number

  optional_each : {A : Type 0} (p : Piece A) (f : A → List TreePart) → Covered serves p f
      → (x : Option A) (front : List WordView) → Known front → (optional p).spells x front
      → Holds asked (option_parts f x)
  optional_each p f pg None front known h = tt
  optional_each p f pg (Some x) front known h = pg.each x front known h

  pub optional_covered : {A : Type 0} {p : Piece A} {f : A → List TreePart} → Covered serves p f
      → Covered serves (optional p) (option_parts f)
  optional_covered {p = p} {f} pg = record { each = optional_each p f pg }

  many_each : {A : Type 0} (p : Piece A) (f : A → List TreePart) → Covered serves p f
      → (xs : List A) (front : List WordView) → Known front → (many p).spells xs front
      → Holds asked (flat_map f xs)
  many_each p f pg [] front known h = tt
  many_each p f pg (x ∷ xs) front known h =
      let both = serves.split h.head h.tail (subst Known h.whole known) in
      join asked (f x) (flat_map f xs) (pg.each x h.head both.0 h.first) (many_each p f pg xs h.tail both.1
      h.second)

  pub many_covered : {A : Type 0} {p : Piece A} {f : A → List TreePart} → Covered serves p f
      → Covered serves (many p) (flat_map f)
  many_covered {p = p} {f} pg = record { each = many_each p f pg }

  pub some_covered : {A : Type 0} {p : Piece A} {f : A → List TreePart} → Covered serves p f
      → Covered serves (some p) (wanted_parts f)
  some_covered pg = mapped_covered {f = listed} (seq_covered pg (many_covered pg))
      (λ x all. (serves.wanted, all))

  pub separated_covered : {A : Type 0} (kind : Kind) {p : Piece A} {f : A → List TreePart}
      → Covered serves p f → Covered serves (separated kind p) (wanted_parts f)
  separated_covered kind {p} {f} pg =
      mapped_covered {f = separated_of} (seq_covered (no_parts (optional (sign kind)))
      (seq_covered pg (many_covered (mapped_covered {f = behind_sign} {k = f}
      (seq_covered (no_parts (sign kind)) pg) (λ x all. all))))) (λ x all. (serves.wanted, all))

  -- ---- one of several

  pub choose_covered : {A : Type 0} (flag : Bool) {p q : Piece A} {f : A → List TreePart} → Covered serves p f
      → Covered serves q f → Covered serves (choose flag p q) f
  choose_covered true pg qg = pg
  choose_covered false pg qg = qg

  pub branch_covered : {A : Type 0} {first more : Kinds} (pick : Kind → Piece A) (wrong : Wrong)
      {f : A → List TreePart} → ((kind : Kind) → Covered serves (pick kind) f)
      → Covered serves (branch first more pick wrong) f
  branch_covered pick wrong {f} pg =
      record { each = branch_each pick (λ x. Holds asked (f x)) (λ kind. yielded (pg kind)) }

  -- ---- with where it stands

  -- what has its location, and begins with such a word
  pub place_covered : {A B : Type 0} {f : A × (ℕ × ℕ) → B} {p : Piece A} (first : Kinds) {P : A → Type 0}
      {g : B → List TreePart} → Yields Known p P
      → ((x : B) (front : List WordView) → (mapped f (located p)).spells x front → Begun first false front)
      → ((a : A × (ℕ × ℕ)) → P a.0 → asked (Node (span_at file a.1)) → Holds asked (g (f a)))
      → Covered serves (mapped f (located p)) g
  place_covered first {g = g} pg begun so = record {
    each = λ x front known h. (
        let there = located_each serves front first known (begun x front h) in
        subst (λ y. Holds asked (g y)) (sym h.1) (so h.0 (pg.each h.0.0 front known h.2.0)
        (subst (λ (at : ℕ × ℕ). asked (Node (span_at file at))) (sym h.2.1) there))
        );
  }

  pub node_covered : {A : Type 0} {p : Piece A} {f : A → List TreePart} (first : Kinds) → Covered serves p f
      → ((x : NodeView A) (front : List WordView) → (node file p).spells x front → Begun first false front)
      → Covered serves (node file p) (node_parts f)
  node_covered first pg begun = place_covered {f = node_of file} first (yielded pg) begun
      (λ a all there. (there, all))

  -- ---- between signs

  pub between_covered : {A : Type 0} (opening closing : Kind) (wrong : Wrong) {p : Piece A}
      {f : A → List TreePart} → Covered serves p f → Covered serves (between opening closing wrong p) f
  between_covered opening closing wrong pg =
      covered (mapped_yields {f = inner} (seq_yields serves (anything (sign opening))
      (seq_yields serves (yielded pg) (anything (sign_or closing wrong)))) (λ x all. all.1.0))

  -- some items between signs, or none and no signs
  enclosed_covered : {A : Type 0} (opening closing : Kind) (wrong : Wrong) (depth : ℕ) (p : ℕ
      → Piece A) (f : A → List TreePart) → ((inside : ℕ) → Covered serves (p inside) f)
      → Covered serves (enclosed opening closing wrong depth (λ n. some (p n))) (wanted_parts f)
  enclosed_covered opening closing wrong zero p f pg = record { each = λ x front known h. absurd h }
  enclosed_covered opening closing wrong (suc depth) p f pg =
      record { each = (between_covered opening closing wrong (some_covered (pg depth))).each }

  pub listed_covered : {A : Type 0} {p : Piece (List A)} (f : A → List TreePart)
      → Covered serves p (wanted_parts f) → Covered serves (mapped or_none (optional p)) (flat_map f)
  listed_covered f pg = mapped_covered {f = or_none} (optional_covered pg) (some_or_none asked f)

  pub list_covered : {A : Type 0} (opening closing : Kind) (wrong : Wrong) (depth : ℕ) (p : ℕ
      → Piece A) {f : A → List TreePart} → ((inside : ℕ) → Covered serves (p inside) f)
      → Covered serves (enclosed opening closing wrong depth (λ n. some (p n))) (wanted_parts f)
  list_covered opening closing wrong depth p {f} pg = enclosed_covered opening closing wrong depth p f pg
