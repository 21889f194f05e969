-- The texts of walks, as they are said line by line and go out in pieces.
use Rattle.std.proofs.Common.{◌≡◌, ◌-◌, ◌^◌, ℕ, Bool, List, [], ◌∷◌, ◌++◌, Option, min, refl, sym, subst, ◌∙◌}
use Rattle.std.proofs.Common.{append_assoc, map}
use Rattle.std.proofs.lemmas.List.{append-nil}
use Rattle.std.specs.List.{flat_map}
use Rattle.graphql_nodes.specs.NodeView.{NodeView}
use Rattle.apollo_executable.specs.Walks.WalkView.{AreWalked, TakesAllTurns}
use Rattle.apollo_executable.specs.declared.document.ExecutableDocument.{ExecutableDocument}
use Rattle.apollo_executable.specs.declared.selection.Field.{Field}
use Rattle.apollo_executable.specs.declared.selection.SelectionSet.{SelectionSet}
use Rattle.program_io.specs.Writing.{GoesOut, IsBegun}
use Rattle.gqltool_run.specs.Pieces.{IsCutShort, IsSaid}
use Rattle.gqltool_run.specs.WalkCommand.{AreSetsText, IsSetText, IsWalkText, field_line, turns_line}
use Rattle.program_io.proofs.WritingLemmas.{goes-further, goes-nowhere, goes-with}

-- one line more
pub lines-turn : {A : Type 0} (line : A → List ℕ) (whole text after : List ℕ)
    (begin middle new : Option (List ℕ)) (x : A) (coming rest : List A)
    → GoesOut whole begin middle (text ++ flat_map line coming) → coming ≡ x ∷ rest
    → GoesOut (text ++ line x) middle new after → GoesOut whole begin new (after ++ flat_map line rest)
lines-turn line whole text after begin middle new x coming rest was first more =
    goes-further whole begin middle new _ (after ++ flat_map line rest)
    (rw (first, sym (append_assoc text (line x) (flat_map line rest))) at was)
    (goes-with (text ++ line x) middle new after (flat_map line rest) more)

-- what is left of a line, where it is cut short
pub lines-cut : {A : Type 0} (line : A → List ℕ) (whole text : List ℕ) (begin middle new : Option (List ℕ))
    (x : A) (coming rest : List A) → GoesOut whole begin middle (text ++ flat_map line coming)
    → coming ≡ x ∷ rest → IsBegun (text ++ line x) middle new → IsBegun whole begin new
lines-cut line whole text begin middle new x coming rest was first cut = (
  cut.0 ++ flat_map line rest,
  lines-turn line whole text cut.0 begin middle new x coming rest was first cut.1,
)

module _ (deep : Bool) (word turns_word : List ℕ) (document : ExecutableDocument) (set : SelectionSet)
    (held : List ℕ) (begin : Option (List ℕ)) (all : List (NodeView Field)) (walked : AreWalked deep document
    set all) (turns : ℕ) (takes : TakesAllTurns deep document set turns) where
  abbrev pub fields_text : List ℕ
  fields_text = flat_map (field_line word) all

  abbrev pub turns_text : List ℕ
  turns_text = turns_line turns_word (min turns (2 ^ 64 - 1))

  -- the fields and the turns are said, of which this went out
  pub walk-said : (new : Option (List ℕ)) (left : List ℕ)
      → GoesOut ((held ++ fields_text) ++ turns_text) begin new left
      → IsSaid (IsWalkText deep word turns_word document set) begin new held left
  walk-said new left goes = (
    fields_text ++ turns_text,
    (
      record { fields = all; walked = walked; turns = turns; takes = takes; says = refl },
      rw (append_assoc held fields_text turns_text) at goes,
    ),
  )

  -- the fields are cut short
  pub walk-cut : (new : Option (List ℕ)) → IsBegun (held ++ fields_text) begin new
      → IsCutShort (IsWalkText deep word turns_word document set) begin new held
  walk-cut new cut = (cut.0 ++ turns_text, walk-said new _ (goes-with _ begin new cut.0 turns_text cut.1))

  -- the turns are said behind the last field
  pub walk-end : (middle new : Option (List ℕ)) (text left : List ℕ) (coming : List (NodeView Field))
      → GoesOut (held ++ fields_text) begin middle (text ++ flat_map (field_line word) coming) → coming ≡ []
      → GoesOut (text ++ turns_text) middle new left
      → IsSaid (IsWalkText deep word turns_word document set) begin new held left
  walk-end middle new text left coming was none more =
      let before = rw (none, append-nil) at was in
      walk-said new left (goes-further _ begin middle new _ left (goes-with _ begin middle text turns_text
      before) more)

  pub walk-end-cut : (middle new : Option (List ℕ)) (text : List ℕ) (coming : List (NodeView Field))
      → GoesOut (held ++ fields_text) begin middle (text ++ flat_map (field_line word) coming) → coming ≡ []
      → IsBegun (text ++ turns_text) middle new
      → IsCutShort (IsWalkText deep word turns_word document set) begin new held
  walk-end-cut middle new text coming was none cut =
      (cut.0, walk-end middle new text cut.0 coming was none cut.1)

-- where each set has a text, so have some sets
pub sets-text : (document : ExecutableDocument)
    → ((set : SelectionSet) → (text : List ℕ) × IsSetText document set text)
    → (sets : List (List ℕ × SelectionSet)) → (text : List ℕ) × AreSetsText document sets text
sets-text document texts [] = ([], refl)
sets-text document texts (set ∷ sets) =
    let first = texts set.1 in
    let rest = sets-text document texts sets in
    (set.0 ++ (first.0 ++ rest.0), (first.0, (first.1, (rest.0, (rest.1, refl)))))

-- sets of selections that some things have, each with the line above it
module _ {X : Type 0} (set_of : X → List ℕ × SelectionSet) (document : ExecutableDocument) (all : List X)
    (begin : Option (List ℕ)) (held : List ℕ) where
  -- with the texts of the sets that are left, the text is that of all, behind what was held
  abbrev pub LacksSets : List X → Option (List ℕ) → List ℕ → Type 0
  LacksSets left new text = (rest : List ℕ) → AreSetsText document (map set_of left) rest
      → IsSaid (AreSetsText document (map set_of all)) begin new held (text ++ rest)

  pub sets-begin : (left : List X) → left ≡ all → LacksSets left begin held
  sets-begin left is = λ rest are. (rest, (rw is at are, goes-nowhere begin _))

  -- one set is said below its line
  pub sets-turn : (left : List X) (x : X) (more : List X) (middle new : Option (List ℕ)) (text after : List ℕ)
      → LacksSets left middle text → left ≡ x ∷ more
      → IsSaid (IsSetText document (set_of x).1) middle new (text ++ (set_of x).0) after
      → LacksSets more new after
  sets-turn left x more middle new text after lacks first says = λ rest are.
      let line = (set_of x).0 in
      let said = says.0 in
      let whole = lacks (line ++ (said ++ rest)) (rw first (said, (says.1.0, (rest, (are, refl))))) in
      let left_is : text ++ (line ++ (said ++ rest)) ≡ ((text ++ line) ++ said) ++ rest =
      sym (append_assoc text line _) ∙ sym (append_assoc _ said rest) in
      let before = subst (GoesOut (held ++ whole.0) begin middle) left_is whole.1.1 in (
        whole.0,
        (whole.1.0, goes-further _ begin middle new _ _ before (goes-with _ middle new after rest says.1.1)),
      )

  pub sets-end : (left : List X) (new : Option (List ℕ)) (text : List ℕ) → LacksSets left new text → left ≡ []
      → IsSaid (AreSetsText document (map set_of all)) begin new held text
  sets-end left new text lacks none = subst (IsSaid (AreSetsText document (map set_of all)) begin new held)
      (append-nil text) (lacks [] (rw none refl))

  module _ (texts : (set : SelectionSet) → (text : List ℕ) × IsSetText document set text) where
    -- the texts are cut short where one of them is lacking
    pub sets-cut : (left : List X) (new : Option (List ℕ)) (text : List ℕ) → LacksSets left new text
        → IsCutShort (AreSetsText document (map set_of all)) begin new held
    sets-cut left new text lacks =
        let rest = sets-text document texts (map set_of left) in
        (text ++ rest.0, lacks rest.0 rest.1)

    -- or where one of them is cut short
    pub set-cut : (left : List X) (x : X) (more : List X) (middle new : Option (List ℕ)) (text : List ℕ)
        → LacksSets left middle text → left ≡ x ∷ more
        → IsCutShort (IsSetText document (set_of x).1) middle new (text ++ (set_of x).0)
        → IsCutShort (AreSetsText document (map set_of all)) begin new held
    set-cut left x more middle new text lacks first cut = sets-cut more new cut.0
        (sets-turn left x more middle new text cut.0 lacks first cut.1)
