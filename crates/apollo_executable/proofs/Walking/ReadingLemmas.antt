-- What is read off selections, at each kind of selection: the fields that stand in them, and the names that
-- are spread there.
use Rattle.std.proofs.Common.{◌≡◌, ℕ, Bool, List, [], ◌∷◌, ◌++◌, refl, ap, ◌∙◌, append_assoc}
use Rattle.graphql_nodes.specs.NodeView.{NodeView}
use Rattle.apollo_walks.specs.Selections.{none, field, spread, inline, occurrences, spread_names}
use Rattle.apollo_executable.specs.SelectionReading.{WithParts}
use Rattle.apollo_executable.specs.Walks.Plain.{Plain, put_before, plain, below_of}
use Rattle.apollo_executable.specs.declared.selection.Selection.{Selection}
use Rattle.apollo_executable.specs.declared.selection.Selection.TheOpen.{Selection-F}
use Rattle.apollo_executable.specs.declared.selection.Selection.TheVariants as variant
use Rattle.apollo_executable.specs.declared.selection.Field.{Field}
use Rattle.apollo_executable.specs.declared.selection.FragmentSpread.{FragmentSpread}
use Rattle.apollo_executable.specs.declared.selection.InlineFragment.{InlineFragment}
use Rattle.apollo_executable.proofs.Walking.PlainLemmas.{plain-first, plain-none, plain-field, plain-spread}
use Rattle.apollo_executable.proofs.Walking.PlainLemmas.{plain-inline}

-- something to read, with what a field and a spread have of it themselves
pub record Reading (X : Type 0) : Type 0 where
  pub read : Plain → List X
  pub own : NodeView Field → List X
  pub named : List ℕ → List X
  pub of_none : read none ≡ []
  pub of_field : (n : NodeView Field) (below rest : Plain) → read (field n below rest)
      ≡ own n ++ (read below ++ read rest)
  pub of_spread : (name : List ℕ) (rest : Plain) → read (spread name rest) ≡ named name ++ read rest
  pub of_inline : (inner rest : Plain) → read (inline inner rest) ≡ read inner ++ read rest

-- the fields that stand there
abbrev pub of_fields : Reading (NodeView Field)
of_fields = record {
  read = occurrences;
  own = λ n. n ∷ [];
  named = λ _. [];
  of_none = refl;
  of_field = λ _ _ _. refl;
  of_spread = λ _ _. refl;
  of_inline = λ _ _. refl;
}

-- the names that are spread there
abbrev pub of_spreads : Reading (List ℕ)
of_spreads = record {
  read = spread_names;
  own = λ _. [];
  named = λ name. name ∷ [];
  of_none = refl;
  of_field = λ _ _ _. refl;
  of_spread = λ _ _. refl;
  of_inline = λ _ _. refl;
}

module _ {X : Type 0} (r : Reading X) (deep : Bool) where
  pub none-read : r.read (plain deep []) ≡ []
  none-read = ap r.read (plain-none deep) ∙ r.of_none

  pub field-read : (n : NodeView Field) (others : List Selection)
      → r.read (plain deep (variant.Field n ∷ others)) ≡ r.own n
      ++ (r.read (plain deep (below_of deep n.value)) ++ r.read (plain deep others))
  field-read n others = ap r.read (plain-field deep n others) ∙ r.of_field _ _ _

  pub spread-read : (n : NodeView FragmentSpread) (others : List Selection)
      → r.read (plain deep (variant.FragmentSpread n ∷ others)) ≡ r.named n.value.fragment_name.text
      ++ r.read (plain deep others)
  spread-read n others = ap r.read (plain-spread deep n others) ∙ r.of_spread _ _

  pub inline-read : (n : NodeView InlineFragment) (others : List Selection)
      → r.read (plain deep (variant.InlineFragment n ∷ others))
      ≡ r.read (plain deep n.value.selection_set.selections) ++ r.read (plain deep others)
  inline-read n others = ap r.read (plain-inline deep n others) ∙ r.of_inline _ _

  -- what comes behind the others comes behind all
  put-joined : (z : WithParts (Plain → Plain) Plain) (all first : Plain) (more : List X)
      → r.read all ≡ r.read first ++ more
      → r.read (put_before deep z all) ≡ r.read (put_before deep z first) ++ more
  put-joined (Selection-F.Field n) all first more is = simp (r.of_field, is, append_assoc)
  put-joined (Selection-F.FragmentSpread n) all first more is = simp (r.of_spread, is, append_assoc)
  put-joined (Selection-F.InlineFragment n) all first more is = simp (r.of_inline, is, append_assoc)

  pub joined-read : (first others : List Selection)
      → r.read (plain deep (first ++ others)) ≡ r.read (plain deep first) ++ r.read (plain deep others)
  joined-read [] others = rw none-read
  joined-read (s ∷ ss) others = rw (plain-first deep s _, plain-first deep s ss)
      (put-joined _ _ _ _ (joined-read ss others))
