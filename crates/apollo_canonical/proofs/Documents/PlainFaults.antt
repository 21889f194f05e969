-- The faults of selections say the same without the locations of the selections as with them.
use Rattle.apollo_canonical.proofs as canonical
use canonical.Prelude.{FN, FS, Field, FragmentSpread, InlineFragment, List, NameView, NodeView, None, Option}
use canonical.Prelude.{Schema, Selection, SelectionPath, [], ap, arith, bare_name, child_of, faults-field}
use canonical.Prelude.{faults-fragment, faults_of_selection, faults_of_selections, faults_step}
use canonical.Prelude.{field_faults_step, fold-Field, fold-InlineFragment, fold-Selection}
use canonical.Prelude.{fold-roll-Selection, fragment_faults_step, inside, is_bare-map, map, map-Selection}
use canonical.Prelude.{map-append, refl, roll-Selection, sym, ◌++◌, ◌∙◌, ◌∷◌, ◌≡◌}
use canonical.Documents.PlainSyntax.{field_selection-bare, inline_selection-bare, plain_field, plain_inline}
use canonical.Documents.PlainSyntax.{selection-bare}
use canonical.Documents.AlikeTypable.{AreOneDefinition, AreOneName, AreOnePath, faults-alike, field-judged}
use canonical.Documents.AlikeTypable.{fragment-judged, said}
use canonical.Documents.Induction.{Layer, field, inline, of_selections, spread}
use Rattle.graphql_ast.specs.BareSelections.{bare_selection}
use Rattle.apollo_executable.specs.SelectionParts.{response_key_of}

-- ---- paths

inside-alike : (p q : SelectionPath) (m n : NameView) → AreOnePath p q → AreOneName m n
    → AreOnePath (inside p m) (inside q n)
inside-alike p q m n along key =
    let keys : map bare_name (p.nested_fields ++ m ∷ []) ≡ map bare_name (q.nested_fields ++ n ∷ []) =
    map-append bare_name p.nested_fields (m ∷ []) ∙ (λ i. (along i).nested_fields ++ key i ∷ [])
    ∙ sym (map-append bare_name q.nested_fields (n ∷ [])) in
    λ i. record { root = (along i).root; nested_fields = keys i }

-- ---- faults

module _ (s : Option Schema) where
  -- in types and along paths that are one but for locations, the same is said of a selection without its
  -- locations, and of selections
  abbrev SaysOne : Selection → Type 0
  SaysOne x = (a b : NameView) (p q : SelectionPath) → AreOneName a b → AreOnePath p q
      → map said (faults_of_selection s a p (bare_selection x)) ≡ map said (faults_of_selection s b q x)

  abbrev SayOne : List Selection → Type 0
  SayOne xs = (a b : NameView) (p q : SelectionPath) → AreOneName a b → AreOnePath p q
      → map said (faults_of_selections s a p (map bare_selection xs))
      ≡ map said (faults_of_selections s b q xs)

  before : (x : Selection) (xs : List Selection) → SaysOne x → SayOne xs → SayOne (x ∷ xs)
  before x xs front rest a b p q one along = map-append said _ _
      ∙ (λ i. front a b p q one along i ++ rest a b p q one along i) ∙ sym (map-append said _ _)

  -- what is said of a selection, by what it holds
  opened : (x : Layer) (ty : NameView) (path : SelectionPath)
      → faults_of_selection s ty path (roll-Selection x)
      ≡ faults_step (map-Selection Selection Field InlineFragment FS FN FN
      (fold-Selection FS FN FN faults_step (field_faults_step s) (fragment_faults_step s))
      (fold-Field FS FN FN faults_step (field_faults_step s) (fragment_faults_step s)) (fold-InlineFragment FS
      FN FN faults_step (field_faults_step s) (fragment_faults_step s)) x) ty path
  opened x ty path = ap (λ (u : FS). u ty path) (fold-roll-Selection FS FN FN faults_step _ _ x)

  field_says : (n : NodeView Field) → SayOne n.value.selection_set → SaysOne (field n)
  field_says n below a b p q one along =
      let f : Field = plain_field n.value in
      let g : Field = n.value in
      let key : NameView = response_key_of f.alias f.name in
      let other : NameView = response_key_of g.alias g.name in
      let within = inside-alike p q key other along (grind arith) in
      ap (map said) (ap (faults_of_selection s a p) (field_selection-bare n) ∙ opened _ a p
      ∙ faults-field s a None p f) ∙ faults-alike AreOneDefinition _ _ None n.location _ _ _ _
      (field-judged s a b g.name _ _ (is_bare-map bare_selection g.selection_set) one) within
      (λ c d defined. below (child_of c) (child_of d) (inside p key) (inside q other) defined.1 within)
      ∙ sym (ap (map said) (opened _ b q ∙ faults-field s b n.location q g))

  inline_says : (n : NodeView InlineFragment) → SayOne n.value.selection_set → SaysOne (inline n)
  inline_says n below a b p q one along =
      let f : InlineFragment = plain_inline n.value in
      let g : InlineFragment = n.value in
      ap (map said) (ap (faults_of_selection s a p) (inline_selection-bare n) ∙ opened _ a p
      ∙ faults-fragment s a None p f) ∙ faults-alike AreOneName _ _ None n.location p q _ _
      (fragment-judged s a b g.type_condition one) along (λ t u child. below t u p q child along)
      ∙ sym (ap (map said) (opened _ b q ∙ faults-fragment s b n.location q g))

  spread_says : (n : NodeView FragmentSpread) → SaysOne (spread n)
  spread_says n a b p q one along = simp (selection-bare, opened)

  -- what is said of selections in a type
  pub faults-plain : (xs : List Selection) → SayOne xs
  faults-plain = of_selections SaysOne SayOne (λ a b p q one along. refl) before field_says spread_says
      inline_says
