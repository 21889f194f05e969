-- The types and the directive definitions of a list with a write-out are those that were written out.
use Rattle.apollo_schema_laws.proofs as laws
pub use laws.Words.{◌≡◌, ℕ, Bool, true, false, cond, not, ◌&&◌, List, [], ◌∷◌, ◌++◌, None, Option, Some, map}
pub use laws.Words.{filter, find, option_map, refl, sym, ap, subst, ◌∙◌, arith, append-nil, map-append}
pub use laws.Words.{filter-append, filter_map-append, find-append, AllByRecursion, last_or, option_or}
pub use laws.Words.{unwrap_or, each-filter, each-weaken, option_cases, found-passes, find-made, find-none}
pub use laws.Words.{NameView, NodeView, by_text, same, same_text, HasUniqueKeys, keys_of, lookup, values_of}
pub use laws.Words.{same-true, DirectiveDefinition, first_of_each, first_of_each-distinct, first_of_each-map}
pub use laws.Words.{name_laws, AreDirectivesOf, Directives, directive_definitions, directive_names}
pub use laws.Words.{directive_of, has_text, is_handed_in, ListItem, Other, whole, Schema, IsMeantByList}
pub use laws.Words.{with_built_ins, is_some, flat_map, map-map, filter_map, option_map_or, filter-all}
pub use laws.Words.{filter-fails, is_built_in, entries_by_text, Parts, ExtensionId, bare_extended_type}
pub use laws.Words.{type_location, type_name, ExtendedType, Defined, Extended, defined_part, extended_part}
pub use laws.Words.{first, extensions_of, of_kind, TypePart, folding_order, AreTypesOf, extension_part}
pub use laws.Words.{type_names, type_from, parts, TypeNamed}
use laws.Words.{IsDistinct, built_in_definitions}
pub use laws.Words.{first_of_each-again, new_to-same, new_to_these, each-both, each-from_map, found-holds}
pub use laws.Words.{passes, each-found, each-made}
pub use laws.Items.{built_ins, IsHandedIn, handed, handed-later, later_items, whole-split, each-entry}
pub use laws.Items.{lookup-past, about, first-about, extensions-about, built_in_names, about-built_ins}
pub use laws.Items.{first-built_in, first-unmarked, values-by_keys, defined_names, defined_names-append}
pub use laws.Items.{names-of_first, among-defined, first-key, Fits, fits-of_kind}
pub use laws.Types.{definition_as, numbers_of, numbers-rise, rising-distinct, IsAgain, made, rebuilt}
pub use laws.Types.{definition-own, written, definition_part, extension_of, held_items, extension_items}
pub use laws.Types.{about-types, defines-types, IsMadeBy}
pub use Rattle.apollo_meaning.proofs.Items.ItemLemmas.{first-append}
pub use Rattle.apollo_meaning.proofs.Order.FoldedLemmas.{folded-of_name}
pub use Rattle.apollo_meaning.proofs.Order.FoldingLemmas.{type_location-from, type_name-from}
pub use Rattle.apollo_meaning.proofs.Types.NameLemmas.{type_names-first}
use Rattle.graphql_ast.specs.declared.definition.Definition.TheVariants as ast

abbrev pub built_in_directives : Directives
built_in_directives = directive_definitions built_ins

abbrev names_of : Directives → List NameView
names_of ds = map (λ d. d.value.name) ds

abbrev pub AllHandedIn : Directives → Type 0
AllHandedIn ds = AllByRecursion (λ d. is_handed_in d ≡ true) ds

pub built_in-marked : AllByRecursion (λ d. is_handed_in d ≡ false) built_in_directives
unfolding built_in_definitions
built_in-marked = (refl, (refl, (refl, (refl, tt))))

-- directive definitions that are handed in
handed-directives : (xs : List ListItem) → AllByRecursion IsHandedIn xs
    → AllHandedIn (directive_definitions xs)
handed-directives [] a = tt
handed-directives (Other (ast.DirectiveDefinition n) ∷ xs) a = (ap not a.0, handed-directives xs a.1)
handed-directives (x ∷ xs) a = handed-directives xs a.1

-- the last built-in one of a name
abbrev built_in_of : List ℕ → Option (NodeView DirectiveDefinition)
built_in_of n = last_or None (filter (has_text n) built_in_directives)

module _ (n : List ℕ) where
  pub find-unmarked : (ds : Directives) → AllByRecursion (λ d. is_handed_in d ≡ false) ds
      → find (λ d. has_text n d && is_handed_in d) ds ≡ None
  find-unmarked [] a = refl
  find-unmarked (d ∷ ds) a = grind (arith, a.0, find-unmarked ds a.1)

  find-handed : (ds : Directives) → AllHandedIn ds
      → find (λ d. has_text n d && is_handed_in d) ds ≡ find (has_text n) ds
  find-handed [] a = refl
  find-handed (d ∷ ds) a = grind (arith, a.0, find-handed ds a.1)

  none-left : (ds : Directives) → find (has_text n) ds ≡ None → filter (has_text n) ds ≡ []
  none-left [] h = refl
  none-left (d ∷ ds) h = grind (arith, h, none-left ds)

  -- what a name means after the built-in definitions
  pub directive-after : (ds : Directives) → AllHandedIn ds
      → directive_of (built_in_directives ++ ds) n ≡ option_or (find (has_text n) ds) (built_in_of n)
  directive-after ds a = grind (
    arith,
    find-append (λ d. has_text n d && is_handed_in d) built_in_directives ds,
    find-unmarked built_in_directives built_in-marked,
    find-handed ds a,
    filter-append (has_text n) built_in_directives ds,
    none-left ds,
    append-nil,
  )

  -- what holds of each holds of the last
  last-property : {X : Type 0} (P : X → Type 0) (o : Option X) (xs : List X) (d : X)
      → ((x : X) → o ≡ Some x → P x) → AllByRecursion P xs → last_or o xs ≡ Some d → P d
  last-property P o [] d start a h = start d h
  last-property P o (x ∷ xs) d start a h =
      last-property P _ xs d (λ y e. subst P (ap (λ o. unwrap_or o x) e) a.0) a.1 h

  -- the handed-in one, if it is
  abbrev if_handed : Option (NodeView DirectiveDefinition) → Option (NodeView DirectiveDefinition)
  if_handed None = None
  if_handed (Some d) = cond (is_handed_in d) (Some d) None

  -- a built-in one isn't
  built_in-dropped : if_handed (built_in_of n) ≡ None
  built_in-dropped = option_cases (built_in_of n) (λ e. ap if_handed e) (λ d e. grind (
    arith,
    e,
    last-property (λ d. is_handed_in d ≡ false) None _ d (λ x h. absurd (let g = h in cc))
        (each-weaken _ _ (λ d h. h.0) _ (each-filter _ _ built_in_directives built_in-marked)) e,
  ))

  text-of_meant : (ds : Directives) (d : NodeView DirectiveDefinition)
      → option_or (find (has_text n) ds) (built_in_of n) ≡ Some d → has_text n d ≡ true
  text-of_meant ds d h =
      option_cases (find (has_text n) ds) (λ e. last-property _ None (filter (has_text n) built_in_directives)
      d (λ x h. absurd (let g = h in cc)) (passes _ built_in_directives) (grind (arith, e, h)))
      (λ x e. found-passes (has_text n) ds d (grind (arith, e, h)))

  -- what is found among the handed-in values of a table
  find-values : (es : List (NameView × NodeView DirectiveDefinition)) → HasUniqueKeys same_text es
      → AllByRecursion (λ e. has_text e.0.text e.1 ≡ true) es
      → find (has_text n) (filter is_handed_in (values_of es)) ≡ if_handed (lookup (by_text n) es)
  unfolding IsDistinct
  find-values [] d a = refl
  find-values (e ∷ es) d a =
      grind (arith, same-true e.0.text e.1.value.name.text a.0, lookup-past n e es d, find-values es d.1 a.1)

-- the names of the first of each
pub directive_names-first : (ds : Directives) → directive_names ds ≡ first_of_each same_text (names_of ds)
directive_names-first ds = first_of_each-map same_text _ ds

module _ (schema : Schema) (list : IsMeantByList schema) where
  open list use {adopts, more}

  abbrev table : List (NameView × NodeView DirectiveDefinition)
  table = schema.directive_definitions

  abbrev later : Directives
  later = directive_definitions (later_items adopts more)

  abbrev new : NameView → Bool
  new = new_to_these same_text (names_of built_in_directives)

  split : directive_definitions (whole adopts (with_built_ins more)) ≡ built_in_directives ++ later
  split = simp (whole-split, filter_map-append)

  handed_later : AllHandedIn later
  handed_later = handed-directives _ (handed-later adopts more (handed schema list))

  each : (n : List ℕ) → lookup (by_text n) table ≡ option_or (find (has_text n) later) (built_in_of n)
  each n = simp (list.means.directives.each n, split, directive-after n later handed_later)

  keys : keys_of table ≡ first_of_each same_text (names_of (built_in_directives ++ later))
  keys = simp (list.means.directives.names, split, directive_names-first)

  pub unique_directives : HasUniqueKeys same_text table
  unique_directives = subst (IsDistinct same_text) (sym keys) (first_of_each-distinct same_text _)

  pub texts : AllByRecursion (λ e. has_text e.0.text e.1 ≡ true) table
  texts = each-weaken _ _ (λ e h. text-of_meant e.0.text later e.1 (sym (each e.0.text) ∙ h)) table
      (each-entry table unique_directives)

  -- the handed-in values
  abbrev pub written_directives : Directives
  written_directives = filter is_handed_in (values_of table)

  pub same_meaning : (n : List ℕ)
      → directive_of (built_in_directives ++ written_directives) n ≡ lookup (by_text n) table
  same_meaning n =
      let handed_in : (d : NodeView DirectiveDefinition) → find (has_text n) later ≡ Some d → is_handed_in d
      ≡ true = λ d. found-holds _ _ later d handed_later in
      grind (
        arith,
        directive-after n written_directives (passes is_handed_in (values_of table)),
        find-values n table unique_directives texts,
        each n,
        handed_in,
        built_in-dropped n,
      )

  -- a name that no built-in directive has is that of its handed-in definition
  own_directive_names : AllByRecursion (λ e. new e.0 ≡ true → (is_handed_in e.1 ≡ true)
      × (e.1.value.name ≡ e.0)) table
  own_directive_names =
      each-both _ _ _ one table
      (each-from_map _ _ table
      (subst (AllByRecursion (λ k. find (same_text k) (names_of (built_in_directives ++ later)) ≡ Some k))
      (sym keys) (each-found same_text name_laws _))) (each-entry table unique_directives)
    where
      one : (e : NameView × NodeView DirectiveDefinition)
          → find (same_text e.0) (names_of (built_in_directives ++ later)) ≡ Some e.0
          → lookup (by_text e.0.text) table ≡ Some e.1 → new e.0 ≡ true
          → (is_handed_in e.1 ≡ true) × (e.1.value.name ≡ e.0)
      one e first found is_new = option_cases (find (has_text e.0.text) later)
          (λ g. absurd (grind (arith, g, among))) (λ d g.
          let is : e.1 ≡ d = grind (arith, g, each e.0.text, found) in
          (ap is_handed_in is ∙ found-holds _ _ later d handed_later g, grind (arith, g, among, is)))
        where
          among : option_map (λ d. d.value.name) (find (has_text e.0.text) later) ≡ Some e.0
          among = grind (arith, find-made, find-none, find-append, map-append, first)

  -- the new names of what is written are the new keys
  new-written : (es : List (NameView × NodeView DirectiveDefinition))
      → AllByRecursion (λ e. has_text e.0.text e.1 ≡ true) es
      → AllByRecursion (λ e. new e.0 ≡ true → (is_handed_in e.1 ≡ true) × (e.1.value.name ≡ e.0)) es
      → filter new (names_of (filter is_handed_in (values_of es))) ≡ filter new (keys_of es)
  new-written [] t a = refl
  new-written (e ∷ es) t a =
      let alike = new_to-same same_text name_laws (names_of built_in_directives) e.1.value.name e.0
      (name_laws.symm e.1.value.name e.0 ∙ t.0) in
      grind (arith, alike, a.0, new-written es t.1 a.1)

  -- the same names, in order
  pub same_keys : directive_names (built_in_directives ++ written_directives) ≡ keys_of table
  same_keys =
      let keys = list.means.directives.names ∙ ap directive_names split ∙ listed later in
      listed written_directives ∙ first_of_each-again same_text name_laws _ _ (names_of written_directives)
      (new-written table texts own_directive_names ∙ ap (filter new) keys) ∙ sym keys
    where
      listed : (ds : Directives)
          → directive_names (built_in_directives ++ ds) ≡ first_of_each same_text
          (names_of built_in_directives ++ names_of ds)
      listed ds = simp (directive_names-first, map-append)

  -- a table of the written list is this one
  pub directives-again : (xs : List ListItem) (again : List (NameView × NodeView DirectiveDefinition))
      → directive_definitions xs ≡ built_in_directives ++ written_directives
      → AreDirectivesOf (directive_definitions xs) again
      → (keys_of again ≡ keys_of table) × ((n : List ℕ) → lookup (by_text n) again ≡ lookup (by_text n) table)
  directives-again xs again is are_again =
      (simp (are_again.names, is, same_keys), (λ n. simp (are_again.each n, is, same_meaning n)))

-- a type of a list is made of its name's first definition
pub record IsMeant (xs : List ListItem) (n : List ℕ) (t : ExtendedType) : Type 0 where
  pub made_of : IsMadeBy made t
  pub first_one : first xs n ≡ Some made_of.head

module _ (start : ℕ) (xs : List ListItem) (types : List (NameView × ExtendedType)) (are : AreTypesOf start
    (folding_order xs) xs types) where
  pub meant : (n : List ℕ) (t : ExtendedType) → lookup (by_text n) types ≡ Some t → IsMeant xs n t
  meant n t h = option_cases _ (λ e. absurd (grind (arith, e, are.each n, h))) (λ d e. record {
    made_of = record {
      head = d;
      extensions = numbers_of n start (folding_order xs);
      apart = rising-distinct start _ (numbers-rise n start (folding_order xs));
      is = grind (arith, e, are.each n, h);
    };
    first_one = e;
  })

  pub unmeant : (n : List ℕ) → lookup (by_text n) types ≡ None → first xs n ≡ None
  unmeant n h = grind (arith, are.each n, h)

  pub unique : HasUniqueKeys same_text types
  unique = subst (IsDistinct same_text) (sym (are.names ∙ type_names-first xs))
      (first_of_each-distinct same_text _)

  -- each type has the name that it stands under
  pub own_names : AllByRecursion (λ e. type_name e.1 ≡ e.0) types
  own_names = each-both _ _ _ (λ e name found.
      let m = meant e.0.text e.1 found in
      grind (arith, ap type_name m.made_of.is ∙ type_name-from m.made_of.head _, m.first_one, name)) types
      (each-from_map _ _ types (subst (AllByRecursion (λ k. option_map (λ d. d.name) (first xs k.text)
      ≡ Some k)) (sym are.names) (names-of_first xs))) (each-entry types unique)

-- items that say nothing of types
abbrev pub IsQuiet : ListItem → Type 0
IsQuiet x = (defined_part x ≡ None) × (extended_part x ≡ None)

pub about-quiet : (n : List ℕ) (xs : List ListItem) → AllByRecursion IsQuiet xs → about (TypeNamed n) xs ≡ []
about-quiet n = filter-fails IsQuiet _ (λ x q. grind (arith, q.0, q.1))

pub defines-quiet : (xs : List ListItem) → AllByRecursion IsQuiet xs → defined_names xs ≡ []
defines-quiet [] q = refl
defines-quiet (x ∷ xs) q = rw q.0.0 (defines-quiet xs q.1)

pub extends-quiet : (xs : List ListItem) → AllByRecursion IsQuiet xs → filter_map extended_part xs ≡ []
extends-quiet [] q = refl
extends-quiet (x ∷ xs) q = rw q.0.1 (extends-quiet xs q.1)

-- items that say nothing of types: before the types that are written, and behind them
pub record Around : Type 0 where
  pub others : List ListItem
  pub ends : List ListItem
  pub quiet : AllByRecursion IsQuiet others
  pub quiet_end : AllByRecursion IsQuiet ends

-- the types of a list of which nothing but its head is built in
module _ (schema : Schema) (list : IsMeantByList schema) where
  open list use {start, adopts, more}

  abbrev xs : List ListItem
  xs = whole adopts (with_built_ins more)

  abbrev types : List (NameView × ExtendedType)
  types = schema.types

  abbrev are : AreTypesOf start (folding_order xs) xs types
  are = list.means.types

  first-split : (n : List ℕ) → first xs n ≡ option_or (first built_ins n) (first (later_items adopts more) n)
  first-split n = simp (whole-split, first-append)

  module _ (n : List ℕ) (t : ExtendedType) (found : lookup (by_text n) types ≡ Some t) where
    abbrev m : IsMeant xs n t
    m = meant start xs types are n t found

    pub is-made : IsMadeBy made t
    is-made = m.made_of

    location : type_location t ≡ m.made_of.head.location
    location = simp (m.made_of.is, type_location-from)

    pub key : same n (type_name t).text ≡ true
    key = rw (m.made_of.is, type_name-from, first-key n _ m.made_of.head m.first_one)

    -- its location is marked built-in where its name is that of a built-in type
    marked-where : (o : Option TypePart) → first built_ins n ≡ o → is_built_in (type_location t) ≡ is_some o
    marked-where (Some b) e =
        grind (arith, location, m.first_one, first-split n, e, (first-built_in n b e).marked)
    marked-where None e = ap is_built_in location ∙ first-unmarked adopts more (handed schema list) n
        m.made_of.head (grind (arith, first-split n, e, m.first_one))

    -- the built-in definition, or else what is written of the type, is the type's definition with its
    -- extensions
    pub written-view : (c : Bool)
        → (b : Bool) × (about (TypeNamed n) built_ins ++ held_items c t ≡ Defined (definition_as t b)
        ∷ extension_items c t)
    written-view c = option_cases _ (λ e. (c, grind (arith, about-built_ins n, e, marked-where None e)))
        (λ b e.
        let built = first-built_in n b e in
        let head : m.made_of.head ≡ b = grind (arith, m.first_one, first-split n, e) in
        let own : definition_part t ≡ b =
        ap definition_part (m.made_of.is ∙ ap (λ p. made p m.made_of.extensions) head)
        ∙ definition-own b m.made_of.extensions built.of_kind built.once built.plain in
        (false, grind (arith, about-built_ins n, e, marked-where _ e, own)))

  -- what a name's part of the written list is
  module _ (c : Bool) (around : Around) where
    open around use {others, ends, quiet, quiet_end}

    abbrev pub again_items : List ListItem
    again_items = (built_ins ++ (others ++ flat_map (held_items c) (values_of types))) ++ ends

    view : (n : List ℕ)
        → about (TypeNamed n) again_items ≡ about (TypeNamed n) built_ins ++ option_map_or (held_items c)
        (lookup (by_text n) types) []
    view n = simp (
      filter-append,
      about-quiet n ends quiet_end,
      about-quiet n others quiet,
      about-types c n types (unique start xs types are) (own_names start xs types are),
      append-nil,
    )

    pub view-nothing : (n : List ℕ) → lookup (by_text n) types ≡ None → about (TypeNamed n) again_items ≡ []
    view-nothing n none =
        grind (arith, view n, about-built_ins n, first-split n, unmeant start xs types are n none, none)

    module _ (n : List ℕ) (t : ExtendedType) (found : lookup (by_text n) types ≡ Some t) where
      abbrev pub flag : Bool
      flag = (written-view n t found c).0

      pub view-type : about (TypeNamed n) again_items ≡ Defined (definition_as t flag) ∷ extension_items c t
      view-type = simp (view, found, (written-view n t found c).1)

      pub first-again : first again_items n ≡ Some (definition_as t flag)
      first-again = simp (first-about, view-type, key)

      pub extensions-again : extensions_of again_items n ≡ map (extension_of t) (written t).extensions
      extensions-again = simp (extensions-about, view-type, go)
        where
          go : (es : List (ExtensionId × Parts))
              → extensions_of (map (λ e. Extended (extension_of t e)) es) n ≡ map (extension_of t) es
          go [] = refl
          go (e ∷ es) = simp (key, go es)

      pub fits : AllByRecursion (Fits (definition_as t flag)) (map (extension_of t) (written t).extensions)
      fits = each-made _ _ (λ e. (refl, refl)) _

      numbers-again : (again : ℕ)
          → map (λ e. e.1) (numbers_of n again (folding_order again_items))
          ≡ map (extension_of t) (written t).extensions
      numbers-again again = sym (map-map _ extension_part _) ∙ folded-of_name again again_items n _
          first-again ∙ ap (of_kind _) extensions-again ∙ fits-of_kind (definition_as t flag) _ fits

    -- the same names are defined, in order
    pub names-again : type_names again_items ≡ keys_of types
    names-again = rw (
      type_names-first,
      defined,
      first_of_each-again same_text name_laws built_in_names _ _
          (filter-all new _ (passes new _) ∙ ap (filter new) keys),
      keys,
    )
      where
        new : NameView → Bool
        new = new_to_these same_text built_in_names

        keys : keys_of types ≡ first_of_each same_text (built_in_names
            ++ defined_names (later_items adopts more))
        keys = simp (are.names, type_names-first, whole-split, defined_names-append)

        defined : defined_names again_items ≡ built_in_names ++ filter new (keys_of types)
        defined = simp (
          defined_names-append,
          defines-quiet ends quiet_end,
          defines-quiet others quiet,
          defines-types c built_in_names types (own_names start xs types are)
              (each-weaken _ _ (λ e found. marked-where e.0.text e.1 found _ refl
              ∙ sym (among-defined e.0 built_ins)) types (each-entry types (unique start xs types are))),
          append-nil,
        )

    module _ (again : ℕ) (types_again : List (NameView × ExtendedType)) (are_again : AreTypesOf again
        (folding_order again_items) again_items types_again) where
      -- each type is there again
      pub type-there : (n : List ℕ) (t : ExtendedType) → lookup (by_text n) types ≡ Some t
          → (u : ExtendedType) × (lookup (by_text n) types_again ≡ Some u) × IsAgain t u
      type-there n t found =
          let ms = numbers_of n again (folding_order again_items) in (
            made (definition_as t (flag n t found)) ms,
            are_again.each n ∙ ap (option_map (λ d. type_from d (parts again (folding_order again_items) n
                d))) (first-again n t found),
            rebuilt t (is-made n t found) (flag n t found) ms (rising-distinct again ms (numbers-rise n again
                (folding_order again_items))) (numbers-again n t found again),
          )

      -- and no other
      pub none-there : (n : List ℕ) → lookup (by_text n) types ≡ None → lookup (by_text n) types_again ≡ None
      none-there n none = simp (are_again.each, first-about, view-nothing)

      -- under the same names, in order
      pub same_names : keys_of types_again ≡ keys_of types
      same_names = are_again.names ∙ names-again

      -- what sees the same of equal types sees the same under each name
      pub same-seen : {R : Type 0} (see : Option ExtendedType → R)
          → ((t u : ExtendedType) → IsAgain t u → see (Some u) ≡ see (Some t)) → (n : List ℕ)
          → see (lookup (by_text n) types_again) ≡ see (lookup (by_text n) types)
      same-seen see alike n = option_cases _ (λ e. ap see (none-there n e ∙ sym e)) (λ t e.
          let there = type-there n t e in grind (arith, e, there.1, alike t there.0 there.2))

      pub equal_types : entries_by_text bare_extended_type types_again ≡ entries_by_text bare_extended_type
          types
      equal_types = λ i n. same-seen (option_map bare_extended_type) (λ t u a. ap Some a.equal) n i

      -- and so is what they are written out as
      pub same_written : {X : Type 0} (give : ExtendedType → List X)
          → ((t u : ExtendedType) → IsAgain t u → give u ≡ give t)
          → flat_map give (values_of types_again) ≡ flat_map give (values_of types)
      same_written give alike =
          let once = unique start xs types are in
          rw (values-by_keys give types_again (rw same_names once), values-by_keys give types once)
          (λ i. flat_map (λ k. same-seen (λ o. option_map_or give o []) alike k.text i) (same_names i))
