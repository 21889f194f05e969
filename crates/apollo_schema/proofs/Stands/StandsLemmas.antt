-- Tables that stand for a list stand for it with one more item, once the code has taken the item.
use Rattle.apollo_meaning.proofs as meaning
use meaning.Prelude.{◌≡◌, ℕ, ◌+◌, ◌^◌, ◌≤◌, Bool, true, false, cond, List, [], ◌∷◌, ◌++◌, length, map, Option}
use meaning.Prelude.{Some, None, is_some, refl, sym, ap, subst, ◌∙◌, arith, length-append, filter_map, lookup}
use meaning.Prelude.{keys_of, set_value, append-nil, map-append, filter_map-append, keys-set_value}
use meaning.Prelude.{insert_entry, same_text, same, by_text, Definition, next_number, source_at, ExtendedType}
use meaning.Prelude.{TypePart, SchemaPart, schema_extension_part, kind_of, key_of, ListItem, Defined}
use meaning.Prelude.{Extended, Other, OfType, OfSchema, defined_part, extended_part, defined_schema}
use meaning.Prelude.{extended_schema, items_held, first, extensions_of, of_kind, Sourced, type_from}
use meaning.Prelude.{extension_part, numbered, parts, AreTypesOf, type_kind, directive_definitions}
use meaning.Prelude.{AreDirectivesOf, Fault, part_faults, further_definition, other_faults, schema_of}
use meaning.Prelude.{schema_orphans, orphans_of, joining_faults, types_folded_at, schemas_folded_at}
use meaning.Prelude.{folded_at, folded, found_at, found, waited_at, waited, same-true, same-is}
use meaning.Items.ItemLemmas.{first-push_undefined, first_schema-push_undefined}
use meaning.Items.ItemLemmas.{schema_extensions-push_unextended, folded-push, found-push, waited-push}
use meaning.Schema.SchemaLemmas.{schema_of-same}
use meaning.Completion.OrphanLemmas.{waited-early, waited-late}
use meaning.Order.FoldingLemmas.{type_kind-from}
use meaning.Types.TypeLemmas.{Own, Apart, Own-named, Own-of_kind, Apart-own, types_folded_at-new}
use meaning.Types.TypeLemmas.{types_folded_at-again, types_folded_at-early, types_folded_at-late}
use meaning.Types.TypeLemmas.{type_of-same, type_of-more, type_of-new}
use Rattle.std.proofs.lemmas.List.{length-map}
use Rattle.apollo_component.specs.declared.extension.ComponentOrigin.TheVariants as origins
use Rattle.apollo_schema.specs.declared.tables.Tables.{Tables}
use Rattle.apollo_meaning.specs.Types.Meaning.{type_of}
use Rattle.apollo_meaning.specs.Directives.{directive_part}
use Rattle.apollo_schema.specs.Stands.{Stands}
use Rattle.apollo_component.proofs.Lists.Cases.{is_some-map}
use Rattle.apollo_component.proofs.Lists.Ends.{filter_map-made, filter_map-push_none}
use Rattle.apollo_folding.proofs.KeptNames.{none-of}
use Rattle.apollo_folding.proofs.NameTables.{lookup-put, keys-put, lookup-write}
use Rattle.apollo_folding.proofs.NotingLemmas.{noting-none}
use Rattle.apollo_folding.specs.Joins.{ForFirst}
use Rattle.apollo_folding.specs.Noting.{noting}
use Rattle.apollo_folding.specs.declared.fold.Fold.{Fold}
use Rattle.apollo_schema.proofs.Stands.FaultLemmas.{found_at-new, found_at-again, found_at-early}
use Rattle.apollo_schema.proofs.Stands.FaultLemmas.{found_at-late, parts-forget}
use Rattle.apollo_schema.proofs.Stands.WaitingLemmas.{orphans_of-undefined, type_names-new, type_names-again}
use Rattle.apollo_schema.proofs.Stands.WaitingLemmas.{type_names-undefined, first-again, first-other}
use Rattle.apollo_schema.proofs.Stands.WaitingLemmas.{first-own, orphans_of-new, orphans_of-again}
use Rattle.apollo_schema.proofs.Stands.WaitingLemmas.{orphans_of-late, orphans_of-early, orphans_of-neither}

-- a list with an item that folds these folds that many more
counted : (start : ℕ) (xs : List ListItem) (x : ListItem) (ps : List TypePart) (ss : List SchemaPart)
    (before : ℕ) → before ≡ start + length (folded xs) → types_folded_at xs x ≡ ps
    → schemas_folded_at xs x ≡ ss → before + (length ps + length ss) ≡ start + length (folded (xs ++ x ∷ []))
counted start xs x ps ss before was types schemas = grind (
  arith,
  length-append (map OfType (types_folded_at xs x)) (map OfSchema (schemas_folded_at xs x)),
  length-map (types_folded_at xs x) OfType,
  length-map (schemas_folded_at xs x) OfSchema,
  folded-push xs x,
  length-append (folded xs) (folded_at xs x),
)

-- extensions that are taken out under a name, or get one more, as items
none_if : (b : Bool) (ps : List TypePart) → cond b [] (map Extended ps) ≡ map Extended (cond b [] ps)
none_if b ps = grind arith

one_more_if : (b : Bool) (p : TypePart) (ps : List TypePart)
    → cond b (map Extended ps ++ Extended p ∷ []) (map Extended ps) ≡ map Extended (cond b (ps ++ p ∷ []) ps)
one_more_if b p ps = grind (arith, map-append Extended ps (p ∷ []))

module _ {start : ℕ} {xs : List ListItem} {t : Tables} (was : Stands start xs t) where
  pub at : next_number t.fold.ids ≡ start + length (folded xs)
  at = ap next_number was.next

  -- how many are folded where an item folds these
  pub counted_at : (x : ListItem) (ps : List TypePart) (ss : List SchemaPart) → types_folded_at xs x ≡ ps
      → schemas_folded_at xs x ≡ ss
      → next_number t.fold.ids + (length ps + length ss) ≡ start + length (folded (xs ++ x ∷ []))
  counted_at x ps ss = counted start xs x ps ss _ at

  -- a name has a type exactly if it has a definition
  known : (n : List ℕ) → is_some (lookup (by_text n) t.types) ≡ is_some (first xs n)
  known n = rw (was.types.each n) (is_some-map _ _)

  undefined : (n : List ℕ) → is_some (lookup (by_text n) t.types) ≡ false → first xs n ≡ None
  undefined n h = none-of _ (sym (known n) ∙ h)

  defined : (n : List ℕ) → is_some (lookup (by_text n) t.types) ≡ true
      → (d : TypePart) × (first xs n ≡ Some d)
  defined n h = by (first xs n) refl
    where
      by : (o : Option TypePart) → first xs n ≡ o → (d : TypePart) × (first xs n ≡ Some d)
      by None e = let g = sym h ∙ known n ∙ ap is_some e in cc
      by (Some d) e = (d, e)

  -- what is folded at the first definition of a name, and at an extension of a name that has a type
  new-were : (p : TypePart) (es : List TypePart) → is_some (lookup (by_text (key_of p)) t.types) ≡ false
      → es ≡ filter_map extended_part (items_held (lookup (by_text (key_of p)) t.waiting))
      → es ≡ extensions_of xs (key_of p)
  new-were p es absent were = rw (
    were,
    was.waiting (key_of p),
    filter_map-made extended_part Extended (λ p. refl) _,
    orphans_of-undefined xs _ (undefined _ absent),
  )

  new-folded : (p : TypePart) (es : List TypePart) → is_some (lookup (by_text (key_of p)) t.types) ≡ false
      → es ≡ filter_map extended_part (items_held (lookup (by_text (key_of p)) t.waiting))
      → types_folded_at xs (Defined p) ≡ of_kind (kind_of p) es
  new-folded p es absent were = types_folded_at-new xs p (undefined _ absent)
      ∙ ap (of_kind (kind_of p)) (sym (new-were p es absent were))

  late-type : (p : TypePart) (ty : ExtendedType) (d : TypePart)
      → lookup (by_text (key_of p)) t.types ≡ Some ty → first xs (key_of p) ≡ Some d
      → ty ≡ type_from d (parts start (folded xs) (key_of p) d)
  late-type p ty d there some = grind (arith, there, was.types.each (key_of p), some)

  late-kind : (p : TypePart) (ty : ExtendedType) (d : TypePart)
      → lookup (by_text (key_of p)) t.types ≡ Some ty → first xs (key_of p) ≡ Some d
      → type_kind ty ≡ kind_of d
  late-kind p ty d there some = rw (late-type p ty d there some) (type_kind-from d _)

  late-folded : (p : TypePart) (ty : ExtendedType) → lookup (by_text (key_of p)) t.types ≡ Some ty
      → types_folded_at xs (Extended p) ≡ of_kind (type_kind ty) (p ∷ [])
  late-folded p ty there =
      let d = (defined _ (ap is_some there)).0 in
      let some : first xs (key_of p) ≡ Some d = (defined _ (ap is_some there)).1 in
      types_folded_at-late xs p d some ∙ ap (λ k. of_kind k (p ∷ [])) (sym (late-kind p ty d there some))

  -- numbers that are spent there are spent by the list
  pub new-spent : (p : TypePart) (es : List TypePart) → is_some (lookup (by_text (key_of p)) t.types) ≡ false
      → es ≡ filter_map extended_part (items_held (lookup (by_text (key_of p)) t.waiting))
      → 2 ^ 64 ≤ next_number t.fold.ids + length (of_kind (kind_of p) es)
      → 2 ^ 64 ≤ start + length (folded (xs ++ Defined p ∷ []))
  new-spent p es absent were full =
      omega (arith, counted_at (Defined p) _ [] (new-folded p es absent were) refl)

  pub late-spent : (p : TypePart) (ty : ExtendedType) → lookup (by_text (key_of p)) t.types ≡ Some ty
      → 2 ^ 64 ≤ next_number t.fold.ids + length (of_kind (type_kind ty) (p ∷ []))
      → 2 ^ 64 ≤ start + length (folded (xs ++ Extended p ∷ []))
  late-spent p ty there full =
      let folding = late-folded p ty there in
      omega (arith, counted_at (Extended p) _ [] folding refl)

  -- the directive definitions after an item that is none
  pub same_directives : (x : ListItem) (u : Tables) → u.directive_definitions ≡ t.directive_definitions
      → directive_part x ≡ None
      → AreDirectivesOf (directive_definitions (xs ++ x ∷ [])) u.directive_definitions
  same_directives x u same none = subst (λ ds. AreDirectivesOf ds u.directive_definitions)
      (sym (filter_map-push_none directive_part xs x none))
      (subst (AreDirectivesOf (directive_definitions xs)) (sym same) was.directives)

  -- the schema definition, and what waits for it, after an item that concerns neither
  same_definition : (x : ListItem) (u : Tables) → u.schema_definition ≡ t.schema_definition
      → defined_schema x ≡ None → schemas_folded_at xs x ≡ []
      → u.schema_definition ≡ schema_of start (folded (xs ++ x ∷ [])) (xs ++ x ∷ [])
  same_definition x u same undefined none =
      rw (same, schema_of-same start xs x (first_schema-push_undefined xs x undefined) none) was.definition

  same_orphans : (x : ListItem) (u : Tables) → u.schema_extensions ≡ t.schema_extensions
      → defined_schema x ≡ None → extended_schema x ≡ None
      → map schema_extension_part u.schema_extensions ≡ schema_orphans (xs ++ x ∷ [])
  same_orphans x u same undefined unextended =
      rw (same, first_schema-push_undefined xs x undefined, schema_extensions-push_unextended xs x unextended)
      was.orphans

  -- the types after an item that concerns none
  pub same_types : (x : ListItem) (u : Tables) → u.types ≡ t.types → defined_part x ≡ None
      → types_folded_at xs x ≡ [] → AreTypesOf start (folded (xs ++ x ∷ [])) (xs ++ x ∷ []) u.types
  same_types x u same undefined none = record {
    names = ap keys_of same ∙ was.types.names ∙ sym (type_names-undefined xs x undefined);
    each = λ n. ap (lookup (by_text n)) same ∙ was.types.each n
        ∙ sym (type_of-same start xs x n (first-push_undefined xs x undefined n)
        (subst (Apart n) (sym none) tt));
  }

  -- the types after an item that folds extensions of one name alone, whose type is this one then
  type_each : (x : ListItem) (k : List ℕ) (ty : ExtendedType) → Own k (types_folded_at xs x)
      → ((n : List ℕ) → same n k ≡ false → first (xs ++ x ∷ []) n ≡ first xs n)
      → type_of start (folded (xs ++ x ∷ [])) (xs ++ x ∷ []) k ≡ Some ty → (n : List ℕ)
      → cond (same n k) (Some ty) (lookup (by_text n) t.types) ≡ type_of start (folded (xs ++ x ∷ [])) (xs
      ++ x ∷ []) n
  type_each x k ty own others here n = by (same n k) refl
    where
      by : (b : Bool) → same n k ≡ b
          → cond b (Some ty) (lookup (by_text n) t.types) ≡ type_of start (folded (xs ++ x ∷ [])) (xs
          ++ x ∷ []) n
      by true e = sym here ∙ ap (type_of start (folded (xs ++ x ∷ [])) (xs ++ x ∷ [])) (sym (same-true n k e))
      by false e = was.types.each n ∙ sym (type_of-same start xs x n (others n e) (Apart-own n k _ e own))

  -- what waits under names after an item that neither defines nor extends a type
  pub same_waiting : (x : ListItem) (u : Tables) → u.waiting ≡ t.waiting → defined_part x ≡ None
      → extended_part x ≡ None → (n : List ℕ)
      → items_held (lookup (by_text n) u.waiting) ≡ map Extended (orphans_of (xs ++ x ∷ []) n)
  same_waiting x u same undefined unextended n = rw (same, orphans_of-neither xs x undefined unextended n)
      (was.waiting n)

  -- the names under which something waits after an item that adds none
  pub same_names : (x : ListItem) (u : Tables) → keys_of u.waiting ≡ keys_of t.waiting → waited_at xs x ≡ []
      → keys_of u.waiting ≡ waited (xs ++ x ∷ [])
  same_names x u same none = grind (arith, same, was.names, none, waited-push xs x, append-nil)

  -- the faults after an item at which these are found
  pub more_faults : (x : ListItem) (u : Tables) (es : List Fault) → u.fold.faults ≡ t.fold.faults ++ es
      → found_at xs x ≡ es → u.fold.faults ≡ found (xs ++ x ∷ [])
  more_faults x u es more is = grind (arith, more, is, was.faults, found-push xs x)

  -- what was found, and the numbers, after an item that folds nothing and at which these are found
  pub noted : (x : ListItem) (u : Tables) (es : List Fault) → u.fold ≡ noting es t.fold → found_at xs x ≡ es
      → types_folded_at xs x ≡ [] → schemas_folded_at xs x ≡ []
      → (u.fold.faults ≡ found (xs ++ x ∷ []))
      × (u.fold.ids ≡ source_at (start + length (folded (xs ++ x ∷ []))))
  noted x u es same is types schemas = (
    more_faults x u es (ap (λ (f : Fold). f.faults) same) is,
    ap (λ (f : Fold). f.ids) same ∙ was.next
        ∙ ap source_at (sym at ∙ omega arith ∙ counted_at x [] [] types schemas),
  )

  -- a further definition of a name changes nothing, and is at fault
  pub Stands-again : (p : TypePart) (u : Tables) (ty : ExtendedType)
      → lookup (by_text (key_of p)) t.types ≡ Some ty → u.schema_definition ≡ t.schema_definition
      → u.schema_extensions ≡ t.schema_extensions → u.types ≡ t.types
      → u.directive_definitions ≡ t.directive_definitions → u.waiting ≡ t.waiting
      → ForFirst ty (λ d. u.fold ≡ noting (further_definition d p) t.fold)
      → Stands start (xs ++ Defined p ∷ []) u
  Stands-again p u ty there definition extensions types directives waiting fold =
      let d = (defined _ (ap is_some there)).0 in
      let some : first xs (key_of p) ≡ Some d = (defined _ (ap is_some there)).1 in
      let none_folded = types_folded_at-again xs p d some in
      let now = noted _ u _ (fold d (parts start (folded xs) (key_of p) d) (late-type p ty d there some))
      (found_at-again xs p d some) none_folded refl in
      record {
        definition = same_definition _ u definition refl refl;
        orphans = same_orphans _ u extensions refl refl;
        types = record {
          names = ap keys_of types ∙ was.types.names ∙ sym (type_names-again xs p (ap is_some some));
          each = λ n. ap (lookup (by_text n)) types ∙ was.types.each n
              ∙ sym (type_of-same start xs _ n (first-again xs p n d some)
              (subst (Apart n) (sym none_folded) tt));
        };
        directives = same_directives _ u directives refl;
        waiting = λ n. ap (λ l. items_held (lookup (by_text n) l)) waiting ∙ was.waiting n
            ∙ sym (ap (map Extended) (orphans_of-again xs p n d some));
        names = same_names _ u (ap keys_of waiting) refl;
        faults = now.0;
        next = now.1;
      }

  -- the first definition of a name makes its type
  pub Stands-new : (p : TypePart) (u : Tables) (ty : ExtendedType) (es : List TypePart)
      → is_some (lookup (by_text (key_of p)) t.types) ≡ false
      → es ≡ filter_map extended_part (items_held (lookup (by_text (key_of p)) t.waiting))
      → ty ≡ type_from p ((origins.Definition, p) ∷ map extension_part (numbered (next_number t.fold.ids)
      (of_kind (kind_of p) es))) → u.schema_definition ≡ t.schema_definition
      → u.schema_extensions ≡ t.schema_extensions → u.types ≡ insert_entry same_text t.types p.name ty
      → u.directive_definitions ≡ t.directive_definitions → keys_of u.waiting ≡ keys_of t.waiting
      → u.fold.faults ≡ t.fold.faults ++ (part_faults [] p ++ joining_faults p (p ∷ []) es)
      → ((n : List ℕ) → items_held (lookup (by_text n) u.waiting) ≡ cond (same n (key_of p)) []
      (items_held (lookup (by_text n) t.waiting)))
      → u.fold.ids ≡ source_at (next_number t.fold.ids + length (of_kind (kind_of p) es))
      → Stands start (xs ++ Defined p ∷ []) u
  Stands-new p u ty es absent were made definition extensions types directives names errors waiting next =
      let none = undefined _ absent in
      let folding : types_folded_at xs (Defined p) ≡ of_kind (kind_of p) es = new-folded p es absent were in
      let own : Own _ _ = subst (Own _) (sym (types_folded_at-new xs p none)) (Own-of_kind _ _
      _ (Own-named _ (filter_map extended_part xs))) in
      let here : type_of start (folded (xs ++ Defined p ∷ [])) (xs ++ Defined p ∷ []) (key_of p) ≡ Some ty =
      type_of-new start xs _ _ p none (first-own xs p none) own
      ∙ ap (λ (l : List TypePart). Some (type_from p ((origins.Definition, p)
      ∷ map extension_part (numbered (start + length (folded xs)) l)))) folding
      ∙ ap (λ (i : ℕ). Some (type_from p ((origins.Definition, p)
      ∷ map extension_part (numbered i (of_kind (kind_of p) es))))) (sym at) ∙ ap (λ s. Some s) (sym made) in
      record {
        definition = same_definition _ u definition refl refl;
        orphans = same_orphans _ u extensions refl refl;
        types = record {
          names = ap keys_of types ∙ keys-put t.types p.name ty absent
              ∙ ap (λ l. l ++ p.name ∷ []) was.types.names ∙ sym (type_names-new xs p (ap is_some none));
          each = λ n. ap (lookup (by_text n)) types ∙ lookup-put n t.types p.name ty
              ∙ type_each _ _ ty own (first-other xs p) here n;
        };
        directives = same_directives _ u directives refl;
        names = same_names _ u names refl;
        faults = more_faults _ u _ errors (found_at-new xs p none
            ∙ ap (λ l. part_faults [] p ++ joining_faults p (p ∷ []) l) (sym (new-were p es absent were)));
        waiting = λ n. waiting n ∙ ap (cond (same n (key_of p)) []) (was.waiting n)
            ∙ none_if _ (orphans_of xs n) ∙ sym (ap (map Extended) (orphans_of-new xs p n none));
        next = next
            ∙ ap source_at (omega arith ∙ counted_at (Defined p) (of_kind (kind_of p) es) [] folding refl);
      }

  -- an extension before its definition waits
  pub Stands-early : (p : TypePart) (u : Tables) → u.schema_definition ≡ t.schema_definition
      → u.schema_extensions ≡ t.schema_extensions → u.types ≡ t.types
      → u.directive_definitions ≡ t.directive_definitions → u.fold ≡ t.fold
      → keys_of u.waiting ≡ cond (is_some (lookup (by_text (key_of p)) t.waiting)) (keys_of t.waiting)
      (keys_of t.waiting ++ p.name ∷ []) → is_some (lookup (by_text (key_of p)) t.types) ≡ false
      → ((n : List ℕ) → items_held (lookup (by_text n) u.waiting) ≡ cond (same n (key_of p)) (items_held
      (lookup (by_text n) t.waiting) ++ Extended p ∷ []) (items_held (lookup (by_text n) t.waiting)))
      → Stands start (xs ++ Extended p ∷ []) u
  Stands-early p u definition extensions types directives fold names absent waiting =
      let none = undefined _ absent in
      let none_folded = types_folded_at-early xs p none in
      let now = noted _ u [] (fold ∙ sym (noting-none t.fold)) (found_at-early xs p none) none_folded refl in
      record {
        definition = same_definition _ u definition refl refl;
        orphans = same_orphans _ u extensions refl refl;
        types = same_types _ u types refl none_folded;
        directives = same_directives _ u directives refl;
        names = waited-early xs p t.waiting _ none was.names names;
        faults = now.0;
        waiting = λ n. waiting n ∙ ap (λ l. cond (same n (key_of p)) (l ++ Extended p ∷ []) l) (was.waiting n)
            ∙ one_more_if _ p _ ∙ sym (ap (map Extended) (orphans_of-early xs p n none));
        next = now.1;
      }

  -- an extension of a name that has a type is folded in, if it has the kind
  pub Stands-late : (p : TypePart) (u : Tables) (ty grown : ExtendedType)
      → lookup (by_text (key_of p)) t.types ≡ Some ty → u.schema_definition ≡ t.schema_definition
      → u.schema_extensions ≡ t.schema_extensions → u.types ≡ set_value (by_text (key_of p)) t.types grown
      → u.directive_definitions ≡ t.directive_definitions → u.waiting ≡ t.waiting
      → ((head : TypePart) (done : List Sourced) → ty ≡ type_from head done
      → u.fold.faults ≡ t.fold.faults ++ joining_faults head (map (λ (s : Sourced). s.1) done) (p ∷ []))
      → ((head : TypePart) (done : List Sourced) → ty ≡ type_from head done → grown ≡ type_from head
      (done ++ map extension_part (numbered (next_number t.fold.ids) (of_kind (kind_of head) (p ∷ [])))))
      → u.fold.ids ≡ source_at (next_number t.fold.ids + length (of_kind (type_kind ty) (p ∷ [])))
      → Stands start (xs ++ Extended p ∷ []) u
  Stands-late p u ty grown there definition extensions types directives waiting errors made next =
      let d = (defined _ (ap is_some there)).0 in
      let some : first xs (key_of p) ≡ Some d = (defined _ (ap is_some there)).1 in
      let is = late-type p ty d there some in
      let folding = types_folded_at-late xs p d some in
      let own : Own _ _ = subst (Own _) (sym folding)
      (Own-of_kind _ _ (p ∷ []) (same-is _ (key_of p) refl, tt)) in
      let here : type_of start (folded (xs ++ Extended p ∷ [])) (xs ++ Extended p ∷ []) (key_of p)
      ≡ Some grown = type_of-more start xs _ _ d (first-push_undefined xs _ refl _
      ∙ some) own ∙ ap (λ (l : List TypePart). Some (type_from d (parts start (folded xs) (key_of p) d
      ++ map extension_part (numbered (start + length (folded xs)) l)))) folding
      ∙ ap (λ (i : ℕ). Some (type_from d (parts start (folded xs) (key_of p) d ++ map extension_part
      (numbered i (of_kind (kind_of d) (p ∷ [])))))) (sym at) ∙ ap (λ s. Some s) (sym (made d _ is)) in
      record {
        definition = same_definition _ u definition refl refl;
        orphans = same_orphans _ u extensions refl refl;
        types = record {
          names = ap keys_of types ∙ keys-set_value _ t.types grown
              ∙ was.types.names ∙ sym (type_names-undefined xs _ refl);
          each = λ n. ap (lookup (by_text n)) types ∙ lookup-write n _ t.types ty grown there
              ∙ type_each _ (key_of p) grown own (λ n e. first-push_undefined xs (Extended p) refl n) here n;
        };
        directives = same_directives (Extended p) u directives refl;
        waiting = λ n. ap (λ l. items_held (lookup (by_text n) l)) waiting ∙ was.waiting n
            ∙ sym (ap (map Extended) (orphans_of-late xs p n d some));
        names = same_names (Extended p) u (ap keys_of waiting) (waited-late xs p d some);
        faults = more_faults (Extended p) u _ (errors d (parts start (folded xs) (key_of p) d) is)
            (found_at-late xs p d some
            ∙ ap (λ l. joining_faults d l (p ∷ [])) (sym (parts-forget start xs (key_of p) d some)));
        next = next ∙ ap source_at (omega arith
            ∙ counted_at (Extended p) (of_kind (type_kind ty) (p ∷ [])) [] (late-folded p ty there) refl);
      }

  -- something else changes no type, no schema definition, nothing that waits, and no number
  pub Stands-other : (d : Definition) (u : Tables) → u.schema_definition ≡ t.schema_definition
      → u.schema_extensions ≡ t.schema_extensions → u.types ≡ t.types → u.waiting ≡ t.waiting
      → AreDirectivesOf (directive_definitions xs ++ directive_definitions (Other d ∷ []))
      u.directive_definitions → u.fold ≡ noting (other_faults (directive_definitions xs) d) t.fold
      → Stands start (xs ++ Other d ∷ []) u
  Stands-other d u definition extensions types waiting directives fold =
      let now = noted (Other d) u _ fold refl refl refl in
      record {
        definition = same_definition (Other d) u definition refl refl;
        orphans = same_orphans (Other d) u extensions refl refl;
        types = same_types (Other d) u types refl refl;
        directives = subst (λ ds. AreDirectivesOf ds u.directive_definitions)
            (sym (filter_map-append directive_part xs _)) directives;
        waiting = same_waiting (Other d) u waiting refl refl;
        names = same_names (Other d) u (ap keys_of waiting) refl;
        faults = now.0;
        next = now.1;
      }
