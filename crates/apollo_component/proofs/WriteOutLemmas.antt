-- What one more component adds to the parts of each origin.
use Rattle.std.proofs.Common.{◌≡◌, false, List, [], ◌∷◌, ◌++◌, Option, true, map, refl, sym, ap, ◌∙◌, arith}
use Rattle.std.proofs.Common.{filter}
use Rattle.std.specs.List.{filter_map, list_any}
use Rattle.std.specs.Map.{lookup}
use Rattle.std.specs.Prelude.{unwrap_or}
use Rattle.std.specs.Cmp.{IsEquivalence, on_equiv, nat_eq_equiv}
use Rattle.std.proofs.lemmas.List.{append-nil, map-append}
use Rattle.std.proofs.lemmas.List.Elements.{filter_map-append}
use Rattle.indexmap.specs.IndexMap.{insert_entry}
use Rattle.graphql_ast.specs.Parts.{of_sort, with_lists, with_some, parts_of, no_parts, with_part}
use Rattle.graphql_ast.specs.declared.parts.Part.{Part}
use Rattle.graphql_ast.specs.declared.parts.Parts.{Parts}
use Rattle.apollo_component.specs.Extensions.{id_of, number_of, same_id, same_origin}
use Rattle.apollo_component.specs.ExtensionTables.{with_extension_part}
use Rattle.apollo_component.specs.FirstOfEach.{first_of_each}
use Rattle.apollo_component.specs.WriteOut.{SourcedPart, origins_in, of_origin, of_extensions, by_origin}
use Rattle.apollo_component.specs.declared.extension.ComponentOrigin.{ComponentOrigin}
use Rattle.apollo_component.specs.declared.extension.ComponentOrigin.TheVariants.{Definition, Extension}
use Rattle.apollo_component.specs.declared.extension.ExtensionId.{ExtensionId}
use Rattle.apollo_component.specs.declared.parts_by_origin.PartsByOrigin.{PartsByOrigin}
use Rattle.apollo_component.proofs.FirstOfEachLemmas.{list_any-first_of_each}
use Rattle.apollo_component.proofs.Lists.Ends.{filter-push_dropped, filter-push_kept}
use Rattle.apollo_component.proofs.Tabled.{tabled, first_of_each-distinct, first_of_each-insert}
use Rattle.apollo_component.proofs.Tabled.{tabled-insert, lookup-tabled}

same_id-equiv : IsEquivalence same_id
same_id-equiv = on_equiv number_of nat_eq_equiv

-- one more is the last that is chosen, if it is
filter_map-push : {X Y : Type 0} (which : X → Option Y) (xs : List X) (x : X)
    → filter_map which (xs ++ x ∷ []) ≡ with_some (which x) (filter_map which xs)
filter_map-push which xs x =
    grind (arith, filter_map-append which xs (x ∷ []), append-nil (filter_map which xs))

module _ (cs : List SourcedPart) (c : SourcedPart) where
  -- so with identities
  ids-push : filter_map id_of (origins_in (cs ++ c ∷ [])) ≡ with_some (id_of c.0)
      (filter_map id_of (origins_in cs))
  ids-push = simp (map-append, filter_map-push)

  module _ (origin : ComponentOrigin) where
    abbrev its : List SourcedPart
    its = filter (λ c. same_origin origin c.0) cs

    -- a component is of its origin, the last part of its sort
    of_origin-own : same_origin origin c.0 ≡ true
        → of_origin origin (cs ++ c ∷ []) ≡ with_part c.1 (of_origin origin cs)
    of_origin-own e = ap (λ l. parts_of (map (λ c. c.1) l)) (filter-push_kept _ cs c e)
        ∙ ap parts_of (map-append _ its _)
        ∙ (λ i. with_lists (λ s. filter_map-push (of_sort s) (map (λ c. c.1) its) c.1 i))

    -- and of no other
    of_origin-other : same_origin origin c.0 ≡ false → of_origin origin (cs ++ c ∷ []) ≡ of_origin origin cs
    of_origin-other e = ap (λ l. parts_of (map (λ c. c.1) l)) (filter-push_dropped _ cs c e)

-- identities of one number have the same parts
of_origin-number : (cs : List SourcedPart) (a b : ExtensionId) → same_id a b ≡ true
    → of_origin (Extension b) cs ≡ of_origin (Extension a) cs
of_origin-number cs a b e = λ i. parts_of (map (λ c. c.1) (filter (λ c. one c.0 i) cs))
  where
    one : (o : ComponentOrigin) → same_origin (Extension b) o ≡ same_origin (Extension a) o
    one Definition = refl
    one (Extension d) = sym (same_id-equiv.congr a b d e)

-- an identity that isn't there has no parts
of_origin-none : (cs : List SourcedPart) (id : ExtensionId)
    → list_any (same_id id) (filter_map id_of (origins_in cs)) ≡ false
    → of_origin (Extension id) cs ≡ no_parts
of_origin-none cs id none = ap (λ l. parts_of (map (λ c. c.1) l)) (nothing cs none)
  where
    nothing : (cs : List SourcedPart) → list_any (same_id id) (filter_map id_of (origins_in cs)) ≡ false
        → filter (λ c. same_origin (Extension id) c.0) cs ≡ []
    nothing [] h = refl
    nothing ((Definition, p) ∷ cs) h = nothing cs h
    nothing ((Extension e, p) ∷ cs) h = grind (arith, nothing cs)

module _ (b : PartsByOrigin) (cs : List SourcedPart) (was : b ≡ by_origin cs) (p : Part) where
  -- a part of the definition is put there
  pub definition-push : (o : ComponentOrigin) (definition : Parts) → o ≡ Definition
      → definition ≡ with_part p b.definition
      → record { definition = definition; extensions = b.extensions } ≡ by_origin (cs ++ (o, p) ∷ [])
  definition-push o definition is put = rw (is, put, was) (λ i. record {
    definition = sym (of_origin-own cs (Definition, p) Definition refl) i;
    extensions = tabled (λ e. sym (of_origin-other cs (Definition, p) (Extension e) refl) i)
        (first_of_each same_id (sym (ids-push cs (Definition, p)) i));
  })

  module _ (id : ExtensionId) where
    abbrev ids : List ExtensionId
    ids = filter_map id_of (origins_in cs)

    abbrev before : ExtensionId → Parts
    before e = of_origin (Extension e) cs

    abbrev after : ExtensionId → Parts
    after e = of_origin (Extension e) (cs ++ (Extension id, p) ∷ [])

    -- it is put at its identity
    of_extensions-insert : insert_entry same_id (of_extensions cs) id (with_part p (before id))
        ≡ of_extensions (cs ++ (Extension id, p) ∷ [])
    of_extensions-insert = ap (insert_entry same_id (of_extensions cs) id)
        (sym (of_origin-own cs (Extension id, p) (Extension id) (same_id-equiv.refl id)))
        ∙ tabled-insert same_id same_id-equiv before after id
        (λ e apart. sym (of_origin-other cs (Extension id, p) (Extension e) (same_id-equiv.symm e id
        ∙ apart))) (of_origin-number (cs ++ (Extension id, p) ∷ []) id) _ (first_of_each-distinct same_id ids)
        ∙ ap (tabled after) (sym (first_of_each-insert same_id same_id-equiv ids id)
        ∙ ap (first_of_each same_id) (sym (ids-push cs (Extension id, p))))

    -- what stands at an identity are its parts
    held : unwrap_or (lookup (same_id id) (of_extensions cs)) no_parts ≡ before id
    held = grind (
      arith,
      lookup-tabled same_id same_id-equiv before id (of_origin-number cs id) (first_of_each same_id ids),
      list_any-first_of_each same_id same_id-equiv id ids,
      of_origin-none cs id,
    )

    -- so a part of an extension is put there
    pub extension-push : (o : ComponentOrigin) (extensions : List (ExtensionId × Parts)) → o ≡ Extension id
        → extensions ≡ with_extension_part id p b.extensions
        → record { definition = b.definition; extensions = extensions } ≡ by_origin (cs ++ (o, p) ∷ [])
    extension-push o extensions is put = rw (is, put, was) (λ i. record {
      definition = sym (of_origin-other cs (Extension id, p) Definition refl) i;
      extensions = (ap (λ parts. insert_entry same_id (of_extensions cs) id (with_part p parts)) held
          ∙ of_extensions-insert) i;
    })
