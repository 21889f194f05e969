-- What the headline says of the schema that a list means.
use Rattle.std.proofs.Common.{◌≡◌, ◌∙◌, ap, sym, ℕ, Bool, true, false, List, map, Option, None, Some, is_some}
use Rattle.std.proofs.Common.{refl, option_map, unwrap_or, filter_map}
use Rattle.std.specs.List.{enumerate_from}
use Rattle.std.specs.Prelude.{nat_eq}
use Rattle.graphql_nodes.specs.SameText.{same_text}
use Rattle.graphql_nodes.specs.Tables.{HasUniqueKeys}
use Rattle.graphql_ast.specs.declared.document.Document.{Document}
use Rattle.apollo_component.proofs.Lists.Cases.{is_some-map}
use Rattle.apollo_component.specs.FirstOfEach.{first_of_each}
use Rattle.apollo_types.specs.declared.extended_type.ExtendedType.{ExtendedType}
use Rattle.apollo_meaning.specs.Items.ListItems.{Added, ListItem, defined_part}
use Rattle.apollo_meaning.specs.Items.Named.{extensions_of, first, first_schema, of_kind, schema_extensions}
use Rattle.apollo_meaning.specs.Items.Parts.{SchemaPart, TypePart, kind_of}
use Rattle.apollo_meaning.specs.Order.Places.{folding_order}
use Rattle.apollo_meaning.specs.Schema.Definition.{no_schema, schema_from, schema_parts, schema_sourced}
use Rattle.apollo_meaning.specs.Schema.Whole.{whole}
use Rattle.apollo_meaning.specs.Types.Meaning.{parts, extensions_with_origin, type_from, type_names, type_of}
use Rattle.apollo_schema.specs.MeantSchema.{MeansSchema}
use Rattle.apollo_schema.specs.declared.schema.Schema.{Schema}
use Rattle.apollo_schema_laws.specs.WrittenAgain.{IsMeantByList, IsUnmarkedAndRooted, written_again}
use Rattle.apollo_compiler.specs.Compilation.{IsCompiled, IsRebuiltAsItWas}
use Rattle.apollo_compiler.specs.Headline.{IsFolded, IsRebuiltEqual, IsSchemaOf, type_named}
use Rattle.apollo_compiler.specs.Lists.{handed_in, schema_list}
use Rattle.apollo_compiler.specs.declared.compile_options.CompileOptions.{CompileOptions}
use Rattle.apollo_compiler.specs.declared.compiled.Compiled.{Compiled}

-- what laws of lists of definitions say. All extensions of a name's kind are folded for it, and all of the
-- schema's for that. The names of types are the first of each text, and no two extensions have one number
pub record ListLaws : Type 0 where
  pub folded : (start : ℕ) (xs : List ListItem) (n : List ℕ) (d : TypePart) → first xs n ≡ Some d
      → map (λ s. s.1) (extensions_with_origin n start (folding_order xs))
      ≡ of_kind (kind_of d) (extensions_of xs n)
  pub schema_folded : (start : ℕ) (xs : List ListItem) (s : SchemaPart) → first_schema xs ≡ Some s
      → map (λ e. e.1) (schema_sourced start (folding_order xs)) ≡ schema_extensions xs
  pub numbers : (start : ℕ) (xs : List ListItem)
      → HasUniqueKeys nat_eq (enumerate_from start (folding_order xs))
  pub names : (xs : List ListItem) → type_names xs
      ≡ first_of_each same_text (map (λ p. p.name) (filter_map defined_part xs))

module _ (laws : ListLaws) (start : ℕ) (adopts : Bool) (list : List Added) (schema : Schema)
    (means : MeansSchema start adopts list schema) where
  abbrev xs : List ListItem
  xs = whole adopts list

  -- a type of a list is folded of its name's first definition
  folds : (n : List ℕ) (t : ExtendedType) → type_of start (folding_order xs) xs n ≡ Some t
      → IsFolded start xs n t
  folds n t is = by (first xs n) refl is
    where
      by : (o : Option TypePart) → first xs n ≡ o
          → option_map (λ d. type_from d (parts start (folding_order xs) n d)) o ≡ Some t
          → IsFolded start xs n t
      by None e h = cc
      by (Some d) e h = record {
        definition = d;
        is_first = e;
        are_all = laws.folded start xs n d e;
        is = sym (ap (λ (o : Option ExtendedType). unwrap_or o t) h);
      }

  same_names : (n : List ℕ) → is_some (type_named schema n) ≡ is_some (first xs n)
  same_names n = ap (λ (o : Option ExtendedType). is_some o) (means.types.each n)
      ∙ is_some-map (λ (d : TypePart). type_from d (parts start (folding_order xs) n d)) (first xs n)

  pub is-schema : IsSchemaOf start xs schema
  is-schema = record {
    folds = λ n t there. folds n t (sym (means.types.each n) ∙ there);
    defined = λ n. (λ there. sym (same_names n) ∙ there, λ there. same_names n ∙ there);
    order = means.types.names ∙ laws.names xs;
    numbers = laws.numbers start xs;
    directives = means.directives.each;
    directive_order = means.directives.names;
    definition = λ s is. means.definition ∙ ap (λ (o : Option SchemaPart). unwrap_or
        (option_map (λ p. schema_from p (schema_parts start (folding_order xs) p)) o) no_schema) is;
    extended = laws.schema_folded start xs;
    without_definition = λ none. means.definition ∙ ap (λ (o : Option SchemaPart). unwrap_or
        (option_map (λ p. schema_from p (schema_parts start (folding_order xs) p)) o) no_schema) none;
  }

-- so the rebuild of what is compiled is as it was
pub rebuilt-as_it_was : ((schema rebuilt : Schema) → IsMeantByList schema → (ignores : Bool) (start : ℕ)
    → MeansSchema start true (written_again ignores schema) rebuilt → IsRebuiltEqual ignores schema rebuilt)
    → (options : CompileOptions) (schema_documents executable_documents : List Document) (errors : Bool)
    (compiled : Compiled) → IsCompiled options schema_documents executable_documents errors compiled
    → IsUnmarkedAndRooted (handed_in options schema_documents) → IsRebuiltAsItWas compiled
unfolding schema_list
rebuilt-as_it_was rebuilds options schema_documents executable_documents errors compiled is within =
    let meant : IsMeantByList compiled.schema = record {
      start = 0;
      adopts = options.adopt_orphan_extensions;
      more = handed_in options schema_documents;
      within = within;
      means = is.schema;
    } in
    let again = rebuilds compiled.schema compiled.rebuilt meant false 0 is.rebuilt in
    record {
      faultless = is.rebuilt_faults ∙ again.faultless;
      equal = again.equal;
      same = is.rebuilt_ast ∙ again.same ∙ sym is.ast;
    }
