-- The lists that documents make, with those of more documents.
use Rattle.std.proofs.Common.{◌≡◌, ℕ, ◌+◌, ◌<◌, ◌≤◌, Bool, false, true, Some, get_or, take}
use Rattle.std.proofs.Common.{List, [], ◌∷◌, ◌++◌, length, sym, ap, ◌∙◌, append_assoc}
use Rattle.std.proofs.lemmas.Grind.{flat_map-append}
use Rattle.std.proofs.lemmas.List.{append-nil, map-append, take_all, take_more}
use Rattle.std.proofs.lemmas.List.Sums.{fold_more}
use Rattle.graphql_nodes.specs.Sources.{merged}
use Rattle.graphql_ast.specs.declared.document.Document.{Document}
use Rattle.apollo_meaning.specs.BuiltInTable.{built_in_definitions}
use Rattle.apollo_meaning.specs.Items.ListItems.{added}
use Rattle.apollo_schema.specs.SchemaWriteOut.{write_schema}
use Rattle.apollo_schema.specs.declared.schema.Schema.{Schema}
use Rattle.apollo_schema.specs.BuilderStands as schemas
use Rattle.apollo_schema.specs.BuilderStands.{with_built_ins}
use Rattle.apollo_schema_laws.specs.WrittenAgain.{written_again}
use Rattle.apollo_document.specs.AddedDefinitions.{document_list}
use Rattle.apollo_document.specs.BuilderStands as documents
use Rattle.apollo_compiler.specs.Lists.{all_definitions, all_sources, building_of, document_building_of}
use Rattle.apollo_compiler.specs.Lists.{executable_list, handed_in, schema_list, with_sources}
use Rattle.apollo_compiler.specs.declared.compile_options.CompileOptions.{CompileOptions}

definitions-append : (ds es : List Document)
    → all_definitions (ds ++ es) ≡ all_definitions ds ++ all_definitions es
definitions-append ds es = flat_map-append (λ (document : Document). document.definitions) ds es

handed_in-append : (o : CompileOptions) (ds es : List Document)
    → handed_in o (ds ++ es) ≡ handed_in o ds ++ handed_in o es
handed_in-append o ds es = ap (added o.ignore_builtin_redefinitions) (definitions-append ds es)
    ∙ map-append (λ d. (o.ignore_builtin_redefinitions, d)) (all_definitions ds) (all_definitions es)

pub schema_list-append : (o : CompileOptions) (ds es : List Document)
    → schema_list o (ds ++ es) ≡ schema_list o ds ++ handed_in o es
unfolding schema_list
schema_list-append o ds es = ap with_built_ins (handed_in-append o ds es)
    ∙ sym (append_assoc (added false built_in_definitions) (handed_in o ds) (handed_in o es))

-- that of no documents, and that of one
pub schema_list-nil : (o : CompileOptions) → schema_list o [] ≡ added false built_in_definitions
unfolding schema_list
schema_list-nil o = append-nil (added false built_in_definitions)

pub schema_list-one : (o : CompileOptions) (d : Document)
    → schema_list o (d ∷ []) ≡ with_built_ins (added o.ignore_builtin_redefinitions d.definitions)
unfolding schema_list
schema_list-one o d = ap (λ l. with_built_ins (added o.ignore_builtin_redefinitions l))
    (append-nil d.definitions)

-- one document more
module _ (ds : List Document) (i : ℕ) (d : Document) (lt : i < length ds) (is : d ≡ get_or ds i d) where
  one_more : take (i + 1) ds ≡ take i ds ++ d ∷ []
  one_more = take_more ds i d lt ∙ ap (λ e. take i ds ++ e ∷ []) (sym is)

  schema_list-turn : (o : CompileOptions)
      → schema_list o (take (i + 1) ds) ≡ schema_list o (take i ds) ++ added o.ignore_builtin_redefinitions
      d.definitions
  schema_list-turn o = ap (schema_list o) one_more ∙ schema_list-append o (take i ds) (d ∷ [])
      ∙ ap (λ l. schema_list o (take i ds) ++ added o.ignore_builtin_redefinitions l)
      (append-nil d.definitions)

  executable_list-turn : (b : Bool)
      → executable_list b (take (i + 1) ds) ≡ executable_list b (take i ds) ++ document_list b d.definitions
  executable_list-turn b = ap (executable_list b) one_more
      ∙ ap (document_list b) (definitions-append (take i ds) (d ∷ []) ∙ ap (λ l. all_definitions (take i ds)
      ++ l) (append-nil d.definitions)) ∙ map-append (λ x. (b, x)) (all_definitions (take i ds)) d.definitions

  all_sources-turn : all_sources (take (i + 1) ds) ≡ merged (all_sources (take i ds)) d.sources
  all_sources-turn = fold_more with_sources [] ds i d lt ∙ ap (with_sources (all_sources (take i ds)))
      (sym is)

  pub building_of-turn : (o : CompileOptions)
      → schemas.with_document d (building_of o (take i ds)) ≡ building_of o (take (i + 1) ds)
  building_of-turn o j = record {
    start = 0;
    adopts = o.adopt_orphan_extensions;
    ignores = o.ignore_builtin_redefinitions;
    standing = schemas.Open (sym (schema_list-turn o) j) (sym all_sources-turn j);
  }

  pub document_building_of-turn : (s : Schema) (b : Bool)
      → documents.with_document b d (document_building_of s b (take i ds))
      ≡ document_building_of s b (take (i + 1) ds)
  document_building_of-turn s b j = record {
    schema = Some s;
    standing = documents.Open (sym (executable_list-turn b) j) (sym all_sources-turn j);
  }

-- builders to which all documents were added
pub building_of-all : (o : CompileOptions) (ds : List Document) (i : ℕ) {b : schemas.Building} → length ds ≤ i
    → b ≡ building_of o (take i ds) → b ≡ building_of o ds
building_of-all o ds i all is = is ∙ ap (building_of o) (take_all i ds all)

pub document_building_of-all : (s : Schema) (errors : Bool) (ds : List Document) (i : ℕ)
    {b : documents.Building} → length ds ≤ i → b ≡ document_building_of s errors (take i ds)
    → b ≡ document_building_of s errors ds
document_building_of-all s errors ds i all is = is ∙ ap (document_building_of s errors) (take_all i ds all)

-- a write-out as one document, built again
abbrev pub rebuilding : CompileOptions
rebuilding = record { adopt_orphan_extensions = true; ignore_builtin_redefinitions = false }

pub schema_list-written : (ds : List Document) (d : Document) (schema : Schema) → ds ≡ d ∷ []
    → d.definitions ≡ write_schema schema → schema_list rebuilding ds ≡ written_again false schema
schema_list-written ds d schema one writes = ap (schema_list rebuilding) one ∙ schema_list-one rebuilding d
    ∙ ap (λ l. with_built_ins (added false l)) writes
