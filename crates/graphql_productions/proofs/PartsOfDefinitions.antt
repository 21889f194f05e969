-- All parts of definitions and extensions are as is asked.
use Rattle.std.proofs.Common.{Bool, List, Option, false, not, refl, sym, true, ℕ, ◌&&◌, ◌++◌, ◌||◌, ◌∙◌, ◌≡◌}
use Rattle.std.specs.List.{flat_map}
use Rattle.graphql_nodes.specs.NameView.{NameView}
use Rattle.graphql_nodes.specs.declared.source.FileId.{FileId}
use Rattle.graphql_nodes.specs.declared.source.SourceSpan.{SourceSpan}
use Rattle.graphql_nodes.specs.declared.type_kind.TypeKind.{TypeKind}
use Rattle.graphql_nodes.specs.declared.type_kind.TypeKind.TheVariants as t
use Rattle.graphql_ast.specs.Declarations.{type_definition, type_extension}
use Rattle.graphql_ast.specs.Parts.{directive_list}
use Rattle.graphql_ast.specs.declared.definition.Definition.{Definition}
use Rattle.graphql_ast.specs.declared.parts.Parts.{Parts}
use Rattle.graphql_grammar.specs.declared.fault.Item.TheVariants as i
use Rattle.graphql_grammar.specs.declared.kind.Kind.TheVariants as k
use Rattle.graphql_grammar.specs.Kinds.{only}
use Rattle.graphql_grammar.specs.Pieces.{mapped, optional, seq, sign}
use Rattle.graphql_grammar.specs.Words.{WordView}
use Rattle.graphql_grammar.proofs.PieceLaws.{sign_law}
use Rattle.graphql_productions.specs.DefinitionTreeParts.{definition_parts, description_parts, document_parts}
use Rattle.graphql_productions.specs.DefinitionTreeParts.{input_values_parts, root_parts}
use Rattle.graphql_productions.specs.Directives.{directives}
use Rattle.graphql_productions.specs.Documents.{definition, definition_pick, document}
use Rattle.graphql_productions.specs.Nodes.{span_at}
use Rattle.graphql_productions.specs.Operations.{is_operation_type}
use Rattle.graphql_productions.specs.TreeParts.{Name, Node, TreePart, Wanted, directives_parts, node_parts}
use Rattle.graphql_productions.specs.TypeSystem.{Described, described, described_pick, directive_body}
use Rattle.graphql_productions.specs.TypeSystem.{expecting, extended, extended_pick, extension}
use Rattle.graphql_productions.specs.TypeSystem.{extension_body, has_part, is_described, is_description}
use Rattle.graphql_productions.specs.TypeSystem.{is_none, keyword, location, no_described, optional_roots}
use Rattle.graphql_productions.specs.TypeSystem.{schema_body, schema_extension_body, schema_parts}
use Rattle.graphql_productions.specs.TypeSystem.{system_definition, type_body}
use Rattle.graphql_productions.proofs.DefinitionLaws.{by_type_kind_each, system_definition_tame}
use Rattle.graphql_productions.proofs.PartLaws.{Covered, Holds, Serves, Yields, anything, begun_front}
use Rattle.graphql_productions.proofs.PartLaws.{branch_covered, branch_yields, choose_covered, choose_yields}
use Rattle.graphql_productions.proofs.PartLaws.{filtered_yields, inside, item_covered, join, listed_covered}
use Rattle.graphql_productions.proofs.PartLaws.{mapped_yields, no_parts, nothing_covered, nothing_yields}
use Rattle.graphql_productions.proofs.PartLaws.{place_covered, separated_covered, seq_covered, seq_yields}
use Rattle.graphql_productions.proofs.PartLaws.{some_covered, yielded}
use Rattle.graphql_productions.proofs.PartsOfValues.{directives_covered, name_covered}
use Rattle.graphql_productions.proofs.PartsOfOperations.{fragment_covered, operation_definition_covered}
use Rattle.graphql_productions.proofs.PartsOfOperations.{shorthand_definition_covered}
use Rattle.graphql_productions.proofs.PartsOfTypeSystem.{IsBody, input_values_covered}
use Rattle.graphql_productions.proofs.PartsOfTypeSystem.{optional_description_covered, parts_yield}
use Rattle.graphql_productions.proofs.PartsOfTypeSystem.{roots_covered}

module _ {asked : TreePart → Type 0} {file : FileId} {Known : List WordView → Type 0}
    (serves : Serves asked file Known) where
  -- ---- definitions of types

  -- a definition whose description and location are as is asked is so whole
  abbrev IsDescribed : Described → Type 0
  IsDescribed f = (description : Option NameView) (location : Option SourceSpan)
      → Holds asked (description_parts description) → asked (Node location)
      → Holds asked (definition_parts (f description location))

  type_made : (kind : TypeKind) (p : Parts) → IsBody serves kind p → (name : NameView) → asked (Name name)
      → IsDescribed (λ description location. type_definition kind description name p location)
  type_made t.Scalar p body text n o at d l = (l, join asked (description_parts o) _ d (n, body.0))
  type_made kind p body text n o at d l = (l, join asked (description_parts o) _ d (n, body.0))

  type_yields : (kind : TypeKind) (depth : ℕ) → Yields Known (type_body file kind depth) IsDescribed
  unfolding type_body
  type_yields kind depth =
      mapped_yields (seq_yields serves (anything (sign (keyword kind)))
      (seq_yields serves (yielded (name_covered serves)) (parts_yield serves kind depth)))
      (λ x all. type_made kind x.1.1 all.1.1 x.1.0 all.1.0.0)

  -- ---- definitions of the schema and of directives

  schema_yields : (depth : ℕ) → Yields Known (schema_body file depth) IsDescribed
  unfolding schema_body
  schema_yields depth =
      mapped_yields (seq_yields serves (anything (sign k.Schema))
      (yielded (seq_covered (directives_covered serves true depth) (roots_covered serves depth))))
      (λ x all description location d l. (l, join asked (description_parts description) _ d all.1))

  directive_yields : (depth : ℕ) → Yields Known (directive_body file depth) IsDescribed
  unfolding directive_body
  directive_yields depth =
      mapped_yields (seq_yields serves (anything (sign k.Directive)) (seq_yields serves (anything (sign k.At))
      (yielded (seq_covered (name_covered serves)
      (seq_covered (input_values_covered serves k.LeftParen k.RightParen depth)
      (seq_covered (no_parts (optional (sign k.Repeatable))) (seq_covered (no_parts (sign k.On))
      (separated_covered k.Pipe (no_parts location))))))))) (λ x all description location d l. (
        l,
        join asked (description_parts description) _ d
            (all.1.1.0, inside asked (input_values_parts x.1.1.1.0) _ _ (λ rest. (rest.0, tt)) all.1.1.1),
      ))

  described_yields : (depth : ℕ) → Yields Known (described file depth) IsDescribed
  described_yields depth = branch_yields (described_pick file depth) no_described
      (λ kind. choose_yields (only k.Schema kind) (schema_yields depth) (by_type_kind_each
      (λ p. Yields Known p IsDescribed) kind (λ of. type_body file of depth) (λ of. type_yields of depth)
      (choose_yields (only k.Directive kind) (directive_yields depth) (nothing_yields no_described))))

  system_covered : (depth : ℕ) → Covered serves (system_definition file depth) definition_parts
  unfolding system_definition
  system_covered depth = place_covered (system_definition file depth).first
      (seq_yields serves (yielded (optional_description_covered serves)) (described_yields depth))
      (system_definition_tame file depth).law.begun (λ a p there. p.1 a.0.0 (span_at file a.1) p.0 there)

  -- ---- extensions

  -- an extension whose location is as is asked is so whole
  abbrev IsExtension : (Option SourceSpan → Definition) → Type 0
  IsExtension f = (location : Option SourceSpan) → asked (Node location)
      → Holds asked (definition_parts (f location))

  -- what is there where there is a part
  wanted_there : (there test : Bool) → test ≡ there → test ≡ true → asked (Wanted there)
  wanted_there true test same passes = serves.wanted
  wanted_there false test same passes = absurd (let w = sym passes ∙ same in cc)

  extension_there : (kind : TypeKind) (p : Parts) → IsBody serves kind p → has_part p ≡ true
      → (name : NameView) → asked (Name name) → IsExtension (type_extension kind name p)
  extension_there t.Scalar p body passes text n at l =
      (l, (wanted_there _ (has_part p) body.1 passes, (n, body.0)))
  extension_there kind p body passes text n at l =
      (l, (wanted_there _ (has_part p) body.1 passes, (n, body.0)))

  extension_yields : (kind : TypeKind) (depth : ℕ) → Yields Known (extension_body file kind depth) IsExtension
  unfolding extension_body
  extension_yields kind depth =
      mapped_yields (seq_yields serves (anything (sign (keyword kind)))
      (seq_yields serves (yielded (name_covered serves)) (filtered_yields (expecting i.ExtensionPart)
      (parts_yield serves kind depth)))) (λ x all. extension_there kind x.1.1 all.1.1.0 all.1.1.1 x.1.0
      all.1.0.0)

  -- what stands behind `extend schema`
  abbrev IsSchema : Parts → Type 0
  IsSchema p = Holds asked (directives_parts true (directive_list p) ++ flat_map (node_parts root_parts)
      p.roots) × (has_part p ≡ not (is_none p.directives && is_none p.roots))

  schema_parts_yield : (depth : ℕ)
      → Yields Known (mapped schema_parts (seq (directives file true depth) (optional_roots file depth)))
      IsSchema
  schema_parts_yield depth =
      mapped_yields (yielded (seq_covered (directives_covered serves true depth)
      (listed_covered (node_parts root_parts) (roots_covered serves depth)))) (λ x all. (all, refl))

  schema_extension_yields : (depth : ℕ) → Yields Known (schema_extension_body file depth) IsExtension
  unfolding schema_extension_body
  schema_extension_yields depth =
      mapped_yields (seq_yields serves (anything (sign k.Schema)) (filtered_yields (expecting i.ExtensionPart)
      (schema_parts_yield depth)))
      (λ x all location l. (l, (wanted_there _ (has_part x.1) all.1.0.1 all.1.1, all.1.0.0)))

  extended_yields : (depth : ℕ) → Yields Known (extended file depth) IsExtension
  extended_yields depth = branch_yields (extended_pick file depth) (expecting i.Extended)
      (λ kind. choose_yields (only k.Schema kind) (schema_extension_yields depth)
      (by_type_kind_each (λ p. Yields Known p IsExtension) kind (λ of. extension_body file of depth)
      (λ of. extension_yields of depth) (nothing_yields (expecting i.Extended))))

  extension_covered : (depth : ℕ) → Covered serves (extension file depth) definition_parts
  unfolding extension
  extension_covered depth = place_covered (only k.Extend) (seq_yields serves (anything (sign k.Extend))
      (extended_yields depth)) (λ x front h. begun_front (only k.Extend) h.2.0.head h.2.0.tail h.2.0.whole
      ((sign_law k.Extend).begun tt h.2.0.head h.2.0.first)) (λ a p there. p.1 (span_at file a.1) there)

  -- ---- all definitions

  pub definition_covered : (depth : ℕ) → Covered serves (definition file depth) definition_parts
  definition_covered depth = branch_covered (definition_pick file depth) (expecting i.Definition)
      (λ kind. choose_covered (only k.LeftBrace kind) (shorthand_definition_covered serves depth)
      (choose_covered (only k.Fragment kind) (fragment_covered serves depth)
      (choose_covered (only k.Extend kind) (extension_covered depth) (choose_covered (is_operation_type kind)
      (operation_definition_covered serves depth) (choose_covered (is_description kind || is_described kind)
      (system_covered depth) (nothing_covered (expecting i.Definition)))))))

  pub document_covers : (depth : ℕ) (x : List Definition) (front : List WordView) → Known front
      → (document file depth).spells x front → Holds asked (document_parts x)
  document_covers depth =
      let all : Covered serves (document file depth) document_parts =
      some_covered (item_covered (expecting i.Definition) (definition_covered depth)) in
      all.each
