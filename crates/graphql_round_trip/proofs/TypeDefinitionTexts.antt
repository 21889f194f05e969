-- Texts of definitions of the type system behind their descriptions, and of extensions behind `extend`:
-- GraphQL specification of October 2021, sections 3.2 and 3.4.
use Rattle.std.proofs.Common.{◌≡◌, ℕ, Bool, true, false, ◌||◌, List, ◌++◌, option_map, Option, None, Some}
use Rattle.std.proofs.Common.{refl, ap, ◌∙◌, ◌≤◌, not, ◌&&◌, [], ◌∷◌, sym}
use Rattle.std.specs.Prelude.{codes, if◌then◌else◌}
use Rattle.graphql_nodes.specs.Comparing.{bare_name}
use Rattle.graphql_nodes.specs.NameView.{NameView}
use Rattle.graphql_nodes.specs.declared.source.FileId.{FileId}
use Rattle.graphql_nodes.specs.declared.source.SourceSpan.{SourceSpan}
use Rattle.graphql_ast.specs.BareDocuments.{bare_definition}
use Rattle.graphql_ast.specs.declared.definition.Definition.{Definition}
use Rattle.graphql_grammar.specs.declared.kind.Kind.{Kind}
use Rattle.graphql_grammar.specs.Kinds.{Kinds, only}
use Rattle.graphql_grammar.specs.WordsOfText.{word_of, name_kind}
use Rattle.graphql_grammar.proofs.KindLemmas.{only_kind}
use Rattle.graphql_productions.specs.Nodes.{span_at}
use Rattle.graphql_productions.specs.TypeSystem.{Described, described, extended, extension, is_described}
use Rattle.graphql_productions.specs.TypeSystem.{is_description, system_definition, described_pick, expecting}
use Rattle.graphql_productions.specs.TypeSystem.{extended_pick, extension_body, has_part, is_none, keyword}
use Rattle.graphql_productions.specs.TypeSystem.{no_described, type_body, schema_body, schema_extension_body}
use Rattle.graphql_productions.specs.TypeSystem.{schema_extension_of, schema_of, schema_parts}
use Rattle.graphql_productions.specs.TypeSystem.{definition_made, extension_of, type_of}
use Rattle.graphql_printing.specs.Documents.{front_text}
use Rattle.graphql_printing.specs.Layout.{braces, line_end}
use Rattle.graphql_printing.specs.TypeSystem.{described as described_text, keyword_text, type_shape}
use Rattle.graphql_printing.specs.TypeSystem.{root_text, schema_shape, behind_name}
use Rattle.graphql_round_trip.specs.Printed.{Heads, Prints, anything, ends_token}
use Rattle.graphql_round_trip.proofs.DescriptionTexts.{described_prints, description_heads}
use Rattle.graphql_round_trip.proofs.HeadTexts.{keyword_before, keyword_heads}
use Rattle.graphql_round_trip.proofs.PieceTexts.{same_heads}
use Rattle.graphql_round_trip.proofs.PieceTexts.{heads_on, located_text, mapped_text, seq_text, branch_at}
use Rattle.graphql_round_trip.proofs.PieceTexts.{filtered_text, grouped3, grouped4, regrouped, name_prints}
use Rattle.graphql_round_trip.proofs.PieceTexts.{keyword_prints, IsApart, apart_joined, directives_apart}
use Rattle.std.proofs.Math.Bool.{and-true}
use Rattle.std.proofs.Math.Path.{fun_ext}
use Rattle.graphql_nodes.specs.NameSyntax.{IsName}
use Rattle.graphql_nodes.specs.declared.type_kind.TypeKind.{TypeKind}
use Rattle.graphql_ast.specs.BareDeclarations.{bare_parts}
use Rattle.graphql_ast.specs.Declarations.{type_definition, type_extension, schema_definition}
use Rattle.graphql_ast.specs.Declarations.{schema_extension}
use Rattle.graphql_ast.specs.Parts.{of_type}
use Rattle.graphql_ast.specs.declared.parts.Parts.{Parts}
use Rattle.graphql_productions.specs.DefinitionTreeParts.{body_parts, is_directives, root_parts}
use Rattle.graphql_productions.specs.WellFormed.{IsWellFormed}
use Rattle.graphql_round_trip.specs.Nesting.{parts_nesting, body_nesting}
use Rattle.graphql_round_trip.proofs.BareLists.{none_seen}
use Rattle.graphql_round_trip.proofs.PartTexts.{behind_name_apart, parts_print, body_fits, added_roots_print}
use Rattle.graphql_round_trip.proofs.PartTexts.{roots_print}
use Rattle.graphql_round_trip.proofs.TokenTexts.{names}
use Rattle.std.specs.List.{flat_map}
use Rattle.graphql_nodes.specs.NodeView.{NodeView}
use Rattle.graphql_nodes.specs.declared.operation_type.OperationType.{OperationType}
use Rattle.graphql_ast.specs.declared.directive.DirectiveList.{DirectiveList}
use Rattle.graphql_productions.specs.TreeParts.{directives_parts, node_parts, wanted_parts}
use Rattle.graphql_printing.specs.Texts.{directives_text}
use Rattle.graphql_round_trip.proofs.ListTexts.{braces_apart, part_of_front}
use Rattle.graphql_round_trip.proofs.DirectiveTexts.{directives_print}
use Rattle.graphql_grammar.specs.declared.kind.Kind.TheVariants as k
use Rattle.graphql_nodes.specs.declared.type_kind.TypeKind.TheVariants as t
use Rattle.graphql_grammar.specs.declared.fault.Item.TheVariants as i

-- what is seen of a definition that wants its description and its location
abbrev pub described_seen : Described → Described
described_seen f = λ description location. bare_definition (f description location)

-- what is seen of an extension that wants its location
abbrev pub extended_seen : (Option SourceSpan → Definition) → Option SourceSpan → Definition
extended_seen f = λ location. bare_definition (f location)

-- a definition without locations, for its description
abbrev pub bare_described : (Option NameView → Definition) → Described
bare_described made = λ description location. made (option_map bare_name description)

-- an extension without locations
abbrev pub bare_extended : Definition → Option SourceSpan → Definition
bare_extended made = λ location. made

-- what begins with a word of some kinds begins with one of more kinds
pub heads_wider : {text : List ℕ} {ends : List ℕ → Bool} (some more : Kinds)
    → ((kind : Kind) → some kind ≡ true → more kind ≡ true) → Heads some text ends → Heads more text ends
heads_wider some more wider head = record {
  solid = head.solid;
  first = λ total rest end. let h =
      head.first total rest end in (h.0, h.1, wider (word_of total h.0).kind h.2);
}

-- a definition begins with its description or a keyword
abbrev pub is_system : Kinds
is_system kind = is_description kind || is_described kind

-- a definition behind its description
pub described_definition : (file : FileId) (depth : ℕ) (made : Option NameView
    → Definition) (description : Option NameView) {text : List ℕ}
    → Prints (described file depth) described_seen (bare_described made) text ends_token
    → Prints (system_definition file depth) bare_definition (made (option_map bare_name description))
    (described_text 0 description ++ text) ends_token
unfolding system_definition
described_definition file depth made description t = mapped_text (definition_made file) bare_definition
    (made (option_map bare_name description)) (λ x same. ap (λ (y : Option NameView × Described). y.1 x.0.0
    (span_at file x.1)) same ∙ ap (λ (y : Option NameView × Described). made y.0) same)
    (located_text (seq_text (described_prints file 0 description) t (λ rest _. refl)))

-- it begins with its description, or with its keyword
pub described_heads : (description : Option NameView) (keyword : Kind) (text : List ℕ)
    → is_described keyword ≡ true → Heads (only keyword) text ends_token
    → Heads is_system (described_text 0 description ++ text) ends_token
described_heads None keyword text is head = heads_wider (only keyword) is_system (λ kind at. ap is_system
    (only_kind keyword kind at) ∙ or_second (is_description keyword) (is_described keyword) is) head
  where
    or_second : (a b : Bool) → b ≡ true → (a || b) ≡ true
    or_second true b e = refl
    or_second false b e = e
described_heads (Some description) keyword text is head =
    heads_wider is_description is_system (λ kind at. rw at refl)
    (heads_on text ends_token (heads_on (line_end 0) anything (description_heads 0 description.text)
    (λ rest _. refl)) (λ rest _. refl))

-- an extension behind `extend`
pub extended_extension : (file : FileId) (depth : ℕ) (made : Definition) {text : List ℕ}
    → Prints (extended file depth) extended_seen (bare_extended made) text ends_token
    → Prints (extension file depth) bare_definition made (codes "extend " ++ text) ends_token
unfolding extension
extended_extension file depth made t =
    mapped_text _ bare_definition made (λ x same. ap (λ (y : Unit {0} × (Option SourceSpan → Definition)). y.1
    (span_at file x.1)) same) (located_text (seq_text (keyword_before k.Extend (codes "extend") refl refl) t
    (λ rest _. refl)))

-- it begins with that word
pub extension_heads : (text : List ℕ) → Heads (only k.Extend) (codes "extend " ++ text) ends_token
extension_heads text = heads_on _ ends_token (keyword_heads k.Extend (codes "extend") refl refl)
    (λ rest _. refl)

-- ---- what is defined or extended

-- what it begins with
abbrev pub front_kinds : Bool → Kinds
front_kinds is_extension = if is_extension then only k.Extend else is_system

-- it begins with `extend`, or with its description or keyword
pub front_heads : (is_extension : Bool) (description : Option NameView) (keyword : Kind) (text : List ℕ)
    → is_described keyword ≡ true → Heads (only keyword) text ends_token
    → Heads (front_kinds is_extension) (front_text is_extension description ++ text) ends_token
front_heads true description keyword text is head = extension_heads text
front_heads false description keyword text is head = described_heads description keyword text is head

-- ---- texts of definitions and extensions of types: GraphQL specification of October 2021, sections 3.4 to
-- 3.10

-- ---- keywords

keyword_is_name : (kind : TypeKind) → names (keyword_text kind) ≡ true
keyword_is_name t.Scalar = refl
keyword_is_name kind = refl

keyword_is_own : (kind : TypeKind) → only (keyword kind) (name_kind (keyword_text kind)) ≡ true
keyword_is_own t.Scalar = refl
keyword_is_own kind = refl

-- it is one that a description may stand before
pub keyword_is_described : (kind : TypeKind) → is_described (keyword kind) ≡ true
keyword_is_described t.Scalar = refl
keyword_is_described kind = refl

-- a type begins with the keyword of its kind
pub type_heads : (kind : TypeKind) (name : NameView) (p : Parts)
    → Heads (only (keyword kind)) (type_shape kind name p) ends_token
type_heads kind name p = same_heads (grouped4 (keyword_text kind) (codes " ") name.text (behind_name kind p))
    (heads_on (codes " " ++ (name.text ++ behind_name kind p)) ends_token (keyword_heads (keyword kind)
    (keyword_text kind) (keyword_is_name kind) (keyword_is_own kind)) (λ rest _. refl))

-- ---- definitions

-- what is seen of the definition of a type
bare_type_definition : (kind : TypeKind) (description : Option NameView) (name : NameView) (p : Parts)
    (location : Option SourceSpan)
    → bare_definition (type_definition kind description name p location)
    ≡ type_definition kind (option_map bare_name description) (bare_name name) (bare_parts p) None
bare_type_definition t.Scalar description name p location = refl
bare_type_definition kind description name p location = refl

-- the keyword of a kind tells it apart
type_picked : (file : FileId) (depth : ℕ) (kind : TypeKind)
    → described_pick file depth (keyword kind) ≡ type_body file kind depth
type_picked file depth t.Scalar = refl
type_picked file depth kind = refl

-- the definition of a type without locations, for its description
abbrev pub bare_type_of : TypeKind → NameView → Parts → Option NameView → Definition
bare_type_of kind name p description = type_definition kind description (bare_name name) (bare_parts p) None

-- parts that the kind hasn't are left out
defined_of_kind : (kind : TypeKind) (description : Option NameView) (name : NameView) (p : Parts)
    → type_definition kind description name (bare_parts (of_type kind p)) None
    ≡ type_definition kind description name (bare_parts p) None
defined_of_kind t.Scalar description name p = refl
defined_of_kind kind description name p = refl

module _ (file : FileId) (depth : ℕ) (kind : TypeKind) (name : NameView) (p : Parts) (named : IsName
    name.text) (well : IsWellFormed (body_parts kind p)) (fits : parts_nesting kind p ≤ depth) where
  type_body_prints : Prints (type_body file kind depth) described_seen
      (bare_described (bare_type_of kind name p)) (type_shape kind name p) ends_token
  unfolding type_body
  type_body_prints = regrouped _ (type_shape kind name p) (grouped3 (keyword_text kind ++ codes " ") name.text
      (behind_name kind p)) (mapped_text (type_of kind) described_seen
      (bare_described (bare_type_of kind name p))
      (λ x same. fun_ext (λ description. fun_ext (λ location. bare_type_definition kind description x.1.0
      x.1.1 location ∙ ap (λ (y : Unit {0} × (NameView × Parts)). type_definition kind
      (option_map bare_name description) y.1.0 y.1.1 None) same
      ∙ defined_of_kind kind (option_map bare_name description) (bare_name name) p)))
      (seq_text (keyword_before (keyword kind) (keyword_text kind) (keyword_is_name kind)
      (keyword_is_own kind)) (seq_text (name_prints file name named) (parts_print file depth kind p well fits)
      (behind_name_apart kind p)) (λ rest _. refl)))

  -- the definition of a type, behind its description
  pub type_definition_prints : Prints (described file depth) described_seen
      (bare_described (bare_type_of kind name p)) (type_shape kind name p) ends_token
  type_definition_prints = branch_at (described_pick file depth) no_described (keyword kind)
      (type_heads kind name p) (rw (type_picked file depth kind) type_body_prints)

-- ---- extensions

-- what is seen of the extension of a type
bare_type_extension : (kind : TypeKind) (name : NameView) (p : Parts) (location : Option SourceSpan)
    → bare_definition (type_extension kind name p location) ≡ type_extension kind (bare_name name)
    (bare_parts p) None
bare_type_extension t.Scalar name p location = refl
bare_type_extension kind name p location = refl

extension_picked : (file : FileId) (depth : ℕ) (kind : TypeKind)
    → extended_pick file depth (keyword kind) ≡ extension_body file kind depth
extension_picked file depth t.Scalar = refl
extension_picked file depth kind = refl

pub has_part_seen : (p : Parts) → has_part (bare_parts p) ≡ has_part p
has_part_seen p = rw (
  none_seen _ p.directives,
  none_seen _ p.names,
  none_seen _ p.fields,
  none_seen _ p.values,
  none_seen _ p.input_fields,
  none_seen _ p.roots,
) refl

-- a type has a part where it has directives or one of its kind
own_part : (kind : TypeKind) (p : Parts)
    → has_part (of_type kind p) ≡ not (is_none p.directives && is_directives kind p)
own_part t.Scalar p = refl
own_part t.Object p = ap (λ (b : Bool). not (is_none p.directives && (is_none p.names && b))) (and-true _)
own_part t.Interface p = ap (λ (b : Bool). not (is_none p.directives && (is_none p.names && b))) (and-true _)
own_part t.Union p = ap (λ (b : Bool). not (is_none p.directives && b)) (and-true _)
own_part t.Enum p = ap (λ (b : Bool). not (is_none p.directives && b)) (and-true _)
own_part t.InputObject p = ap (λ (b : Bool). not (is_none p.directives && b)) (and-true _)

-- parts that are seen as some of which there is one are some of which there is one
pub passes_as_seen : (p q : Parts) → has_part q ≡ true → bare_parts p ≡ bare_parts q → has_part p ≡ true
passes_as_seen p q has same = sym (has_part_seen p) ∙ ap has_part same ∙ has_part_seen q ∙ has

-- the extension of a type without locations
abbrev pub bare_extension_of : TypeKind → NameView → Parts → Definition
bare_extension_of kind name p = type_extension kind (bare_name name) (bare_parts p) None

extended_of_kind : (kind : TypeKind) (name : NameView) (p : Parts)
    → type_extension kind name (bare_parts (of_type kind p)) None ≡ type_extension kind name (bare_parts p)
    None
extended_of_kind t.Scalar name p = refl
extended_of_kind kind name p = refl

module _ (file : FileId) (depth : ℕ) (kind : TypeKind) (name : NameView) (p : Parts)
    (named : IsName name.text) (well : IsWellFormed (body_parts kind p)) (fits : parts_nesting kind p
    ≤ depth) (some : not (is_none p.directives && is_directives kind p) ≡ true) where
  extension_body_prints : Prints (extension_body file kind depth) extended_seen
      (bare_extended (bare_extension_of kind name p)) (type_shape kind name p) ends_token
  unfolding extension_body
  extension_body_prints = regrouped _ (type_shape kind name p) (grouped3 (keyword_text kind ++ codes " ")
      name.text (behind_name kind p)) (mapped_text (extension_of kind) extended_seen
      (bare_extended (bare_extension_of kind name p)) (λ x same. fun_ext (λ location. bare_type_extension kind
      x.1.0 x.1.1 location ∙ ap (λ (y : Unit {0} × (NameView × Parts)). type_extension kind y.1.0 y.1.1 None)
      same ∙ extended_of_kind kind (bare_name name) p))
      (seq_text (keyword_before (keyword kind) (keyword_text kind) (keyword_is_name kind)
      (keyword_is_own kind)) (seq_text (name_prints file name named)
      (filtered_text has_part (expecting i.ExtensionPart) (λ q same. passes_as_seen q (of_type kind p)
      (own_part kind p ∙ some) same) (parts_print file depth kind p well fits)) (behind_name_apart kind p))
      (λ rest _. refl)))

  -- the extension of a type, behind `extend`
  pub type_extension_prints : Prints (extended file depth) extended_seen
      (bare_extended (bare_extension_of kind name p)) (type_shape kind name p) ends_token
  type_extension_prints = branch_at (extended_pick file depth) (expecting i.Extended) (keyword kind)
      (type_heads kind name p) (rw (extension_picked file depth kind) extension_body_prints)

-- ---- texts of definitions and extensions of the schema: GraphQL specification of October 2021, section 3.3

-- roots between braces
abbrev roots_text : List (NodeView (OperationType × NameView)) → List ℕ
roots_text roots = braces (codes " {") 0 root_text roots

-- what stands behind the keyword stands apart from it
shape_apart : (directives : DirectiveList) (roots : List (NodeView (OperationType × NameView)))
    → IsApart (directives_text directives.0 ++ roots_text roots)
shape_apart directives roots = apart_joined (directives_text directives.0) (roots_text roots)
    (directives_apart directives.0) (braces_apart root_text roots)

-- the schema begins with its keyword
pub schema_heads : (directives : DirectiveList) (roots : List (NodeView (OperationType × NameView)))
    → Heads (only k.Schema) (schema_shape (schema_parts (directives, roots))) ends_token
schema_heads directives roots = same_heads (grouped3 (codes "schema") (directives_text directives.0)
    (roots_text roots)) (heads_on (directives_text directives.0 ++ roots_text roots) ends_token
    (keyword_heads k.Schema (codes "schema") refl refl) (shape_apart directives roots))

-- the definition of the schema without locations, for its description
abbrev pub bare_schema_of : DirectiveList → List (NodeView (OperationType × NameView)) → Option NameView
    → Definition
bare_schema_of directives roots description =
    schema_definition description (bare_parts (schema_parts (directives, roots))) None

schema_body_prints : (file : FileId) (depth : ℕ) (directives : DirectiveList)
    (roots : List (NodeView (OperationType × NameView)))
    → IsWellFormed (directives_parts true directives ++ wanted_parts (node_parts root_parts) roots)
    → body_nesting directives (λ _. 0) roots ≤ depth
    → Prints (schema_body file depth) described_seen (bare_described (bare_schema_of directives roots))
    (schema_shape (schema_parts (directives, roots))) ends_token
unfolding schema_body
schema_body_prints file depth directives [] well fits = let wanted =
    (part_of_front (directives_parts true directives) (wanted_parts (node_parts root_parts) [])
    well).1.0 in absurd cc
schema_body_prints file depth directives (r ∷ roots) well fits =
    let both = part_of_front (directives_parts true directives) (wanted_parts (node_parts root_parts)
    (r ∷ roots)) well in
    let fit = body_fits directives (λ _. 0) (r ∷ roots) depth fits in
    regrouped _ (schema_shape (schema_parts (directives, r ∷ roots))) (grouped3 (codes "schema")
    (directives_text directives.0) (roots_text (r ∷ roots))) (mapped_text schema_of described_seen
    (bare_described (bare_schema_of directives (r ∷ roots))) (λ x same. ap
    (λ (y : Unit {0} × (DirectiveList × List (NodeView (OperationType × NameView)))).
    λ description location. schema_definition (option_map bare_name description) (schema_parts y.1) None)
    same) (seq_text (keyword_prints k.Schema (codes "schema") refl refl)
    (seq_text (directives_print file true depth directives both.0 fit.0) (roots_print file depth r roots
    both.1.1 fit.1) (braces_apart root_text (r ∷ roots))) (shape_apart directives (r ∷ roots))))

-- the definition of the schema, behind its description
pub schema_definition_prints : (file : FileId) (depth : ℕ) (directives : DirectiveList)
    (roots : List (NodeView (OperationType × NameView)))
    → IsWellFormed (directives_parts true directives ++ wanted_parts (node_parts root_parts) roots)
    → body_nesting directives (λ _. 0) roots ≤ depth
    → Prints (described file depth) described_seen (bare_described (bare_schema_of directives roots))
    (schema_shape (schema_parts (directives, roots))) ends_token
schema_definition_prints file depth directives roots well fits =
    branch_at (described_pick file depth) no_described k.Schema (schema_heads directives roots)
    (schema_body_prints file depth directives roots well fits)

-- an extension of the schema without locations
abbrev pub bare_schema_extension_of : DirectiveList → List (NodeView (OperationType × NameView)) → Definition
bare_schema_extension_of directives roots = schema_extension (bare_parts (schema_parts (directives, roots)))
    None

schema_extension_body_prints : (file : FileId) (depth : ℕ) (directives : DirectiveList)
    (roots : List (NodeView (OperationType × NameView)))
    → IsWellFormed (directives_parts true directives ++ flat_map (node_parts root_parts) roots)
    → body_nesting directives (λ _. 0) roots ≤ depth → not (is_none directives.0 && is_none roots) ≡ true
    → Prints (schema_extension_body file depth) extended_seen (bare_extended (bare_schema_extension_of
    directives roots)) (schema_shape (schema_parts (directives, roots))) ends_token
unfolding schema_extension_body
schema_extension_body_prints file depth directives roots well fits some =
    let both = part_of_front (directives_parts true directives) (flat_map (node_parts root_parts) roots)
    well in
    let fit = body_fits directives (λ _. 0) roots depth fits in
    let parts : Parts = schema_parts (directives, roots) in
    regrouped _ (schema_shape (schema_parts (directives, roots)))
    (grouped3 (codes "schema") (directives_text directives.0) (roots_text roots))
    (mapped_text schema_extension_of extended_seen
    (bare_extended (bare_schema_extension_of directives roots))
    (λ x same. ap (λ (y : Unit {0} × Parts). λ location. schema_extension y.1 None) same)
    (seq_text (keyword_prints k.Schema (codes "schema") refl refl)
    (filtered_text has_part (expecting i.ExtensionPart) (λ q same. passes_as_seen q parts some same)
    (mapped_text schema_parts bare_parts (bare_parts parts) (λ x same. ap schema_parts same)
    (seq_text (directives_print file true depth directives both.0 fit.0) (added_roots_print file depth
    roots both.1 fit.1) (braces_apart root_text roots)))) (shape_apart directives roots)))

-- an extension of the schema, behind `extend`
pub schema_extension_prints : (file : FileId) (depth : ℕ) (directives : DirectiveList)
    (roots : List (NodeView (OperationType × NameView)))
    → IsWellFormed (directives_parts true directives ++ flat_map (node_parts root_parts) roots)
    → body_nesting directives (λ _. 0) roots ≤ depth → not (is_none directives.0 && is_none roots) ≡ true
    → Prints (extended file depth) extended_seen (bare_extended (bare_schema_extension_of directives roots))
    (schema_shape (schema_parts (directives, roots))) ends_token
schema_extension_prints file depth directives roots well fits some =
    branch_at (extended_pick file depth) (expecting i.Extended) k.Schema (schema_heads directives roots)
    (schema_extension_body_prints file depth directives roots well fits some)
