-- What a step does to what was made of parts, and to the faults. Each word speaks of all parts that the
-- former may be made of. GraphQL specification of October 2021, sections 3.3.2 and 3.4.3.
use Rattle.std.specs.Prelude.{◌≡◌, ℕ, length, List, [], ◌∷◌, ◌++◌, map}
use Rattle.graphql_nodes.specs.NodeView.{NodeView}
use Rattle.graphql_nodes.specs.declared.type_kind.TypeKind.{TypeKind}
use Rattle.graphql_ast.specs.declared.directive.Directive.{Directive}
use Rattle.apollo_component.specs.Extensions.{next_number}
use Rattle.apollo_component.specs.declared.extension.ComponentOrigin.{ComponentOrigin}
use Rattle.apollo_component.specs.declared.extension.ExtensionSource.{ExtensionSource}
use Rattle.apollo_types.specs.declared.extended_type.ExtendedType.{ExtendedType}
use Rattle.apollo_types.specs.declared.schema_definition.SchemaDefinition.{SchemaDefinition}
use Rattle.apollo_meaning.specs.Items.Parts.{TypePart, SchemaPart, Root, kind_of}
use Rattle.apollo_meaning.specs.Items.Named.{of_kind}
use Rattle.apollo_meaning.specs.Types.Components.{Sourced}
use Rattle.apollo_meaning.specs.Types.Meaning.{extension_part, numbered, type_from}
use Rattle.apollo_meaning.specs.Schema.Definition.{SourcedSchema, schema_definition_of}
use Rattle.apollo_meaning.specs.Faults.Collisions.{Fault}
use Rattle.apollo_meaning.specs.Faults.RootFaults.{schema_faults}
use Rattle.apollo_meaning.specs.Faults.TypeFaults.{part_faults}
use Rattle.apollo_meaning.specs.Steps.Joining.{joining_faults}

-- extensions, with the numbers of a source from its next one on
abbrev pub with_numbers : ExtensionSource → List TypePart → List Sourced
with_numbers ids es = map extension_part (numbered (next_number ids) es)

-- what was made of some parts is made of these as well
abbrev pub Joins : {P T : Type 0} → (P → List (ComponentOrigin × P) → T) → T
    → (P → List (ComponentOrigin × P)) → T → Type 0
Joins {P} made old more new = (head : P) (done : List (ComponentOrigin × P)) → old ≡ made head done
    → new ≡ made head (done ++ more head)

-- a schema definition that was made of some parts is made of one as well that has these directives and these
-- roots
abbrev pub JoinsSchemaPart : SchemaDefinition → ComponentOrigin → List (NodeView Directive) → List Root
    → SchemaDefinition → Type 0
JoinsSchemaPart old origin directives roots new = (head part : SchemaPart) (done : List SourcedSchema)
    → part.parts.directives ≡ directives → part.parts.roots ≡ roots
    → old ≡ schema_definition_of head done → new ≡ schema_definition_of head (done ++ (origin, part) ∷ [])

-- to the faults are added those of a part that has these roots, found with the parts of the schema definition
abbrev pub FindsRoots : SchemaDefinition → List Root → List Fault → List Fault → Type 0
FindsRoots old roots before after = (head part : SchemaPart) (done : List SourcedSchema)
    → part.parts.roots ≡ roots → old ≡ schema_definition_of head done
    → after ≡ before ++ schema_faults (map (λ s. s.1) done) part

-- to the faults are added those that are found with the parts that something was made of
abbrev pub Finds : {P T : Type 0} → (P → List (ComponentOrigin × P) → T) → T → (P → List P → List Fault)
    → List Fault → List Fault → Type 0
Finds {P} made old faults before after = (head : P) (done : List (ComponentOrigin × P))
    → old ≡ made head done → after ≡ before ++ faults head (map (λ s. s.1) done)

-- what was made of some parts is made of one more as well
abbrev pub JoinsOne : {T : Type 0} → (TypePart → List Sourced → T) → T → ComponentOrigin → TypePart → T
    → Type 0
JoinsOne made old origin part new = Joins made old (λ _. (origin, part) ∷ []) new

-- to the faults are added those of the components that this part drops
abbrev pub FindsOne : {T : Type 0} → (TypePart → List Sourced → T) → T → TypePart → List Fault → List Fault
    → Type 0
FindsOne made old part before after = Finds made old (λ _ parts. part_faults parts part) before after

-- a type that was made of some parts is made as well of those of these extensions that have its kind
abbrev pub Extends : ExtendedType → ExtensionSource → List TypePart → ExtendedType → Type 0
Extends old ids es new = Joins type_from old (λ head. with_numbers ids (of_kind (kind_of head) es)) new

-- how many of these extensions have this kind
abbrev pub how_many : TypeKind → List TypePart → ℕ
how_many kind es = length (of_kind kind es)

-- to the faults are added those of these extensions, where they join the type one after another
abbrev pub FindsJoining : ExtendedType → List TypePart → List Fault → List Fault → Type 0
FindsJoining old es before after =
    Finds type_from old (λ head parts. joining_faults head parts es) before after

-- what was made of a list is made of it with these at its end
abbrev pub Lengthens : {X T : Type 0} → (List X → T) → T → List X → T → Type 0
Lengthens {X} made old more new = (xs : List X) → old ≡ made xs → new ≡ made (xs ++ more)

-- to the faults are added those that are found with the list that something was made of
abbrev pub FindsIn : {X T : Type 0} → (List X → T) → T → (List X → List Fault) → List Fault → List Fault
    → Type 0
FindsIn {X} made old faults before after = (xs : List X) → old ≡ made xs → after ≡ before ++ faults xs

-- P of the first definition of a name, where this type was made by it
abbrev pub ForFirst : ExtendedType → (TypePart → Type 0) → Type 0
ForFirst ty P = (d : TypePart) (done : List Sourced) → ty ≡ type_from d done → P d
