-- What readers give in structs of their own, as the productions have it.
use Rattle.std.specs.Prelude.{List, [], ◌∷◌, Bool, true, false, Option, None, Some}
use Rattle.graphql_nodes.specs.declared.directive_location.DirectiveLocation.{DirectiveLocation}
use Rattle.graphql_nodes.specs.declared.source.SourceSpan.{SourceSpan}
use Rattle.graphql_nodes.specs.NameView.{NameView}
use Rattle.graphql_nodes.specs.NodeView.{NodeView}
use Rattle.graphql_ast.specs.Declarations.{made_schema, made_type}
use Rattle.graphql_ast.specs.declared.definition.Definition.{Definition}
use Rattle.graphql_ast.specs.declared.definition.Definition.TheVariants as d
use Rattle.graphql_ast.specs.declared.directive.DirectiveList.{DirectiveList}
use Rattle.graphql_ast.specs.declared.type_reference.Type.{«Type» as TypeReference}
use Rattle.graphql_ast.specs.declared.value.Value.{Value}
use Rattle.graphql_grammar.specs.Words.{WordView}
use Rattle.graphql_productions.specs.TypeSystem.{Described, location_word}
use Rattle.graphql_text.specs.declared.reading.bodies.Body.{Body}
use Rattle.graphql_text.specs.declared.reading.bodies.Body.TheVariants as b
use Rattle.graphql_text.specs.declared.reading.bodies.Declared.{Declared}
use Rattle.graphql_text.specs.declared.reading.bodies.Declared.TheVariants as de
use Rattle.graphql_text.specs.declared.reading.operations.AfterName.{AfterName}

-- a type behind `:`, a default value, and directives
abbrev pub seen_typed : AfterName
    → Unit {0} × (NodeView TypeReference × (Option (NodeView Value) × DirectiveList))
seen_typed t = (tt, (t.ty, (t.default_value, t.directives)))

-- whether a sign was there
abbrev pub seen_flag : Bool → Option (Unit {0})
seen_flag true = Some tt
seen_flag false = None

-- the definition or extension of what is declared, with this description, at this location
abbrev pub seen_declared : Declared → Bool → Option NameView → Option SourceSpan → Definition
seen_declared (de.Schema parts) is_extension description location =
    made_schema (record {
      is_extension = is_extension;
      description = description;
      location = location;
      parts = parts;
    })
seen_declared (de.Type kind name parts) is_extension description location =
    made_type (record {
      kind = kind;
      name = name;
      is_extension = is_extension;
      description = description;
      location = location;
      parts = parts;
    })

-- a definition of the type system that wants its description and its location
abbrev pub seen_body : Body → Described
seen_body (b.Declared declared) = seen_declared declared false
seen_body (b.Directive name arguments repeatable locations) =
    λ description location. d.DirectiveDefinition (record {
      value = record {
        description = description;
        name = name;
        arguments = arguments;
        repeatable = repeatable;
        locations = locations;
      };
      location = location;
    })

-- an extension that wants its location
abbrev pub seen_extension : Declared → Option SourceSpan → Definition
seen_extension declared location = seen_declared declared true None location

-- the location that the first of these words names, if it is one
abbrev pub next_location : List WordView → Option DirectiveLocation
next_location [] = None
next_location (w ∷ ws) = location_word w
