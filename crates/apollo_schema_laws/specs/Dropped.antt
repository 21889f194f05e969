-- What is dropped from a list, by places of the whole list, and the fault of each: GraphQL specification of
-- October 2021, sections 2.2, 3, 3.3, 3.3.2, 3.4.3 and 3.13.
use Rattle.std.specs.Prelude.{ℕ, Bool, List, None, Some, Option, ◌&&◌, filter, filter_map, flat_map}
use Rattle.std.specs.Prelude.{if◌then◌else◌, is_none, nat_lt, not, option_and_then, option_map}
use Rattle.std.specs.List.{enumerate_from}
use Rattle.graphql_nodes.specs.BuiltIn.{is_built_in}
use Rattle.graphql_nodes.specs.NodeView.{NodeView}
use Rattle.graphql_nodes.specs.SameText.{same}
use Rattle.graphql_ast.specs.DefinitionTexts.{definition_text}
use Rattle.graphql_ast.specs.declared.definition.Definition.{Definition}
use Rattle.graphql_ast.specs.declared.definition.Definition.TheVariants as ast
use Rattle.graphql_ast.specs.declared.type_system.DirectiveDefinition.{DirectiveDefinition}
use Rattle.apollo_meaning.specs.Completion.Adoption.{extended_names}
use Rattle.apollo_meaning.specs.Directives.{directive_part, is_handed_in}
use Rattle.apollo_meaning.specs.Faults.Collisions.{Fault}
use Rattle.apollo_meaning.specs.Items.ListItems.{ListItem}
use Rattle.apollo_meaning.specs.Items.Parts.{SchemaPart, TypePart, key_of}
use Rattle.apollo_meaning.specs.Order.Places.{Family, Placed, definition_places, extension_places}
use Rattle.apollo_meaning.specs.Order.Places.{first_place, is_folded, placed_by, schemas, types}
use Rattle.apollo_meaning.specs.declared.build_error.BuildError.TheVariants as errors

-- an operation or a fragment is dropped: at its node, with what it is
abbrev pub executable_fault : Definition → Option Fault
executable_fault (ast.OperationDefinition n) =
    Some (n.location, errors.ExecutableDefinition (definition_text (ast.OperationDefinition n)))
executable_fault (ast.FragmentDefinition n) =
    Some (n.location, errors.ExecutableDefinition (definition_text (ast.FragmentDefinition n)))
executable_fault d = None

-- the first definition of a key, and a further one, which stands after it and is dropped
abbrev pub Dropped : Type 0 → Type 0
Dropped P = Placed P × Placed P

-- the first definition of a key, if it stands before this place
abbrev pub first_before : {P : Type 0} → Family P → List ListItem → List ℕ → ℕ → Option (Placed P)
first_before f xs n i = option_and_then (λ d. if nat_lt d.0 i then Some d else None) (first_place f xs n)

-- of these definitions those that stand after the first one of their key, in order, each with that one
abbrev pub after_first : {P : Type 0} → Family P → List ListItem → List (Placed P) → List (Dropped P)
after_first f xs es = filter_map (λ e. option_map (λ d. (d, e)) (first_before f xs (f.key e.1) e.0)) es

-- the further definitions of the schema, each with the first one
abbrev pub further_schemas : List ListItem → List (Dropped SchemaPart)
further_schemas xs = after_first schemas xs (definition_places schemas xs)

-- the further definitions of types, each with the first one of its name
abbrev pub further_types : List ListItem → List (Dropped TypePart)
further_types xs = after_first types xs (definition_places types xs)

-- directive definitions that are handed in, not marked built-in, under their names; nothing extends them
abbrev pub handed_in : Family (NodeView DirectiveDefinition)
handed_in = record {
  defined = λ x. option_and_then (λ d. if is_handed_in d then Some d else None) (directive_part x);
  extended = λ _. None;
  key = λ d. d.value.name.text;
}

-- the directive definitions, whether handed in or not, before which one of their name was handed in
abbrev pub further_directives : List ListItem → List (Dropped (NodeView DirectiveDefinition))
further_directives xs = after_first handed_in xs (filter_map (placed_by directive_part) (enumerate_from 0 xs))

-- the fault of a further directive definition: at its name, with the location of the name of the first one
abbrev pub further_directive : NodeView DirectiveDefinition → NodeView DirectiveDefinition → Fault
further_directive d e =
    (e.value.name.location, errors.DirectiveDefinitionCollision d.value.name.location e.value.name)

-- a further definition of a type is passed over where it may be ignored and the first one is built-in
abbrev pub is_passed_over : Dropped TypePart → Bool
is_passed_over p = is_built_in p.0.1.location && p.1.1.ignorable

-- the extensions whose key has no definition, by place
abbrev pub undefined_places : {P : Type 0} → Family P → List ListItem → List (Placed P)
undefined_places f xs = filter (λ e. is_none (first_place f xs (f.key e.1))) (extension_places f xs)

-- those of types, by name in order of first extension
abbrev pub orphans_by_name : List ListItem → List (Placed TypePart)
orphans_by_name xs =
    flat_map (λ n. filter (λ e. same n (key_of e.1)) (undefined_places types xs)) (extended_names xs)

-- the extensions of a name that has a definition that are not of the kind of the first one, by place
abbrev pub of_another_kind : List ListItem → List ℕ → List (Placed TypePart)
of_another_kind xs n = filter (λ e. same n (key_of e.1) && not (is_folded xs e)) (extension_places types xs)
