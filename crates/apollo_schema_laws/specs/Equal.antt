-- Lists of equal definitions: GraphQL specification of October 2021, sections 3 and 3.13.
--
-- **Equal.** Two lists are equal (`AreEqualLists`) under three conditions. They have equally many
-- definitions. Each is equal to the one at its place in the other, as `==` compares them, so without
-- locations. Of two definitions of a directive both or neither are marked built-in (`is_built_in_directive`),
-- since by this mark a name means one of its definitions. `compared` is what is compared of each. The
-- settings under which definitions were added don't count.
use Rattle.std.specs.Prelude.{◌≡◌, Bool, false, List, map}
use Rattle.graphql_nodes.specs.BuiltIn.{is_built_in}
use Rattle.graphql_ast.specs.BareDocuments.{bare_definition}
use Rattle.graphql_ast.specs.declared.definition.Definition.{Definition}
use Rattle.graphql_ast.specs.declared.definition.Definition.TheVariants as ast
use Rattle.apollo_meaning.specs.Items.ListItems.{Added}

-- a directive definition that is marked built-in
abbrev pub is_built_in_directive : Definition → Bool
is_built_in_directive (ast.DirectiveDefinition n) = is_built_in n.location
is_built_in_directive _ = false

-- what is compared of a definition: all but locations, and of one of a directive whether it is marked
-- built-in
abbrev pub compared : Added → Bool × Definition
compared a = (is_built_in_directive a.1, bare_definition a.1)

-- the definitions are equal one by one, whatever their locations, and those of directives are marked built-in
-- alike
abbrev pub AreEqualLists : List Added → List Added → Type 0
AreEqualLists xs ys = map compared xs ≡ map compared ys
