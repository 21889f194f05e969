-- The text of definitions, as a program writes it: GraphQL specification of October 2021, section 2.2.
use Rattle.std.specs.Prelude.{ℕ, List, [], ◌∷◌, ◌++◌, codes}
use Rattle.graphql_ast.specs.declared.definition.Definition.{Definition}
use Rattle.graphql_printing.specs.Documents.{definitions_text}

-- the text of definitions with this end behind it, or nothing where there is none
abbrev pub ended_by : List ℕ → List Definition → List ℕ
ended_by end [] = []
ended_by end (x ∷ xs) = definitions_text (x ∷ xs) ++ end

-- the text of definitions with a line end behind it, or nothing where there is none
abbrev pub ended : List Definition → List ℕ
ended definitions = ended_by (codes "\n") definitions
