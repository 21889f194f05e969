-- Words that are tokens: GraphQL specification of October 2021, section 2.1.6.
use Rattle.std.specs.Prelude.{◌≡◌, List, [], ◌∷◌, true}
use Rattle.graphql_grammar.specs.Kinds.{is_token}
use Rattle.graphql_grammar.specs.Words.{WordView}

-- all of these words are tokens
abbrev pub AllClean : List WordView → Type 0
AllClean [] = Unit {0}
AllClean (w ∷ ws) = (is_token w.kind ≡ true) × AllClean ws
