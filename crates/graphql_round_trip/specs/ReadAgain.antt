-- Trees that are read again: GraphQL specification of October 2021, sections 2.1 and 2.2.
use Rattle.std.specs.Prelude.{◌≡◌, List}
use Rattle.graphql_grammar.specs.Words.{WordView}

-- these words spell a tree that is equal, which is to say, that differs in locations alone
pub record SpellEqual {A B : Type 0} (spells : A → List WordView → Type 0) (bare : A
    → B) (x : A) (words : List WordView) : Type 0 where
  pub tree : A
  pub spelled : spells tree words
  pub equal : bare tree ≡ bare x
