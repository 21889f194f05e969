-- Texts that are one, and names that have one text. GraphQL specification of October 2021, section 2.1.9.
use Rattle.std.specs.Prelude.{ℕ, Bool, List, nat_eq}
use Rattle.std.specs.Cmp.Lexicographic.{pointwise}
use Rattle.graphql_nodes.specs.NameView.{NameView}

-- texts are one
abbrev pub same : List ℕ → List ℕ → Bool
same = pointwise nat_eq

-- two names have one text
abbrev pub same_text : NameView → NameView → Bool
same_text a b = same a.text b.text

-- whether a name has this text
abbrev pub by_text : List ℕ → NameView → Bool
by_text n k = same n k.text
