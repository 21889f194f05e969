-- Trees that could have come of a text: GraphQL specification of October 2021, sections 2.1.9, 2.8, 2.9, 2.10
-- and 3.9, and appendix B.
--
-- **What holds of a tree.** The parts of a tree (`document_parts` and its like) are one list: nodes,
-- names, numbers, and what the grammar wants at least one of. A tree is well-formed if each part could
-- have come of a text.
use Rattle.std.specs.Prelude.{◌≡◌, ◌≢◌, false, true, List, codes}
use Rattle.std.specs.List.{AllByRecursion}
use Rattle.graphql_nodes.specs.NameSyntax.{IsName}
use Rattle.graphql_tokens.specs.declared.token.TokenKind.TheVariants as t
use Rattle.graphql_grammar.specs.TextsOfWords.{IsTextOf}
use Rattle.graphql_productions.specs.TreeParts.{Description, EnumName, Float, FragmentName, Int, Name, Node}
use Rattle.graphql_productions.specs.TreeParts.{TreePart, Variable, Wanted}

-- a part that could have come of a text: names are names and numbers are tokens. No name of a fragment is
-- `on`, and none of an enum value is `true`, `false` or `null`. No variable stands in a constant value. What
-- the grammar wants is there
abbrev pub IsWellFormedPart : TreePart → Type 0
IsWellFormedPart (Node at) = Unit {0}
IsWellFormedPart (Name n) = IsName n.text
IsWellFormedPart (FragmentName n) = IsName n.text × (n.text ≢ codes "on")
IsWellFormedPart (EnumName n) = IsName n.text × (n.text ≢ codes "true") × (n.text ≢ codes "false")
    × (n.text ≢ codes "null")
IsWellFormedPart (Variable constant n) = IsName n.text × (constant ≡ false)
IsWellFormedPart (Description n) = Unit {0}
IsWellFormedPart (Int text) = IsTextOf t.Int text
IsWellFormedPart (Float text) = IsTextOf t.Float text
IsWellFormedPart (Wanted there) = there ≡ true

-- a tree of these parts could have come of a text
abbrev pub IsWellFormed : List TreePart → Type 0
IsWellFormed parts = AllByRecursion IsWellFormedPart parts
