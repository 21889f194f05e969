-- What follows from what a definition declares.
use Rattle.apollo_meaning.proofs.Prelude.{◌≡◌, sym, ap, Definition, item_of}
use Rattle.graphql_ast.specs.Declarations.{declaration_of}
use Rattle.graphql_ast.specs.DeclarationsSeen.{declaration_seen}
use Rattle.graphql_ast.specs.declared.declaration_ref.DeclarationRef.{DeclarationRef}
use Rattle.apollo_meaning.specs.Items.ListItems.{item_from}
use Rattle.apollo_folding.specs.DeclaredParts.{item_seen}

-- the item of a definition is that of what is seen of it
pub item-seen : (d : Definition) (v : DeclarationRef) → declaration_seen v ≡ declaration_of d
    → item_of d ≡ item_seen v
item-seen d v sees = ap item_from (sym sees)
