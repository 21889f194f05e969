use Rattle.graphql_nodes.specs.declared.type_kind.TypeKind.TheVariants as kinds
use Rattle.apollo_meaning.specs.declared.collision.Collection.TheVariants as collections
use Rattle.apollo_folding.specs.DeclaredParts.{part_as}
use Rattle.apollo_folding.proofs.PartNames.{names-joined, found-last}
use Rattle.apollo_folding.proofs.from_ast.kinds.UnionTypeKind.fold.Goals as goal

pub returns-clause-faults : goal.returns-clause-faults
returns-clause-faults c = λ head done was. found-last collections.UnionMembers done
    (part_as kinds.Union c.args.part.now.of.now) _ _ _ (names-joined done) (c.in_ok-fold_names.ensures.faults
    _ (λ i. (was i).members))
