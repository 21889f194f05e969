use Rattle.apollo_meaning.proofs.Prelude.{refl}
use Rattle.graphql_nodes.specs.declared.type_kind.TypeKind.TheVariants as kinds
use Rattle.apollo_meaning.specs.declared.collision.Collection.TheVariants as collections
use Rattle.apollo_folding.specs.DeclaredParts.{part_as}
use Rattle.apollo_folding.proofs.PartNames.{found-both}
use Rattle.apollo_folding.proofs.from_ast.kinds.InterfaceTypeKind.fold.Goals as goal

pub returns-clause-faults : goal.returns-clause-faults
returns-clause-faults c = λ head done was. found-both collections.InterfaceInterfaces
    collections.InterfaceFields refl refl done (part_as kinds.Interface c.args.part.now.of.now) _ _ _
    (c.in_ok-fold_names.ensures.faults _ (λ i. (was i).implements_interfaces))
    (c.in_ok-fold_named.ensures.faults _ (λ i. (was i).fields))
