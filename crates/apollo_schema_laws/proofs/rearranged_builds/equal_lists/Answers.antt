use Rattle.apollo_schema_laws.proofs.Rearranged.Types.{built-alike, schemas-alike}
use Rattle.apollo_schema_laws.proofs.rearranged_builds.equal_lists.Goals as goal

pub returns-clause-schemas : goal.returns-clause-schemas
returns-clause-schemas c = λ adopts xs ys alike.
    let same = c.equal_lists_mean_equal_definitions.ensures in
    schemas-alike adopts xs ys (λ start other. same.definition start other adopts xs ys alike)
    (λ start other n. same.types start other adopts xs ys n alike) (λ n. same.directives adopts xs ys n
    alike)

pub returns-clause-built : goal.returns-clause-built
returns-clause-built c = λ xs ys alike. built-alike xs ys (λ adopts. returns-clause-schemas c adopts xs ys
    alike)
