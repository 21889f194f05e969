use Rattle.std.proofs.Common.{ap}
use Rattle.std.specs.Option.{option_map}
use Rattle.graphql_ast.specs.BareTypeSystem.{bare_directive_definition}
use Rattle.apollo_schema_laws.proofs.Rearranged.Types.{built-alike, faultless-rearranged, found-rearranged}
use Rattle.apollo_schema_laws.proofs.Rearranged.Types.{schemas-alike}
use Rattle.apollo_schema_laws.proofs.rearranged_builds.rearranged.Goals as goal

pub returns-clause-schemas : goal.returns-clause-schemas
returns-clause-schemas c = λ adopts xs ys r.
    let all = c.completed_lists_are_rearranged.ensures adopts _ _ r in
    schemas-alike adopts xs ys
    (λ start other. c.rearranged_schema_definitions_are_equal.ensures start other _ _ all)
    (λ start other n. c.rearranged_types_are_equal.ensures start other _ _ n all)
    (λ n. ap (option_map (λ d. bare_directive_definition d.value))
    (c.rearranged_directives_are_the_same.ensures _ _ n all))

pub returns-clause-faults : goal.returns-clause-faults
returns-clause-faults c = c.rearranged_faults_are_the_same.ensures

pub returns-clause-built : goal.returns-clause-built
returns-clause-built c = λ xs ys r. built-alike xs ys (λ adopts. returns-clause-schemas c adopts xs ys r)

pub returns-clause-found : goal.returns-clause-found
returns-clause-found c = λ xs ys r first second stand. found-rearranged xs ys r first second stand
    (λ adopts. returns-clause-schemas c adopts xs ys r)

pub returns-clause-faultless : goal.returns-clause-faultless
returns-clause-faultless c = faultless-rearranged
