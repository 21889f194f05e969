use Rattle.std.proofs.Common.{rules, ◌∙◌, ◌++◌, ap, List}
use Rattle.std.specs.Option.{option_copied}
use Rattle.apollo_document.specs.SelectionFaults.{faults_of_selections}
use Rattle.apollo_document.specs.Typable.{Fault}
use Rattle.apollo_document.proofs.BuiltLemmas.{all_noted, operation_faults_made}
use Rattle.apollo_document.proofs.tables.Tables.build_operation.Goals as goal

pub returns-clause-faults : goal.returns-clause-faults
returns-clause-faults c =
    let s = option_copied c.args.schema in
    let n = c.args.node.now in
    let t = c.args.self.now in
    let root = c.in-Some.root in
    let below = c.as_slice.result.now in
    let found = all_noted (λ p. faults_of_selections s root p below) _ c.of-elaboration.result
    c.elaborate_set.new.self c.of-elaboration.ensures.path c.of-elaboration.ensures.faults
    c.in_ok-set.ensures.faults in
    let all = c.in_ok-append.ensures.ok ∙ ap (λ (l : List Fault). t.faults ++ l) (found
    ∙ operation_faults_made s n c.args.name root below (search rules) (search rules)) in
    λ i. record t { faults = all i }
