use Rattle.apollo_meaning.specs.Faults.ListFaults.{faults_of}
use Rattle.apollo_schema_laws.specs.Reported.{same_sort, sort_of}
use Rattle.apollo_component.proofs.Lists.Groups.{grouped-by}
use Rattle.apollo_schema_laws.proofs.Rearranged.Sorts.{sort_laws}
use Rattle.apollo_schema_laws.proofs.rearrangement.each_fault_is_of_one_sort.Goals as goal

pub returns : goal.returns
returns c = record {
  own = λ e. sort_laws.itself (sort_of e);
  alone = λ s e. sort_laws.is s (sort_of e);
  together = λ adopts xs. grouped-by same_sort sort_laws (λ f. sort_of f.1)
      (faults_of adopts xs);
}
