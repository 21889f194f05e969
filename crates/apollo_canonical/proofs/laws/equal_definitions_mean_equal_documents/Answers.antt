use Rattle.apollo_canonical.proofs.Documents.PlainDocuments.{equal_documents, in_order, one_text}
use Rattle.apollo_canonical.proofs.Documents.PlainListFaults.{list_faults}
use Rattle.apollo_canonical.proofs.laws.equal_definitions_mean_equal_documents.Goals as goal

pub returns : goal.returns
returns c = record {
  equal = λ schema xs ys e a b h g. equal_documents c.lists_below.ensures schema xs ys e a b h
      g;
  ordered = λ schema xs ys e a b h g. in_order c.lists_below.ensures schema xs ys e a b h g;
  text = λ schema xs ys e a b h g. one_text c.lists_below.ensures schema xs ys e a b h g;
  faults = λ schema xs ys e. list_faults schema xs ys e;
}
