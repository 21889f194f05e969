-- What the proofs of sets cite.
use Rattle.std.proofs.Common.{List}
use Rattle.std.specs.List.{AllZip}
use Rattle.std.proofs.lemmas.List.Elements.{same_from_all_zip}
use Rattle.graphql_nodes.specs.KeySets.{IsSetClone}

-- exact clones of the keys make an exact clone of the set
pub exact_keys : {K : Type 0} (C : K → K → Type 0) (ks js : List K) → AllZip C ks js → IsSetClone C ks js
exact_keys C ks js h = (h, λ c. same_from_all_zip C ks js h c)
