-- The parts of a name are its first definition and the extensions of its kind, rising.
use Rattle.apollo_meaning.proofs.Prelude.{◌≡◌, ℕ, List, Some, filter, TypePart, kind_of, key_of, ListItem}
use Rattle.apollo_meaning.proofs.Prelude.{same, first, extensions_of, of_kind, folded}
use Rattle.apollo_meaning.proofs.Types.TypeLemmas.{type_foldings, foldings-of_name}

pub of_name : (xs : List ListItem) (n : List ℕ) (d : TypePart) → first xs n ≡ Some d
    → filter (λ p. same n (key_of p)) (type_foldings (folded xs)) ≡ of_kind (kind_of d) (extensions_of xs n)
of_name xs n d is = rw is at (foldings-of_name n xs)
