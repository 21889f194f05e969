-- Equality of the errors of names.
use Rattle.std.proofs.Common.{refl, None}
use Rattle.graphql_nodes.specs.Comparing.{bare_invalid_name}
use Rattle.graphql_nodes.specs.contracts.name.InvalidNameErrorPartialEq.TheImpl as invalid
use Rattle.graphql_nodes.proofs.Comparisons.{Compares, of_fields, texts}

pub invalid_names : Compares invalid.ghosts.eq bare_invalid_name
invalid_names = of_fields (λ e. e.name) (λ p. record { name = p; location = None }) (λ _. refl) texts
