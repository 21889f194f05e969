use Rattle.apollo_meaning.specs.Order.Places.{folding_order}
use Rattle.apollo_schema_laws.proofs.Types.{meant-once, once-again}
use Rattle.apollo_schema_laws.proofs.write_out.written_types_have_each_name_once.Goals as goal

pub returns : goal.returns
returns c = record { meant = λ start xs n t. meant-once start (folding_order xs) xs n t; again = once-again }
