use Rattle.std.proofs.Common.{length, ap}
use Rattle.std.proofs.iter.runs.Sources.{from_front}
use Rattle.std.specs.Map.Iter.{TakesFirst, deref}
use Rattle.graphql_ast.proofs.get_all.GetAll.new.Goals as goal

pub returns-clause-runs : goal.returns-clause-runs
returns-clause-runs c =
    from_front (TakesFirst deref) deref (λ s. s) (λ s t h. ap length h.0) (λ s x t h. h)
