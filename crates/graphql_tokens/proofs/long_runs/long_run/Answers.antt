use Rattle.std.proofs.Common.{arith}
use Rattle.graphql_tokens.proofs.RunLemmas.{behind_chunk}
use Rattle.graphql_tokens.proofs.long_runs.long_run.Goals as goal

pub chunks-preserved : goal.chunks-preserved
chunks-preserved g c = record {
  within = omega arith;
  whole = behind_chunk g.S.ByteSort.test c.args.text.now c.chunks.at c.chunk_run-found.result
      (omega (arith, c.chunks-test.true)) c.chunk_run-found.ensures
      (omega (arith, c.if-found-lt-CHUNK.false)) c.chunks.invariant.whole;
}
