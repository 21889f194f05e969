use Rattle.apollo_meaning.proofs.Prelude.{◌≡◌, ◌++◌, map}
use Rattle.apollo_schema.specs.SchemaWriteOut.{write_directives}
use Rattle.apollo_schema.proofs.write_out.write_directives.Given as goal

abbrev pub invariant-loop-node : goal.invariant-loop-node
invariant-loop-node l = l.written.items ≡ l.fn.written.items ++ write_directives (map (λ d. d.now) l.yielded)
