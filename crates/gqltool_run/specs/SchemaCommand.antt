-- What the command `schema` answers: docs/NOTATION.md, and GraphQL specification of October 2021, section 3.
use Rattle.std.specs.Prelude.{◌≡◌, ℕ, Bool, not, List, ◌++◌, ◌==◌, length}
use Rattle.apollo_schema.specs.declared.schema.Schema.{Schema}
use Rattle.apollo_schema.specs.SchemaWriteOut.{write_schema}
use Rattle.apollo_meaning.specs.Faults.Collisions.{Fault}
use Rattle.bench_notation.specs.Text.{printed_definitions}
use Rattle.apollo_compiler.specs.declared.compile_options.CompileOptions.{CompileOptions}
use Rattle.gqltool_run.specs.Building.{IsBuilt}
use Rattle.gqltool_run.specs.FaultLines.{AreFaultLines}

-- the text is the print of the write-out of what the input means with these options, and then of its faults
pub record IsAnswer (options : CompileOptions) (input text : List ℕ) (has_faults : Bool) : Type 0 where
  pub schema : Schema
  pub faults : List Fault
  pub means : IsBuilt options input schema faults
  -- the lines of the schema's faults
  pub lines : List ℕ
  pub prints : text ≡ printed_definitions (write_schema schema) ++ lines
  pub tells : AreFaultLines faults lines
  pub any : has_faults ≡ not (length faults == 0)
