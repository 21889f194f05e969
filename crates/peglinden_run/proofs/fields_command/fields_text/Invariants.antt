use Rattle.std.proofs.Common.{◌≡◌, map, string_bytes}
use Rattle.std.specs.List.{flat_map}
use Rattle.peglinden_run.specs.FieldsCommand.{node_fields}
use Rattle.peglinden_run.proofs.fields_command.fields_text.Given as goal

abbrev pub invariant-loop-operation : goal.invariant-loop-operation
invariant-loop-operation l = string_bytes l.text ≡ flat_map (node_fields l.document)
    (map (λ n. n.now) l.yielded)
