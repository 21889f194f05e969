use Rattle.std.proofs.Common.{◌≡◌, map, string_bytes}
use Rattle.std.specs.List.{flat_map}
use Rattle.peglinden_run.specs.FieldLines.{node_lines}
use Rattle.peglinden_run.proofs.field_lines.field_lines.Given as goal

abbrev pub invariant-loop-operation : goal.invariant-loop-operation
invariant-loop-operation g l = string_bytes l.text
    ≡ flat_map (node_lines (g.S.Sources.files l.sources) l.schema l.document) (map (λ n. n.now) l.yielded)
