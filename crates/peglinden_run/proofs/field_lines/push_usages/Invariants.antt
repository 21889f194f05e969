use Rattle.std.proofs.Common.{◌≡◌, ◌++◌, string_bytes, take}
use Rattle.std.specs.List.{flat_map}
use Rattle.peglinden_run.specs.FieldLines.{field_line}
use Rattle.peglinden_run.proofs.field_lines.push_usages.Given as goal

abbrev pub invariant-loop-usage : goal.invariant-loop-usage
invariant-loop-usage g l = string_bytes l.text ≡ string_bytes l.fn.text
    ++ flat_map (field_line (g.S.Sources.files l.sources) l.schema l.operation) (take l.usage-index l.usages)
