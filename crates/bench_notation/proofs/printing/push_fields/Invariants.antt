-- What was added is the text of the fields so far.
use Rattle.std.proofs.Common.{◌≡◌, ◌++◌, string_bytes, take}
use Rattle.std.specs.List.{flat_map}
use Rattle.bench_notation.specs.Text.{field_definition_text}
use Rattle.bench_notation.proofs.printing.push_fields.Given as goal

abbrev pub invariant-loop-field : goal.invariant-loop-field
invariant-loop-field l = string_bytes l.text ≡ string_bytes l.initial.text ++ flat_map field_definition_text
    (take l.field-index l.fields)
