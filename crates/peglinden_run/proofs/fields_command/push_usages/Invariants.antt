use Rattle.std.proofs.Common.{◌≡◌, ◌++◌, string_bytes, take}
use Rattle.std.specs.List.{flat_map}
use Rattle.peglinden_run.specs.FieldsCommand.{usage_line}
use Rattle.peglinden_run.proofs.fields_command.push_usages.Given as goal

abbrev pub invariant-loop-usage : goal.invariant-loop-usage
invariant-loop-usage l = string_bytes l.text ≡ string_bytes l.fn.text ++ flat_map usage_line
    (take l.usage-index l.usages)
