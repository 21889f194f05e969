use Rattle.apollo_executable.proofs.Walking.ReadingLemmas.{of_fields, none-read, field-read, spread-read}
use Rattle.apollo_executable.proofs.Walking.ReadingLemmas.{inline-read, joined-read}
use Rattle.apollo_executable.proofs.laws.by_kind.fields_by_kind_of_selection.Goals as goal

pub returns : goal.returns
returns c =
    let r = of_fields in search (none-read r, field-read r, spread-read r, inline-read r, joined-read r)
