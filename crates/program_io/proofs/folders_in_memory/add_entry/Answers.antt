use Rattle.std.proofs.Common.{ap, refl, ◌∙◌}
use Rattle.program_io.proofs.EntryLemmas.{with_known, with_new}
use Rattle.program_io.specs.Entries.{named}
use Rattle.program_io.proofs.folders_in_memory.add_entry.Goals as goal

pub returns-then-is_among : goal.returns-then-is_among
returns-then-is_among c = with_known c.args.entries.now.items c.as_slice.result.now c.in-Some.name.now
    c.in-Some.is_folder c.is_among.result _ c.in-Some.ensures c.as_slice.ensures.value c.is_among.ensures
    c.if-is_among.true

pub returns : goal.returns
returns c = ap named c.in_ok-push.ensures.items ∙ with_new c.args.entries.now.items c.as_slice.result.now _
    c.in-Some.name.now c.in-Some.is_folder c.is_among.result _ c.in-Some.ensures c.as_slice.ensures.value
    c.is_among.ensures c.if-is_among.false c.in_ok-name.ensures.ok refl
