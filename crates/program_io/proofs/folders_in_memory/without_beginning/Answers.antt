use Rattle.program_io.proofs.EntryLemmas.{from_strip_prefix}
use Rattle.program_io.proofs.folders_in_memory.without_beginning.Goals as goal

pub returns : goal.returns
returns c = from_strip_prefix c.args.beginning.now c.args.text.now c.strip_prefix.result
    c.strip_prefix.ensures.cases
