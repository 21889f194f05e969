use Rattle.std.proofs.Common.{rules}
use Rattle.peglinden_c.proofs.CallLemmas.{call_of}
use Rattle.peglinden_c.proofs.calls.peg_format.Goals as goal

pub returns : goal.returns
returns c = call_of _ _ c.format_answered-made.result c.open.result _ _ _ (search rules)
    c.format_answered-made.ensures c.open.ensures
