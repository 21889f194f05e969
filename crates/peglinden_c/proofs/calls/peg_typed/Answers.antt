use Rattle.std.proofs.Common.{rules}
use Rattle.peglinden_c.proofs.CallLemmas.{call_of}
use Rattle.peglinden_c.proofs.calls.peg_typed.Goals as goal

pub returns : goal.returns
returns c = call_of _ _ c.typed_answered-made.result c.open.result _ _ _ (search rules)
    c.typed_answered-made.ensures c.open.ensures
