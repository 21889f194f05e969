use Rattle.named_files.proofs.NamingLemmas.{not_split}
use Rattle.named_files.proofs.prefixes.base.Goals as goal

pub returns : goal.returns
returns c = record {
  rest = c.loop-part.rest.now;
  split = c.loop-part.invariant.split;
  last = not_split c.loop-part.rest.now c.split_once.result c.split_once.ensures.cases c.in_default.not-Some;
  ends = c.loop-part.invariant.ends;
}
