use Rattle.std.proofs.lemmas.Str.Pattern.{ends_text}
use Rattle.named_files.proofs.wanted.has_ending.Goals as goal

pub returns : goal.returns
returns c = ends_text c.ends_with.result c.args.ending.now c.args.path.now c.ends_with.ensures.cases
