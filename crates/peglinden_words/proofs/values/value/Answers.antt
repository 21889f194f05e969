-- What is found is the value by the rows of the matches.
use Rattle.std.proofs.Common.{◌∙◌, ap}
use Rattle.clap.specs.Matches.{found_of}
use Rattle.clap.proofs.WalkLemmas.{first_value-rows}
use Rattle.peglinden_words.proofs.ValueLemmas.{text_or}
use Rattle.peglinden_words.proofs.values.value.Goals as goal

pub returns : goal.returns
returns c =
    ap (λ s. s.now) c.unwrap_or.ensures
    ∙ text_or c.get_str.result _ _
    (c.get_str.ensures ∙ first_value-rows (found_of c.args.found.now) c.args.name.now)
