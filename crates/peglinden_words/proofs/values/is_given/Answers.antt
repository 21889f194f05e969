-- The flag's value is `true` by the rows of the matches.
use Rattle.std.proofs.Common.{◌∙◌, refl}
use Rattle.clap.specs.Matches.{found_of}
use Rattle.clap.proofs.WalkLemmas.{first_value-rows}
use Rattle.peglinden_words.proofs.ValueLemmas.{text_is}
use Rattle.peglinden_words.proofs.values.is_given.Goals as goal

pub returns : goal.returns
returns c =
    c.eq.ensures
    ∙ text_is _ (λ a b. refl) c.get_str.result _ _
    (c.get_str.ensures ∙ first_value-rows (found_of c.args.found.now) c.args.name.now)
