-- The number of what is found, by the rows of the matches.
use Rattle.std.proofs.Common.{◌∙◌, ap, sym, option_map}
use Rattle.std.specs.Prelude.{option_and_then}
use Rattle.clap.specs.Matches.{found_of}
use Rattle.clap.proofs.WalkLemmas.{first_value-rows}
use Rattle.peglinden_words.specs.Requests.{read_number}
use Rattle.peglinden_words.proofs.values.number.Goals as goal

pub returns-in_err-text : goal.returns-in_err-text
returns-in_err-text c =
    c.from_residual.ensures
    ∙ ap (λ o. option_and_then read_number (option_map (λ s. s.now) o)) (sym c.in_err-text.was)
    ∙ ap (option_and_then read_number)
    (c.get_str.ensures ∙ first_value-rows (found_of c.args.found.now) c.args.name.now)

pub returns : goal.returns
returns c =
    c.read_number.ensures
    ∙ ap (λ o. option_and_then read_number (option_map (λ s. s.now) o)) (sym c.in_ok-text.was)
    ∙ ap (option_and_then read_number)
    (c.get_str.ensures ∙ first_value-rows (found_of c.args.found.now) c.args.name.now)
