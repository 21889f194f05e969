-- What is read is the number that the text is.
use Rattle.std.proofs.Common.{◌∙◌}
use Rattle.peglinden_words.proofs.ValueLemmas.{number_read}
use Rattle.peglinden_words.proofs.values.read_number.Goals as goal

pub returns : goal.returns
returns c = c.ok.ensures.value ∙ number_read c.args.text.now c.parse.result c.parse.ensures.value.0
