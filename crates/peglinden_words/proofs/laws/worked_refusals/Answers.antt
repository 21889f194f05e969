-- What the definition gives at these words is computed.
use Rattle.std.proofs.Common.{refl}
use Rattle.clap.proofs.OnLiterals.{clap_on_literals}
use Rattle.peglinden_words.specs.Commands.{peglinden}
use Rattle.peglinden_words.specs.Requests.{asked_unchecked}
use Rattle.peglinden_words.proofs.laws.worked_refusals.Goals as goal

pub returns : goal.returns
unfolding clap_on_literals peglinden asked_unchecked
returns c = record {
  help = refl;
  help_of_check = refl;
  version = refl;
  nothing = refl;
  no_file = refl;
  no_schema = refl;
  no_document = refl;
  no_command = refl;
  no_option = refl;
  twice = refl;
  no_number = refl;
  two_forms = refl;
  input_twice = refl;
  write_and_check = refl;
  write_input = refl;
  none = refl;
}
