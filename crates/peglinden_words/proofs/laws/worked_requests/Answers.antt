-- What the definition gives at these words is computed.
use Rattle.std.proofs.Common.{refl}
use Rattle.clap.proofs.OnLiterals.{clap_on_literals}
use Rattle.peglinden_words.specs.Commands.{peglinden}
use Rattle.peglinden_words.specs.Requests.{asked_unchecked}
use Rattle.peglinden_words.proofs.laws.worked_requests.Goals as goal

pub returns : goal.returns
unfolding clap_on_literals peglinden asked_unchecked
returns c = record {
  schema = refl;
  check = refl;
  typed = refl;
  fields = refl;
  lookup = refl;
  format = refl;
  write = refl;
}
