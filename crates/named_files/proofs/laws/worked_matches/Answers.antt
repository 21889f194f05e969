use Rattle.std.proofs.Common.{refl}
use Rattle.std.specs.Str.{chars}
use Rattle.named_files.proofs.laws.worked_matches.Goals as goal

pub returns-clause-itself : goal.returns-clause-itself
unfolding chars
returns-clause-itself c = refl

pub returns-clause-in_a_part : goal.returns-clause-in_a_part
unfolding chars
returns-clause-in_a_part c = refl

pub returns-clause-empty : goal.returns-clause-empty
unfolding chars
returns-clause-empty c = refl

pub returns-clause-backtracks : goal.returns-clause-backtracks
unfolding chars
returns-clause-backtracks c = refl

pub returns-clause-one : goal.returns-clause-one
unfolding chars
returns-clause-one c = refl

pub returns-clause-whole_character : goal.returns-clause-whole_character
unfolding chars
returns-clause-whole_character c = refl

pub returns-clause-no_parts : goal.returns-clause-no_parts
unfolding chars
returns-clause-no_parts c = refl

pub returns-clause-some_parts : goal.returns-clause-some_parts
unfolding chars
returns-clause-some_parts c = refl

pub returns-clause-anywhere : goal.returns-clause-anywhere
unfolding chars
returns-clause-anywhere c = refl

pub returns-clause-all_below : goal.returns-clause-all_below
unfolding chars
returns-clause-all_below c = refl
