use Rattle.std.proofs.Common.{refl}
use Rattle.std.specs.Str.{chars}
use Rattle.named_files.proofs.laws.worked_mismatches.Goals as goal

pub returns-clause-other : goal.returns-clause-other
unfolding chars
returns-clause-other c = refl

pub returns-clause-slash : goal.returns-clause-slash
unfolding chars
returns-clause-slash c = refl

pub returns-clause-one_of_none : goal.returns-clause-one_of_none
unfolding chars
returns-clause-one_of_none c = refl

pub returns-clause-one_of_two : goal.returns-clause-one_of_two
unfolding chars
returns-clause-one_of_two c = refl

pub returns-clause-one_slash : goal.returns-clause-one_slash
unfolding chars
returns-clause-one_slash c = refl

pub returns-clause-ending : goal.returns-clause-ending
unfolding chars
returns-clause-ending c = refl

pub returns-clause-inside : goal.returns-clause-inside
unfolding chars
returns-clause-inside c = refl

pub returns-clause-other_case : goal.returns-clause-other_case
unfolding chars
returns-clause-other_case c = refl
