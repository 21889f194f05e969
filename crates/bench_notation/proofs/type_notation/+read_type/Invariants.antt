-- Each bracket opened leaves one fewer to open.
use Rattle.bench_notation.proofs.type_notation.+read_type.Given as goal

abbrev pub decreases-read_type : goal.decreases-read_type
decreases-read_type l = l.brackets
