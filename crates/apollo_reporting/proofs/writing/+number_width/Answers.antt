-- A number of ten and more has a digit more than a tenth of it.
use Rattle.std.proofs.Common.{◌≡◌, ◌+◌, ◌/◌, ◌%◌, ◌∷◌, [], length, decimal, sym, ap, ◌∙◌, arith}
use Rattle.std.proofs.Common.{length-append}
use Rattle.std.proofs.lemmas.Fmt.{decimal_digit, decimal_step}
use Rattle.apollo_reporting.proofs.writing.+number_width.Goals as goal

pub returns-then-number-lt10-clause-width : goal.returns-then-number-lt10-clause-width
returns-then-number-lt10-clause-width t c =
    sym (ap length (decimal_digit c.args.number c.if-number-lt10.true))

pub returns-else-number-lt10-clause-width : goal.returns-else-number-lt10-clause-width
returns-else-number-lt10-clause-width t c =
    let n = c.args.number in
    let long : length (decimal n) ≡ length (decimal (n / 10)) + 1 =
    ap length (decimal_step n c.if-number-lt10.false c.ranges.number.fits)
    ∙ length-append (decimal (n / 10)) ((48 + n % 10) ∷ []) in
    omega (arith, long, c.number_width.ensures.width)
