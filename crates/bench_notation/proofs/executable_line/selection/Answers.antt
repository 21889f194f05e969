-- A depth that is read is that of the line, and it is too deep here.
use Rattle.std.proofs.Common.{◌≡◌, ◌∙◌, ◌∷◌, ℕ, List, [], arith, decimal, get_or, ap, rules, sym}
use Rattle.std.proofs.lemmas.Bool.Decides.{nat_tests}
use Rattle.std.proofs.lemmas.Fmt.{decimal_injective}
use Rattle.bench_notation.specs.Line.{texts_of}
use Rattle.bench_notation.proofs.executable_line.selection.Goals as goal

pub returns-then-from-levels-clause-refused : goal.returns-then-from-levels-clause-refused
returns-then-from-levels-clause-refused c = λ depth selected are may.
    let read : ℕ = c.in-Some-depth_of_word.depth in
    let words : texts_of c.args.words.now ≡ c.in-Some.depth.now.now ∷ texts_of c.in-Some.rest.now =
    search rules in
    let first : decimal depth ≡ c.in-Some.depth.now.now = ap (λ (l : List (List ℕ)). get_or l 0 []) (sym are.0
    ∙ words) in
    let same : read ≡ depth = decimal_injective read depth (omega (arith, c.in-Some-depth_of_word.ensures.0))
    (omega (arith, are.1.0)) (c.in-Some-depth_of_word.ensures.1 ∙ sym first) in
    grind (arith, nat_tests, may, same, c.if-from-levels.true, c.from.ensures, c.levels-levels.ensures)
