-- How wide a text is that was written in parts.
use Rattle.std.proofs.Common.{◌≡◌, ◌∙◌, ℕ, ◌+◌, ◌-◌, ◌≤◌, List, [], ◌∷◌, ◌++◌, min, nat_lt, sym, ap, subst}
use Rattle.std.proofs.Common.{arith}
use Rattle.std.proofs.lemmas.Bool.Decides.{nat_tests}
use Rattle.std.specs.Fmt.{HasWritten}
use Rattle.std.specs.List.{FoldsTo, concat}
use Rattle.std.specs.declared.fmt.Formatter.{Formatter}
use Rattle.graphql_printing.specs.Widths.{width}
use Rattle.graphql_printing.specs.declared.widths.Width.{Width}

width_append : (xs ys : List ℕ) → width (xs ++ ys) ≡ width xs + width ys
width_append [] ys = omega arith
width_append (x ∷ xs) ys =
    let more = width_append xs ys in
    omega (arith, more)

-- what the sink keeps of one part
abbrev pub Counts : Width → List ℕ → Width → Type 0
Counts before text after = after.units ≡ before.units + min (81 - before.units) (width text)

capped : (n a b : ℕ) → n ≤ 81
    → n + min (81 - n) a + min (81 - (n + min (81 - n) a)) b ≡ n + min (81 - n) (a + b)
capped n a b small = omega (arith, small)

bounded : (n a : ℕ) → n ≤ 81 → n + min (81 - n) a ≤ 81
bounded n a small = omega (arith, small)

-- and of many
pub counted : (before : Width) (parts : List (List ℕ)) (after : Width) → before.units ≤ 81
    → FoldsTo Counts before parts after
    → after.units ≡ before.units + min (81 - before.units) (width (concat parts))
counted before [] after small folds =
    let same : before.units ≡ after.units = ap (λ (w : Width). w.units) folds in
    omega (arith, same)
counted before (part ∷ parts) after small folds =
    let one = folds.1 in
    let rest = counted folds.0 parts after (subst (λ (n : ℕ). n ≤ 81) (sym one)
    (bounded before.units _ small)) folds.2 in
    let both = width_append part _ in
    rest ∙ ap (λ (n : ℕ). n + min (81 - n) _) one ∙ capped before.units _ _ small
    ∙ ap (λ (n : ℕ). before.units + min (81 - before.units) n) (sym both)

long : (n w : ℕ) → n ≡ 0 → nat_lt 80 (n + min (81 - n) w) ≡ nat_lt 80 w
long n w none = grind (arith, nat_tests, none)

-- whether a text is long is what the sink says of it
pub long_is : (f g : Formatter Width) (text : List ℕ) → f.writer.units ≡ 0 → HasWritten Counts f text g
    → nat_lt 80 g.writer.units ≡ nat_lt 80 (width text)
long_is f g text none written =
    let wrote = written.wrote in
    let total = counted f.writer wrote.parts g.writer (omega (arith, none)) wrote.calls
    ∙ ap (λ (t : List ℕ). f.writer.units + min (81 - f.writer.units) (width t)) wrote.whole in
    ap (nat_lt 80) total ∙ long f.writer.units _ none
