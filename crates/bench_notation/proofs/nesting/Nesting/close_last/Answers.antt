-- The last open selection stands behind all others.
use Rattle.std.proofs.Common.{◌≡◌, ℕ, ◌+◌, List, [], ◌∷◌, ◌++◌, length, ap, subst, arith, length-append}
use Rattle.bench_notation.specs.Nesting.{selections_at}
use Rattle.bench_notation.specs.declared.nesting.OpenSelection.{OpenSelection}
use Rattle.bench_notation.proofs.OpenLemmas.{last_closed}
use Rattle.bench_notation.proofs.nesting.Nesting.close_last.Goals as goal

pub returns-clause-same : goal.returns-clause-same
returns-clause-same c = λ lines none.
    let outer : List OpenSelection = c.pop.new.self.items in
    let path : c.args.self.now.path.items ≡ outer ++ c.in-Some.last ∷ [] = c.in-Some.ensures.items in
    let count : length c.args.self.now.path.items ≡ 0 + length outer + 1 =
    omega (arith, ap length path, length-append outer (c.in-Some.last ∷ [])) in
    rw (c.in_ok-self.ensures, path, c.replace-selections.ensures.value) (last_closed 0 outer c.in-Some.last
    c.args.self.now.selections lines (subst (λ (n : ℕ). selections_at n lines ≡ []) count none))
