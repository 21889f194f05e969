-- The line ends the selections of those that were closed.
use Rattle.std.proofs.Common.{◌≡◌, ◌∙◌, ◌+◌, ◌<◌, List, [], ◌∷◌, ◌++◌, length, arith, rules}
use Rattle.graphql_ast.specs.declared.selection.Selection.{Selection}
use Rattle.bench_notation.specs.declared.selection_line.SelectionLine.{SelectionLine}
use Rattle.bench_notation.specs.declared.nesting.OpenSelection.{OpenSelection}
use Rattle.bench_notation.proofs.OpenLemmas.{less_deep, next_opened, too_deep}
use Rattle.bench_notation.proofs.nesting.Nesting.add.Goals as goal

pub returns-then-len-depth : goal.returns-then-len-depth
returns-then-len-depth c = λ lines.
    let line : SelectionLine = c.args.line in
    let path : List OpenSelection = c.close_to.new.self.path.items in
    let short : 0 + length path < line.depth =
    omega (arith, c.if-len-depth.true, c.len.ensures, c.from-depth.ensures) in
    too_deep 0 path c.close_to.new.self.selections line lines short ∙ c.in_ok-close_to.ensures.same (line
    ∷ lines) (λ depth lt. less_deep depth line lines (omega (arith, lt, c.from-depth.ensures)))

pub returns : goal.returns
returns c = λ lines.
    let line : SelectionLine = c.args.line in
    let path : List OpenSelection = c.close_to.new.self.path.items in
    let before : List Selection = c.close_to.new.self.selections in
    let as_long : line.depth ≡ 0 + length path =
    omega (
      arith,
      c.if-len-depth.false,
      c.len.ensures,
      c.from-depth.ensures,
      c.in_ok-close_to.ensures.most,
    ) in
    let pushed : c.push.new.self.items ≡ path ++ record { before = c.replace-before.result; line = line }
    ∷ [] = search rules in
    rw (pushed, c.replace-before.ensures.after ∙ c.new.ensures, c.replace-before.ensures.value)
    (next_opened 0 path before line lines as_long ∙ c.in_ok-close_to.ensures.same (line
    ∷ lines) (λ depth lt. less_deep depth line lines (omega (arith, lt, c.from-depth.ensures))))
