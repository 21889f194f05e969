use Rattle.std.proofs.Common.{◌≡◌, ◌+◌, ◌≤◌, ℕ, List, true, false, arith}
use Rattle.graphql_nodes.specs.LineColumns.{column_of, line_of, ends_line}
use Rattle.graphql_nodes.proofs.LineColumnLemmas.{line-ends, column-ends, line-stays, column-goes_on}
use Rattle.graphql_nodes.proofs.LineColumnLemmas.{column-stays, line-le, column-le}
use Rattle.graphql_nodes.proofs.line_column.counted.Goals.{then-ends_line, else-ends_line+then-begins_char}
use Rattle.graphql_nodes.proofs.line_column.counted.Goals.{else-ends_line+else-begins_char}
use Rattle.graphql_nodes.proofs.line_column.counted.Goals as goal

reached : (text : List ℕ) (at line column : ℕ) → line ≡ line_of text at → column ≡ column_of text at
    → (line ≡ line_of text at) × (column ≡ column_of text at) × (line ≤ at + 1) × (column ≤ at + 1)
reached text at line column e f = (e, f, rw e (line-le text at), rw f (column-le text at))

pub loop-at-init : goal.loop-at-init
loop-at-init c = reached c.args.text.now c.args.from c.args.start.line c.args.start.column c.requires.line
    c.requires.column

pub overflow_add-line : goal.overflow_add-line
overflow_add-line c = omega arith

pub overflow_add-column : goal.overflow_add-column
overflow_add-column c = omega arith

pub loop-at-preserved : goal.loop-at-preserved
loop-at-preserved c =
    let text = c.args.text.now in
    let at = c.loop-at.at in
    let keep = reached text (at + 1) c.if-ends_line.line c.if-ends_line.column in
    elim c.if-ends_line.branch [
      | then-ends_line w ↦
          let ends : ends_line text at ≡ true = cc in
          keep (cc (line-ends text at ends)) (cc (column-ends text at ends))
      | else-ends_line+then-begins_char w ↦
          let ends : ends_line text at ≡ false = cc in
          keep (cc (line-stays text at ends)) (cc (column-goes_on text at ends cc))
      | else-ends_line+else-begins_char w ↦
          let ends : ends_line text at ≡ false = cc in
          keep (cc (line-stays text at ends)) (cc (column-stays text at ends cc))
    ]

pub returns-clause-line : goal.returns-clause-line
returns-clause-line c =
    let done : c.loop-at.at ≡ c.args.offset = omega arith in
    cc

pub returns-clause-column : goal.returns-clause-column
returns-clause-column c =
    let done : c.loop-at.at ≡ c.args.offset = omega arith in
    cc
