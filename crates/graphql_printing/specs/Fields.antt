-- The heads of fields: GraphQL specification of October 2021, sections 2.5 to 2.7.
use Rattle.std.specs.Prelude.{ℕ, List, ◌++◌, nat_lt, if◌then◌else◌, Option, None, Some, codes}
use Rattle.graphql_nodes.specs.NameView.{NameView}
use Rattle.graphql_nodes.specs.NodeView.{NodeView}
use Rattle.graphql_ast.specs.declared.directive.Argument.{Argument}
use Rattle.graphql_printing.specs.Layout.{on_lines}
use Rattle.graphql_printing.specs.Texts.{argument_text, arguments_text, label_text}
use Rattle.graphql_printing.specs.Widths.{width}

-- a field's name, behind its alias, if it has one
abbrev pub field_name_text : Option NameView → NameView → List ℕ
field_name_text None name = name.text
field_name_text (Some alias) name = label_text alias ++ name.text

-- the same with its arguments in one line
abbrev pub short_head : Option NameView → NameView → List (NodeView Argument) → List ℕ
short_head alias name arguments = field_name_text alias name ++ arguments_text arguments

-- arguments one a line, further in, of what stands further in by so many blanks
abbrev pub argument_lines : ℕ → List (NodeView Argument) → List ℕ
argument_lines indent arguments =
    on_lines (codes "(") (codes ")") indent (λ (inner : ℕ). argument_text) arguments

-- a field's alias, name and arguments: these one a line where all take more than 80 UTF-16 units in one line
abbrev pub field_head : ℕ → Option NameView → NameView → List (NodeView Argument) → List ℕ
field_head indent alias name arguments =
    if nat_lt 80 (width (short_head alias name arguments))
    then field_name_text alias name ++ argument_lines indent arguments
    else short_head alias name arguments
