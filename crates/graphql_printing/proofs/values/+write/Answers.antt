-- A list and an object are written with what stands in them.
use Rattle.std.proofs.Common.{◌∙◌, List, ◌++◌, sym, ap, rules, codes}
use Rattle.std.proofs.Output.{has_written_append, has_written_of_eq}
use Rattle.graphql_nodes.specs.NameView.{NameView}
use Rattle.graphql_nodes.specs.NodeView.{NodeView}
use Rattle.graphql_ast.specs.declared.value.Value.{Value}
use Rattle.graphql_printing.specs.Layout.{separated}
use Rattle.graphql_printing.specs.Texts.{item_text, member_text, value_text}
use Rattle.graphql_printing.proofs.FoldedText.{list_says, object_says}
use Rattle.graphql_printing.proofs.values.+write.Goals as goal

pub write_value-returns-in_ok-write_items-in-List : goal.write_value-returns-in_ok-write_items-in-List
write_value-returns-in_ok-write_items-in-List g t c plain ok =
    let one = c.write_str-in-List.ensures.writes plain (search rules) in
    let two = c.write_items.ensures one.plain (search rules) in
    let three = c.write_str-in-List-2.ensures.writes two.plain ok in
    has_written_of_eq _ _ _ _ _ (ap (λ (xs : List (NodeView Value)). codes "[" ++ separated (codes ", ")
    item_text xs ++ codes "]") c.as_slice.ensures ∙ sym (list_says c.in-List.items)
    ∙ sym (ap value_text c.in-List.is)) (has_written_append _ _ _ _ _ _ (has_written_append _ _ _ _ _ _
    one two) three)

pub write_value-returns-in_ok-write_members-in-Object : goal.write_value-returns-in_ok-write_members-in-Object
write_value-returns-in_ok-write_members-in-Object g t c plain ok =
    let one = c.write_str-in-Object.ensures.writes plain (search rules) in
    let two = c.write_members.ensures one.plain (search rules) in
    let three = c.write_str-in-Object-2.ensures.writes two.plain ok in
    has_written_of_eq _ _ _ _ _
    (ap (λ (xs : List (NameView × NodeView Value)). codes "{" ++ separated (codes ", ") member_text xs
    ++ codes "}") c.as_slice-in-Object.ensures ∙ sym (object_says c.in-Object.members)
    ∙ sym (ap value_text c.in-Object.is)) (has_written_append _ _ _ _ _ _ (has_written_append _ _ _ _ _ _
    one two) three)
