use Rattle.std.proofs.Common.{◌++◌, List, ℕ, codes, string_bytes, ap, ◌∙◌, append_assoc}
use Rattle.std.proofs.lemmas.Result.{on_ok_weaker}
use Rattle.graphql_nodes.specs.OperationTexts.{operation_text}
use Rattle.gqltool_run.proofs.walk_command.push_operation_line.Goals as goal

pub returns : goal.returns
returns c =
    let text = string_bytes c.args.text.now in
    let kind = operation_text c.args.operation.now.operation_type in
    let end = λ (name : List ℕ). codes " " ++ (name ++ codes "\n") in
    let before = c.in_ok-push_str-2.ensures.bytes ∙ ap (λ t. t ++ c.name.result.now)
    c.in_ok-push_str.ensures.bytes ∙ ap (λ k. (text ++ codes "walk operation ") ++ k) c.name.ensures in
    let name = end c.name_word.result.now in
    on_ok_weaker c.push_line.result (λ line. line ∙ ap (λ t. t ++ name) before ∙ append_assoc _ kind name
    ∙ append_assoc text _ _ ∙ ap (λ n. text ++ (codes "walk operation " ++ (kind ++ end n)))
    c.name_word.ensures) c.push_line.ensures
