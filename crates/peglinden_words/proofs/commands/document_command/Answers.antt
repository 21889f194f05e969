-- The option of the schema, the options of reports, and the documents.
use Rattle.std.proofs.lemmas.Result.{IfOk-weaker}
use Rattle.peglinden_words.proofs.CommandLemmas.{arg_added}
use Rattle.peglinden_words.proofs.commands.document_command.Goals as goal

pub returns : goal.returns
returns c =
    let schema = rw c.schema_option.ensures.rule
    at (arg_added c.schema_option.result c.in_ok-command.ensures c.schema_option.ensures.local
    c.bare_command.ensures) in
    let reporting = c.in_ok-with_reporting.ensures _ schema in
    IfOk-weaker c.arg-2.result _ _
    (λ made adds. rw c.files-documents.ensures.rule
    at (arg_added c.files-documents.result {new = made} adds c.files-documents.ensures.local reporting))
    c.arg-2.ensures
