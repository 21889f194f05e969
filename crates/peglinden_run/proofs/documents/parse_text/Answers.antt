use Rattle.std.proofs.Common.{◌∙◌, string_bytes, sym}
use Rattle.std.proofs.lemmas.Bool.{true≢false}
use Rattle.peglinden_run.proofs.DocumentLemmas.{document-of, refused-text, same-file}
use Rattle.peglinden_run.proofs.documents.parse_text.Goals as goal

pub returns-in-Ok : goal.returns-in-Ok
returns-in-Ok c = λ some_number.
    let is = c.in_ok-source.ensures ∙ same-file _ _ _ _ c.in_ok-from_str.ensures c.from_string.ensures in
    document-of c.args.number c.args.path.now (string_bytes c.args.text) c.new-2.result c.in_ok-source.source
    c.in-Ok.document is c.new-2.ensures c.in-Ok.ensures.sources c.in-Ok.ensures.found

pub returns : goal.returns
returns c = λ some_number.
    let is = c.in_ok-source.ensures ∙ same-file _ _ _ _ c.in_ok-from_str.ensures c.from_string.ensures in
    let error = c.in-Err.error in
    refused-text c.args.form c.args.number c.args.path.now (string_bytes c.args.text) c.new-2.result
    c.in_ok-source.source
    error (string_bytes c.in_ok-parse_report-in-Err-2.field-0) is c.new-2.ensures some_number
    (λ definitions spelled. c.in-Err.ensures.only definitions some_number spelled)
    c.in-Err.ensures.refused (λ memory. true≢false (sym (c.is_memory.ensures.1 memory)
    ∙ c.if-is_memory.false)) c.in_ok-parse_report-in-Err-2.ensures
