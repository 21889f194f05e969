-- The text that is refused is that of the file, under its number.
use Rattle.std.proofs.Common.{suc, ℕ, List, length, IfErr, Result, subst}
use Rattle.graphql_ast.specs.declared.document.Document.{Document}
use Rattle.graphql_grammar.specs.WordsOfText.{words_of}
use Rattle.graphql_nodes.specs.declared.source.FileId.{FileId}
use Rattle.graphql_nodes.specs.declared.source.SourceFile.{SourceFile}
use Rattle.graphql_productions.specs.Documents.{document, spells_document}
use Rattle.graphql_text.specs.Parses.{IsRefused}
use Rattle.graphql_text.specs.declared.parse_error.ParseError.{ParseError}
use Rattle.graphql_text.specs.declared.parsing.ParseOptions.{ParseOptions}
use Rattle.apollo_compiler.proofs.source_files.parse_file.Goals as goal

-- an error says why a text is refused, as the file of this number
abbrev Refuses : ParseOptions → FileId → List ℕ → Result Document ParseError → Type 0
Refuses options number text read =
    IfErr read
    (IsRefused (document number options.max_depth) (spells_document number options.max_depth)
    (document number (suc options.max_depth)).spells number (length text)
    (words_of options.max_tokens text))

pub returns-clause-refused : goal.returns-clause-refused
returns-clause-refused c =
    let options = c.args.options in
    let read = c.parse_document.result in
    let added = c.in_ok-number in
    subst (λ number. Refuses options number c.args.text.now read) added.ensures.number
    (subst (λ (file : SourceFile). Refuses options added.number file.text read) added.ensures.file
    c.parse_document.ensures.refused)
