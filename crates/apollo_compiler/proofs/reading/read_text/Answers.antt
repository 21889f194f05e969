-- The text that is refused is that of the file, under its number.
use Rattle.std.proofs.Common.{◌≡◌, ◌≢◌, ◌⊎◌, ◌∙◌, ℕ, suc, List, length, inl, inr, string_bytes, sym}
use Rattle.std.proofs.lemmas.Bool.{true≢false}
use Rattle.graphql_nodes.specs.declared.source.FileId.{FileId}
use Rattle.graphql_nodes.specs.declared.source.SourceFile.{SourceFile}
use Rattle.graphql_ast.specs.declared.definition.Definition.{Definition}
use Rattle.graphql_grammar.specs.WordsOfText.{words_of}
use Rattle.graphql_productions.specs.Documents.{document, spells_document}
use Rattle.graphql_text.specs.Parses.{IsRefused}
use Rattle.graphql_text.specs.declared.parse_error.ParseError.{ParseError}
use Rattle.graphql_text.specs.declared.parse_error.ParseErrorKind.TheVariants.{BuiltInFile, Memory}
use Rattle.graphql_text.specs.declared.parsing.ParseOptions.{ParseOptions}
use Rattle.apollo_compiler.specs.Loading.{IsNoDocument}
use Rattle.apollo_compiler.specs.SourceFiles.{file_of}
use Rattle.apollo_compiler.proofs.reading.read_text.Goals as goal

same-file : (path other text read : List ℕ) → path ≡ other → text ≡ read
    → ◌≡◌ {A = SourceFile} (record { path = path; text = text }) (file_of other read)
same-file path other text read paths texts = λ i. record { path = paths i; text = texts i }

the_last : {A B C : Type 0} → A ⊎ (B ⊎ C) → ¬ A → ¬ B → C
the_last (inl a) no_first no_second = absurd (no_first a)
the_last (inr (inl b)) no_first no_second = absurd (no_second b)
the_last (inr (inr c)) no_first no_second = c

refused-text : (number : FileId) (path text : List ℕ) (options : ParseOptions) (source : SourceFile)
    (error : ParseError) → source ≡ file_of path text → number.0 ≢ 0
    → ((definitions : List Definition) → spells_document number options.max_depth definitions
    (words_of options.max_tokens source.text) → error.kind ≡ Memory)
    → IsRefused (document number options.max_depth) (spells_document number options.max_depth)
    (document number (suc options.max_depth)).spells number (length source.text) (words_of options.max_tokens
    source.text) error → error.kind ≢ Memory → IsNoDocument options number text error
refused-text number path text options source error is some only refused other =
    let there = the_last refused other (λ (none : (number.0 ≡ 0) × (error.kind ≡ BuiltInFile)). some none.0)
    in record {
      none = λ definitions spelled. other ((rw is at only) definitions spelled);
      why = rw is at there;
    }

pub returns-in-Err-2 : goal.returns-in-Err-2
returns-in-Err-2 c =
    let source = c.in_ok-source.source in
    let error = c.in-Err.error in
    let is : source ≡ file_of c.args.path.now (string_bytes c.args.text) = c.in_ok-source.ensures
    ∙ same-file _ _ _ _ c.in_ok-path.ensures c.from_string-text.ensures in (
      is,
      refused-text c.args.number c.args.path.now (string_bytes c.args.text) c.args.options source error is
          c.requires (λ definitions spelled. c.in-Err.ensures.only definitions c.requires spelled)
          c.in-Err.ensures.refused (λ memory. true≢false (sym (c.is_memory.ensures.1 memory)
          ∙ c.if-is_memory.false)),
    )
