-- The definitions of the document are those that were read.
use Rattle.std.proofs.Common.{ℕ, suc, List, length, ◌∙◌, ap, subst, sym}
use Rattle.graphql_nodes.specs.declared.source.SourceFile.{SourceFile}
use Rattle.graphql_grammar.specs.WordsOfText.{words_of}
use Rattle.graphql_productions.specs.Documents.{document, spells_document}
use Rattle.graphql_text.specs.Parses.{IsRefused}
use Rattle.graphql_text.proofs.parsing.parse_document.Goals as goal

pub returns-in_ok-held-in-Ok-clause-only : goal.returns-in_ok-held-in-Ok-clause-only
returns-in_ok-held-in-Ok-clause-only c = λ definitions real h.
    let text = c.as_str.ensures ∙ ap (λ (f : SourceFile). f.text) c.deref.ensures in
    c.in_ok-held-in-Ok.ensures.0 ∙ c.in-Ok.ensures.only definitions real
    (subst (λ (t : List ℕ). spells_document c.args.file c.args.options.max_depth definitions
    (words_of c.args.options.max_tokens t)) (sym text) h)

pub returns-in-Err-clause-only : goal.returns-in-Err-clause-only
returns-in-Err-clause-only c = λ definitions real h.
    let text = c.as_str.ensures ∙ ap (λ (f : SourceFile). f.text) c.deref.ensures in
    c.in-Err.ensures.only definitions real (subst (λ (t : List ℕ). spells_document c.args.file
    c.args.options.max_depth definitions (words_of c.args.options.max_tokens t)) (sym text) h)

pub returns-in-Err-clause-refused : goal.returns-in-Err-clause-refused
returns-in-Err-clause-refused c =
    let at = c.args.options.max_depth in
    let text = c.as_str.ensures ∙ ap (λ (f : SourceFile). f.text) c.deref.ensures in
    subst (λ (t : List ℕ). IsRefused (document c.args.file at) (spells_document c.args.file at)
    (document c.args.file (suc at)).spells c.args.file (length t) (words_of c.args.options.max_tokens t)
    c.in-Err.error) text c.in-Err.ensures.refused
