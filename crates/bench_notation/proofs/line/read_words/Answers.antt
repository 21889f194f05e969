-- Where the rest of a header is refused, no other line begins with its word.
use Rattle.std.proofs.Common.{◌∷◌, ◌≡◌, codes, rules}
use Rattle.bench_notation.specs.Line.{texts_of}
use Rattle.bench_notation.specs.declared.kind_words.Role.TheVariants as r
use Rattle.bench_notation.proofs.LineWords.{no_directive_header, no_fragment_header, no_operation_header}
use Rattle.bench_notation.proofs.LineWords.{no_type_header, passes}
use Rattle.bench_notation.proofs.line.read_words.Goals as goal

pub returns-in_err-read_type_header-in-def-clause-refused
    : goal.returns-in_err-read_type_header-in-def-clause-refused
returns-in_err-read_type_header-in-def-clause-refused c =
    let words : texts_of c.args.words.now ≡ codes "def" ∷ texts_of c.in-Some.rest.now = search rules in
    passes _ _ c.from_residual-in_err-read_type_header-in-def.ensures.1 (λ none. rw words
    (no_type_header _ _ r.Definition _ none)) c.in_err-read_type_header-in-def.ensures.refused

pub returns-in_err-read_type_header-in-ext-clause-refused
    : goal.returns-in_err-read_type_header-in-ext-clause-refused
returns-in_err-read_type_header-in-ext-clause-refused c =
    let words : texts_of c.args.words.now ≡ codes "ext" ∷ texts_of c.in-Some.rest.now = search rules in
    passes _ _ c.from_residual-in_err-read_type_header-in-ext.ensures.1 (λ none. rw words
    (no_type_header _ _ r.Extension _ none)) c.in_err-read_type_header-in-ext.ensures.refused

pub returns-in_err-only_name-in-directive-clause-refused
    : goal.returns-in_err-only_name-in-directive-clause-refused
returns-in_err-only_name-in-directive-clause-refused c =
    let words : texts_of c.args.words.now ≡ codes "directive" ∷ texts_of c.in-Some.rest.now = search rules in
    passes _ _ c.from_residual-in_err-only_name-in-directive.ensures.1
    (λ none. rw words (no_directive_header _ _ _ none)) c.in_err-only_name-in-directive.ensures.refused

pub returns-in_err-operation-in-operation-clause-refused
    : goal.returns-in_err-operation-in-operation-clause-refused
returns-in_err-operation-in-operation-clause-refused c =
    let words : texts_of c.args.words.now ≡ codes "operation" ∷ texts_of c.in-Some.rest.now = search rules in
    passes _ _ c.from_residual-in_err-operation-in-operation.ensures.1
    (λ none. rw words (no_operation_header _ _ _ none)) c.in_err-operation-in-operation.ensures.refused

pub returns-in_err-name-in-fragment-clause-refused : goal.returns-in_err-name-in-fragment-clause-refused
returns-in_err-name-in-fragment-clause-refused c =
    let words : texts_of c.args.words.now ≡ codes "fragment" ∷ texts_of c.in-Some.rest.now = search rules in
    passes _ _ c.from_residual-in_err-name-in-fragment.ensures.1
    (λ none. rw words (no_fragment_header _ _ _ none)) c.in_err-name-in-fragment.ensures.refused
