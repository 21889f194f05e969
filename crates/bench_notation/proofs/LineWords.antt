-- What follows from the first word of a line.
use Rattle.std.proofs.Common.{rules, ℕ, List, [], ◌∷◌, ◌≡◌, true, false, Result, Ok, Err, IfErr, ap, codes}
use Rattle.std.proofs.Common.{get_or, nat_eq, nat_lt, Option, subst, sym}
use lib.Pointwise.{pointwise}
use Rattle.std.specs.Cmp.Lexicographic.{other_text}
use Rattle.std.specs.Result.{IsErrAnd}
use Rattle.graphql_nodes.specs.NameView.{NameView}
use Rattle.graphql_nodes.specs.declared.operation_type.OperationType.{OperationType}
use Rattle.graphql_nodes.specs.declared.source.SourceSpan.{SourceSpan}
use Rattle.bench_notation.specs.declared.selection_line.Selected.{Selected}
use Rattle.graphql_ast.specs.declared.type_reference.Type.{«Type» as TypeReference}
use Rattle.bench_notation.specs.declared.above.Above.{Above}
use Rattle.bench_notation.specs.declared.above.Position.{Position}
use Rattle.bench_notation.specs.declared.executable_header.ExecutableHeader.TheVariants as x
use Rattle.bench_notation.specs.declared.kind_words.Role.{Role}
use Rattle.bench_notation.specs.declared.kind_words.Role.TheVariants as r
use Rattle.bench_notation.specs.declared.line.Component.TheVariants as c
use Rattle.bench_notation.specs.declared.line.Header.{Header}
use Rattle.bench_notation.specs.declared.line.Header.TheVariants as h
use Rattle.bench_notation.specs.declared.line.Line.{Line}
use Rattle.bench_notation.specs.declared.line.Line.TheVariants as l
use Rattle.bench_notation.specs.declared.refusal.LineError.{LineError}
use Rattle.bench_notation.specs.declared.refusal.LineError.TheVariants as e
use Rattle.bench_notation.specs.HeaderWords.{role_word}
use Rattle.bench_notation.specs.Line.{AreFragment, AreName, AreNameAndType, AreOperation, AreSelection}
use Rattle.bench_notation.specs.Line.{SayLine, Says, SaysHeader, words_of}
use Rattle.bench_notation.specs.Places.{has_fields, kind_above, levels_above, takes_arguments}
use Rattle.bench_notation.specs.Refusals.{SayNoComponent, SayNoLine, SaysNothing, WhenRefused}

-- where one thing follows from another, so where a line is refused
pub weaker : {P Q : Type 0} (error : LineError) → (P → Q) → WhenRefused P error → WhenRefused Q error
weaker (e.Refused reason) f p = f p
weaker e.Memory f p = tt

-- the same of an error that is passed on
pub passes : {A P Q : Type 0} (result : Result A LineError) (error : LineError)
    → IsErrAnd result (λ other. other ≡ error) → (P → Q) → WhenRefused P error → IfErr result (WhenRefused Q)
passes (Ok x) error is f p = tt
passes {Q = Q} (Err other) error is f p = subst (WhenRefused Q) (sym is) (weaker error f p)

-- lists of words that begin with different words differ
other_word : {a b : List ℕ} {xs ys : List (List ℕ)} → a ∷ xs ≡ b ∷ ys → false ≡ pointwise nat_eq a b → ⊥
other_word {a = a} {b = b} e test = other_text a b test (ap (λ (l : List (List ℕ)). get_or l 0 []) e)

-- no component but a field begins with its word
pub no_field : (above : Above) (location : SourceSpan) (rest : List (List ℕ))
    → ((name : NameView) (ty : TypeReference) → AreNameAndType location rest name ty
    → ¬ (has_fields (kind_above above) ≡ true)) → SayNoComponent above location (codes "field" ∷ rest)
no_field above location rest none (c.Field name ty) says may = none name ty ((cc), says.1) may
no_field above location rest none component says may = search (rules, other_word)

-- nor one but an argument
pub no_argument : (above : Above) (location : SourceSpan) (rest : List (List ℕ))
    → ((name : NameView) (ty : TypeReference) → AreNameAndType location rest name ty
    → ¬ (takes_arguments above ≡ true)) → SayNoComponent above location (codes "arg" ∷ rest)
no_argument above location rest none (c.Argument name ty) says may = none name ty ((cc), says.1) may
no_argument above location rest none component says may = search (rules, other_word)

-- nor one but a selection
pub no_selection : (above : Above) (location : SourceSpan) (rest : List (List ℕ))
    → ((depth : ℕ) (selected : Selected) → AreSelection location rest depth selected
    → ¬ (nat_lt depth (levels_above above) ≡ true)) → SayNoComponent above location (codes "sel" ∷ rest)
no_selection above location rest none (c.Selection depth selected) says may =
    none depth selected ((cc), says.1) may
no_selection above location rest none component says may = search (rules, other_word)

-- a line that begins as the header of a type, and has no kind and name after that
pub no_type_header : (position : Position) (location : SourceSpan) (role : Role) (rest : List (List ℕ))
    → ((header : Header) → ¬ SaysHeader location (role_word role ∷ rest) header)
    → SayNoLine position location (role_word role ∷ rest)
no_type_header position location role rest none (l.Header header) says may = none header says
no_type_header position location r.Definition rest none (l.Component c.Repeatable) says may =
    search (rules, other_word)
no_type_header position location role rest none line says may = search (rules, other_word)

-- a line that begins as the header of a directive, and has no name after that
pub no_directive_header : (position : Position) (location : SourceSpan) (rest : List (List ℕ))
    → ((name : NameView) → ¬ AreName location rest name)
    → SayNoLine position location (codes "directive" ∷ rest)
no_directive_header position location rest none (l.Header (h.Directive name)) says may =
    none name ((cc), says.1)
no_directive_header position location rest none (l.Header (h.Type r.Definition kind name)) says may =
    search (rules, other_word)
no_directive_header position location rest none (l.Header (h.Schema r.Definition)) says may =
    search (rules, other_word)
no_directive_header position location rest none (l.Header (h.Executable (x.Fragment name on))) says may =
    search (rules, other_word)
no_directive_header position location rest none (l.Component c.Repeatable) says may =
    search (rules, other_word)
no_directive_header position location rest none line says may = search (rules, other_word)

-- a line that begins as the header of an operation, and has no kind and name after that
pub no_operation_header : (position : Position) (location : SourceSpan) (rest : List (List ℕ))
    → ((operation : OperationType) (name : Option NameView) → ¬ AreOperation location rest operation name)
    → SayNoLine position location (codes "operation" ∷ rest)
no_operation_header position location rest none (l.Header (h.Executable (x.Operation operation name))) says
    may = none operation name ((cc), says.1)
no_operation_header position location rest none (l.Header (h.Type r.Definition kind name)) says may =
    search (rules, other_word)
no_operation_header position location rest none (l.Header (h.Schema r.Definition)) says may =
    search (rules, other_word)
no_operation_header position location rest none (l.Component c.Repeatable) says may =
    search (rules, other_word)
no_operation_header position location rest none line says may = search (rules, other_word)

-- a line that begins as the header of a fragment, and has no two names after that
pub no_fragment_header : (position : Position) (location : SourceSpan) (rest : List (List ℕ))
    → ((name condition : NameView) → ¬ AreFragment location rest name condition)
    → SayNoLine position location (codes "fragment" ∷ rest)
no_fragment_header position location rest none (l.Header (h.Executable (x.Fragment name condition))) says
    may = none name condition ((cc), says.1)
no_fragment_header position location rest none (l.Header (h.Type r.Definition kind name)) says may =
    search (rules, other_word)
no_fragment_header position location rest none (l.Header (h.Schema r.Definition)) says may =
    search (rules, other_word)
no_fragment_header position location rest none (l.Component c.Repeatable) says may =
    search (rules, other_word)
no_fragment_header position location rest none line says may = search (rules, other_word)

-- what its words say, a line says
pub says_line : (location : SourceSpan) (text : List ℕ) (line : Line) → SayLine location (words_of text) line
    → Says location text line
says_line location text l.Empty say = absurd say
says_line location text line say = say

-- a line that is not empty, and whose words say no line
pub says_nothing : (position : Position) (location : SourceSpan) (text : List ℕ) → ¬ (text ≡ [])
    → SayNoLine position location (words_of text) → SaysNothing position location text
says_nothing position location text full none l.Empty says = absurd (full says)
says_nothing position location text full none line says = none line says
