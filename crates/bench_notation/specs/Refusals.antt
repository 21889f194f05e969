-- What is true where a line of the notation is refused: docs/NOTATION.md.
use Rattle.std.specs.Prelude.{ℕ, List, ◌≡◌, ◌≤◌, ◌++◌, Bool, true, false, codes}
use Rattle.graphql_nodes.specs.NameSyntax.{IsName}
use Rattle.graphql_ast.specs.TypeReferences.{inner_name}
use Rattle.graphql_nodes.specs.declared.source.SourceSpan.{SourceSpan}
use Rattle.graphql_ast.specs.declared.type_reference.Type.{«Type» as TypeReference}
use Rattle.bench_notation.specs.declared.above.Above.{Above}
use Rattle.bench_notation.specs.declared.above.Position.{Position}
use Rattle.bench_notation.specs.declared.line.Component.{Component}
use Rattle.bench_notation.specs.declared.line.Line.{Line}
use Rattle.bench_notation.specs.declared.refusal.LineError.{LineError}
use Rattle.bench_notation.specs.declared.refusal.LineError.TheVariants as e
use Rattle.bench_notation.specs.Line.{SayLine, Says, SaysComponent}
use Rattle.bench_notation.specs.Places.{StandsBelow, stands}
use Rattle.bench_notation.specs.Text.{type_text, opened_brackets}

-- what is true where a line is refused; that memory ran out says nothing of it
abbrev pub WhenRefused : Type 0 → LineError → Type 0
WhenRefused P (e.Refused reason) = P
WhenRefused P e.Memory = Unit {0}

-- no type of at most this many brackets is this word
abbrev pub IsNoType : ℕ → List ℕ → Type 0
IsNoType brackets word = (ty : TypeReference) → type_text ty ≡ word → opened_brackets ty ≤ brackets
    → ¬ IsName (inner_name ty).text

-- a word without its last `!`, and whether it had one
abbrev pub IsBody : List ℕ → List ℕ → Bool → Type 0
IsBody word body true = word ≡ body ++ codes "!"
IsBody word body false = (word ≡ body) × ((front : List ℕ) → ¬ (word ≡ front ++ codes "!"))

-- no component that may stand below this is said by these words
abbrev pub SayNoComponent : Above → SourceSpan → List (List ℕ) → Type 0
SayNoComponent above location words = (component : Component) → SaysComponent location words component
    → ¬ (stands above component ≡ true)

-- no line that may stand here and is not empty is said by these words
abbrev pub SayNoLine : Position → SourceSpan → List (List ℕ) → Type 0
SayNoLine position location words = (line : Line) → SayLine location words line → ¬ StandsBelow position line

-- a line says nothing that may stand here
abbrev pub SaysNothing : Position → SourceSpan → List ℕ → Type 0
SaysNothing position location text = (line : Line) → Says location text line → ¬ StandsBelow position line
