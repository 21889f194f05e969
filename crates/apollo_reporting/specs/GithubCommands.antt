-- Workflow commands of GitHub, which report an error: `::error file=F,line=L,col=C::SENTENCE`. Signs that
-- mean something there are written by their numbers.
use Rattle.std.specs.Prelude.{◌≡◌, ℕ, Bool, true, false, ◌&&◌, cond, List, [], ◌++◌, Option, None, Some, codes, decimal, nat_eq}
use Rattle.std.specs.Prelude.{encode_utf8}
use Rattle.std.specs.List.{flat_map}
use Rattle.std.specs.Str.{chars}
use Rattle.graphql_nodes.specs.Sources.{Files}
use Rattle.graphql_nodes.specs.VisibleTexts.{visible}
use Rattle.graphql_nodes.specs.declared.line_column.LineColumn.{LineColumn}
use Rattle.graphql_nodes.specs.declared.source.SourceSpan.{SourceSpan}
use Rattle.apollo_reporting.specs.FaultData.{path_of_file}
use Rattle.apollo_reporting.specs.Places.{starts}
use Rattle.apollo_reporting.specs.Said.{OfSaid}

-- a character: `%`, carriage return and line feed by their numbers, and with the flag also `:` and `,`
abbrev pub escaped_char : Bool → ℕ → List ℕ
escaped_char in_property c =
    cond (nat_eq c 37) (codes "%25")
    (cond (nat_eq c 13) (codes "%0D")
    (cond (nat_eq c 10) (codes "%0A")
    (cond (in_property && nat_eq c 58) (codes "%3A")
    (cond (in_property && nat_eq c 44) (codes "%2C") (encode_utf8 c)))))

-- a text, each of its characters so
unfoldable pub escaped : Bool → List ℕ → List ℕ
escaped in_property text = flat_map (escaped_char in_property) (chars text)

-- a line and a column, where they are known
abbrev pub place_properties : Option LineColumn → List ℕ
place_properties None = []
place_properties (Some at) = codes ",line=" ++ decimal at.line ++ codes ",col=" ++ decimal at.column

-- the path of a file as it is shown, where it is known, and a line and a column in it
abbrev pub file_properties : Option (List ℕ) → Option LineColumn → List ℕ
file_properties None at = []
file_properties (Some path) at = codes " file=" ++ escaped true (visible path) ++ place_properties at

-- the command that reports a sentence, as it is shown, at a place of a file
unfoldable pub command_text : Option (List ℕ) → Option LineColumn → List ℕ → List ℕ
command_text path at sentence =
    codes "::error" ++ file_properties path at ++ codes "::" ++ escaped false (visible sentence)

-- the text is the command that reports a fault at a location, by its sentence
abbrev pub IsFaultCommand : {E : Type 0} → (E → Option (List ℕ)) → Files → Option SourceSpan → E → List ℕ
    → Type 0
IsFaultCommand sentence_of files location fault text =
    OfSaid (sentence_of fault)
    (λ sentence. text ≡ command_text (path_of_file location files) (starts location files) sentence)
