-- Files whose texts differ from their layouts: GraphQL specification of October 2021, section 2.2.
use Rattle.std.specs.Prelude.{ℕ, List, [], ◌∷◌, if◌then◌else◌, map, nat_eq, string_bytes}
use Rattle.std.specs.Cmp.Lexicographic.{pointwise}
use Rattle.std.specs.List.{ends_with, flat_map}
use Rattle.graphql_nodes.specs.Sources.{Files}
use Rattle.graphql_ast.specs.declared.definition.Definition.{Definition}
use Rattle.graphql_ast.specs.declared.document.Document.{Document}
use Rattle.peglinden_run.specs.declared.layouts.ChangedFile.{ChangedFile}
use Rattle.peglinden_run.specs.Ended.{ended_by}

-- In all of this a changed file is its path and its layout.

-- a carriage return and a line feed
abbrev pub both_ends : List ℕ
both_ends = 13 ∷ 10 ∷ []

-- a line feed
abbrev pub line_feed : List ℕ
line_feed = 10 ∷ []

-- a carriage return
abbrev pub carriage_return : List ℕ
carriage_return = 13 ∷ []

-- what the last line of a text ends with: both, or one of them, or nothing
abbrev pub last_end : List ℕ → List ℕ
last_end text =
    if ends_with nat_eq text both_ends then both_ends else (
    if ends_with nat_eq text line_feed then line_feed else (
    if ends_with nat_eq text carriage_return then carriage_return else []))

-- the layout of definitions which are those of this text: the last line has the end that it has there
abbrev pub kept_layout : List Definition → List ℕ → List ℕ
kept_layout definitions text = ended_by (last_end text) definitions

-- the file of this path and text, if the text is none of this layout
abbrev pub file_unless : List ℕ → List ℕ → List ℕ → List (List ℕ × List ℕ)
file_unless path text layout = if pointwise nat_eq layout text then [] else (path, layout) ∷ []

-- the first of these files, if its text differs from the layout of these definitions
abbrev pub changed_first : List Definition → Files → List (List ℕ × List ℕ)
changed_first definitions [] = []
changed_first definitions (file ∷ files) =
    file_unless file.1.path file.1.text (kept_layout definitions file.1.text)

-- the file of a document, if its text differs from its layout
abbrev pub changed_file : Document → List (List ℕ × List ℕ)
changed_file document = changed_first document.definitions document.sources

-- the files of documents whose texts differ from their layouts, in order
abbrev pub changed_files : List Document → List (List ℕ × List ℕ)
changed_files documents = flat_map changed_file documents

-- a changed file of the code, by its bytes
abbrev pub changed_pair : ChangedFile → List ℕ × List ℕ
changed_pair file = (file.path.now, string_bytes file.layout)

-- changed files of the code, by their bytes
abbrev pub changed_bytes : List ChangedFile → List (List ℕ × List ℕ)
changed_bytes files = map changed_pair files
