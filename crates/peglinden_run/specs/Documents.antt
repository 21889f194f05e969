-- The documents that files hold: GraphQL specification of October 2021, section 2.2.
use Rattle.std.specs.Prelude.{◌≡◌, ℕ, ◌-◌, ◌^◌, suc, List, [], ◌∷◌, map}
use Rattle.std.specs.Borrow.{Bor}
use Rattle.graphql_nodes.specs.Sources.{Files}
use Rattle.graphql_nodes.specs.declared.source.FileId.{FileId}
use Rattle.graphql_ast.specs.declared.definition.Definition.{Definition}
use Rattle.graphql_ast.specs.declared.document.Document.{Document}
use Rattle.graphql_grammar.specs.WordsOfText.{words_of}
use Rattle.graphql_productions.specs.Documents.{spells_document}

-- In all of this `held` says which bytes the file of a path may hold.

-- the texts of words
abbrev pub texts_of : List (Bor (List ℕ)) → List (List ℕ)
texts_of words = map (λ word. word.now) words

-- the number of a file
abbrev pub file : ℕ → FileId
file number = record { 0 = number }

-- so many signs may be open at once
abbrev pub most_open : ℕ
most_open = 200

-- a text may have so many tokens
abbrev pub most_tokens : ℕ
most_tokens = 2 ^ 64 - 1

-- the text spells these definitions, at locations in the file of this number
abbrev pub Spells : ℕ → List ℕ → List Definition → Type 0
Spells number text definitions =
    spells_document (file number) most_open definitions (words_of most_tokens text)

-- the file of this number, path and text alone
abbrev pub alone : ℕ → List ℕ → List ℕ → Files
alone number path text = (file number, record { path = path; text = text }) ∷ []

-- the document is that of this text, under this path and number
pub record IsDocumentOf (number : ℕ) (path text : List ℕ) (document : Document) : Type 0 where
  pub sources : document.sources ≡ alone number path text
  pub spelled : Spells number text document.definitions

-- the document is that of a text which the file of this path may hold, under this number
abbrev pub IsDocumentAt : (List ℕ → List ℕ → Type 0) → ℕ → List ℕ → Document → Type 0
IsDocumentAt held number path document = (text : List ℕ)
    × (held path text × IsDocumentOf number path text document)

-- the documents are those of the files of these paths, in order, under numbers from this one on
abbrev pub AreDocumentsAt : (List ℕ → List ℕ → Type 0) → ℕ → List (List ℕ) → List Document → Type 0
AreDocumentsAt held number [] documents = documents ≡ []
AreDocumentsAt held number (path ∷ paths) documents = (first : Document)
    × ((rest : List Document)
    × ((documents ≡ first ∷ rest)
    × (IsDocumentAt held number path first × AreDocumentsAt held (suc number) paths rest)))

-- the text spells no definitions, under this number
abbrev pub IsNoDocument : ℕ → List ℕ → Type 0
IsNoDocument number text = (definitions : List Definition) → ¬ Spells number text definitions
