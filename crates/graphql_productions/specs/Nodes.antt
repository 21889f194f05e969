-- Names and nodes with where they stand, and lists between signs: GraphQL specification of October 2021,
-- section 2.1.9 and appendix B.
use Rattle.std.specs.Prelude.{ℕ, List, [], Option, None, Some}
use Rattle.graphql_nodes.specs.declared.source.FileId.{FileId}
use Rattle.graphql_nodes.specs.declared.source.SourceSpan.{SourceSpan}
use Rattle.graphql_nodes.specs.NameView.{NameView}
use Rattle.graphql_nodes.specs.NodeView.{NodeView}
use Rattle.graphql_grammar.specs.declared.fault.FaultKind.TheVariants.{Expected}
use Rattle.graphql_grammar.specs.declared.fault.Item.TheVariants as i
use Rattle.graphql_grammar.specs.declared.kind.Kind.{Kind}
use Rattle.graphql_grammar.specs.Kinds.{is_name, only}
use Rattle.graphql_grammar.specs.Pieces.{Piece, Wrong, headed, located, mapped, nested, optional, seq, sign}
use Rattle.graphql_grammar.specs.Pieces.{sign_or, some, word}
use Rattle.graphql_grammar.specs.Words.{WordView}

-- the bytes from the first of these up to the second
abbrev pub span_at : FileId → ℕ × ℕ → Option SourceSpan
span_at file at = Some (record { file = file; start = at.0; end = at.1 })

-- a node of a value, at its place in the file
abbrev pub node_of : {A : Type 0} → FileId → A × (ℕ × ℕ) → NodeView A
node_of file x = record { value = x.0; location = span_at file x.1 }

-- a piece as a node, at the location of its words
abbrev pub node : {A : Type 0} → FileId → Piece A → Piece (NodeView A)
node file p = mapped (node_of file) (located p)

-- a name, at the place of its word in the file
abbrev pub name_of : FileId → WordView → NameView
name_of file w = record { text = w.text; location = span_at file (w.start, w.end) }

-- Name
unfoldable pub name : FileId → Piece NameView
name file = mapped (name_of file) (word is_name (λ _. Expected i.Name))

-- what stands between two signs
abbrev pub inner : {A : Type 0} → Unit {0} × (A × Unit {0}) → A
inner x = x.1.0

-- between two signs, of which the second may be missed with this fault
abbrev pub between : {A : Type 0} → Kind → Kind → Wrong → Piece A → Piece A
between opening closing wrong p = mapped inner (seq (sign opening) (seq p (sign_or closing wrong)))

-- the same, where so many signs may be open; what stands between them may open one less
abbrev pub enclosed : {A : Type 0} → Kind → Kind → Wrong → ℕ → (ℕ → Piece A) → Piece A
enclosed opening closing wrong depth p =
    headed (only opening) (nested depth (λ inside. between opening closing wrong (p inside)))

-- a list that may be left out
abbrev pub or_none : {A : Type 0} → Option (List A) → List A
or_none None = []
or_none (Some xs) = xs

-- one item or more between such signs, if the first is there
abbrev pub optional_list : {A : Type 0} → Kind → Kind → Wrong → ℕ → (ℕ → Piece A) → Piece (List A)
optional_list opening closing wrong depth item =
    mapped or_none (optional (enclosed opening closing wrong depth (λ inside. some (item inside))))

-- what stands behind a sign
abbrev pub behind : {A : Type 0} → Unit {0} × A → A
behind x = x.1
