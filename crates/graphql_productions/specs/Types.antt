-- References to types: GraphQL specification of October 2021, section 2.11.
use Rattle.std.specs.Prelude.{ℕ, zero, suc, false, Option, None, Some, ◌||◌}
use Rattle.graphql_nodes.specs.declared.source.FileId.{FileId}
use Rattle.graphql_ast.specs.TypeReferences.{made_non_null}
use Rattle.graphql_ast.specs.declared.type_reference.Type.{«Type» as TypeReference, Named, «List» as ListOf}
use Rattle.graphql_grammar.specs.declared.fault.FaultKind.TheVariants.{Expected}
use Rattle.graphql_grammar.specs.declared.fault.Item.TheVariants as i
use Rattle.graphql_grammar.specs.declared.kind.Kind.{Kind}
use Rattle.graphql_grammar.specs.declared.kind.Kind.TheVariants as k
use Rattle.graphql_grammar.specs.Kinds.{Kinds, is_name, only}
use Rattle.graphql_grammar.specs.Pieces.{Piece, Wrong, branch, choose, mapped, nothing, optional, seq, sign}
use Rattle.graphql_grammar.specs.Pieces.{too_deep}
use Rattle.graphql_grammar.specs.Pieces.{headed}
use Rattle.graphql_productions.specs.Nodes.{between, name}

-- a type was expected
abbrev pub no_type : Wrong
no_type = λ _. Expected i.Type

-- what a type begins with
abbrev pub is_type : Kinds
is_type kind = is_name kind || only k.LeftBracket kind

-- NamedType
unfoldable pub named_type : FileId → Piece TypeReference
named_type file = mapped Named (name file)

-- ListType
unfoldable pub list_type_of : Piece TypeReference → Piece TypeReference
list_type_of item =
    mapped ListOf (between k.LeftBracket k.RightBracket (λ _. Expected (i.Word k.RightBracket)) item)

-- the type that begins with a word of this kind: a list, or a name
abbrev pub type_pick : FileId → Piece TypeReference → Kind → Piece TypeReference
type_pick file list kind =
    choose (only k.LeftBracket kind) list (
    choose (is_name kind) (named_type file) (
    nothing no_type))

-- the same without null, where `!` stands behind it
abbrev pub required_where : TypeReference × Option (Unit {0}) → TypeReference
required_where (type, None) = type
required_where (type, Some _) = made_non_null type

-- Type: a name or a list, either with `!` behind it
abbrev pub type_by : FileId → Piece TypeReference → Piece TypeReference
type_by file list =
    mapped required_where
    (seq (branch is_type (λ _. false) (type_pick file list) no_type) (optional (sign k.Bang)))

-- list types, in which so many signs may be open
unfoldable pub nested_list_type : FileId → ℕ → Piece TypeReference
nested_list_type file zero = too_deep
nested_list_type file (suc depth) =
    list_type_of (type_by file (headed (only k.LeftBracket) (nested_list_type file depth)))

-- Type, in which so many signs may be open
abbrev pub type : FileId → ℕ → Piece TypeReference
type file depth = type_by file (headed (only k.LeftBracket) (nested_list_type file depth))
