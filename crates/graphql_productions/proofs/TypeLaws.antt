-- References to types are tame.
use Rattle.std.proofs.Common.{[], false, refl, suc, zero, ℕ, ◌∷◌}
use Rattle.graphql_nodes.specs.declared.source.FileId.{FileId}
use Rattle.graphql_nodes.specs.NameView.{NameView}
use Rattle.graphql_ast.specs.declared.type_reference.Type.{Named, «Type» as TypeReference}
use Rattle.graphql_grammar.specs.declared.fault.FaultKind.TheVariants.{Expected, TooDeep}
use Rattle.graphql_grammar.specs.declared.fault.Item.TheVariants as i
use Rattle.graphql_grammar.specs.declared.kind.Kind.TheVariants as k
use Rattle.graphql_grammar.specs.Kinds.{is_name, only}
use Rattle.graphql_grammar.specs.Pieces.{Piece, headed}
use Rattle.graphql_grammar.proofs.ViableLaws.{bare_word}
use Rattle.graphql_productions.specs.Nodes.{name, name_of}
use Rattle.graphql_productions.specs.Types.{is_type, list_type_of, named_type, nested_list_type, no_type}
use Rattle.graphql_productions.specs.Types.{type, type_by, type_pick}
use Rattle.graphql_productions.proofs.TamePieces.{Led, Nesting, Steady, Tame, begun, branch_tame, choose_tame}
use Rattle.graphql_productions.proofs.TamePieces.{headed_led, headed_tame, led, mapped_tame, nothing_tame}
use Rattle.graphql_productions.proofs.TamePieces.{optional_tame, seq_tame, sign_tame}
use Rattle.graphql_productions.proofs.NodeLaws.{between_tame, name_tame}

named_tame : (file : FileId) → Steady (named_type file)
unfolding named_type
named_tame file = mapped_tame (name_tame file)

type_by_tame : (file : FileId) (p q : Piece TypeReference)
    → Led (headed (only k.LeftBracket) p) (headed (only k.LeftBracket) q)
    → Tame (type_by file (headed (only k.LeftBracket) p)) (type_by file (headed (only k.LeftBracket) q))
unfolding named_type name
type_by_tame file p q t =
    let named : NameView = name_of file (bare_word k.Name) in
    mapped_tame (seq_tame
    (begun (branch_tame is_type (λ _. false) (type_pick file (headed (only k.LeftBracket) p))
    (type_pick file (headed (only k.LeftBracket) q)) no_type
    (λ kind. choose_tame (only k.LeftBracket kind) t (choose_tame (is_name kind) (led (named_tame file))
    (nothing_tame no_type))) refl refl refl) (Named named) (bare_word k.Name
    ∷ []) (named, refl, (bare_word k.Name, refl, (refl, refl))))
    (optional_tame (led (sign_tame k.Bang refl)) refl) refl)

list_type_tame : (file : FileId) (depth : ℕ)
    → Led (headed (only k.LeftBracket) (nested_list_type file depth)) (headed (only k.LeftBracket)
    (nested_list_type file (suc depth)))
unfolding nested_list_type list_type_of
list_type_tame file zero = headed_led (only k.LeftBracket) {q = nested_list_type file (suc zero)}
    (nothing_tame (λ _. TooDeep)) refl refl refl
list_type_tame file (suc depth) =
    led (headed_tame (only k.LeftBracket)
    (mapped_tame (between_tame k.LeftBracket k.RightBracket (λ _. Expected (i.Word k.RightBracket))
    (type_by_tame file (nested_list_type file depth) (nested_list_type file (suc depth))
    (list_type_tame file depth)) refl refl refl)) refl refl refl)

pub type_tame : (file : FileId) → Nesting (type file)
type_tame file depth = type_by_tame file (nested_list_type file depth) (nested_list_type file (suc depth))
    (list_type_tame file depth)
