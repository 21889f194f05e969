-- The fragments of a document, under their names.
use Rattle.std.proofs.Common.{◌≡◌, ℕ, List, [], ◌∷◌, map, Some, None, refl, ap, ◌∙◌, option_map, arith}
use Rattle.graphql_nodes.specs.NameView.{NameView}
use Rattle.graphql_nodes.specs.NodeView.{NodeView}
use Rattle.graphql_nodes.specs.SameText.{by_text}
use Rattle.graphql_nodes.specs.Tables.{lookup}
use Rattle.apollo_walks.specs.Selections.{fragment_of}
use Rattle.apollo_executable.specs.declared.document.ExecutableDocument.{ExecutableDocument}
use Rattle.apollo_executable.specs.declared.operation.Fragment.{Fragment}
use Rattle.apollo_field_usage.specs.Placed.{Placed, placed_set, placed_fragment, placed_fragments}

-- what a walk sees of a fragment
abbrev seen_fragment : NodeView Fragment → Placed
seen_fragment f = placed_set f.value.selection_set

of-entries : (es : List (NameView × NodeView Fragment)) (n : List ℕ)
    → fragment_of (map (λ e. (e.0.text, seen_fragment e.1)) es) n
    ≡ option_map seen_fragment (lookup (by_text n) es)
of-entries [] n = refl
of-entries (e ∷ es) n = grind (arith, of-entries es n)

-- the fragment that a walk finds is that of the document
pub fragment-of : (d : ExecutableDocument) (n : List ℕ)
    → fragment_of (placed_fragments d) n ≡ placed_fragment d n
unfolding placed_fragments
fragment-of d n = of-entries d.fragments n

pub fragment-found : (d : ExecutableDocument) (n : List ℕ) (f : NodeView Fragment)
    → lookup (by_text n) d.fragments ≡ Some f
    → fragment_of (placed_fragments d) n ≡ Some (placed_set f.value.selection_set)
fragment-found d n f is = fragment-of d n ∙ ap (option_map seen_fragment) is

pub fragment-missing : (d : ExecutableDocument) (n : List ℕ) → lookup (by_text n) d.fragments ≡ None
    → fragment_of (placed_fragments d) n ≡ None
fragment-missing d n is = fragment-of d n ∙ ap (option_map seen_fragment) is
