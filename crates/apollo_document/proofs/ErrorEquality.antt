-- Equality of paths and of the errors of a build.
use Rattle.std.proofs.Common.{◌≡◌, Bool, true, refl, ap}
use Rattle.graphql_nodes.specs.contracts.operation_type.OperationType as kind
use Rattle.graphql_nodes.proofs.Comparisons.{Compares, At, of_part, and_then, made, pairs, names, texts}
use Rattle.graphql_nodes.proofs.Comparisons.{lists, options, kinds}
use Rattle.apollo_document.specs.BareErrors.{bare_root, bare_path, bare_build_error}
use Rattle.apollo_document.specs.declared.selection_path.ExecutableDefinitionName.{ExecutableDefinitionName}
use Rattle.apollo_document.specs.declared.selection_path.ExecutableDefinitionName.TheVariants as named
use Rattle.apollo_document.specs.declared.selection_path.SelectionPath.{SelectionPath}
use Rattle.apollo_document.specs.declared.build_error.BuildError.{BuildError}
use Rattle.apollo_document.specs.declared.build_error.BuildError.TheVariants as e
use Rattle.apollo_document.specs.contracts.selection_path.ExecutableDefinitionNamePartialEq.TheImpl as root
use Rattle.apollo_document.specs.contracts.selection_path.SelectionPathPartialEq.TheImpl as path
use Rattle.apollo_document.specs.contracts.build_error.BuildErrorPartialEq.TheImpl as build_error

-- a test that says whether two values are one says so of what is made of them
made_of : {A B : Type 0} {b : Bool} {x y : A} → (b ≡ true → x ≡ y) × (x ≡ y → b ≡ true) → (to : A → B)
    → (to x ≡ to y → x ≡ y) → (b ≡ true → to x ≡ to y) × (to x ≡ to y → b ≡ true)
made_of w to own = (λ h. ap to (w.0 h), λ h. w.1 (own h))

root_at : (a b : ExecutableDefinitionName) → At root.ghosts.eq bare_root a b
root_at (named.AnonymousOperation k) (named.AnonymousOperation k') =
    made_of ((kinds kind.the_type tt).at k k') named.AnonymousOperation (λ h. cc)
root_at (named.NamedOperation k n) (named.NamedOperation k' n') =
    made_of ((pairs (kinds kind.the_type tt) names).at (k, n) (k', n')) (λ q. named.NamedOperation q.0 q.1)
    (λ h. cc)
root_at (named.Fragment n) (named.Fragment n') = made_of (names.at n n') named.Fragment (λ h. cc)
root_at a b = (λ h. cc, λ h. cc)

pub roots : Compares root.ghosts.eq bare_root
roots = record { at = root_at }

pub paths : Compares path.ghosts.eq bare_path
paths = made (λ p. record { root = p.0; nested_fields = p.1 }) (λ p. (p.root, p.nested_fields)) (λ _. refl)
    (and_then (of_part (λ (p : SelectionPath). p.root) roots)
    (of_part (λ (p : SelectionPath). p.nested_fields) (lists names)))

is_at : (a b : BuildError) → At build_error.ghosts.eq bare_build_error a b
is_at (e.TypeSystemDefinition n d) (e.TypeSystemDefinition n' d') =
    made_of ((pairs (options names) texts).at (n, d) (n', d')) (λ q. e.TypeSystemDefinition q.0 q.1) (λ h. cc)
is_at e.AmbiguousAnonymousOperation e.AmbiguousAnonymousOperation = (λ _. refl, λ _. refl)
is_at (e.OperationNameCollision n) (e.OperationNameCollision n') =
    made_of (names.at n n') e.OperationNameCollision (λ h. cc)
is_at (e.FragmentNameCollision n) (e.FragmentNameCollision n') =
    made_of (names.at n n') e.FragmentNameCollision (λ h. cc)
is_at (e.UndefinedRootOperation o) (e.UndefinedRootOperation o') =
    made_of (texts.at o o') e.UndefinedRootOperation (λ h. cc)
is_at (e.UndefinedTypeInNamedFragmentTypeCondition t n) (e.UndefinedTypeInNamedFragmentTypeCondition t' n') =
    made_of ((pairs names names).at (t, n) (t', n')) (λ q. e.UndefinedTypeInNamedFragmentTypeCondition q.0
    q.1) (λ h. cc)
is_at (e.UndefinedTypeInInlineFragmentTypeCondition t p) (e.UndefinedTypeInInlineFragmentTypeCondition u q) =
    made_of ((pairs names paths).at (t, p) (u, q)) (λ r. e.UndefinedTypeInInlineFragmentTypeCondition r.0 r.1)
    (λ h. cc)
is_at (e.SubselectionOnScalarType t p) (e.SubselectionOnScalarType t' p') =
    made_of ((pairs names paths).at (t, p) (t', p')) (λ q. e.SubselectionOnScalarType q.0 q.1) (λ h. cc)
is_at (e.SubselectionOnEnumType t p) (e.SubselectionOnEnumType t' p') =
    made_of ((pairs names paths).at (t, p) (t', p')) (λ q. e.SubselectionOnEnumType q.0 q.1) (λ h. cc)
is_at (e.UndefinedField t f p) (e.UndefinedField t' f' p') =
    made_of ((pairs names (pairs names paths)).at (t, (f, p)) (t', (f', p'))) (λ q. e.UndefinedField q.0 q.1.0
    q.1.1) (λ h. cc)
is_at a b = (λ h. cc, λ h. cc)

pub build_errors : Compares build_error.ghosts.eq bare_build_error
build_errors = record { at = is_at }
