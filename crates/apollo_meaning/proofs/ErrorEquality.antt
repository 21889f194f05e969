-- Equality of the errors of a build.
use Rattle.apollo_meaning.proofs.Prelude.{◌≡◌, Bool, true, ◌&&◌, refl, ap, subst, Option, NameView, same_text}
use Rattle.apollo_meaning.proofs.Prelude.{Compares}
use Rattle.std.specs.Option.{option_eq}
use Rattle.std.proofs.lemmas.Iterator.Adapters.{option_map_id}
use Rattle.graphql_nodes.specs.Comparing.{bare_name}
use Rattle.graphql_nodes.specs.declared.source.SourceSpan.{SourceSpan}
use Rattle.graphql_nodes.specs.contracts.source.SourceSpanPartialEq.TheImpl as span
use Rattle.graphql_nodes.proofs.Comparisons.{At, pairs, names, texts, options}
use Rattle.graphql_nodes.proofs.LocationEquality.{source_spans}
use Rattle.apollo_meaning.specs.Faults.BareErrors.{bare_build_error}
use Rattle.apollo_meaning.specs.declared.build_error.BuildError.{BuildError}
use Rattle.apollo_meaning.specs.declared.build_error.BuildError.TheVariants as e
use Rattle.apollo_meaning.specs.contracts.build_error.BuildErrorPartialEq.TheImpl as build_error

locations : Compares (option_eq span.ghosts.eq) (λ (location : Option SourceSpan). location)
locations = subst (Compares (option_eq span.ghosts.eq)) (λ i location. option_map_id location i)
    (options source_spans)

two_names : Compares {B = NameView × NameView} (λ (a b : NameView × NameView). same_text a.0 b.0
    && same_text a.1 b.1) (λ a. (bare_name a.0, bare_name a.1))
two_names = pairs names names

-- errors of one kind are equal where what they hold is
kind : {A B : Type 0} {E : A → A → Bool} {f : A → B} → Compares E f → (make : B → BuildError) (a b : A)
    → (make (f a) ≡ make (f b) → f a ≡ f b)
    → (E a b ≡ true → make (f a) ≡ make (f b)) × (make (f a) ≡ make (f b) → E a b ≡ true)
kind t make a b back = (λ h. ap make ((t.at a b).0 h), λ h. (t.at a b).1 (back h))

error_at : (a b : BuildError) → At build_error.ghosts.eq bare_build_error a b
error_at (e.ExecutableDefinition d) (e.ExecutableDefinition d') =
    kind texts e.ExecutableDefinition d d' (λ h. cc)
error_at (e.SchemaDefinitionCollision p) (e.SchemaDefinitionCollision p') =
    kind locations e.SchemaDefinitionCollision p p' (λ h. cc)
error_at (e.DirectiveDefinitionCollision p n) (e.DirectiveDefinitionCollision p' n') =
    kind (pairs locations names) (λ q. e.DirectiveDefinitionCollision q.0 q.1) (p, n) (p', n') (λ h. cc)
error_at (e.TypeDefinitionCollision p n) (e.TypeDefinitionCollision p' n') =
    kind (pairs locations names) (λ q. e.TypeDefinitionCollision q.0 q.1) (p, n) (p', n') (λ h. cc)
error_at e.BuiltInScalarTypeRedefinition e.BuiltInScalarTypeRedefinition = (λ _. refl, λ _. refl)
error_at e.OrphanSchemaExtension e.OrphanSchemaExtension = (λ _. refl, λ _. refl)
error_at (e.OrphanTypeExtension n) (e.OrphanTypeExtension n') =
    kind names e.OrphanTypeExtension n n' (λ h. cc)
error_at (e.TypeExtensionKindMismatch n x p d) (e.TypeExtensionKindMismatch n' x' p' d') =
    kind (pairs names (pairs texts (pairs locations texts))) (λ q. e.TypeExtensionKindMismatch q.0 q.1.0
    q.1.1.0 q.1.1.1) (n, (x, (p, d))) (n', (x', (p', d'))) (λ h. cc)
error_at (e.DuplicateRootOperation p o) (e.DuplicateRootOperation p' o') =
    kind (pairs locations texts) (λ q. e.DuplicateRootOperation q.0 q.1) (p, o) (p', o') (λ h. cc)
error_at (e.DuplicateImplementsInterfaceInObject n t) (e.DuplicateImplementsInterfaceInObject n' t') =
    kind two_names (λ q. e.DuplicateImplementsInterfaceInObject q.0 q.1) (n, t) (n', t') (λ h. cc)
error_at (e.DuplicateImplementsInterfaceInInterface n t) (e.DuplicateImplementsInterfaceInInterface n' t') =
    kind two_names (λ q. e.DuplicateImplementsInterfaceInInterface q.0 q.1) (n, t) (n', t') (λ h. cc)
error_at (e.ObjectFieldNameCollision n t) (e.ObjectFieldNameCollision n' t') =
    kind two_names (λ q. e.ObjectFieldNameCollision q.0 q.1) (n, t) (n', t') (λ h. cc)
error_at (e.InterfaceFieldNameCollision n t) (e.InterfaceFieldNameCollision n' t') =
    kind two_names (λ q. e.InterfaceFieldNameCollision q.0 q.1) (n, t) (n', t') (λ h. cc)
error_at (e.EnumValueNameCollision n t) (e.EnumValueNameCollision n' t') =
    kind two_names (λ q. e.EnumValueNameCollision q.0 q.1) (n, t) (n', t') (λ h. cc)
error_at (e.UnionMemberNameCollision n t) (e.UnionMemberNameCollision n' t') =
    kind two_names (λ q. e.UnionMemberNameCollision q.0 q.1) (n, t) (n', t') (λ h. cc)
error_at (e.InputFieldNameCollision n t) (e.InputFieldNameCollision n' t') =
    kind two_names (λ q. e.InputFieldNameCollision q.0 q.1) (n, t) (n', t') (λ h. cc)
error_at _ _ = (λ h. cc, λ h. cc)

pub build_errors : Compares build_error.ghosts.eq bare_build_error
build_errors = record { at = error_at }
