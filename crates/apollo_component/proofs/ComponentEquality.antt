-- Equality of components and their origins.
use Rattle.std.proofs.Common.{Bool, Some, refl, ap}
use Rattle.std.specs.Cmp.{on_equiv}
use Rattle.std.specs.Cmp.Lexicographic.{nat_list_eq_equiv}
use Rattle.graphql_nodes.specs.KeySets.{set_eq}
use Rattle.graphql_nodes.specs.Comparing.{members_by_text}
use Rattle.graphql_nodes.specs.NameView.{plain_name}
use Rattle.graphql_nodes.proofs.Comparisons.{Compares, At, of_part, names, lists, numbers}
use Rattle.graphql_nodes.proofs.TableEquality.{sets, by_texts}
use Rattle.graphql_ast.proofs.DirectiveEquality.{directives}
use Rattle.apollo_component.specs.BareComponents.{bare_component, bare_component_name, bare_directives}
use Rattle.apollo_component.specs.BareComponents.{bare_origin}
use Rattle.apollo_component.specs.Extensions.{number_of}
use Rattle.apollo_component.specs.declared.component.Component.{Component}
use Rattle.apollo_component.specs.declared.component.ComponentName.{ComponentName}
use Rattle.apollo_component.specs.declared.directive_list.DirectiveList.{DirectiveList}
use Rattle.apollo_component.specs.declared.extension.ExtensionId.{ExtensionId}
use Rattle.apollo_component.specs.declared.extension.IdsSpent.{IdsSpent}
use Rattle.apollo_component.specs.declared.extension.ComponentOrigin.{ComponentOrigin}
use Rattle.apollo_component.specs.declared.extension.ComponentOrigin.TheVariants.{Definition, Extension}
use Rattle.apollo_component.specs.contracts.component.ComponentNamePartialEq.TheImpl as component_name
use Rattle.apollo_component.specs.contracts.directive_list.DirectiveListPartialEq.TheImpl as directive_list
use Rattle.apollo_component.specs.contracts.extension.ExtensionIdPartialEq.TheImpl as extension_id
use Rattle.apollo_component.specs.contracts.extension.IdsSpentPartialEq.TheImpl as ids_spent
use Rattle.apollo_component.specs.contracts.extension.ComponentOriginPartialEq.TheImpl as component_origin

pub components : {A B : Type 0} {E : A → A → Bool} {f : A → B} → Compares E f
    → Compares (λ (x y : Component A). E x.node.value y.node.value) (bare_component f)
components {A} t = of_part (λ (c : Component A). c.node.value) t

pub component_names : Compares component_name.ghosts.eq bare_component_name
component_names = of_part (λ (c : ComponentName). c.name) names

pub sets_of_component_names : Compares (set_eq component_name.ghosts.eq)
    (members_by_text (λ (c : ComponentName). c.name))
sets_of_component_names = by_texts (λ text. record { origin = Definition; name = plain_name text })
    (λ c. c.name.text) (λ _ _. refl) (sets (on_equiv (λ (c : ComponentName). c.name.text) nat_list_eq_equiv))

pub directive_lists : Compares directive_list.ghosts.eq bare_directives
directive_lists = of_part (λ (l : DirectiveList). l.0) (lists (components directives))

pub extension_ids : Compares extension_id.ghosts.eq number_of
extension_ids = of_part (λ (e : ExtensionId). number_of e) numbers

pub ids_spent_errors : Compares ids_spent.ghosts.eq (λ (e : IdsSpent). e)
ids_spent_errors = record { at = λ a b. (λ _. refl, λ _. refl) }

origin_at : (a b : ComponentOrigin) → At component_origin.ghosts.eq bare_origin a b
origin_at Definition Definition = (λ _. refl, λ _. refl)
origin_at (Extension a) (Extension b) = let t = extension_ids.at a b in (λ h. ap Some (t.0 h), λ h. t.1 cc)
origin_at _ _ = (λ h. cc, λ h. cc)

pub origins : Compares component_origin.ghosts.eq bare_origin
origins = record { at = origin_at }
