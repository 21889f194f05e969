-- Equality of operations, fragments and whole documents.
use Rattle.std.proofs.Common.{refl}
use Rattle.apollo_executable.specs.BareDocuments.{bare_operation, bare_fragment, bare_operation_map}
use Rattle.apollo_executable.specs.BareDocuments.{bare_document}
use Rattle.apollo_executable.specs.declared.operation_map.OperationMap.{OperationMap}
use Rattle.apollo_executable.specs.declared.document.ExecutableDocument.{ExecutableDocument}
use Rattle.apollo_executable.specs.contracts.operation.OperationPartialEq.TheImpl as operation
use Rattle.apollo_executable.specs.contracts.operation.FragmentPartialEq.TheImpl as fragment
use Rattle.apollo_executable.specs.contracts.operation_map.OperationMapPartialEq.TheImpl as operation_map
use Rattle.apollo_executable.specs.contracts.document.ExecutableDocumentPartialEq.TheImpl as document
use Rattle.graphql_nodes.proofs.Comparisons.{Compares, of_part, of_fields, of_three, of_five, made, pairs}
use Rattle.graphql_nodes.proofs.Comparisons.{names, nodes, lists, options}
use Rattle.graphql_nodes.proofs.LocationEquality.{operation_types}
use Rattle.graphql_nodes.proofs.TableEquality.{tables_of_names}
use Rattle.graphql_ast.proofs.DirectiveEquality.{directive_lists}
use Rattle.graphql_ast.proofs.DocumentEquality.{variable_definitions}
use Rattle.apollo_executable.proofs.SelectionEquality.{selection_sets}

pub operations : Compares operation.ghosts.eq bare_operation
operations = of_fields (λ o. (o.operation_type, (o.name, (o.variables, (o.directives, o.selection_set)))))
    (of_five (λ t n v d s.
    record { operation_type = t; name = n; variables = v; directives = d; selection_set = s })) (λ _. refl)
    (pairs operation_types (pairs (options names) (pairs (lists (nodes variable_definitions))
    (pairs directive_lists selection_sets))))

pub fragments : Compares fragment.ghosts.eq bare_fragment
fragments = of_fields (λ f. (f.name, (f.directives, f.selection_set)))
    (of_three (λ n d s. record { name = n; directives = d; selection_set = s })) (λ _. refl)
    (pairs names (pairs directive_lists selection_sets))

pub operation_maps : Compares operation_map.ghosts.eq bare_operation_map
operation_maps = made (λ p. record { anonymous = p.0; named = p.1 }) (λ m. (m.anonymous, m.named)) (λ _. refl)
    (of_part (λ (m : OperationMap). (m.anonymous, m.named)) (pairs (options (nodes operations))
    (tables_of_names (nodes operations))))

pub documents : Compares document.ghosts.eq bare_document
documents = made (λ p. record { operations = p.0; fragments = p.1 }) (λ d. (d.operations, d.fragments))
    (λ _. refl) (of_part (λ (d : ExecutableDocument). (d.operations, d.fragments)) (pairs operation_maps
    (tables_of_names (nodes fragments))))
