-- Equality of locations, lines and columns, source files, keys and kinds.
use Rattle.std.proofs.Common.{refl}
use denote.Enum.Bare.{sameb}
use Rattle.graphql_nodes.specs.declared.source.FileId.{FileId}
use Rattle.graphql_nodes.specs.declared.source.SourceSpan.{SourceSpan}
use Rattle.graphql_nodes.specs.declared.source.SourceFile.{SourceFile}
use Rattle.graphql_nodes.specs.declared.line_column.LineColumn.{LineColumn}
use Rattle.graphql_nodes.specs.declared.collections.hash_keys.HashKeys.{HashKeys}
use Rattle.graphql_nodes.specs.contracts.source.FileIdPartialEq.TheImpl as file_id
use Rattle.graphql_nodes.specs.contracts.source.SourceSpanPartialEq.TheImpl as source_span
use Rattle.graphql_nodes.specs.contracts.source.SourceFilePartialEq.TheImpl as source_file
use Rattle.graphql_nodes.specs.contracts.line_column.LineColumnPartialEq.TheImpl as line_column
use Rattle.graphql_nodes.specs.contracts.collections.hash_keys.HashKeysPartialEq.TheImpl as keys
use Rattle.graphql_nodes.specs.declared.operation_type.OperationType.{OperationType}
use Rattle.graphql_nodes.specs.declared.type_kind.TypeKind.{TypeKind}
use Rattle.graphql_nodes.specs.declared.directive_location.DirectiveLocation.{DirectiveLocation}
use Rattle.graphql_nodes.specs.contracts.operation_type.OperationType as operation
use Rattle.graphql_nodes.specs.contracts.type_kind.TypeKind as kind
use Rattle.graphql_nodes.specs.contracts.directive_location.DirectiveLocation as location
use Rattle.graphql_nodes.proofs.Comparisons.{Compares, of_fields, of_two, of_three, pairs, numbers, texts}
use Rattle.graphql_nodes.proofs.Comparisons.{kinds}

pub file_ids : Compares file_id.ghosts.eq (λ (id : FileId). id)
file_ids = of_fields (λ id. id.0) (λ p. record { 0 = p }) (λ _. refl) numbers

pub source_spans : Compares source_span.ghosts.eq (λ (s : SourceSpan). s)
source_spans = of_fields (λ s. (s.file, (s.start, s.end)))
    (of_three (λ f s e. record { file = f; start = s; end = e })) (λ _. refl)
    (pairs file_ids (pairs numbers numbers))

pub line_columns : Compares line_column.ghosts.eq (λ (l : LineColumn). l)
line_columns = of_fields (λ l. (l.line, l.column)) (of_two (λ l c. record { line = l; column = c }))
    (λ _. refl) (pairs numbers numbers)

pub source_files : Compares source_file.ghosts.eq (λ (f : SourceFile). f)
source_files = of_fields (λ f. (f.path, f.text)) (of_two (λ p t. record { path = p; text = t })) (λ _. refl)
    (pairs texts texts)

pub hash_keys : Compares keys.ghosts.eq (λ (k : HashKeys). k)
hash_keys = of_fields (λ k. (k.start, k.factor)) (of_two (λ s f. record { start = s; factor = f }))
    (λ _. refl) (pairs numbers numbers)

pub operation_types : Compares (sameb operation.the_type) (λ (o : OperationType). o)
operation_types = kinds operation.the_type tt

pub type_kinds : Compares (sameb kind.the_type) (λ (k : TypeKind). k)
type_kinds = kinds kind.the_type tt

pub directive_locations : Compares (sameb location.the_type) (λ (l : DirectiveLocation). l)
directive_locations = kinds location.the_type tt
