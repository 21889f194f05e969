-- What reports and JSON say of the faults of executable documents besides their sentences.
use Rattle.std.specs.Prelude.{ℕ, List, [], ◌∷◌, Option, codes, option_map}
use Rattle.graphql_nodes.specs.NameView.{NameView}
use Rattle.apollo_document.specs.declared.build_error.BuildError.{BuildError}
use Rattle.apollo_document.specs.declared.build_error.BuildError.TheVariants as e
use Rattle.apollo_reporting.specs.Abouts.{AboutView, of_earlier, of_kind, of_path}
use Rattle.apollo_reporting.specs.Details.{one_text, optional_text, two_texts}
use Rattle.apollo_reporting.specs.declared.detail.Detail.{Detail}

-- the name of the variant, the place of the definition that is kept, and the path
abbrev pub document_fault_about : BuildError → AboutView
document_fault_about (e.TypeSystemDefinition _ _) = of_kind (codes "TypeSystemDefinition")
document_fault_about e.AmbiguousAnonymousOperation = of_kind (codes "AmbiguousAnonymousOperation")
document_fault_about (e.OperationNameCollision kept) =
    of_earlier (codes "OperationNameCollision") (codes "first defined here") kept.location
document_fault_about (e.FragmentNameCollision kept) =
    of_earlier (codes "FragmentNameCollision") (codes "first defined here") kept.location
document_fault_about (e.UndefinedRootOperation _) = of_kind (codes "UndefinedRootOperation")
document_fault_about (e.UndefinedTypeInNamedFragmentTypeCondition _ _) =
    of_kind (codes "UndefinedTypeInNamedFragmentTypeCondition")
document_fault_about (e.UndefinedTypeInInlineFragmentTypeCondition _ path) =
    of_path (codes "UndefinedTypeInInlineFragmentTypeCondition") path
document_fault_about (e.SubselectionOnScalarType _ path) = of_path (codes "SubselectionOnScalarType") path
document_fault_about (e.SubselectionOnEnumType _ path) = of_path (codes "SubselectionOnEnumType") path
document_fault_about (e.UndefinedField _ _ path) = of_path (codes "UndefinedField") path

-- a definition: its name, if it has one, and what it is
abbrev pub definition_details : Option NameView → List ℕ → List Detail
definition_details name describe =
    optional_text (codes "name") (option_map (λ (n : NameView). n.text) name)
    ∷ one_text (codes "describe") describe

-- the fields of the variant by their names, in order, but for the path
abbrev pub document_fault_details : BuildError → List Detail
document_fault_details (e.TypeSystemDefinition name describe) = definition_details name describe
document_fault_details e.AmbiguousAnonymousOperation = []
document_fault_details (e.OperationNameCollision kept) =
    one_text (codes "name_at_previous_location") kept.text
document_fault_details (e.FragmentNameCollision kept) =
    one_text (codes "name_at_previous_location") kept.text
document_fault_details (e.UndefinedRootOperation keyword) = one_text (codes "operation_type") keyword
document_fault_details (e.UndefinedTypeInNamedFragmentTypeCondition ty fragment) =
    two_texts (codes "type_name") ty.text (codes "fragment_name") fragment.text
document_fault_details (e.UndefinedTypeInInlineFragmentTypeCondition ty _) =
    one_text (codes "type_name") ty.text
document_fault_details (e.SubselectionOnScalarType ty _) = one_text (codes "type_name") ty.text
document_fault_details (e.SubselectionOnEnumType ty _) = one_text (codes "type_name") ty.text
document_fault_details (e.UndefinedField ty field _) =
    two_texts (codes "type_name") ty.text (codes "field_name") field.text
