-- What is wrong with a list of definitions is the same without the locations in the list, but for locations.
-- So it is the same of equal lists.
use Rattle.apollo_canonical.proofs.Prelude.{AreEqualItems, Bool, Definition, DocumentItem, List, NameView}
use Rattle.apollo_canonical.proofs.Prelude.{None, Option, Schema, SelectionPath, Some, [], ap, arith}
use Rattle.apollo_canonical.proofs.Prelude.{bare_definition, bare_faults, bare_fragment_definition, bare_name}
use Rattle.apollo_canonical.proofs.Prelude.{bare_operation_definition, bare_root, definition_faults}
use Rattle.apollo_canonical.proofs.Prelude.{document_faults, false, faults_in_fragment, faults_in_operation}
use Rattle.apollo_canonical.proofs.Prelude.{lookup_key, map, operation_faults, option_map, refl, root_type_of}
use Rattle.apollo_canonical.proofs.Prelude.{rooted_faults, same_text, sym, true, ◌∙◌, ◌≡◌}
use Rattle.apollo_canonical.specs.EqualDocuments.{bare_item}
use Rattle.graphql_ast.specs.declared.definition.Definition.TheVariants as d
use Rattle.apollo_document.specs.declared.selection_path.ExecutableDefinitionName.{ExecutableDefinitionName}
use Rattle.apollo_document.specs.declared.selection_path.ExecutableDefinitionName.TheVariants.{AnonymousOperation}
use Rattle.apollo_document.specs.declared.selection_path.ExecutableDefinitionName.TheVariants.{Fragment}
use Rattle.apollo_document.specs.declared.selection_path.ExecutableDefinitionName.TheVariants.{NamedOperation}
use Rattle.apollo_canonical.proofs.Schemas.Carried.{each_after-carried}
use Rattle.apollo_canonical.proofs.Documents.AlikeTypable.{said}
use Rattle.apollo_canonical.proofs.Documents.Seen.{key-bare}
use Rattle.apollo_canonical.proofs.Documents.PlainFaults.{faults-plain}
use Rattle.apollo_canonical.proofs.Documents.PlainKept.{Frag, Op, bare_frag, bare_op, kept-anonymous}
use Rattle.apollo_canonical.proofs.Documents.PlainKept.{kept-fragments, kept-named, on-plain, repeated}

-- the path that begins with a definition
abbrev from_root : ExecutableDefinitionName → SelectionPath
from_root x = record { root = x; nested_fields = [] }

module _ (s : Option Schema) where
  -- what is wrong with an operation itself, and with a fragment
  in_operation : (n : Op) (x y : ExecutableDefinitionName) → bare_root x ≡ bare_root y
      → bare_faults (faults_in_operation s x (bare_op n)) ≡ bare_faults (faults_in_operation s y n)
  in_operation n x y root = by (root_type_of s n.value.operation_type)
    where
      by : (o : Option NameView)
          → bare_faults (rooted_faults s x (bare_op n) o) ≡ bare_faults (rooted_faults s y n o)
      by None = refl
      by (Some a) = faults-plain s n.value.selection_set a a _ _ refl (λ i. from_root (root i))

  in_fragment : (n : Frag)
      → bare_faults (faults_in_fragment s (bare_frag n)) ≡ bare_faults (faults_in_fragment s n)
  in_fragment n =
      let below = faults-plain s n.value.selection_set (bare_name n.value.type_condition)
      n.value.type_condition (from_root (Fragment (bare_name n.value.name)))
      (from_root (Fragment n.value.name)) refl refl in
      grind (arith, on-plain s n, below)

  module _ (before : List DocumentItem) where
    -- an operation after the list
    of_operation : (n : Op) (o : Option NameView)
        → bare_faults (operation_faults s (map bare_item before) (bare_op n) (option_map bare_name o))
        ≡ bare_faults (operation_faults s before n o)
    of_operation n None =
        let root : ExecutableDefinitionName = AnonymousOperation n.value.operation_type in
        let itself = in_operation n root root refl in
        grind (arith, kept-anonymous s before, repeated s before, kept-named s before, itself)
    of_operation n (Some name) =
        let key = ap (lookup_key (same_text (bare_name name))) (kept-named s before)
        ∙ sym (key-bare bare_operation_definition name _) in
        let itself = in_operation n (NamedOperation n.value.operation_type (bare_name name))
        (NamedOperation n.value.operation_type name) refl in
        grind (arith, kept-anonymous s before, key, itself)

    -- a fragment
    of_fragment : (n : Frag)
        → bare_faults (definition_faults s (map bare_item before) false (d.FragmentDefinition (bare_frag n)))
        ≡ bare_faults (definition_faults s before false (d.FragmentDefinition n))
    of_fragment n =
        let key = ap (lookup_key (same_text (bare_name n.value.name))) (kept-fragments s before)
        ∙ sym (key-bare bare_fragment_definition n.value.name _) in
        grind (arith, key, in_fragment n)

    -- any definition
    of_definition : (b : Bool) (x : Definition)
        → bare_faults (definition_faults s (map bare_item before) b (bare_definition x))
        ≡ bare_faults (definition_faults s before b x)
    of_definition b (d.OperationDefinition n) = of_operation n n.value.name
    of_definition b (d.FragmentDefinition n) = of_fragment n
    of_definition true x = refl
    of_definition false x = refl

  -- each definition of a list, after those before it
  faults_of_list : (xs : List DocumentItem)
      → bare_faults (document_faults s (map bare_item xs)) ≡ bare_faults (document_faults s xs)
  faults_of_list = each_after-carried _ _ bare_item said said (λ before x. of_definition before x.0 x.1) []

  pub list_faults : (xs ys : List DocumentItem) → AreEqualItems xs ys
      → bare_faults (document_faults s xs) ≡ bare_faults (document_faults s ys)
  list_faults xs ys e = sym (faults_of_list xs) ∙ ap (λ l. bare_faults (document_faults s l)) e
      ∙ faults_of_list ys
