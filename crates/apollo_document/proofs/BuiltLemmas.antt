-- Tables that stand for a list hold its document.
use Rattle.std.proofs.Common.{arith, ◌≡◌, ◌∙◌, ap, subst, refl, true, List, [], ◌∷◌, ◌++◌, filter, Option}
use Rattle.std.proofs.Common.{None, Some, option_map, is_some, unwrap_or}
use Rattle.std.specs.List.{AllByRecursion, AllZip, filter_map, find}
use Rattle.graphql_nodes.specs.NameView.{NameView, plain_name}
use Rattle.graphql_ast.specs.declared.selection.Selection as ast
use Rattle.apollo_schema.specs.declared.schema.Schema.{Schema}
use Rattle.apollo_executable.specs.Listed.{listed}
use Rattle.apollo_executable.specs.Erasure.{erased_set}
use Rattle.apollo_document.specs.SelectionFaults.{faults_of_selections}
use Rattle.apollo_document.specs.Typable.{Fault, has_type}
use Rattle.apollo_document.specs.declared.selection_path.SelectionPath.{SelectionPath}
use Rattle.apollo_document.specs.declared.selection_path.ExecutableDefinitionName.{ExecutableDefinitionName}
use Rattle.apollo_document.specs.declared.selection_path.ExecutableDefinitionName.TheVariants as roots
use Rattle.apollo_document.specs.DocumentFaults.{faults_in_operation, faults_in_fragment}
use Rattle.apollo_executable.specs.declared.document.ExecutableDocument.{ExecutableDocument}
use Rattle.apollo_document.specs.Stripped.{stripped}
use Rattle.apollo_document.specs.TypedSelections.{IsTypedSet}
use Rattle.apollo_document.specs.Elaborated.{elaborated}
use Rattle.apollo_document.specs.AddedDefinitions.{DocumentItem, operations}
use Rattle.apollo_document.specs.KeptDefinitions.{root_type_of, is_rooted, first_if_anonymous}
use Rattle.apollo_document.specs.KeptDefinitions.{operation_under_name, kept_anonymous, kept_named}
use Rattle.apollo_document.specs.KeptDefinitions.{kept_fragments}
use Rattle.apollo_document.specs.TypedDefinitions.{IsOperationOf, IsFragmentOf}
use Rattle.apollo_document.specs.Documents.{IsUnderName, IsDocumentOf}
use Rattle.apollo_document.specs.Noted.{noting}
use Rattle.apollo_document.specs.Stands.{root_or_none, typed_operation, typed_fragment, entries_by, Stands}
use Rattle.apollo_document.specs.declared.elaborating.Elaboration.{Elaboration}
use Rattle.apollo_document.specs.declared.tables.Tables.{Tables}
use Rattle.apollo_component.proofs.FirstOfEachLemmas.{each-first}
use Rattle.apollo_document.proofs.OperationLemmas.{Op, Frag}

abbrev pub with_selections : Op → List ast.Selection → Op
with_selections n l = record n { value = record n.value { selection_set = l } }

abbrev pub fragment_with : Frag → List ast.Selection → Frag
fragment_with n l = record n { value = record n.value { selection_set = l } }

-- ---- kept operations are rooted

module _ (s : Option Schema) where
  rooted_first : (os : List Op) (n : Op) → first_if_anonymous (find (is_rooted s) os) ≡ Some n
      → is_rooted s n ≡ true
  rooted_first [] n h = cc
  rooted_first (o ∷ os) n h = grind (arith, h, rooted_first os n)

  abbrev AreRooted : List (NameView × Op) → Type 0
  AreRooted = AllByRecursion (λ (x : NameView × Op). is_rooted s x.1 ≡ true)

  rooted_named : (os : List Op) → AreRooted (filter_map operation_under_name (filter (is_rooted s) os))
  rooted_named [] = tt
  rooted_named (o ∷ os) = grind (arith, rooted_named os)

  pub anonymous_rooted : (xs : List DocumentItem)
      → AllByRecursion (λ n. is_rooted s n ≡ true) (listed (kept_anonymous s xs))
  anonymous_rooted xs = grind (arith, rooted_first (operations xs))

  pub named_rooted : (xs : List DocumentItem) → AreRooted (kept_named s xs)
  named_rooted xs = each-first _ _ _ (rooted_named _)

-- ---- what is made of each

module _ {A B : Type 0} (R : A → B → Type 0) (f : A → B) where
  built_table : (P : A → Type 0) → ((a : A) → P a → R a (f a)) → (es : List (NameView × A))
      → AllByRecursion (λ x. P x.1) es → AllZip (IsUnderName R) es (entries_by f es)
  built_table P made [] a = tt
  built_table P made (e ∷ es) a = ((refl, made e.1 a.0), built_table P made es a.1)

  built_option : (P : A → Type 0) → ((a : A) → P a → R a (f a)) → (o : Option A) → AllByRecursion P (listed o)
      → AllZip R (listed o) (listed (option_map f o))
  built_option P made None a = tt
  built_option P made (Some x) a = (made x a.0, tt)

any_table : {A : Type 0} (es : List (NameView × A)) → AllByRecursion (λ x. Unit {0}) es
any_table [] = tt
any_table (e ∷ es) = (tt, any_table es)

-- what an elaboration that begins with nothing wrong finds wrong
pub all_noted : (f : SelectionPath → List Fault) (path : SelectionPath) (new done : Elaboration)
    → new.path ≡ path → new.faults ≡ [] → done ≡ noting (f new.path) new → done.faults ≡ f path
all_noted f path new done at none is = ap (λ e. e.faults) is ∙ (λ i. none i ++ f (at i))

-- what the law of elaborated sets says
pub record ElaboratedSetsLaw : Type 0 where
  pub kept : (s : Option Schema) (ty : NameView) (xs : List ast.Selection)
      → erased_set (elaborated s ty xs) ≡ stripped s ty xs
  pub typed : (s : Option Schema) (ty : NameView) (xs : List ast.Selection)
      → IsTypedSet s ty (elaborated s ty xs)

-- ---- the document of a list

module _ (sets : ElaboratedSetsLaw) (s : Option Schema) where
  built_operation : (n : Op) → is_rooted s n ≡ true → IsOperationOf s n (typed_operation s n)
  built_operation n h = by (root_type_of s n.value.operation_type) refl h
    where
      by : (o : Option NameView) → root_type_of s n.value.operation_type ≡ o → is_some o ≡ true
          → IsOperationOf s n (typed_operation s n)
      by None e h = cc
      by (Some root) e h =
          let own = root_or_none s n in
          let xs = n.value.selection_set in
          let is : own ≡ root = ap (λ (o : Option NameView). unwrap_or o (plain_name [])) e in (
            root,
            (
              e,
              (
                ap (with_selections n) (sets.kept s own xs ∙ ap (λ r. stripped s r xs) is),
                subst (λ r. IsTypedSet s r (elaborated s own xs)) is (sets.typed s own xs),
              ),
            ),
          )

  built_fragment : (n : Frag) → IsFragmentOf s n (typed_fragment s n)
  built_fragment n = (
    ap (fragment_with n) (sets.kept s n.value.type_condition n.value.selection_set),
    sets.typed s n.value.type_condition n.value.selection_set,
  )

  module _ (xs : List DocumentItem) where
    abbrev pub document_of : ExecutableDocument
    document_of = record {
      sources = [];
      operations = record {
        anonymous = option_map (typed_operation s) (kept_anonymous s xs);
        named = entries_by (typed_operation s) (kept_named s xs);
      };
      fragments = entries_by (typed_fragment s) (kept_fragments s xs);
    }

    pub is_document : IsDocumentOf s xs document_of
    is_document = record {
      anonymous = built_option _ _ _ built_operation _ (anonymous_rooted s xs);
      named = built_table _ _ _ built_operation _ (named_rooted s xs);
      fragments = built_table _ _ _ (λ n _. built_fragment n) _ (any_table (kept_fragments s xs));
    }

    pub built_document : (t : Tables) (document : ExecutableDocument) → Stands s xs t
        → document.operations ≡ t.operations → document.fragments ≡ t.fragments → IsDocumentOf s xs document
    built_document t document stands ops frags = record {
      anonymous = rw (ops, stands.anonymous) is_document.anonymous;
      named = rw (ops, stands.named) is_document.named;
      fragments = rw (frags, stands.fragments) is_document.fragments;
    }

-- ---- what the code finds wrong with an operation and with a fragment

module _ (s : Option Schema) (n : Op) where
  pub operation_faults_made : (name : ExecutableDefinitionName) (root : NameView) (below : List ast.Selection)
      → root_type_of s n.value.operation_type ≡ Some root → below ≡ n.value.selection_set
      → faults_of_selections s root (record { root = name; nested_fields = [] }) below
      ≡ faults_in_operation s name n
  operation_faults_made name root below r selections = rw (selections, r) refl

module _ (s : Option Schema) (n : Frag) where
  pub fragment_faults_made : (name ty : NameView) (below : List ast.Selection)
      → has_type s n.value.type_condition ≡ true → name ≡ n.value.name → ty ≡ n.value.type_condition
      → below ≡ n.value.selection_set
      → faults_of_selections s ty (record { root = roots.Fragment name; nested_fields = [] }) below
      ≡ faults_in_fragment s n
  fragment_faults_made name ty below there named is selections = rw (named, is, selections, there) refl
