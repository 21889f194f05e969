-- Equal lists of definitions mean equal documents, with one text.
use Rattle.apollo_canonical.proofs as canonical
use canonical.Prelude.{AllZip, AreEqualDocuments, AreEqualInOrder, AreEqualItems, Definition, DocumentItem}
use canonical.Prelude.{ExecutableDocument, Fragment, IsDocumentOf, IsFragmentOf, IsOperationOf, IsUnderName}
use canonical.Prelude.{List, ListLaws, NameView, NodeView, None, Operation, Option, Schema, []}
use canonical.Prelude.{all_operations, ap, at_place, bare_definition, bare_entry, bare_fragment}
use canonical.Prelude.{bare_fragment_definition, bare_name, bare_node, bare_operation}
use canonical.Prelude.{bare_operation_definition, by_text, document_text, elaborated, entries_by_text}
use canonical.Prelude.{erased_definitions, erased_fragment, erased_operation, kept_anonymous, kept_fragments}
use canonical.Prelude.{kept_named, lookup, map, map-append, map-map, operation_over, option_map, plain_name}
use canonical.Prelude.{root_or_none, stripped_fragment, stripped_operation, sym, typed_fragment}
use canonical.Prelude.{typed_operation, unwrap_or, values_of, ◌++◌, ◌∙◌, ◌≡◌}
use canonical.Documents.Seen.{lookup-bare, map-listed, one-listed}
use Rattle.apollo_component.proofs.Lists.Seen.{alike-made, alike-map}
use canonical.Documents.PlainErasure.{set-erased_alike, set-typed_alike}
use canonical.Documents.PlainKept.{Frag, Op, bare_frag, bare_op, kept-anonymous, kept-fragments, kept-named}
use canonical.Documents.PlainSelections.{alike_sets}
use Rattle.apollo_executable.specs.Listed.{listed}
use Rattle.graphql_ast.specs.declared.definition.Definition.TheVariants as d

-- what equal tables have under a name, and their values
module _ {V B : Type 0} (f : V → B) (es fs : List (NameView × NodeView V)) (same : map (bare_entry f) es
    ≡ map (bare_entry f) fs) where
  same_entries : entries_by_text (bare_node f) es ≡ entries_by_text (bare_node f) fs
  same_entries = λ i text. (lookup-bare f text es ∙ ap (lookup (by_text text)) same
      ∙ sym (lookup-bare f text fs)) i

  same_values : map (bare_node f) (values_of es) ≡ map (bare_node f) (values_of fs)
  same_values =
      let values = λ (gs : List (NameView × NodeView V)). map-map (bare_node f) (λ e. e.1) gs
      ∙ sym (map-map (λ e. e.1) (bare_entry f) gs) in
      values es ∙ ap (λ l. values_of l) same ∙ sym (values fs)

abbrev operation : NodeView Operation → Definition
operation o = d.OperationDefinition (at_place erased_operation o)

abbrev fragment : NodeView Fragment → Definition
fragment f = d.FragmentDefinition (at_place erased_fragment f)

-- the operations and the write-out of a document, by parts
module _ (c : ExecutableDocument) where
  all_bare : map (bare_node bare_operation) (all_operations c.operations)
      ≡ listed (option_map (bare_node bare_operation) c.operations.anonymous)
      ++ map (bare_node bare_operation) (values_of c.operations.named)
  all_bare = simp (map-append, map-listed)

  written_bare : map bare_definition (erased_definitions c) ≡ map (λ o. bare_definition (operation o))
      (all_operations c.operations) ++ map (λ f. bare_definition (fragment f)) (values_of c.fragments)
  written_bare = map-append bare_definition _ _ ∙ (λ i. map-map bare_definition operation
      (all_operations c.operations) i ++ map-map bare_definition fragment (values_of c.fragments) i)

-- what is made of alike operations and fragments is alike
operations-typed : (s : Option Schema) (n m : Op) → bare_op n ≡ bare_op m
    → bare_node bare_operation (typed_operation s n) ≡ bare_node bare_operation (typed_operation s m)
operations-typed s n m e =
    let sets = alike_sets s _ _ n.value.selection_set m.value.selection_set
    (ap (λ z. bare_name (root_or_none s z)) e) (ap (λ z. z.value.selection_set) e) in
    λ i. record { value = operation_over (e i).value (sets i); location = None }

fragments-typed : (s : Option Schema) (n m : Frag) → bare_frag n ≡ bare_frag m
    → bare_node bare_fragment (typed_fragment s n) ≡ bare_node bare_fragment (typed_fragment s m)
fragments-typed s n m e =
    let sets = alike_sets s n.value.type_condition m.value.type_condition n.value.selection_set
    m.value.selection_set (ap (λ z. z.value.type_condition) e) (ap (λ z. z.value.selection_set) e) in
    λ i. record {
      value = record { name = (e i).value.name; directives = (e i).value.directives; selection_set = sets i };
      location = None;
    }

operations-erased : (o p : NodeView Operation) → bare_node bare_operation o ≡ bare_node bare_operation p
    → bare_definition (d.OperationDefinition (at_place erased_operation o))
    ≡ bare_definition (d.OperationDefinition (at_place erased_operation p))
operations-erased o p e =
    let sets =
    set-erased_alike o.value.selection_set p.value.selection_set (ap (λ z. z.value.selection_set) e) in
    λ i. d.OperationDefinition (record {
      value = record {
        operation_type = (e i).value.operation_type;
        name = (e i).value.name;
        variables = (e i).value.variables;
        directives = (e i).value.directives;
        selection_set = sets i;
      };
      location = None;
    })

fragments-erased : (f g : NodeView Fragment) → bare_node bare_fragment f ≡ bare_node bare_fragment g
    → bare_definition (d.FragmentDefinition (at_place erased_fragment f))
    ≡ bare_definition (d.FragmentDefinition (at_place erased_fragment g))
fragments-erased f g e =
    let same = ap (λ z. z.value.selection_set) e in
    let sets = set-erased_alike f.value.selection_set g.value.selection_set same in
    let types = set-typed_alike f.value.selection_set g.value.selection_set same in
    λ i. d.FragmentDefinition (record {
      value = record {
        name = (e i).value.name;
        type_condition = types i;
        directives = (e i).value.directives;
        selection_set = sets i;
      };
      location = None;
    })

module _ (a b : ExecutableDocument) (same : AreEqualInOrder a b) where
  pub equal : AreEqualDocuments a b
  equal = λ i. record {
    operations = record {
      anonymous = same.anonymous i;
      named = same_entries bare_operation a.operations.named b.operations.named same.named i;
    };
    fragments = same_entries bare_fragment a.fragments b.fragments same.fragments i;
  }

  operations : map (bare_node bare_operation) (all_operations a.operations) ≡ map (bare_node bare_operation)
      (all_operations b.operations)
  operations = all_bare a ∙ (λ i. listed (same.anonymous i) ++ same_values bare_operation a.operations.named
      b.operations.named same.named i) ∙ sym (all_bare b)

  pub written : map bare_definition (erased_definitions a) ≡ map bare_definition (erased_definitions b)
  written = written_bare a ∙ (λ i. alike-map _ _ operations-erased _ _ operations i
      ++ alike-map _ _ fragments-erased _ _ (same_values bare_fragment a.fragments b.fragments same.fragments)
      i) ∙ sym (written_bare b)

-- tables of what is made of nodes, entry by entry
module _ {V W X Y : Type 0} (R : NodeView V → NodeView W → Type 0) (made : NodeView V → NodeView W)
    (is : (n : NodeView V) (o : NodeView W) → R n o → o ≡ made n) (f : V → X) (g : W
    → Y) (sees : (n m : NodeView V) → bare_node f n ≡ bare_node f m → bare_node g (made n)
    ≡ bare_node g (made m)) where
  under_names : (ks ls : List (NameView × NodeView V)) (es fs : List (NameView × NodeView W))
      → AllZip (IsUnderName R) ks es → AllZip (IsUnderName R) ls fs
      → map (bare_entry f) ks ≡ map (bare_entry f) ls → map (bare_entry g) es ≡ map (bare_entry g) fs
  under_names = alike-made _ _ (λ k e h i. (h.0 i, is k.1 e.1 h.1 i)) _ _
      (λ k l e i. ((e i).0, sees k.1 l.1 (ap (λ z. z.1) e) i))

-- what a list means
module _ (laws : ListLaws) (s : Option Schema) where
  -- what stands for a kept definition is that definition, typed
  is_operation : (n : Op) (o : NodeView Operation) → IsOperationOf s n o → o ≡ typed_operation s n
  is_operation n o h =
      let xs = n.value.selection_set in
      let same : at_place erased_operation o ≡ at_place (stripped_operation s h.0) n = h.1.1.0 in
      let root : h.0 ≡ root_or_none s n =
      sym (ap (λ (r : Option NameView). unwrap_or r (plain_name [])) h.1.0) in
      let set : o.value.selection_set ≡ elaborated s (root_or_none s n) xs =
      laws.one_set s h.0 xs o.value.selection_set (ap (λ z. z.value.selection_set) same) h.1.1.1
      ∙ ap (λ r. elaborated s r xs) root in
      λ i. record { value = operation_over (same i).value (set i); location = (same i).location }

  is_fragment : (n : Frag) (f : NodeView Fragment) → IsFragmentOf s n f → f ≡ typed_fragment s n
  is_fragment n f h =
      let xs = n.value.selection_set in
      let same : at_place erased_fragment f ≡ at_place (stripped_fragment s) n = h.0 in
      let set : f.value.selection_set ≡ elaborated s n.value.type_condition xs =
      laws.one_set s n.value.type_condition xs f.value.selection_set (ap (λ z. z.value.selection_set) same)
      h.1 in
      λ i. record {
        value = record {
          name = (same i).value.name;
          directives = (same i).value.directives;
          selection_set = set i;
        };
        location = (same i).location;
      }

  module _ (xs ys : List DocumentItem) (e : AreEqualItems xs ys) (a b : ExecutableDocument)
      (h : IsDocumentOf s xs a) (g : IsDocumentOf s ys b) where
    pub in_order : AreEqualInOrder a b
    in_order = record {
      anonymous = one-listed _ _ (sym (map-listed _ a.operations.anonymous)
          ∙ alike-made _ _ is_operation bare_op _ (operations-typed s) _ _ _ _
          h.anonymous g.anonymous (map-listed bare_op _ ∙ ap (λ (o : Option Op). listed o)
          (sym (kept-anonymous s xs) ∙ ap (kept_anonymous s) e ∙ kept-anonymous s ys)
          ∙ sym (map-listed bare_op _)) ∙ map-listed _ b.operations.anonymous);
      named = under_names _ _ is_operation bare_operation_definition
          bare_operation (operations-typed s) _ _ _ _ h.named g.named
          (sym (kept-named s xs) ∙ ap (kept_named s) e ∙ kept-named s ys);
      fragments = under_names _ _ is_fragment bare_fragment_definition
          bare_fragment (fragments-typed s) _ _ _ _ h.fragments
          g.fragments (sym (kept-fragments s xs) ∙ ap (kept_fragments s) e ∙ kept-fragments s ys);
    }

    pub equal_documents : AreEqualDocuments a b
    equal_documents = equal a b in_order

    pub one_text : document_text a ≡ document_text b
    one_text = laws.one_text (erased_definitions a) (erased_definitions b) (written a b in_order)
