use Rattle.std.proofs.Common.{rules, arith, ◌≡◌, ◌∙◌, ◌++◌, ◌∷◌, [], ap, sym, List, refl, take, Some}
use Rattle.std.specs.Option.{option_copied, option_map}
use Rattle.std.specs.Vec.{vec_len}
use Rattle.graphql_nodes.specs.NodeView.{NodeView}
use Rattle.graphql_ast.specs.declared.type_system.FieldDefinition.{FieldDefinition}
use Rattle.apollo_executable.specs.SelectionParts.{response_key_of}
use Rattle.apollo_document.specs.Typable.{Fault, child_of, definition_in}
use Rattle.apollo_document.specs.SelectionFaults.{below_or_wrong, faults_of_selections, faults_of_selection}
use Rattle.apollo_document.specs.Elaborated.{elaborated_selection}
use Rattle.apollo_document.specs.Noted.{noting}
use Rattle.apollo_document.specs.Stripped.{in_place_of}
use Rattle.apollo_document.specs.Within.{faults_within}
use Rattle.apollo_document.specs.declared.elaborating.Elaboration.{Elaboration}
use Rattle.apollo_document.proofs.Equations.{kept_more, all_more, field_made, field_over_leaf, fragment_made}
use Rattle.apollo_document.proofs.Equations.{noted_within, none_found, undefined_judged, faults-field}
use Rattle.apollo_document.proofs.Equations.{faults-fragment, unpushed}
use Rattle.apollo_document.proofs.elaborating.Elaboration.+elaborate.Goals as goal

pub elaborate_field-returns-clause-faults : goal.elaborate_field-returns-clause-faults
elaborate_field-returns-clause-faults t c =
    let s = option_copied c.args.parent.now.schema in
    let e = c.args.self.now in
    let n = c.args.node.now in
    let key = response_key_of n.value.alias n.value.name in
    let pushed : c.push.new.self ≡ e.path.nested_fields ++ key ∷ [] = search rules in
    let within = c.in_ok-field.ensures.faults in
    let there = c.deref_mut.ensures.value ∙ ap (λ (x : Elaboration). x.path.nested_fields) within ∙ pushed in
    let popped = unpushed e.path.nested_fields c.deref_mut.result.now.items c.pop.new.self.items key
    (vec_len c.deref_mut.result.now) (search rules) there c.pop.ensures.rest in
    (λ i. record (within i) { path = record { root = (within i).path.root; nested_fields = popped i } })
    ∙ (λ i. noting (faults_within s c.args.parent.now.ty.now n.location
    (record { root = e.path.root; nested_fields = pushed i }) n.value) e)
    ∙ ap (λ (l : List Fault). noting l e)
    (sym (faults-field s c.args.parent.now.ty.now n.location e.path n.value))

pub elaborate_fragment-returns-in_default-clause-faults :
    goal.elaborate_fragment-returns-in_default-clause-faults
elaborate_fragment-returns-in_default-clause-faults t c =
    let s = option_copied c.args.parent.now.schema in
    let e = c.args.self.now in
    let n = c.args.node.now in
    c.in_ok-set.ensures.faults ∙ ap (λ (l : List Fault). noting l e)
    (sym (faults-fragment s c.args.parent.now.ty.now n.location e.path n.value))

pub elaborate_fragment-returns-clause-typed : goal.elaborate_fragment-returns-clause-typed
elaborate_fragment-returns-clause-typed t c =
    let s = option_copied c.args.parent.now.schema in
    let n = c.args.node.now in
    ap Some c.in_ok-inline.ensures ∙ ap (option_map (in_place_of n))
    (fragment_made s c.args.parent.now.ty.now n.value c.in-Some.set
    (sym c.in-Some.is ∙ c.in_ok-set.ensures.set))

pub elaborate_fragment-returns-clause-faults : goal.elaborate_fragment-returns-clause-faults
elaborate_fragment-returns-clause-faults t c =
    let s = option_copied c.args.parent.now.schema in
    let e = c.args.self.now in
    let n = c.args.node.now in
    c.in_ok-set.ensures.faults ∙ ap (λ (l : List Fault). noting l e)
    (sym (faults-fragment s c.args.parent.now.ty.now n.location e.path n.value))

pub elaborate_all-loop-selection-preserved : goal.elaborate_all-loop-selection-preserved
elaborate_all-loop-selection-preserved t c =
    let s = option_copied c.args.parent.now.schema in
    let ty = c.args.parent.now.ty.now in
    let e = c.args.self.now in
    let xs = c.args.selections.now in
    let i = c.loop-selection.selection-index in
    let x = c.selection-item.result in
    let so_far = c.loop-selection.invariant.faults in
    record {
      kept = kept_more (elaborated_selection s ty) c.loop-selection.kept c.push_kept.new.selections xs i x
          c.in_ok-typed.typed (omega arith) c.loop-selection.invariant.kept
          (c.in_ok-typed.ensures.typed ∙ ap (elaborated_selection s ty) c.selection-item.is)
          c.in_ok-push_kept.ensures;
      faults = c.in_ok-typed.ensures.faults
          ∙ (λ j. noting (faults_of_selection s ty (so_far j).path x) (so_far j)) ∙ (λ j. record e {
            faults = all_more (faults_of_selection s ty e.path) e.faults
                (noting (faults_of_selections s ty e.path (take i xs)) e).faults xs i x (omega arith)
                c.selection-item.is refl j;
          });
    }

pub elaborate_within-returns-in_default-clause-faults : goal.elaborate_within-returns-in_default-clause-faults
elaborate_within-returns-in_default-clause-faults t c =
    let s = option_copied c.args.parent.now.schema in
    let ty = c.args.parent.now.ty.now in
    let e = c.args.self.now in
    let n = c.args.node.now in
    let below : NodeView FieldDefinition → List Fault =
    λ d. faults_of_selections s (child_of d) e.path n.value.selection_set in
    let none = sym c.in_default.is ∙ c.in_ok-definition.ensures.defined in
    c.in_ok-definition.ensures.faults ∙ ap (λ (l : List Fault). noting l e)
    (none_found n.location e.path below (definition_in s ty n.value.name) none
    ∙ ap (below_or_wrong below n.location e.path) (sym (undefined_judged s ty n.value none)))

pub elaborate_within-returns-in_default-2-clause-typed :
    goal.elaborate_within-returns-in_default-2-clause-typed
elaborate_within-returns-in_default-2-clause-typed t c =
    let s = option_copied c.args.parent.now.schema in
    let ty = c.args.parent.now.ty.now in
    let n = c.args.node.now in
    let d = c.in-Some.definition in
    let is = sym c.in-Some.is ∙ c.in_ok-definition.ensures.defined in
    ap (option_map (in_place_of n))
    (field_over_leaf s ty n.value d is (sym c.in_default-2.is ∙ c.in_ok-set.ensures.set))

pub elaborate_within-returns-in_default-2-clause-faults :
    goal.elaborate_within-returns-in_default-2-clause-faults
elaborate_within-returns-in_default-2-clause-faults t c =
    let s = option_copied c.args.parent.now.schema in
    let ty = c.args.parent.now.ty.now in
    let n = c.args.node.now in
    let d = c.in-Some.definition in
    let is = sym c.in-Some.is ∙ c.in_ok-definition.ensures.defined in
    noted_within s ty n d c.args.self.now _ _ is c.in_ok-definition.ensures.faults c.in_ok-set.ensures.faults

pub elaborate_within-returns-clause-typed : goal.elaborate_within-returns-clause-typed
elaborate_within-returns-clause-typed t c =
    let s = option_copied c.args.parent.now.schema in
    let ty = c.args.parent.now.ty.now in
    let n = c.args.node.now in
    let d = c.in-Some.definition in
    let is = sym c.in-Some.is ∙ c.in_ok-definition.ensures.defined in
    ap Some c.in_ok-field.ensures ∙ ap (option_map (in_place_of n))
    (field_made s ty n.value d is c.in-Some-2.set (sym c.in-Some-2.is ∙ c.in_ok-set.ensures.set))

pub elaborate_within-returns-clause-faults : goal.elaborate_within-returns-clause-faults
elaborate_within-returns-clause-faults t c =
    let s = option_copied c.args.parent.now.schema in
    let ty = c.args.parent.now.ty.now in
    let n = c.args.node.now in
    let d = c.in-Some.definition in
    let is = sym c.in-Some.is ∙ c.in_ok-definition.ensures.defined in
    noted_within s ty n d c.args.self.now _ _ is c.in_ok-definition.ensures.faults c.in_ok-set.ensures.faults
