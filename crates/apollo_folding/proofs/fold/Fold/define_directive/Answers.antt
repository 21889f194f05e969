use Rattle.apollo_meaning.proofs.Prelude.{◌≡◌, true, false, List, [], ◌∷◌, ◌++◌, Option, subst, sym, ap, ◌∙◌}
use Rattle.apollo_meaning.proofs.Prelude.{rules, lookup, set_value, option_copied_mut, insert_entry, NameView}
use Rattle.apollo_meaning.proofs.Prelude.{same_text, by_text, is_built_in, DirectiveDefinition}
use Rattle.apollo_meaning.proofs.Prelude.{AreDirectivesOf, Fault, refl}
use Rattle.apollo_meaning.specs.declared.build_error.BuildError.TheVariants as errors
use Rattle.apollo_folding.specs.Noting.{noting}
use Rattle.apollo_folding.specs.declared.fold.Fold.{Fold}
use Rattle.apollo_folding.proofs.DirectiveLemmas.{AreDirectivesOf-put, AreDirectivesOf-replace}
use Rattle.apollo_folding.proofs.DirectiveLemmas.{AreDirectivesOf-drop, directive_faults-put}
use Rattle.apollo_folding.proofs.DirectiveLemmas.{directive_faults-replace, directive_faults-drop}
use Rattle.apollo_folding.proofs.NotingLemmas.{noting-none}
use Rattle.apollo_folding.proofs.fold.Fold.define_directive.Goals as goal

-- what was looked up under a definition's name stands under it
looked-up : {V : Type 0} (table : List (NameView × V)) {x d : DirectiveDefinition} {found held : Option V}
    → x ≡ d → found ≡ lookup (by_text x.name.text) table → found ≡ held
    → lookup (by_text d.name.text) table ≡ held
looked-up table is value found = ap (λ (x : DirectiveDefinition). lookup (by_text x.name.text) table) (sym is)
    ∙ sym value ∙ found

-- where nothing is found, nothing is noted
none-noted : (fold : Fold) {es : List Fault} → es ≡ [] → fold ≡ noting es fold
none-noted fold none = sym (ap (λ l. noting l fold) none ∙ noting-none fold)

pub returns-in_default : goal.returns-in_default
returns-in_default c =
    let d = c.args.node.now in
    let absent = looked-up c.args.table.now c.deref.ensures c.get_mut.ensures.value
    (ap option_copied_mut c.in_default.is) in
    let h = c.get_mut.follows.holds-at-none in
    let name : c.in_ok-clone.field-0 ≡ d.value.name = search rules in
    let copy : c.in_ok-clone-2.field-0 ≡ d = search rules in
    record {
      defined = λ ds was. subst (AreDirectivesOf (ds ++ d ∷ [])) (sym (c.in_ok-insert.ensures.entries
          ∙ (λ i. insert_entry same_text (h i) (name i) (copy i)))) (AreDirectivesOf-put was d absent);
      faults = λ ds was. none-noted c.args.self.now (directive_faults-put was d absent);
      rest = refl;
    }

pub returns-then-is_built_in : goal.returns-then-is_built_in
returns-then-is_built_in c =
    let d = c.args.node.now in
    let v = c.in-Some.previous.now in
    let there = looked-up c.args.table.now c.deref.ensures c.get_mut.ensures.value
    (ap option_copied_mut c.in-Some.is) in
    let built_in : is_built_in v.location ≡ true = search rules in
    let value = c.deref.ensures in
    let copy = c.in_ok-previous.ensures.cases in
    record {
      defined = λ ds was. subst (AreDirectivesOf (ds ++ d ∷ [])) (sym (c.get_mut.follows.holds _
          ∙ (λ i. set_value (by_text (value i).name.text) c.args.table.now (copy i))))
          (AreDirectivesOf-replace was d v there built_in);
      faults = λ ds was. none-noted c.args.self.now (directive_faults-replace was d v there built_in);
      rest = refl;
    }

pub returns : goal.returns
returns c =
    let d = c.args.node.now in
    let v = c.in-Some.previous.now in
    let there = looked-up c.args.table.now c.deref.ensures c.get_mut.ensures.value
    (ap option_copied_mut c.in-Some.is) in
    let handed_in : is_built_in v.location ≡ false = search rules in
    let noted : c.note.new.self ≡ noting ((
      d.value.name.location,
      errors.DirectiveDefinitionCollision v.value.name.location d.value.name,
    ) ∷ []) c.args.self.now = search rules in
    record {
      defined = λ ds was. subst (AreDirectivesOf (ds ++ d ∷ [])) (sym (c.get_mut.follows.holds v
          ∙ c.in-Some.ensures.as_found)) (AreDirectivesOf-drop was d v there handed_in);
      faults = λ ds was. noted
          ∙ ap (λ l. noting l c.args.self.now) (sym (directive_faults-drop was d v there handed_in));
      rest = search rules;
    }
