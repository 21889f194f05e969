-- A word that is refused differs from each type.
use Rattle.std.proofs.Common.{◌≡◌, ◌++◌, ℕ, List, ap, arith, codes, rules, subst, sym, ◌∙◌}
use Rattle.std.proofs.lemmas.List.{append_cancel_right}
use Rattle.graphql_ast.specs.declared.type_reference.Type as shape
use Rattle.graphql_ast.specs.declared.type_reference.Type.{«Type» as TypeReference, the_lemmas}
use Rattle.bench_notation.specs.Refusals.{IsBody}
use Rattle.bench_notation.specs.Text.{type_text}
use Rattle.bench_notation.proofs.LineWords.{passes}
use Rattle.bench_notation.proofs.TypeWords.{list_word, no_list, no_named, required_list_word}
use Rattle.bench_notation.proofs.type_notation.+read_type.Goals as goal
use Rattle.bench_notation.proofs.type_notation.+read_type.Goals.{then-is_required-2, else-is_required-2}

pub returns-in_err-name-clause-refused : goal.returns-in_err-name-clause-refused
returns-in_err-name-clause-refused t c = passes c.from_residual.result c.in_err-name.field-0.0
    c.from_residual.ensures.1 (no_named c.args.brackets c.args.word.now c.body_of-is_required.result.0.now
    c.body_of-is_required.result.1 c.body_of-is_required.ensures c.in_default.ensures)
    c.in_err-name.ensures.refused

pub returns-in_default-before-clause-refused : goal.returns-in_default-before-clause-refused
returns-in_default-before-clause-refused t c =
    no_list c.args.brackets c.args.word.now c.body_of-is_required.result.0.now c.in-Some.opened.now
    c.body_of-is_required.result.1 c.body_of-is_required.ensures c.in-Some.ensures
    (λ t text _ _. c.in_default-before.ensures (type_text t) (sym text))

pub returns-in_err-element-clause-refused : goal.returns-in_err-element-clause-refused
returns-in_err-element-clause-refused t c = passes c.from_residual-in_err-element.result
    c.in_err-element.field-0.0 c.from_residual-in_err-element.ensures.1 (λ none. no_list c.args.brackets
    c.args.word.now c.body_of-is_required.result.0.now c.in-Some.opened.now c.body_of-is_required.result.1
    c.body_of-is_required.ensures c.in-Some.ensures (λ t text depth. none t (append_cancel_right _
    c.in-Some-before.inner.now _ (text ∙ c.in-Some-before.ensures)) (omega (arith, depth))))
    c.in_err-element.ensures.refused

required_text : (element : TypeReference)
    → type_text (shape.NonNullList element) ≡ codes "[" ++ type_text element ++ codes "]!"
required_text element = search (rules, the_lemmas)

list_text : (element : TypeReference)
    → type_text (shape.List element) ≡ codes "[" ++ type_text element ++ codes "]"
list_text element = search (rules, the_lemmas)

pub returns-clause-text : goal.returns-clause-text
returns-clause-text t c =
    let word : List ℕ = c.args.word.now in
    let body : List ℕ = c.body_of-is_required.result.0.now in
    let same : type_text c.in_ok-element-2.element ≡ c.in-Some-before.inner.now =
    ap type_text c.in_ok-element-2.ensures ∙ c.in_ok-element.ensures.text in
    elim c.if-is_required-2.branch [
      | then-is_required-2 w ↦ ap type_text w.result-is ∙ required_text c.in_ok-element-2.element
          ∙ ap (λ (l : List ℕ). codes "[" ++ l ++ codes "]!") same
          ∙ required_list_word word body c.in-Some.opened.now c.in-Some-before.inner.now
          (subst (IsBody word body) w.if-is_required-2.true c.body_of-is_required.ensures)
          c.in-Some.ensures c.in-Some-before.ensures
      | else-is_required-2 w ↦ ap type_text w.result-is ∙ list_text c.in_ok-element-2.element
          ∙ ap (λ (l : List ℕ). codes "[" ++ l ++ codes "]") same
          ∙ list_word word body c.in-Some.opened.now c.in-Some-before.inner.now
          (subst (IsBody word body) w.if-is_required-2.false c.body_of-is_required.ensures).0
          c.in-Some.ensures c.in-Some-before.ensures
    ]
