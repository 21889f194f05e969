use Rattle.apollo_meaning.proofs.Prelude.{◌≡◌, Bool, true, false, not, ◌∷◌, [], ◌++◌, map, sym, ap, ◌∙◌}
use Rattle.apollo_meaning.proofs.Prelude.{if◌then◌else◌, rules, list_any, component_name, same_component_name}
use Rattle.apollo_meaning.proofs.Prelude.{distinct_names}
use Rattle.apollo_folding.proofs.KeptNames.{name-put, name-nowhere, found-nowhere}
use Rattle.apollo_folding.proofs.from_ast.folding.Part.fold_name.Goals as goal

is-not : (b n : Bool) → n ≡ not b → b ≡ not n
is-not true n is = ap not (sym is)
is-not false n is = ap not (sym is)

pub returns-then-is_new-clause-added : goal.returns-then-is_new-clause-added
returns-then-is_new-clause-added c = λ ks was.
    let x = component_name c.args.self.now.origin c.args.name.now in
    let key : c.with_origin-component.result ≡ x = search rules in
    c.in_ok-is_new.ensures.keys ∙ (λ i. if list_any (same_component_name (key i)) (was i) then was i else was
    i ++ key i ∷ []) ∙ name-put ks x

pub returns-then-is_new-clause-faults : goal.returns-then-is_new-clause-faults
returns-then-is_new-clause-faults c = λ ks was.
    let n = c.args.name.now in
    let x = component_name c.args.self.now.origin n in
    let key : c.with_origin-component.result ≡ x = search rules in
    let absent : list_any (same_component_name x) (distinct_names ks) ≡ false =
    sym (λ i. list_any (same_component_name (key i)) (was i))
    ∙ is-not (list_any (same_component_name c.with_origin-component.result) c.args.set.now)
    c.in_ok-is_new.is_new c.in_ok-is_new.ensures.added ∙ ap not c.if-is_new.true in
    found-nowhere c.args.faults.now c.args.collection c.args.self.now.of.now.name.now (map (λ k. k.name) ks)
    (n, n.location) (name-nowhere ks x absent)

pub returns-clause-added : goal.returns-clause-added
returns-clause-added c = λ ks was.
    let x = component_name c.args.self.now.origin c.args.name.now in
    let key : c.with_origin-component.result ≡ x = search rules in
    c.in_ok-is_new.ensures.keys ∙ (λ i. if list_any (same_component_name (key i)) (was i) then was i else was
    i ++ key i ∷ []) ∙ name-put ks x
