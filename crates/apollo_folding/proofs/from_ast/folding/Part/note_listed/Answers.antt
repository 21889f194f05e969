use Rattle.apollo_meaning.proofs.Prelude.{◌≡◌, [], ◌∷◌, ◌++◌, map, sym, ap, ◌∙◌, rules, find, option_map}
use Rattle.apollo_meaning.proofs.Prelude.{same_text, ComponentName, component_name, same_component_name}
use Rattle.std.specs.Option.{option_copied}
use Rattle.apollo_component.specs.declared.extension.ComponentOrigin.TheVariants as origins
use Rattle.apollo_meaning.proofs.Faults.KeptLemmas.{found-name}
use Rattle.apollo_folding.proofs.KeptNames.{found-there, found-nowhere}
use Rattle.apollo_folding.proofs.from_ast.folding.Part.note_listed.Goals as goal
use Rattle.apollo_folding.proofs.from_ast.folding.Part.note_listed.Goals.{in-Some+in_ok-error+in_ok-push}
use Rattle.apollo_folding.proofs.from_ast.folding.Part.note_listed.Goals.{in_default}

pub returns : goal.returns
returns c = λ ks was.
    let t = c.args.self.now in
    let n = c.args.name.now in
    let names = map (λ (k : ComponentName). k.name) ks in
    let x = component_name origins.Definition n in
    let key : c.with_origin-component.result ≡ x = search rules in
    let looked : find (same_text n) names ≡ option_map (λ (k : ComponentName). k.name)
    (option_copied c.get.result) = found-name x ks ∙ ap (option_map (λ (k : ComponentName). k.name))
    (sym (λ i. find (same_component_name (key i)) (was i)) ∙ sym c.get.ensures) in
    elim c.match-get.branch [
      | in-Some+in_ok-error+in_ok-push w ↦ w.faults-is ∙ w.in_ok-push.ensures.ok
          ∙ (λ i. c.args.faults.now ++ (w.location.ensures i, w.in_ok-error.ensures i) ∷ [])
          ∙ found-there c.args.faults.now c.args.collection t.of.now.name.now names (n, n.location) _
          (looked ∙ ap (λ o. option_map (λ (k : ComponentName). k.name) (option_copied o)) w.in-Some.is)
      | in_default w ↦ w.faults-is
          ∙ found-nowhere c.args.faults.now c.args.collection t.of.now.name.now names (n, n.location)
          (looked ∙ ap (λ o. option_map (λ (k : ComponentName). k.name) (option_copied o)) w.in_default.is)
    ]
