use Rattle.apollo_meaning.proofs.Prelude.{◌≡◌, Some, None, [], ◌∷◌, ◌++◌, sym, ap, ◌∙◌, rules, find}
use Rattle.apollo_meaning.proofs.Prelude.{lookup_key, keys_of, option_map, same_text}
use Rattle.apollo_meaning.proofs.Faults.KeptLemmas.{found-key}
use Rattle.apollo_folding.proofs.KeptNames.{found-there, found-nowhere}
use Rattle.apollo_folding.proofs.from_ast.folding.Part.note_collision.Goals as goal

pub returns-in_ok-push : goal.returns-in_ok-push
returns-in_ok-push g c = λ es was.
    let t = c.args.self.now in
    let n = g.T.Named.name_of c.args.node.now.value in
    let name : c.name.result.now ≡ n = search rules in
    let found : find (same_text n) (keys_of es) ≡ Some c.in-Some.kept.now = found-key n es
    ∙ sym (λ i. lookup_key (same_text (name i)) (was i)) ∙ sym c.get_key_value.ensures.key
    ∙ ap (option_map (λ e. e.0.now)) c.in-Some.is in
    c.in_ok-push.ensures.ok ∙ (λ i. c.args.faults.now ++ (c.location.ensures i, c.in_ok-error.ensures i) ∷ [])
    ∙ found-there c.args.faults.now c.args.collection t.of.now.name.now (keys_of es)
    (n, c.args.node.now.location) _ found

pub returns-in_default : goal.returns-in_default
returns-in_default g c = λ es was.
    let t = c.args.self.now in
    let n = g.T.Named.name_of c.args.node.now.value in
    let name : c.name.result.now ≡ n = search rules in
    let none : find (same_text n) (keys_of es) ≡ None = found-key n es
    ∙ sym (λ i. lookup_key (same_text (name i)) (was i)) ∙ sym c.get_key_value.ensures.key
    ∙ ap (option_map (λ e. e.0.now)) c.in_default.is in
    found-nowhere c.args.faults.now c.args.collection t.of.now.name.now (keys_of es)
    (n, c.args.node.now.location) none
