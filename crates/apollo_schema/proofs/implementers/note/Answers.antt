use Rattle.apollo_meaning.proofs.Prelude.{◌≡◌, Some, sym, ap, ◌∙◌, lookup, set_value, option_copied_mut}
use Rattle.apollo_meaning.proofs.Prelude.{same_text}
use Rattle.apollo_schema.proofs.ImplementerLemmas.{noted-found}
use Rattle.apollo_schema.proofs.implementers.note.Goals as goal

pub returns-in-Some : goal.returns-in-Some
returns-in-Some c =
    let map = c.args.map.now in
    let i = c.args.interface.now in
    let m = c.in-Some.implementers.now in
    let there : lookup (same_text i.name) map ≡ Some m = sym c.get_mut.ensures.value
    ∙ ap option_copied_mut c.in-Some.is in
    c.get_mut.follows.holds c.add.new.self ∙ ap (set_value (same_text i.name) map) c.in_ok-add.ensures
    ∙ noted-found c.args.is_object c.args.name.now map i m there
