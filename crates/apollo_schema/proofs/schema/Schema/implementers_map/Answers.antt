use Rattle.apollo_meaning.proofs.Prelude.{[], ◌∷◌, map, sym, ap, ◌∙◌, map-append, is_object}
use Rattle.std.specs.Map.Iter.{deref_pair}
use Rattle.apollo_schema.specs.Implementers.{implementers_map}
use Rattle.apollo_schema.specs.Lookups.{declared_interfaces}
use Rattle.apollo_schema.specs.Noted.{noted_under}
use Rattle.apollo_schema.proofs.ImplementerLemmas.{implementers_map-push}
use Rattle.apollo_schema.proofs.schema.Schema.implementers_map.Goals as goal

pub loop-name-preserved : goal.loop-name-preserved
loop-name-preserved c =
    let k = c.in-Some.name.now in
    let ty = c.in-Some.ty.now in
    let done = c.loop-name.yielded in
    c.in_ok-note_type.ensures ∙ ap (λ m. noted_under (is_object ty) k m (declared_interfaces ty))
    c.loop-name.invariant ∙ implementers_map-push (map deref_pair done) k ty
    ∙ ap implementers_map (sym (map-append deref_pair done ((c.in-Some.name, c.in-Some.ty) ∷ [])))
