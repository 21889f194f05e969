use Rattle.std.proofs.Common.{[], ◌∷◌}
use Rattle.std.proofs.lemmas.List.{append-nil}
use Rattle.std.proofs.lemmas.List.Elements.{filter_map-append}
use Rattle.std.specs.List.{filter_map}
use Rattle.apollo_component.specs.Extensions.{id_of}
use Rattle.apollo_types.proofs.write_out.add_origin.Goals as goal

pub returns-in_ok-add_key : goal.returns-in_ok-add_key
returns-in_ok-add_key c = λ os was. rw (filter_map-append id_of os (c.args.origin ∷ []), c.in-Extension.is)
    (c.in_ok-add_key.ensures.added (filter_map id_of os) was).0

pub returns-in_default : goal.returns-in_default
returns-in_default c = λ os was. rw (
  filter_map-append id_of os (c.args.origin ∷ []),
  c.in_default.is,
  append-nil (filter_map id_of os),
) was
