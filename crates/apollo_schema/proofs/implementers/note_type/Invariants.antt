use Rattle.apollo_meaning.proofs.Prelude.{◌≡◌, take, is_object}
use Rattle.apollo_schema.specs.Noted.{noted_under}
use Rattle.apollo_schema.proofs.implementers.note_type.Given as goal

abbrev pub invariant-loop-interface : goal.invariant-loop-interface
invariant-loop-interface l = l.map ≡ noted_under (is_object l.ty) l.name l.fn.map
    (take l.interface-index l.interfaces)
