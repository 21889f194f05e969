-- What a slot owns: what a box of the same value would, if something is held, and else nothing.
use Rattle.std.specs.Prelude.{Option, None, Some}
use base.Fml.{Fml, ftrue}
use base.Stored.{Coded}
use denote.RawPtr.{Ptr}
use Rattle.std.specs.contracts.option.Option as option
use Rattle.std.specs.Global.{Global}
use Rattle.std.specs.contracts.impls.GlobalAllocator.TheImpl.{ghosts}
use Rattle.std.specs.Box.Ownership.{box_owns}
use Rattle.peglinden_c.specs.contracts.held.Held.{the_row}

abbrev pub slot_owns : Global → Ptr → Option the_row.Denot → Fml
slot_owns alloc p (Some x) = box_owns (ghosts.dealloc_token alloc) the_row p x
slot_owns alloc p None = ftrue

abbrev pub held_coded : Coded (Option the_row.Denot)
held_coded = (option.the_row the_row).coded
