-- A slot with something behind it owns what a box of the same value does, as a `Loose` does.
use Rattle.std.specs.Prelude.{◌≡◌, Option, None, Some, [], refl}
use mir.Syntax.{impl, tnil, dnil}
use denote.Signature.{Slot as Row, plain}
use Rattle.std.proofs.BoxSteps.Form.{Bx}
use Rattle.std.specs.contracts.alloc.Global as Heap
use Rattle.std.specs.contracts.impls.GlobalAllocator.TheImpl.{ghosts, dict}
use Rattle.std.proofs.alloc.Global.TheLaws as heap
use Rattle.peglinden_c.specs.contracts.held.Held as Held
use Rattle.peglinden_c.proofs.held.Held.TheLaws as held
use Rattle.peglinden_c.specs.contracts.loose.Loose as Loose
use Rattle.peglinden_c.specs.contracts.slot.Slot as Slot

abbrev pub E : Bx
E = record {
  row = Held.the_row;
  laws = held.the_row_laws;
  al = record {
    row = Heap.the_row;
    laws =
        heap.the_row_laws;
    g = ghosts;
    d = dict;
    drops = impl [] tnil dnil;
  };
}

abbrev pub FromLoose : Row 0
FromLoose = plain (λ _. Loose.the_row Held.the_row Heap.the_row ghosts)

abbrev pub FromSlot : Row 0
FromSlot = plain (λ _. Slot.the_row)

-- what is not missing is there
pub there : (o : Option Held.the_row.Denot) → (o ≡ None → ⊥) → (x : Held.the_row.Denot) × (o ≡ Some x)
there (Some x) _ = (x, refl)
there None wrong = absurd (wrong refl)
