use Rattle.std.specs.Prelude.{ℕ, List, ◌++◌, length, take, drop, slice_set}
use Rattle.std.specs.Borrow.{Lends, follows, MutBor, Fml, Array}
use Rattle.std.specs.declared.vec.Vec.{Vec}
use Rattle.std.specs.contracts.vec.Vec as vec
use Rattle.std.specs.declared.alloc.Global.{Global}
use Rattle.std.specs.contracts.alloc.Global as heap
use Rattle.std.specs.contracts.impls.GlobalAllocator.TheImpl.{ghosts}
use Rattle.std.specs.declared.slice.IterMut.{IterMut}
use Rattle.std.specs.Slice.Iter.{iter_mut_name}
use Rattle.graphql_nodes.specs.contracts.collections.items.Items.{the_row}
use denote.RattleType.{RattleType}

-- once the borrow r ends, the list has the elements of the `Vec` that was written last
abbrev pub LendsVec : (R : RattleType) → MutBor (List R.Denot) → MutBor (Vec R.Denot Global) → Fml
LendsVec R it r = Lends (the_row R) (vec.the_row R heap.the_row ghosts) it r (λ v. v.items)

-- the list with these elements written over its first ones
abbrev pub written_over : {A : Type 0} → List A → List A → List A
written_over items first = take (length items) (first ++ drop (length first) items)

-- once the walk ends, the list has the elements that were written last
abbrev pub LendsEach : (R : RattleType) → MutBor (List R.Denot) → IterMut R.Denot → Fml
LendsEach R it walk = follows (the_row R) (Array R 0) it.ghost_name (iter_mut_name walk) (written_over it.now)

-- once the borrow r ends, the element at the place is the last value written
abbrev pub LendsItem : (R : RattleType) → MutBor (List R.Denot) → ℕ → MutBor R.Denot → Fml
LendsItem R it place r = Lends (the_row R) R it r (slice_set it.now place)
