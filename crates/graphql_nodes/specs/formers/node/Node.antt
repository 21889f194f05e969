-- `Node` as a type that may hold the type that holds it.
use mathlib.Core.Path.{◌≡◌, refl}
use mathlib.Core.Former.{Former, this, const, pair, via}
use base.Stored.{gnil, gcons}
use base.Fml.{ftrue}
use denote.RattleType.{RattleType}
use denote.Memory.{part_of}
use denote.RawPtr.{Ptr}
use denote.Sharing.{nothing}
use denote.HoleLaws.{Alike}
use denote.HolePlaces.{Recodes, struct_places, laid, one_value}
use denote.Hole.Fix.{over}
use denote.Param.Weighed.{Weighed}
use denote.Model.Placed.{view_places}
use Rattle.std.specs.Prelude.{Option}
use Rattle.std.specs.declared.rc.Rc.{Rc}
use Rattle.std.specs.contracts.rc.Rc as rc
use Rattle.std.specs.declared.alloc.Global.{Global}
use Rattle.std.specs.contracts.alloc.Global as heap
use Rattle.std.specs.contracts.impls.GlobalAllocator.TheImpl.{ghosts}
use Rattle.std.specs.Coded.{coded_option}
use Rattle.std.specs.declared.cmp.PartialEq as eq
use Rattle.std.specs.declared.hash.Hash as hash
use Rattle.graphql_nodes.specs.NodeView.{NodeView, span_code}
use Rattle.graphql_nodes.specs.declared.source.SourceSpan.{SourceSpan}
use Rattle.graphql_nodes.specs.declared.node.Held.{Held}
use Rattle.graphql_nodes.specs.contracts.node.Held as H
use Rattle.graphql_nodes.specs.declared.node.Node.TheInside.{Inside}
use Rattle.graphql_nodes.specs.declared.node.Node.TheView.{view, invariant}
use Rattle.graphql_nodes.specs.contracts.node.Node as C
use Rattle.graphql_nodes.specs.contracts.node.Node.TheInside as I

-- what a node stands for: its value and its location
abbrev pub the_former : Former {0} → Former {0}
the_former g =
    via (pair g (const (Option SourceSpan))) (λ X. NodeView (g.Of X)) (λ X n. (n.value, n.location))
    (λ X v. record { value = v.0; location = v.1 }) (λ X n. refl) (λ X v. refl)

-- the weight of a node: that of its value
abbrev pub the_weighed : {g : Former {0}} → Weighed g → Weighed (the_former g)
the_weighed w = record { weight = λ X μ n. w.weight X μ n.value; puts = λ X μ n. w.puts X μ n.value }

abbrev fields : Former {0}
fields = via (pair (const Ptr) (pair this (const (Option SourceSpan)))) Inside (λ X a.
    (a.shared.ptr, (a.shared.value.value, a.shared.value.location)))
    (λ X v. record { shared = record { ptr = v.0; value = record { location = v.1.1; value = v.1.0 } } })
    (λ X a. refl) (λ X v. refl)

abbrev with_value : {X Y : Type 0} → Rc X Global → Y → Rc Y Global
with_value b y = record { ptr = b.ptr; value = y }

abbrev rc_of : RattleType → RattleType
rc_of R = rc.the_row R heap.the_row ghosts

rc_places : (R S : RattleType) (h : R.Denot → S.Denot) → Alike R S h
    → Alike (rc_of R) (rc_of S) (λ b. with_value b (h b.value))
unfolding part_of
rc_places R S h a = record {
  mir_same = λ i. (rc_of (one_value R (a.mir_same i) (λ _. ftrue) (λ _ _. nothing) gnil)).mir;
  own_same = λ b i.
      (rc_of (one_value R (a.mir_same i) (a.own_same b.value i) (a.shr_same b.value i) gnil)).own_val
      (with_value b tt);
  shr_same = λ b i.
      (rc_of (one_value R (a.mir_same i) (a.own_same b.value i) (a.shr_same b.value i) gnil)).shr_at
      (with_value b tt);
}

module _ (R S : RattleType) (h : R.Denot → S.Denot) where
  abbrev held : Held R.Denot → Held S.Denot
  held d = record { location = d.location; value = h d.value }

  held_places : Alike R S h → Alike (H.the_row R) (H.the_row S) held
  held_places a =
      struct_places (H.the_type R) (H.the_type S) (
        (λ n. n),
        (h, tt),
      ) _ (λ d. refl) refl ((refl, (λ n. refl, λ n. refl)), (laid _ _ _ a, tt))

  pub the_places : Alike R S h → Alike (C.the_row R) (C.the_row S) ((the_former this).map R.Denot S.Denot h)
  the_places a =
      view_places fields (the_former this) view (λ X Y k u. refl) (λ X u. refl) R.Denot S.Denot h
      (C.the_row R).coded (C.the_row S).coded
      (invariant R.Denot) (invariant S.Denot) (λ u p q. refl) (λ u p q. refl) (λ u e. tt) (λ u e. tt)
      (over (I.the_row R)) (over (I.the_row S))
      (struct_places (I.the_type R) (I.the_type S) (
        (λ b. with_value b (held b.value)),
        tt,
      ) _ (λ d. refl) refl (
        laid _ _ _ (rc_places (H.the_row R) (H.the_row S) held (held_places a)),
        tt,
      ))

  pub the_codes_placed : Recodes R S h
      → Recodes (C.the_row R) (C.the_row S) ((the_former this).map R.Denot S.Denot h)
  the_codes_placed e d = λ i. gcons (e d.value i) ((coded_option span_code).code d.location)

-- nodes are compared as their values, also where h replaces these
pub the_eq_natural : (X Y : Type 0) (h : X → Y) (G : eq.Ghosts Y) (m n : NodeView X)
    → G.eq (h m.value) (h n.value) ≡ G.eq (h m.value) (h n.value)
the_eq_natural X Y h G m n = refl

-- a node is hashed as its value, also where h replaces that
pub the_hash_input_natural : (X Y : Type 0) (h : X → Y) (G : hash.Ghosts Y) (E : eq.Ghosts Y) (m : NodeView X)
    → G.hash_input (h m.value) ≡ G.hash_input (h m.value)
the_hash_input_natural X Y h G E m = refl
