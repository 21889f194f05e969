-- What calls of `next` give of a walk, one after another.
use Rattle.std.proofs.Common.{◌≡◌, Bool, false, List, ◌++◌, None, refl, sym, subst, ◌∙◌, arith, append_assoc}
use Rattle.std.proofs.Common.{append-nil}
use Rattle.graphql_nodes.specs.NodeView.{NodeView}
use Rattle.apollo_executable.specs.Walks.Calls.{HasGiven, none_yet, one_more, IsWhole}
use Rattle.apollo_executable.specs.Walks.NextItem.{IsNext}
use Rattle.apollo_executable.specs.Walks.WalkView.{WalkView, AreWalked, IsNewWalk, IsWithinTurns}
use Rattle.apollo_executable.specs.declared.document.ExecutableDocument.{ExecutableDocument}
use Rattle.apollo_executable.specs.declared.selection.Field.{Field}
use Rattle.apollo_executable.specs.declared.selection.SelectionSet.{SelectionSet}

pub beginning : (start now : WalkView) (fields : List (NodeView Field)) → HasGiven start fields now
    → fields ++ now.coming ≡ start.coming
beginning start now fields none_yet = refl
beginning start new fields' (one_more {fields = fields} {now = now} {field = field} before next) =
    rw (append_assoc, ← next.gives.0) (beginning start now fields before)

module _ (deep : Bool) (document : ExecutableDocument) (set : SelectionSet) where
  -- a walk over the set that goes on
  record GoesOn (w : WalkView) : Type 0 where
    deep_is : w.deep ≡ deep
    document_is : w.document ≡ document
    start_is : w.start ≡ set
    going : w.ended ≡ false
    within : IsWithinTurns deep document set w.taken

  begun : (start : WalkView) → IsNewWalk deep document set start → GoesOn start
  begun start new = record {
    deep_is = new.deep_is;
    document_is = new.document_is;
    start_is = new.start_is;
    going = new.goes_on;
    within = (new.coming.opened, new.coming.reachable, omega (arith, new.taken));
  }

  goes_on : (start now : WalkView) (fields : List (NodeView Field)) → IsNewWalk deep document set start
      → HasGiven start fields now → GoesOn now
  goes_on start now fields new none_yet = begun start new
  goes_on start later fields' new (one_more {fields = fields} {now = now} before next) =
      let g = goes_on start now fields new before in
      let d = next.deep ∙ g.deep_is in
      let o = next.document ∙ g.document_is in
      let s = next.start ∙ g.start_is in
      record {
        deep_is = d;
        document_is = o;
        start_is = s;
        going = next.gives.2;
        within = rw (d, o, s) at next.bound;
      }

  pub turns : (start now : WalkView) (fields : List (NodeView Field)) → IsNewWalk deep document set start
      → HasGiven start fields now → IsWithinTurns deep document set now.taken
  turns start now fields new given = (goes_on start now fields new given).within

  pub whole : (start now end : WalkView) (fields : List (NodeView Field)) → IsNewWalk deep document set start
      → HasGiven start fields now → IsNext now None end → IsWhole deep document set fields end
  whole start now end fields new given next =
      let g = goes_on start now fields new given in
      let all : start.coming ≡ fields =
      sym (rw (next.gives.0, append-nil) at (beginning start now fields given)) in
      let over = next.over g.going in
      let d = next.deep ∙ g.deep_is in
      let o = next.document ∙ g.document_is in
      let s = next.start ∙ g.start_is in
      record {
        walked = subst (AreWalked deep document set) all new.coming;
        turns = rw (d, o, s) at over.0;
        opened = rw (d, o, s) at over.1;
      }
