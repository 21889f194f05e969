use Rattle.std.proofs.Common.{◌≡◌, Option, None, Some, ap, refl}
use Rattle.std.proofs.lemmas.List.Elements.{same_from_all_zip}
use Rattle.apollo_types.proofs.clones.SchemaDefinitionClone.clone.Goals as goal

-- p is a clone of o, where clones are the same
abbrev IsClone : {T : Type 0} → Option T → Option T → Type 0
IsClone None None = Unit {0}
IsClone (Some x) (Some y) = y ≡ x
IsClone _ _ = ⊥

same : {T : Type 0} (o p : Option T) → IsClone o p → p ≡ o
same None None h = refl
same (Some x) (Some y) h = ap Some h
same o p h = absurd h

pub returns : goal.returns
returns c =
    let t = c.args.self.now in
    record {
      cases = λ i. record {
        description = same t.description c.in_ok-clone.field-0 c.in_ok-clone.ensures.cases i;
        directives = record { 0 = same_from_all_zip _ _ _ c.in_ok-clone-2.ensures.cases (λ x y e. e) i };
        query = same t.query c.in_ok-clone-3.field-0 c.in_ok-clone-3.ensures.cases i;
        mutation = same t.mutation c.in_ok-clone-4.field-0 c.in_ok-clone-4.ensures.cases i;
        subscription = same t.subscription c.in_ok-clone-5.field-0 c.in_ok-clone-5.ensures.cases i;
      };
    }
