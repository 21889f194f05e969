use Rattle.apollo_meaning.proofs.Prelude.{◌≡◌, true, false, [], ◌∷◌, ◌++◌, sym, ap, ◌∙◌, arith, rules, is_some}
use Rattle.apollo_meaning.proofs.Prelude.{item_of, extended_part, append-nil, flat_map-append}
use Rattle.apollo_folding.specs.Adopting.{adopted_for, adopted_for_each}
use Rattle.apollo_folding.specs.DeclaredParts.{part_seen}
use Rattle.apollo_folding.proofs.CompletionLemmas.{adopted-first, mapped-some, unextended-turn}
use Rattle.apollo_folding.proofs.adoption.add_first.Goals as goal

pub returns-then-is_some : goal.returns-then-is_some
returns-then-is_some c =
    let xs = c.args.extensions.now in
    let firsts = c.args.firsts.now in
    let x = c.definition-item.result in
    let was = c.loop-definition.invariant in
    let extends : is_some (extended_part (item_of x)) ≡ true =
    mapped-some part_seen c.extension_of.result c.extension_of.ensures ∙ sym c.is_some.ensures
    ∙ c.if-is_some.true in
    let copy : c.in_ok-clone.field-0 ≡ x = search rules in
    ap adopted_for_each (c.in_ok-push.ensures.ok ∙ (λ i. was.firsts i ++ copy i ∷ []))
    ∙ flat_map-append (λ first. adopted_for (first ∷ [])) firsts (x ∷ [])
    ∙ ap (λ l. adopted_for_each firsts ++ l) (append-nil (adopted_for (x ∷ []))
    ∙ adopted-first xs c.loop-definition.definition-index x (omega arith) c.definition-item.is was.none
    extends)

pub loop-definition-preserved : goal.loop-definition-preserved
loop-definition-preserved c =
    let x = c.definition-item.result in
    let was = c.loop-definition.invariant in
    let apart : is_some (extended_part (item_of x)) ≡ false =
    mapped-some part_seen c.extension_of.result c.extension_of.ensures ∙ sym c.is_some.ensures
    ∙ c.if-is_some.false in
    record {
      firsts = was.firsts;
      none = unextended-turn c.args.extensions.now c.loop-definition.definition-index x (omega arith)
          c.definition-item.is was.none apart;
    }
