use Rattle.apollo_meaning.proofs.Prelude.{◌≡◌, Bool, List, [], ◌∷◌, ◌++◌, length, refl, sym, ap}
use Rattle.apollo_meaning.proofs.Prelude.{subst, ◌∙◌, arith, take_all, flat_map, Definition, ListItem, added}
use Rattle.apollo_meaning.proofs.Prelude.{added_item, added_items, folded}
use Rattle.apollo_schema.specs.Stands.{Stands}
use Rattle.apollo_folding.proofs.RefusalLemmas.{RefusedAs-through}
use Rattle.apollo_schema.proofs.Stands.TurnLemmas.{given-turn, folded-turn}
use Rattle.apollo_schema.proofs.tables.Tables.take.Goals as goal

-- the item of a definition
abbrev item : Bool → Definition → List ListItem
item b d = added_item (b, d) ∷ []

each-item : (b : Bool) (ds : List Definition) → flat_map (item b) ds ≡ added_items (added b ds)
each-item b [] = refl
each-item b (d ∷ ds) = ap (λ l. added_item (b, d) ∷ l) (each-item b ds)

pub loop-definition-preserved : goal.loop-definition-preserved
loop-definition-preserved c = λ start xs was.
    subst (λ (l : List ListItem). Stands start l c.take_one.new.self)
    (sym (given-turn (item c.args.ignores) c.args.definitions.now c.loop-definition.definition-index
    c.definition-item.result (omega arith) c.definition-item.is xs)) (c.in_ok-take_one.ensures.stands start _
    (c.loop-definition.invariant start xs was))

pub returns-in_err-take_one-clause-refused : goal.returns-in_err-take_one-clause-refused
returns-in_err-take_one-clause-refused c =
    let b = c.args.ignores in
    let ds = c.args.definitions.now in
    RefusedAs-through c.from_residual.result c.in_err-take_one.field-0.0 c.from_residual.ensures.1
    (λ full start xs was. omega (
      arith,
      full start _ (c.loop-definition.invariant start xs was),
      folded-turn (item b) ds c.loop-definition.definition-index c.definition-item.result (omega arith)
          c.definition-item.is xs,
      ap (λ l. length (folded (xs ++ l))) (each-item b ds),
    )) c.in_err-take_one.ensures.refused

pub returns-clause-stands : goal.returns-clause-stands
returns-clause-stands c = λ start xs was. subst (λ (l : List ListItem). Stands start (xs ++ l)
    c.loop-definition.self) (ap (flat_map (item c.args.ignores)) (take_all c.loop-definition.definition-index
    c.args.definitions.now (omega arith)) ∙ each-item c.args.ignores c.args.definitions.now)
    (c.loop-definition.invariant start xs was)
