use Rattle.apollo_meaning.proofs.Prelude.{List, [], ◌∷◌, ◌++◌, sym, subst, arith, take_all, Definition}
use Rattle.apollo_meaning.proofs.Prelude.{ListItem}
use Rattle.apollo_folding.specs.Adopting.{adopted_for, adopted_for_each}
use Rattle.apollo_folding.proofs.RefusalLemmas.{RefusedAs-through}
use Rattle.apollo_schema.specs.Stands.{Stands}
use Rattle.apollo_schema.proofs.Stands.TurnLemmas.{given-turn, folded-turn}
use Rattle.apollo_schema.proofs.tables.Tables.adopt_each.Goals as goal

-- the item of an extension
abbrev item : Definition → List ListItem
item extension = adopted_for (extension ∷ [])

pub loop-extension-preserved : goal.loop-extension-preserved
loop-extension-preserved c = λ start xs was.
    subst (λ (l : List ListItem). Stands start l c.adopt_one.new.self)
    (sym (given-turn item c.args.firsts.now c.loop-extension.extension-index c.extension-item.result
    (omega arith) c.extension-item.is xs)) (c.in_ok-adopt_one.ensures.stands start _
    (c.loop-extension.invariant start xs was))

pub returns-in_err-adopt_one-clause-refused : goal.returns-in_err-adopt_one-clause-refused
returns-in_err-adopt_one-clause-refused c = RefusedAs-through c.from_residual.result
    c.in_err-adopt_one.field-0.0 c.from_residual.ensures.1 (λ full start xs was. omega (
      arith,
      full start _ (c.loop-extension.invariant start xs was),
      folded-turn item c.args.firsts.now c.loop-extension.extension-index c.extension-item.result
          (omega arith) c.extension-item.is xs,
    )) c.in_err-adopt_one.ensures.refused

pub returns-clause-stands : goal.returns-clause-stands
returns-clause-stands c = λ start xs was. subst (λ (l : List Definition). Stands start
    (xs ++ adopted_for_each l) c.loop-extension.self) (take_all c.loop-extension.extension-index
    c.args.firsts.now (omega arith)) (c.loop-extension.invariant start xs was)
