use Rattle.apollo_meaning.proofs.Prelude.{map, sym, ap, ◌∙◌, schema_extension_part, roots_in, schema_for}
use Rattle.apollo_folding.specs.HeldRoots.{held_roots}
use Rattle.apollo_folding.proofs.KeptNames.{none-of}
use Rattle.apollo_schema.proofs.Ends.EndLemmas.{implied-standing, implied-held}
use Rattle.apollo_schema.proofs.tables.Tables.implied_schema.Goals as goal

pub returns-then-is_some : goal.returns-then-is_some
returns-then-is_some c = λ start xs was. sym (implied-standing was c.args.adopts (sym c.is_some.ensures
    ∙ c.if-is_some.true))

pub returns : goal.returns
returns c = λ start xs was. c.in_ok-implied.ensures
    ∙ ap (λ l. schema_for c.args.adopts (roots_in (map schema_extension_part l))
    (held_roots c.args.self.now.types)) c.as_slice.ensures ∙ implied-held was c.args.adopts
    (none-of c.args.self.now.schema_definition (sym c.is_some.ensures ∙ c.if-is_some.false))
