-- The sink says how wide the text is that was written to it.
use Rattle.std.proofs.Common.{◌∙◌, nat_lt, ap, rules}
use Rattle.graphql_printing.specs.declared.widths.Width.{Width}
use Rattle.graphql_printing.proofs.WidthLemmas.{long_is}
use Rattle.graphql_printing.proofs.fields.is_long.Goals as goal

pub returns : goal.returns
returns c =
    let none = ap (λ (w : Width). w.units) c.new-f.ensures.writer in
    let written = c.write_short_head.ensures c.new-f.ensures.plain (search rules) in
    ap (λ (w : Width). nat_lt 80 w.units) c.into_inner-width.ensures ∙ long_is _ _ _ none written
