-- What may nest stands one deeper.
use Rattle.std.proofs.Common.{subst}
use Rattle.graphql_grammar.specs.Pieces.{Gives}
use Rattle.graphql_grammar.specs.Standing.{standing}
use Rattle.graphql_productions.specs.Types.{list_type_of, type}
use Rattle.graphql_productions.proofs.NestedLemmas.{one_list_type}
use Rattle.graphql_text.specs.declared.reading.target.Target.{Target}
use Rattle.graphql_text.proofs.reading.types.+type_reference.Goals as goal

pub nested_list_type-returns : goal.nested_list_type-returns
nested_list_type-returns t c =
    let at = c.args.target in
    let (opens, one_less) = c.in_ok-inside.ensures in
    rw (one_list_type at.file at.depth (standing c.args.words.now) opens)
    (subst (λ (inside : Target). Gives c.list_type.result (standing c.list_type.new.words)
    ((list_type_of (type inside.file inside.depth)).read (standing c.args.words.now))) one_less
    c.list_type.ensures)
