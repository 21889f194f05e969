use Rattle.apollo_coordinate.proofs.FormatLemmas.{directive_argument_answers}
use Rattle.apollo_coordinate.proofs.directive_argument_coordinate.DirectiveArgumentCoordinate.from_str.Goals as goal

pub returns : goal.returns
returns c =
    let all = directive_argument_answers c.args.text.now _ _ c.read.ensures.says c.read.ensures.refused
    c.answered.ensures in
    record { says = all.0; refused = all.1; format = all.2 }
