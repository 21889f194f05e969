-- What is kept is a name, so a word of the same text is one.
use Rattle.std.proofs.Common.{◌≡◌, rules, subst}
use Rattle.graphql_nodes.specs.NameSyntax.{IsName}
use Rattle.bench_notation.proofs.NameWords.{not_no_name}
use Rattle.bench_notation.proofs.names.Names.shared.Goals as goal

pub returns-in_ok-clone-in-Some-place-clause-name : goal.returns-in_ok-clone-in-Some-place-clause-name
returns-in_ok-clone-in-Some-place-clause-name c =
    let same : c.in-Some-place.kept.name.text ≡ c.args.word.now = search rules in
    subst IsName same (not_no_name c.in-Some-place.kept.name.text c.in-Some-place.kept.is_name)
