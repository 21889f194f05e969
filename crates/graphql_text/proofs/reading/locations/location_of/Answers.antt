use Rattle.graphql_productions.proofs.LocationLemmas.{by_name}
use Rattle.graphql_text.proofs.reading.locations.location_of.Goals as goal

pub returns : goal.returns
returns c = by_name c.from_name.result c.args.text.now c.from_name.ensures
