-- What it is, its name, and the other brace.
use Rattle.std.proofs.Common.{codes, option_map, string_bytes}
use Rattle.serde_json.specs.Data.{string}
use Rattle.apollo_reporting.specs.FaultData.{text_data}
use Rattle.apollo_reporting.proofs.JsonLemmas.{pair_written}
use Rattle.apollo_reporting.proofs.json_values.push_definition.Goals as goal

pub returns : goal.returns
returns c = pair_written (codes "kind", string c.args.kind.now)
    (codes "name", text_data (option_map (λ name. name.now) c.args.name)) (string_bytes c.args.text.now) _
    _ _ _
    c.in_ok-push_string_member.ensures c.in_ok-push_key.ensures c.in_ok-push_text.ensures
    c.in_ok-push_str.ensures.bytes
