-- How the members of an object are written, one behind the other.
use Rattle.std.specs.Prelude.{ℕ, List, ◌++◌, codes}
use Rattle.std.specs.List.{flat_map}
use Rattle.serde_json.specs.Data.{Data, string}
use Rattle.serde_json.specs.Written.{compact_text}
use Rattle.apollo_reporting.specs.FaultData.{Member}

-- a name with its colon, behind a sign
unfoldable pub key_text : List ℕ → List ℕ → List ℕ
key_text sign key = sign ++ (compact_text (string key) ++ codes ":")

-- the text of a value
unfoldable pub data_text : Data → List ℕ
data_text d = compact_text d

-- a member behind a sign: `{` before the first, and a comma before each other
abbrev pub member_text : List ℕ → Member → List ℕ
member_text sign m = key_text sign m.0 ++ data_text m.1

-- members, each behind a comma
abbrev pub members_behind : List Member → List ℕ
members_behind members = flat_map (member_text (codes ",")) members

-- values, each behind a comma
abbrev pub items_behind : List Data → List ℕ
items_behind items = flat_map (λ d. codes "," ++ data_text d) items
