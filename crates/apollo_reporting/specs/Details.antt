-- Details of faults: what JSON has of them under names of their own.
use Rattle.std.specs.Prelude.{ℕ, List, [], ◌∷◌, Option, Some}
use Rattle.graphql_nodes.specs.declared.source.SourceSpan.{SourceSpan}
use Rattle.apollo_reporting.specs.declared.detail.Detail.{Detail}
use Rattle.apollo_reporting.specs.declared.detail.DetailValue.TheVariants.{Place, Words}

-- a text under a name, where there is one
abbrev pub optional_text : List ℕ → Option (List ℕ) → Detail
optional_text name text = record { name = name; value = Words text }

-- a text under a name
abbrev pub text_detail : List ℕ → List ℕ → Detail
text_detail name text = optional_text name (Some text)

-- a place under a name, where it is known
abbrev pub place_detail : List ℕ → Option SourceSpan → Detail
place_detail name location = record { name = name; value = Place location }

-- one text under a name, and nothing else
abbrev pub one_text : List ℕ → List ℕ → List Detail
one_text name text = text_detail name text ∷ []

-- two texts, each under its name
abbrev pub two_texts : List ℕ → List ℕ → List ℕ → List ℕ → List Detail
two_texts first one second other = text_detail first one ∷ text_detail second other ∷ []
