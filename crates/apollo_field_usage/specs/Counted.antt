-- One more of a thing that is counted in a table.
use Rattle.std.specs.Prelude.{ℕ, ◌+◌, Bool, List, Option, None, Some}
use Rattle.graphql_nodes.specs.Tables.{lookup, set_value, insert_entry}

module _ {K : Type 0} (same : K → K → Bool) where
  -- the table where k comes once more than this often
  abbrev pub raised : List (K × ℕ) → K → Option ℕ → List (K × ℕ)
  raised es k None = insert_entry same es k 1
  raised es k (Some times) = set_value (same k) es (times + 1)

  -- the table where k comes once more
  abbrev pub counted : List (K × ℕ) → K → List (K × ℕ)
  counted es k = raised es k (lookup (same k) es)
