use Rattle.std.specs.Prelude.{◌≡◌, ℕ, Bool, List, Option}
use Rattle.std.specs.Borrow.{LendsSo, MutBor, Fml}
use Rattle.std.specs.HashMap.Lent.{HashMembers}
use Rattle.graphql_nodes.specs.Tables.{set_value, set_value_at}
use Rattle.graphql_nodes.specs.contracts.collections.table.Table.{the_row}
use Rattle.graphql_nodes.specs.contracts.collections.table.few_entries.FewEntries as few
use denote.RattleType.{RattleType}

-- once the borrow r ends, the key that passes the test has the last value written; at `None` the table is
-- unchanged
abbrev pub LendsEntry : (K V : RattleType) → HashMembers K.Denot → MutBor (List (K.Denot × V.Denot))
    → (K.Denot → Bool) → Option (MutBor V.Denot) → Fml
LendsEntry K V key t test r =
    LendsSo (the_row K V (record { eq = key.eq }) (record { hash_input = key.hash_input })) V t r (λ n w. n
    ≡ set_value test t.now w) (λ n. n ≡ t.now)

-- once the borrow r ends, the entry at the place has the last value written; at `None` the table is unchanged
abbrev pub LendsPlace : (K V : RattleType) → HashMembers K.Denot → MutBor (List (K.Denot × V.Denot)) → ℕ
    → Option (MutBor V.Denot) → Fml
LendsPlace K V key t place r =
    LendsSo (the_row K V (record { eq = key.eq }) (record { hash_input = key.hash_input })) V t r (λ n w. n
    ≡ set_value_at t.now place w) (λ n. n ≡ t.now)

-- the same of few entries, which are found by comparing alone
module _ (K V : RattleType) (key : record { eq : K.Denot → K.Denot → Bool }) where
  abbrev few_row : RattleType
  few_row = few.the_row K V (record { eq = key.eq })

  abbrev pub LendsFewEntry : MutBor (List (K.Denot × V.Denot)) → (K.Denot → Bool) → Option (MutBor V.Denot)
      → Fml
  LendsFewEntry t test r = LendsSo few_row V t r (λ n w. n ≡ set_value test t.now w) (λ n. n ≡ t.now)

  abbrev pub LendsFewPlace : MutBor (List (K.Denot × V.Denot)) → ℕ → Option (MutBor V.Denot) → Fml
  LendsFewPlace t place r = LendsSo few_row V t r (λ n w. n ≡ set_value_at t.now place w) (λ n. n ≡ t.now)
