-- What is built of two lists is the same, but for an order. GraphQL specification of October 2021, sections
-- 3 and 3.4.3.
use Rattle.std.specs.Prelude.{◌≡◌, ℕ, Bool, List}
use Rattle.std.specs.List.Sorted.{IsPermutation}
use Rattle.apollo_meaning.specs.Faults.Collisions.{Fault}
use Rattle.apollo_meaning.specs.Items.ListItems.{Added}
use Rattle.apollo_schema.specs.Built.{IsFaultless, IsFoundIn, IsMeant}
pub use Rattle.apollo_schema.specs.BuilderStands.{Building, StandsFor}
use Rattle.apollo_schema.specs.EqualSchemas.{AreEqualSchemas}
pub use Rattle.apollo_schema.specs.MeantSchema.{MeansSchema}
use Rattle.apollo_schema.specs.declared.schema.Schema.{Schema}

-- the schemas that two lists mean are equal, whatever numbers their extensions get
abbrev pub MeanEqualSchemas : Bool → List Added → List Added → Type 0
MeanEqualSchemas adopts xs ys = (start other : ℕ) (s t : Schema) → MeansSchema start adopts xs s
    → MeansSchema other adopts ys t → AreEqualSchemas s t

-- builders with one setting of adoption, of which one stands for the first list and the other for the second
pub record StandFor (xs ys : List Added) (b c : Building) : Type 0 where
  -- the number of the first list's first extension
  pub start : ℕ
  -- the number of the second list's first extension
  pub other : ℕ
  pub first : StandsFor start xs b
  pub second : StandsFor other ys c
  pub one_setting : b.adopts ≡ c.adopts

-- the schemas that these builders are built to are equal
abbrev pub BuildEqualSchemas : Building → Building → Type 0
BuildEqualSchemas b c = (s t : Schema) → IsMeant b s → IsMeant c t → AreEqualSchemas s t

-- where they find faults, these are the same, with locations, in some order, and what could be built is equal
abbrev pub BuildSameFaults : Building → Building → Type 0
BuildSameFaults b c = (s t : Schema) (faults others : List Fault) → IsFoundIn b s faults
    → IsFoundIn c t others → IsPermutation faults others × AreEqualSchemas s t

-- where the first is without fault, none are found in the second
abbrev pub BuildFaultlessTogether : Building → Building → Type 0
BuildFaultlessTogether b c = IsFaultless b → (t : Schema) (others : List Fault) → IsFoundIn c t others → ⊥
