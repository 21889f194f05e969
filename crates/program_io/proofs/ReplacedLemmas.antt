-- A file more that was replaced.
use Rattle.std.proofs.Common.{◌≡◌, List, [], ◌∷◌, ◌++◌, refl, ap, string_bytes}
use Rattle.std.specs.declared.alloc.Global.{Global}
use Rattle.std.specs.Prelude.{String}
use Rattle.program_io.specs.Replaced.{as_bytes}

-- a pair more at the end
pub pair_more : (pairs : List (String Global × String Global)) (pair : String Global × String Global)
    → as_bytes (pairs ++ pair ∷ []) ≡ as_bytes pairs ++ (string_bytes pair.0, string_bytes pair.1) ∷ []
pair_more [] pair = refl
pair_more (p ∷ pairs) pair = ap (λ l. (string_bytes p.0, string_bytes p.1) ∷ l) (pair_more pairs pair)
