-- Paths that were seen.
use Rattle.std.specs.Prelude.{◌≡◌, ℕ, List, String}
use Rattle.std.specs.BTreeSet.{BTreeSet, contains_text}
use Rattle.std.specs.declared.alloc.Global.{Global}
use Rattle.named_files.specs.Naming.{is_named}
use Rattle.named_files.specs.declared.found.Found.{Found}

-- the set has the paths of these
abbrev pub Tracks : BTreeSet (String Global) → List Found → Type 0
Tracks seen named = (path : List ℕ) → contains_text seen path ≡ is_named path named
