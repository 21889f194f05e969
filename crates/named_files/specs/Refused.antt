-- Why names stand for no file, by their paths.
use Rattle.std.specs.Prelude.{ℕ, List, Option, None, Some, if◌then◌else◌, string_bytes}
use Rattle.std.specs.List.{fold}
use Rattle.std.specs.Str.{bytes_eq}
use Rattle.named_files.specs.declared.found.Found.{Found}
use Rattle.named_files.specs.declared.refusal.Refusal.{Refusal}

-- the refusal of this name, or else the one that was there
abbrev pub refusal_or : Option Refusal → Option Refusal → Option Refusal
refusal_or None before = before
refusal_or (Some refusal) before = Some refusal

-- the refusal of a path, where it was this one before one more name
abbrev pub after_one : Found → List ℕ → Option Refusal → Option Refusal
after_one one path before = if bytes_eq (string_bytes one.path) path then refusal_or one.refusal before
    else before

-- the refusal of a path, where it was this one before these names
abbrev pub refusal_at : List Found → List ℕ → Option Refusal → Option Refusal
refusal_at named path before = fold (λ refusal one. after_one one path refusal) before named
