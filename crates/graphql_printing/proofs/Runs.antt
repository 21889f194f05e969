-- A text is written in runs: bytes that stand for themselves wait, up to one that doesn't.
use Rattle.std.proofs.Common.{◌≡◌, ℕ, ◌+◌, ◌-◌, ◌<◌, ◌≤◌, List, ◌∷◌, ◌++◌, length, get_or, take, drop, arith}
use Rattle.std.proofs.Common.{append_assoc, length-drop, get_or-drop}
use Rattle.std.proofs.lemmas.List.{take_more}

whole_of : (start i : ℕ) → start ≤ i → start + (i - start) ≡ i
whole_of start i low = omega arith

-- a byte that stands for itself joins those that aren't written yet
pub kept : (s done total rest then : List ℕ) (start i : ℕ) → start ≤ i → i < length s
    → rest ≡ get_or s i 0 ∷ then → done ++ (take (i - start) (drop start s) ++ rest) ≡ total
    → done ++ (take (i + 1 - start) (drop start s) ++ then) ≡ total
kept s done total rest then start i low within is whole =
    let at : get_or (drop start s) (i - start) 0 ≡ get_or s i 0 =
    rw (get_or-drop start s _ 0, whole_of start i low) in
    let more = take_more (drop start s) (i - start) 0 (omega (arith, length-drop start s)) in
    let next : i + 1 - start ≡ i - start + 1 = omega arith in
    rw (next, more, at) (simp append_assoc (rw is at whole))

-- those are written, and something in place of the bytes up to the next
pub replaced : (s done total rest text then : List ℕ) (start i next : ℕ) → rest ≡ text ++ then
    → done ++ (take (i - start) (drop start s) ++ rest) ≡ total
    → (done ++ (take (i - start) (drop start s) ++ text)) ++ (take (next - next) (drop next s) ++ then)
    ≡ total
replaced s done total rest text then start i next is whole =
    let none : next - next ≡ 0 = omega arith in
    rw none (simp append_assoc (rw is at whole))

-- those are written, and something before the next, so many of which wait
pub replaced_before : (s done total rest text then : List ℕ) (start i more : ℕ)
    → rest ≡ text ++ (take more (drop i s) ++ then)
    → done ++ (take (i - start) (drop start s) ++ rest) ≡ total
    → (done ++ (take (i - start) (drop start s) ++ text)) ++ (take (i + more - i) (drop i s) ++ then) ≡ total
replaced_before s done total rest text then start i more is whole =
    let so_many : i + more - i ≡ more = omega arith in
    rw so_many (simp append_assoc (rw is at whole))
