-- A text may be cut behind an ASCII character.
use Rattle.std.proofs.Common.{◌≡◌, ◌∙◌, ◌<◌, ℕ, List, ap, arith, get_or, length, sym}
use Rattle.std.proofs.lemmas.Str.{IsCharBoundary-after_ascii}
use Rattle.bench_notation.proofs.words.after.Goals as goal

pub range_from-requires : goal.range_from-requires
range_from-requires c =
    let byte : get_or c.as_bytes.result.now 0 0 ≡ get_or c.args.text.now 0 0 =
    ap (λ (l : List ℕ). get_or l 0 0) c.as_bytes.ensures.value in
    let within : 0 < length c.args.text.now =
    omega (arith, c.in-len1-up.len_at_least, ap length c.as_bytes.ensures.value) in
    λ _. IsCharBoundary-after_ascii c.args.text.now 0 c.utf8.text within
    (omega (arith, sym byte ∙ c.if-byte-first.true, c.requires))
