use Rattle.std.proofs.Common.{◌≡◌, ◌+◌, ◌*◌, ℕ, List, drop, get_or, min, ap, sym, ◌∙◌, arith}
use Rattle.std.proofs.lemmas.Grind.{common_steps}
use Rattle.std.proofs.lemmas.List.{drop_more}
use Rattle.graphql_tokens.specs.Strings.{hex_digit, hex_number}
use Rattle.graphql_tokens.proofs.HexLemmas.{saturated}
use Rattle.graphql_tokens.proofs.strings.hex_number.Goals as goal

-- one digit more
pub loop-byte-preserved : goal.loop-byte-preserved
loop-byte-preserved c =
    let i = c.loop-byte.byte-index in
    let text = c.args.digits.now in
    let old = c.loop-byte.number in
    let here = drop_more text i 0 c.loop-byte-test.true in
    let next : c.min-number.result ≡ min (old * 16 + hex_digit (get_or text i 0)) 1114112 =
    grind (arith, common_steps) in
    record {
      small = grind (arith, common_steps);
      whole = ap (λ (n : ℕ). min (hex_number n (drop (i + 1) text)) 1114112) next
          ∙ saturated (old * 16 + hex_digit (get_or text i 0)) (drop (i + 1) text)
          ∙ sym (ap (λ (cs : List ℕ). min (hex_number old cs) 1114112) here) ∙ c.loop-byte.invariant.whole;
    }
