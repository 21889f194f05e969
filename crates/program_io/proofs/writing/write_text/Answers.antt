use Rattle.std.proofs.Common.{◌≡◌, ℕ, ◌-◌, List, ◌++◌, length, take, drop, sym, ap, ◌∙◌, take-append-drop}
use Rattle.std.proofs.lemmas.List.{take_rest}
use Rattle.program_io.proofs.WritingLemmas.{goes-further}
use Rattle.program_io.proofs.writing.write_text.Goals as goal

-- a text is what was taken of it, and what is left then
taken : (text : List ℕ) (n : ℕ) → text ≡ take n text ++ take (length text - n) (drop n text)
taken text n = sym (take-append-drop n text) ∙ ap (λ l. take n text ++ l) (sym (take_rest text n))

pub loop-left-preserved : goal.loop-left-preserved
loop-left-preserved g c =
    let left = c.loop-left.left.now in
    let n = c.in_ok-count.count in
    goes-further c.args.text.now (g.O.Write.contents c.args.output.now)
    (g.O.Write.contents c.loop-left.output) (g.O.Write.contents c.write_some.new.output) left
    (take (length left - n) (drop n left)) c.loop-left.invariant
    (take n left, (c.in_ok-count.ensures.bytes, taken left n))
