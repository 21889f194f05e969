-- At the end each character of the text was written.
use Rattle.std.proofs.Common.{◌≡◌, ℕ, flat_map, sym, ap, ◌∙◌, map-id}
use Rattle.std.specs.Prelude.{encode_utf8}
use Rattle.std.proofs.Output.{has_written_of_eq}
use Rattle.std.proofs.lemmas.Iterator.{YieldsList-from_chars}
use Rattle.std.proofs.lemmas.Iterator.Consumers.{YieldsList-end}
use Rattle.graphql_nodes.specs.VisibleTexts.{visible, visible_char}
use Rattle.graphql_nodes.proofs.visible_text.write_visible.Goals as goal

pub returns : goal.returns
unfolding visible
returns g c = λ plain _.
    let text = c.args.text.now in
    let end = YieldsList-end (YieldsList-from_chars text c.utf8.text cc) c.loop-character.yielded _
    c.loop-character.yielded_by _ _ c.in-None.is c.next.ensures.steps in
    let whole : flat_map (λ (x : ℕ). encode_utf8 (visible_char x)) c.loop-character.yielded ≡ visible text =
    ap (flat_map (λ (x : ℕ). encode_utf8 (visible_char x))) (sym (map-id c.loop-character.yielded)
    ∙ end.0) in
    has_written_of_eq _ _ _ _ _ whole (c.loop-character.invariant plain)
