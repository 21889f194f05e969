-- At the end each character of the text was added.
use Rattle.std.proofs.Common.{◌≡◌, ◌++◌, ℕ, List, flat_map, sym, ap, ◌∙◌, map-id, string_bytes}
use Rattle.std.proofs.lemmas.Iterator.{YieldsList-from_chars}
use Rattle.std.proofs.lemmas.Iterator.Consumers.{YieldsList-end}
use Rattle.apollo_reporting.specs.GithubCommands.{escaped, escaped_char}
use Rattle.apollo_reporting.proofs.github.push_characters.Goals as goal

pub returns : goal.returns
unfolding escaped
returns c =
    let value = c.args.value.now in
    let end = YieldsList-end (YieldsList-from_chars value c.utf8.value cc) c.loop-character.yielded _
    c.loop-character.yielded_by _ _ c.in-None.is c.next.ensures.steps in
    let whole : flat_map (escaped_char c.args.in_property) c.loop-character.yielded
    ≡ escaped c.args.in_property value =
    ap (flat_map (escaped_char c.args.in_property)) (sym (map-id c.loop-character.yielded) ∙ end.0) in
    c.loop-character.invariant ∙ ap (λ (l : List ℕ). string_bytes c.args.text.now ++ l) whole
