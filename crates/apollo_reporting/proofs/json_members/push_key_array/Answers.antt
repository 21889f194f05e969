-- A bracket, the first key, the others and the other bracket.
use Rattle.std.proofs.Common.{◌≡◌, ◌∷◌, ◌∙◌, ◌-◌, ◌<◌, ◌≤◌, List, ap, arith, drop, drop-cons, length, length-drop}
use Rattle.std.proofs.Common.{string_bytes, sym}
use Rattle.std.proofs.lemmas.List.{take_all}
use Rattle.graphql_nodes.specs.NameView.{NameView}
use Rattle.apollo_reporting.proofs.JsonLemmas.{keys_written}
use Rattle.apollo_reporting.proofs.json_members.push_key_array.Goals as goal

pub returns-in_ok-push_str-in-len1-up-2 : goal.returns-in_ok-push_str-in-len1-up-2
returns-in_ok-push_str-in-len1-up-2 c =
    let keys = c.args.keys.now in
    let first = c.first-item.result in
    let some : 0 < length keys = let h = c.in-len1-up.len_at_least in omega (arith, h) in
    let are : keys ≡ first ∷ drop 1 keys = drop-cons keys 0 first some
    ∙ ap (λ (key : NameView). key ∷ drop 1 keys) (sym c.first-item.is) in
    let short : length (drop 1 keys) ≤ length keys - 1 = omega (arith, length-drop 1 keys) in
    let rest = take_all (length keys - 1) (drop 1 keys) short in
    keys_written keys (drop 1 keys) first c.as_str.result.now (string_bytes c.args.text.now) _ _ _ _ are
    c.as_str.ensures c.in_ok-push_str-in-len1-up.ensures.bytes c.in_ok-push_string-in-len1-up.ensures
    (rw rest at c.in_ok-push_keys-in-len1-up.ensures) c.in_ok-push_str-in-len1-up-2.ensures.bytes
