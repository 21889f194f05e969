-- The root, the keys, and the other brace.
use Rattle.std.proofs.Common.{◌≡◌, ◌++◌, ◌∙◌, List, ℕ, ap, append_assoc, codes, string_bytes}
use Rattle.graphql_nodes.specs.NameView.{NameView}
use Rattle.apollo_reporting.specs.FaultData.{key_array, root_data}
use Rattle.apollo_reporting.specs.MemberTexts.{data_text, key_text, member_text}
use Rattle.apollo_reporting.proofs.JsonLemmas.{pair_written}
use Rattle.apollo_reporting.proofs.json_members.push_steps.Goals as goal

pub returns : goal.returns
returns c =
    let old = string_bytes c.args.text.now in
    let path = c.args.path.now in
    let middle = string_bytes c.push_key-2.new.text in
    let root : string_bytes c.push_root.new.text ≡ old ++ member_text (codes "{")
    (codes "root", root_data path.root) = c.in_ok-push_root.ensures
    ∙ ap (λ (t : List ℕ). t ++ data_text (root_data path.root)) c.in_ok-push_key.ensures
    ∙ append_assoc old (key_text (codes "{") (codes "root")) (data_text (root_data path.root)) in
    let keys : string_bytes c.push_key_array.new.text ≡ middle ++ data_text (key_array path.nested_fields) =
    c.in_ok-push_key_array.ensures
    ∙ ap (λ (ks : List NameView). middle ++ data_text (key_array ks)) c.as_slice.ensures in
    pair_written (codes "root", root_data path.root) (codes "keys", key_array path.nested_fields) old _ _ _ _
    root c.in_ok-push_key-2.ensures keys c.in_ok-push_str.ensures.bytes
