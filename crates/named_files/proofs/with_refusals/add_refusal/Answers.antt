use Rattle.std.proofs.Common.{Some, ap, cond, string_bytes, sym, ◌∙◌}
use Rattle.std.specs.BTreeMap.{get_by_text}
use Rattle.std.specs.Str.{bytes_eq}
use Rattle.std.proofs.lemmas.Map.Text.{btree_map_updates_text}
use Rattle.named_files.specs.Refused.{refusal_or}
use Rattle.named_files.proofs.with_refusals.add_refusal.Goals as goal

pub returns : goal.returns
returns c = λ path.
    let before = get_by_text c.args.refused.now path in
    btree_map_updates_text (string_bytes c.in_ok-path.path) c.args.refused.now c.insert.new.self
    (Some c.in-Some.refusal) c.in_ok-insert.ensures.updates path
    ∙ ap (λ key. cond (bytes_eq key path) (Some c.in-Some.refusal) before) c.in_ok-path.ensures.cases
    ∙ ap (λ refusal. cond (bytes_eq (string_bytes c.args.one.now.path) path) (refusal_or refusal before)
    before)
    (sym c.in-Some.is)
