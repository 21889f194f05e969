use Rattle.apollo_meaning.proofs.Prelude.{◌≡◌, ap, ◌∙◌, rules, source_at}
use Rattle.std.proofs.lemmas.List.Elements.{same_from_all_zip}
use Rattle.apollo_folding.proofs.fold.FoldClone.clone.Goals as goal

pub returns : goal.returns
returns c =
    let f = c.args.self.now in
    let ids : c.starting_at.result ≡ f.ids = c.starting_at.ensures ∙ ap source_at c.next_number.ensures in
    let faults : c.in_ok-clone.field-0 ≡ f.faults = same_from_all_zip _ f.faults c.in_ok-clone.field-0
    c.in_ok-clone.ensures.cases (λ x y h. search rules) in
    record { cases = λ i. record { alloc = f.alloc; keys = f.keys; ids = ids i; faults = faults i } }
