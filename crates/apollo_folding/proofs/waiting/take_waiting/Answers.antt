use Rattle.apollo_meaning.proofs.Prelude.{◌≡◌, [], Some, sym, ap, ◌∙◌, keys_of, lookup, set_value}
use Rattle.apollo_meaning.proofs.Prelude.{keys-set_value, option_copied_mut, by_text, items_held}
use Rattle.apollo_folding.proofs.HeldLemmas.{held-write}
use Rattle.apollo_folding.proofs.waiting.take_waiting.Goals as goal

pub returns-in-Some-clause-left : goal.returns-in-Some-clause-left
returns-in-Some-clause-left c = λ n.
    let m = c.args.name.now.text in
    let es = c.args.waiting.now in
    let there : lookup (by_text m) es ≡ Some c.in-Some.extensions.now = sym c.get_mut.ensures.value
    ∙ ap option_copied_mut c.in-Some.is in
    ap (λ l. items_held (lookup (by_text n) l)) (c.get_mut.follows.holds c.replace.new.dest)
    ∙ ap (λ w. items_held (lookup (by_text n) (set_value (by_text m) es w))) (c.replace.ensures.after
    ∙ c.new.ensures) ∙ held-write n m es c.in-Some.extensions.now there []

pub returns-in-Some-clause-names : goal.returns-in-Some-clause-names
returns-in-Some-clause-names c = ap keys_of (c.get_mut.follows.holds c.replace.new.dest)
    ∙ keys-set_value (by_text c.args.name.now.text) c.args.waiting.now c.replace.new.dest
