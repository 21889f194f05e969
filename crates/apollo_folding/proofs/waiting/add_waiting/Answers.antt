use Rattle.apollo_meaning.proofs.Prelude.{◌≡◌, [], ◌∷◌, ◌++◌, Some, None, is_some, sym, ap, ◌∙◌}
use Rattle.apollo_meaning.proofs.Prelude.{if◌then◌else◌, rules, keys_of, lookup, set_value, keys-set_value}
use Rattle.apollo_meaning.proofs.Prelude.{option_copied_mut, insert_entry, same_text, by_text, items_held}
use Rattle.apollo_folding.proofs.HeldLemmas.{held-write_more, held-put}
use Rattle.apollo_folding.proofs.NameTables.{keys-put}
use Rattle.apollo_folding.proofs.waiting.add_waiting.Goals as goal

pub returns-in-Some-clause-waits : goal.returns-in-Some-clause-waits
returns-in-Some-clause-waits c = λ n.
    let m = c.args.name.now.text in
    let es = c.args.waiting.now in
    let v = c.in-Some.extensions.now in
    let x = c.args.extension.now in
    let there : lookup (by_text m) es ≡ Some v = sym c.get_mut.ensures.value
    ∙ ap option_copied_mut c.in-Some.is in
    let copy : c.in_ok-clone.field-0 ≡ x = search rules in
    ap (λ l. items_held (lookup (by_text n) l)) (c.get_mut.follows.holds c.push.new.self)
    ∙ ap (λ w. items_held (lookup (by_text n) (set_value (by_text m) es w))) (c.in_ok-push.ensures.ok
    ∙ ap (λ d. v ++ d ∷ []) copy) ∙ held-write_more n m es v there x

pub returns-clause-waits : goal.returns-clause-waits
returns-clause-waits c = λ n.
    let es = c.args.waiting.now in
    let x = c.args.extension.now in
    let none : lookup (by_text c.args.name.now.text) es ≡ None = sym c.get_mut.ensures.value
    ∙ ap option_copied_mut c.in_default.is in
    let copy : c.in_ok-clone-2.field-0 ≡ x = search rules in
    let name : c.in_ok-clone-3.field-0 ≡ c.args.name.now = search rules in
    let list : c.push-2.new.self ≡ x ∷ [] = c.in_ok-push-2.ensures.ok
    ∙ ap (λ l. l ++ c.in_ok-clone-2.field-0 ∷ []) c.new-extensions.ensures ∙ ap (λ d. d ∷ []) copy in
    let h = c.get_mut.follows.holds-at-none in
    ap (λ l. items_held (lookup (by_text n) l)) c.in_ok-insert.ensures.entries
    ∙ (λ i. items_held (lookup (by_text n) (insert_entry same_text (h i) (name i) (list i))))
    ∙ held-put n es c.args.name.now x none

pub returns-in-Some-clause-names : goal.returns-in-Some-clause-names
returns-in-Some-clause-names c =
    let m = c.args.name.now.text in
    let es = c.args.waiting.now in
    let there : lookup (by_text m) es ≡ Some c.in-Some.extensions.now = sym c.get_mut.ensures.value
    ∙ ap option_copied_mut c.in-Some.is in
    ap keys_of (c.get_mut.follows.holds c.push.new.self) ∙ keys-set_value (by_text m) es c.push.new.self
    ∙ ap (λ o. if is_some o then keys_of es else keys_of es ++ c.args.name.now ∷ []) (sym there)

pub returns-clause-names : goal.returns-clause-names
returns-clause-names c =
    let es = c.args.waiting.now in
    let none : lookup (by_text c.args.name.now.text) es ≡ None = sym c.get_mut.ensures.value
    ∙ ap option_copied_mut c.in_default.is in
    let name : c.in_ok-clone-3.field-0 ≡ c.args.name.now = search rules in
    let h = c.get_mut.follows.holds-at-none in
    ap keys_of (c.in_ok-insert.ensures.entries
    ∙ (λ i. insert_entry same_text (h i) (name i) c.push-2.new.self))
    ∙ keys-put es c.args.name.now c.push-2.new.self (ap is_some none)
    ∙ ap (λ o. if is_some o then keys_of es else keys_of es ++ c.args.name.now ∷ []) (sym none)
