-- Answers to what is equal.
use Rattle.std.proofs.Common.{◌≡◌, ℕ, List, Option, None, Some, map, refl, subst, sym}
use Rattle.std.proofs.lemmas.List.{take-map}
use Rattle.peglinden_words.specs.declared.request.Reporting.{Reporting}
use Rattle.peglinden_run.specs.declared.answer.Answer.{Answer}
use Rattle.peglinden_run.specs.declared.form.Form.{Form}
use Rattle.peglinden_run.specs.declared.printed.Printed.{Printed}
use Rattle.peglinden_run.specs.declared.printed.Tally.{Tally}
use Rattle.peglinden_run.specs.Findings.{Found, IsAnswerOf, at_most}
use Rattle.peglinden_run.specs.FormatCommand.{IsCheckShown}

-- of as many files, with the same faults and output
pub answer-as : (reporting : Reporting) (files files₂ : ℕ) (found found₂ : Found) (output output₂ : List ℕ)
    (answer : Answer) → files ≡ files₂ → found ≡ found₂ → output ≡ output₂
    → IsAnswerOf reporting files found output answer → IsAnswerOf reporting files₂ found₂ output₂ answer
answer-as reporting files files₂ found found₂ output output₂ answer counts founds outputs is =
    subst (λ (n : ℕ). IsAnswerOf reporting n found₂ output₂ answer) counts
    (subst (λ (f : Found). IsAnswerOf reporting files f output₂ answer) founds
    (subst (λ (o : List ℕ). IsAnswerOf reporting files found o answer) outputs is))

-- of as many files that differ, of which the same is said
pub check-shown-as : (form : Form) (tally tally₂ : Tally) (said said₂ : List ℕ) (printed : Printed)
    → tally ≡ tally₂ → said ≡ said₂ → IsCheckShown form tally said printed
    → IsCheckShown form tally₂ said₂ printed
check-shown-as form tally tally₂ said said₂ printed tallies saids is =
    subst (λ (t : Tally). IsCheckShown form t said₂ printed) tallies
    (subst (λ (l : List ℕ). IsCheckShown form tally l printed) saids is)

-- of the first of some things the first of what each gives
pub at_most-map : {A B : Type 0} (f : A → B) (most : Option ℕ) (xs : List A)
    → map f (at_most most xs) ≡ at_most most (map f xs)
at_most-map f None xs = refl
at_most-map f (Some most) xs = sym (take-map f most xs)
