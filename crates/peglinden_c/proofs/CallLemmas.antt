-- What comes of calls, and what they put behind handles.
use Rattle.std.proofs.Common.{◌≡◌, ℕ, ℤ, pos, List, [], ◌∷◌, Option, None, Some, Result, Ok, Err, MatchResult}
use Rattle.std.proofs.Common.{◌⊎◌, ap, inl, inr, map, refl, subst, sym}
use Rattle.std.specs.Borrow.{Bor}
use Rattle.std.specs.Cmp.Lexicographic.{pointwise}
use Rattle.std.specs.Prelude.{cond, nat_eq}
use Rattle.program_io.specs.Files.{bytes_at}
use Rattle.program_io.specs.declared.status.Status.{Status}
use Rattle.program_io.specs.declared.status.Status.TheVariants as s
use Rattle.peglinden_words.specs.declared.request.Request.{Request}
use Rattle.peglinden_run.specs.Requests.{IsAnswerTo, IsCauseTo}
use Rattle.peglinden_run.specs.Status.{status_of}
use Rattle.peglinden_run.specs.declared.answer.Answer.{Answer}
use Rattle.peglinden_run.specs.declared.failure.Failure.{Failure}
use Rattle.peglinden_c.specs.Answers.{ComesOf, Holds, IsAnswered, IsMade, KeepsAnswer, KeepsRefusal, Lacks}
use Rattle.peglinden_c.specs.Files.{in_memory, text_at}
use Rattle.peglinden_c.specs.Kept.{HoldsAnswer, IsCall, IsOpening, IsPut, said_of, said_of_refusal}
use Rattle.peglinden_c.specs.declared.answered.Answered.{Answered}
use Rattle.peglinden_c.specs.declared.held.Held.{Held}
use Rattle.peglinden_c.specs.declared.refusal.Refusal.{Refusal}
use Rattle.peglinden_c.specs.declared.refusal.Refusal.TheVariants as refusals

-- files in memory have the texts that their paths and texts say
pub bytes_at-in_memory : (files : List (Bor (List ℕ) × Bor (List ℕ))) (path : List ℕ)
    → bytes_at files path ≡ text_at (in_memory files) path
bytes_at-in_memory [] path = refl
bytes_at-in_memory (file ∷ files) path =
    ap (cond (pointwise nat_eq file.0.now path) (Some file.1.now)) (bytes_at-in_memory files path)

-- what says where each path leads says so of files in memory too
pub over_memory : (files : List (Bor (List ℕ) × Bor (List ℕ)))
    (Says : (List ℕ → Option (List ℕ)) → Type 0) → Says (bytes_at files) → Says (text_at (in_memory files))
over_memory files Says said = subst Says (λ i path. bytes_at-in_memory files path i) said

-- an answer over files in memory that is kept is what comes of the request
pub comes_of_answer : (files : List (Bor (List ℕ) × Bor (List ℕ))) (request : Request) (answer : Answer)
    (kept : Answered) → IsAnswerTo request (λ path bytes. bytes_at files path ≡ Some bytes) answer
    → KeepsAnswer answer kept → ComesOf request (text_at (in_memory files)) kept
comes_of_answer files request answer kept is keeps =
    inl (answer, (over_memory files (λ text_of. IsAnswerTo request (Holds text_of) answer) is, keeps))

-- and so is why there is none, where that is kept
pub comes_of_failure : (files : List (Bor (List ℕ) × Bor (List ℕ))) (request : Request) (failure : Failure)
    (made : Result Answered Refusal)
    → IsCauseTo request (λ path bytes. bytes_at files path ≡ Some bytes) (λ path. bytes_at files path ≡ None)
    failure
    → MatchResult made (KeepsRefusal failure) (λ why.
    (why ≡ refusals.Exhausted) × (status_of failure ≡ s.Exhausted))
    → MatchResult made (ComesOf request (text_at (in_memory files))) (λ why. why ≡ refusals.Exhausted)
comes_of_failure files request failure (Ok kept) cause keeps = inr (
  failure,
  (
    over_memory files (λ text_of. IsCauseTo request (Holds text_of) (Lacks text_of) failure) cause,
    keeps,
  ),
)
comes_of_failure files request failure (Err why) cause keeps = keeps.0

-- what comes of a request that a call asks for, over the files that are handed over, is right
pub made_of : (IsAsked : Request → Type 0) (MayBeMade : Type 0) (request : Request)
    (files given : List (List ℕ × List ℕ)) (made : Result Answered Refusal)
    → MatchResult made (ComesOf request (text_at files)) (λ why. why ≡ refusals.Exhausted) → files ≡ given
    → IsAsked request → MayBeMade → IsMade (IsAnswered IsAsked (text_at given)) MayBeMade made
made_of IsAsked MayBeMade request files given (Ok kept) comes same asked may = (
  record {
    request = request;
    is_asked = asked;
    comes = subst (λ (fs : List (List ℕ × List ℕ)). ComesOf request (text_at fs) kept) same comes;
  },
  may,
)
made_of IsAsked MayBeMade request files given (Err why) comes same asked may =
    subst (λ (w : Refusal). IsMade (IsAnswered IsAsked (text_at given)) MayBeMade (Err w)) (sym comes) tt

-- a call says of each status that it opened an answer
opening_said : (status : Status) → IsOpening (said_of status)
opening_said s.Done = inl refl
opening_said s.Faults = inr refl
opening_said s.Refused = inr refl
opening_said s.Exhausted = inr refl
opening_said s.NotWritten = inr refl

-- neither 3 nor 6 says that
three_opens_none : (said : ℤ) → said ≡ pos 3 → IsOpening said → ⊥
three_opens_none said three (inl zero) = cc
three_opens_none said three (inr one) = cc

six_opens_none : (said : ℤ) → said ≡ pos 6 → IsOpening said → ⊥
six_opens_none said six (inl zero) = cc
six_opens_none said six (inr one) = cc

three_is_not_six : (said : ℤ) → said ≡ pos 3 → said ≡ pos 6 → ⊥
three_is_not_six said three six = cc

-- a call that opened nothing, since something ran out
ran_out : (IsRight : Answered → Type 0) (MayBeMade : Type 0) (said : ℤ) (old new : Option Held)
    → said ≡ pos 3 → new ≡ old → IsCall IsRight MayBeMade said old new
ran_out IsRight MayBeMade said old new three same = record {
  opened = λ opens. absurd (three_opens_none said three opens);
  kept = λ _. same;
  proper = λ opens. absurd (three_opens_none said three opens);
  improper = λ six _. three_is_not_six said three six;
  known = inr (inl three);
}

-- what comes of a call, and what was put behind the handle, make the call
call_put : (IsRight : Answered → Type 0) (MayBeMade : Type 0) (made : Result Answered Refusal) (said : ℤ)
    (old new : Option Held) → IsMade IsRight MayBeMade made → IsPut made said old new
    → IsCall IsRight MayBeMade said old new
call_put IsRight MayBeMade (Ok kept) said old new right (inl put) =
    let opens : IsOpening said = subst IsOpening (sym put.0) (opening_said kept.status) in
    record {
      opened = λ _. subst (HoldsAnswer IsRight said) (sym put.1) (right.0, put.0);
      kept = λ none. absurd (none opens);
      proper = λ _. right.1;
      improper = λ six _. six_opens_none said six opens;
      known = inl opens;
    }
call_put IsRight MayBeMade (Ok kept) said old new right (inr put) =
    ran_out IsRight MayBeMade said old new put.0 put.1
call_put IsRight MayBeMade (Err refusals.Exhausted) said old new right put =
    ran_out IsRight MayBeMade said old new put.0 put.1
call_put IsRight MayBeMade (Err refusals.Improper) said old new right put = record {
  opened = λ opens. absurd (six_opens_none said put.0 opens);
  kept = λ _. put.1;
  proper = λ opens. absurd (six_opens_none said put.0 opens);
  improper = λ _. right;
  known = inr (inr put.0);
}

-- and so does what is then answered, which is the same
pub call_of : (IsRight : Answered → Type 0) (MayBeMade : Type 0) (made : Result Answered Refusal)
    (said told : ℤ) (old new : Option Held) → told ≡ said → IsMade IsRight MayBeMade made
    → IsPut made said old new → IsCall IsRight MayBeMade told old new
call_of IsRight MayBeMade made said told old new same right put =
    subst (λ (it : ℤ). IsCall IsRight MayBeMade it old new) (sym same)
    (call_put IsRight MayBeMade made said old new right put)
