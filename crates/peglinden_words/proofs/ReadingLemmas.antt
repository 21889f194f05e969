-- What is asked for, by what `clap` found.
use Rattle.std.proofs.Common.{◌≡◌, ◌∙◌, ◌⊎◌, ◌||◌, Bool, true, false, true≢false, inl, inr, sym, ap}
use Rattle.std.proofs.Common.{ap₂, refl, List, [], ◌∷◌, Option, Some, None, option_map}
use Rattle.std.specs.List.{list_any}
use Rattle.std.specs.Prelude.{not}
use Rattle.std.proofs.lemmas.Bool.{or_right}
use Rattle.std.specs.Borrow.{Bor}
use Rattle.clap.specs.Faults.{fault_of, is_simple_and_free}
use Rattle.clap.specs.Matches.{found_of, subcommand_name_of}
use Rattle.clap.specs.Kinds.{IsAmong, Kinds}
use Rattle.clap.specs.Simple.{App, HasMatchesOf, app_of, is_simple, subcommand_of, subcommand_rows}
use Rattle.clap.specs.declared.builder.command.Command.{Command}
use Rattle.clap.specs.declared.parser.matches.ArgMatches.{ArgMatches}
use Rattle.clap.specs.declared.parser.matches.ArgMatches.TheViews.{out-ArgMatches}
use Rattle.clap.specs.Walk.{Row, Text, rows_of}
use Rattle.clap.specs.declared.error.kind.ErrorKind.{ErrorKind}
use Rattle.clap.specs.declared.error.kind.ErrorKind.TheVariants.{ArgumentConflict, OutOfMemory}
use Rattle.peglinden_words.specs.Commands.{peglinden}
use Rattle.peglinden_words.specs.Refusals.{IsErrorOf, IsRefusal, contradict, is_call}
use Rattle.peglinden_words.specs.Requests.{Asked, asked, asked_by, asked_unchecked}
use Rattle.peglinden_words.specs.Requests.{if_consistent, is_contradictory, without_fault}
use Rattle.peglinden_words.proofs.CommandLemmas.{program_is_free, program_is_simple}
use Rattle.peglinden_words.specs.declared.words_error.WordsError.{WordsError}
use Rattle.peglinden_words.specs.declared.words_error.WordsError.TheVariants as error
use Rattle.std.specs.Option.{option_and_then, option_map_or}

-- the name and the rows of a command that was met
pub both_met : {X : Type 0} (met : Option X) (name_of : X → Text) (rows_of : X → List Row) (name : Text)
    (rows : List Row)
    → Some name ≡ option_map name_of met
    → Some rows ≡ option_map (λ p. p.1)
    (option_map (λ x. let p : Text × List Row = (name_of x, rows_of x) in p) met)
    → option_map (λ x. let p : Text × List Row = (name_of x, rows_of x) in p) met ≡ Some (name, rows)
both_met None name_of rows_of name rows is_name is_rows = cc
both_met (Some x) name_of rows_of name rows is_name is_rows = cc

-- the words ask for what the command that was met asks for
pub request_is : (command : Command) (words : List Text) (m : ArgMatches)
    (sub : Option (Bor Text × Bor ArgMatches)) (met : Bor Text × Bor ArgMatches) (wanted : Asked)
    → app_of command ≡ peglinden
    → (is_simple_and_free (app_of command) ≡ true → fault_of (app_of command) words ≡ [])
    → HasMatchesOf (app_of command) words m
    → option_map (λ p. p.0.now) sub ≡ subcommand_name_of m
    → option_map (λ p. rows_of (found_of p.1.now)) sub ≡ option_map (λ p. p.1)
    (subcommand_rows (out-ArgMatches m).subcommand)
    → sub ≡ Some met → wanted ≡ asked_by met.0.now (rows_of (found_of met.1.now))
    → asked_unchecked words ≡ Some wanted
unfolding asked_unchecked
request_is command words m sub met wanted app none found name rows is wants =
    let no_fault : fault_of peglinden words ≡ [] = ap (λ (a : App). fault_of a words) (sym app)
    ∙ none (ap is_simple_and_free app ∙ program_is_free) in
    let both = both_met (out-ArgMatches m).subcommand _ _ _ _
    (sym (ap (option_map (λ (p : Bor Text × Bor ArgMatches). p.0.now)) is) ∙ name)
    (sym (ap (option_map (λ (p : Bor Text × Bor ArgMatches). rows_of (found_of p.1.now))) is) ∙ rows) in
    let below : subcommand_of peglinden words ≡ Some (met.0.now, rows_of (found_of met.1.now)) =
    ap (λ (a : App). subcommand_of a words) (sym app) ∙ sym (found (ap is_simple app ∙ program_is_simple)).1
    ∙ both in
    ap₂ (λ faults o. without_fault faults (option_map (λ (p : Text × List Row). asked_by p.0 p.1) o))
    no_fault below ∙ ap Some (sym wants)

pub asked_is : (words : List Text) (wanted : Asked) → asked_unchecked words ≡ Some wanted
    → is_contradictory wanted ≡ false → asked words ≡ Some wanted
asked_is words wanted is once = ap (option_and_then if_consistent) is ∙ rw once refl

no_request : (found : ErrorKind) (faults : Kinds) (wanted : Option Asked) → IsAmong found faults
    → without_fault faults wanted ≡ None
no_request found [] wanted among = absurd among
no_request found (k ∷ ks) wanted among = refl

nothing_asked : (words : List Text) (found : ErrorKind) → IsAmong found (fault_of peglinden words)
    → asked words ≡ None
unfolding asked_unchecked
nothing_asked words found among = ap (option_and_then if_consistent)
    (no_request found (fault_of peglinden words) _ among)

any_among : (p : ErrorKind → Bool) (k : ErrorKind) (ks : Kinds) → IsAmong k ks → p k ≡ true
    → list_any p ks ≡ true
any_among p k [] among h = absurd among
any_among p k (x ∷ xs) (inl e) h = ap (λ y. p y || list_any p xs) (sym e) ∙ ap (λ b. b || list_any p xs) h
any_among p k (x ∷ xs) (inr among) h = or_right (p x) _ (any_among p k xs among h)

-- an error of `clap` is a refusal of the words
pub refused_is : (words : List Text) (found : ErrorKind) (e : WordsError)
    → (found ≡ OutOfMemory) ⊎ IsAmong found (fault_of peglinden words)
    → IsErrorOf found e → IsRefusal words e
refused_is words found error.Memory why of = tt
refused_is words found (error.Help text) (inl memory) of = absurd (true≢false (sym of ∙ ap is_call memory))
refused_is words found (error.Help text) (inr among) of =
    (nothing_asked words found among, any_among is_call found _ among of)
refused_is words found (error.Usage text) (inl memory) of = absurd (of.1 memory)
refused_is words found (error.Usage text) (inr among) of = (
  nothing_asked words found among,
  ap (λ b. b || contradict words)
      (any_among (λ k. not (is_call k)) found _ among (ap not of.0)),
)

-- and so is the error of a request that contradicts itself
pub contradicted_is : (words : List Text) (wanted : Asked) (found : ErrorKind) (e : WordsError)
    → asked_unchecked words ≡ Some wanted
    → is_contradictory wanted ≡ true → found ≡ ArgumentConflict → IsErrorOf found e → IsRefusal words e
contradicted_is words wanted found error.Memory is again kind of = tt
contradicted_is words wanted found (error.Help text) is again kind of = absurd
    (true≢false (sym of ∙ ap is_call kind))
contradicted_is words wanted found (error.Usage text) is again kind of = (
  ap (option_and_then if_consistent) is ∙ rw again refl,
  or_right _ _ (ap (λ o. option_map_or is_contradictory o false) is ∙ again),
)
