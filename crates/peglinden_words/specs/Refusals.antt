-- Words that ask for nothing.
use Rattle.std.specs.Prelude.{◌≡◌, ◌≢◌, ◌||◌, ⊤, Bool, true, false, not, List, None}
use Rattle.std.specs.List.{list_any}
use Rattle.std.specs.Option.{option_map_or}
use Rattle.clap.specs.Faults.{fault_of}
use Rattle.clap.specs.Walk.{Text}
use Rattle.clap.specs.declared.error.kind.ErrorKind.{ErrorKind}
use Rattle.clap.specs.declared.error.kind.ErrorKind.TheVariants.{DisplayHelp, DisplayVersion}
use Rattle.clap.specs.declared.error.kind.ErrorKind.TheVariants.{OutOfMemory}
use Rattle.peglinden_words.specs.Commands.{peglinden}
use Rattle.peglinden_words.specs.Requests.{asked, asked_unchecked, is_contradictory}
use Rattle.peglinden_words.specs.declared.words_error.WordsError.{WordsError}
use Rattle.peglinden_words.specs.declared.words_error.WordsError.TheVariants as error

-- what `clap` finds is a call for help or for the version, and no mistake
abbrev pub is_call : ErrorKind → Bool
is_call DisplayHelp = true
is_call DisplayVersion = true
is_call _ = false

-- the words call for help or for the version
abbrev pub call_for_help : List Text → Bool
call_for_help words = list_any is_call (fault_of peglinden words)

-- the words ask for something that contradicts itself
abbrev pub contradict : List Text → Bool
contradict words = option_map_or is_contradictory (asked_unchecked words) false

-- the words are a mistake
abbrev pub are_mistaken : List Text → Bool
are_mistaken words =
    list_any (λ found. not (is_call found)) (fault_of peglinden words) || contradict words

-- the words ask for nothing, for this reason; out of memory says nothing of them
abbrev pub IsRefusal : List Text → WordsError → Type 0
IsRefusal words (error.Help text) = (asked words ≡ None) × (call_for_help words ≡ true)
IsRefusal words (error.Usage text) = (asked words ≡ None) × (are_mistaken words ≡ true)
IsRefusal words error.Memory = ⊤

-- the error of words in which `clap` finds this
abbrev pub IsErrorOf : ErrorKind → WordsError → Type 0
IsErrorOf found (error.Help text) = is_call found ≡ true
IsErrorOf found (error.Usage text) = (is_call found ≡ false) × (found ≢ OutOfMemory)
IsErrorOf found error.Memory = ⊤
