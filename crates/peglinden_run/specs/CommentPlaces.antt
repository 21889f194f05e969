-- Where the comments of a text stand: GraphQL specification of October 2021, section 2.1.4.
use Rattle.std.specs.Prelude.{◌≡◌, ◌⊎◌, ◌-◌, ◌+◌, ◌++◌, ◌&&◌, ◌||◌, ℕ, zero, suc, Bool, true, false, not, List, []}
use Rattle.std.specs.Prelude.{◌∷◌, Option, None, Some, Ok, Err, if◌then◌else◌, length, nat_eq, option_and_then}
use Rattle.std.specs.Prelude.{take}
use Rattle.std.specs.List.{AllByRecursion, list_any}
use Rattle.graphql_tokens.specs.Bytes.{is_line_end}
use Rattle.graphql_tokens.specs.First.{FirstReading, first_of}
use Rattle.graphql_tokens.specs.Ignored.{ignored}

-- what stands behind the token that comes first, if one does
abbrev pub rest_of : FirstReading → Option (List ℕ)
rest_of (Ok (Some first)) = Some first.rest
rest_of (Ok None) = None
rest_of (Err wrong) = None

-- what stands behind so many tokens of a text, if it has as many
abbrev pub behind_tokens : ℕ → List ℕ → Option (List ℕ)
behind_tokens zero text = Some text
behind_tokens (suc n) text =
    option_and_then (λ (rest : List ℕ). rest_of (first_of rest)) (behind_tokens n text)

-- what stands before the first token, and says nothing
abbrev pub before_token : List ℕ → List ℕ
before_token text = take (ignored text) text

-- bytes behind which a line starts: there are none, or the last one ends a line
abbrev pub IsLineStart : List ℕ → Type 0
IsLineStart bytes = (bytes ≡ [])
    ⊎ ((front : List ℕ) × ((end : ℕ) × ((bytes ≡ front ++ end ∷ []) × (is_line_end end ≡ true))))

-- no comment goes on behind these bytes, which say nothing: on their last line there is no `#`
pub record IsOutside (bytes : List ℕ) : Type 0 where
  -- the lines before the last one
  pub lines : List ℕ
  pub starts : IsLineStart lines
  -- the last one
  pub line : List ℕ
  pub none : list_any (λ (c : ℕ). nat_eq c 35) line ≡ false
  pub are : bytes ≡ lines ++ line

-- a comment begins behind some of these bytes, which say nothing: `#` is the next, and none goes on there
pub record Begins (bytes before : List ℕ) : Type 0 where
  pub outside : IsOutside before
  -- the bytes behind its `#`
  pub after : List ℕ
  pub are : bytes ≡ before ++ 35 ∷ after

-- a comment begins at this place in these bytes, which say nothing and begin at that place
abbrev pub BeginsAt : List ℕ → ℕ → ℕ → Type 0
BeginsAt bytes at place = (before : List ℕ) × (Begins bytes before × (place ≡ at + length before))

-- whether a comment goes on behind this byte; the flag says whether one does before it
abbrev pub goes_on : Bool → ℕ → Bool
goes_on inside c = not (is_line_end c) && (inside || nat_eq c 35)

-- the place of this byte, if a comment begins with it; the flag says whether one goes on before it
abbrev pub begun : Bool → ℕ → ℕ → List ℕ
begun inside c place = if nat_eq c 35 && not inside then place ∷ [] else []

-- places in these bytes were added, where comments begin
abbrev pub AddsComments : List ℕ → ℕ → List ℕ → List ℕ → Type 0
AddsComments bytes at old new =
    (added : List ℕ) × ((new ≡ old ++ added) × AllByRecursion (BeginsAt bytes at) added)

-- a comment of this text begins at this place: it stands behind so many of its tokens, before the next
pub record IsCommentAt (text : List ℕ) (place : ℕ) : Type 0 where
  pub tokens : ℕ
  -- what stands behind them
  pub rest : List ℕ
  pub behind : behind_tokens tokens text ≡ Some rest
  pub begins : BeginsAt (before_token rest) (length text - length rest) place
