-- Whether a text has comments: GraphQL specification of October 2021, section 2.1.4.
use Rattle.std.specs.Prelude.{◌≡◌, ◌<◌, ◌≤◌, ◌-◌, ℕ, zero, suc, Bool, true, false, List, [], ◌∷◌, Result}
use Rattle.std.specs.Prelude.{Ok, Err, drop, if◌then◌else◌, length, nat_eq}
use Rattle.graphql_tokens.specs.Ignored.{one_ignored}
use Rattle.graphql_tokens.specs.Lexemes.{Reading, lexeme}

-- whether a comment stands so many bytes behind the byte behind which a token begins, if one does
abbrev pub behind_token : Reading → (ℕ → Bool) → Bool
behind_token (Ok token) behind = behind (token.size - 1)
behind_token (Err wrong) behind = false

-- whether a comment stands in a text, between its tokens and before what is wrong in it first. So many bytes
-- are of what stands before. Then comes a comment, which begins with `#`; or another thing that says nothing,
-- or a token, which are passed over
abbrev pub comment_from : ℕ → List ℕ → Bool
comment_from left [] = false
comment_from (suc left) (c ∷ cs) = comment_from left cs
comment_from zero (c ∷ cs) =
    if nat_eq c 35 then true else (
    if nat_eq (one_ignored (c ∷ cs)) 0 then behind_token (lexeme (c ∷ cs)) (λ n. comment_from n cs)
    else comment_from (one_ignored (c ∷ cs) - 1) cs)

-- whether a comment stands in a text
abbrev pub has_comment : List ℕ → Bool
has_comment text = comment_from 0 text

-- what stands at the front has so many bytes, and a comment stands in the text just where one stands behind
-- it; or the answer is this
abbrev pub Passes : List ℕ → Result ℕ Bool → Type 0
Passes text (Ok size) = (0 < size) × (size ≤ length text)
    × (comment_from 0 text ≡ comment_from 0 (drop size text))
Passes text (Err answer) = comment_from 0 text ≡ answer
