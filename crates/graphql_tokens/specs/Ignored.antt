-- What says nothing between tokens: GraphQL specification of October 2021, sections 2.1.1 to 2.1.5.
use Rattle.std.specs.Prelude.{ℕ, Bool, false, ◌||◌, ◌&&◌, not, List, [], ◌∷◌, ◌+◌, nat_eq, if◌then◌else◌}
use Rattle.std.specs.List.{prefix_len}
use Rattle.graphql_tokens.specs.Bytes.{is_blank, is_control, is_line_end}
use Rattle.graphql_tokens.specs.Pieces.{pieces}

-- whether the byte order mark stands at the front, in its three bytes: section 2.1.1
abbrev pub begins_with_mark : List ℕ → Bool
begins_with_mark (a ∷ b ∷ c ∷ rest) = nat_eq a 239 && (nat_eq b 187 && nat_eq c 191)
begins_with_mark _ = false

-- what a comment has behind its `#`: section 2.1.4
abbrev pub is_of_comment : ℕ → Bool
is_of_comment c = not (is_line_end c || is_control c)

-- how many bytes of a blank, a byte order mark or a comment stand at the front
abbrev pub one_ignored : List ℕ → ℕ
one_ignored [] = 0
one_ignored (c ∷ cs) =
    if is_blank c then 1 else (
    if nat_eq c 35 then prefix_len is_of_comment cs + 1 else (
    if begins_with_mark (c ∷ cs) then 3 else 0))

-- how many bytes at the front say nothing
abbrev pub ignored : List ℕ → ℕ
ignored text = pieces one_ignored 0 text
