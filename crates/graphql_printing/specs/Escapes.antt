-- Where a quoted string has escapes: GraphQL specification of October 2021, section 2.9.4.
use Rattle.std.specs.Prelude.{ℕ, Bool, ◌||◌, List, [], ◌∷◌, ◌++◌, nat_eq, nat_lt, if◌then◌else◌, codes}
use Rattle.graphql_tokens.specs.Bytes.{begins}
use Rattle.graphql_printing.specs.Strings.{are_control, escape_letter, number_escape}

-- whether a byte of ASCII is escaped: a control character, a quote or `\`
abbrev pub wants_escape : ℕ → Bool
wants_escape c = nat_lt c 32 || nat_eq c 127 || nat_eq c 34 || nat_eq c 92

-- how many bytes at the front of a text are a character that is escaped: one or two, or none
abbrev pub escaped_size : List ℕ → ℕ
escaped_size [] = 0
escaped_size (c ∷ cs) = if wants_escape c then 1 else (if begins (are_control c) cs then 2 else 0)

-- the escape of a character: by letter, or by number where it has none
abbrev pub escape : ℕ → List ℕ
escape c = if nat_lt 0 (escape_letter c) then codes "\\" ++ escape_letter c ∷ [] else number_escape c
