-- Why a text has no list of tokens.
use Rattle.std.specs.Prelude.{◌≡◌, Err}
use Rattle.graphql_tokens.specs.Tokens.{Tokens}
use Rattle.graphql_tokens.specs.declared.tokens_error.TokensError.{TokensError}
use Rattle.graphql_tokens.specs.declared.tokens_error.TokensError.TheVariants.{Memory, Wrong}

-- what is wrong with it first; memory can run out with every text
abbrev pub IsRefused : Tokens → TokensError → Type 0
IsRefused of_text (Wrong error) = of_text ≡ Err error
IsRefused of_text Memory = Unit {0}
