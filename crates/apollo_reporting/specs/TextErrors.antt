-- What reports and JSON say of refusals of texts besides their sentences.
use Rattle.std.specs.Prelude.{ℕ, List, [], codes, encode_utf8}
use Rattle.graphql_text.specs.declared.parse_error.ParseError.{ParseError}
use Rattle.graphql_text.specs.declared.parse_error.ParseErrorKind.{ParseErrorKind}
use Rattle.graphql_text.specs.declared.parse_error.ParseErrorKind.TheVariants as k
use Rattle.apollo_reporting.specs.Abouts.{AboutView, of_kind}
use Rattle.apollo_reporting.specs.Details.{one_text, two_texts}
use Rattle.apollo_reporting.specs.declared.detail.Detail.{Detail}

-- the name of the variant
abbrev pub parse_error_name : ParseErrorKind → List ℕ
parse_error_name (k.UnexpectedCharacter _ _) = codes "UnexpectedCharacter"
parse_error_name k.UnterminatedString = codes "UnterminatedString"
parse_error_name k.InvalidEscape = codes "InvalidEscape"
parse_error_name k.InvalidNumber = codes "InvalidNumber"
parse_error_name (k.Unexpected _ _) = codes "Unexpected"
parse_error_name (k.ReservedName _) = codes "ReservedName"
parse_error_name (k.VariableInConstant _) = codes "VariableInConstant"
parse_error_name (k.UnknownDirectiveLocation _) = codes "UnknownDirectiveLocation"
parse_error_name k.DescriptionNotAllowed = codes "DescriptionNotAllowed"
parse_error_name k.TooDeep = codes "TooDeep"
parse_error_name k.TooManyTokens = codes "TooManyTokens"
parse_error_name k.BuiltInFile = codes "BuiltInFile"
parse_error_name k.Memory = codes "Memory"

-- that alone
abbrev pub parse_error_kind_about : ParseErrorKind → AboutView
parse_error_kind_about kind = of_kind (parse_error_name kind)

-- that of its kind
abbrev pub parse_error_about : ParseError → AboutView
parse_error_about error = parse_error_kind_about error.kind

-- the fields of the variant by their names, in order; a field without a name stands under `name`
abbrev pub parse_error_kind_details : ParseErrorKind → List Detail
parse_error_kind_details (k.UnexpectedCharacter character shown) =
    two_texts (codes "character") (encode_utf8 character) (codes "shown") shown
parse_error_kind_details k.UnterminatedString = []
parse_error_kind_details k.InvalidEscape = []
parse_error_kind_details k.InvalidNumber = []
parse_error_kind_details (k.Unexpected expected found) =
    two_texts (codes "expected") expected (codes "found") found
parse_error_kind_details (k.ReservedName name) = one_text (codes "name") name
parse_error_kind_details (k.VariableInConstant name) = one_text (codes "name") name
parse_error_kind_details (k.UnknownDirectiveLocation name) = one_text (codes "name") name
parse_error_kind_details k.DescriptionNotAllowed = []
parse_error_kind_details k.TooDeep = []
parse_error_kind_details k.TooManyTokens = []
parse_error_kind_details k.BuiltInFile = []
parse_error_kind_details k.Memory = []

-- those of its kind
abbrev pub parse_error_details : ParseError → List Detail
parse_error_details error = parse_error_kind_details error.kind
