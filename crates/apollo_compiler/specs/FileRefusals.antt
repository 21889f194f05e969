-- What reports and JSON say of files that are refused besides their sentences.
use Rattle.std.specs.Prelude.{ℕ, List, codes}
use Rattle.apollo_reporting.specs.Abouts.{AboutView, of_kind}
use Rattle.apollo_reporting.specs.Details.{one_text}
use Rattle.apollo_reporting.specs.TextErrors.{parse_error_kind_about, parse_error_kind_details}
use Rattle.apollo_reporting.specs.declared.detail.Detail.{Detail}
use Rattle.apollo_compiler.specs.declared.file_refusal.FileRefusal.{FileRefusal}
use Rattle.apollo_compiler.specs.declared.file_refusal.FileRefusal.TheVariants as refusals

-- the name of the variant, or what is said of what is wrong with the text
abbrev pub refusal_about : FileRefusal → AboutView
refusal_about (refusals.Unread path why) = of_kind (codes "Unread")
refusal_about (refusals.Text kind) = parse_error_kind_about kind

-- the path of a file that can't be read, or the details of what is wrong with the text
abbrev pub refusal_details : FileRefusal → List Detail
refusal_details (refusals.Unread path why) = one_text (codes "unread") path
refusal_details (refusals.Text kind) = parse_error_kind_details kind
