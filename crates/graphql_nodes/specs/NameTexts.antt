-- What the text of a name is: GraphQL specification of October 2021, section 2.1.9.
use Rattle.std.specs.Prelude.{ℕ, List, string_bytes}
use Rattle.graphql_nodes.specs.declared.name_text.NameText.{NameText}
use Rattle.graphql_nodes.specs.declared.name_text.NameText.TheVariants as t

-- the bytes of the text, wherever they are kept
abbrev pub name_text : NameText → List ℕ
name_text (t.Short text) = text.bytes
name_text (t.Long text) = string_bytes text
