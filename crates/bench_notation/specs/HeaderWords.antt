-- The words with which headers begin: docs/NOTATION.md.
use Rattle.std.specs.Prelude.{ℕ, List, Bool, true, false, Option, None, Some, codes}
use Rattle.graphql_nodes.specs.NameView.{NameView}
use Rattle.graphql_nodes.specs.declared.type_kind.TypeKind.{TypeKind}
use Rattle.graphql_nodes.specs.declared.type_kind.TypeKind.TheVariants as k
use Rattle.bench_notation.specs.declared.kind_words.Role.{Role}
use Rattle.bench_notation.specs.declared.kind_words.Role.TheVariants as r

-- whether a header begins an extension
abbrev pub is_extension : Role → Bool
is_extension r.Definition = false
is_extension r.Extension = true

-- that of an extension where the flag is set
abbrev pub role_of : Bool → Role
role_of true = r.Extension
role_of false = r.Definition

-- the header of a definition of a type, and that of an extension
abbrev pub role_word : Role → List ℕ
role_word r.Definition = codes "def"
role_word r.Extension = codes "ext"

-- the header of the schema's definition, and that of its extension
abbrev pub schema_word : Role → List ℕ
schema_word r.Definition = codes "schema"
schema_word r.Extension = codes "ext-schema"

-- the kind of a type
abbrev pub kind_word : TypeKind → List ℕ
kind_word k.Scalar = codes "scalar"
kind_word k.Object = codes "object"
kind_word k.Interface = codes "interface"
kind_word k.Union = codes "union"
kind_word k.Enum = codes "enum"
kind_word k.InputObject = codes "input"

-- the name of an operation, or the word of one that has none
abbrev pub name_word : Option NameView → List ℕ
name_word None = codes "-"
name_word (Some name) = name.text
