-- An order of paths. Those that begin with one path stand together in it, behind that path. It goes by
-- definitions, and then by response keys, from the outermost on. GraphQL specification of October 2021,
-- sections 2.3 to 2.8.
use Rattle.std.specs.Prelude.{◌==◌, ◌&&◌, ℕ, Bool, List, []}
use Rattle.std.specs.Cmp.Lexicographic.{slice_cmp}
use Rattle.std.specs.List.{starts_with}
use Rattle.std.specs.Ordering.{nat_cmp, ordering_then}
use Rattle.std.specs.declared.cmp.Ordering.{Ordering}
use Rattle.graphql_nodes.specs.NameView.{NameView}
use Rattle.graphql_nodes.specs.SameText.{same, same_text}
use Rattle.graphql_nodes.specs.declared.operation_type.OperationType.TheVariants.{Mutation, Query}
use Rattle.graphql_nodes.specs.declared.operation_type.OperationType.TheVariants.{Subscription}
use Rattle.apollo_document.specs.declared.selection_path.ExecutableDefinitionName.{ExecutableDefinitionName}
use Rattle.apollo_document.specs.declared.selection_path.ExecutableDefinitionName.TheVariants as named
use Rattle.apollo_document.specs.declared.selection_path.SelectionPath.{SelectionPath}

-- a number for each kind of definition
abbrev pub kind_rank : ExecutableDefinitionName → ℕ
kind_rank (named.AnonymousOperation Query) = 0
kind_rank (named.AnonymousOperation Mutation) = 1
kind_rank (named.AnonymousOperation Subscription) = 2
kind_rank (named.NamedOperation Query name) = 3
kind_rank (named.NamedOperation Mutation name) = 4
kind_rank (named.NamedOperation Subscription name) = 5
kind_rank (named.Fragment name) = 6

-- the text of a definition's name, empty where there is none
abbrev pub name_text : ExecutableDefinitionName → List ℕ
name_text (named.AnonymousOperation kind) = []
name_text (named.NamedOperation kind name) = name.text
name_text (named.Fragment name) = name.text

-- texts by their bytes
abbrev pub text_cmp : List ℕ → List ℕ → Ordering
text_cmp = slice_cmp nat_cmp

-- names by their texts
abbrev pub name_cmp : NameView → NameView → Ordering
name_cmp one other = text_cmp one.text other.text

-- paths by their definitions, and then by their keys
abbrev pub path_cmp : SelectionPath → SelectionPath → Ordering
path_cmp one other = ordering_then (nat_cmp (kind_rank one.root) (kind_rank other.root))
    (ordering_then (text_cmp (name_text one.root) (name_text other.root))
    (slice_cmp name_cmp one.nested_fields other.nested_fields))

-- whether two definitions are of one kind and name
abbrev pub same_root : ExecutableDefinitionName → ExecutableDefinitionName → Bool
same_root one other = (kind_rank one == kind_rank other) && same (name_text one) (name_text other)

-- whether a path begins with another
abbrev pub begins_with : SelectionPath → SelectionPath → Bool
begins_with path outer =
    same_root path.root outer.root && starts_with same_text path.nested_fields outer.nested_fields
