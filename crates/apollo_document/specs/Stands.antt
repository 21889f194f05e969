-- What a builder holds for a list. The code is proved against this. GraphQL specification of October 2021,
-- sections 2.2 to 2.8.
use Rattle.std.specs.Prelude.{◌≡◌, List, ◌∷◌, [], ◌++◌, map, Option, None, Some, option_map, unwrap_or, cond}
use Rattle.graphql_nodes.specs.NameView.{NameView, plain_name}
use Rattle.graphql_nodes.specs.NodeView.{NodeView}
use Rattle.graphql_ast.specs.declared.operation.OperationDefinition.{OperationDefinition}
use Rattle.graphql_ast.specs.declared.operation.FragmentDefinition.{FragmentDefinition}
use Rattle.apollo_schema.specs.declared.schema.Schema.{Schema}
use Rattle.apollo_executable.specs.Erasure.{at_place}
use Rattle.apollo_executable.specs.declared.operation.Operation.{Operation}
use Rattle.apollo_executable.specs.declared.operation.Fragment.{Fragment}
use Rattle.apollo_executable.specs.declared.selection.SelectionSet.{SelectionSet}
use Rattle.apollo_document.specs.Elaborated.{elaborated}
use Rattle.apollo_document.specs.Typable.{has_type}
use Rattle.apollo_document.specs.AddedDefinitions.{DocumentItem}
use Rattle.apollo_document.specs.KeptDefinitions.{root_type_of, kept_anonymous, kept_named, kept_fragments}
use Rattle.apollo_document.specs.KeptDefinitions.{is_repeated}
use Rattle.apollo_document.specs.DocumentFaults.{document_faults}
use Rattle.apollo_document.specs.declared.tables.Tables.{Tables}
use Rattle.apollo_document.specs.declared.state.State.{State}
use Rattle.apollo_document.specs.declared.state.State.TheVariants as state
use Rattle.apollo_document.specs.BuilderStands.{Standing, Open, Failed}

-- an operation with this set
abbrev pub operation_over : OperationDefinition → SelectionSet → Operation
operation_over o set = record {
  operation_type = o.operation_type;
  name = o.name;
  variables = o.variables;
  directives = o.directives;
  selection_set = set;
}

-- an operation from this root type, typed
abbrev pub operation_from : Option Schema → NameView → OperationDefinition → Operation
operation_from s root o = operation_over o (elaborated s root o.selection_set)

-- an operation, typed, if it has a root type
abbrev pub rooted_operation : Option Schema → NodeView OperationDefinition → Option (NodeView Operation)
rooted_operation s n =
    option_map (λ (root : NameView). at_place (operation_from s root) n)
    (root_type_of s n.value.operation_type)

-- the root type of an operation that is kept, which has one
abbrev pub root_or_none : Option Schema → NodeView OperationDefinition → NameView
root_or_none s n = unwrap_or (root_type_of s n.value.operation_type) (plain_name [])

-- an operation that is kept, typed, where it stands
abbrev pub typed_operation : Option Schema → NodeView OperationDefinition → NodeView Operation
typed_operation s n = at_place (operation_from s (root_or_none s n)) n

-- a fragment, typed in its condition
abbrev pub fragment_on_type : Option Schema → FragmentDefinition → Fragment
fragment_on_type s f =
    record {
      name = f.name;
      directives = f.directives;
      selection_set = elaborated s f.type_condition f.selection_set;
    }

-- a fragment, typed in its condition, where it stands
abbrev pub typed_fragment : Option Schema → NodeView FragmentDefinition → NodeView Fragment
typed_fragment s n = at_place (fragment_on_type s) n

-- a fragment, typed, if its condition is a type
abbrev pub fragment_if_typed : Option Schema → NodeView FragmentDefinition → Option (NodeView Fragment)
fragment_if_typed s n = cond (has_type s n.value.type_condition) (Some (typed_fragment s n)) None

-- entries whose values are what f gives
abbrev pub entries_by : {A B : Type 0} → (A → B) → List (NameView × A) → List (NameView × B)
entries_by f es = map (λ e. (e.0, f e.1)) es

-- a definition that is built, put last under its name, unless that is taken
abbrev pub put_unless_taken : {V : Type 0} → NameView → Option NameView → Option V → List (NameView × V)
    → List (NameView × V)
put_unless_taken name None (Some v) es = es ++ (name, v) ∷ []
put_unless_taken name None None es = es
put_unless_taken name (Some kept) v es = es

-- these tables are those of the list
pub record Stands (s : Option Schema) (xs : List DocumentItem) (t : Tables) : Type 0 where
  -- the kept anonymous operation, typed, if there is one
  pub anonymous : t.operations.anonymous ≡ option_map (typed_operation s) (kept_anonymous s xs)
  -- the kept named operations, typed, each under its name
  pub named : t.operations.named ≡ entries_by (typed_operation s) (kept_named s xs)
  -- the kept fragments, typed, each under its name
  pub fragments : t.fragments ≡ entries_by (typed_fragment s) (kept_fragments s xs)
  -- an anonymous operation is kept, and another stands after it
  pub repeated : t.multiple_anonymous ≡ is_repeated s xs
  -- what is wrong with the list, in order
  pub faults : t.faults ≡ document_faults s xs

-- tables that stood for some list stand for it with these definitions behind it
abbrev pub StandsWith : Option Schema → List DocumentItem → Tables → Tables → Type 0
StandsWith s new before after = (xs : List DocumentItem) → Stands s xs before → Stands s (xs ++ new) after

-- what is seen of what a builder holds, and of the list that was added to it
abbrev pub standing_of : List DocumentItem → State → Standing
standing_of xs (state.Open held) = Open xs held.sources
standing_of xs state.Failed = Failed

-- what holds of what a builder holds: its tables are those of what was added; or a call was refused
abbrev pub HoldsFor : Option Schema → List DocumentItem → State → Type 0
HoldsFor schema xs (state.Open held) = Stands schema xs held.tables
HoldsFor schema xs state.Failed = Unit {0}
