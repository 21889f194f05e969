use Rattle.std.proofs.Common.{rules, ◌≡◌, ℕ, ◌+◌, ◌<◌, Bool, get_or, take, List, [], ◌∷◌, ◌++◌, length, refl}
use Rattle.std.proofs.Common.{subst, ◌∙◌, append_assoc, arith}
use Rattle.std.proofs.lemmas.List.{map-append, take_more}
use Rattle.std.specs.Option.{option_copied}
use Rattle.graphql_ast.specs.declared.definition.Definition.{Definition}
use Rattle.apollo_document.specs.AddedDefinitions.{DocumentItem, document_list}
use Rattle.apollo_document.specs.Stands.{Stands}
use Rattle.apollo_document.specs.Takes.{TakesDefinition}
use Rattle.apollo_document.proofs.StandsLemmas.{no_operation, no_fragment, stands-other}
use Rattle.apollo_document.proofs.tables.Tables.take.Goals as goal
use Rattle.apollo_document.proofs.tables.Tables.take.Goals.{in-OperationDefinition+in-Some+in_ok-take_named-in-Some}
use Rattle.apollo_document.proofs.tables.Tables.take.Goals.{in-OperationDefinition+in-None+in_ok-take_anonymous-in-None}
use Rattle.apollo_document.proofs.tables.Tables.take.Goals.{in-FragmentDefinition+in_ok-take_fragment-in-FragmentDefinition}
use Rattle.apollo_document.proofs.tables.Tables.take.Goals.{in_default+in_ok-note_type_system-in_default}

-- the list after one more definition
one-more : (b : Bool) (xs : List DocumentItem) (ds : List Definition) (i : ℕ) (d : Definition) → i < length ds
    → d ≡ get_or ds i d
    → (xs ++ document_list b (take i ds)) ++ (b, d) ∷ [] ≡ xs ++ document_list b (take (i + 1) ds)
one-more b xs ds i d lt is = rw (take_more ds i d lt, map-append, ← is, append_assoc) refl

pub loop-definition-preserved : goal.loop-definition-preserved
loop-definition-preserved c = λ xs was.
    let s = option_copied c.args.schema in
    let b = c.args.type_system_definitions_are_errors in
    let ds = c.args.definitions.now in
    let i = c.loop-definition.definition-index in
    let d = c.definition-item.result in
    let old = c.loop-definition.self in
    let takes : TakesDefinition s (b, d) old c.match-definition.self = elim c.match-definition.branch [
      | in-OperationDefinition+in-Some+in_ok-take_named-in-Some w ↦
          rw (w.self-is, w.in-OperationDefinition.is) (w.in_ok-take_named-in-Some.ensures (search rules) b)
      | in-OperationDefinition+in-None+in_ok-take_anonymous-in-None w ↦
          rw (w.self-is, w.in-OperationDefinition.is)
          (w.in_ok-take_anonymous-in-None.ensures (search rules) b)
      | in-FragmentDefinition+in_ok-take_fragment-in-FragmentDefinition w ↦
          rw (w.self-is, w.in-FragmentDefinition.is) (w.in_ok-take_fragment-in-FragmentDefinition.ensures b)
      | in_default+in_ok-note_type_system-in_default w ↦
          λ ys stood. stands-other s ys b d old c.match-definition.self
          (no_operation d w.in_default.not-OperationDefinition)
          (no_fragment d w.in_default.not-FragmentDefinition) stood
          (w.self-is ∙ w.in_ok-note_type_system-in_default.ensures)
    ] in
    subst (λ (l : List DocumentItem). Stands s l c.match-definition.self)
    (one-more b xs ds i d (omega arith) c.definition-item.is)
    (takes (xs ++ document_list b (take i ds)) (c.loop-definition.invariant xs was))
