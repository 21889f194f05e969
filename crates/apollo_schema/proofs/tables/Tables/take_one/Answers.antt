use Rattle.apollo_meaning.proofs.Prelude.{◌≡◌, [], ◌∷◌, ◌++◌, List, refl, sym, ap, subst, ◌∙◌, append-nil}
use Rattle.apollo_meaning.proofs.Prelude.{Definition, directive_definitions, AreDirectivesOf, ListItem, Other}
use Rattle.apollo_meaning.proofs.Prelude.{item_of, added_item}
use Rattle.graphql_ast.specs.declared.definition.Definition.TheVariants as ast
use Rattle.apollo_meaning.specs.Items.ListItems.{ignorable_if}
use Rattle.apollo_folding.specs.Noting.{noting}
use Rattle.apollo_schema.specs.declared.tables.Tables.{Tables}
use Rattle.apollo_schema.specs.Stands.{Stands}
use Rattle.apollo_schema.proofs.Stands.StandsLemmas.{Stands-other}
use Rattle.apollo_schema.proofs.Stands.RoleLemmas.{executable-other, executable-item, executable-seen}
use Rattle.apollo_schema.proofs.tables.Tables.take_one.Goals as goal

pub returns-in_ok-define_directive-in-DirectiveDefinition-clause-stands
    : goal.returns-in_ok-define_directive-in-DirectiveDefinition-clause-stands
returns-in_ok-define_directive-in-DirectiveDefinition-clause-stands c = λ start xs was.
    let d : Definition = ast.DirectiveDefinition c.in-DirectiveDefinition.node in
    let now : Tables = record c.args.self.now
    { directive_definitions = c.define_directive.new.table; fold = c.define_directive.new.self } in
    let made = c.in_ok-define_directive-in-DirectiveDefinition.ensures in
    let item : added_item (c.args.ignores, c.args.definition.now) ≡ Other d =
    ap (ignorable_if c.args.ignores) (ap item_of c.in-DirectiveDefinition.is) in
    subst (λ (x : ListItem). Stands start (xs ++ x ∷ []) now) (sym item) (Stands-other was d now refl refl
    refl refl (made.defined (directive_definitions xs) was.directives)
    (made.faults (directive_definitions xs) was.directives))

-- the directive definitions after an item that is none
none_more : (xs : List ListItem) (t : Tables) (d : Definition) → directive_definitions (Other d ∷ []) ≡ []
    → AreDirectivesOf (directive_definitions xs) t.directive_definitions
    → AreDirectivesOf (directive_definitions xs ++ directive_definitions (Other d ∷ []))
    t.directive_definitions
none_more xs t d none = subst (λ ds. AreDirectivesOf ds t.directive_definitions)
    (sym (ap (λ ds. directive_definitions xs ++ ds) none ∙ append-nil (directive_definitions xs)))

pub returns-in_ok-note_executable-in_default-definition
    : goal.returns-in_ok-note_executable-in_default-definition
returns-in_ok-note_executable-in_default-definition c =
    let t = c.args.self.now in
    let d = c.args.definition.now in
    let apart = c.in_default-definition in
    let noted = c.in_ok-note_executable-in_default-definition.ensures in
    let is = executable-seen d apart.not-SchemaDefinition apart.not-SchemaExtension
    apart.not-DirectiveDefinition c.of.result c.of.ensures c.in_default.not-Type in
    let item : added_item (c.args.ignores, d) ≡ Other d =
    ap (ignorable_if c.args.ignores) (executable-item d is) in
    record {
      stands = λ start xs was.
          let other = executable-other (directive_definitions xs) d is in
          let none = none_more xs t d other.0 was.directives in
          let faults = ap (λ l. noting l t.fold) (sym other.1) in
          subst (λ (x : ListItem). Stands start (xs ++ x ∷ []) c.note_executable.new.self) (sym item)
          (subst (Stands start (xs ++ Other d ∷ [])) (sym noted)
          (Stands-other was d _ refl refl refl refl none faults));
      refused = tt;
    }
