-- A definition that is written is the first of the rest.
use Rattle.std.proofs.Common.{◌≡◌, ◌∙◌, ◌+◌, ◌<◌, Bool, List, ◌∷◌, ◌++◌, length, drop, sym, ap, rules}
use Rattle.std.proofs.Common.{append_assoc, codes}
use Rattle.std.proofs.lemmas.List.{drop_more}
use Rattle.std.proofs.Output.{has_written_append}
use Rattle.graphql_ast.specs.declared.definition.Definition.{Definition}
use Rattle.graphql_printing.specs.Documents.{definition_text, definitions_behind}
use Rattle.graphql_printing.proofs.documents.write_definitions_behind.Goals as goal

pub loop-definition-preserved : goal.loop-definition-preserved
loop-definition-preserved g c =
    let l = c.loop-definition in
    let definitions = c.args.definitions.now in
    let item = c.definition-item.result in
    let more = drop (l.definition-index + 1) definitions in
    let (done, whole, wrote) = l.invariant in
    let next = codes "\n\n" ++ definition_text l.braces item in
    let within : l.definition-index < length definitions = search rules in
    let rest : drop l.definition-index definitions ≡ item ∷ more = drop_more definitions l.definition-index
    item within ∙ ap (λ (x : Definition). x ∷ more) (sym c.definition-item.is) in (
      done ++ next,
      append_assoc done next _ ∙ ap (λ (braces : Bool). done ++ (next ++ definitions_behind braces more))
          c.takes_braces-braces.ensures ∙ ap (λ (xs : List Definition). done ++ definitions_behind l.braces
          xs) (sym rest) ∙ whole,
      λ plain.
          let so_far = wrote plain in
          let one = c.write_str.ensures.writes so_far.plain (search rules) in
          let two = c.write_definition.ensures one.plain (search rules) in
          has_written_append _ _ _ _ _ _ so_far (has_written_append _ _ _ _ _ _ one two),
    )
