use Rattle.std.proofs.Common.{◌≡◌, Some, sym, ap, ◌∙◌, unwrap_or}
use Rattle.std.specs.Map.{lookup, set_value}
use Rattle.std.specs.Option.{option_copied_mut}
use Rattle.indexmap.specs.IndexMap.{insert_entry}
use Rattle.graphql_ast.specs.Parts.{no_parts, with_part}
use Rattle.apollo_component.specs.Extensions.{same_id}
use Rattle.apollo_component.proofs.Tabled.{insert_entry-found}
use Rattle.apollo_component.proofs.extension_parts.add_to.Goals as goal

pub returns-in-Some : goal.returns-in-Some
returns-in-Some g c =
    let id = c.args.id in
    let p = g.T.Listed.part c.args.part in
    let es = c.args.extensions.now in
    let parts = c.in-Some.parts.now in
    let there : lookup (same_id id) es ≡ Some parts = sym c.get_mut.ensures.value
    ∙ ap option_copied_mut c.in-Some.is in
    c.get_mut.follows.holds c.push_to.new.parts ∙ ap (set_value (same_id id) es) c.in_ok-push_to.ensures.added
    ∙ insert_entry-found same_id es id parts (with_part p parts) there
    ∙ ap (λ o. insert_entry same_id es id (with_part p (unwrap_or o no_parts))) (sym there)
