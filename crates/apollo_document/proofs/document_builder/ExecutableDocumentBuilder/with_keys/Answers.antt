use Rattle.std.proofs.Common.{sym, subst}
use Rattle.std.specs.Option.{option_copied}
use Rattle.apollo_document.specs.Stands.{Stands}
use Rattle.apollo_document.proofs.document_builder.ExecutableDocumentBuilder.with_keys.Goals as goal

pub invariant_of-result : goal.invariant_of-result
invariant_of-result c = subst (λ xs. Stands (option_copied c.args.schema) xs c.new.result)
    (sym c.none.ensures) (c.new.ensures (option_copied c.args.schema))
