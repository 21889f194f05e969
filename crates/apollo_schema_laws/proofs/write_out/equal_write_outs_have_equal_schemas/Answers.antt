use Rattle.std.proofs.Common.{true, false, sym, ◌∙◌}
use Rattle.apollo_schema_laws.specs.WrittenAgain.{written_again}
use Rattle.apollo_schema_laws.proofs.Rebuild.{equal, equal-lists, rebuilds}
use Rattle.apollo_schema_laws.proofs.write_out.equal_write_outs_have_equal_schemas.Goals as goal

pub returns : goal.returns
returns c = λ schema other m o alike.
    let first = rebuilds schema m false 0 in
    let second = rebuilds other o false 0 in
    sym (equal schema m false 0 first.0 first.1) ∙ c.equal_lists.ensures.schemas true
    (written_again false schema) (written_again false other) (equal-lists false schema other alike) 0 0
    first.0 second.0 first.1 second.1 ∙ equal other o false 0 second.0 second.1
