use Rattle.std.proofs.Common.{◌≡◌, ◌∙◌, ap, length, string_bytes, sym}
use Rattle.graphql_nodes.specs.Sources.{Files}
use Rattle.apollo_schema.specs.SchemaWriteOut.{write_schema}
use Rattle.peglinden_run.specs.Documents.{texts_of}
use Rattle.peglinden_run.specs.Ended.{ended}
use Rattle.peglinden_run.specs.Findings.{of_schema}
use Rattle.peglinden_run.specs.Forms.{form_of}
use Rattle.peglinden_run.specs.Lines.{form_text}
use Rattle.peglinden_run.proofs.AnswerLemmas.{answer-as}
use Rattle.peglinden_run.proofs.TypedLemmas.{texts-length}
use Rattle.peglinden_run.proofs.schema_command.schema_answer.Goals as goal

pub returns-clause-means : goal.returns-clause-means
returns-clause-means g c =
    let schema = c.in_ok-schema.schema in
    let faults = c.in_ok-schema.faults.items in
    let text = c.in_ok-text.ensures ∙ ap ended (c.as_slice.ensures.value ∙ c.in_ok-written.ensures.written) in
    let output : string_bytes c.in_ok-output.output ≡ form_text (form_of c.args.reporting.now) (ended
    (write_schema schema)) = c.in_ok-output.ensures ∙ (λ i. form_text (c.form_of-form.ensures i) (text i)) in
    let found = c.of_schema-findings.ensures
    ∙ ap (λ (files : Files). of_schema files faults) c.in_ok-written.ensures.sources in
    record {
      schema = schema;
      faults = faults;
      means = c.in_ok-schema.ensures.means;
      is = answer-as c.args.reporting.now _ (length (texts_of c.args.paths.now)) _ (of_schema schema.sources
          faults) _ (form_text (form_of c.args.reporting.now) (ended (write_schema schema)))
          c.in_ok-answer.field-0 (sym (texts-length c.args.paths.now)) found output c.in_ok-answer.ensures;
    }
