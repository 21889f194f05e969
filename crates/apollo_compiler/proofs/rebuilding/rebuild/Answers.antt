use Rattle.std.proofs.Common.{[], true, List, ap, subst, ◌∙◌}
use Rattle.std.proofs.lemmas.Result.{err_from_is_err_and}
use Rattle.graphql_nodes.specs.Sources.{Files, merged}
use Rattle.apollo_meaning.specs.Faults.ListFaults.{faults_of}
use Rattle.apollo_meaning.specs.Items.ListItems.{Added}
use Rattle.apollo_meaning.specs.Order.SpentIds.{SpendsIds}
use Rattle.apollo_schema.specs.MeantSchema.{MeansSchema}
use Rattle.apollo_compiler.specs.Lists.{all_sources}
use Rattle.apollo_compiler.proofs.ListLemmas.{schema_list-written}
use Rattle.apollo_compiler.proofs.rebuilding.rebuild.Goals as goal

pub returns-clause-means : goal.returns-clause-means
returns-clause-means c = subst (λ (l : List Added). MeansSchema 0 true l c.in_ok-again.again)
    (schema_list-written c.from_ref.result.now c.in_ok-document.document c.args.schema.now
    c.from_ref.ensures.value c.in_ok-document.ensures.definitions) c.in_ok-again.ensures.built.means

pub returns-clause-sources : goal.returns-clause-sources
returns-clause-sources c = c.in_ok-again.ensures.built.sources ∙ ap all_sources c.from_ref.ensures.value
    ∙ ap (λ (files : Files). merged [] files) c.in_ok-document.ensures.sources

pub returns-clause-faults : goal.returns-clause-faults
returns-clause-faults c = c.in_ok-again.ensures.built.faults
    ∙ ap (faults_of true) (schema_list-written c.from_ref.result.now c.in_ok-document.document
    c.args.schema.now c.from_ref.ensures.value c.in_ok-document.ensures.definitions)

pub returns-in_err-again-clause-spent : goal.returns-in_err-again-clause-spent
returns-in_err-again-clause-spent c = λ spent.
    let exit = err_from_is_err_and c.from_residual-in_err-again.result
    c.from_residual-in_err-again.ensures.1 in
    subst (SpendsIds 0 true) (schema_list-written c.from_ref.result.now c.in_ok-document.document
    c.args.schema.now c.from_ref.ensures.value c.in_ok-document.ensures.definitions)
    (c.in_err-again.ensures.spent cc)
