-- Why nothing is built, where nothing is compiled.
use Rattle.std.specs.Prelude.{IsErrAnd}
use Rattle.std.proofs.Common.{◌≡◌, ℕ, List, IfErr, Result, refl}
use Rattle.std.proofs.lemmas.Result.{err_from_is_err_and}
use Rattle.graphql_ast.specs.declared.document.Document.{Document}
use Rattle.apollo_meaning.specs.Order.SpentIds.{SpendsIds}
use Rattle.apollo_compiler.specs.Lists.{no_options, schema_list}
use Rattle.apollo_compiler.specs.declared.compile_error.CompileError.{CompileError}
use Rattle.apollo_compiler.specs.declared.compile_error.CompileError.TheVariants as e
use Rattle.apollo_compiler.specs.declared.compile_options.CompileOptions.{CompileOptions}
use Rattle.bench_notation.specs.Documents.{AreDividedDocumentsOf, AreDocumentsOf}
use Rattle.gqltool_run.specs.Building.{IsCause}
use Rattle.gqltool_run.specs.DocumentBuilding.{IsDocumentCause}
use Rattle.gqltool_run.specs.declared.failure.Failure.{Failure}
use Rattle.gqltool_run.specs.declared.failure.Failure.TheVariants as failures

compiling-cause : (options : CompileOptions) (input : List ℕ) (ds : List Document) (error : CompileError)
    → AreDocumentsOf input ds
    → (error ≡ e.ExtensionIds → SpendsIds 0 options.adopt_orphan_extensions (schema_list options ds))
    → IsCause options input (failures.Exhausted error)
compiling-cause options input ds e.Memory says spends = tt
compiling-cause options input ds e.ExtensionIds says spends = (ds, (says, spends refl))

-- and that is what a run ends with
pub compiled-cause : {T : Type 0} (r : Result T Failure) (options : CompileOptions) (input : List ℕ)
    (ds handed : List Document) (error : CompileError)
    → IsErrAnd r (λ failure. failure ≡ failures.Exhausted error) → AreDocumentsOf input ds → handed ≡ ds
    → (error ≡ e.ExtensionIds → SpendsIds 0 options.adopt_orphan_extensions (schema_list options handed))
    → IfErr r (IsCause options input)
compiled-cause r options input ds handed error left says is spends =
    let exit = err_from_is_err_and r left in
    rw (exit.1, exit.2) (compiling-cause options input ds error says (λ spent. rw is at (spends spent)))

pub compiling-document_cause : (input : List ℕ) (ds es : List Document) (error : CompileError)
    → AreDividedDocumentsOf input ds es
    → (error ≡ e.ExtensionIds → SpendsIds 0 no_options.adopt_orphan_extensions (schema_list no_options ds))
    → IsDocumentCause input (failures.Exhausted error)
compiling-document_cause input ds es e.Memory says spends = tt
compiling-document_cause input ds es e.ExtensionIds says spends = (ds, (es, (says, spends refl)))
