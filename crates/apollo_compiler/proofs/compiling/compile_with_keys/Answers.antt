use Rattle.std.proofs.Common.{false}
use Rattle.std.proofs.lemmas.Result.{err_from_is_err_and}
use Rattle.apollo_compiler.specs.Compilation.{IsCompiled}
use Rattle.apollo_compiler.specs.Lists.{schema_list}
use Rattle.apollo_compiler.specs.declared.compiled.Compiled.{Compiled}
use Rattle.apollo_compiler.proofs.HeadlineLemmas.{rebuilt-as_it_was}
use Rattle.apollo_compiler.proofs.compiling.compile_with_keys.Goals as goal

pub returns : goal.returns
returns c =
    let rebuilt = c.in_ok-rebuilt.rebuilt in
    let compiled : Compiled = record {
      schema = c.in_ok-schema.schema;
      schema_faults = c.in_ok-schema.schema_faults;
      ast = rebuilt.ast;
      rebuilt = rebuilt.schema;
      rebuilt_faults = rebuilt.faults;
      rebuilt_ast = rebuilt.ast_again;
      document = c.in_ok-document.document;
      document_faults = c.in_ok-document.document_faults;
      erased = c.in_ok-erased.erased;
    } in
    let is : IsCompiled c.args.options c.args.schema_documents.now c.args.executable_documents.now
    c.args.type_system_definitions_are_errors compiled = record {
      schema = c.in_ok-schema.ensures.built.means;
      schema_sources = c.in_ok-schema.ensures.built.sources;
      schema_faults = c.in_ok-schema.ensures.built.faults;
      ast = c.in_ok-rebuilt.ensures.ast;
      rebuilt = c.in_ok-rebuilt.ensures.means;
      rebuilt_sources = c.in_ok-rebuilt.ensures.sources;
      rebuilt_faults = c.in_ok-rebuilt.ensures.faults;
      rebuilt_ast = c.in_ok-rebuilt.ensures.ast_again;
      document = c.in_ok-document.ensures.means;
      document_sources = c.in_ok-document.ensures.sources;
      document_faults = c.in_ok-document.ensures.faults;
      erased = c.in_ok-erased.ensures.written;
    } in
    record {
      compiled = is;
      rebuilds = rebuilt-as_it_was c.headline.ensures.rebuilds c.args.options c.args.schema_documents.now
          c.args.executable_documents.now c.args.type_system_definitions_are_errors compiled is;
      spent = λ other. cc;
    }

-- a write-out spends no more numbers than the list that it comes of
pub returns-in_err-rebuilt-clause-spent : goal.returns-in_err-rebuilt-clause-spent
returns-in_err-rebuilt-clause-spent c = λ spent.
    let exit = err_from_is_err_and c.from_residual-in_err-rebuilt.result
    c.from_residual-in_err-rebuilt.ensures.1 in
    c.a_write_out_folds_no_more.ensures.spends 0 0 c.args.options.adopt_orphan_extensions false
    (schema_list c.args.options c.args.schema_documents.now) c.in_ok-schema.schema
    c.in_ok-schema.ensures.built.means (c.in_err-rebuilt.ensures.spent cc)
