use Rattle.std.proofs.Common.{◌≡◌, ◌∙◌, ◌++◌, ap}
use Rattle.peglinden_words.specs.declared.request.Request.TheVariants as requests
use Rattle.peglinden_run.specs.Documents.{texts_of}
use Rattle.peglinden_c.specs.Calls.{IsSchemaOf}
use Rattle.peglinden_c.specs.Files.{handed, in_memory, paths_of}
use Rattle.peglinden_c.proofs.CallLemmas.{made_of}
use Rattle.peglinden_c.proofs.asking.schema_answered.Goals as goal

pub returns : goal.returns
returns c =
    let same : in_memory c.as_slice.result.now ≡ handed c.args.files.now =
    ap in_memory c.as_slice.ensures.value ∙ c.in_ok-push_files.ensures.files
    ∙ ap (λ ps. in_memory ps ++ handed c.args.files.now) c.new-pairs.ensures.items in
    let paths : texts_of c.push_files.new.paths.items ≡ paths_of c.args.files.now =
    c.in_ok-push_files.ensures.paths
    ∙ ap (λ ps. texts_of ps ++ paths_of c.args.files.now) c.new-paths.ensures.items in
    let request = requests.Schema c.has.result c.has-2.result c.reporting_of.result c.push_files.new.paths in
    let asked : IsSchemaOf c.args.flags c.args.max_faults (paths_of c.args.files.now) request =
    (c.has.ensures, c.has-2.ensures, c.reporting_of.ensures, paths) in
    made_of _ _ request _ _ c.what_comes.result c.what_comes.ensures same asked
    (c.in_ok-keys.ensures.proper, c.in_ok-push_files.ensures.proper)
