use Rattle.std.proofs.Common.{◌∙◌, ap}
use Rattle.peglinden_words.specs.declared.request.Request.TheVariants as requests
use Rattle.peglinden_c.specs.Files.{in_memory}
use Rattle.peglinden_c.proofs.CallLemmas.{made_of}
use Rattle.peglinden_c.proofs.asking.check_answered.Goals as goal

pub returns : goal.returns
returns c =
    let asked = c.in_ok-typing.ensures in
    let same = ap in_memory c.as_slice.ensures.value ∙ asked.files in
    made_of _ _ (requests.Check c.in_ok-typing.field-0.typing) _ _ c.what_comes.result
    c.what_comes.ensures same
    asked.typing ((c.in_ok-keys.ensures.proper, asked.proper.0), asked.proper.1)
