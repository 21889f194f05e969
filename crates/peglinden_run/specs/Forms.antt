-- The form that a request asks for.
use Rattle.std.specs.Prelude.{if◌then◌else◌}
use Rattle.peglinden_words.specs.declared.request.Reporting.{Reporting}
use Rattle.peglinden_run.specs.declared.form.Form.{Form}
use Rattle.peglinden_run.specs.declared.form.Form.TheVariants as forms

-- JSON where both flags are set, and words where none is
abbrev pub form_of : Reporting → Form
form_of reporting =
    if reporting.json then forms.Json else (if reporting.github then forms.Github else forms.Words)
