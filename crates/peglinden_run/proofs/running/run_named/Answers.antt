use Rattle.std.proofs.Common.{◌∙◌, refl}
use Rattle.peglinden_run.proofs.running.run_named.Goals as goal

pub returns-clause-ends : goal.returns-clause-ends
returns-clause-ends g c = record {
  noted = g.E.Write.contents c.write_note.new.errors;
  notes = rw c.as_str.ensures.value at c.write_note.ensures.written;
  ends = rw c.in-Write.is (c.run_writing.ensures.ends, refl);
  quiet = λ done none. c.run_writing.ensures.quiet done
      ∙ c.write_note.ensures.quiet (c.as_str.ensures.value ∙ none);
}
