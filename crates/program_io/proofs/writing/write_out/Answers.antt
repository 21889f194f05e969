use Rattle.std.proofs.Common.{[], Result, Ok, Err, OnErr, sym}
use Rattle.std.proofs.lemmas.List.{append-nil}
use Rattle.std.proofs.KnownBytes.{Appends-kept}
use Rattle.program_io.proofs.writing.write_out.Goals as goal

at_any_error : {T E P : Type 0} (r : Result T E) → P → OnErr r P
at_any_error (Ok x) p = tt
at_any_error (Err e) p = p

pub returns-clause-begun : goal.returns-clause-begun
returns-clause-begun g c =
    let contents = g.O.Write.contents in
    let text = c.args.text.now in
    at_any_error c.flush.result (
      [],
      (
        text,
        (
          Appends-kept (contents c.args.output.now) (contents c.write_text.new.output)
              (contents c.flush.new.self) text c.in_ok-write_text.ensures.written c.flush.ensures.bytes,
          sym (append-nil text),
        ),
      ),
    )
