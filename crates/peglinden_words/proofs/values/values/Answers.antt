-- What is copied, or nothing, is the values by the rows of the matches.
use Rattle.std.proofs.Common.{◌∙◌, ◌++◌, ap, option_map, sym, []}
use Rattle.std.specs.Option.{unwrap_or}
use Rattle.clap.specs.Matches.{found_of}
use Rattle.clap.specs.Walk.{texts}
use Rattle.clap.proofs.WalkLemmas.{raw_values-rows}
use Rattle.peglinden_words.proofs.ValueLemmas.{texts_or}
use Rattle.peglinden_words.proofs.values.values.Goals as goal
use Rattle.peglinden_words.proofs.values.values.Goals.{in-Some+in_ok-extend_from_slice, in_default}

pub returns : goal.returns
returns c =
    let given = texts_or c.get_strs.result _
    (c.get_strs.ensures ∙ raw_values-rows (found_of c.args.found.now) c.args.name.now) in
    elim c.match-get_strs.branch [
      | in-Some+in_ok-extend_from_slice w ↦
          ap (λ v. texts v.items) w.values-is
          ∙ ap texts
          (w.in_ok-extend_from_slice.ensures.items
          ∙ ap (λ xs. xs ++ w.in-Some.given.now) c.new-values.ensures.items)
          ∙ ap (λ o. texts (unwrap_or (option_map (λ s. s.now) o) [])) (sym w.in-Some.is) ∙ given
      | in_default w ↦
          ap (λ v. texts v.items) w.values-is ∙ ap texts c.new-values.ensures.items
          ∙ ap (λ o. texts (unwrap_or (option_map (λ s. s.now) o) [])) (sym w.in_default.is) ∙ given
    ]
