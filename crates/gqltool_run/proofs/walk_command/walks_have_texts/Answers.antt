use Rattle.std.proofs.Common.{◌-◌, ◌^◌, ◌++◌, ℕ, Bool, true, false, List, codes, min, refl}
use Rattle.std.specs.List.{flat_map}
use Rattle.apollo_executable.specs.Walks.Plain.{fragments_of, plain}
use Rattle.gqltool_run.specs.WalkCommand.{IsWalkText, field_line, turns_line}
use Rattle.gqltool_run.proofs.walk_command.walks_have_texts.Goals as goal

pub returns-clause-turns : goal.returns-clause-turns
returns-clause-turns c = λ deep document set. c.walks_take_few_turns.ensures.all (fragments_of deep document)
    (plain deep set.selections)

pub returns-clause-texts : goal.returns-clause-texts
returns-clause-texts c = λ document set.
    let walk : (deep : Bool) (word turns_word : List ℕ) → (text : List ℕ) × IsWalkText deep word turns_word
    document set text = λ deep word turns_word.
    let walked = c.walks_reach_each_field_once.ensures (fragments_of deep document)
    (plain deep set.selections) in
    let taken = c.walks_take_few_turns.ensures.all (fragments_of deep document)
    (plain deep set.selections) in (
      flat_map (field_line word) walked.0 ++ turns_line turns_word (min taken.0 (2 ^ 64 - 1)),
      record { fields = walked.0; walked = walked.1; turns = taken.0; takes = taken.1; says = refl },
    ) in
    let root = walk false (codes "root ") (codes "root-turns ") in
    let all = walk true (codes "all ") (codes "all-turns ") in (
      root.0 ++ all.0,
      record { root = root.0; root_says = root.1; all = all.0; all_says = all.1; says = refl },
    )
