use Rattle.std.proofs.Common.{◌≡◌, List, [], ◌++◌, map, sym, ap, ◌∙◌, append-nil}
use Rattle.apollo_field_usage.specs.Left.{Open, left_in, left_of, names_opened}
use Rattle.apollo_field_usage.specs.Occurrences.{Occurrence}
use Rattle.apollo_field_usage.specs.Seen.{seen}
use Rattle.apollo_field_usage.proofs.LeftLemmas.{left-ends, all-reached}
use Rattle.apollo_field_usage.proofs.reached.reached_fields.Goals as goal

pub loop-innermost-init : goal.loop-innermost-init
loop-innermost-init c = (λ i. map seen (c.new-fields.ensures.items i) ++ (c.in_ok-sets.ensures i).fields)
    ∙ all-reached c.args.document.now c.args.set.now

pub returns : goal.returns
returns c =
    let given = map seen c.loop-innermost.fields.items in
    let sets = c.loop-innermost.sets in
    let d = sets.document.now in
    let nothing : (left_of sets).fields ≡ [] =
    ap (λ (l : List Open). (left_in d (names_opened sets) l).fields) c.in_default.ensures.none
    ∙ (λ i. (left-ends d (names_opened sets) i).fields) in
    sym (append-nil given) ∙ ap (λ (l : List Occurrence). given ++ l) (sym nothing)
    ∙ c.loop-innermost.invariant
