use Rattle.std.proofs.Common.{◌≡◌, ◌∙◌, ℕ, List, ap, subst, sym, take}
use Rattle.graphql_tokens.specs.First.{seen}
use Rattle.peglinden_run.specs.CommentPlaces.{AddsComments, before_token}
use Rattle.peglinden_run.proofs.CommentLemmas.{all-before, first-passed}
use Rattle.peglinden_run.proofs.comment_places.pass_token.Goals as goal

pub returns-in_ok-push_comments-in-Ok-Some-clause-adds :
    goal.returns-in_ok-push_comments-in-Ok-Some-clause-adds
returns-in_ok-push_comments-in-Ok-Some-clause-adds c =
    let text = c.args.text.now in
    let passed = first-passed text (seen c.in-Ok-Some.first)
    (rw c.in-Ok-Some.field-0-is at c.in-Ok-Some.ensures) in
    let before : c.at_most.result.now ≡ before_token text = c.at_most.ensures
    ∙ ap (take c.in-Ok-Some.first.passed) c.as_bytes-bytes.ensures.value ∙ ap (λ (n : ℕ). take n text) passed
    in
    subst (λ (l : List ℕ). AddsComments l c.args.at c.args.places.now.items c.push_comments.new.places.items)
    before c.in_ok-push_comments-in-Ok-Some.ensures

pub returns-in_ok-push_comments-in-Ok-None-clause-adds :
    goal.returns-in_ok-push_comments-in-Ok-None-clause-adds
returns-in_ok-push_comments-in-Ok-None-clause-adds c =
    let text = c.args.text.now in
    let before : c.as_bytes-bytes.result.now ≡ before_token text = c.as_bytes-bytes.ensures.value
    ∙ sym (all-before text (rw c.in-Ok-None.field-0-is at c.in-Ok-None.ensures)) in
    subst (λ (l : List ℕ). AddsComments l c.args.at c.args.places.now.items
    c.push_comments-in-Ok-None.new.places.items) before c.in_ok-push_comments-in-Ok-None.ensures
