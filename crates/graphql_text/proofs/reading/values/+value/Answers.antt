-- One more is read, as the list is; what may nest stands one deeper.
use Rattle.std.proofs.Common.{◌∙◌, sym, refl, subst}
use Rattle.graphql_grammar.specs.Pieces.{Gives}
use Rattle.graphql_grammar.specs.Standing.{standing}
use Rattle.graphql_grammar.proofs.LoopLaws.{goes_on}
use Rattle.graphql_grammar.proofs.ManyLaws.{shorter}
use Rattle.graphql_productions.specs.Values.{group, value_node}
use Rattle.graphql_productions.proofs.NestedLemmas.{one_group}
use Rattle.graphql_productions.proofs.ValueLaws.{member_node_tame, value_node_tame}
use Rattle.graphql_text.specs.declared.reading.target.Target.{Target}
use Rattle.graphql_text.proofs.reading.values.+value.Goals as goal

pub values-values-smaller : goal.values-values-smaller
values-values-smaller t c =
    let at = c.args.target in
    shorter _ (value_node_tame at.file at.constant at.depth).law refl (standing c.values.words) _
    (standing c.value_node.new.words) c.in_ok-node.ensures

pub values-values-preserved : goal.values-values-preserved
values-values-preserved t c =
    let at = c.args.target in
    rw c.in_ok-push.ensures.ok (goes_on _ (value_node_tame at.file at.constant at.depth).law refl _
    (standing c.values.words) _ (standing c.value_node.new.words) _ (sym c.next_is_value.ensures
    ∙ c.values-test.true) c.in_ok-node.ensures c.values.invariant)

pub members-members-smaller : goal.members-members-smaller
members-members-smaller t c =
    let at = c.args.target in
    shorter _ (member_node_tame at.file at.constant at.depth).law refl (standing c.members.words) _
    (standing c.member.new.words) c.in_ok-next.ensures

pub members-members-preserved : goal.members-members-preserved
members-members-preserved t c =
    let at = c.args.target in
    rw c.in_ok-push.ensures.ok (goes_on _ (member_node_tame at.file at.constant at.depth).law refl _
    (standing c.members.words) _ (standing c.member.new.words) _ (sym c.next_is_name.ensures
    ∙ c.members-test.true) c.in_ok-next.ensures c.members.invariant)

pub nested_group-returns : goal.nested_group-returns
nested_group-returns t c =
    let at = c.args.target in
    let (opens, one_less) = c.in_ok-inside.ensures in
    rw (one_group at.file at.constant at.depth (standing c.args.words.now) opens)
    (subst (λ (inside : Target). Gives c.group.result (standing c.group.new.words)
    ((group inside.file (value_node inside.file inside.constant inside.depth)).read
    (standing c.args.words.now))) one_less c.group.ensures)
