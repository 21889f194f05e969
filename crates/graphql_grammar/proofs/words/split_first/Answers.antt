-- What stands at the front of a text comes first.
use Rattle.std.proofs.Common.{◌-◌, [], Option, Ok, ap, sym, ◌∙◌}
use Rattle.graphql_tokens.specs.First.{seen, seen_first}
use Rattle.graphql_tokens.specs.declared.first.FirstToken.{FirstToken}
use Rattle.graphql_grammar.specs.Words.{WordView}
use Rattle.graphql_grammar.specs.declared.kind.Kind.TheVariants.{TooMany}
use Rattle.graphql_grammar.proofs.WordLemmas.{next_left, none_left, none_of_nothing, too_many_left}
use Rattle.graphql_grammar.proofs.WordLemmas.{wrong_left}
use Rattle.graphql_grammar.proofs.words.split_first.Goals as goal

pub returns-in-Ok-None : goal.returns-in-Ok-None
returns-in-Ok-None c = sym (none_left c.args.allowed c.args.total c.args.text.now
    (ap (λ (o : Option FirstToken). seen_first (Ok o)) (sym c.in-Ok-None.field-0-is) ∙ c.in-Ok-None.ensures))

pub returns-then-allowed-eq0 : goal.returns-then-allowed-eq0
returns-then-allowed-eq0 c = simp (
  none_of_nothing (c.args.allowed - 1) c.args.total,
  c.too_many.ensures ∙ ap (λ (w : WordView). record w { kind = TooMany; text = [] }) c.word_of-word.ensures,
  too_many_left c.args.allowed c.args.total c.args.text.now (seen c.in-Ok-Some.token) c.if-allowed-eq0.true
      (ap (λ (o : Option FirstToken). seen_first (Ok o)) (sym c.in-Ok-Some.field-0-is)
      ∙ c.in-Ok-Some.ensures),
)

pub returns-else-allowed-eq0 : goal.returns-else-allowed-eq0
returns-else-allowed-eq0 c = simp (
  c.word_of-word.ensures,
  next_left c.args.allowed c.args.total c.args.text.now (seen c.in-Ok-Some.token)
      c.if-allowed-eq0.false (ap (λ (o : Option FirstToken). seen_first (Ok o)) (sym c.in-Ok-Some.field-0-is)
      ∙ c.in-Ok-Some.ensures),
)

pub returns-in-Err : goal.returns-in-Err
returns-in-Err c = simp (
  none_of_nothing (c.args.allowed - 1) c.args.total,
  c.wrong.ensures,
  wrong_left c.args.allowed c.args.total c.args.text.now c.in-Err.error c.in-Err.ensures,
)
