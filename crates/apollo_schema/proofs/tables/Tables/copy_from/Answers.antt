use Rattle.std.proofs.lemmas.List.Elements.{same_from_all_zip}
use Rattle.apollo_schema.proofs.CloneLemmas.{same_option}
use Rattle.apollo_schema.proofs.tables.Tables.copy_from.Goals as goal

pub returns : goal.returns
returns c = λ i. record c.args.original.now {
  schema_definition = same_option _ _ c.in_ok-copy_into.ensures i;
  schema_extensions = same_from_all_zip _ _ _ c.in_ok-copy_into-2.ensures (λ x y e. e) i;
  types = c.in_ok-copy_into-3.ensures.1 (λ x y e. e) (λ x y e. e) i;
  directive_definitions = c.in_ok-copy_into-4.ensures.1 (λ x y e. e) (λ x y e. e) i;
  waiting = c.in_ok-copy_into-5.ensures.1 (λ x y e. e)
      (λ xs ys h. same_from_all_zip _ xs ys h (λ x y e. e)) i;
  fold = c.args.self.now.fold;
}
