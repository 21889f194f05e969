use Rattle.apollo_meaning.proofs.Prelude.{◌≡◌, ℕ, ◌+◌, [], ◌∷◌, ◌++◌, map, length, take, sym, ap, ◌∙◌}
use Rattle.apollo_meaning.proofs.Prelude.{arith, take_all, next_number, source_at}
use Rattle.apollo_meaning.proofs.Prelude.{schema_extension_part, schema_from, schema_faults, schema_numbered}
use Rattle.apollo_meaning.proofs.Prelude.{schema_joining_faults, each_after-push, SchemaPart}
use Rattle.std.proofs.lemmas.List.{length-map, length-take-le}
use Rattle.apollo_meaning.proofs.Faults.KeptLemmas.{map-turn}
use Rattle.apollo_folding.proofs.JoiningLemmas.{found-turn, joined-turn}
use Rattle.apollo_folding.specs.declared.fold.Fold.{Fold}
use Rattle.apollo_component.specs.Extensions.{extension_id}
use Rattle.apollo_component.specs.declared.extension.ComponentOrigin.TheVariants.{Extension}
use Rattle.apollo_folding.proofs.fold.Fold.extend_schema_by_all.Goals as goal

pub loop-extension-preserved : goal.loop-extension-preserved
loop-extension-preserved c =
    let xs = c.args.extensions.now in
    let i = c.loop-extension.extension-index in
    let start = next_number c.args.self.now.ids in
    let so_far = map schema_extension_part (take i xs) in
    let this = schema_extension_part c.extension-item.result in
    let origin = λ (e : ℕ × SchemaPart). Extension (extension_id e.0 e.1.location) in
    let was = c.loop-extension.invariant in
    let now = c.in_ok-extend_schema.ensures in
    let size : length (take i xs) ≡ i = length-take-le i xs (omega arith) in
    let size_after : length (take (i + 1) xs) ≡ i + 1 = length-take-le (i + 1) xs (omega arith) in
    let at : next_number c.loop-extension.self.ids ≡ start + length (take i xs) =
    ap (λ (f : Fold). next_number f.ids) was.next in
    let first : next_number c.loop-extension.self.ids ≡ start + length so_far =
    at ∙ ap (λ n. start + n) (sym (length-map (take i xs) schema_extension_part)) in
    let turn : map schema_extension_part (take (i + 1) xs) ≡ so_far ++ this ∷ [] =
    map-turn schema_extension_part [] xs i _ (omega arith) c.extension-item.is in
    record {
      folded = λ head done h. now.folded head (done ++ schema_numbered start so_far) (was.folded head done h)
          ∙ joined-turn origin done start so_far (schema_from head) _ (this ∷ []) _ first turn;
      faults = λ head done h. now.faults head (done ++ schema_numbered start so_far) (was.folded head done h)
          ∙ found-turn origin done start so_far (λ parts. schema_faults parts this) _ _ _ _
          (was.faults head done h) (ap (schema_joining_faults (map (λ s. s.1) done)) turn
          ∙ each_after-push schema_faults (map (λ s. s.1) done) so_far this);
      next =
          let sum : next_number c.loop-extension.self.ids + 1 ≡ start + length (take (i + 1) xs) =
          omega (arith, at, size, size_after) in
          now.next
          ∙ (λ j. record (was.next j) { ids = source_at (sum j); faults = c.extend_schema.new.self.faults });
    }

pub returns-clause-folded : goal.returns-clause-folded
returns-clause-folded c = rw (take_all c.loop-extension.extension-index c.args.extensions.now
    (omega arith)) at c.loop-extension.invariant.folded

pub returns-clause-faults : goal.returns-clause-faults
returns-clause-faults c = rw (take_all c.loop-extension.extension-index c.args.extensions.now
    (omega arith)) at c.loop-extension.invariant.faults
