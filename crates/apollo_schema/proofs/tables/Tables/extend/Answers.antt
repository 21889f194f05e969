use Rattle.apollo_meaning.proofs.Prelude.{◌≡◌, false, cond, [], ◌∷◌, ◌++◌, Some, is_some, refl, sym, ap, ◌∙◌}
use Rattle.apollo_meaning.proofs.Prelude.{lookup, option_copied_mut, same, by_text, key_of, items_held}
use Rattle.apollo_folding.specs.DeclaredParts.{part_seen}
use Rattle.apollo_schema.proofs.Stands.StandsLemmas.{Stands-early, Stands-late, late-spent}
use Rattle.apollo_folding.proofs.RefusalLemmas.{RefusedAs-through}
use Rattle.apollo_schema.proofs.tables.Tables.extend.Goals as goal

pub returns-in_default-clause-stands : goal.returns-in_default-clause-stands
returns-in_default-clause-stands c = λ is start xs was.
    let t = c.args.self.now in
    let p = part_seen c.args.extension.now in
    let absent : is_some (lookup (by_text (key_of p)) t.types) ≡ false =
    ap is_some (sym c.get_mut.ensures.value ∙ ap option_copied_mut c.in_default.is) in
    Stands-early was p _ refl refl c.get_mut.follows.holds-at-none refl refl c.in_ok-add_waiting.ensures.names
    absent (λ n. c.in_ok-add_waiting.ensures.waits n
    ∙ ap (λ x. cond (same n (key_of p)) (items_held (lookup (by_text n) t.waiting) ++ x ∷ []) (items_held
    (lookup (by_text n) t.waiting))) is)

pub returns-in_err-extend_type-clause-refused : goal.returns-in_err-extend_type-clause-refused
returns-in_err-extend_type-clause-refused c =
    let t = c.args.self.now in
    let p = part_seen c.args.extension.now in
    let ty = c.in-Some.ty.now in
    RefusedAs-through c.from_residual-in_err-extend_type.result c.in_err-extend_type.field-0.0
    c.from_residual-in_err-extend_type.ensures.1 (λ full start xs was.
    let there : lookup (by_text (key_of p)) t.types ≡ Some ty = sym c.get_mut.ensures.value
    ∙ ap option_copied_mut c.in-Some.is in
    late-spent was p ty there full) c.in_err-extend_type.ensures.refused

pub returns-clause-stands : goal.returns-clause-stands
returns-clause-stands c = λ is start xs was.
    let t = c.args.self.now in
    let p = part_seen c.args.extension.now in
    let ty = c.in-Some.ty.now in
    let there : lookup (by_text (key_of p)) t.types ≡ Some ty = sym c.get_mut.ensures.value
    ∙ ap option_copied_mut c.in-Some.is in
    Stands-late was p _ ty c.extend_type.new.ty there refl refl (c.get_mut.follows.holds c.extend_type.new.ty)
    refl refl c.in_ok-extend_type.ensures.faults c.in_ok-extend_type.ensures.folded
    c.in_ok-extend_type.ensures.next
