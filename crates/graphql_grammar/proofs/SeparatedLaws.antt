-- One or more with a sign between them: what is read is spelled so, and the other way round.
use Rattle.std.proofs.Common.{◌≡◌, Bool, true, false, cond, List, Option, refl}
use Rattle.graphql_grammar.specs.declared.kind.Kind.{Kind}
use Rattle.graphql_grammar.specs.Kinds.{Kinds, either_of, none, only}
use Rattle.graphql_grammar.specs.Pieces.{Piece, behind_sign, many, mapped, optional, separated, separated_of}
use Rattle.graphql_grammar.specs.Pieces.{seq, sign}
use Rattle.graphql_grammar.proofs.ManyLaws.{many_law}
use Rattle.graphql_grammar.proofs.PieceLaws.{Apart, Lawful, mapped_law, optional_law, seq_law, sign_law}

-- what goes on behind a sign is what goes on with the item
behind_apart : (may_be_empty : Bool) (more first : Kinds) → may_be_empty ≡ false → Apart more first
    → Apart (cond may_be_empty (either_of more none) more) first
behind_apart true more first solid far = absurd cc
behind_apart false more first solid far = far

-- what a piece that isn't empty begins with is its own
first_apart : (may_be_empty : Bool) (more first after : Kinds) → may_be_empty ≡ false → Apart more first
    → Apart more (cond may_be_empty (either_of first after) first)
first_apart true more first after solid far = absurd cc
first_apart false more first after solid far = far

-- the sign doesn't go on with an item, and doesn't begin one
pub separated_law : {A : Type 0} (kind : Kind) (p : Piece A) → Lawful p → p.may_be_empty ≡ false
    → Apart p.more (only kind) → Apart (either_of none (only kind)) p.first → Lawful (separated kind p)
separated_law {A} kind p pl solid far before =
    let o : Piece (Option (Unit {0})) = optional (sign kind) in
    let s : Piece (Unit {0} × A) = seq (sign kind) p in
    let b : Piece A = mapped behind_sign s in
    let bl : Lawful b = mapped_law behind_sign s (seq_law (sign kind) p (sign_law kind) pl
    (λ kind h. refl)) in
    let nl : Lawful (seq p (many b)) =
    seq_law p (many b) pl (many_law b bl refl (behind_apart p.may_be_empty p.more (only kind) solid far))
    far in
    let w : Piece (Option (Unit {0}) × (A × List A)) = seq o (seq p (many b)) in
    mapped_law separated_of w (seq_law o (seq p (many b)) (optional_law (sign kind) (sign_law kind) refl) nl
    (first_apart p.may_be_empty (either_of none (only kind)) p.first (only kind) solid before))
