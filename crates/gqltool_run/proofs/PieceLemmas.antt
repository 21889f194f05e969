-- Texts that go out in pieces: one after the other, and what follows what is left.
use Rattle.std.proofs.Common.{◌≡◌, ℕ, List, [], ◌++◌, Option, Some, refl, sym, ap, subst, ◌∙◌, append_assoc}
use Rattle.program_io.specs.Writing.{GoesOut}
use Rattle.program_io.proofs.WritingLemmas.{goes-further, goes-with}
use Rattle.gqltool_run.specs.Pieces.{IsCutShort, IsSaid}

module _ {P Q R : List ℕ → Type 0} (join : (x y : List ℕ) → P x → Q y → R (x ++ y)) where
  -- one text is said, and there is another one to say
  pub said-before : (old new : Option (List ℕ)) (held left y : List ℕ) → IsSaid P old new held left → Q y
      → IsSaid R old new held (left ++ y)
  said-before old new held left y first then = (
    first.0 ++ y,
    (
      join first.0 y first.1.0 then,
      subst (λ t. GoesOut t old new (left ++ y)) (append_assoc held first.0 y)
          (goes-with _ old new left y first.1.1),
    ),
  )

  -- one text is said, and then the other
  pub said-both : (old middle new : Option (List ℕ)) (held left last : List ℕ) → IsSaid P old middle held left
      → IsSaid Q middle new left last → IsSaid R old new held last
  said-both old middle new held left last first then =
      let before = said-before old middle held left then.0 first then.1.0 in (
        before.0,
        (before.1.0, goes-further _ old middle new _ last before.1.1 then.1.1),
      )

  -- the one is cut short, or the other
  pub cut-first : (old new : Option (List ℕ)) (held y : List ℕ) → IsCutShort P old new held → Q y
      → IsCutShort R old new held
  cut-first old new held y cut then = (cut.0 ++ y, said-before old new held cut.0 y cut.1 then)

  pub cut-second : (old middle new : Option (List ℕ)) (held left : List ℕ) → IsSaid P old middle held left
      → IsCutShort Q middle new left → IsCutShort R old new held
  cut-second old middle new held left first cut =
      (cut.0, said-both old middle new held left cut.0 first cut.1)

-- where a line was added to what is held
pub said-more : {P Q : List ℕ → Type 0} (old middle new : Option (List ℕ)) (held left text last line : List ℕ)
    → IsSaid P old middle held left → ((x : List ℕ) → P x → Q (x ++ line)) → text ≡ left ++ line
    → GoesOut text middle new last → IsSaid Q old new held last
said-more {P = P} {Q = Q} old middle new held left text last line was join adds goes =
    let before = said-before {P = P} {Q = λ y. y ≡ line} {R = Q} (λ x y are same. subst
    (λ l. Q (x ++ l)) (sym same) (join x are)) old middle held left line was refl in (
      before.0,
      (
        before.1.0,
        goes-further _ old middle new _ last before.1.1 (subst (λ t. GoesOut t middle new last) adds goes),
      ),
    )

-- where what was said can be followed by a text that makes it whole, it is cut short
pub said-cut : {P Q : List ℕ → Type 0} (old new : Option (List ℕ)) (held left : List ℕ)
    → IsSaid P old new held left → ((x : List ℕ) → P x → (more : List ℕ) × Q (x ++ more))
    → IsCutShort Q old new held
said-cut old new held left was whole =
    let more = whole was.0 was.1.0 in (
      left ++ more.0,
      (
        was.0 ++ more.0,
        (
          more.1,
          subst (λ t. GoesOut t old new (left ++ more.0)) (append_assoc held was.0 more.0)
              (goes-with _ old new left more.0 was.1.1),
        ),
      ),
    )

-- where nothing goes out, what was said stands behind what was held
pub said-behind : {P : List ℕ → Type 0} (held text : List ℕ) → IsSaid P (Some []) (Some []) held text
    → (said : List ℕ) × ((text ≡ held ++ said) × P said)
said-behind held text is =
    let nothing : is.1.1.0 ≡ [] = sym is.1.1.1.0 in
    (is.0, (sym (is.1.1.1.1 ∙ ap (λ went. went ++ text) nothing), is.1.0))

-- and it is all there is, where nothing was held
pub said-kept : {P : List ℕ → Type 0} (text : List ℕ) → IsSaid P (Some []) (Some []) [] text → P text
said-kept {P = P} text is = let whole = said-behind {P = P} [] text is in subst P (sym whole.1.0) whole.1.1
