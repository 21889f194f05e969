-- Each text is a name or none, so one that is not none is a name.
use Rattle.std.proofs.Common.{ℕ, ◌⊎◌, List, [], ◌∷◌, arith, inl, inr}
use Rattle.std.proofs.lemmas.Bool.{cases_lt}
use Rattle.graphql_nodes.specs.NameSyntax.{IsName, IsNameContinue, IsNameStart}

start_or_not : (c : ℕ) → IsNameStart c ⊎ ¬ IsNameStart c
start_or_not c = elim (cases_lt c 65) [
  | inl low ↦ inr (λ h. grind (arith, h, low))
  | inr from_upper ↦ elim (cases_lt c 91) [
    | inl upper ↦ inl (inl (inl (omega (arith, from_upper), omega (arith, upper))))
    | inr past_upper ↦ elim (cases_lt c 95) [
      | inl low ↦ inr (λ h. grind (arith, h, past_upper, low))
      | inr from_line ↦ elim (cases_lt 95 c) [
        | inr line ↦ inl (inr (omega (arith, from_line, line)))
        | inl past_line ↦ elim (cases_lt c 97) [
          | inl low ↦ inr (λ h. grind (arith, h, past_line, low))
          | inr from_lower ↦ elim (cases_lt c 123) [
            | inl lower ↦ inl (inl (inr (omega (arith, from_lower), omega (arith, lower))))
            | inr past_lower ↦ inr (λ h. grind (arith, h, past_lower))
          ]
        ]
      ]
    ]
  ]
]

continue_or_not : (c : ℕ) → IsNameContinue c ⊎ ¬ IsNameContinue c
continue_or_not c = elim (start_or_not c) [
  | inl start ↦ inl (inl start)
  | inr none ↦ elim (cases_lt c 48) [
    | inl low ↦ inr (λ h. grind (arith, h, none, low))
    | inr from_digit ↦ elim (cases_lt c 58) [
      | inl digit ↦ inl (inr (omega (arith, from_digit), omega (arith, digit)))
      | inr past_digit ↦ inr (λ h. grind (arith, h, none, past_digit))
    ]
  ]
]

not_none : {P : Type 0} → P ⊎ ¬ P → ¬ ¬ P → P
not_none (inl is) some = is
not_none (inr none) some = absurd (some none)

pub not_no_name : (text : List ℕ) → ¬ ¬ IsName text → IsName text
not_no_name [] some = some (λ h. h)
not_no_name (c ∷ cs) some = (
  not_none (start_or_not c) (λ none. some (λ h. none h.0)),
  λ i d lt. not_none (continue_or_not _) (λ none. some (λ h. none (h.1 i d lt))),
)
