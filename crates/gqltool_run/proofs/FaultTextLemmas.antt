-- The lines of faults, as they are said one by one.
use Rattle.std.proofs.Common.{◌≡◌, ℕ, ◌+◌, ◌<◌, List, [], ◌∷◌, ◌++◌, Option, get_or, length, take, drop, refl}
use Rattle.std.proofs.Common.{sym, ap, subst, ◌∙◌, append_assoc, take-append-drop}
use Rattle.std.proofs.lemmas.List.{append-nil, take_more}
use Rattle.graphql_nodes.specs.declared.source.SourceSpan.{SourceSpan}
use Rattle.gqltool_run.specs.FaultLines.{AreFaultLines, fault_line}

module _ {E : Type 0} where
  -- the lines of faults, and then those of others
  pub AreFaultLines-append : (fs gs : List (Option SourceSpan × E)) (lines more : List ℕ)
      → AreFaultLines fs lines → AreFaultLines gs more → AreFaultLines (fs ++ gs) (lines ++ more)
  AreFaultLines-append [] gs lines more none are = subst (AreFaultLines gs) (ap (λ l. l ++ more) (sym none))
      are
  AreFaultLines-append (f ∷ fs) gs lines more are others =
      let rest = are.1.0 in (
        are.0,
        (
          rest ++ more,
          (
            ap (λ l. l ++ more) are.1.1.0 ∙ append_assoc (fault_line f.0 are.0) rest more,
            AreFaultLines-append fs gs rest more are.1.1.1 others,
          ),
        ),
      )

  -- those of one fault more
  pub AreFaultLines-turn : (fs : List (Option SourceSpan × E)) (i : ℕ) (f : Option SourceSpan
      × E) (lines said : List ℕ) → i < length fs → f ≡ get_or fs i f → AreFaultLines (take i fs) lines
      → AreFaultLines (take (i + 1) fs) (lines ++ fault_line f.0 said)
  AreFaultLines-turn fs i f lines said lt is are =
      let more : take (i + 1) fs ≡ take i fs ++ f ∷ [] = take_more fs i f lt
      ∙ ap (λ g. take i fs ++ g ∷ []) (sym is) in
      subst (λ l. AreFaultLines l (lines ++ fault_line f.0 said)) (sym more) (AreFaultLines-append (take i fs)
      (f ∷ []) lines (fault_line f.0 said) are (said, ([], (sym (append-nil _), refl))))

  -- any faults have some
  pub fault_lines : (fs : List (Option SourceSpan × E)) → (lines : List ℕ) × AreFaultLines fs lines
  fault_lines [] = ([], refl)
  fault_lines (f ∷ fs) = let rest =
      fault_lines fs in (fault_line f.0 [] ++ rest.0, ([], (rest.0, (refl, rest.1))))

  -- the lines of the first faults go on to those of all
  pub AreFaultLines-whole : (fs : List (Option SourceSpan × E)) (i : ℕ) (lines : List ℕ)
      → AreFaultLines (take i fs) lines → (more : List ℕ) × AreFaultLines fs (lines ++ more)
  AreFaultLines-whole fs i lines are =
      let rest = fault_lines _ in (
        rest.0,
        subst (λ l. AreFaultLines l (lines ++ rest.0)) (take-append-drop i fs)
            (AreFaultLines-append (take i fs) (drop i fs) lines rest.0 are rest.1),
      )
