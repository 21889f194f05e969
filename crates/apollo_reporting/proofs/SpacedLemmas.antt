-- Reports, one after another.
use Rattle.std.proofs.Common.{◌≡◌, ℕ, ◌+◌, ◌<◌, List, [], ◌∷◌, ◌++◌, Option}
use Rattle.std.proofs.Common.{get_or, length, take, refl, sym, ap, subst, ◌∙◌}
use Rattle.std.proofs.Common.{append_assoc}
use Rattle.std.proofs.lemmas.List.{append-nil, take_more}
use Rattle.graphql_nodes.specs.Sources.{Files}
use Rattle.graphql_nodes.specs.declared.source.SourceSpan.{SourceSpan}
use Rattle.apollo_reporting.specs.Abouts.{AboutView}
use Rattle.apollo_reporting.specs.SpacedReports.{Adds, AreSpacedReports, IsSpacedReport}

module _ {E : Type 0} (sentence_of : E → Option (List ℕ)) (about_of : E → AboutView) (files : Files) where
  more : (faults : List (Option SourceSpan × E)) (fault : Option SourceSpan × E) (text last : List ℕ)
      → AreSpacedReports sentence_of about_of files faults text
      → IsSpacedReport sentence_of about_of files fault.0 fault.1 last
      → AreSpacedReports sentence_of about_of files (faults ++ fault ∷ []) (text ++ last)
  more [] fault text last are is =
      (last, ([], (ap (λ l. l ++ last) are ∙ sym (append-nil last), (is, refl))))
  more (first ∷ faults) fault text last are is =
      let rest = more faults fault are.1.0 last are.1.1.1.1 is in
      let all = ap (λ l. l ++ last) are.1.1.0 ∙ append_assoc are.0 are.1.0 last in
      (are.0, (are.1.0 ++ last, (all, (are.1.1.1.0, rest))))

  -- behind the reports of some faults that of the next one is added
  pub next-report : (faults : List (Option SourceSpan × E)) (i : ℕ) (fault d : Option SourceSpan × E)
      (held after : List ℕ) → i < length faults → fault ≡ get_or faults i d
      → AreSpacedReports sentence_of about_of files (take i faults) held
      → Adds (IsSpacedReport sentence_of about_of files fault.0 fault.1) held after
      → AreSpacedReports sentence_of about_of files (take (i + 1) faults) after
  next-report faults i fault d held after below is were now =
      let all = more (take i faults) (get_or faults i d) held now.0 were
      (subst (λ f. IsSpacedReport sentence_of about_of files f.0 f.1 now.0) is now.1.1) in
      rw (take_more faults i d below, now.1.0) all
