-- The lines of `walk`, put together: those of walks, and then those of the faults of a schema and of a
-- document.
use Rattle.std.proofs.Common.{◌≡◌, ℕ, List, ◌++◌, Option, refl, ap, ◌∙◌, append_assoc}
use Rattle.apollo_document.specs.Typable.{Fault as DocumentFault}
use Rattle.apollo_executable.specs.declared.document.ExecutableDocument.{ExecutableDocument}
use Rattle.apollo_meaning.specs.Faults.Collisions.{Fault}
use Rattle.gqltool_run.specs.DocumentAnswers.{WithFaultLines}
use Rattle.gqltool_run.specs.FaultLines.{AreFaultLines}
use Rattle.gqltool_run.specs.Pieces.{IsCutShort, IsSaid}
use Rattle.gqltool_run.specs.WalkCommand.{AreWalksText}
use Rattle.gqltool_run.proofs.FaultTextLemmas.{fault_lines}
use Rattle.gqltool_run.proofs.PieceLemmas.{cut-first, cut-second, said-both}

module _ (document : ExecutableDocument) (fs : List Fault) (gs : List DocumentFault) where
  -- the walks, and then the faults of the schema
  abbrev AreFirstLines : List ℕ → Type 0
  AreFirstLines text = (walks : List ℕ) × ((lines : List ℕ) × (AreWalksText document walks
      × (AreFaultLines fs lines × (text ≡ walks ++ lines))))

  first_lines : (walks lines : List ℕ) → AreWalksText document walks → AreFaultLines fs lines
      → AreFirstLines (walks ++ lines)
  first_lines walks lines walk tells = (walks, (lines, (walk, (tells, refl))))

  all_lines : (first lines : List ℕ) → AreFirstLines first → AreFaultLines gs lines
      → WithFaultLines (AreWalksText document) fs gs (first ++ lines)
  all_lines first lines (walks, (schema_lines, (walk, (schema_tells, is)))) tells = record {
    first = walks;
    says = walk;
    schema_lines = schema_lines;
    schema_tells = schema_tells;
    lines = lines;
    tells = tells;
    prints = ap (λ t. t ++ lines) is ∙ append_assoc walks schema_lines lines;
  }

  module _ (a b : Option (List ℕ)) (held : List ℕ) where
    pub lines-cut_in_walks : IsCutShort (AreWalksText document) a b held
        → IsCutShort (WithFaultLines (AreWalksText document) fs gs) a b held
    lines-cut_in_walks cut =
        let schema_lines = fault_lines fs in
        let lines = fault_lines gs in
        cut-first {P = AreFirstLines} {Q = AreFaultLines gs}
        {R = WithFaultLines (AreWalksText document) fs gs} all_lines a b held lines.0
        (cut-first {P = AreWalksText document} {Q = AreFaultLines fs} {R = AreFirstLines} first_lines a b
        held schema_lines.0 cut schema_lines.1) lines.1

    module _ (t : List ℕ) (walked : IsSaid (AreWalksText document) a b held t) (c : Option (List ℕ)) where
      pub lines-cut_in_schema : IsCutShort (AreFaultLines fs) b c t
          → IsCutShort (WithFaultLines (AreWalksText document) fs gs) a c held
      lines-cut_in_schema cut =
          let lines = fault_lines gs in
          cut-first {P = AreFirstLines} {Q = AreFaultLines gs}
          {R = WithFaultLines (AreWalksText document) fs gs} all_lines a c held lines.0
          (cut-second {P = AreWalksText document} {Q = AreFaultLines fs} {R = AreFirstLines} first_lines a
          b c held t walked cut) lines.1

      module _ (u : List ℕ) (told : IsSaid (AreFaultLines fs) b c t u) (d : Option (List ℕ)) where
        first_said : IsSaid AreFirstLines a c held u
        first_said = said-both {P = AreWalksText document} {Q = AreFaultLines fs} {R = AreFirstLines}
            first_lines a b c held t u walked told

        pub lines-cut_in_document : IsCutShort (AreFaultLines gs) c d u
            → IsCutShort (WithFaultLines (AreWalksText document) fs gs) a d held
        lines-cut_in_document cut = cut-second {P = AreFirstLines} {Q = AreFaultLines gs}
            {R = WithFaultLines (AreWalksText document) fs gs} all_lines a c d held u first_said cut

        pub lines-said : (v : List ℕ) → IsSaid (AreFaultLines gs) c d u v
            → IsSaid (WithFaultLines (AreWalksText document) fs gs) a d held v
        lines-said v last = said-both {P = AreFirstLines} {Q = AreFaultLines gs}
            {R = WithFaultLines (AreWalksText document) fs gs} all_lines a c d held u v first_said last
