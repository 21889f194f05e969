-- What the command `leaf` answers: docs/NOTATION.md, and GraphQL specification of October 2021, section
-- 5.3.3.
use Rattle.std.specs.Prelude.{◌≡◌, ◌++◌, ℕ, Bool, List, length, codes}
use Rattle.std.specs.List.{flat_map}
use Rattle.leafcheck.specs.LeafFaults.{leaf_faults}
use Rattle.leafcheck.specs.declared.leaf_fault.LeafFault.{LeafFault}
use Rattle.leafcheck.specs.declared.leaf_fault.LeafKind.{LeafKind}
use Rattle.leafcheck.specs.declared.leaf_fault.LeafKind.TheVariants.{MissingSubselection, SubselectionOnLeaf}
use Rattle.gqltool_run.specs.DocumentAnswers.{IsDocumentAnswer}
use Rattle.gqltool_run.specs.FaultLines.{location_line}

-- the word of the way in which a field is at fault
abbrev pub leaf_kind_word : LeafKind → List ℕ
leaf_kind_word SubselectionOnLeaf = codes "subselection-on-leaf"
leaf_kind_word MissingSubselection = codes "missing-subselection"

-- the line of a field that is at fault: where it stands, its response key, and in which way
abbrev pub leaf_line : LeafFault → List ℕ
leaf_line fault = codes "leaf " ++ location_line fault.location ++ codes " " ++ fault.response_key.text
    ++ codes " " ++ leaf_kind_word fault.kind ++ codes "\n"

-- the text has a line for each leaf fault of the typed document that the input means, over its schema. Then
-- come those of the schema's faults and the document's own. Something is at fault unless there is no line
abbrev pub IsLeafAnswer : List ℕ → List ℕ → Bool → Type 0
IsLeafAnswer = IsDocumentAnswer (λ schema document text. text
    ≡ flat_map leaf_line (leaf_faults schema document))
    (λ schema document. length (leaf_faults schema document))
