-- Where words are refused, none that begin with those up to the refused one spell a document.
use Rattle.std.proofs.Common.{refl, ℕ, List, [], ◌∷◌, ◌++◌}
use Rattle.graphql_nodes.specs.declared.source.FileId.{FileId}
use Rattle.graphql_grammar.specs.Refusals.{RefusedWith, RulesOut, Unspelled, reads}
use Rattle.graphql_grammar.specs.Words.{WordView}
use Rattle.graphql_grammar.proofs.WholeBlind.{unread_law}
use Rattle.graphql_productions.specs.Documents.{document, spells_document}
use Rattle.graphql_grammar.proofs.BlindLaws.{some_blind}
use Rattle.graphql_productions.proofs.DefinitionLaws.{one_tame}
use Rattle.graphql_productions.proofs.DocumentLaws.{document_again}

-- what is not read is not spelled
unspelled : (file : FileId) (depth : ℕ) (front left : List WordView)
    → Unspelled (reads (document file depth)) front left → Unspelled (spells_document file depth) front left
unspelled file depth front [] h = λ xs spelled. h xs (document_again file depth xs front spelled)
unspelled file depth front (w ∷ ws) h =
    λ xs others spelled. h xs others (document_again file depth xs (front ++ w ∷ others) spelled)

pub document_refused : (file : FileId) (depth : ℕ)
    → RulesOut (document file depth) (spells_document file depth)
document_refused file depth words e h =
    let r : RefusedWith (reads (document file depth)) words e = unread_law (document file depth)
    (some_blind (one_tame file depth).law refl (one_tame file depth).blind) words e h in
    (r.0, r.1, unspelled file depth r.0 e.left r.2)
