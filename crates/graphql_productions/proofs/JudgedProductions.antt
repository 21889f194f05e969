-- What reading all of some words says of what they spell, of each sort of whole text.
use Rattle.std.proofs.Common.{ℕ, suc, Bool}
use Rattle.graphql_nodes.specs.declared.source.FileId.{FileId}
use Rattle.graphql_grammar.specs.Pieces.{Piece}
use Rattle.graphql_grammar.specs.Refusals.{CanGoOn, RulesOut}
use Rattle.graphql_grammar.proofs.Judged.{Judged, judged}
use Rattle.graphql_grammar.proofs.ViableLaws.{some_begins}
use Rattle.graphql_grammar.proofs.WholeBlind.{refusal_law}
use Rattle.graphql_grammar.proofs.WholeViable.{viable_law}
use Rattle.graphql_productions.specs.Documents.{definition, document, selections, spells_document}
use Rattle.graphql_productions.specs.Refusing.{OfEachProduction}
use Rattle.graphql_productions.specs.Selections.{bare_selections, selection_set}
use Rattle.graphql_productions.specs.Types.{type}
use Rattle.graphql_productions.specs.Values.{value, value_node}
use Rattle.graphql_productions.proofs.DefinitionLaws.{definition_tame, one_tame}
use Rattle.graphql_productions.proofs.DocumentLaws.{document_again, document_found, document_sound}
use Rattle.graphql_productions.proofs.DocumentRefusals.{document_refused}
use Rattle.graphql_productions.proofs.SelectionLaws.{bare_selections_tame, selection_set_tame}
use Rattle.graphql_productions.proofs.SelectionLaws.{whole_selections_tame}
use Rattle.graphql_productions.proofs.TamePieces.{Nesting, Tame}
use Rattle.graphql_productions.proofs.TypeLaws.{type_tame}
use Rattle.graphql_productions.proofs.ValueLaws.{value_node_tame, value_tame}

pub rules_out : {A : Type 0} {p q : Piece A} → Tame p q → RulesOut p p.spells
rules_out {p = p} t = refusal_law p t.law t.blind

pub can_go_on : {A : Type 0} {p q : Piece A} → Tame p q → CanGoOn p q.spells
can_go_on t = viable_law t.law.sound t.goes

-- what holds of all that is tame holds of each production
pub each_production : (P : (A : Type 0) → (ℕ → Piece A) → Type 0)
    → ((A : Type 0) (p : ℕ → Piece A) → Nesting p → P A p) → OfEachProduction P
each_production P of_tame = record {
  definition = λ file. of_tame _ (definition file) (definition_tame file);
  selections = λ file. of_tame _ (selections file) (whole_selections_tame file);
  selection_set = λ file. of_tame _ (selection_set file) (selection_set_tame file);
  bare_selections = λ file. of_tame _ (bare_selections file) (bare_selections_tame file);
  type_reference = λ file. of_tame _ (type file) (type_tame file);
  value = λ file constant. of_tame _ (value file constant) (value_tame file constant);
}

tame_judged : {A : Type 0} {p q : Piece A} → Tame p q → Judged p p.spells q.spells
tame_judged {p = p} {q = q} t = judged p q t.law t.blind t.goes

pub type_judged : (file : FileId) (depth : ℕ)
    → Judged (type file depth) (type file depth).spells (type file (suc depth)).spells
type_judged file depth = tame_judged (type_tame file depth)

pub value_node_judged : (file : FileId) (constant : Bool) (depth : ℕ)
    → Judged (value_node file constant depth) (value_node file constant depth).spells
    (value_node file constant (suc depth)).spells
value_node_judged file constant depth = tame_judged (value_node_tame file constant depth)

pub selections_judged : (file : FileId) (depth : ℕ)
    → Judged (selections file depth) (selections file depth).spells (selections file (suc depth)).spells
selections_judged file depth = tame_judged (whole_selections_tame file depth)

-- what is refused of a document goes on as its production says
pub document_viable : (file : FileId) (depth : ℕ) → CanGoOn (document file depth)
    (document file (suc depth)).spells
document_viable file depth = viable_law (document_sound file depth) (some_begins (one_tame file depth).law
    (one_tame file depth).goes)

pub document_judged : (file : FileId) (depth : ℕ)
    → Judged (document file depth) (spells_document file depth) (document file (suc depth)).spells
document_judged file depth = record {
  found = document_found file depth;
  only = λ words xs. document_again file depth xs words;
  ruled_out = document_refused file depth;
  can_go_on = document_viable file depth;
}
