-- What reading all of some words says of what they spell.
use Rattle.std.proofs.Common.{◌≡◌, List, Ok}
use Rattle.graphql_grammar.specs.Pieces.{Piece, read_all}
use Rattle.graphql_grammar.specs.Refusals.{CanGoOn, RulesOut}
use Rattle.graphql_grammar.specs.Words.{WordView}
use Rattle.graphql_grammar.proofs.BlindLaws.{Blind}
use Rattle.graphql_grammar.proofs.PieceLaws.{Lawful}
use Rattle.graphql_grammar.proofs.ViableLaws.{Begins}
use Rattle.graphql_grammar.proofs.WholeBlind.{refusal_law}
use Rattle.graphql_grammar.proofs.WholeLaws.{all_again, all_sound}
use Rattle.graphql_grammar.proofs.WholeViable.{viable_law}

-- what is read is spelled so, and the other way round. What is refused is refused for all words so far, and
-- those before it begin what is spelled further
pub record Judged {A : Type 0} (p : Piece A) (spells further : A → List WordView → Type 0) : Type 0 where
  pub found : (words : List WordView) (x : A) → read_all p words ≡ Ok x → spells x words
  pub only : (words : List WordView) (x : A) → spells x words → read_all p words ≡ Ok x
  pub ruled_out : RulesOut p spells
  pub can_go_on : CanGoOn p further

pub judged : {A : Type 0} (p q : Piece A) → Lawful p → Blind p → Begins p q → Judged p p.spells q.spells
judged p q pl pb begins = record {
  found = all_sound p pl;
  only = all_again p pl;
  ruled_out = refusal_law p pl pb;
  can_go_on = viable_law pl.sound begins;
}
