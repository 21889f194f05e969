use denote.Shadow.{shadow}
use denote.Text.{Utf8}
use Rattle.std.proofs.Common.{◌≡◌, ℕ, Some}
use Rattle.std.specs.List.{AllByRecursion}
use Rattle.peglinden_run.specs.CommentPlaces.{IsCommentAt, behind_tokens}
use Rattle.peglinden_run.proofs.comment_places.comment_places.Given as goal

abbrev pub invariant-tokens : goal.invariant-tokens
invariant-tokens l = record {
  text : shadow (Utf8 l.rest);
  behind : (tokens : ℕ) × (behind_tokens tokens l.text ≡ Some l.rest);
  all : AllByRecursion (IsCommentAt l.text) l.places.items;
}
