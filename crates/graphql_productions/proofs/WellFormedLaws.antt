-- What words with their texts spell is well-formed.
use Rattle.std.proofs.Common.{◌≡◌, ◌≢◌, ℕ, true, false, List, [], ◌∷◌, ◌++◌, refl, sym, ap, ◌∙◌}
use Rattle.std.specs.Prelude.{codes}
use Rattle.std.specs.List.{AllByRecursion}
use Rattle.std.proofs.lemmas.Bool.{and_parts}
use Rattle.graphql_nodes.specs.NameSyntax.{IsName}
use Rattle.graphql_nodes.specs.declared.source.FileId.{FileId}
use Rattle.graphql_grammar.specs.declared.kind.Kind.{Kind}
use Rattle.graphql_grammar.specs.declared.kind.Names.{Names}
use Rattle.graphql_grammar.specs.declared.kind.Names.TheVariants as names
use Rattle.graphql_grammar.specs.Kinds.{is_name, names_of}
use Rattle.graphql_grammar.specs.TextsOfWords.{HasItsText}
use Rattle.graphql_grammar.specs.Words.{WordView}
use Rattle.graphql_grammar.specs.WordsOfText.{name_kind}
use Rattle.graphql_productions.specs.WellFormed.{IsWellFormedPart}
use Rattle.graphql_productions.proofs.NameTexts.{name_text}
use Rattle.graphql_productions.proofs.PartLaws.{Serves}

split_all : {X : Type 0} (P : X → Type 0) (xs ys : List X) → AllByRecursion P (xs ++ ys)
    → AllByRecursion P xs × AllByRecursion P ys
split_all P [] ys all = (tt, all)
split_all P (x ∷ xs) ys all = let rest = split_all P xs ys all.1 in ((all.0, rest.0), rest.1)

a_name : (some : Names) (kind : Kind) → names_of some kind ≡ true → is_name kind ≡ true
a_name names.Any kind h = h
a_name names.Fragment kind h = (and_parts (is_name kind) _ h).0
a_name names.EnumValue kind h = (and_parts (is_name kind) _ h).0

-- a name is no word whose kind may not stand there
module _ (some : Names) (w : WordView) (has : HasItsText w) (h : names_of some w.kind ≡ true) where
  named : IsName w.text
  named = name_text w.text (has.name (a_name some w.kind h)).0

  is_no : (word : List ℕ) → names_of some (name_kind word) ≡ false → w.text ≢ word
  is_no word out e =
      let same : w.kind ≡ name_kind word = (has.name (a_name some w.kind h)).1 ∙ ap name_kind e in
      let both : names_of some w.kind ≡ false = ap (names_of some) same ∙ out in
      absurd (let w = sym h ∙ both in cc)

pub well_formed : (file : FileId) → Serves IsWellFormedPart file (AllByRecursion HasItsText)
well_formed file = record {
  split = split_all HasItsText;
  node = λ w ws known. tt;
  name = λ w known h. named names.Any w known.0 h;
  fragment_name = λ w known h.
      (named names.Fragment w known.0 h, is_no names.Fragment w known.0 h (codes "on") refl);
  enum_name = λ w known h. (
    named names.EnumValue w known.0 h,
    is_no names.EnumValue w known.0 h (codes "true") refl,
    is_no names.EnumValue w known.0 h (codes "false") refl,
    is_no names.EnumValue w known.0 h (codes "null") refl,
  );
  variable = λ w known h. (named names.Any w known.0 h, refl);
  description = λ w known h. tt;
  int = λ w known h. known.0.int h;
  float = λ w known h. known.0.float h;
  wanted = refl;
}
