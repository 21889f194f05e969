-- What `==` compares: names and nodes without their locations, tables and sets as what they have under each
-- key.
--
-- **Bare value.** A value without the location of any name or node in it. It also has no origins of
-- components, and no sources of a document or schema. `==` of each type is true exactly where
-- the two bare values are the same (`ComparesBy`). So equality keeps the order of lists, and sees all
-- texts, and the locations that a `BuildError` has beside its names.
--
-- **Bare table.** A table is compared as a function of a key, or of the text of a name. It gives the bare
-- value that stands under that, if one does (`entries_by_key`, `entries_by_text`). So order is left out, as
-- it is of a set. (Of equal keys, which no table has, the first would count.)
use Rattle.std.specs.Prelude.{◌≡◌, ℕ, Bool, List, Option, None, option_map, IsTrue, ◌↔◌}
use Rattle.graphql_nodes.specs.KeySets.{has_key}
use Rattle.graphql_nodes.specs.NameView.{NameView}
use Rattle.graphql_nodes.specs.NodeView.{NodeView}
use Rattle.graphql_nodes.specs.SameText.{by_text}
use Rattle.graphql_nodes.specs.Tables.{lookup}
use Rattle.graphql_nodes.specs.declared.name.InvalidNameError.{InvalidNameError}

-- the test is true exactly where f gives the two one value
abbrev pub ComparesBy : {A B : Type 0} → (A → A → Bool) → (A → B) → Type 0
ComparesBy {A} test f = (a b : A) → IsTrue (test a b) ↔ (f a ≡ f b)

-- a name, or a text that is kept as one, without its location
abbrev pub bare_name : NameView → NameView
bare_name n = record { text = n.text; location = None }

-- the error of a text that is no name, without its location
abbrev pub bare_invalid_name : InvalidNameError → InvalidNameError
bare_invalid_name e = record { name = e.name; location = None }

-- a node without its location, with what f gives of its value
abbrev pub bare_node : {A B : Type 0} → (A → B) → NodeView A → NodeView B
bare_node f n = record { value = f n.value; location = None }

-- a table as a function: what f gives of the value that stands under the key, if one does
abbrev pub entries_by_key : {K V B : Type 0} → (K → K → Bool) → (V → B) → List (K × V) → K → Option B
entries_by_key eq f es = λ k. option_map f (lookup (eq k) es)

-- a table of names as a function: what f gives of the value that stands under the name of this text, if one
-- does
abbrev pub entries_by_text : {V B : Type 0} → (V → B) → List (NameView × V) → List ℕ → Option B
entries_by_text f es = λ text. option_map f (lookup (by_text text) es)

-- a set as a function: whether it has the key
abbrev pub members_by_key : {K : Type 0} → (K → K → Bool) → List K → K → Bool
members_by_key eq ks = λ k. has_key (eq k) ks

-- a set of what has a name as a function: whether it has one of this text
abbrev pub members_by_text : {K : Type 0} → (K → NameView) → List K → List ℕ → Bool
members_by_text name ks = λ text. has_key (λ k. by_text text (name k)) ks
