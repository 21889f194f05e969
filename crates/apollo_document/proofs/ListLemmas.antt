-- The first of each name, and what stands after the first, in a list with one more element.
use Rattle.std.proofs.Common.{arith, ◌≡◌, ◌∙◌, ap, sym, refl, Bool, cond, List, [], ◌∷◌, ◌++◌, Option, None}
use Rattle.std.proofs.Common.{Some, option_map, is_some}
use Rattle.std.specs.List.{find, list_any}
use Rattle.std.specs.Map.{lookup_key}
use Rattle.std.proofs.lemmas.List.{append-nil, map-append}
use Rattle.indexmap.specs.IndexMap.{insert_entry}
use Rattle.graphql_nodes.specs.NameView.{NameView}
use Rattle.graphql_nodes.specs.SameText.{same_text}
use Rattle.apollo_component.specs.FirstOfEach.{first_of_each, same_key}
use Rattle.apollo_component.proofs.FirstOfEachLemmas.{entry_laws, first_of_each-push_new}
use Rattle.apollo_component.proofs.FirstOfEachLemmas.{first_of_each-push_old, insert_entry-last}
use Rattle.apollo_component.proofs.FirstOfEachLemmas.{list_any-first_of_each}
use Rattle.apollo_document.specs.KeptDefinitions.{after_first}
use Rattle.apollo_document.specs.Stands.{entries_by, put_unless_taken}

-- a key is found where an entry passes
pub some_key : {K V : Type 0} (test : K → Bool) (es : List (K × V))
    → list_any (λ e. test e.0) es ≡ is_some (lookup_key test es)
some_key test [] = refl
some_key test (e ∷ es) = grind (arith, some_key test es)

any : {V : Type 0} (es : List (NameView × V)) (m : NameView) (v : V)
    → list_any (same_key same_text (m, v)) es
    ≡ is_some (lookup_key (same_text m) (first_of_each (same_key same_text) es))
any es m v = sym (list_any-first_of_each (same_key same_text) entry_laws (m, v) es)
    ∙ some_key (same_text m) (first_of_each (same_key same_text) es)

-- of one more entry, if there is one, the first of each name are those with it put last, unless its name is
-- taken
pub first-put : {V : Type 0} (es : List (NameView × V)) (m : NameView) (v : V) (b : Bool)
    → first_of_each (same_key same_text) (es ++ cond b ((m, v) ∷ []) [])
    ≡ put_unless_taken m (lookup_key (same_text m) (first_of_each (same_key same_text) es))
    (cond b (Some v) None) (first_of_each (same_key same_text) es)
first-put es m v b = grind (
  arith,
  append-nil es,
  any es m v,
  first_of_each-push_old (same_key same_text) entry_laws es (m, v),
  first_of_each-push_new (same_key same_text) entry_laws es (m, v),
)

-- what the code puts under a name that isn't taken comes last
pub put-last : {V : Type 0} (m k : NameView) (x : V) (es new : List (NameView × V))
    → lookup_key (same_text m) es ≡ None → k ≡ m → new ≡ insert_entry same_text es k x
    → new ≡ es ++ (m, x) ∷ []
put-last m k x es new h same put = put ∙ ap (λ n. insert_entry same_text es n x) same
    ∙ insert_entry-last same_text es m x (some_key (same_text m) es ∙ ap is_some h)

-- entries of values are found, and put, as those of what they are made of
pub entries-put : {A B : Type 0} (f : A → B) (m : NameView) (taken : Option NameView) (o : Option A)
    (es : List (NameView × A))
    → put_unless_taken m taken (option_map f o) (entries_by f es)
    ≡ entries_by f (put_unless_taken m taken o es)
entries-put f m None (Some a) es = sym (map-append (λ e. (e.0, f e.1)) es ((m, a) ∷ []))
entries-put f m None None es = refl
entries-put f m (Some k) o es = refl

pub entries-key : {A B : Type 0} (f : A → B) (test : NameView → Bool) (es : List (NameView × A))
    → lookup_key test (entries_by f es) ≡ lookup_key test es
entries-key f test [] = refl
entries-key f test (e ∷ es) = ap (cond (test e.0) (Some e.0)) (entries-key f test es)

pub after-push : {A : Type 0} (p : A → Bool) (xs : List A) (x : A)
    → after_first p (xs ++ x ∷ []) ≡ cond (is_some (find p xs)) (after_first p xs ++ x ∷ []) []
after-push p [] x = grind arith
after-push p (y ∷ ys) x = grind (arith, after-push p ys x)
