use Rattle.apollo_meaning.proofs.Prelude.{◌≡◌, true, List, Option, Some, None, is_some, [], ◌∷◌, ◌++◌, refl}
use Rattle.apollo_meaning.proofs.Prelude.{sym, ap, ◌∙◌, true≢false, rules, lookup, lookup_key, keys_of}
use Rattle.apollo_meaning.proofs.Prelude.{NameView, same_text, insert_entry, Component, component}
use Rattle.apollo_meaning.proofs.Prelude.{distinct_entries}
use Rattle.apollo_meaning.proofs.Faults.KeptLemmas.{entry-old, entry-put, found-key}
use Rattle.apollo_folding.proofs.KeptNames.{none-of, found-nowhere}
use Rattle.apollo_folding.proofs.NameTables.{key-there, put-back}
use Rattle.apollo_folding.proofs.from_ast.folding.Part.fold_entry.Goals as goal

-- a name that isn't looked up in a table is none of its keys
unkept : {T : Type 0} (n : NameView) {table : List (NameView × Component T)}
    (es : List (NameView × Component T)) → table ≡ distinct_entries es → lookup (same_text n) table ≡ None
    → lookup_key (same_text n) (distinct_entries es) ≡ None
unkept n es was absent = none-of (lookup_key (same_text n) (distinct_entries es)) (key-there n
    (distinct_entries es) ∙ ap (λ l. is_some (lookup (same_text n) l)) (sym was) ∙ ap is_some absent)

module _ {T : Type 0} (es : List (NameView × Component T)) (n : NameView) (v : Component T) where
  kept : is_some (lookup_key (same_text n) (distinct_entries es)) ≡ true
      → distinct_entries es ≡ distinct_entries (es ++ (n, v) ∷ [])
  kept there = by (lookup_key (same_text n) (distinct_entries es)) refl there
    where
      by : (o : Option NameView) → lookup_key (same_text n) (distinct_entries es) ≡ o → is_some o ≡ true
          → distinct_entries es ≡ distinct_entries (es ++ (n, v) ∷ [])
      by None is t = absurd (true≢false (sym t))
      by (Some k) is t = entry-old es n v k is

pub returns-in_default : goal.returns-in_default
returns-in_default g c =
    let n = g.T.Named.name_of c.args.node.now.value in
    let entry = component c.args.self.now.origin c.args.node.now in
    let key : c.in_ok-name.name ≡ n = search rules in
    let value : c.with_origin.result ≡ entry = search rules in
    let absent : lookup (same_text n) c.args.table.now ≡ None =
    sym (λ i. lookup (same_text (key i)) c.args.table.now) ∙ sym c.in_ok-standing.ensures.old
    ∙ c.in_default.is in
    record {
      added = λ es was. c.in_ok-standing.ensures.entries
          ∙ (λ i. insert_entry same_text (was i) (key i) (value i))
          ∙ entry-put es n entry (unkept n es was absent);
      faults = λ es was. found-nowhere c.args.faults.now c.args.collection c.args.self.now.of.now.name.now
          (keys_of es) (n, c.args.node.now.location) (found-key n es ∙ unkept n es was absent);
    }

pub returns : goal.returns
returns g c =
    let n = g.T.Named.name_of c.args.node.now.value in
    let entries = c.args.table.now in
    let held = c.in-Some.kept in
    let key : c.in_ok-name.name ≡ n = search rules in
    let key-2 : c.in_ok-clone-2.field-0 ≡ n = search rules in
    let there : lookup (same_text n) entries ≡ Some held = sym (λ i. lookup (same_text (key i)) entries)
    ∙ sym c.in_ok-standing.ensures.old ∙ c.in-Some.is in
    let again : c.insert-2.new.self ≡ entries = c.in_ok-insert.ensures.entries
    ∙ (λ i. insert_entry same_text (c.in_ok-standing.ensures.entries i) (key-2 i) held)
    ∙ (λ i. insert_entry same_text (insert_entry same_text entries (key i) c.with_origin.result) n held)
    ∙ put-back entries n c.with_origin.result held there in
    record {
      added = λ es was. again ∙ was ∙ kept es n (component c.args.self.now.origin c.args.node.now)
          (key-there n (distinct_entries es) ∙ ap (λ l. is_some (lookup (same_text n) l)) (sym was)
          ∙ ap is_some there);
      faults = λ es was. c.in_ok-note_collision.ensures es (again ∙ was);
    }
