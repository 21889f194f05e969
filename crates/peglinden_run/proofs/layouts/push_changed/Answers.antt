use Rattle.std.proofs.Common.{◌≡◌, ◌∙◌, ◌++◌, false, true, ap, refl, string_bytes, sym}
use Rattle.std.specs.Prelude.{nat_eq}
use Rattle.std.specs.Cmp.Lexicographic.{pointwise}
use Rattle.std.proofs.lemmas.List.{append-nil, map-append}
use Rattle.graphql_nodes.specs.declared.source.SourceFile.{SourceFile}
use Rattle.peglinden_run.specs.Layouts.{changed_bytes, changed_pair, kept_layout}
use Rattle.peglinden_run.proofs.LayoutLemmas.{differs, is_same}
use Rattle.peglinden_run.proofs.layouts.push_changed.Goals as goal

pub returns-in_ok-push : goal.returns-in_ok-push
returns-in_ok-push c =
    let document = c.args.document.now in
    let file = c.in-Some.file.now in
    let layout = string_bytes c.in_ok-layout.layout in
    let path : c.as_str-then-not-is_same.result.now ≡ file.path = c.as_str-then-not-is_same.ensures
    ∙ ap (λ (f : SourceFile). f.path) c.deref-then-not-is_same.ensures in
    let text : c.as_str-3.result.now ≡ file.text = c.as_str-3.ensures
    ∙ ap (λ (f : SourceFile). f.text) c.deref-2.ensures in
    let laid_out : layout ≡ kept_layout document.definitions file.text =
    rw (c.as_slice.ensures, c.as_str.ensures, c.deref.ensures) at c.in_ok-layout.ensures in
    let other : pointwise nat_eq layout c.as_str-3.result.now ≡ false =
    rw c.as_str-2.ensures.value at (sym c.if-not-is_same.ensures) in
    let one = differs document.definitions document.sources (c.in-Some.field-0-0.now, file) c.in-Some.ensures
    _ _ layout path text laid_out other
    in
    ap changed_bytes c.in_ok-push.ensures.items ∙ map-append changed_pair c.args.files.now.items _
    ∙ ap (λ l. changed_bytes c.args.files.now.items ++ l) (sym one)

pub returns-else-not-is_same : goal.returns-else-not-is_same
returns-else-not-is_same c =
    let document = c.args.document.now in
    let file = c.in-Some.file.now in
    let layout = string_bytes c.in_ok-layout.layout in
    let text : c.as_str-3.result.now ≡ file.text = c.as_str-3.ensures
    ∙ ap (λ (f : SourceFile). f.text) c.deref-2.ensures in
    let laid_out : layout ≡ kept_layout document.definitions file.text =
    rw (c.as_slice.ensures, c.as_str.ensures, c.deref.ensures) at c.in_ok-layout.ensures in
    let same : pointwise nat_eq layout c.as_str-3.result.now ≡ true =
    rw c.as_str-2.ensures.value at (sym c.if-not-is_same.ensures) in
    let none = is_same document.definitions document.sources (c.in-Some.field-0-0.now, file) c.in-Some.ensures
    file.path _ layout refl text laid_out same
    in
    sym (append-nil _) ∙ ap (λ l. changed_bytes c.args.files.now.items ++ l) (sym none)
