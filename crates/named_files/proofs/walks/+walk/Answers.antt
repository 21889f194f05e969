use Rattle.std.proofs.Common.{ap, sym, ◌∙◌, ◌++◌}
use Rattle.program_io.specs.Entries.{named_entry}
use Rattle.named_files.specs.Wanted.{enters, is_hidden, takes}
use Rattle.named_files.specs.Walks.{FindsBelow}
use Rattle.named_files.proofs.WalkLemmas.{at-file, at-hidden, at-unentered, below-listed, below-unlisted}
use Rattle.named_files.proofs.WalkLemmas.{each-next, ok-adds-then, ok-both}
use Rattle.named_files.proofs.walks.+walk.Goals as goal

pub add_below-loop-entry-preserved : goal.add_below-loop-entry-preserved
add_below-loop-entry-preserved g t c = each-next _ _ c.loop-entry.entry-index c.entry-item.result _ _ _
    c.loop-entry-test.true c.entry-item.is c.loop-entry.invariant c.in_ok-add_entry-in-Ok.ensures

pub add_below-returns-after-loop-entry : goal.add_below-returns-after-loop-entry
add_below-returns-after-loop-entry g t c = below-listed (takes c.args.wanted.now) (enters c.args.wanted.now)
    (g.F.Folders.lists c.args.folders.now) (g.F.Folders.may_hide c.args.folders.now) c.args.depth
    c.args.prefix.now c.args.found.now.items c.loop-entry.found.items c.in-Ok.entries.items
    c.deref-entry-items.result.now c.loop-entry.entry-index c.if-depth-eq0.false c.in-Ok.ensures.entries
    c.deref-entry-items.ensures.value c.loop-entry-test.false c.loop-entry.invariant

pub add_below-returns-in-Err : goal.add_below-returns-in-Err
add_below-returns-in-Err g t c = ok-both c.add_unlisted.result
    (λ other is. below-unlisted (takes c.args.wanted.now) (enters c.args.wanted.now)
    (g.F.Folders.lists c.args.folders.now) (g.F.Folders.may_hide c.args.folders.now) c.args.depth
    c.args.prefix.now c.args.found.now.items c.add_unlisted.new.found.items c.in-Err.error
    c.if-depth-eq0.false c.in-Err.ensures.causes other is) c.add_unlisted.ensures.other
    c.add_unlisted.ensures.added

pub add_entry-returns-then-is_hidden : goal.add_entry-returns-then-is_hidden
add_entry-returns-then-is_hidden g t c =
    at-hidden (takes c.args.wanted.now) (enters c.args.wanted.now)
    (FindsBelow (takes c.args.wanted.now) (enters c.args.wanted.now)
    (g.F.Folders.lists c.args.folders.now) (g.F.Folders.may_hide c.args.folders.now) c.args.depth)
    c.args.prefix.now
    (named_entry c.args.entry.now) c.args.found.now.items
    (ap is_hidden (sym c.as_str-name.ensures.value) ∙ sym c.is_hidden.ensures ∙ c.if-is_hidden.true)

pub add_entry-returns-then-not-entry : goal.add_entry-returns-then-not-entry
add_entry-returns-then-not-entry g t c =
    ok-adds-then _ _ c.add_file.result c.args.found.now.items c.add_file.new.found.items
    (λ added finds. at-file (takes c.args.wanted.now) (enters c.args.wanted.now)
    (FindsBelow (takes c.args.wanted.now) (enters c.args.wanted.now)
    (g.F.Folders.lists c.args.folders.now) (g.F.Folders.may_hide c.args.folders.now) c.args.depth)
    c.args.prefix.now
    (named_entry c.args.entry.now) c.as_str.result.now added
    (ap is_hidden (sym c.as_str-name.ensures.value) ∙ sym c.is_hidden.ensures ∙ c.if-is_hidden.false)
    c.if-not-entry.true (c.as_str.ensures.value ∙ c.in_ok-path.ensures
    ∙ ap (λ n. c.args.prefix.now ++ n) c.as_str-name.ensures.value) finds) c.add_file.ensures

pub add_entry-returns-then-not-branch : goal.add_entry-returns-then-not-branch
add_entry-returns-then-not-branch g t c =
    at-unentered (takes c.args.wanted.now) (enters c.args.wanted.now)
    (FindsBelow (takes c.args.wanted.now) (enters c.args.wanted.now)
    (g.F.Folders.lists c.args.folders.now) (g.F.Folders.may_hide c.args.folders.now) c.args.depth)
    c.args.prefix.now
    (named_entry c.args.entry.now) c.args.found.now.items c.as_str-2.result.now c.in_ok-enters.field-0
    (ap is_hidden (sym c.as_str-name.ensures.value) ∙ sym c.is_hidden.ensures ∙ c.if-is_hidden.false)
    c.if-not-entry.false (c.as_str-2.ensures.value ∙ c.in_ok-path.ensures
    ∙ ap (λ n. c.args.prefix.now ++ n) c.as_str-name.ensures.value) c.in_ok-enters.ensures
    c.if-not-branch.true
