use Rattle.std.proofs.Common.{◌∙◌, string_bytes}
use Rattle.named_files.proofs.NamingLemmas.{folder-named, on_ok, pattern-named}
use Rattle.named_files.proofs.naming.add_kind.Goals as goal

pub returns-in_ok-prefix-in-Folder : goal.returns-in_ok-prefix-in-Folder
returns-in_ok-prefix-in-Folder g c = on_ok c.add_some.result
    (λ finds. folder-named (g.F.Folders.lists c.args.folders.now) (g.F.Folders.may_hide c.args.folders.now)
    c.args.word.now c.as_str.result.now c.args.kind c.args.all.now.items c.add_some.new.all.items
    c.in-Folder.is (c.as_str.ensures.value ∙ c.in_ok-prefix-in-Folder.ensures) finds) c.add_some.ensures

pub returns-in_ok-prefix-in-Nothing : goal.returns-in_ok-prefix-in-Nothing
returns-in_ok-prefix-in-Nothing g c = on_ok c.add_some-in-Nothing.result
    (λ finds. pattern-named (g.F.Folders.lists c.args.folders.now) (g.F.Folders.may_hide c.args.folders.now)
    c.args.word.now (string_bytes c.in_ok-prefix-in-Nothing.prefix) c.as_str-in-Nothing.result.now c.args.kind
    c.may_be_pattern.result c.args.all.now.items c.add_some-in-Nothing.new.all.items c.in-Nothing.is
    c.may_be_pattern.ensures c.if-not-may_be_pattern.false c.in_ok-prefix-in-Nothing.ensures
    c.as_str-in-Nothing.ensures.value finds) c.add_some-in-Nothing.ensures
