use Rattle.std.proofs.Common.{[]}
use Rattle.named_files.specs.Naming.{NamesWord}
use Rattle.named_files.proofs.BeginLemmas.{ok_then}
use Rattle.named_files.proofs.NamingLemmas.{named-of-all}
use Rattle.named_files.proofs.WalkLemmas.{each-at}
use Rattle.named_files.proofs.naming.named_files.Goals as goal

pub loop-word-preserved : goal.loop-word-preserved
loop-word-preserved g c = each-at (λ word. NamesWord (g.F.Folders.stands c.args.folders.now)
    (g.F.Folders.lists c.args.folders.now) (g.F.Folders.may_hide c.args.folders.now) word.now)
    c.args.words.now
    c.loop-word.word-index _ [] _ _ c.loop-word-test.true c.loop-word.invariant c.in_ok-add_word.ensures

pub returns : goal.returns
returns g c = ok_then c.first_ones.result
    (λ named is. named-of-all (g.F.Folders.stands c.args.folders.now) (g.F.Folders.lists c.args.folders.now)
    (g.F.Folders.may_hide c.args.folders.now) c.args.words.now c.loop-word.word-index
    c.loop-word.all.items named
    c.loop-word-test.false c.loop-word.invariant is) c.first_ones.ensures
