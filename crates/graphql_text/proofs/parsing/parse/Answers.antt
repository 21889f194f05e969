-- What is read of all words is answered.
use Rattle.graphql_text.proofs.Answered.{found, only, refused}
use Rattle.graphql_text.proofs.parsing.parse.Goals as goal

pub returns-clause-found : goal.returns-clause-found
returns-clause-found g c = found (g.met.T.Tree.law c.args.file c.args.options.max_depth) _ _ _ _
    c.new-words.ensures _ _ c.whole-read.ensures c.parsed.ensures

pub returns-clause-only : goal.returns-clause-only
returns-clause-only g c = λ read real h. only (g.met.T.Tree.law c.args.file c.args.options.max_depth) _ _ _ _
    c.new-words.ensures _ _ c.whole-read.ensures c.parsed.ensures read h

pub returns-clause-refused : goal.returns-clause-refused
returns-clause-refused g c = refused (g.met.T.Tree.law c.args.file c.args.options.max_depth) _ _ _ _
    c.new-words.ensures _ _ c.whole-read.ensures c.parsed.ensures
