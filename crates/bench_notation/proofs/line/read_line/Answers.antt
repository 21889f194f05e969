-- A line that is not empty says what its words say.
use Rattle.std.proofs.Common.{List, ℕ, ◌≡◌, ◌==◌, [], true, false, IfErr, IfOk, length, subst}
use Rattle.std.proofs.lemmas.Result.{IfErr-weaker, IfOk-weaker}
use Rattle.bench_notation.specs.Line.{SayLine, Says, texts_of, words_of}
use Rattle.bench_notation.specs.Refusals.{SayNoLine, SaysNothing, WhenRefused}
use Rattle.bench_notation.proofs.LineWords.{says_line, says_nothing, weaker}
use Rattle.bench_notation.proofs.line.read_line.Goals as goal

pub returns-clause-says : goal.returns-clause-says
returns-clause-says c =
    let words : texts_of c.args.words.now ≡ words_of c.args.text.now = c.requires in
    IfOk-weaker c.read_words.result (SayLine c.args.location (words_of c.args.text.now))
    (Says c.args.location c.args.text.now) (says_line c.args.location c.args.text.now)
    (subst (λ (l : List (List ℕ)). IfOk c.read_words.result (SayLine c.args.location l)) words
    c.read_words.ensures.says)

pub returns-clause-refused : goal.returns-clause-refused
returns-clause-refused c =
    let words : texts_of c.args.words.now ≡ words_of c.args.text.now = c.requires in
    let full : ¬ (c.args.text.now ≡ []) = λ empty. let other : false ≡ true =
    subst (λ (l : List ℕ). false ≡ (length l == 0)) empty c.if-is_empty.ensures in cc in
    IfErr-weaker c.read_words.result
    (WhenRefused (SayNoLine c.args.position c.args.location (words_of c.args.text.now)))
    (WhenRefused (SaysNothing c.args.position c.args.location c.args.text.now))
    (λ error. weaker error (says_nothing c.args.position c.args.location c.args.text.now full))
    (subst (λ (l : List (List ℕ)). IfErr c.read_words.result
    (WhenRefused (SayNoLine c.args.position c.args.location l))) words c.read_words.ensures.refused)
