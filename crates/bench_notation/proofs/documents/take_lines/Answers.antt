-- The lines so far are read; at the end these are all lines.
use Rattle.std.proofs.Common.{◌≡◌, ◌∙◌, ◌+◌, ◌<◌, ◌∷◌, [], ◌++◌, add-zero, take, drop, List, ℕ, ap, subst}
use Rattle.std.proofs.Common.{refl, sym, arith, get_or, length}
use Rattle.std.proofs.lemmas.List.{drop_more, length-take-le, take-append-drop, take_more}
use Rattle.std.proofs.lemmas.Grind.{common_steps}
use Rattle.std.proofs.lemmas.List.Elements.{All-more}
use Rattle.graphql_nodes.specs.declared.source.SourceSpan.{SourceSpan}
use Rattle.bench_notation.specs.Line.{IsLine, bytes_left, line_location, lines_of, pieces_left, texts_of}
use Rattle.bench_notation.specs.Documents.{LeadTo, Takes}
use Rattle.bench_notation.specs.declared.documents.DocumentReader.{DocumentReader}
use Rattle.bench_notation.proofs.documents.take_lines.Goals as goal

is_line : {text : List ℕ} {location : SourceSpan} {old new : DocumentReader} → Takes text location old new
    → IsLine text
is_line {location = location} takes = record { location = location; line = takes.line; says = takes.says }

led_more : (number : ℕ) (texts : List (List ℕ)) (text : List ℕ) (first reader next : DocumentReader)
    → LeadTo number texts first reader → Takes text (line_location (number + length texts)) reader next
    → LeadTo number (texts ++ text ∷ []) first next
led_more number [] text first reader next is takes = (
  next,
  (
    subst (λ (old : DocumentReader). Takes text (line_location number) old next) (sym is)
        (rw add-zero at takes),
    refl,
  ),
)
led_more number (other ∷ texts) text first reader next (second, (leads, rest)) takes =
    let count : number + length (other ∷ texts) ≡ number + 1 + length texts = omega arith in (
      second,
      (
        leads,
        led_more (number + 1) texts text second reader next rest
            (subst (λ (n : ℕ). Takes text (line_location n) reader next) count takes),
      ),
    )

led_to : (lines : List (List ℕ)) (i : ℕ) (start reader next : DocumentReader) → i < length lines
    → LeadTo 1 (take i lines) start reader → Takes (get_or lines i []) (line_location (i + 1)) reader next
    → LeadTo 1 (take (i + 1) lines) start next
led_to lines i start reader next lt led takes =
    let count : i + 1 ≡ 1 + length (take i lines) = grind (arith, length-take-le) in
    let more : take i lines ++ get_or lines i [] ∷ [] ≡ take (i + 1) lines =
    grind (arith, common_steps, take_more) in
    subst (λ (l : List (List ℕ)). LeadTo 1 l start next) more (led_more 1 (take i lines) _
    start reader next led (subst (λ (n : ℕ). Takes (get_or lines i []) (line_location n) reader next)
    count takes))

abbrev behind : List (List ℕ) → List (List ℕ)
behind [] = []
behind (text ∷ texts) = texts

-- what is left of the lines begins with this one
record IsNext (lines : List (List ℕ)) (i : ℕ) (line : List ℕ) (others : List (List ℕ)) : Type 0 where
  within : i < length lines
  here : get_or lines i [] ≡ line
  behind : drop (i + 1) lines ≡ others

next_line : (lines : List (List ℕ)) (i : ℕ) (line : List ℕ) (others : List (List ℕ))
    → drop i lines ≡ line ∷ others → IsNext lines i line others
next_line lines i line others is =
    let within : i < length lines = grind (arith, common_steps, is) in
    let both : get_or lines i [] ∷ drop (i + 1) lines ≡ line ∷ others = sym (drop_more lines i [] within)
    ∙ is in
    record { within = within; here = ap (λ (l : List (List ℕ)). get_or l 0 []) both; behind = ap behind both }

pub loop-left-init : goal.loop-left-init
loop-left-init c = record { read = grind (arith, common_steps); led = refl; rest = refl; fits = omega arith }

pub loop-left-preserved : goal.loop-left-preserved
loop-left-preserved c =
    let lines : List (List ℕ) = lines_of c.args.text.now in
    let next : IsNext lines c.loop-left.number c.in_ok-line.line.now (pieces_left 10 c.in_ok-line.behind) =
    next_line lines c.loop-left.number c.in_ok-line.line.now (pieces_left 10 c.in_ok-line.behind)
    (c.loop-left.invariant.rest ∙ ap (pieces_left 10) c.in-Some.is ∙ c.in_ok-line.ensures.lines) in
    let takes : Takes (get_or lines c.loop-left.number []) (line_location (c.loop-left.number + 1))
    c.loop-left.reader c.take_line.new.self = rw next.here c.in-Ok.ensures.taken in
    record {
      read = All-more IsLine lines c.loop-left.number [] next.within c.loop-left.invariant.read
          (is_line takes);
      led = led_to lines c.loop-left.number c.args.reader.now c.loop-left.reader c.take_line.new.self
          next.within c.loop-left.invariant.led takes;
      rest = next.behind;
      fits = omega (
        arith,
        c.loop-left.invariant.fits,
        ap bytes_left c.in-Some.is,
        c.in_ok-line.ensures.shorter,
      );
    }

all_taken : (lines : List (List ℕ)) (i : ℕ) → drop i lines ≡ [] → take i lines ≡ lines
all_taken lines i is = grind (arith, common_steps, take-append-drop i lines, is)

pub returns-clause-leads : goal.returns-clause-leads
returns-clause-leads c =
    let none : drop c.loop-left.number (lines_of c.args.text.now) ≡ [] = c.loop-left.invariant.rest
    ∙ ap (pieces_left 10) c.in_default.is in
    subst (λ (lines : List (List ℕ)). LeadTo 1 lines c.args.reader.now c.loop-left.reader)
    (all_taken _ c.loop-left.number none) c.loop-left.invariant.led

pub take_line-requires : goal.take_line-requires
take_line-requires c = ap texts_of c.as_slice.ensures.value ∙ c.in_ok-line.ensures.words
