-- What is read of an argument, by the rows of the matches.
use Rattle.std.proofs.Common.{◌≡◌, ◌∙◌, ◌<◌, ◌≤◌, ◌^◌, ℕ, Bool, true, false, List, [], ap, map, option_map, Option}
use Rattle.std.proofs.Common.{Some, None, Result, Ok, Err, arith, if◌then◌else◌, refl}
use Rattle.std.specs.Result.{result_ok}
use Rattle.std.specs.Str.Parse.{IsNumeral, ParsesUnsigned, digits_value, without_leading_plus}
use Rattle.std.specs.Borrow.{Bor}
use Rattle.std.specs.Option.{option_eq, option_map_or, unwrap_or}
use Rattle.std.specs.Str.{bytes_eq}
use Rattle.clap.specs.Lexer.{usize_max}
use Rattle.clap.specs.ValueTests.{is_unsigned_in}
use Rattle.clap.specs.Walk.{Text}
use Rattle.clap.specs.declared.builder.value_parser.ValueParser.TheVariants as parsers
use Rattle.clap.proofs.ValueTestLemmas.{Accepts-accepts, accepts-Accepts}
use Rattle.peglinden_words.specs.Requests.{read_number}

pub text_or : (found : Option (Bor Text)) (other : Bor Text) (text : Option Text)
    → option_map (λ s. s.now) found ≡ text
    → (unwrap_or found other).now ≡ unwrap_or text other.now
text_or None other text e = ap (λ t. unwrap_or t other.now) e
text_or (Some s) other text e = ap (λ t. unwrap_or t other.now) e

pub texts_or : (found : Option (Bor (List (Bor Text)))) (texts : Option (List Text))
    → option_map (λ s. map (λ v. v.now) s.now) found ≡ texts
    → map (λ v. v.now) (unwrap_or (option_map (λ s. s.now) found) []) ≡ unwrap_or texts []
texts_or None texts e = ap (λ t. unwrap_or t []) e
texts_or (Some s) texts e = ap (λ t. unwrap_or t []) e

pub text_is : (same : Bor Text → Bor Text → Bool) → ((a b : Bor Text) → same a b ≡ bytes_eq a.now b.now)
    → (found : Option (Bor Text)) (word : Bor Text) (text : Option Text)
    → option_map (λ s. s.now) found ≡ text
    → option_eq same found (Some word) ≡ option_map_or (λ t. bytes_eq t word.now) text false
text_is same by_bytes None word text e = ap (λ t. option_map_or (λ x. bytes_eq x word.now) t false) e
text_is same by_bytes (Some s) word text e = by_bytes s word
    ∙ ap (λ t. option_map_or (λ x. bytes_eq x word.now) t false) e

-- a text that isn't one of the numbers
no_number : (text : Text) (passes : Bool) → is_unsigned_in 0 usize_max text ≡ passes
    → ¬ (IsNumeral 10 (without_leading_plus text) × (digits_value 10 (without_leading_plus text) < 2 ^ 64))
    → None ≡ (if passes then Some (digits_value 10 (without_leading_plus text)) else None)
no_number text true is never =
    let accepted = accepts-Accepts false (parsers.Unsigned 0 usize_max) text is in
    absurd (never (accepted.0, accepted.1))
no_number text false is never = refl

-- what `parse` reads is the number that a text is
pub number_read : {E : Type 0} (text : Text) (r : Result ℕ E) → ParsesUnsigned 64 10 text r
    → result_ok r ≡ read_number text
number_read text (Ok n) is =
    let fits = is.0.1 in
    let small : digits_value 10 (without_leading_plus text) ≤ usize_max = omega (arith, fits) in
    let passes : is_unsigned_in 0 usize_max text ≡ true =
    Accepts-accepts false (parsers.Unsigned 0 usize_max) text (is.0.0, fits, omega arith, small) in
    rw passes (ap Some is.1)
number_read text (Err e) never = no_number text (is_unsigned_in 0 usize_max text) refl never
