-- What the reading of the matches cites.
use Rattle.std.proofs.Common.{◌≡◌, ◌∙◌, ℕ, List, [], ◌∷◌, map, Option, Some, None, Result, Ok, Err, arith, ap, refl, true, false, Bool}
use Rattle.std.specs.Prelude.{option_and_then, option_map, unwrap_or}
use Rattle.std.specs.Borrow.{Bor}
use Rattle.std.specs.List.{cons_option, filter_map}
use Rattle.std.specs.Str.Parse.{ParsesUnsigned}
use Rattle.clap.specs.Words.{Text}
use Rattle.clap.specs.Matches.{ReadsOne}
use Rattle.clap.specs.ValueTests.{is_unsigned_in}
use Rattle.clap.specs.declared.builder.value_parser.ValueParser.TheVariants.{Unsigned}
use Rattle.clap.proofs.ValueTestLemmas.{Accepts-accepts, accepts-Accepts}
use Rattle.command_words.specs.CommandLine.{parsed_number}

-- a text that is read, or else another one
pub text_or : (found : Option (Bor Text)) (other : Bor Text) → (unwrap_or found other).now ≡ unwrap_or (option_map (λ s. s.now) found) other.now
text_or None other = refl
text_or (Some text) other = refl

-- the number that the program's reader of numbers gives
pub number_read : {E : Type 0} (gives : Text → Result ℕ E → Type 0) → ((t : Text) (r : Result ℕ E) → gives t r → ParsesUnsigned 64 10 t r)
    → (text : Text) (one : Option ℕ) → ReadsOne gives text one → one ≡ parsed_number text
number_read gives parses text (Some n) h =
    let read = parses text (Ok n) h in
    let fits : is_unsigned_in 0 18446744073709551615 text ≡ true =
    Accepts-accepts false (Unsigned 0 18446744073709551615) text (read.0.0, read.0.1, omega arith, omega arith) in
    rw fits (ap (λ k. Some k) read.1)
number_read gives parses text None h = go (is_unsigned_in 0 18446744073709551615 text) refl
  where
    go : (b : Bool) → is_unsigned_in 0 18446744073709551615 text ≡ b → None ≡ parsed_number text
    go false e = rw e refl
    go true e =
        let fits = accepts-Accepts false (Unsigned 0 18446744073709551615) text e in
        absurd (parses text (Err h.0) h.1 (fits.0, fits.1))

pub number_found : (text : Option Text) (one : Option ℕ) → (text ≡ None → one ≡ None) → ((t : Text) → text ≡ Some t → one ≡ parsed_number t)
    → one ≡ option_and_then parsed_number text
number_found None one none some = none refl
number_found (Some t) one none some = some t refl

-- the numbers of the texts after references
pub read_of_each : (texts : List (Bor Text)) → filter_map parsed_number (map (λ text. text.now) texts) ≡ filter_map (λ text. parsed_number text.now) texts
read_of_each [] = refl
read_of_each (text ∷ texts) = ap (cons_option (parsed_number text.now)) (read_of_each texts)

-- a name and what was found after it, together
pub names_fused : {X A B : Type 0} (g : X → A × B) (o : Option X) → option_map (λ x. (g x).0) o ≡ option_map (λ p. p.0) (option_map g o)
names_fused g None = refl
names_fused g (Some x) = refl

pub pair_found : {A B : Type 0} (o : Option (A × B)) (a : A) (b : B) → Some a ≡ option_map (λ p. p.0) o → Some b ≡ option_map (λ p. p.1) o
    → o ≡ Some (a, b)
pair_found None a b first second = cc
pair_found (Some p) a b first second =
    let one : p.0 ≡ a = cc in
    let two : p.1 ≡ b = cc in
    ap (λ x. Some (x, p.1)) one ∙ ap (λ y. Some (a, y)) two

pub none_found : {A B : Type 0} (o : Option (A × B)) → None ≡ option_map (λ p. p.0) o → o ≡ None
none_found None first = refl
none_found (Some p) first = cc
