-- How the lines of a file are read on.
use Rattle.std.proofs.Common.{◌≡◌, ◌≢◌, ℕ, ◌+◌, ◌-◌, ◌<◌, ◌≤◌, ◌==◌, List, [], ◌∷◌, ◌++◌, length, Bool, true, false, cond, Some, None, refl, sym, ◌∙◌, ap, arith, append_assoc, length-append, zero-add}
use Rattle.std.specs.Prelude.{nat_le}
use Rattle.std.proofs.lemmas.Bool.Decides.{nat_tests}
use Rattle.std.proofs.lemmas.List.{append-nil}
use Rattle.std.specs.List.{AllByRecursion}
use Rattle.event_reader.specs.declared.LineFault.TheVariants.{LineTooLong, InputTooLong}
use Rattle.cer_base.specs.declared.limits.TheConstants.{LONGEST_LINE}
use Rattle.event_reader.specs.Lines.{stops, with_line, lines_from}
use Rattle.event_reader.specs.Lines.{has_line_feed}
use Rattle.event_reader.specs.LineReaders.{ended_from}
use Rattle.event_reader.proofs.LineBytes.{neither, differs}

-- bytes that end no line join the line at hand
pub over_bytes : (budget number : ℕ) (line xs ys : List ℕ) (room : ℕ) → AllByRecursion (λ b. b ≢ 10) xs → lines_from budget number line (xs ++ ys) (length xs + room) ≡ lines_from budget number (line ++ xs) ys room
over_bytes budget number line [] ys room plain = rw (append-nil line, zero-add room) refl
over_bytes budget number line (x ∷ xs) ys room plain =
    let some : (length (x ∷ xs) + room == 0) ≡ false = grind (arith, nat_tests) in
    let p : x ≢ 10 = plain.0 in
    let other : (x == 10) ≡ false = grind (arith, nat_tests) in
    let less : length (x ∷ xs) + room - 1 ≡ length xs + room = omega arith in
    rw (some, other, less) (over_bytes budget number (line ++ x ∷ []) xs ys room plain.1 ∙ ap (λ l. lines_from budget number l ys room) (append_assoc line (x ∷ []) xs))

long_test : (line : List ℕ) → LONGEST_LINE < length line → nat_le (length line) LONGEST_LINE ≡ false
long_test line long = grind (arith, nat_tests)

long_choice : {A : Type 0} (z e : Bool) (a b c d : A) → a ≡ d → b ≡ d → c ≡ d → cond z a (cond e b c) ≡ d
long_choice true e a b c d p q r = p
long_choice false true a b c d p q r = q
long_choice false false a b c d p q r = r

both_same : {A : Type 0} (z : Bool) (a : A) → cond z a a ≡ a
both_same true a = refl
both_same false a = refl

-- a line that is too long stays so
pub too_long : (budget number : ℕ) (line bytes : List ℕ) (room : ℕ) → LONGEST_LINE < length line → lines_from budget number line bytes room ≡ stops (Some (LineTooLong number))
too_long budget number line [] room long =
    let t : nat_le (length line) LONGEST_LINE ≡ false = long_test line long in
    let e : (length line == 0) ≡ false = grind (arith, nat_tests) in
    rw (e, t) (both_same (room == 0) (stops (Some (LineTooLong number))))
too_long budget number line (x ∷ bytes) room long =
    let t : nat_le (length line) LONGEST_LINE ≡ false = long_test line long in
    long_choice (room == 0) (x == 10) _ _ _ (stops (Some (LineTooLong number))) (rw t refl) (rw t refl) (too_long budget number (line ++ x ∷ []) bytes (room - 1) (rw (length-append line (x ∷ [])) (omega arith)))

pub plain_each : (bytes : List ℕ) → has_line_feed bytes ≡ false → AllByRecursion (λ b. b ≢ 10) bytes
plain_each [] plain = tt
plain_each (c ∷ bytes) plain =
    let both : ((c == 10) ≡ false) × (has_line_feed bytes ≡ false) = neither _ _ plain in
    (differs c 10 both.0, plain_each bytes both.1)

-- first bytes that end no line join the line at hand
over_plain : (budget number : ℕ) (xs ys : List ℕ) (room : ℕ) → has_line_feed xs ≡ false → length xs ≤ room → lines_from budget number [] (xs ++ ys) room ≡ lines_from budget number xs ys (room - length xs)
over_plain budget number xs ys room plain within =
    let split : room ≡ length xs + (room - length xs) = omega arith in
    ap (λ r. lines_from budget number [] (xs ++ ys) r) split ∙ over_bytes budget number [] xs ys (room - length xs) (plain_each xs plain)

short_test : (line : List ℕ) → length line ≤ LONGEST_LINE → nat_le (length line) LONGEST_LINE ≡ true
short_test line short = grind (arith, nat_tests)

-- a line that ends in a line feed, and the lines after it
pub first_line : (budget number : ℕ) (line ys : List ℕ) (room : ℕ) → has_line_feed line ≡ false → length line ≤ LONGEST_LINE → length line < room → lines_from budget number [] (line ++ 10 ∷ ys) room ≡ record { texts = line ∷ (lines_from budget (number + 1) [] ys (room - (length line + 1))).texts; fault = (lines_from budget (number + 1) [] ys (room - (length line + 1))).fault }
first_line budget number line ys room plain short within =
    let some : (room - length line == 0) ≡ false = grind (arith, nat_tests) in
    let less : room - length line - 1 ≡ room - (length line + 1) = omega arith in
    let here : lines_from budget number line (10 ∷ ys) (room - length line) ≡ with_line number line (lines_from budget (number + 1) [] ys (room - (length line + 1))) = rw (some, less) refl in
    over_plain budget number line (10 ∷ ys) room plain (omega arith) ∙ here ∙ rw (short_test line short) refl

-- first bytes that are too many for a line
pub first_long : (budget number : ℕ) (front ys : List ℕ) (room : ℕ) → has_line_feed front ≡ false → LONGEST_LINE < length front → length front ≤ room → lines_from budget number [] (front ++ ys) room ≡ stops (Some (LineTooLong number))
first_long budget number front ys room plain long within =
    over_plain budget number front ys room plain within ∙ too_long budget number front ys (room - length front) long

full_here : (budget number : ℕ) (line ys : List ℕ) (room : ℕ) → room ≡ 0 → length line ≤ LONGEST_LINE → lines_from budget number line ys room ≡ stops (Some (InputTooLong budget))
full_here budget number line [] room none short =
    let test : (room == 0) ≡ true = grind (arith, nat_tests) in
    rw (test, short_test line short) refl
full_here budget number line (y ∷ ys) room none short =
    let test : (room == 0) ≡ true = grind (arith, nat_tests) in
    rw (test, short_test line short) refl

-- as many bytes as may be taken, and no line feed
pub first_full : (budget number : ℕ) (line ys : List ℕ) (room : ℕ) → has_line_feed line ≡ false → length line ≤ LONGEST_LINE → length line ≡ room → lines_from budget number [] (line ++ ys) room ≡ stops (Some (InputTooLong budget))
first_full budget number line ys room plain short full =
    over_plain budget number line ys room plain (omega arith) ∙ full_here budget number line ys (room - length line) (omega arith) short

-- the last line, which lacks its line feed
pub first_last : (budget number : ℕ) (line : List ℕ) (room : ℕ) → has_line_feed line ≡ false → length line ≤ LONGEST_LINE → length line < room → 0 < length line → lines_from budget number [] (line ++ []) room ≡ record { texts = line ∷ []; fault = None }
first_last budget number line room plain short within some =
    let left : (room - length line == 0) ≡ false = grind (arith, nat_tests) in
    let test : (length line == 0) ≡ false = grind (arith, nat_tests) in
    over_plain budget number line [] room plain (omega arith) ∙ rw (left, test, short_test line short) refl

pub first_none : (budget number room : ℕ) → 0 < room → lines_from budget number [] [] room ≡ stops None
first_none budget number room some =
    let left : (room == 0) ≡ false = grind (arith, nat_tests) in
    rw left refl

-- the lines that end among bytes, walked in the same way
over_ended : (line xs ys : List ℕ) → AllByRecursion (λ b. b ≢ 10) xs → ended_from line (xs ++ ys) ≡ ended_from (line ++ xs) ys
over_ended line [] ys plain = rw (append-nil line) refl
over_ended line (x ∷ xs) ys plain =
    let p : x ≢ 10 = plain.0 in
    let other : (x == 10) ≡ false = grind (arith, nat_tests) in
    rw other (over_ended (line ++ x ∷ []) xs ys plain.1 ∙ ap (λ l. ended_from l ys) (append_assoc line (x ∷ []) xs))

pub ended_line : (line ys : List ℕ) → has_line_feed line ≡ false → ended_from [] (line ++ 10 ∷ ys) ≡ line ∷ ended_from [] ys
ended_line line ys plain = over_ended [] line (10 ∷ ys) (plain_each line plain)

pub ended_none : (line : List ℕ) → has_line_feed line ≡ false → ended_from [] line ≡ []
ended_none line plain =
    ap (λ l. ended_from [] l) (sym (append-nil line)) ∙ over_ended [] line [] (plain_each line plain)
