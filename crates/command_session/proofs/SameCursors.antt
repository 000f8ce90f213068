-- Two models that took the same events and have cursors of the same numbers, whatever answers these have left, are such models after the same command.
use Rattle.std.proofs.Common.{◌≡◌, ℕ, zero, suc, ◌+◌, ◌==◌, ◌<◌, cond, not, nat_lt, List, [], ◌∷◌, ◌++◌, length, map, position, remove, slice_get, slice_set, Some, None, refl, sym, ◌∙◌, ap, ap₂, subst, arith}
use Rattle.std.specs.List.{position_or_len}
use Rattle.std.proofs.lemmas.List.Quantifiers.{position-Some}
use Rattle.stream_schema.specs.Types.{Declared}
use Rattle.stream_schema.specs.declared.Event.{Event}
use Rattle.cel_terms.specs.declared.Query.{Query}
use Rattle.command_session.specs.declared.command.ScriptCommand.{ScriptCommand}
use Rattle.command_session.specs.declared.command.ScriptCommand.TheVariants as command
use Rattle.command_session.specs.SessionModel.{SessionModel, OpenCursor, IsStep, cursor_place, has_number}

abbrev pub number_of : OpenCursor → ℕ
number_of cursor = cursor.number

abbrev pub numbers_of : List OpenCursor → List ℕ
numbers_of cursors = map number_of cursors

-- They took the same events, and their cursors have the same numbers in the same order.
pub record AreAlike (a b : SessionModel) : Type 0 where
  pub events : a.events ≡ b.events
  pub numbers : numbers_of a.cursors ≡ numbers_of b.cursors

pub turned : (a b : SessionModel) → AreAlike a b → AreAlike b a
turned a b alike = record { events = sym alike.events; numbers = sym alike.numbers }

-- WHERE A NUMBER STANDS

numbers_long : (cursors : List OpenCursor) → length (numbers_of cursors) ≡ length cursors
numbers_long [] = refl
numbers_long (c ∷ cursors) = let rest = numbers_long cursors in omega (arith, rest)

first_place : (number : ℕ) (cursors : List OpenCursor) → position_or_len (has_number number) cursors ≡ position_or_len (λ (n : ℕ). n == number) (numbers_of cursors)
first_place number [] = refl
first_place number (c ∷ cursors) = ap (λ (n : ℕ). cond (not (c.number == number)) (1 + n) 0) (first_place number cursors)

place_among : (number : ℕ) (cursors : List OpenCursor) → position (has_number number) cursors ≡ position (λ (n : ℕ). n == number) (numbers_of cursors)
place_among number cursors = ap₂ (λ (i n : ℕ). cond (nat_lt i n) (Some i) None) (first_place number cursors) (sym (numbers_long cursors))

pub same_place : (number : ℕ) (a b : SessionModel) → AreAlike a b → cursor_place number a ≡ cursor_place number b
same_place number a b alike =
    place_among number a.cursors ∙ ap (position (λ (n : ℕ). n == number)) alike.numbers ∙ sym (place_among number b.cursors)

-- THE NUMBERS AS CURSORS COME, CHANGE AND GO

numbers_more : (cursors : List OpenCursor) (c : OpenCursor) → numbers_of (cursors ++ c ∷ []) ≡ numbers_of cursors ++ c.number ∷ []
numbers_more [] c = refl
numbers_more (d ∷ cursors) c = ap (λ (t : List ℕ). d.number ∷ t) (numbers_more cursors c)

numbers_set : (cursors : List OpenCursor) (k : ℕ) (c d : OpenCursor) → slice_get cursors k ≡ Some c → d.number ≡ c.number → numbers_of (slice_set cursors k d) ≡ numbers_of cursors
numbers_set [] k c d at same = absurd (let clash : None ≡ Some c = at in cc)
numbers_set (x ∷ cursors) zero c d at same =
    let one : x ≡ c = cc in
    ap (λ (n : ℕ). n ∷ numbers_of cursors) (same ∙ ap number_of (sym one))
numbers_set (x ∷ cursors) (suc k) c d at same = ap (λ (t : List ℕ). x.number ∷ t) (numbers_set cursors k c d at same)

numbers_fewer : (cursors : List OpenCursor) (k : ℕ) → k < length cursors → numbers_of (remove cursors k) ≡ remove (numbers_of cursors) k
numbers_fewer [] k inside = absurd (omega (arith, inside))
numbers_fewer (x ∷ cursors) zero inside = refl
numbers_fewer (x ∷ cursors) (suc k) inside = ap (λ (t : List ℕ). x.number ∷ t) (numbers_fewer cursors k (omega (arith, inside)))

place_within : (number k : ℕ) (m : SessionModel) → cursor_place number m ≡ Some k → k < length m.cursors
place_within number k m found = (position-Some (has_number number) m.cursors k (record { number = 0; query = 0; position = 0; left = [] }) found).0

-- AFTER A COMMAND

alike_as : (a b c d : SessionModel) → c ≡ a → d ≡ b → AreAlike a b → AreAlike c d
alike_as a b c d one other alike =
    let P : SessionModel → Type 0 = λ m. AreAlike m d in
    let Q : SessionModel → Type 0 = λ m. AreAlike a m in
    subst P (sym one) (subst Q (sym other) alike)

same_dropped : (a b : SessionModel) (number p q : ℕ) → AreAlike a b → cursor_place number a ≡ Some p → cursor_place number b ≡ Some q → numbers_of (remove a.cursors p) ≡ numbers_of (remove b.cursors q)
same_dropped a b number p q alike here there =
    let place = same_place number a b alike in
    let same : p ≡ q = cc in
    numbers_fewer a.cursors p (place_within number p a here) ∙ ap₂ (λ (ns : List ℕ) (k : ℕ). remove ns k) alike.numbers same ∙ sym (numbers_fewer b.cursors q (place_within number q b there))

-- The same command makes such models of such models.
pub step_alike : (schema : Declared) (ps qs : List Query) (asked : ScriptCommand) (a b c d : SessionModel) (x y : List ℕ) → AreAlike a b → IsStep schema ps asked a c x → IsStep schema qs asked b d y → AreAlike c d
step_alike schema ps qs (command.Event event) a b c d x y alike one other =
    alike_as _ _ c d one.after other.after (record { events = ap (λ (es : List Event). es ++ event ∷ []) alike.events; numbers = alike.numbers })
step_alike schema ps qs (command.OpenAt query cursor) a b c d x y alike one other =
    alike_as _ _ c d one.after other.after (record {
      events = alike.events;
      numbers = numbers_more a.cursors _ ∙ ap (λ (ns : List ℕ). ns ++ cursor ∷ []) alike.numbers ∙ sym (numbers_more b.cursors _);
    })
step_alike schema ps qs (command.Pull cursor n) a b c d x y alike one other =
    alike_as _ _ c d one.after other.after (record {
      events = alike.events;
      numbers = numbers_set a.cursors one.place one.cursor _ one.at refl ∙ alike.numbers ∙ sym (numbers_set b.cursors other.place other.cursor _ other.at refl);
    })
step_alike schema ps qs (command.Drop cursor) a b c d x y alike one other =
    alike_as _ _ c d one.after other.after (record { events = alike.events; numbers = same_dropped a b cursor one.place other.place alike one.here other.here })
step_alike schema ps qs command.Compact a b c d x y alike one other = alike_as a b c d one.0 other.0 alike
