-- Whether an interval is in the window is what the test says.
use Rattle.std.proofs.Common.{◌≡◌, refl, ap, ap₂, ◌∙◌, ℕ, ◌+◌, true, false, not, List, Option, Some, None, ℤ, pos, ◌+ℤ◌, arith}
use Rattle.std.specs.Prelude.{slice_get, ◌≤ℤ◌, int_lt}
use Rattle.std.specs.Option.{option_map_or}
use Rattle.std.proofs.lemmas.Int.{ints}
use Rattle.std.proofs.lemmas.Bool.{leb-true, le-leb}
use Rattle.stream_schema.specs.Types.{Declared}
use Rattle.stream_schema.specs.declared.Event.{Event}
use Rattle.stream_schema.specs.declared.Value.{Value}
use Rattle.stream_schema.specs.declared.Value.TheVariants as value
use Rattle.cel_terms.specs.declared.Query.{Query}
use Rattle.cel_terms.specs.declared.Window.{Window}
use Rattle.cel_terms.specs.declared.Window.TheVariants.{Free, Events, Clock}
use Rattle.cel_terms.specs.Predicate.{attr_value}
use Rattle.cel_terms.specs.Answers.{HasClock, WithinWidth, IsInWindow}
use Rattle.cel_lists.specs.Below.{are_close, window_holds, is_in_window}
use Rattle.cel_lists.proofs.Keys.{some_from}

record Clocks (schema : Declared) (w : Window) (first last : Event) (start end : ℕ) : Type 0 where
  from : ℤ
  to : ℤ
  from_is : HasClock schema w first start from
  to_is : HasClock schema w last end to
  close : WithinWidth w from to

record AreClose (n : ℤ) (o p : Option Value) : Type 0 where
  from : ℤ
  to : ℤ
  from_is : o ≡ Some (value.Int from)
  to_is : p ≡ Some (value.Int to)
  close : to ≤ℤ (from +ℤ n)

no_less : (a b : ℤ) → not (int_lt a b) ≡ true → b ≤ℤ a
no_less a b e = grind (arith, ints)

less_not : (a b : ℤ) → b ≤ℤ a → not (int_lt a b) ≡ true
less_not a b e = grind (arith, ints)

close_from : (n : ℤ) (o p : Option Value) → are_close n o p ≡ true → AreClose n o p
close_from n None p e = absurd cc
close_from n (Some (value.Text t)) p e = absurd cc
close_from n (Some (value.Flag b)) p e = absurd cc
close_from n (Some (value.Dec a k)) p e = absurd cc
close_from n (Some (value.Int a)) None e = absurd cc
close_from n (Some (value.Int a)) (Some (value.Text t)) e = absurd cc
close_from n (Some (value.Int a)) (Some (value.Flag b)) e = absurd cc
close_from n (Some (value.Int a)) (Some (value.Dec b k)) e = absurd cc
close_from n (Some (value.Int a)) (Some (value.Int b)) e = record { from = a; to = b; from_is = refl; to_is = refl; close = no_less (a +ℤ n) b e }

clocks_from : (schema : Declared) (w : Window) (first last : Event) (start end : ℕ) → window_holds schema w start end first last ≡ true → Clocks schema w first last start end
clocks_from schema Free first last start end e = record { from = pos start; to = pos end; from_is = refl; to_is = refl; close = tt }
clocks_from schema (Events n) first last start end e = let h = leb-true end (start + n) e in record { from = pos start; to = pos end; from_is = refl; to_is = refl; close = omega (arith, ints) }
clocks_from schema (Clock name n) first last start end e =
    let c = close_from n (attr_value schema first name.text) (attr_value schema last name.text) e in
    record { from = c.from; to = c.to; from_is = c.from_is; to_is = c.to_is; close = c.close }

clocks_to : (schema : Declared) (w : Window) (first last : Event) (start end : ℕ) (from to : ℤ) → HasClock schema w first start from → HasClock schema w last end to → WithinWidth w from to → window_holds schema w start end first last ≡ true
clocks_to schema Free first last start end from to f t c = refl
clocks_to schema (Events n) first last start end from to f t c = le-leb end (start + n) (let h : to ≤ℤ (from +ℤ pos n) = c in omega (arith, ints))
clocks_to schema (Clock name n) first last start end from to f t c = ap₂ (are_close n) f t ∙ less_not (from +ℤ n) to c

pub window_from : (schema : Declared) (q : Query) (events : List Event) (start end : ℕ) → is_in_window schema q.window events start end ≡ true → IsInWindow schema q events start end
window_from schema q events start end e =
    let f = some_from (λ first. option_map_or (window_holds schema q.window start end first) (slice_get events end) false) (slice_get events start) e in
    let l = some_from (window_holds schema q.window start end f.0) (slice_get events end) f.2 in
    let c = clocks_from schema q.window f.0 l.0 start end l.2 in
    record { first = f.0; last = l.0; from = c.from; to = c.to; first_is = f.1; last_is = l.1; from_is = c.from_is; to_is = c.to_is; close = c.close }

pub window_to : (schema : Declared) (q : Query) (events : List Event) (start end : ℕ) → IsInWindow schema q events start end → is_in_window schema q.window events start end ≡ true
window_to schema q events start end i =
    ap (λ o. option_map_or (λ first. option_map_or (window_holds schema q.window start end first) (slice_get events end) false) o false) i.first_is
    ∙ (ap (λ o. option_map_or (window_holds schema q.window start end i.first) o false) i.last_is
    ∙ clocks_to schema q.window i.first i.last start end i.from i.to i.from_is i.to_is i.close)
