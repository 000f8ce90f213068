-- Clocks and windows: from which clock on a start is in the window.
use Rattle.std.proofs.Common.{◌≡◌, ℕ, ℤ, pos, ◌≤ℤ◌, sym, subst, ◌∙◌, Some, slice_get, List, arith}
use Rattle.std.proofs.lemmas.Int.{ints}
use Rattle.stream_schema.specs.Types.{Declared}
use Rattle.stream_schema.specs.declared.Event.{Event}
use Rattle.cel_terms.specs.declared.Query.{Query}
use Rattle.cel_terms.specs.declared.Window.{Window}
use Rattle.cel_terms.specs.declared.Window.TheVariants.{Free, Events, Clock}
use Rattle.cel_terms.specs.Answers.{HasClock, WithinWidth, IsInWindow}
use Rattle.query_standing.specs.Clocks.{least, low_of}

pub clock_is_one : (schema : Declared) (w : Window) (event : Event) (p : ℕ) (c d : ℤ) → HasClock schema w event p c → HasClock schema w event p d → c ≡ d
clock_is_one schema Free event p c d e f = e ∙ sym f
clock_is_one schema (Events n) event p c d e f = e ∙ sym f
clock_is_one schema (Clock name n) event p c d e f = let g = sym e ∙ f in cc

least_below : (p : ℕ) → least ≤ℤ pos p
least_below p = omega (arith, ints)

low_within : (schema : Declared) (w : Window) (event : Event) (p : ℕ) (from to : ℤ) → HasClock schema w event p from → WithinWidth w from to → low_of w to ≤ℤ from
low_within schema Free event p from to has close = subst (λ c. least ≤ℤ c) (sym has) (least_below p)
low_within schema (Events n) event p from to has close = omega (arith, ints)
low_within schema (Clock name n) event p from to has close = omega (arith, ints)

within_low : (w : Window) (from to : ℤ) → low_of w to ≤ℤ from → WithinWidth w from to
within_low Free from to low = tt
within_low (Events n) from to low = omega (arith, ints)
within_low (Clock name n) from to low = omega (arith, ints)

-- a start that is in the window has a clock of at least the low one
pub low_in_window : (schema : Declared) (q : Query) (events : List Event) (start end : ℕ) (first last : Event) (from to : ℤ) → slice_get events start ≡ Some first → slice_get events end ≡ Some last → HasClock schema q.window first start from → HasClock schema q.window last end to → IsInWindow schema q events start end → low_of q.window to ≤ℤ from
low_in_window schema q events start end first last from to first_is last_is from_is to_is w =
    let one : w.first ≡ first = (let e = sym w.first_is ∙ first_is in cc) in
    let two : w.last ≡ last = (let e = sym w.last_is ∙ last_is in cc) in
    let c = clock_is_one schema q.window first start w.from from (subst (λ e. HasClock schema q.window e start w.from) one w.from_is) from_is in
    let d = clock_is_one schema q.window last end w.to to (subst (λ e. HasClock schema q.window e end w.to) two w.to_is) to_is in
    subst (λ z. low_of q.window to ≤ℤ z) c (low_within schema q.window w.first start w.from to w.from_is (subst (λ z. WithinWidth q.window w.from z) d w.close))

pub in_window : (schema : Declared) (q : Query) (events : List Event) (start end : ℕ) (first last : Event) (from to : ℤ) → slice_get events start ≡ Some first → slice_get events end ≡ Some last → HasClock schema q.window first start from → HasClock schema q.window last end to → low_of q.window to ≤ℤ from → IsInWindow schema q events start end
in_window schema q events start end first last from to first_is last_is from_is to_is low =
    record { first = first; last = last; from = from; to = to; first_is = first_is; last_is = last_is; from_is = from_is; to_is = to_is; close = within_low q.window from to low }

-- low rises with the clock
pub low_rises : (w : Window) (before now : ℤ) → before ≤ℤ now → low_of w before ≤ℤ low_of w now
low_rises Free before now le = omega (arith, ints)
low_rises (Events n) before now le = omega (arith, ints)
low_rises (Clock name n) before now le = omega (arith, ints)
