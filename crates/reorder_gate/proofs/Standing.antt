-- What a gate stands for after each call.
use Rattle.std.proofs.Common.{◌≡◌, ℕ, ℤ, pos, ◌-ℤ◌, ◌≤ℤ◌, ◌<ℤ◌, Bool, true, false, cond, List, [], ◌∷◌, ◌++◌, refl, sym, ap, subst, ◌∙◌, append_assoc, append-nil, Option, Some, None, arith, rules}
use Rattle.std.specs.Prelude.{int_le}
use Rattle.std.specs.List.{AllByRecursion}
use Rattle.std.proofs.lemmas.Int.{ints}
use Rattle.std.proofs.lemmas.List.Sums.{fold-append}
use Rattle.stream_schema.specs.declared.Event.{Event}
use Rattle.reorder_gate.specs.declared.gate.TooLate.{TooLate}
use Rattle.reorder_gate.specs.Sorting.{placed, sorted, Ascends}
use Rattle.reorder_gate.specs.Releasing.{raised, is_late, is_due, greatest, IsInTime, released, BeginsWith}
use Rattle.reorder_gate.specs.Gates.{GateState, clock_at, lateness, with_event, may_go, StandsFor, all_due, first_due, any_due}
use Rattle.reorder_gate.proofs.Placing.{onto, all_by, all_append, not_less_test}
use Rattle.reorder_gate.proofs.OnlyOne.{no_item}
use Rattle.reorder_gate.proofs.Fronts.{upto_test, not_upto_test, test_upto, keeps_high, placed_behind, one_more_in_time, over, some_highest, one_cut, sorted_splits, all_released, all_kept, front_stays, front_is_released}

-- one item more
pub sorted_with : {A : Type 0} (clock : A → ℤ) (list : List A) (x : A) → sorted clock (list ++ x ∷ []) ≡ placed clock x (sorted clock list)
sorted_with clock list x = fold-append (λ before x. placed clock x before) [] list (x ∷ [])

none_chosen : (t : Bool) (late : TooLate) → cond t (Some late) None ≡ None → t ≡ false
none_chosen true late e = absurd (search (rules, e))
none_chosen false late e = refl

pub not_late : (high : Option ℤ) (late : ℕ) (now : ℤ) → lateness high late now ≡ None → is_late late high now ≡ false
not_late None late now e = refl
not_late (Some high) late now e = none_chosen (is_late late (Some high) now) (record { high = high; now = now }) e

due_before : (late : ℕ) (high : Option ℤ) (now new : ℤ) → is_due late high now ≡ true → is_late late high new ≡ false → now ≤ℤ new
due_before late None now new e f = absurd (search (rules, e))
due_before late (Some high) now new e f =
    let low = upto_test now (high -ℤ pos late) e in
    let in_time = not_less_test new (high -ℤ pos late) f in
    omega (arith, ints)

still_due : (late : ℕ) (high : Option ℤ) (now new : ℤ) → is_due late high now ≡ true → is_due late (Some (raised high new)) now ≡ true
still_due late None now new e = absurd (search (rules, e))
still_due late (Some high) now new e =
    let low = upto_test now (high -ℤ pos late) e in
    let more = keeps_high high new in
    test_upto now (raised (Some high) new -ℤ pos late) (omega (arith, ints))

due_open : (g : GateState) (e : ℕ × Event) → g.is_finished ≡ false → may_go g e ≡ true → is_due g.late g.high (clock_at g.places e) ≡ true
due_open g e going may = ap (λ t. cond t true (is_due g.late g.high (clock_at g.places e))) (sym going) ∙ may

may_open : (g : GateState) (e : ℕ × Event) → g.is_finished ≡ false → is_due g.late g.high (clock_at g.places e) ≡ true → may_go g e ≡ true
may_open g e going due = ap (λ t. cond t true (is_due g.late g.high (clock_at g.places e))) going ∙ due

pub put_stands : (g : GateState) (e : ℕ × Event) → g.is_finished ≡ false → lateness g.high g.late (clock_at g.places e) ≡ None → (put gone : List (ℕ × Event)) → StandsFor g put gone → StandsFor (with_event g e) (put ++ e ∷ []) gone
put_stands g e going in_time put gone stands =
    let clock = clock_at g.places in
    let not = not_late g.high g.late (clock e) in_time in
    record {
      in_time = one_more_in_time clock g.late None put e stands.in_time (subst (λ h. is_late g.late h (clock e) ≡ false) stands.high not);
      high = ap (λ h. Some (raised h (clock e))) stands.high ∙ sym (fold-append (λ high x. Some (raised high (clock x))) None put (e ∷ []));
      order = sym (placed_behind clock e gone g.events (all_by (λ x. may_go g x ≡ true) (λ x. clock x ≤ℤ clock e) (λ x may. due_before g.late g.high (clock x) (clock e) (due_open g x going may) not) gone stands.due))
          ∙ (ap (placed clock e) stands.order ∙ sym (sorted_with clock put e));
      due = all_by (λ x. may_go g x ≡ true) (λ x. may_go (with_event g e) x ≡ true) (λ x may. may_open (with_event g e) x going (still_due g.late g.high (clock x) (clock e) (due_open g x going may))) gone stands.due;
    }

pub finish_stands : (g : GateState) (put gone : List (ℕ × Event)) → StandsFor g put gone → StandsFor (record g { is_finished = true }) put gone
finish_stands g put gone stands = record {
  in_time = stands.in_time;
  high = stands.high;
  order = stands.order;
  due = all_by (λ x. may_go g x ≡ true) (λ x. may_go (record g { is_finished = true }) x ≡ true) (λ x may. refl) gone stands.due;
}

pub take_stands : (g : GateState) (e : ℕ × Event) (events put gone : List (ℕ × Event)) → g.events ≡ e ∷ events → may_go g e ≡ true → StandsFor g put gone → StandsFor (record g { events = events }) put (gone ++ e ∷ [])
take_stands g e events put gone is may stands = record {
  in_time = stands.in_time;
  high = stands.high;
  order = rw append_assoc (ap (λ l. gone ++ l) (sym is) ∙ stands.order);
  due = all_append (λ x. may_go (record g { events = events }) x ≡ true) gone (e ∷ []) stands.due (may, tt);
}

-- where the first may not go, no other may
none_due : (late : ℕ) (high : Option ℤ) (clock : ℕ × Event → ℤ) (e : ℕ × Event) (events : List (ℕ × Event)) → Ascends clock (e ∷ events) → is_due late high (clock e) ≡ false → AllByRecursion (λ x. is_due late high (clock x) ≡ false) (e ∷ events)
none_due late None clock e events up not = (refl, all_by (λ x. clock e ≤ℤ clock x) (λ x. false ≡ false) (λ x l. refl) events up.0)
none_due late (Some high) clock e events up not =
    let over = not_upto_test (clock e) (high -ℤ pos late) not in
    (not, all_by (λ x. clock e ≤ℤ clock x) (λ x. int_le (clock x) (high -ℤ pos late) ≡ false) (λ x l. grind (arith, ints)) events up.0)

nothing_before : {A : Type 0} (xs ys : List A) → xs ++ ys ≡ [] → xs ≡ []
nothing_before [] ys e = refl
nothing_before (x ∷ xs) ys e = absurd (no_item x (xs ++ ys) (sym e))

open_left : (late : ℕ) (high : Option ℤ) (clock : ℕ × Event → ℤ) (put gone events : List (ℕ × Event)) → high ≡ greatest clock put → gone ++ events ≡ sorted clock put
    → AllByRecursion (λ x. is_due late high (clock x) ≡ true) gone → AllByRecursion (λ x. is_due late high (clock x) ≡ false) events → gone ≡ released clock late put
open_left late None clock [] gone events is order due not = nothing_before gone events order
open_left late None clock (x ∷ put) gone events is order due not =
    let clash : None ≡ Some (some_highest clock (clock x) put).0 = is ∙ (some_highest clock (clock x) put).2 in
    absurd (search (rules, clash))
open_left late (Some high) clock put gone events is order due not =
    one_cut clock (high -ℤ pos late) gone events (released clock late put) (onto clock [] (over clock (high -ℤ pos late) put))
    (order ∙ sorted_splits clock late high put (sym is))
    (all_by (λ x. int_le (clock x) (high -ℤ pos late) ≡ true) (λ x. clock x ≤ℤ (high -ℤ pos late)) (λ x e. upto_test (clock x) (high -ℤ pos late) e) gone due)
    (all_by (λ x. int_le (clock x) (high -ℤ pos late) ≡ false) (λ x. (high -ℤ pos late) <ℤ clock x) (λ x e. not_upto_test (clock x) (high -ℤ pos late) e) events not)
    (all_released clock late high put (sym is))
    (all_kept clock late high put)

may_not : (t due : Bool) → cond t true due ≡ false → (t ≡ false) × (due ≡ false)
may_not true due e = absurd (search (rules, e))
may_not false due e = (refl, e)

none_to_go : (g : GateState) (events : List (ℕ × Event)) → Ascends (clock_at g.places) events → first_due g events ≡ false → AllByRecursion (λ e. may_go g e ≡ false) events
none_to_go g [] up not = tt
none_to_go g (e ∷ events) up not =
    let parts = may_not g.is_finished (is_due g.late g.high (clock_at g.places e)) not in
    all_by (λ x. is_due g.late g.high (clock_at g.places x) ≡ false) (λ x. may_go g x ≡ false)
    (λ x due. ap (λ t. cond t true (is_due g.late g.high (clock_at g.places x))) parts.0 ∙ due)
    (e ∷ events) (none_due g.late g.high (clock_at g.places) e events up parts.1)

pub none_goes : (g : GateState) → Ascends (clock_at g.places) g.events → any_due g ≡ false → AllByRecursion (λ e. may_go g e ≡ false) g.events
none_goes g up not = none_to_go g g.events up not

no_event : (g : GateState) (events : List (ℕ × Event)) → g.is_finished ≡ true → AllByRecursion (λ e. may_go g e ≡ false) events → events ≡ []
no_event g [] finished none = refl
no_event g (e ∷ events) finished none =
    let clash : true ≡ false = ap (λ t. cond t true (is_due g.late g.high (clock_at g.places e))) (sym finished) ∙ none.0 in
    absurd (search (rules, clash))

pub all_gone : (g : GateState) (put gone : List (ℕ × Event)) → AllByRecursion (λ e. may_go g e ≡ false) g.events → StandsFor g put gone → gone ≡ all_due g put
all_gone g put gone none stands = at_end g.is_finished refl
  where
    at_end : (t : Bool) → g.is_finished ≡ t → gone ≡ cond t (sorted (clock_at g.places) put) (released (clock_at g.places) g.late put)
    at_end true e = sym (append-nil gone) ∙ (ap (λ l. gone ++ l) (sym (no_event g g.events e none)) ∙ stands.order)
    at_end false e = open_left g.late g.high (clock_at g.places) put gone g.events stands.high stands.order
        (all_by (λ x. may_go g x ≡ true) (λ x. is_due g.late g.high (clock_at g.places x) ≡ true) (λ x may. due_open g x e may) gone stands.due)
        (all_by (λ x. may_go g x ≡ false) (λ x. is_due g.late g.high (clock_at g.places x) ≡ false) (λ x may. ap (λ t. cond t true (is_due g.late g.high (clock_at g.places x))) (sym e) ∙ may) g.events none)

-- what has gone before the end stays first
pub gone_stays : (g : GateState) (put gone more : List (ℕ × Event)) → g.is_finished ≡ false → StandsFor g put gone → IsInTime (clock_at g.places) g.late (put ++ more) → BeginsWith gone (released (clock_at g.places) g.late (put ++ more)) × BeginsWith gone (sorted (clock_at g.places) (put ++ more))
gone_stays g put gone more going stands t = by_high g.high refl gone stands.order (all_by (λ x. may_go g x ≡ true) (λ x. is_due g.late g.high (clock_at g.places x) ≡ true) (λ x may. due_open g x going may) gone stands.due)
  where
    by_high : (high : Option ℤ) → g.high ≡ high → (gone : List (ℕ × Event)) → gone ++ g.events ≡ sorted (clock_at g.places) put → AllByRecursion (λ x. is_due g.late high ((clock_at g.places) x) ≡ true) gone → BeginsWith gone (released (clock_at g.places) g.late (put ++ more)) × BeginsWith gone (sorted (clock_at g.places) (put ++ more))
    by_high None is [] order due = ((released (clock_at g.places) g.late (put ++ more), refl), (sorted (clock_at g.places) (put ++ more), refl))
    by_high None is (x ∷ gone) order due = absurd (search (rules, due.0))
    by_high (Some high) is gone order due =
        let low = all_by (λ x. int_le ((clock_at g.places) x) (high -ℤ pos g.late) ≡ true) (λ x. (clock_at g.places) x ≤ℤ (high -ℤ pos g.late)) (λ x e. upto_test ((clock_at g.places) x) (high -ℤ pos g.late) e) gone due in
        let top = sym stands.high ∙ is in
        (front_is_released (clock_at g.places) g.late high put more gone g.events top order low t, front_stays (clock_at g.places) g.late high put more gone g.events top order low t)
