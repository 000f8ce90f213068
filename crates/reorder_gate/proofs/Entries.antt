-- The map of the events that wait, by their turns.
use Rattle.std.proofs.Common.{◌≡◌, ℕ, ◌+◌, ◌<◌, ℤ, Bool, true, false, cond, List, [], ◌∷◌, map, refl, sym, ap, ap₂, subst, ◌∙◌, Option, Some, slice_get, arith, rules}
use Rattle.std.specs.Prelude.{int_lt}
use Rattle.std.specs.declared.cmp.Ordering.{Ordering}
use Rattle.std.specs.declared.cmp.Ordering.TheVariants.{Less, Equal, Greater}
use Rattle.std.specs.BTreeMap.{insert_entry}
use Rattle.std.specs.List.{AllByRecursion}
use Rattle.std.specs.Ordering.{int_cmp, nat_cmp, ordering_then, match_ordering}
use Rattle.std.proofs.lemmas.Bool.Decides.{nat_tests}
use Rattle.stream_schema.specs.declared.Event.{Event}
use Rattle.reorder_gate.specs.declared.gate.ReleaseKey.{ReleaseKey}
use Rattle.reorder_gate.specs.Sorting.{placed, Ascends}
use Rattle.reorder_gate.specs.Releasing.{is_due}
use Rattle.reorder_gate.specs.Gates.{GateState, clock_at, any_due}
use Rattle.reorder_gate.specs.Holding.{IsKept}
use Rattle.reorder_gate.proofs.Placing.{all_by, all_placed, ascends_placed}
use Rattle.reorder_gate.proofs.Parts.{placed_parts}

abbrev pub turn_cmp : ReleaseKey → ReleaseKey → Ordering
turn_cmp a b = ordering_then (int_cmp a.clock b.clock) (nat_cmp a.arrival b.arrival)

later : (m n : ℕ) → n < m → nat_cmp m n ≡ Greater
later m n l = grind (arith, nat_tests)

order_of_tests : (t s : Bool) (o : Ordering) → o ≡ Greater → ordering_then (cond t Less (cond s Greater Equal)) o ≡ cond t Less Greater
order_of_tests true s o e = refl
order_of_tests false true o e = refl
order_of_tests false false o e = e

by_clocks : (a b : ReleaseKey) → b.arrival < a.arrival → turn_cmp a b ≡ cond (int_lt a.clock b.clock) Less Greater
by_clocks a b l = order_of_tests (int_lt a.clock b.clock) (int_lt b.clock a.clock) (nat_cmp a.arrival b.arrival) (later a.arrival b.arrival l)

match_both : {X : Type 0} (t : Bool) (x y z : X) → match_ordering (cond t Less Greater) x y z ≡ cond t x z
match_both true x y z = refl
match_both false x y z = refl

-- after all of its clock that came before it
inserted_is : (entries : List (ReleaseKey × (ℕ × Event))) (turn : ReleaseKey) (e : ℕ × Event) → AllByRecursion (λ x. x.0.arrival < turn.arrival) entries
    → insert_entry turn_cmp entries turn e ≡ placed (λ x. x.0.clock) (turn, e) entries
inserted_is [] turn e all = refl
inserted_is (x ∷ entries) turn e all = rw (by_clocks turn x.0 all.0) (match_both (int_lt turn.clock x.0.clock) ((turn, e) ∷ x ∷ entries) ((x.0, e) ∷ entries) (x ∷ insert_entry turn_cmp entries turn e)
    ∙ ap (λ l. cond (int_lt turn.clock x.0.clock) ((turn, e) ∷ x ∷ entries) (x ∷ l)) (inserted_is entries turn e all.1))

placed_alike : {A : Type 0} (f g : A → ℤ) (x : A) (ys : List A) → f x ≡ g x → AllByRecursion (λ y. f y ≡ g y) ys → placed f x ys ≡ placed g x ys
placed_alike f g x [] e all = refl
placed_alike f g x (y ∷ ys) e all = ap₂ (λ a b. cond (int_lt a b) (x ∷ y ∷ ys) (y ∷ placed f x ys)) e all.0
    ∙ ap (λ l. cond (int_lt (g x) (g y)) (x ∷ y ∷ ys) (y ∷ l)) (placed_alike f g x ys e all.1)

pub events_with : (places : List (Option ℕ)) (arrivals : ℕ) (entries : List (ReleaseKey × (ℕ × Event))) (turn : ReleaseKey) (e : ℕ × Event) → IsKept places arrivals entries → turn.clock ≡ clock_at places e → turn.arrival ≡ arrivals
    → map (λ x. x.1) (insert_entry turn_cmp entries turn e) ≡ placed (clock_at places) e (map (λ x. x.1) entries)
events_with places arrivals entries turn e kept told last =
    ap (map (λ x. x.1)) (inserted_is entries turn e (all_by (λ x. (x.0.clock ≡ clock_at places x.1) × (x.0.arrival < arrivals)) (λ x. x.0.arrival < turn.arrival) (λ x both. subst (λ n. x.0.arrival < n) (sym last) both.1) entries kept.turns))
    ∙ (ap (map (λ x. x.1)) (placed_alike (λ x. x.0.clock) (λ x. clock_at places x.1) (turn, e) entries told (all_by (λ x. (x.0.clock ≡ clock_at places x.1) × (x.0.arrival < arrivals)) (λ x. x.0.clock ≡ clock_at places x.1) (λ x both. both.0) entries kept.turns))
    ∙ placed_parts (λ (x : ReleaseKey × (ℕ × Event)). x.1) (clock_at places) (turn, e) entries)

pub kept_with : (places : List (Option ℕ)) (arrivals next : ℕ) (entries new : List (ReleaseKey × (ℕ × Event))) (turn : ReleaseKey) (e : ℕ × Event) → IsKept places arrivals entries → turn.clock ≡ clock_at places e → turn.arrival ≡ arrivals → next ≡ arrivals + 1
    → new ≡ insert_entry turn_cmp entries turn e → IsKept places next new
kept_with places arrivals next entries new turn e kept told last one_more is =
    let sooner = all_by (λ (x : ReleaseKey × (ℕ × Event)). (x.0.clock ≡ clock_at places x.1) × (x.0.arrival < arrivals)) (λ x. x.0.arrival < turn.arrival) (λ x both. subst (λ n. x.0.arrival < n) (sym last) both.1) entries kept.turns in
    let before = all_by (λ (x : ReleaseKey × (ℕ × Event)). (x.0.clock ≡ clock_at places x.1) × (x.0.arrival < arrivals)) (λ x. (x.0.clock ≡ clock_at places x.1) × (x.0.arrival < next)) (λ x both. (both.0, let l = both.1 in omega arith)) entries kept.turns in
    record {
      turns = subst (AllByRecursion (λ x. (x.0.clock ≡ clock_at places x.1) × (x.0.arrival < next))) (sym (is ∙ inserted_is entries turn e sooner))
          (all_placed (λ (x : ReleaseKey × (ℕ × Event)). x.0.clock) (λ x. (x.0.clock ≡ clock_at places x.1) × (x.0.arrival < next)) (turn, e) entries (told, omega arith) before);
      ascends = subst (Ascends (clock_at places)) (sym (ap (map (λ x. x.1)) is ∙ events_with places arrivals entries turn e kept told last)) (ascends_placed (clock_at places) e (map (λ x. x.1) entries) kept.ascends);
    }

pub kept_without : (places : List (Option ℕ)) (arrivals : ℕ) (entries new : List (ReleaseKey × (ℕ × Event))) (first : ReleaseKey × (ℕ × Event)) → IsKept places arrivals entries → entries ≡ first ∷ new → IsKept places arrivals new
kept_without places arrivals entries new first kept is =
    let whole = subst (IsKept places arrivals) is kept in
    record { turns = whole.turns.1; ascends = whole.ascends.1 }

first_of_some : (g : GateState) (arrivals : ℕ) (entries : List (ReleaseKey × (ℕ × Event))) (turn : ReleaseKey) (e : ℕ × Event) → IsKept g.places arrivals entries → slice_get entries 0 ≡ Some (turn, e)
    → any_due (record g { events = map (λ x. x.1) entries }) ≡ cond g.is_finished true (is_due g.late g.high turn.clock)
first_of_some g arrivals [] turn e kept is = absurd (search (rules, is))
first_of_some g arrivals (x ∷ entries) turn e kept is = ap (λ k. cond g.is_finished true (is_due g.late g.high k)) (sym kept.turns.0.0 ∙ ap (λ y. y.0.clock) (one x (turn, e) is))
  where
    one : (x y : ReleaseKey × (ℕ × Event)) → Some x ≡ Some y → x ≡ y
    one x y e = cc

-- the first may go by its turn
pub first_is_due : (g : GateState) (arrivals : ℕ) (entries : List (ReleaseKey × (ℕ × Event))) (turn : ReleaseKey) (e : ℕ × Event) → g.events ≡ map (λ x. x.1) entries → IsKept g.places arrivals entries → slice_get entries 0 ≡ Some (turn, e)
    → any_due g ≡ cond g.is_finished true (is_due g.late g.high turn.clock)
first_is_due g arrivals entries turn e events kept is = ap (λ l. any_due (record g { events = l })) events ∙ first_of_some g arrivals entries turn e kept is
