-- Held cursors as one comes, changes or goes.
use Rattle.std.proofs.Common.{◌≡◌, ℕ, zero, suc, ◌+◌, ◌==◌, ◌<◌, true, List, [], ◌∷◌, ◌++◌, length, position, remove, slice_get, slice_set, Option, Some, None, refl, sym, ◌∙◌, ap, subst, arith}
use Rattle.std.specs.Prelude.{IfSome, IfNone}
use Rattle.std.proofs.lemmas.Bool.{eqb-true}
use Rattle.std.proofs.lemmas.List.{length-set, length-append}
use Rattle.std.proofs.lemmas.List.Edits.{length-remove}
use Rattle.std.proofs.lemmas.List.Quantifiers.{position-Some}
use Rattle.std.proofs.lemmas.Option.{get_or_from_slice_get}
use Rattle.query_engine.specs.Engine.{EngineState, Open}
use Rattle.core_service.specs.declared.AnswerNumbers.{AnswerNumbers}
use Rattle.core_service.specs.declared.marks.HeldMark.{HeldMark}
use Rattle.core_service.specs.declared.marks.TheConstants.{MOST_HELD}
use Rattle.core_service.specs.Answering.{AreKept}
use Rattle.core_service.specs.Holding.{HeldState, IsHolding, cursor_rows, rows_left, held_rows, SameHeld, AddsHeld, DropsHeld, StandsAt, AreNumbersOf, IsDrawn, HasGivenDrawn}
use Rattle.core_service.proofs.Among.{rise_more, rise_set, rise_fewer, at_place, not_held, free_next, others_more, here_more, get_set, others_set, others_fewer, gone_fewer, all_kept}

abbrev pub state : ℕ → List HeldMark → List Open → HeldState
state last marks cursors = record { last = last; marks = marks; cursors = cursors }

-- PLACES

pub item : {X : Type 0} (xs : List X) (k : ℕ) → k < length xs → (x : X) × (slice_get xs k ≡ Some x)
item [] k inside = absurd (omega (arith, inside))
item (x ∷ xs) zero inside = (x, refl)
item (x ∷ xs) (suc k) inside = item xs k (omega (arith, inside))

within : {X : Type 0} (xs : List X) (k : ℕ) (x : X) → slice_get xs k ≡ Some x → k < length xs
within [] k x at = absurd (let clash : None ≡ Some x = at in cc)
within (y ∷ xs) zero x at = omega arith
within (y ∷ xs) (suc k) x at = let rest = within xs k x at in omega arith

pub set_same : {X : Type 0} (xs : List X) (k : ℕ) (x : X) → slice_get xs k ≡ Some x → slice_set xs k x ≡ xs
set_same [] k x at = refl
set_same {X = X} (y ∷ xs) zero x at = let one : y ≡ x = cc in ap (λ (z : X). z ∷ xs) (sym one)
set_same {X = X} (y ∷ xs) (suc k) x at = ap (λ (l : List X). y ∷ l) (set_same xs k x at)

pub mark_number : (held : HeldState) (number place : ℕ) (m : HeldMark) → StandsAt held number place → slice_get held.marks place ≡ Some m → m.number ≡ number
mark_number held number place m h at =
    let there = h.mark_is in
    let one : m ≡ h.mark = cc in
    ap (λ (x : HeldMark). x.number) one ∙ h.number_is

module _ (last : ℕ) (marks : List HeldMark) (cursors : List Open) (number : ℕ) where
  pub found_at : (place : Option ℕ) → length marks ≡ length cursors → place ≡ position (λ (m : HeldMark). m.number == number) marks → IfSome place (StandsAt (state last marks cursors) number)
  found_at None long is = tt
  found_at (Some k) long is =
      let some = position-Some (λ (m : HeldMark). m.number == number) marks k (record { number = 0; end = 0; drawn = None }) (sym is) in
      let inside = some.0 in
      let m = item marks k inside in
      let c = item cursors k (omega (arith, inside, long)) in
      let here = position-Some (λ (m : HeldMark). m.number == number) marks k m.0 (sym is) in
      record {
        mark = m.0;
        cursor = c.0;
        mark_is = m.1;
        cursor_is = c.1;
        number_is = eqb-true m.0.number number (subst (λ (x : HeldMark). (x.number == number) ≡ true) (get_or_from_slice_get marks k m.0 m.0 m.1) here.1);
      }

  pub none_at : (place : Option ℕ) → place ≡ position (λ (m : HeldMark). m.number == number) marks → IfNone place ((e : EngineState) → held_rows e (state last marks cursors) number ≡ None)
  none_at None is = λ e. not_held e marks cursors number (sym is)
  none_at (Some k) is = tt

-- A CURSOR COMES

module _ (last : ℕ) (marks : List HeldMark) (cursors : List Open) (h : IsHolding last marks cursors) (m : HeldMark) (c : Open) (next : m.number ≡ last + 1) where
  pub holding_more : length marks < MOST_HELD → IsHolding m.number (marks ++ m ∷ []) (cursors ++ c ∷ [])
  holding_more few =
      let one = length-append marks (m ∷ []) in
      let two = length-append cursors (c ∷ []) in
      let same = h.count in record {
        count = omega arith;
        few = omega arith;
        rising = rise_more 0 last marks m h.rising (omega arith);
      }

  pub adds : (e : EngineState) → AddsHeld e m.number (state last marks cursors) (state m.number (marks ++ m ∷ []) (cursors ++ c ∷ [])) (cursor_rows e m c)
  adds e =
      let free = subst (λ (n : ℕ). held_rows e (state last marks cursors) n ≡ None) (sym next) (free_next e last marks cursors h.rising) in record {
        number_is = next;
        last = refl;
        count = length-append marks (m ∷ []);
        free = free;
        here = here_more e marks cursors m c h.count free;
        others = λ other differ. others_more e marks cursors m c other h.count differ;
      }

-- A CURSOR CHANGES

module _ (last : ℕ) (marks : List HeldMark) (cursors : List Open) (h : IsHolding last marks cursors) (number place : ℕ) (m : HeldMark) (c : Open) (at : slice_get marks place ≡ Some m) (there : slice_get cursors place ≡ Some c) where
  pub holding_set : (n : HeldMark) (d : Open) → n.number ≡ m.number → IsHolding last (slice_set marks place n) (slice_set cursors place d)
  holding_set n d same =
      let one = length-set marks place n in
      let two = length-set cursors place d in
      let count = h.count in
      let most = h.few in record {
        count = omega arith;
        few = omega arith;
        rising = rise_set 0 last marks place m n at same h.rising;
      }

  pub drawn_at : (e : EngineState) (n : HeldMark) (d : Open) (result : Option AnswerNumbers) → m.number ≡ number → n ≡ record m { drawn = n.drawn } → rows_left (cursor_rows e n d) ≡ rows_left (cursor_rows e m c) → AreNumbersOf (cursor_rows e n d) d.path result →
      IsDrawn e number place (state last marks cursors) (state last (slice_set marks place n) (slice_set cursors place d)) result
  drawn_at e n d result is mark left shown =
      let same : n.number ≡ m.number = ap (λ (x : HeldMark). x.number) mark in record {
        before = cursor_rows e m c;
        now = cursor_rows e n d;
        changes = record {
          last = refl;
          count = length-set marks place n;
          was = at_place e 0 last marks cursors number place m c h.rising at there is;
          is = at_place e 0 last (slice_set marks place n) (slice_set cursors place d) number place n d (holding_set n d same).rising (get_set marks place m n at) (get_set cursors place c d there) (same ∙ is);
          others = λ other differ. others_set e marks cursors place other m n c d at there same (λ equal. differ (equal ∙ is));
        };
        left = left;
        cursor = d;
        cursor_is = get_set cursors place c d there;
        shown = shown;
      }

  pub given_at : (e : EngineState) → m.number ≡ number → HasGivenDrawn e number (state last marks cursors) (state last (slice_set marks place (record m { drawn = None })) cursors)
  given_at e is =
      let n : HeldMark = record m { drawn = None } in
      let stay = set_same cursors place c there in record {
        before = cursor_rows e m c;
        changes = record {
          last = refl;
          count = length-set marks place n;
          was = at_place e 0 last marks cursors number place m c h.rising at there is;
          is = at_place e 0 last (slice_set marks place n) cursors number place n c (holding_set n c refl).rising (get_set marks place m n at) there is;
          others = λ other differ. subst (λ (l : List Open). held_rows e (state last (slice_set marks place n) l) other ≡ held_rows e (state last marks cursors) other) stay
              (others_set e marks cursors place other m n c c at there refl (λ equal. differ (equal ∙ is)));
        };
      }

  pub holding_fewer : IsHolding last (remove marks place) (remove cursors place)
  holding_fewer =
      let inside = within marks place m at in
      let one = length-remove marks place inside in
      let two = length-remove cursors place (within cursors place c there) in
      let count = h.count in
      let most = h.few in record {
        count = omega arith;
        few = omega arith;
        rising = rise_fewer 0 last marks place inside h.rising;
      }

  pub dropped_at : (e : EngineState) → m.number ≡ number → DropsHeld e number (state last marks cursors) (state last (remove marks place) (remove cursors place))
  dropped_at e is = record {
    last = refl;
    count = length-remove marks place (within marks place m at);
    rows = cursor_rows e m c;
    was = at_place e 0 last marks cursors number place m c h.rising at there is;
    gone = subst (λ (n : ℕ). held_rows e (state last (remove marks place) (remove cursors place)) n ≡ None) is (gone_fewer e 0 last marks cursors place m h.rising at);
    others = λ other differ. others_fewer e marks cursors place other m c at there (λ equal. differ (equal ∙ is));
  }

-- ONE ENGINE AFTER ANOTHER

pub same_held : (old new : EngineState) (last : ℕ) (marks : List HeldMark) (before after : List Open) → AreKept old new before after → SameHeld old new (state last marks before) (state last marks after)
same_held old new last marks before after kept = record { last = refl; count = refl; rows = λ number. all_kept old new marks before after number kept }
