-- The rows that stay come first, in their order.
use Rattle.std.proofs.Common.{◌≡◌, ℕ, ◌+◌, ◌<◌, ◌≤◌, ℤ, List, [], ◌∷◌, ◌++◌, length, map, take, drop, set, swap, get_or, Option, Some, refl, sym, ap, ◌∙◌, inl, inr, arith, false, length-set}
use Rattle.std.specs.Prelude.{slice_get, nat_eq}
use Rattle.std.specs.List.{IsDistinct, AllByRecursion}
use Rattle.std.proofs.lemmas.Map.Keys.{IsDistinct-cons, IsDistinct-head, IsDistinct-tail}
use Rattle.std.proofs.lemmas.List.{append-nil, take_more, take_more_set, take-set-le, drop-set-lt, drop-drop, get_or-drop, get_or-set_same}
use Rattle.std.proofs.lemmas.List.Edits.{swap_is, length-swap}
use Rattle.std.proofs.lemmas.Bool.{cases_eq}
use Rattle.std.proofs.lemmas.Option.{slice_get_within, get_or_from_slice_get, slice_get-get_or}
use Rattle.cer_base.specs.declared.node.Root.{Root}
use Rattle.cer_base.specs.declared.node.Node.{Node}
use Rattle.event_update.specs.Update.{entries_in}
use Rattle.arena_compact.specs.Roots.{recent_entries, with_row, kept_rows, EntriesMoved, RowsMoved, MovedAt, Stays, Goes}

-- The first k rows are moved, and those that stay come first.
pub record Keeping (low : ℤ) (nodes : List Node) (table : List (Option ℕ)) (old cur : List (ℕ × List Root)) (k kept : ℕ) : Type 0 where
  pub done : RowsMoved nodes table (kept_rows low (take k old)) (take kept cur)
  pub behind : drop k cur ≡ drop k old
  pub long : length cur ≡ length old
  pub front : kept ≤ k
  pub few : k ≤ length old

pub keeping_none : (low : ℤ) (nodes : List Node) (table : List (Option ℕ)) (old : List (ℕ × List Root)) → Keeping low nodes table old old 0 0
keeping_none low nodes table old = record { done = tt; behind = refl; long = refl; front = omega arith; few = omega arith }

with_push : (n : ℕ) (es : List Root) (rows more : List (ℕ × List Root)) → with_row n es rows ++ more ≡ with_row n es (rows ++ more)
with_push n [] rows more = refl
with_push n (e ∷ es) rows more = refl

kept_push : (low : ℤ) (rows : List (ℕ × List Root)) (r : ℕ × List Root) → kept_rows low (rows ++ r ∷ []) ≡ kept_rows low rows ++ with_row r.0 (recent_entries low r.1) []
kept_push low [] r = refl
kept_push low (s ∷ rows) r = ap (with_row s.0 (recent_entries low s.1)) (kept_push low rows r) ∙ sym (with_push s.0 (recent_entries low s.1) (kept_rows low rows) (with_row r.0 (recent_entries low r.1) []))

moved_push : (nodes : List Node) (table : List (Option ℕ)) (ls ms : List (ℕ × List Root)) (n : ℕ) (es fs : List Root) → RowsMoved nodes table ls ms → EntriesMoved nodes table es fs → RowsMoved nodes table (ls ++ (n, es) ∷ []) (ms ++ (n, fs) ∷ [])
moved_push nodes table [] [] n es fs h m = (refl, m, tt)
moved_push nodes table [] (y ∷ ms) n es fs h m = absurd h
moved_push nodes table (x ∷ ls) [] n es fs h m = absurd h
moved_push nodes table (x ∷ ls) (y ∷ ms) n es fs h m = (h.0, h.1, moved_push nodes table ls ms n es fs h.2 m)

some_alone : (n : ℕ) (es : List Root) → 0 < length es → with_row n es [] ≡ (n, es) ∷ []
some_alone n [] lt = absurd (omega arith)
some_alone n (e ∷ es) lt = refl

take_next : (rows : List (ℕ × List Root)) (k : ℕ) (r : ℕ × List Root) → slice_get rows k ≡ Some r → take (k + 1) rows ≡ take k rows ++ r ∷ []
take_next rows k r h = take_more rows k r (slice_get_within rows k r h) ∙ ap (λ s. take k rows ++ s ∷ []) (get_or_from_slice_get rows k r r h)

with_entries : (n : ℕ) (es : List Root) (rows : List (ℕ × List Root)) → entries_in (with_row n es rows) ≡ length es + entries_in rows
with_entries n [] rows = omega arith
with_entries n (e ∷ es) rows = omega arith

recent_after : (low : ℤ) (rows : List (ℕ × List Root)) (r : ℕ × List Root) → entries_in (kept_rows low (rows ++ r ∷ [])) ≡ entries_in (kept_rows low rows) + length (recent_entries low r.1)
recent_after low [] r = with_entries r.0 (recent_entries low r.1) [] ∙ omega arith
recent_after low (s ∷ rows) r =
    let one = with_entries s.0 (recent_entries low s.1) (kept_rows low (rows ++ r ∷ [])) in
    let two = with_entries s.0 (recent_entries low s.1) (kept_rows low rows) in
    let rest = recent_after low rows r in omega arith

-- how many recent entries one row more has
pub recent_more : (low : ℤ) (rows : List (ℕ × List Root)) (k : ℕ) (r : ℕ × List Root) → slice_get rows k ≡ Some r → entries_in (kept_rows low (take (k + 1) rows)) ≡ entries_in (kept_rows low (take k rows)) + length (recent_entries low r.1)
recent_more low rows k r at = ap (λ (rs : List (ℕ × List Root)). entries_in (kept_rows low rs)) (take_next rows k r at) ∙ recent_after low (take k rows) r

entries_moved : (nodes : List Node) (table : List (Option ℕ)) (es fs : List Root) → EntriesMoved nodes table es fs → length fs ≡ length es
entries_moved nodes table [] [] m = refl
entries_moved nodes table [] (f ∷ fs) m = absurd m
entries_moved nodes table (e ∷ es) [] m = absurd m
entries_moved nodes table (e ∷ es) (f ∷ fs) m = let rest = entries_moved nodes table es fs m.1 in omega arith

-- moved rows have as many entries as before
pub as_many_entries : (nodes : List Node) (table : List (Option ℕ)) (ls ms : List (ℕ × List Root)) → RowsMoved nodes table ls ms → entries_in ms ≡ entries_in ls
as_many_entries nodes table [] [] m = refl
as_many_entries nodes table [] (y ∷ ms) m = absurd m
as_many_entries nodes table (x ∷ ls) [] m = absurd m
as_many_entries nodes table (x ∷ ls) (y ∷ ms) m = let one = entries_moved nodes table x.1 y.1 m.1 in let rest = as_many_entries nodes table ls ms m.2 in omega arith

-- after the swap the row stands after those that stay
front_swapped : (cur : List (ℕ × List Root)) (kept k : ℕ) (fs : ℕ × List Root) → kept ≤ k → k < length cur → (take (kept + 1) (swap (set cur k fs) kept k) ≡ take kept cur ++ fs ∷ []) × (drop (k + 1) (swap (set cur k fs) kept k) ≡ drop (k + 1) cur)
front_swapped cur kept k fs le lt =
    let xs = set cur k fs in let long = length-set cur k fs in
    let at : get_or xs k fs ≡ fs = get_or-set_same cur k fs fs lt in
    let was = get_or xs kept fs in
    let ys = set xs kept (get_or xs k fs) in
    let is : set ys k was ≡ swap xs kept k = swap_is xs kept k fs (omega arith) (omega arith) in
    let wide : length ys ≡ length cur = length-set xs kept (get_or xs k fs) ∙ long in
    let one : take kept xs ≡ take kept cur = take-set-le kept cur k fs le in
    let two : take (kept + 1) ys ≡ take kept cur ++ fs ∷ [] = take_more_set xs kept (get_or xs k fs) (omega arith) ∙ ap (λ zs. zs ++ get_or xs k fs ∷ []) one ∙ ap (λ f. take kept cur ++ f ∷ []) at in
    let front : take (kept + 1) (set ys k was) ≡ take kept cur ++ fs ∷ [] = elim (cases_eq kept k) [
      | inl same ↦
          let mine : was ≡ fs = ap (λ i. get_or xs i fs) same ∙ at in
          ap (λ i. take (kept + 1) (set ys i was)) (sym same) ∙ take_more_set ys kept was (omega arith) ∙ ap (λ f. take kept ys ++ f ∷ []) mine ∙ ap (λ zs. zs ++ fs ∷ []) (take-set-le kept xs kept (get_or xs k fs) (omega arith) ∙ one)
      | inr other ↦ take-set-le (kept + 1) ys k was (omega arith) ∙ two
    ] in (
      ap (take (kept + 1)) (sym is) ∙ front,
      ap (drop (k + 1)) (sym is) ∙ drop-set-lt (k + 1) ys k was (omega arith) ∙ drop-set-lt (k + 1) xs kept (get_or xs k fs) (omega arith) ∙ drop-set-lt (k + 1) cur k fs (omega arith),
    )

module _ (low : ℤ) (nodes : List Node) (table : List (Option ℕ)) (old cur : List (ℕ × List Root)) (k kept : ℕ) where
  -- the row at hand is as it was
  pub row_here : (r : ℕ × List Root) → Keeping low nodes table old cur k kept → slice_get cur k ≡ Some r → slice_get old k ≡ Some r
  row_here r h at =
      let inside = slice_get_within cur k r at in let long = h.long in
      let zero_more : (j : ℕ) → j + 0 ≡ j = λ j. omega arith in
      let same : get_or old k r ≡ r = ap (λ j. get_or old j r) (sym (zero_more k)) ∙ sym (get_or-drop k old 0 r) ∙ ap (λ fs. get_or fs 0 r) (sym h.behind) ∙ get_or-drop k cur 0 r ∙ ap (λ j. get_or cur j r) (zero_more k) ∙ get_or_from_slice_get cur k r r at in
      slice_get-get_or old k r (omega arith) ∙ ap (λ f. Some f) same

  behind_more : Keeping low nodes table old cur k kept → drop (k + 1) cur ≡ drop (k + 1) old
  behind_more h = sym (drop-drop 1 k cur) ∙ ap (drop 1) h.behind ∙ drop-drop 1 k old

  pub keeping_more : (next : ℕ) (new : List (ℕ × List Root)) → Keeping low nodes table old cur k kept → k < length old → MovedAt low nodes table cur kept k next new → Keeping low nodes table old new (k + 1) next
  keeping_more next new h lt m = go next new m where
    go : (next : ℕ) (new : List (ℕ × List Root)) → MovedAt low nodes table cur kept k next new → Keeping low nodes table old new (k + 1) next
    go _ _ (Stays r fs at some moved) =
        let here = row_here r h at in let long = h.long in let front = h.front in
        let swapped = front_swapped cur kept k (r.0, fs) h.front (omega arith) in
        let rows : kept_rows low (take (k + 1) old) ≡ kept_rows low (take k old) ++ (r.0, recent_entries low r.1) ∷ [] = ap (kept_rows low) (take_next old k r here) ∙ kept_push low (take k old) r ∙ ap (λ ls. kept_rows low (take k old) ++ ls) (some_alone r.0 (recent_entries low r.1) some) in
        record {
          done = rw (rows, swapped.0) (moved_push nodes table (kept_rows low (take k old)) (take kept cur) r.0 (recent_entries low r.1) fs h.done moved);
          behind = swapped.1 ∙ behind_more h;
          long = length-swap (set cur k (r.0, fs)) kept k ∙ length-set cur k (r.0, fs) ∙ h.long;
          front = omega arith;
          few = omega arith;
        }
    go _ _ (Goes r fs at none) =
        let here = row_here r h at in let front = h.front in
        let rows : kept_rows low (take (k + 1) old) ≡ kept_rows low (take k old) = ap (kept_rows low) (take_next old k r here) ∙ kept_push low (take k old) r ∙ ap (λ rs. kept_rows low (take k old) ++ with_row r.0 rs []) none ∙ append-nil (kept_rows low (take k old)) in
        record {
          done = rw (rows, take-set-le kept cur k (r.0, fs) h.front) h.done;
          behind = drop-set-lt (k + 1) cur k (r.0, fs) (omega arith) ∙ behind_more h;
          long = length-set cur k (r.0, fs) ∙ h.long;
          front = omega arith;
          few = omega arith;
        }

-- the states of the rows that stay are some of those that there were, in order
with_all : (P : ℕ → Type 0) (n : ℕ) (es : List Root) (rows : List (ℕ × List Root)) → P n → AllByRecursion P (map (λ (r : ℕ × List Root). r.0) rows) → AllByRecursion P (map (λ (r : ℕ × List Root). r.0) (with_row n es rows))
with_all P n [] rows here h = h
with_all P n (e ∷ es) rows here h = (here, h)

kept_all : (P : ℕ → Type 0) (low : ℤ) (rows : List (ℕ × List Root)) → AllByRecursion P (map (λ (r : ℕ × List Root). r.0) rows) → AllByRecursion P (map (λ (r : ℕ × List Root). r.0) (kept_rows low rows))
kept_all P low [] h = h
kept_all P low (r ∷ rows) h = with_all P r.0 (recent_entries low r.1) (kept_rows low rows) h.0 (kept_all P low rows h.1)

with_distinct : (n : ℕ) (es : List Root) (rows : List (ℕ × List Root)) → AllByRecursion (λ y. nat_eq n y ≡ false) (map (λ (r : ℕ × List Root). r.0) rows) → IsDistinct nat_eq (map (λ (r : ℕ × List Root). r.0) rows) → IsDistinct nat_eq (map (λ (r : ℕ × List Root). r.0) (with_row n es rows))
with_distinct n [] rows apart h = h
with_distinct n (e ∷ es) rows apart h = IsDistinct-cons nat_eq n (map (λ (r : ℕ × List Root). r.0) rows) apart h

pub kept_distinct : (low : ℤ) (rows : List (ℕ × List Root)) → IsDistinct nat_eq (map (λ (r : ℕ × List Root). r.0) rows) → IsDistinct nat_eq (map (λ (r : ℕ × List Root). r.0) (kept_rows low rows))
kept_distinct low [] h = h
kept_distinct low (r ∷ rows) h =
    let states = map (λ (s : ℕ × List Root). s.0) rows in
    with_distinct r.0 (recent_entries low r.1) (kept_rows low rows) (kept_all (λ y. nat_eq r.0 y ≡ false) low rows (IsDistinct-head nat_eq r.0 states h)) (kept_distinct low rows (IsDistinct-tail nat_eq r.0 states h))

pub moved_states : (nodes : List Node) (table : List (Option ℕ)) (ls ms : List (ℕ × List Root)) → RowsMoved nodes table ls ms → map (λ (r : ℕ × List Root). r.0) ms ≡ map (λ (r : ℕ × List Root). r.0) ls
moved_states nodes table [] [] m = refl
moved_states nodes table [] (y ∷ ms) m = absurd m
moved_states nodes table (x ∷ ls) [] m = absurd m
moved_states nodes table (x ∷ ls) (y ∷ ms) m = ap (λ n. n ∷ map (λ (r : ℕ × List Root). r.0) ms) m.0 ∙ ap (λ ns. x.0 ∷ ns) (moved_states nodes table ls ms m.2)
