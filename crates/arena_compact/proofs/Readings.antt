-- Rows, keys and cursors, read one after the other.
use Rattle.std.proofs.Common.{◌≡◌, ℕ, ℤ, ◌+◌, ◌<◌, ◌≤◌, List, [], ◌∷◌, ◌++◌, length, map, take, drop, set, get_or, Option, Some, refl, sym, ap, subst, ◌∙◌, inl, inr, arith, append_assoc, length-set, All, eq-eqb}
use Rattle.std.specs.List.{flat_map}
use Rattle.std.specs.Prelude.{slice_get}
use Rattle.std.proofs.lemmas.Option.{slice_get_within, get_or_from_slice_get}
use Rattle.std.proofs.lemmas.List.{length-map, get_or-map, append-nil, take_more, get_or-set_same, get_or-set_other, get_or_default, get_or-drop, take_all, take_more_set, drop-set-lt, drop-drop}
use Rattle.std.proofs.lemmas.List.Sums.{sum_by-append}
use Rattle.std.proofs.lemmas.Grind.{flat_map-append}
use Rattle.std.proofs.lemmas.Bool.{cases_eq}
use Rattle.cer_base.specs.declared.node.Root.{Root}
use Rattle.cer_base.specs.declared.node.Node.{Node}
use Rattle.tecs_enumerate.specs.Remaining.{CursorState}
use Rattle.event_update.specs.Update.{entries_in}
use Rattle.arena_compact.specs.Roots.{stack_roots, cursor_roots, places, CursorMoved, kept_rows, RowsMoved, KeysMoved}

-- an element as the code reads it
pub take_read : {X : Type 0} (xs : List X) (k : ℕ) (x : X) → k < length xs → x ≡ get_or xs k x → take (k + 1) xs ≡ take k xs ++ x ∷ []
take_read xs k x lt e = take_more xs k x lt ∙ ap (λ y. take k xs ++ y ∷ []) (sym e)

pub all_read : {X : Type 0} (P : X → Type 0) (xs : List X) (k : ℕ) (x : X) → k < length xs → x ≡ get_or xs k x → All P xs → P x
all_read P xs k x lt e h = subst P (sym e) (h k x lt)

-- The row whose list the code reads.
pub record RowAt (rows : List (ℕ × List Root)) (k : ℕ) (l : List Root) : Type 0 where
  pub row : ℕ × List Root
  pub inside : k < length rows
  pub is : row ≡ get_or rows k row
  pub list : row.1 ≡ l

pub row_at : (rows : List (ℕ × List Root)) (k : ℕ) (l : List Root) → slice_get (map (λ (r : ℕ × List Root). r.1) rows) k ≡ Some l → RowAt rows k l
row_at rows k l at =
    let lists = map (λ (r : ℕ × List Root). r.1) rows in
    let within = slice_get_within lists k l at in let long = length-map rows (λ (r : ℕ × List Root). r.1) in
    let lt : k < length rows = omega arith in
    record {
      row = get_or rows k (0, l);
      inside = lt;
      is = get_or_default rows k (0, l) (get_or rows k (0, l)) lt;
      list = sym (get_or-map (λ (r : ℕ × List Root). r.1) rows k (0, l) l lt) ∙ get_or_from_slice_get lists k l l at;
    }

-- what a key has, as the code reads it
pub mapped_read : {X Y : Type 0} (f : X → Y) (xs : List X) (k : ℕ) (x : X) → k < length xs → x ≡ get_or xs k x → f x ≡ get_or (map f xs) k (f x)
mapped_read f xs k x lt e = ap f e ∙ sym (get_or-map f xs k x (f x) lt)

pub roots_more : {X A : Type 0} (f : X → List A) (roots : List A) (xs : List X) (k : ℕ) (x : X) → k < length xs → x ≡ get_or xs k x → roots ++ flat_map f (take (k + 1) xs) ≡ (roots ++ flat_map f (take k xs)) ++ f x
roots_more f roots xs k x lt e =
    let one : flat_map f (x ∷ []) ≡ f x = append-nil (f x) in
    ap (λ ys. roots ++ flat_map f ys) (take_read xs k x lt e) ∙ ap (λ is. roots ++ is) (flat_map-append f (take k xs) (x ∷ []) ∙ ap (λ is. flat_map f (take k xs) ++ is) one) ∙ sym (append_assoc roots (flat_map f (take k xs)) (f x))

entries_after : (rows : List (ℕ × List Root)) (r : ℕ × List Root) → entries_in (rows ++ r ∷ []) ≡ entries_in rows + length r.1
entries_after [] r = omega arith
entries_after (s ∷ rows) r = let rest = entries_after rows r in omega arith

pub entries_more : (rows : List (ℕ × List Root)) (k : ℕ) (r : ℕ × List Root) → k < length rows → r ≡ get_or rows k r → entries_in (take (k + 1) rows) ≡ entries_in (take k rows) + length r.1
entries_more rows k r lt e = ap entries_in (take_read rows k r lt e) ∙ entries_after (take k rows) r

pub places_more : (keys : List (List (ℕ × List Root))) (k : ℕ) (rows : List (ℕ × List Root)) → k < length keys → rows ≡ get_or keys k rows → places (take (k + 1) keys) ≡ places (take k keys) + entries_in rows
places_more keys k rows lt e = ap places (take_read keys k rows lt e) ∙ sum_by-append entries_in (take k keys) (rows ∷ []) ∙ omega arith

-- another key's rows at a place, after those before it
pub places_set : (keys : List (List (ℕ × List Root))) (k : ℕ) (rows : List (ℕ × List Root)) → k < length keys → places (take (k + 1) (set keys k rows)) ≡ places (take k keys) + entries_in rows
places_set keys k rows lt = ap places (take_more_set keys k rows lt) ∙ sum_by-append entries_in (take k keys) (rows ∷ []) ∙ omega arith

-- The first k cursors are moved.
pub record CursorsMoved (query : ℕ) (table : List (Option ℕ)) (old cur : List CursorState) (k : ℕ) : Type 0 where
  pub long : length cur ≡ length old
  pub done : (j : ℕ) (d : CursorState) → j < k → j < length old → CursorMoved query table (get_or old j d) (get_or cur j d)
  pub others : (j : ℕ) (d : CursorState) → k ≤ j → get_or cur j d ≡ get_or old j d
  pub few : k ≤ length old

pub cursors_more : (query : ℕ) (table : List (Option ℕ)) (old cur : List CursorState) (k : ℕ) (w v : CursorState) → CursorsMoved query table old cur k → k < length old → w ≡ get_or cur k w → CursorMoved query table w v → CursorsMoved query table old (set cur k v) (k + 1)
cursors_more query table old cur k w v h lt at m =
    let long = h.long in
    record {
      long = length-set cur k v ∙ h.long;
      done = λ j d less inside. elim (cases_eq j k) [
        | inl same ↦
            let new : get_or (set cur k v) j d ≡ v = ap (λ i. get_or (set cur k v) i d) same ∙ get_or-set_same cur k v d (omega arith) in
            let was : w ≡ get_or old j d = at ∙ get_or_default cur k w d (omega arith) ∙ h.others k d (omega arith) ∙ ap (λ i. get_or old i d) (sym same) in
            subst (λ (x : CursorState). CursorMoved query table x (get_or (set cur k v) j d)) was (subst (λ (x : CursorState). CursorMoved query table w x) (sym new) m)
        | inr other ↦ subst (λ (x : CursorState). CursorMoved query table (get_or old j d) x) (sym (get_or-set_other cur k j v d other)) (h.done j d (omega arith) inside)
      ];
      others = λ j d le. get_or-set_other cur k j v d (omega arith) ∙ h.others j d (omega arith);
      few = omega arith;
    }

pub roots_next : {X A : Type 0} (f : X → List A) (roots : List A) (xs : List X) (k : ℕ) (x : X) → k < length xs → x ≡ get_or xs k x → roots ++ flat_map f (take (k + 1) xs) ≡ (roots ++ flat_map f (take k xs)) ++ flat_map f (x ∷ [])
roots_next f roots xs k x lt e = ap (λ ys. roots ++ flat_map f ys) (take_read xs k x lt e) ∙ ap (λ is. roots ++ is) (flat_map-append f (take k xs) (x ∷ [])) ∙ sym (append_assoc roots (flat_map f (take k xs)) (flat_map f (x ∷ [])))

pub roots_one : (query : ℕ) (w : CursorState) → w.query ≡ query → cursor_roots query (w ∷ []) ≡ stack_roots w
roots_one query w e = rw (eq-eqb w.query query e) (append-nil (stack_roots w))

-- The first k keys' rows are moved.
pub record KeysTurned (low : ℤ) (nodes : List Node) (table : List (Option ℕ)) (old cur : List (List (ℕ × List Root))) (k : ℕ) : Type 0 where
  pub done : KeysMoved low nodes table (take k old) (take k cur)
  pub behind : drop k cur ≡ drop k old
  pub long : length cur ≡ length old
  pub few : k ≤ length old

pub keys_none : (low : ℤ) (nodes : List Node) (table : List (Option ℕ)) (old : List (List (ℕ × List Root))) → KeysTurned low nodes table old old 0
keys_none low nodes table old = record { done = tt; behind = refl; long = refl; few = omega arith }

keys_push : (low : ℤ) (nodes : List Node) (table : List (Option ℕ)) (keys moved : List (List (ℕ × List Root))) (rows ms : List (ℕ × List Root)) → KeysMoved low nodes table keys moved → RowsMoved nodes table (kept_rows low rows) ms → KeysMoved low nodes table (keys ++ rows ∷ []) (moved ++ ms ∷ [])
keys_push low nodes table [] [] rows ms h m = (m, tt)
keys_push low nodes table [] (y ∷ moved) rows ms h m = absurd h
keys_push low nodes table (x ∷ keys) [] rows ms h m = absurd h
keys_push low nodes table (x ∷ keys) (y ∷ moved) rows ms h m = (h.0, keys_push low nodes table keys moved rows ms h.1 m)

module _ (low : ℤ) (nodes : List Node) (table : List (Option ℕ)) (old cur : List (List (ℕ × List Root))) (k : ℕ) where
  -- the rows of the key at hand are as they were
  pub key_here : (rows : List (ℕ × List Root)) → KeysTurned low nodes table old cur k → k < length old → rows ≡ get_or cur k rows → rows ≡ get_or old k rows
  key_here rows h lt at =
      let zero_more : (j : ℕ) → j + 0 ≡ j = λ j. omega arith in
      at ∙ ap (λ j. get_or cur j rows) (sym (zero_more k)) ∙ sym (get_or-drop k cur 0 rows) ∙ ap (λ rs. get_or rs 0 rows) h.behind ∙ get_or-drop k old 0 rows ∙ ap (λ j. get_or old j rows) (zero_more k)

  pub keys_more : (rows ms : List (ℕ × List Root)) → KeysTurned low nodes table old cur k → k < length old → rows ≡ get_or cur k rows → RowsMoved nodes table (kept_rows low rows) ms → KeysTurned low nodes table old (set cur k ms) (k + 1)
  keys_more rows ms h lt at m =
      let here = key_here rows h lt at in let long = h.long in
      record {
        done = rw (take_read old k rows lt here, take_more_set cur k ms (omega arith)) (keys_push low nodes table (take k old) (take k cur) rows ms h.done m);
        behind = drop-set-lt (k + 1) cur k ms (omega arith) ∙ sym (drop-drop 1 k cur) ∙ ap (drop 1) h.behind ∙ drop-drop 1 k old;
        long = length-set cur k ms ∙ h.long;
        few = omega arith;
      }

pub keys_all : (low : ℤ) (nodes : List Node) (table : List (Option ℕ)) (old cur : List (List (ℕ × List Root))) (k : ℕ) → KeysTurned low nodes table old cur k → k ≡ length old → KeysMoved low nodes table old cur
keys_all low nodes table old cur k h end =
    let long = h.long in
    let all : take k old ≡ old = take_all k old (omega arith) in let every : take k cur ≡ cur = take_all k cur (omega arith) in
    rw (all, every) at h.done
