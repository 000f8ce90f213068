-- What a cursor has left after the nodes of its stack are moved.
use Rattle.std.proofs.Common.{◌≡◌, ℕ, zero, suc, ◌+◌, ◌<◌, ◌≤◌, ℤ, List, [], ◌∷◌, ◌++◌, length, map, take, get_or, set, Option, Some, refl, sym, ap, subst, ◌∙◌, arith, inl, inr, length-set, append_assoc, All}
use Rattle.std.specs.Prelude.{◌≤ℤ◌, slice_get}
use Rattle.std.proofs.lemmas.Option.{slice_get_within, get_or_from_slice_get}
use Rattle.std.proofs.lemmas.List.{take_more, map-append, get_or-set_same, get_or-set_other}
use Rattle.std.proofs.lemmas.Bool.{cases_eq}
use Rattle.std.proofs.lemmas.List.Elements.{All-head, All-tail}
use Rattle.cer_base.specs.declared.node.Stamp.{Stamp}
use Rattle.cer_base.specs.declared.node.Node.{Node}
use Rattle.cer_base.specs.Members.{newest, need}
use Rattle.cer_base.specs.Nodes.{tree, WellFormed}
use Rattle.cer_base.proofs.Walks.{is_rooted}
use Rattle.tecs_enumerate.specs.declared.descent.Pending.{Pending}
use Rattle.tecs_enumerate.specs.Remaining.{with_positions, answers, rest_of, Room, AllHaveRoom, id_of, prefix_of}
use Rattle.arena_compact.specs.Moves.{MovesTo, Moved}
use Rattle.arena_compact.specs.Roots.{AreMoved}
use Rattle.arena_compact.specs.Marks.{AreNodeMarks, IsLowered, low_of, needed_from}
use Rattle.arena_compact.proofs.Keeping.{marks_root}
use Rattle.arena_compact.proofs.Pruned.{recent-pruned, newest-pruned, need-pruned}

moved_length : (table : List (Option ℕ)) (es fs : List Pending) → AreMoved table es fs → length fs ≡ length es
moved_length table [] [] h = refl
moved_length table [] (f ∷ fs) h = absurd h
moved_length table (e ∷ es) [] h = absurd h
moved_length table (e ∷ es) (f ∷ fs) h = ap suc (moved_length table es fs h.2)

module _ (lows : List ℤ) (old new : List Node) (marks table : List (Option ℕ)) (w : WellFormed old) (h : Moved lows old marks (length old) new table) where
  same_newest : (id f : ℕ) → id < length old → MovesTo table id f → newest (tree new f) ≡ newest (tree old id)
  same_newest id f lt gives = newest-pruned (low_of lows id) (tree old id) (tree new f) (h.trees id f lt gives) (w.well_formed_tree id lt)

  same_answers : (low : ℤ) (front : List ℕ) (id f : ℕ) → low_of lows id ≤ℤ low → id < length old → MovesTo table id f → answers low front (tree new f) ≡ answers low front (tree old id)
  same_answers low front id f le lt gives = ap (map (with_positions front)) (recent-pruned old w.in_step low (low_of lows id) le (tree old id) (tree new f) (h.trees id f lt gives) (is_rooted old w id lt))

  -- what is left is the same, in the same order
  pub same_rest : (low : ℤ) (room : Room) (path : List ℕ) (es fs : List Pending) → All (λ id. low_of lows id ≤ℤ low) (map id_of es) → AllHaveRoom low old room es → AreMoved table es fs → rest_of low new path fs ≡ rest_of low old path es
  same_rest low room path [] [] le fits m = refl
  same_rest low room path [] (f ∷ fs) le fits m = absurd m
  same_rest low room path (e ∷ es) [] le fits m = absurd m
  same_rest low room path (e ∷ es) (f ∷ fs) le fits m =
      let Upto : ℕ → Type 0 = λ id. low_of lows id ≤ℤ low in
      ap (λ n. answers low (take n path) (tree new f.id) ++ rest_of low new path fs) m.0
      ∙ ap (λ ms. ms ++ rest_of low new path fs) (same_answers low (take e.prefix path) e.id f.id (All-head Upto e.id (map id_of es) le) fits.0.inside m.1)
      ∙ ap (λ ms. answers low (take e.prefix path) (tree old e.id) ++ ms) (same_rest low room path es fs (All-tail Upto e.id (map id_of es) le) fits.1 m.2)

  -- and there is room for it
  pub still_fits : (low : ℤ) (room : Room) (es fs : List Pending) → AllHaveRoom low old room es → AreMoved table es fs → AllHaveRoom low new room fs
  still_fits low room [] [] fits m = tt
  still_fits low room [] (f ∷ fs) fits m = absurd m
  still_fits low room (e ∷ es) [] fits m = absurd m
  still_fits low room (e ∷ es) (f ∷ fs) fits m =
      let l = moved_length table es fs m.2 in
      let less : need (tree new f.id) ≤ need (tree old e.id) = need-pruned (low_of lows e.id) (tree old e.id) (tree new f.id) (h.trees e.id f.id fits.0.inside m.1) in
      let stack = fits.0.stack in let front = fits.0.path in let prefix = m.0 in (
        record {
          inside = h.inside e.id f.id fits.0.inside m.1;
          recent = subst (λ (s : Stamp). low ≤ℤ s.clock) (sym (same_newest e.id f.id fits.0.inside m.1)) fits.0.recent;
          stack = omega arith;
          path = omega arith;
        },
        still_fits low room es fs fits.1 m.2,
      )

-- The first k entries' nodes are moved.
pub record Turned (table : List (Option ℕ)) (before now : List ℕ) (k : ℕ) : Type 0 where
  pub long : length now ≡ length before
  pub moved : (j : ℕ) → j < k → j < length before → MovesTo table (get_or before j 0) (get_or now j 0)
  pub others : (j : ℕ) → k ≤ j → get_or now j 0 ≡ get_or before j 0

pub turned_none : (table : List (Option ℕ)) (ids : List ℕ) → Turned table ids ids 0
turned_none table ids = record { long = refl; moved = λ j lt within. absurd (omega arith); others = λ j le. refl }

pub turned_more : (table : List (Option ℕ)) (before now : List ℕ) (k v : ℕ) → Turned table before now k → k < length before → MovesTo table (get_or now k 0) v → Turned table before (set now k v) (k + 1)
turned_more table before now k v h lt gives =
    let long = h.long in
    record {
      long = length-set now k v ∙ h.long;
      moved = λ j below within. elim (cases_eq j k) [
        | inl same ↦
            let here : get_or (set now k v) j 0 ≡ v = ap (λ i. get_or (set now k v) i 0) same ∙ get_or-set_same now k v 0 (omega arith) in
            let was : get_or now k 0 ≡ get_or before j 0 = h.others k (omega arith) ∙ ap (λ i. get_or before i 0) (sym same) in
            subst (λ (x : ℕ). MovesTo table x (get_or (set now k v) j 0)) was (subst (λ (x : ℕ). MovesTo table (get_or now k 0) x) (sym here) gives)
        | inr other ↦ subst (λ (x : ℕ). MovesTo table (get_or before j 0) x) (sym (get_or-set_other now k j v 0 other)) (h.moved j (omega arith) within)
      ];
      others = λ j le. get_or-set_other now k j v 0 (omega arith) ∙ h.others j (omega arith);
    }

-- once all are moved
pub turned_all : (table : List (Option ℕ)) (es fs : List Pending) → map prefix_of fs ≡ map prefix_of es → Turned table (map id_of es) (map id_of fs) (length es) → AreMoved table es fs
turned_all table [] [] p h = tt
turned_all table [] (f ∷ fs) p h = absurd (let e = ap length p in omega arith)
turned_all table (e ∷ es) [] p h = absurd (let l = ap length p in omega arith)
turned_all table (e ∷ es) (f ∷ fs) p h =
    let first : f.prefix ≡ e.prefix = cc in
    let others : map prefix_of fs ≡ map prefix_of es = cc in
    let l = h.long in (
      first,
      h.moved 0 (omega arith) (omega arith),
      turned_all table es fs others (record {
        long = (let k : length (map id_of fs) ≡ length (map id_of es) = omega arith in k);
        moved = λ j lt within. h.moved (suc j) (omega arith) (omega arith);
        others = λ j le. h.others (suc j) (omega arith);
      }),
    )

-- the node of an entry that fits
pub fits_at : (low : ℤ) (nodes : List Node) (room : Room) (es : List Pending) (k id : ℕ) → AllHaveRoom low nodes room es → slice_get (map id_of es) k ≡ Some id → (id < length nodes) × (low ≤ℤ (newest (tree nodes id)).clock)
fits_at low nodes room [] k id fits at = absurd cc
fits_at low nodes room (e ∷ es) zero id fits at = let same : e.id ≡ id = cc in subst (λ (i : ℕ). (i < length nodes) × (low ≤ℤ (newest (tree nodes i)).clock)) same (fits.0.inside, fits.0.recent)
fits_at low nodes room (e ∷ es) (suc k) id fits at = fits_at low nodes room es k id fits.1 at

-- one more entry's node is kept
pub keep_next : (low : ℤ) (nodes : List Node) (room : Room) (roots : List (ℕ × ℤ)) (es : List Pending) (table new : List (Option ℕ)) (lows after : List ℤ) (k id : ℕ) → AllHaveRoom low nodes room es → AreNodeMarks nodes (roots ++ needed_from low (take k (map id_of es))) (length nodes) table lows → slice_get (map id_of es) k ≡ Some id → length nodes ≤ length table → length lows ≡ length table → new ≡ set table id (Some id) → IsLowered table lows id low after → AreNodeMarks nodes (roots ++ needed_from low (take (k + 1) (map id_of es))) (length nodes) new after
keep_next low nodes room roots es table new lows after k id fits h at wide even is lowered =
    let ids = map id_of es in
    let here = fits_at low nodes room es k id fits at in
    let inside = here.0 in
    let more : take (k + 1) ids ≡ take k ids ++ id ∷ [] = take_more ids k id (slice_get_within ids k id at) ∙ ap (λ i. take k ids ++ i ∷ []) (get_or_from_slice_get ids k id id at) in
    let from : needed_from low (take (k + 1) ids) ≡ needed_from low (take k ids) ++ (id, low) ∷ [] = ap (needed_from low) more ∙ map-append (λ (i : ℕ). (i, low)) (take k ids) (id ∷ []) in
    let all : roots ++ needed_from low (take (k + 1) ids) ≡ (roots ++ needed_from low (take k ids)) ++ (id, low) ∷ [] = ap (λ is'. roots ++ is') from ∙ sym (append_assoc roots (needed_from low (take k ids)) ((id, low) ∷ [])) in
    rw (all, is) (marks_root nodes (roots ++ needed_from low (take k ids)) table lows after id id low h (omega arith) (omega arith) inside here.1 lowered)
