-- The roots before and after a compaction, and what each node is left for.
use Rattle.std.proofs.Common.{◌≡◌, ℕ, zero, suc, ◌+◌, ◌<◌, ℤ, Bool, true, false, cond, List, [], ◌∷◌, ◌++◌, length, map, take, get_or, Option, refl, sym, ap, subst, ◌∙◌, inl, inr, arith, All, eq-eqb, length-append}
use Rattle.std.specs.Prelude.{◌≤ℤ◌, int_le, ◌==◌, Contains}
use Rattle.std.specs.Int.Signed.{le_z}
use Rattle.std.specs.List.{flat_map}
use Rattle.std.proofs.lemmas.Int.{ints}
use Rattle.std.proofs.lemmas.Bool.{cases_Bool, cases_eq, ne_eqb}
use Rattle.std.proofs.lemmas.List.{take_all, get_or_append_left, get_or-append-add}
use Rattle.std.proofs.lemmas.List.Elements.{All-nil, All-cons, All-head, All-tail, All-append, All-map, All-weaker, All-contains, All-contains_itself, Contains-append_left, Contains-append_right}
use Rattle.cer_base.specs.declared.node.Root.{Root}
use Rattle.cer_base.specs.declared.node.Node.{Node}
use Rattle.cer_base.specs.Members.{newest}
use Rattle.cer_base.specs.Nodes.{tree, WellFormed}
use Rattle.cer_base.proofs.Walks.{test_passes, test_tells}
use Rattle.tecs_enumerate.specs.declared.descent.Pending.{Pending}
use Rattle.tecs_enumerate.specs.Remaining.{CursorState, id_of}
use Rattle.arena_compact.specs.Marks.{Needs, needed_from, IsKept, low_of, IsKeptFrom, AreNodeMarks}
use Rattle.arena_compact.specs.Moves.{MovesTo, Moved}
use Rattle.arena_compact.specs.Roots.{recent_entries, ids_of, list_roots, row_roots, key_roots, stack_roots, cursor_roots, kept_rows, with_row, IsPlaced, EntriesMoved, RowsMoved, KeysMoved, AreMoved, CursorMoved}
use Rattle.arena_compact.specs.Compacted.{lower_of, least_of, entries_of, IsLeftFor, Lists, Held, Compacted}
use Rattle.arena_compact.proofs.Reached.{all_reached, needs_within, alone}
use Rattle.arena_compact.proofs.Standing.{all_of_map}

-- the places that a table gives, one by one, for the same clocks
abbrev GivesAll : List (Option ℕ) → List (ℕ × ℤ) → List (ℕ × ℤ) → Type 0
GivesAll table [] [] = Unit {0}
GivesAll table [] (y ∷ ys) = ⊥
GivesAll table (x ∷ xs) [] = ⊥
GivesAll table (x ∷ xs) (y ∷ ys) = MovesTo table x.0 y.0 × (y.1 ≡ x.1) × GivesAll table xs ys

gives_append : (table : List (Option ℕ)) (xs ys us vs : List (ℕ × ℤ)) → GivesAll table xs ys → GivesAll table us vs → GivesAll table (xs ++ us) (ys ++ vs)
gives_append table [] [] us vs a b = b
gives_append table [] (y ∷ ys) us vs a b = absurd a
gives_append table (x ∷ xs) [] us vs a b = absurd a
gives_append table (x ∷ xs) (y ∷ ys) us vs a b = (a.0, a.1, gives_append table xs ys us vs a.2 b)

-- The root has a place, which is a root too, from the same clock on.
record IsGiven (table : List (Option ℕ)) (ys : List (ℕ × ℤ)) (x : ℕ × ℤ) : Type 0 where
  place : ℕ
  gives : MovesTo table x.0 place
  among : Contains ys (place, x.1)

there : {A : Type 0} (y x : A) (ys : List A) → Contains ys x → Contains (y ∷ ys) x
there y x ys has = (suc has.0, (let lt = has.1 in omega arith), has.2)

gives_each : (table : List (Option ℕ)) (xs ys : List (ℕ × ℤ)) → GivesAll table xs ys → All (IsGiven table ys) xs
gives_each table [] [] g = All-nil (IsGiven table [])
gives_each table [] (y ∷ ys) g = absurd g
gives_each table (x ∷ xs) [] g = absurd g
gives_each table (x ∷ xs) (y ∷ ys) g =
    All-cons (IsGiven table (y ∷ ys)) x xs (record { place = y.0; gives = g.0; among = (0, omega arith, λ j. (y.0, g.1 j)) })
    (All-weaker (IsGiven table ys) (IsGiven table (y ∷ ys)) (λ z i. record { place = i.place; gives = i.gives; among = there y (i.place, z.1) ys i.among }) xs (gives_each table xs ys g.2))

entries_give : (low : ℤ) (nodes : List Node) (table : List (Option ℕ)) (es fs : List Root) → EntriesMoved nodes table es fs → GivesAll table (needed_from low (ids_of es)) (needed_from low (ids_of fs))
entries_give low nodes table [] [] m = tt
entries_give low nodes table [] (f ∷ fs) m = absurd m
entries_give low nodes table (e ∷ es) [] m = absurd m
entries_give low nodes table (e ∷ es) (f ∷ fs) m = (m.0.id, refl, entries_give low nodes table es fs m.1)

-- the nodes of a key's lists, needed from the clock on
abbrev row_ids : ℤ → List (ℕ × List Root) → List (ℕ × ℤ)
row_ids low rows = flat_map (λ (r : ℕ × List Root). needed_from low (ids_of r.1)) rows

rows_give : (low : ℤ) (nodes : List Node) (table : List (Option ℕ)) (rows moved : List (ℕ × List Root)) → RowsMoved nodes table (kept_rows low rows) moved → GivesAll table (row_roots low rows) (row_ids low moved)
rows_give low nodes table [] [] m = tt
rows_give low nodes table [] (s ∷ moved) m = absurd m
rows_give low nodes table (r ∷ rows) moved m = go (λ ms more. rows_give low nodes table rows ms more) (recent_entries low r.1) moved m where
  go : ((ms : List (ℕ × List Root)) → RowsMoved nodes table (kept_rows low rows) ms → GivesAll table (row_roots low rows) (row_ids low ms)) → (es : List Root) (moved : List (ℕ × List Root)) → RowsMoved nodes table (with_row r.0 es (kept_rows low rows)) moved → GivesAll table (needed_from low (ids_of es) ++ row_roots low rows) (row_ids low moved)
  go rec [] moved m = rec moved m
  go rec (e ∷ es) [] m = absurd m
  go rec (e ∷ es) (s ∷ moved) m = gives_append table (needed_from low (ids_of (e ∷ es))) (needed_from low (ids_of s.1)) (row_roots low rows) (row_ids low moved) (entries_give low nodes table (e ∷ es) s.1 m.1) (rec moved m.2)

keys_give : (low : ℤ) (nodes : List Node) (table : List (Option ℕ)) (keys moved : List (List (ℕ × List Root))) → KeysMoved low nodes table keys moved → GivesAll table (key_roots low keys) (flat_map (row_ids low) moved)
keys_give low nodes table [] [] m = tt
keys_give low nodes table [] (ms ∷ moved) m = absurd m
keys_give low nodes table (rows ∷ keys) [] m = absurd m
keys_give low nodes table (rows ∷ keys) (ms ∷ moved) m = gives_append table (row_roots low rows) (row_ids low ms) (key_roots low keys) (flat_map (row_ids low) moved) (rows_give low nodes table rows ms m.0) (keys_give low nodes table keys moved m.1)

stack_gives : (low : ℤ) (table : List (Option ℕ)) (es fs : List Pending) → AreMoved table es fs → GivesAll table (needed_from low (map id_of es)) (needed_from low (map id_of fs))
stack_gives low table [] [] m = tt
stack_gives low table [] (f ∷ fs) m = absurd m
stack_gives low table (e ∷ es) [] m = absurd m
stack_gives low table (e ∷ es) (f ∷ fs) m = (m.1, refl, stack_gives low table es fs m.2)

cursor_gives : (query : ℕ) (table : List (Option ℕ)) (w v : CursorState) → CursorMoved query table w v → GivesAll table (cond (w.query == query) (stack_roots w) []) (cond (v.query == query) (stack_roots v) [])
cursor_gives query table w v m =
    let same : v.query ≡ w.query = ap (λ (x : CursorState). x.query) m.same in
    let low : v.low ≡ w.low = ap (λ (x : CursorState). x.low) m.same in
    elim (cases_eq w.query query) [
      | inl mine ↦ rw (eq-eqb w.query query mine, eq-eqb v.query query (same ∙ mine)) (subst (λ (l : ℤ). GivesAll table (stack_roots w) (needed_from l (map id_of v.stack))) (sym low) (stack_gives w.low table w.stack v.stack (m.moved mine)))
      | inr other ↦ rw (ne_eqb w.query query other, ne_eqb v.query query (λ e. other (sym same ∙ e))) tt
    ]

cursors_give : (query : ℕ) (table : List (Option ℕ)) (ws vs : List CursorState) → length vs ≡ length ws → ((k : ℕ) (d : CursorState) → k < length ws → CursorMoved query table (get_or ws k d) (get_or vs k d)) → GivesAll table (cursor_roots query ws) (cursor_roots query vs)
cursors_give query table [] [] l m = tt
cursors_give query table [] (v ∷ vs) l m = absurd (omega arith)
cursors_give query table (w ∷ ws) [] l m = absurd (omega arith)
cursors_give query table (w ∷ ws) (v ∷ vs) l m = gives_append table (cond (w.query == query) (stack_roots w) []) (cond (v.query == query) (stack_roots v) []) (cursor_roots query ws) (cursor_roots query vs) (cursor_gives query table w v (m 0 w (omega arith))) (cursors_give query table ws vs (omega arith) (λ k d lt. m (suc k) d (omega arith)))

-- Where a root comes from: an entry of a list, or what a cursor of the query has left.
data IsOf (query : ℕ) (low : ℤ) (ids : List ℕ) (ws : List CursorState) (x : ℕ × ℤ) : Type 0 where
  OfLists : x.1 ≡ low → Contains ids x.0 → IsOf query low ids ws x
  OfCursor : (w : CursorState) → Contains ws w → w.query ≡ query → x.1 ≡ w.low → Contains (map id_of w.stack) x.0 → IsOf query low ids ws x

-- what comes from some comes from more
more_lists : (query : ℕ) (low : ℤ) (ids more : List ℕ) (ws : List CursorState) → ((id : ℕ) → Contains ids id → Contains more id) → (x : ℕ × ℤ) → IsOf query low ids ws x → IsOf query low more ws x
more_lists query low ids more ws all x (OfLists is has) = OfLists is (all x.0 has)
more_lists query low ids more ws all x (OfCursor w among mine is has) = OfCursor w among mine is has

more_cursors : (query : ℕ) (low : ℤ) (ids : List ℕ) (v : CursorState) (ws : List CursorState) (x : ℕ × ℤ) → IsOf query low ids ws x → IsOf query low ids (v ∷ ws) x
more_cursors query low ids v ws x (OfLists is has) = OfLists is has
more_cursors query low ids v ws x (OfCursor w among mine is has) = OfCursor w (there v w ws among) mine is has

-- all of them come from there
of_ids : (query : ℕ) (low : ℤ) (ids : List ℕ) (ws : List CursorState) → All (IsOf query low ids ws) (needed_from low ids)
of_ids query low ids ws = All-map (IsOf query low ids ws) (λ (id : ℕ). (id, low)) ids (All-weaker (λ (id : ℕ). Contains ids id) (λ (id : ℕ). IsOf query low ids ws (id, low)) (λ id has. OfLists refl has) ids (All-contains_itself ids))

of_rows : (query : ℕ) (low : ℤ) (rows : List (ℕ × List Root)) (ws : List CursorState) → All (IsOf query low (flat_map (λ (r : ℕ × List Root). ids_of r.1) rows) ws) (row_ids low rows)
of_rows query low [] ws = All-nil (IsOf query low [] ws)
of_rows query low (r ∷ rows) ws =
    let own = ids_of r.1 in let others = flat_map (λ (s : ℕ × List Root). ids_of s.1) rows in
    let All_of = IsOf query low (own ++ others) ws in
    All-append All_of (needed_from low own) (row_ids low rows)
    (All-weaker (IsOf query low own ws) All_of (more_lists query low own (own ++ others) ws (λ id has. Contains-append_left own others id has)) (needed_from low own) (of_ids query low own ws))
    (All-weaker (IsOf query low others ws) All_of (more_lists query low others (own ++ others) ws (λ id has. Contains-append_right own others id has)) (row_ids low rows) (of_rows query low rows ws))

of_keys : (query : ℕ) (low : ℤ) (keys : List (List (ℕ × List Root))) (ws : List CursorState) → All (IsOf query low (entries_of keys) ws) (flat_map (row_ids low) keys)
of_keys query low [] ws = All-nil (IsOf query low [] ws)
of_keys query low (rows ∷ keys) ws =
    let own = flat_map (λ (s : ℕ × List Root). ids_of s.1) rows in let others = entries_of keys in
    let All_of = IsOf query low (own ++ others) ws in
    All-append All_of (row_ids low rows) (flat_map (row_ids low) keys)
    (All-weaker (IsOf query low own ws) All_of (more_lists query low own (own ++ others) ws (λ id has. Contains-append_left own others id has)) (row_ids low rows) (of_rows query low rows ws))
    (All-weaker (IsOf query low others ws) All_of (more_lists query low others (own ++ others) ws (λ id has. Contains-append_right own others id has)) (flat_map (row_ids low) keys) (of_keys query low keys ws))

of_cursors : (query : ℕ) (low : ℤ) (ids : List ℕ) (ws : List CursorState) → All (IsOf query low ids ws) (cursor_roots query ws)
of_cursors query low ids [] = All-nil (IsOf query low ids [])
of_cursors query low ids (w ∷ ws) = All-append (IsOf query low ids (w ∷ ws)) (cond (w.query == query) (stack_roots w) []) (cursor_roots query ws) first (All-weaker (IsOf query low ids ws) (IsOf query low ids (w ∷ ws)) (more_cursors query low ids w ws) (cursor_roots query ws) (of_cursors query low ids ws)) where
  first : All (IsOf query low ids (w ∷ ws)) (cond (w.query == query) (stack_roots w) [])
  first = elim (cases_eq w.query query) [
    | inl mine ↦ rw (eq-eqb w.query query mine) (All-map (IsOf query low ids (w ∷ ws)) (λ (id : ℕ). (id, w.low)) (map id_of w.stack) (All-weaker (λ (id : ℕ). Contains (map id_of w.stack) id) (λ (id : ℕ). IsOf query low ids (w ∷ ws) (id, w.low)) (λ id has. OfCursor w (0, omega arith, refl) mine refl has) (map id_of w.stack) (All-contains_itself (map id_of w.stack))))
    | inr other ↦ rw (ne_eqb w.query query other) (All-nil (IsOf query low ids (w ∷ ws)))
  ]

-- so a node that is needed by one of them is left for a list or a cursor
left_for : (query : ℕ) (low : ℤ) (new : List Node) (keys : List (List (ℕ × List Root))) (ws : List CursorState) (y : ℕ) (from : ℤ) (j : ℕ) → IsOf query low (entries_of keys) ws (y, from) → Needs from new (y ∷ []) j → from ≤ℤ (newest (tree new j)).clock → IsLeftFor query low new keys ws j
left_for query low new keys ws y from j (OfLists is has) needs late =
    Lists (needs_within low new (y ∷ []) (entries_of keys) (λ id c. subst (Contains (entries_of keys)) (sym (alone y id c)) has) j (subst (λ (l : ℤ). Needs l new (y ∷ []) j) is needs)) (subst (λ (l : ℤ). l ≤ℤ (newest (tree new j)).clock) is late)
left_for query low new keys ws y from j (OfCursor w among mine is has) needs late =
    Held w among mine (needs_within w.low new (y ∷ []) (map id_of w.stack) (λ id c. subst (Contains (map id_of w.stack)) (sym (alone y id c)) has) j (subst (λ (l : ℤ). Needs l new (y ∷ []) j) is needs)) (subst (λ (l : ℤ). l ≤ℤ (newest (tree new j)).clock) is late)

-- THE LEAST CLOCK

not_below : (a b : ℤ) → le_z a b ≡ false → b ≤ℤ a
not_below a b fail = let gt : a ≤ℤ b → ⊥ = λ le. let pass = test_passes a b le in let x : true ≡ false = sym pass ∙ fail in cc in omega (arith, ints)

lower_upto : (low own : ℤ) (es : List Pending) → lower_of low own es ≤ℤ low
lower_upto low own [] = omega (arith, ints)
lower_upto low own (e ∷ es) = elim (cases_Bool (le_z low own)) [
  | inl pass ↦ rw pass (omega (arith, ints))
  | inr fail ↦ rw fail (not_below low own fail)
]

lower_own : (low own : ℤ) (e : Pending) (es : List Pending) → lower_of low own (e ∷ es) ≤ℤ own
lower_own low own e es = elim (cases_Bool (le_z low own)) [
  | inl pass ↦ rw pass (test_tells low own pass)
  | inr fail ↦ rw fail (omega (arith, ints))
]

next_upto : (query : ℕ) (low : ℤ) (w : CursorState) → cond (w.query == query) (lower_of low w.low w.stack) low ≤ℤ low
next_upto query low w = elim (cases_eq w.query query) [
  | inl mine ↦ rw (eq-eqb w.query query mine) (lower_upto low w.low w.stack)
  | inr other ↦ rw (ne_eqb w.query query other) (omega (arith, ints))
]

pub least_upto : (query : ℕ) (low : ℤ) (ws : List CursorState) → least_of query low ws ≤ℤ low
least_upto query low [] = omega (arith, ints)
least_upto query low (w ∷ ws) =
    let next = cond (w.query == query) (lower_of low w.low w.stack) low in
    let rest = least_upto query next ws in let step = next_upto query low w in omega (arith, ints)

-- The root is not needed from before a clock on.
abbrev IsSince : ℤ → ℕ × ℤ → Type 0
IsSince b x = b ≤ℤ x.1

since_ids : (b low : ℤ) (ids : List ℕ) → b ≤ℤ low → All (IsSince b) (needed_from low ids)
since_ids b low ids le = All-map (IsSince b) (λ (id : ℕ). (id, low)) ids (λ k d lt. le)

since_rows : (b low : ℤ) (rows : List (ℕ × List Root)) → b ≤ℤ low → All (IsSince b) (row_roots low rows)
since_rows b low [] le = All-nil (IsSince b)
since_rows b low (r ∷ rows) le = All-append (IsSince b) (list_roots low r.1) (row_roots low rows) (since_ids b low (ids_of (recent_entries low r.1)) le) (since_rows b low rows le)

since_keys : (b low : ℤ) (keys : List (List (ℕ × List Root))) → b ≤ℤ low → All (IsSince b) (key_roots low keys)
since_keys b low [] le = All-nil (IsSince b)
since_keys b low (rows ∷ keys) le = All-append (IsSince b) (row_roots low rows) (key_roots low keys) (since_rows b low rows le) (since_keys b low keys le)

since_stack : (b low own : ℤ) (es : List Pending) → b ≤ℤ lower_of low own es → All (IsSince b) (needed_from own (map id_of es))
since_stack b low own [] le = All-nil (IsSince b)
since_stack b low own (e ∷ es) le = let lower = lower_own low own e es in since_ids b own (map id_of (e ∷ es)) (omega (arith, ints))

since_cursors : (query : ℕ) (b low : ℤ) (ws : List CursorState) → b ≤ℤ least_of query low ws → All (IsSince b) (cursor_roots query ws)
since_cursors query b low [] le = All-nil (IsSince b)
since_cursors query b low (w ∷ ws) le = All-append (IsSince b) (cond (w.query == query) (stack_roots w) []) (cursor_roots query ws) first (since_cursors query b (cond (w.query == query) (lower_of low w.low w.stack) low) ws le) where
  first : All (IsSince b) (cond (w.query == query) (stack_roots w) [])
  first =
      let next = cond (w.query == query) (lower_of low w.low w.stack) low in
      let rest = least_upto query next ws in
      let under : b ≤ℤ next = omega (arith, ints) in
      elim (cases_eq w.query query) [
        | inl mine ↦ rw (eq-eqb w.query query mine) (since_stack b low w.low w.stack (subst (λ (t : Bool). b ≤ℤ cond t (lower_of low w.low w.stack) low) (eq-eqb w.query query mine) under))
        | inr other ↦ rw (ne_eqb w.query query other) (All-nil (IsSince b))
      ]

module _ (low : ℤ) (query : ℕ) (old new : List Node) (marks table : List (Option ℕ)) (lows : List ℤ) (keys moved : List (List (ℕ × List Root))) (ws vs : List CursorState) (w : WellFormed old) (marked : AreNodeMarks old (key_roots low keys ++ cursor_roots query ws) 0 marks lows) (h : Moved lows old marks (length old) new table) (m : KeysMoved low new table keys moved) (l : length vs ≡ length ws) (c : (k : ℕ) (d : CursorState) → k < length ws → CursorMoved query table (get_or ws k d) (get_or vs k d)) where
  abbrev roots : List (ℕ × ℤ)
  roots = key_roots low keys ++ cursor_roots query ws

  abbrev new_roots : List (ℕ × ℤ)
  new_roots = flat_map (row_ids low) moved ++ cursor_roots query vs

  given : (root : ℕ) (from : ℤ) → Contains roots (root, from) → (y : ℕ) × MovesTo table root y × Contains new_roots (y, from)
  given root from has =
      let each = gives_each table roots new_roots (gives_append table (key_roots low keys) (flat_map (row_ids low) moved) (cursor_roots query ws) (cursor_roots query vs) (keys_give low new table keys moved m) (cursors_give query table ws vs l c)) in
      let i = All-contains (IsGiven table new_roots) roots (root, from) each has in
      (i.place, i.gives, i.among)

  -- so what is left is what a compaction promises
  pub compacted : Compacted query low old new moved vs
  compacted = record {
    well_formed = h.well_formed;
    no_new_start = h.no_new_start;
    fewer_later = λ p. let few = h.fewer_later p in let all : take (length old) old ≡ old = take_all (length old) old (omega arith) in rw all at few;
    left = λ j lt.
        let r = all_reached old lows marks roots marked new table w h new_roots given j lt in
        let ids = entries_of moved in
        let from = All-contains (IsOf query low ids vs) new_roots (r.2, r.1) (All-append (IsOf query low ids vs) (flat_map (row_ids low) moved) (cursor_roots query vs) (of_keys query low moved vs) (of_cursors query low ids vs)) r.4 in
        left_for query low new moved vs r.2 r.1 j from r.5 r.6;
  }

  -- and where no cursor needs an earlier clock, all nodes are recent
  pub all_recent : least_of query low ws ≡ low → (j : ℕ) → j < length new → low ≤ℤ (newest (tree new j)).clock
  all_recent same j lt =
      let r = all_reached old lows marks roots marked new table w h new_roots given j lt in
      let under : low ≤ℤ least_of query low ws = subst (λ (z : ℤ). low ≤ℤ z) (sym same) (omega (arith, ints)) in
      let since : low ≤ℤ r.1 = All-contains (IsSince low) roots (r.0, r.1) (All-append (IsSince low) (key_roots low keys) (cursor_roots query ws) (since_keys low low keys (omega (arith, ints))) (since_cursors query low low ws under)) r.3 in
      let late = r.6 in omega (arith, ints)

-- what holds of all of a row holds of each part
all_left : {A : Type 0} (P : A → Type 0) (xs ys : List A) → All P (xs ++ ys) → All P xs
all_left P xs ys h = λ k d lt. subst P (get_or_append_left xs ys d k lt) (h k d (let l = length-append xs ys in omega arith))

all_right : {A : Type 0} (P : A → Type 0) (xs ys : List A) → All P (xs ++ ys) → All P ys
all_right P xs ys h = λ k d lt. subst P (get_or-append-add xs ys k d) (h (length xs + k) d (let l = length-append xs ys in omega arith))

all_part : {X A : Type 0} (P : A → Type 0) (f : X → List A) (xs : List X) (k : ℕ) (d : X) → k < length xs → All P (flat_map f xs) → All P (f (get_or xs k d))
all_part P f [] k d lt h = absurd (omega arith)
all_part P f (x ∷ xs) zero d lt h = all_left P (f x) (flat_map f xs) h
all_part P f (x ∷ xs) (suc k) d lt h = all_part P f xs k d (omega arith) (all_right P (f x) (flat_map f xs) h)

recent_yes : (low : ℤ) (e : Root) (es : List Root) → le_z low e.max.clock ≡ true → recent_entries low (e ∷ es) ≡ e ∷ recent_entries low es
recent_yes low e es pass = rw pass refl

recent_no : (low : ℤ) (e : Root) (es : List Root) → le_z low e.max.clock ≡ false → recent_entries low (e ∷ es) ≡ recent_entries low es
recent_no low e es fail = rw fail refl

recent_all : (P : ℕ × ℤ → Type 0) (low : ℤ) (es : List Root) → All P (list_roots low es) → All (λ e. int_le low e.max.clock ≡ true → P (e.id, low)) es
recent_all P low [] h = All-nil (λ (e : Root). int_le low e.max.clock ≡ true → P (e.id, low))
recent_all P low (e ∷ es) h = elim (cases_Bool (le_z low e.max.clock)) [
  | inl pass ↦
      let all : All P ((e.id, low) ∷ list_roots low es) = subst (λ (rs : List Root). All P (needed_from low (ids_of rs))) (recent_yes low e es pass) h in
      All-cons (λ (f : Root). int_le low f.max.clock ≡ true → P (f.id, low)) e es (λ t. All-head P (e.id, low) (list_roots low es) all) (recent_all P low es (All-tail P (e.id, low) (list_roots low es) all))
  | inr fail ↦
      let all : All P (list_roots low es) = subst (λ (rs : List Root). All P (needed_from low (ids_of rs))) (recent_no low e es fail) h in
      All-cons (λ (f : Root). int_le low f.max.clock ≡ true → P (f.id, low)) e es (λ t. absurd (let x : true ≡ false = sym t ∙ fail in cc)) (recent_all P low es all)
]

rows_recent : (P : ℕ × ℤ → Type 0) (low : ℤ) (rows : List (ℕ × List Root)) → All P (row_roots low rows) → All (λ (r : ℕ × List Root). All (λ e. int_le low e.max.clock ≡ true → P (e.id, low)) r.1) rows
rows_recent P low rows h = λ k r lt. recent_all P low (get_or rows k r).1 (all_part P (λ (s : ℕ × List Root). list_roots low s.1) rows k r lt h)

-- what holds of all roots holds of a cursor's nodes, from its clock on
pub cursor_kept : (P : ℕ × ℤ → Type 0) (low : ℤ) (query : ℕ) (keys : List (List (ℕ × List Root))) (ws : List CursorState) (k : ℕ) (d : CursorState) → k < length ws → (get_or ws k d).query ≡ query → All P (key_roots low keys ++ cursor_roots query ws) → All (λ id. P (id, (get_or ws k d).low)) (map id_of (get_or ws k d).stack)
cursor_kept P low query keys ws k d lt mine h =
    let v = get_or ws k d in
    let part = all_part P (λ (w : CursorState). cond (w.query == query) (stack_roots w) []) ws k d lt (all_right P (key_roots low keys) (cursor_roots query ws) h) in
    all_of_map P (λ (id : ℕ). (id, v.low)) (map id_of v.stack) (subst (λ (b : Bool). All P (cond b (stack_roots v) [])) (eq-eqb v.query query mine) part)

-- and of the recent entries, from the query's low clock on
pub entries_kept : (P : ℕ × ℤ → Type 0) (low : ℤ) (query : ℕ) (keys : List (List (ℕ × List Root))) (ws : List CursorState) → All P (key_roots low keys ++ cursor_roots query ws) → All (λ rows. All (λ (r : ℕ × List Root). All (λ e. int_le low e.max.clock ≡ true → P (e.id, low)) r.1) rows) keys
entries_kept P low query keys ws h = λ k d lt. rows_recent P low (get_or keys k d) (all_part P (row_roots low) keys k d lt (all_left P (key_roots low keys) (cursor_roots query ws) h))

-- a kept node has its place after the moves
pub moved_kept : (lows : List ℤ) (old new : List Node) (xs : List (ℕ × ℤ)) (marks table : List (Option ℕ)) (id : ℕ) → AreNodeMarks old xs 0 marks lows → Moved lows old marks (length old) new table → IsKept marks id → IsKept table id
moved_kept lows old new xs marks table id marked h k = h.kept id (marked.inside id k) k

pub moved_placed : (lows : List ℤ) (old new : List Node) (xs : List (ℕ × ℤ)) (marks table : List (Option ℕ)) (id : ℕ) → AreNodeMarks old xs 0 marks lows → Moved lows old marks (length old) new table → IsKept marks id → IsPlaced new table id
moved_placed lows old new xs marks table id marked h k =
    let there' = h.kept id (marked.inside id k) k in let gives : MovesTo table id there'.place = record { gives = there'.here } in
    record { place = there'.place; gives = gives; inside = h.inside id there'.place (marked.inside id k) gives }
