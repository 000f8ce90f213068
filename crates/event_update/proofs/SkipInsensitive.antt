-- Events that a skip-insensitive automaton lets pass. For callers of the crate too.
use Rattle.std.proofs.Common.{◌≡◌, ℕ, zero, suc, ◌<◌, ℤ, Bool, true, false, not, ◌&&◌, ◌||◌, cond, List, [], ◌∷◌, ◌++◌, map, refl, sym, ap, subst, ◌∙◌, inl, inr, All, Option, Some, None, option_map, option_and_then, append_assoc, slice_index_or, arith}
use Rattle.std.proofs.Math.Bool.{and-false}
use Rattle.std.proofs.Math.Path.{fun_ext}
use Rattle.std.proofs.lemmas.List.Elements.{All-nil, All-cons, All-head, All-tail}
use Rattle.cer_base.specs.Bits.{has}
use Rattle.cer_base.specs.declared.node.Root.{Root}
use Rattle.cer_base.specs.declared.node.Node.{Node}
use Rattle.cer_base.specs.Members.{Member, with_position}
use Rattle.cea_determinise.specs.declared.cea.Cea.{Cea}
use Rattle.cea_determinise.specs.declared.cea.Phase.{Phase}
use Rattle.cea_determinise.specs.Runs.{LeafSet, Automaton, RunState, start, pair, some_below, candidates, skip_insensitive, agrees, readers, minds_next, waits_at_once, has_leaf, successor, next, Entry, has_mark}
use Rattle.cea_determinise.specs.Strict.{Standing, begin, next_standing, run_standing, phase_after}
use Rattle.cea_determinise.specs.Cea.{automaton_of_cea, IsWellFormed}
use Rattle.cea_determinise.specs.LazyDfa.{Table, standing_at}
use Rattle.cea_determinise.proofs.SomeLeaf.{none_below, found_below}
use Rattle.event_update.specs.Reach.{Seen, entry, Reaches}
use Rattle.event_update.specs.Stands.{Stands}
use Rattle.event_update.specs.Dormancy.{HasRead, IsSkipInsensitive, IsSilent}
use Rattle.event_update.proofs.Reach.{IsLater}
use Rattle.event_update.proofs.Advance.{Extends, reaches_more, starts_more, reaches_less}
use Rattle.event_update.proofs.Dormant.{never_marked, never_begins, some_from}

-- WHICH AUTOMATA ARE SKIP-INSENSITIVE

same_below : (n : ℕ) (f g : LeafSet) → ((k : ℕ) → k < n → f k ≡ g k) → some_below n f ≡ some_below n g
same_below zero f g same = refl
same_below (suc n) f g same = ap (λ b. b || some_below n f) (same n (omega arith)) ∙ ap (λ b. g n || b) (same_below n f g (λ k lt. same k (omega arith)))

none_there : (n : ℕ) (f : LeafSet) → some_below n f ≡ false → (k : ℕ) → k < n → f k ≡ false
none_there n f none k lt = go (f k) refl
  where
    go : (b : Bool) → f k ≡ b → f k ≡ false
    go true e = absurd (let both = sym (found_below n k f lt e) ∙ none in cc)
    go false e = e

and-same : (x m : Bool) → (x && m) && m ≡ x && m
and-same true true = refl
and-same true false = refl
and-same false m = refl

-- what a leaf may follow on, with near followers and without
one_follows : (f w m r : Bool) → (r ≡ true → m ≡ true) → ((f || w) && m) && r ≡ (f && r || w && r)
one_follows true w true true h = refl
one_follows true true true false h = refl
one_follows true false true false h = refl
one_follows true w false true h = (let e = h refl in absurd cc)
one_follows true true false false h = refl
one_follows true false false false h = refl
one_follows false true true true h = refl
one_follows false true true false h = refl
one_follows false true false true h = (let e = h refl in absurd cc)
one_follows false true false false h = refl
one_follows false false m r h = refl

or-false : (b : Bool) → b || false ≡ b
or-false true = refl
or-false false = refl

module _ (a : Automaton) (none_near : (j k : ℕ) → a.near j k ≡ false) (far_below : (j k : ℕ) → j < a.size → a.far j k ≡ true → k < a.size) (fresh waiting : LeafSet) where
  s : RunState
  s = pair fresh waiting

  -- what an event that no leaf can read leaves of it
  left : RunState
  left = pair (λ k. false) (skip_insensitive a s)

  candidates_same : (k : ℕ) → candidates a left k ≡ candidates a s k
  unfolding s left
  candidates_same k = same_below a.size (λ j. skip_insensitive a s j && a.far j k) (λ j. fresh j && (a.near j k || a.far j k) || waiting j && a.far j k) (λ j lt. one j lt)
    where
      one : (j : ℕ) → j < a.size → skip_insensitive a s j && a.far j k ≡ (fresh j && (a.near j k || a.far j k) || waiting j && a.far j k)
      one j lt =
          one_follows (fresh j) (waiting j) (some_below a.size (a.far j)) (a.far j k) (λ e. found_below a.size k (a.far j) (far_below j k lt e) e)
          ∙ ap (λ b. fresh j && (b || a.far j k) || waiting j && a.far j k) (sym (none_near j k))

  skip_insensitive_same : (k : ℕ) → skip_insensitive a left k ≡ skip_insensitive a s k
  unfolding s left
  skip_insensitive_same k = and-same (fresh k || waiting k) (some_below a.size (a.far k))

  successor_same : (bits : LeafSet) (mark : Bool) → successor a left bits mark ≡ successor a s bits mark
  successor_same bits mark i =
      pair (λ k. (candidates_same k i && (bits k && agrees mark (a.marked k))) && minds_next a k)
      (λ k. not mark && skip_insensitive_same k i || (candidates_same k i && (bits k && agrees mark (a.marked k))) && waits_at_once a k)

  next_same : (bits : LeafSet) (mark : Bool) → next a left bits mark ≡ next a s bits mark
  next_same bits mark = ap (λ (t : RunState). cond (has_leaf a t) (Some t) None) (successor_same bits mark)

  quiet_successor : successor a s (λ k. false) false ≡ left
  unfolding s left
  quiet_successor i =
      pair (λ k. (ap (λ b. b && minds_next a k) (and-false (candidates a (pair fresh waiting) k))) i)
      (λ k. (ap (λ b. skip_insensitive a (pair fresh waiting) k || b && waits_at_once a k) (and-false (candidates a (pair fresh waiting) k)) ∙ or-false (skip_insensitive a (pair fresh waiting) k)) i)

  -- where it leaves none, nothing comes after
  none_next : has_leaf a left ≡ false → (bits : LeafSet) (mark : Bool) → next a left bits mark ≡ None
  unfolding s left
  none_next none bits mark = ap (λ b. cond b (Some (successor a left bits mark)) None) (none_leaf)
    where
      no_skip_insensitive : (k : ℕ) → k < a.size → skip_insensitive a s k ≡ false
      no_skip_insensitive k lt = none_there a.size (λ k. skip_insensitive a s k) none k lt

      no_candidate : (k : ℕ) → candidates a left k ≡ false
      no_candidate k = same_below a.size (λ j. skip_insensitive a s j && a.far j k) (λ j. false) (λ j lt. ap (λ b. b && a.far j k) (no_skip_insensitive j lt)) ∙ none_below a.size (λ j. false) (λ j. refl)

      one : (k : ℕ) → k < a.size → (readers a left bits mark k && minds_next a k || (not mark && skip_insensitive a left k || readers a left bits mark k && waits_at_once a k)) ≡ false
      one k lt =
          ap (λ b. (b && (bits k && agrees mark (a.marked k))) && minds_next a k || (not mark && skip_insensitive a left k || (b && (bits k && agrees mark (a.marked k))) && waits_at_once a k)) (no_candidate k)
          ∙ (ap (λ b. not mark && b || false) (skip_insensitive_same k ∙ no_skip_insensitive k lt) ∙ (or-false (not mark && false) ∙ and-false (not mark)))

      none_leaf : has_leaf a (successor a left bits mark) ≡ false
      none_leaf = same_below a.size (λ k. readers a left bits mark k && minds_next a k || (not mark && skip_insensitive a left k || readers a left bits mark k && waits_at_once a k)) (λ k. false) one ∙ none_below a.size (λ k. false) (λ k. refl)

  -- so it does not mind
  passes : (phase : Phase) (bits : LeafSet) (mark : Bool) → option_and_then (λ t. next_standing a false t bits mark) (next_standing a false (record { sets = s; phase = phase }) (λ k. false) false) ≡ next_standing a false (record { sets = s; phase = phase }) bits mark
  passes phase bits mark =
      ap (λ (t : RunState). option_and_then (λ u. next_standing a false u bits mark) (option_map (λ (t : RunState). let r : Standing = record { sets = t; phase = phase } in r) (cond (has_leaf a t) (Some t) None))) quiet_successor
      ∙ (go (has_leaf a left) refl ∙ ap (option_map (λ (t : RunState). let r : Standing = record { sets = t; phase = phase } in r)) (next_same bits mark))
    where
      go : (b : Bool) → has_leaf a left ≡ b → option_and_then (λ u. next_standing a false u bits mark) (option_map (λ (t : RunState). let r : Standing = record { sets = t; phase = phase } in r) (cond b (Some left) None)) ≡ option_map (λ (t : RunState). let r : Standing = record { sets = t; phase = phase } in r) (next a left bits mark)
      go true e = refl
      go false e = ap (option_map (λ (t : RunState). let r : Standing = record { sets = t; phase = phase } in r)) (sym (none_next e bits mark))

-- An automaton without near followers, whose marks need not be contiguous, is skip-insensitive.
no_near_skip_insensitive : (a : Automaton) → ((j k : ℕ) → a.near j k ≡ false) → ((j k : ℕ) → j < a.size → a.far j k ≡ true → k < a.size) → IsSkipInsensitive a false
unfolding s
no_near_skip_insensitive a none_near far_below s bits mark read = go s.sets read
  where
    go : (sets : RunState) → HasRead sets → option_and_then (λ t. next_standing a false t bits mark) (next_standing a false (record { sets = sets; phase = s.phase }) (λ k. false) false) ≡ next_standing a false (record { sets = sets; phase = s.phase }) bits mark
    go start read = absurd read
    go (pair fresh waiting) read = passes a none_near far_below fresh waiting s.phase bits mark

pub cea_skip_insensitive : (c : Cea) → IsWellFormed c → c.strict ≡ false → ((j k : ℕ) → has (slice_index_or c.near.items j []) k ≡ false) → IsSkipInsensitive (automaton_of_cea c) c.strict
cea_skip_insensitive c formed free none_near =
    subst (IsSkipInsensitive (automaton_of_cea c)) (sym free)
    (no_near_skip_insensitive (automaton_of_cea c) none_near (λ j k lt e. (formed.far.sets j [] (let n = formed.far.count in omega arith)).below k e))

-- RUNS THAT PASS

after_event : (a : Automaton) (strict : Bool) (s t : Standing) (bits : LeafSet) (mark : Bool) → next_standing a strict s bits mark ≡ Some t → HasRead t.sets
after_event a strict s t bits mark goes = by (phase_after strict s.phase mark) goes
  where
    of : Option Standing → Type 0
    of None = Unit {0}
    of (Some r) = HasRead r.sets

    some_case : (b : Bool) (p : Phase) → option_map (λ (q : RunState). let r : Standing = record { sets = q; phase = p } in r) (cond b (Some (successor a s.sets bits mark)) None) ≡ Some t → HasRead t.sets
    some_case true p e = subst of e tt
    some_case false p e = absurd cc

    by : (o : Option Phase) → option_and_then (λ p. option_map (λ t. record { sets = t; phase = p }) (next a s.sets bits mark)) o ≡ Some t → HasRead t.sets
    by None e = absurd cc
    by (Some p) e = some_case (has_leaf a (successor a s.sets bits mark)) p e

after_run : (a : Automaton) (strict : Bool) (marks : ℕ → Bool) (s t : Standing) (xs : List Entry) → HasRead s.sets → run_standing a strict marks s xs ≡ Some t → HasRead t.sets
after_run a strict marks s t [] read e = (let same : s ≡ t = cc in subst (λ (u : Standing). HasRead u.sets) same read)
after_run a strict marks s t (x ∷ xs) read e =
    let w = some_from (λ u. run_standing a strict marks u xs) (next_standing a strict s x.bits (marks x.position)) t e in
    after_run a strict marks w.0 t xs (after_event a strict s w.0 x.bits (marks x.position) w.1) w.2

-- a state that a member reaches is one after an event
reached_read : (a : Automaton) (strict : Bool) (xs : List Seen) (s : Standing) (m : Member) → Reaches a strict xs s m → HasRead s.sets
reached_read a strict [] s m r = absurd r
reached_read a strict (x ∷ xs) s m r = elim r [
  | inl first ↦
      let marks = has_mark m.positions in
      let w = some_from (λ u. run_standing a strict marks u (map entry xs)) (next_standing a strict begin x.bits (marks x.stamp.pos)) s first.1.run in
      after_run a strict marks w.0 s (map entry xs) (after_event a strict begin w.0 x.bits (marks x.stamp.pos) w.1) w.2
  | inr other ↦ reached_read a strict xs s m other
]

front_later : (last : Seen) (xs ys : List Seen) → IsLater last (xs ++ ys) → IsLater last xs
front_later last [] ys h = All-nil (λ (y : Seen). y.stamp.pos < last.stamp.pos)
front_later last (x ∷ xs) ys h = All-cons (λ (y : Seen). y.stamp.pos < last.stamp.pos) x xs (All-head (λ (y : Seen). y.stamp.pos < last.stamp.pos) x (xs ++ ys) h) (front_later last xs ys (All-tail (λ (y : Seen). y.stamp.pos < last.stamp.pos) x (xs ++ ys) h))

module _ (a : Automaton) (strict : Bool) (is : IsSkipInsensitive a strict) (xs : List Seen) (no_op last : Seen) (quiet : IsSilent no_op) (later : IsLater no_op xs) (latest : IsLater last (xs ++ no_op ∷ [])) where
  late : IsLater last xs
  late = front_later last xs (no_op ∷ []) latest

  quiet_step : (s : Standing) → next_standing a strict s no_op.bits false ≡ next_standing a strict s (λ k. false) false
  quiet_step s = ap (λ (f : LeafSet). next_standing a strict s f false) (fun_ext quiet)

  -- a step past the event that passes, and back
  through : (s t : Standing) (mark : Bool) → HasRead s.sets → next_standing a strict s last.bits mark ≡ Some t → (u : Standing) × (next_standing a strict s no_op.bits false ≡ Some u) × (next_standing a strict u last.bits mark ≡ Some t)
  through s t mark read goes =
      let w = some_from (λ u. next_standing a strict u last.bits mark) (next_standing a strict s (λ k. false) false) t (is s last.bits mark read ∙ goes) in
      (w.0, quiet_step s ∙ w.1, w.2)

  across : (s u t : Standing) (mark : Bool) → HasRead s.sets → next_standing a strict s no_op.bits false ≡ Some u → next_standing a strict u last.bits mark ≡ Some t → next_standing a strict s last.bits mark ≡ Some t
  across s u t mark read first goes = sym (is s last.bits mark read) ∙ (ap (option_and_then (λ v. next_standing a strict v last.bits mark)) (sym (quiet_step s) ∙ first) ∙ goes)

  from_start : (ys : List Seen) (s t : Standing) (m n : Member) → (s ≡ begin) × (m ≡ record { start = last.stamp; positions = [] }) → Extends a strict last s m t n → Reaches a strict (ys ++ last ∷ []) t n
  from_start ys s t m n new e = starts_more a strict ys last t n (subst (λ p. Extends a strict last begin p t n) new.1 (subst (λ q. Extends a strict last q m t n) new.0 e))

  pub reaches_past : (t : Standing) (n : Member) → Reaches a strict (xs ++ last ∷ []) t n → Reaches a strict ((xs ++ no_op ∷ []) ++ last ∷ []) t n
  reaches_past t n r =
      let o = reaches_less a strict xs last t n late r in
      elim o.was [
        | inl old ↦
            let read = reached_read a strict xs o.state o.member old in
            elim o.extends [
              | inl mark ↦
                  let w = through o.state t true read mark.0 in
                  reaches_more a strict (xs ++ no_op ∷ []) last w.0 t o.member n latest (reaches_more a strict xs no_op o.state w.0 o.member o.member later old (inr (w.1, refl))) (inl (w.2, mark.1))
              | inr past ↦
                  let w = through o.state t false read past.0 in
                  reaches_more a strict (xs ++ no_op ∷ []) last w.0 t o.member n latest (reaches_more a strict xs no_op o.state w.0 o.member o.member later old (inr (w.1, refl))) (inr (w.2, past.1))
            ]
        | inr new ↦ from_start (xs ++ no_op ∷ []) o.state t o.member n new o.extends
      ]

  pub reaches_without : (t : Standing) (n : Member) → Reaches a strict ((xs ++ no_op ∷ []) ++ last ∷ []) t n → Reaches a strict (xs ++ last ∷ []) t n
  reaches_without t n r =
      let o = reaches_less a strict (xs ++ no_op ∷ []) last t n latest r in
      elim o.was [
        | inr new ↦ from_start xs o.state t o.member n new o.extends
        | inl old ↦
            let i = reaches_less a strict xs no_op o.state o.member later old in
            elim i.extends [
              | inl mark ↦ absurd (never_marked a strict i.state o.state no_op.bits quiet mark.0)
              | inr past ↦ elim i.was [
                | inr new ↦ absurd (never_begins a strict o.state no_op.bits false quiet (subst (λ (q : Standing). next_standing a strict q no_op.bits false ≡ Some o.state) new.0 past.0))
                | inl older ↦
                    let read = reached_read a strict xs i.state i.member older in
                    reaches_more a strict xs last i.state t i.member n late older (elim o.extends [
                      | inl mark ↦ inl (across i.state o.state t true read past.0 mark.0, mark.1 ∙ ap (with_position last.stamp.pos) past.1)
                      | inr late ↦ inr (across i.state o.state t false read past.0 late.0, late.1 ∙ past.1)
                    ])
              ]
            ]
      ]

-- what stands without the event that passes stands with it
pub skip_insensitive_stand : (t : Table) (low : ℤ) (xs : List Seen) (no_op last : Seen) (nodes : List Node) (rows : List (ℕ × List Root)) → IsSkipInsensitive (automaton_of_cea t.cea) t.cea.strict → IsSilent no_op → IsLater no_op xs → IsLater last (xs ++ no_op ∷ []) → Stands t low (xs ++ last ∷ []) nodes rows → Stands t low ((xs ++ no_op ∷ []) ++ last ∷ []) nodes rows
skip_insensitive_stand t low xs no_op last nodes rows is quiet later latest st = record {
  sound = λ n m has. reaches_past (automaton_of_cea t.cea) t.cea.strict is xs no_op last quiet later latest (standing_at t.states n) m (st.sound n m has);
  complete = λ s m r keeps. st.complete s m (reaches_without (automaton_of_cea t.cea) t.cea.strict is xs no_op last quiet later latest s m r) keeps;
  distinct = st.distinct;
  lists = st.lists;
  states = st.states;
  ordered = st.ordered;
  narrow = st.narrow;
}

-- each comes after all before it
abbrev pub ComeAfter : List Seen → List Seen → Type 0
ComeAfter xs [] = Unit {0}
ComeAfter xs (z ∷ zs) = IsLater z xs × ComeAfter (xs ++ z ∷ []) zs

append_none : {X : Type 0} (xs : List X) → xs ++ [] ≡ xs
append_none [] = refl
append_none (x ∷ xs) = ap (λ zs. x ∷ zs) (append_none xs)

-- the same of any number of such events
pub skip_insensitive_stands : (t : Table) (low : ℤ) (xs no_op : List Seen) (last : Seen) (nodes : List Node) (rows : List (ℕ × List Root)) → IsSkipInsensitive (automaton_of_cea t.cea) t.cea.strict → All IsSilent no_op → ComeAfter xs no_op → IsLater last (xs ++ no_op) → Stands t low (xs ++ last ∷ []) nodes rows → Stands t low ((xs ++ no_op) ++ last ∷ []) nodes rows
skip_insensitive_stands t low xs [] last nodes rows is quiet later latest st = subst (λ ys. Stands t low (ys ++ last ∷ []) nodes rows) (sym (append_none xs)) st
skip_insensitive_stands t low xs (z ∷ zs) last nodes rows is quiet later latest st =
    let whole : (xs ++ z ∷ []) ++ zs ≡ xs ++ z ∷ zs = append_assoc xs (z ∷ []) zs in
    let after : IsLater last ((xs ++ z ∷ []) ++ zs) = subst (IsLater last) (sym whole) latest in
    subst (λ ys. Stands t low (ys ++ last ∷ []) nodes rows) whole
    (skip_insensitive_stands t low (xs ++ z ∷ []) zs last nodes rows is (All-tail IsSilent z zs quiet) later.1 after
    (skip_insensitive_stand t low xs z last nodes rows is (All-head IsSilent z zs quiet) later.0 (front_later last (xs ++ z ∷ []) zs after) st))

-- and of where members lead
pub skip_insensitive_reaches : (a : Automaton) (strict : Bool) (xs no_op : List Seen) (last : Seen) (t : Standing) (m : Member) → IsSkipInsensitive a strict → All IsSilent no_op → ComeAfter xs no_op → IsLater last (xs ++ no_op) → Reaches a strict (xs ++ last ∷ []) t m → Reaches a strict ((xs ++ no_op) ++ last ∷ []) t m
skip_insensitive_reaches a strict xs [] last t m is quiet later latest r = subst (λ ys. Reaches a strict (ys ++ last ∷ []) t m) (sym (append_none xs)) r
skip_insensitive_reaches a strict xs (z ∷ zs) last t m is quiet later latest r =
    let whole : (xs ++ z ∷ []) ++ zs ≡ xs ++ z ∷ zs = append_assoc xs (z ∷ []) zs in
    let after : IsLater last ((xs ++ z ∷ []) ++ zs) = subst (IsLater last) (sym whole) latest in
    subst (λ ys. Reaches a strict (ys ++ last ∷ []) t m) whole
    (skip_insensitive_reaches a strict (xs ++ z ∷ []) zs last t m is (All-tail IsSilent z zs quiet) later.1 after
    (reaches_past a strict is xs z last (All-head IsSilent z zs quiet) later.0 (front_later last (xs ++ z ∷ []) zs after) t m r))
