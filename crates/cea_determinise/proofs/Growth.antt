-- States and transitions keep what they are as the table grows. For callers of the crate too.
use Rattle.std.proofs.Common.{◌≡◌, ℕ, zero, suc, ◌<◌, ◌≤◌, Bool, true, false, cond, List, [], ◌∷◌, ◌++◌, Option, Some, None, refl, sym, ap, subst, ◌∙◌, arith, length, take, drop, option_map, append_assoc, length-append, All}
use Rattle.std.specs.Prelude.{slice_get, IfSome, is_none, ◌&&◌}
use Rattle.std.specs.Map.{lookup}
use Rattle.std.proofs.lemmas.Bool.{true≢false, and_parts}
use Rattle.std.proofs.lemmas.List.{take-append-drop}
use Rattle.std.proofs.lemmas.List.Elements.{All-nil, All-cons, All-weaker, All-append, All-push, All-head, All-tail, All-take}
use Rattle.cer_base.specs.Bits.{has, room_for}
use Rattle.cea_determinise.specs.declared.cea.Cea.{Cea}
use Rattle.cea_determinise.specs.declared.cea.StateSets.{StateSets}
use Rattle.cea_determinise.specs.declared.table.TransitionKey.{TransitionKey}
use Rattle.cea_determinise.specs.declared.table.Both.{Both}
use Rattle.cea_determinise.specs.declared.table.Successors.{Successors}
use Rattle.cea_determinise.specs.Runs.{some_below}
use Rattle.cea_determinise.specs.Strict.{next_standing}
use Rattle.cea_determinise.proofs.SomeLeaf.{none_below, found_below}
use Rattle.cea_determinise.specs.Cea.{automaton_of_cea, standing, standing_of, HasLeavesBelow, IsSet}
use Rattle.cea_determinise.specs.Keys.{are_same_sets, is_same_key, Decides-sets, Decides-key}
use Rattle.cea_determinise.specs.LazyDfa.{Table, event_class_at, sets_at, standing_at, standing_after, Leads, AreSuccessors, IsSound, Reached, StaysWithin, IsNext, AreBoth, IsNumber, Adds}

slice_get-left : (xs more : List StateSets) (k : ℕ) → k < length xs → slice_get (xs ++ more) k ≡ slice_get xs k
slice_get-left [] more k h = absurd (omega (arith, h))
slice_get-left (x ∷ xs) more zero h = refl
slice_get-left (x ∷ xs) more (suc k) h = slice_get-left xs more k (omega (arith, h))

pub sets_at-later : (xs ys more : List StateSets) (n : ℕ) → ys ≡ xs ++ more → n ≤ length xs → sets_at ys n ≡ sets_at xs n
sets_at-later xs ys more zero e h = refl
sets_at-later xs ys more (suc n) e h = rw e (slice_get-left xs more n (omega (arith, h)))

numbers_later : (xs ys more : List StateSets) (to : Option ℕ) → ys ≡ xs ++ more → IfSome to (λ n. n ≤ length xs) → option_map (standing_at ys) to ≡ option_map (standing_at xs) to
numbers_later xs ys more None e h = refl
numbers_later xs ys more (Some n) e h = ap (λ o. Some (standing o)) (sets_at-later xs ys more n e h)

cached_later : (xs ys more : List StateSets) (to : Option ℕ) → ys ≡ xs ++ more → IfSome to (λ n. n ≤ length xs) → IfSome to (λ n. n ≤ length ys)
cached_later xs ys more None e h = h
cached_later xs ys more (Some n) e h = rw e (omega (arith, h, length-append xs more))

pub after_later : (cea : Cea) (xs ys more : List StateSets) (state : ℕ) (bits : List Bool) (mark : Bool) → ys ≡ xs ++ more → state ≤ length xs → standing_after cea ys state bits mark ≡ standing_after cea xs state bits mark
after_later cea xs ys more state bits mark e h =
    ap (λ o. next_standing (automaton_of_cea cea) cea.strict (standing o) (has bits) mark) (sets_at-later xs ys more state e h)

leads_later : (cea : Cea) (xs ys more : List StateSets) (state : ℕ) (bits : List Bool) (mark : Bool) (to : Option ℕ) → ys ≡ xs ++ more → state ≤ length xs → Leads cea xs state bits mark to → Leads cea ys state bits mark to
leads_later cea xs ys more state bits mark to e h l = record {
  cached = cached_later xs ys more to e l.cached;
  exact = numbers_later xs ys more to e l.cached ∙ l.exact ∙ sym (after_later cea xs ys more state bits mark e h);
}

pub successors_later : (cea : Cea) (xs ys more : List StateSets) (event_classes : List (List Bool)) (p : TransitionKey) (s : Successors) → ys ≡ xs ++ more → AreSuccessors cea xs event_classes p s → AreSuccessors cea ys event_classes p s
successors_later cea xs ys more event_classes p s e a = record {
  state = rw e (omega (arith, a.state, length-append xs more));
  event_class = a.event_class;
  marked = leads_later cea xs ys more p.state (event_class_at event_classes p.event_class) true s.marked e a.state a.marked;
  unmarked = leads_later cea xs ys more p.state (event_class_at event_classes p.event_class) false s.unmarked e a.state a.unmarked;
}

-- a class keeps its number as classes come
pub event_class-later : (xs more : List (List Bool)) (k : ℕ) → k < length xs → event_class_at (xs ++ more) k ≡ event_class_at xs k
event_class-later [] more k h = absurd (omega (arith, h))
event_class-later (x ∷ xs) more zero h = refl
event_class-later (x ∷ xs) more (suc k) h = event_class-later xs more k (omega (arith, h))

pub successors_with_event_classes : (cea : Cea) (states : List StateSets) (xs more : List (List Bool)) (p : TransitionKey) (s : Successors) → AreSuccessors cea states xs p s → AreSuccessors cea states (xs ++ more) p s
successors_with_event_classes cea states xs more p s a =
    let same = event_class-later xs more p.event_class a.event_class in
    record {
      state = a.state;
      event_class = (let le = a.event_class in omega (arith, length-append xs more));
      marked = subst (λ (b : List Bool). Leads cea states p.state b true s.marked) (sym same) a.marked;
      unmarked = subst (λ (b : List Bool). Leads cea states p.state b false s.unmarked) (sym same) a.unmarked;
    }

-- more states, and the same transitions
sound_later : (cea : Cea) (xs ys more : List StateSets) (event_classes : List (List Bool)) (transitions : List (TransitionKey × Successors)) → ys ≡ xs ++ more → All (HasLeavesBelow cea.size) more → IsSound (record { cea = cea; states = xs; event_classes = event_classes; transitions = transitions }) → IsSound (record { cea = cea; states = ys; event_classes = event_classes; transitions = transitions })
sound_later cea xs ys more event_classes transitions e new s = record {
  well_formed = s.well_formed;
  states = rw e (All-append (HasLeavesBelow cea.size) xs more s.states new);
  event_classes = s.event_classes;
  transitions = All-weaker (λ (q : TransitionKey × Successors). AreSuccessors cea xs event_classes q.0 q.1) (λ (q : TransitionKey × Successors). AreSuccessors cea ys event_classes q.0 q.1) (λ q a. successors_later cea xs ys more event_classes q.0 q.1 e a) transitions s.transitions;
}

module _ (t : Table) (state : ℕ) (bits : List Bool) where
  sets_of : (mark : Bool) (state_sets : Option StateSets) (old new : List StateSets) → IsNext t state bits mark state_sets → (a : Adds state_sets old new) → All (HasLeavesBelow t.cea.size) a.more
  sets_of mark state_sets old new n a = All-weaker (λ p. state_sets ≡ Some p) (HasLeavesBelow t.cea.size) (λ p e. subst (λ o. IfSome o (HasLeavesBelow t.cea.size)) e n.sets) a.more a.only

  pub sound_one : (mark : Bool) (state_sets : Option StateSets) (new : List StateSets) → IsNext t state bits mark state_sets → Adds state_sets t.states new → IsSound t → IsSound (record { cea = t.cea; states = new; event_classes = t.event_classes; transitions = t.transitions })
  sound_one mark state_sets new n a s = sound_later t.cea t.states new a.more t.event_classes t.transitions a.states (sets_of mark state_sets t.states new n a) s

  pub sound_two : (b : Both) (one two : List StateSets) → AreBoth t state bits b → Adds b.marked t.states one → Adds b.unmarked one two → IsSound t → IsSound (record { cea = t.cea; states = two; event_classes = t.event_classes; transitions = t.transitions })
  sound_two b one two are a c s = sound_later t.cea one two c.more t.event_classes t.transitions c.states (sets_of false b.unmarked one two are.unmarked c) (sound_one true b.marked one are.marked a s)

  only_next : (mark : Bool) (state_sets : Option StateSets) (old new : List StateSets) → IsNext t state bits mark state_sets → (a : Adds state_sets old new) → All (λ p. (m : Bool) × (Some (standing_of p) ≡ standing_after t.cea t.states state bits m)) a.more
  only_next mark state_sets old new n a =
      All-weaker (λ p. state_sets ≡ Some p) (λ p. (m : Bool) × (Some (standing_of p) ≡ standing_after t.cea t.states state bits m))
      (λ p e. (mark, sym (ap (option_map standing_of) e) ∙ n.exact)) a.more a.only

  pub reached_two : (b : Both) (one two : List StateSets) (transitions : List (TransitionKey × Successors)) → AreBoth t state bits b → Adds b.marked t.states one → Adds b.unmarked one two → Reached t state bits (record { cea = t.cea; states = two; event_classes = t.event_classes; transitions = transitions })
  reached_two b one two transitions are a c = record {
    cea = refl;
    more = a.more ++ c.more;
    states = c.states ∙ ap (λ l. l ++ c.more) a.states ∙ append_assoc t.states a.more c.more;
    event_classes = refl;
    reached = All-append (λ p. (m : Bool) × (Some (standing_of p) ≡ standing_after t.cea t.states state bits m)) a.more c.more (only_next true b.marked t.states one are.marked a) (only_next false b.unmarked one two are.unmarked c);
  }

  leads_to : (mark : Bool) (state_sets : Option StateSets) (n : Option ℕ) (new more : List StateSets) → new ≡ t.states ++ more → state ≤ length t.states → IsNext t state bits mark state_sets → IsNumber new state_sets n → Leads t.cea new state bits mark n
  leads_to mark state_sets n new more e h next is = record {
    cached = is.cached;
    exact = is.exact ∙ next.exact ∙ sym (after_later t.cea t.states new more state bits mark e h);
  }

  pub successors_two : (event_class : ℕ) → bits ≡ event_class_at t.event_classes event_class → event_class < length t.event_classes → (b : Both) (one two : List StateSets) (m u : Option ℕ) → AreBoth t state bits b → Adds b.marked t.states one → Adds b.unmarked one two → IsNumber one b.marked m → IsNumber two b.unmarked u → state ≤ length t.states → AreSuccessors t.cea two t.event_classes (record { state = state; event_class = event_class }) (record { marked = m; unmarked = u })
  successors_two event_class is_event_class cached b one two m u are a c im iu h =
      let e : two ≡ t.states ++ (a.more ++ c.more) = c.states ∙ ap (λ l. l ++ c.more) a.states ∙ append_assoc t.states a.more c.more in
      record {
        state = rw e (omega (arith, h, length-append t.states (a.more ++ c.more)));
        event_class = cached;
        marked = subst (λ (bs : List Bool). Leads t.cea two state bs true m) is_event_class (leads_later t.cea one two c.more state bits true m c.states (rw a.states (omega (arith, h, length-append t.states a.more))) (leads_to true b.marked m one a.more a.states h are.marked im));
        unmarked = subst (λ (bs : List Bool). Leads t.cea two state bs false u) is_event_class (leads_to false b.unmarked u two (a.more ++ c.more) e h are.unmarked iu);
      }

-- one pair more
pub sound_pair : (cea : Cea) (states : List StateSets) (event_classes : List (List Bool)) (transitions : List (TransitionKey × Successors)) (p : TransitionKey) (s : Successors) (new : List (TransitionKey × Successors)) → new ≡ transitions ++ (p, s) ∷ [] → AreSuccessors cea states event_classes p s → IsSound (record { cea = cea; states = states; event_classes = event_classes; transitions = transitions }) → IsSound (record { cea = cea; states = states; event_classes = event_classes; transitions = new })
sound_pair cea states event_classes transitions p s new e a is = record {
  well_formed = is.well_formed;
  states = is.states;
  event_classes = is.event_classes;
  transitions = rw e (All-push (λ (q : TransitionKey × Successors). AreSuccessors cea states event_classes q.0 q.1) transitions (p, s) is.transitions a);
}

-- a pair that is looked up has its successors
pub found_right : (cea : Cea) (states : List StateSets) (event_classes : List (List Bool)) (key : TransitionKey) (transitions : List (TransitionKey × Successors)) (s : Successors) → lookup (is_same_key key) transitions ≡ Some s → All (λ (q : TransitionKey × Successors). AreSuccessors cea states event_classes q.0 q.1) transitions → AreSuccessors cea states event_classes key s
found_right cea states event_classes key [] s e all = absurd (none_some e)
  where
    none_some : None ≡ Some s → ⊥
    none_some f = true≢false (ap (λ (o : Option Successors). is_none o) f)
found_right cea states event_classes key (q ∷ qs) s e all = by (is_same_key key q.0) refl (λ f. found_right cea states event_classes key qs s f (All-tail (λ (r : TransitionKey × Successors). AreSuccessors cea states event_classes r.0 r.1) q qs all))
  where
    by : (b : Bool) → is_same_key key q.0 ≡ b → (lookup (is_same_key key) qs ≡ Some s → AreSuccessors cea states event_classes key s) → AreSuccessors cea states event_classes key s
    by true t rest =
        let same : Some q.1 ≡ Some s = sym (ap (λ b. cond b (Some q.1) (lookup (is_same_key key) qs)) t) ∙ e in
        subst (λ k. AreSuccessors cea states event_classes k s) (sym ((Decides-key key q.0).0 t))
        (subst (λ o. IfSome o (AreSuccessors cea states event_classes q.0)) same (All-head (λ (r : TransitionKey × Successors). AreSuccessors cea states event_classes r.0 r.1) q qs all))
    by false t rest = rest (sym (ap (λ b. cond b (Some q.1) (lookup (is_same_key key) qs)) t) ∙ e)

pub if_found_right : (cea : Cea) (states : List StateSets) (event_classes : List (List Bool)) (key : TransitionKey) (transitions : List (TransitionKey × Successors)) (o : Option Successors) → o ≡ lookup (is_same_key key) transitions → All (λ (q : TransitionKey × Successors). AreSuccessors cea states event_classes q.0 q.1) transitions → IfSome o (AreSuccessors cea states event_classes key)
if_found_right cea states event_classes key transitions None e all = tt
if_found_right cea states event_classes key transitions (Some s) e all = found_right cea states event_classes key transitions s (sym e) all

pub number_is : (keys : List StateSets) (n m : ℕ) (state_sets k : StateSets) (o : Option StateSets) → o ≡ Some state_sets → slice_get keys n ≡ Some k → are_same_sets state_sets k ≡ true → n < length keys → m ≡ suc n → IsNumber keys o (Some m)
number_is keys n m state_sets k o is at same within e = record {
  exact = rw (is, e, at) (ap (λ p. Some (standing_of p)) (sym ((Decides-sets state_sets k).0 same)));
  cached = omega (arith, e, within);
}

-- the test whether two sets meet tells whether a leaf that read the event may be the last
pub meets_tells : (c : Cea) (fresh : List Bool) (r : Bool) → IsSet c.size fresh → (r ≡ true → (k : ℕ) × (has fresh k && has c.last k ≡ true)) → (r ≡ false → (k : ℕ) → has fresh k && has c.last k ≡ false) → r ≡ some_below c.size (λ k. has fresh k && has c.last k)
meets_tells c fresh true is some none =
    let found = some refl in
    sym (found_below c.size found.0 (λ k. has fresh k && has c.last k) (is.below found.0 (and_parts (has fresh found.0) (has c.last found.0) found.1).0) found.1)
meets_tells c fresh false is some none = sym (none_below c.size (λ k. has fresh k && has c.last k) (none refl))

-- one class more
pub sound_event_class : (t : Table) (more : List (List Bool)) → All (λ (b : List Bool). length b ≡ room_for t.cea.size) more → IsSound t → IsSound (record t { event_classes = t.event_classes ++ more })
sound_event_class t more rooms s = record {
  well_formed = s.well_formed;
  states = s.states;
  event_classes = All-append (λ (b : List Bool). length b ≡ room_for t.cea.size) t.event_classes more s.event_classes rooms;
  transitions = All-weaker (λ (q : TransitionKey × Successors). AreSuccessors t.cea t.states t.event_classes q.0 q.1) (λ (q : TransitionKey × Successors). AreSuccessors t.cea t.states (t.event_classes ++ more) q.0 q.1) (λ q a. successors_with_event_classes t.cea t.states t.event_classes more q.0 q.1 a) t.transitions s.transitions;
}

-- The table cut back.

all_both : {X : Type 0} (P Q : X → Type 0) (xs : List X) → All P xs → All Q xs → All (λ x. P x × Q x) xs
all_both P Q [] h k = All-nil (λ x. P x × Q x)
all_both P Q (x ∷ xs) h k = All-cons (λ y. P y × Q y) x xs (All-head P x xs h, All-head Q x xs k) (all_both P Q xs (All-tail P x xs h) (All-tail Q x xs k))

leads_cut : (cea : Cea) (xs more : List StateSets) (state : ℕ) (bits : List Bool) (mark : Bool) (to : Option ℕ) → state ≤ length xs → IfSome to (λ n. n ≤ length xs) → Leads cea (xs ++ more) state bits mark to → Leads cea xs state bits mark to
leads_cut cea xs more state bits mark to h cached l = record {
  cached = cached;
  exact = sym (numbers_later xs (xs ++ more) more to refl cached) ∙ l.exact ∙ after_later cea xs (xs ++ more) more state bits mark refl h;
}

successors_cut : (cea : Cea) (xs more : List StateSets) (cs others : List (List Bool)) (e : TransitionKey × Successors) → StaysWithin (length xs) (length cs) e → AreSuccessors cea (xs ++ more) (cs ++ others) e.0 e.1 → AreSuccessors cea xs cs e.0 e.1
successors_cut cea xs more cs others e w a =
    let same = event_class-later cs others e.0.event_class w.event_class in
    record {
      state = w.state;
      event_class = w.event_class;
      marked = leads_cut cea xs more e.0.state (event_class_at cs e.0.event_class) true e.1.marked w.state w.marked (subst (λ (b : List Bool). Leads cea (xs ++ more) e.0.state b true e.1.marked) same a.marked);
      unmarked = leads_cut cea xs more e.0.state (event_class_at cs e.0.event_class) false e.1.unmarked w.state w.unmarked (subst (λ (b : List Bool). Leads cea (xs ++ more) e.0.state b false e.1.unmarked) same a.unmarked);
    }

-- the first so many states, pairs and classes are sound, where the pairs stay within them
pub sound_cut : (t : Table) (states pairs event_classes : ℕ) → states ≤ length t.states → event_classes ≤ length t.event_classes → All (StaysWithin states event_classes) (take pairs t.transitions) → IsSound t → IsSound (record { cea = t.cea; states = take states t.states; event_classes = take event_classes t.event_classes; transitions = take pairs t.transitions })
sound_cut t states pairs event_classes hs hc within s =
    let xs = take states t.states in
    let cs = take event_classes t.event_classes in
    let ls : length xs ≡ states = length-take-le states t.states hs in
    let lc : length cs ≡ event_classes = length-take-le event_classes t.event_classes hc in
    let F : TransitionKey × Successors → Type 0 = λ e. AreSuccessors t.cea (xs ++ drop states t.states) (cs ++ drop event_classes t.event_classes) e.0 e.1 in
    let G : TransitionKey × Successors → Type 0 = StaysWithin (length xs) (length cs) in
    let full : All F (take pairs t.transitions) =
    subst (λ (ss : List StateSets). All (λ (e : TransitionKey × Successors). AreSuccessors t.cea ss (cs ++ drop event_classes t.event_classes) e.0 e.1) (take pairs t.transitions)) (sym (take-append-drop states t.states))
    (subst (λ (ks : List (List Bool)). All (λ (e : TransitionKey × Successors). AreSuccessors t.cea t.states ks e.0 e.1) (take pairs t.transitions)) (sym (take-append-drop event_classes t.event_classes))
    (All-take (λ (e : TransitionKey × Successors). AreSuccessors t.cea t.states t.event_classes e.0 e.1) pairs t.transitions s.transitions))
    in
    let inner : All G (take pairs t.transitions) =
    subst (λ (n : ℕ). All (StaysWithin n (length cs)) (take pairs t.transitions)) (sym ls) (subst (λ (n : ℕ). All (StaysWithin states n) (take pairs t.transitions)) (sym lc) within)
    in
    record {
      well_formed = s.well_formed;
      states = All-take (HasLeavesBelow t.cea.size) states t.states s.states;
      event_classes = All-take (λ (b : List Bool). length b ≡ room_for t.cea.size) event_classes t.event_classes s.event_classes;
      transitions = All-weaker (λ e. F e × G e) (λ e. AreSuccessors t.cea xs cs e.0 e.1) (λ e h. successors_cut t.cea xs (drop states t.states) cs (drop event_classes t.event_classes) e h.1 h.0) (take pairs t.transitions) (all_both F G (take pairs t.transitions) full inner);
    }
  where
    length-take-le : {X : Type 0} (n : ℕ) (xs : List X) → n ≤ length xs → length (take n xs) ≡ n
    length-take-le zero [] h = refl
    length-take-le (suc n) [] h = absurd (omega (arith, h))
    length-take-le zero (x ∷ xs) h = refl
    length-take-le (suc n) (x ∷ xs) h = ap suc (length-take-le n xs (omega (arith, h)))
