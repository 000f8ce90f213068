-- A walk over the marked query states: between two of them each query state is dormant, and the event is a no-op for it.
use Rattle.std.proofs.Common.{◌≡◌, refl, sym, ap, subst, ◌∙◌, ℕ, zero, suc, ◌+◌, ◌-◌, ◌<◌, ◌≤◌, ◌⊎◌, inl, inr, Bool, true, false, ◌||◌, eqb, List, [], ◌∷◌, ◌++◌, length, map, take, take_all, drop, All, Some, None, slice_get, slice_index_or, slice_set, arith}
use Rattle.std.specs.Prelude.{sum_by}
use Rattle.std.specs.List.{AllZip}
use Rattle.std.proofs.lemmas.Bool.{cases_lt, cases_eq, eqb-true, eq-eqb, false≢true, or_cases, or_left, or_right}
use Rattle.std.proofs.lemmas.Option.{slice_get-get_or}
use Rattle.std.proofs.lemmas.List.Elements.{All-nil, All-cons, All-head, All-tail, All-map}
use Rattle.std.proofs.lemmas.List.Sums.{sum_by-cons}
use Rattle.stream_schema.specs.declared.Event.{Event}
use Rattle.cer_base.specs.Bits.{has}
use Rattle.all_or_none.specs.declared.Activity.{Activity}
use Rattle.all_or_none.specs.Phases.{Phase, IsIdle, CanPrepare, IsNoOpFor, IsNoted, back, is_among, AreSet, IsTaken, IsDormant, IsEmpty, IsUnread, BeginsNone, AreLeft, AreLooked, AreNoOps, AreSpared, AreUntouched, IsUnchanged, AreUnchanged, AreOfMarked, AreBack}
use Rattle.all_or_none.proofs.LoopTurn.{same_next, left_next, all_mapped}
use Rattle.all_or_none.proofs.BothPhases.{map_map}
use Rattle.all_or_none.proofs.Numbers.{read_other, read_there, as_long, among_push, set_none, set_next}

-- the element at a place
pub there : {A : Type 0} (xs : List A) (k : ℕ) → k < length xs → (x : A) × (slice_get xs k ≡ Some x)
there [] k less = absurd (omega arith)
there (x ∷ xs) zero less = (x, refl)
there (x ∷ xs) (suc k) less = there xs k (omega arith)

-- a fact of all is one of the element at a place
pub all_get : {A : Type 0} (P : A → Type 0) (xs : List A) (k : ℕ) (x : A) → All P xs → slice_get xs k ≡ Some x → P x
all_get P [] k x h at = absurd cc
all_get P (y ∷ ys) zero x h at = let same : y ≡ x = cc in subst P same (All-head P y ys h)
all_get P (y ∷ ys) (suc k) x h at = all_get P ys k x (All-tail P y ys h) at

-- to write what is there changes nothing
set_same : {A : Type 0} (xs : List A) (k : ℕ) (x : A) → slice_get xs k ≡ Some x → slice_set xs k x ≡ xs
set_same [] k x at = refl
set_same (y ∷ ys) zero x at = let same : x ≡ y = cc in ap (λ z. z ∷ ys) same
set_same (y ∷ ys) (suc k) x at = ap (λ zs. y ∷ zs) (set_same ys k x at)

get_within : {A : Type 0} (xs : List A) (k : ℕ) (x : A) → slice_get xs k ≡ Some x → k < length xs
get_within [] k x at = absurd cc
get_within (y ∷ ys) zero x at = omega arith
get_within (y ∷ ys) (suc k) x at = let r = get_within ys k x at in omega arith

-- more elements have no lower sum
pub sum_more : {A : Type 0} (f : A → ℕ) (xs : List A) (k j : ℕ) → k ≤ j → sum_by f (take k xs) ≤ sum_by f (take j xs)
sum_more f [] zero zero le = omega arith
sum_more f [] zero (suc j) le = omega arith
sum_more f [] (suc k) zero le = absurd (omega arith)
sum_more f [] (suc k) (suc j) le = omega arith
sum_more f (x ∷ xs) zero zero le = omega arith
sum_more f (x ∷ xs) zero (suc j) le = let a = sum_by-cons f x (take j xs) in omega arith
sum_more f (x ∷ xs) (suc k) zero le = absurd (omega arith)
sum_more f (x ∷ xs) (suc k) (suc j) le =
    let a = sum_by-cons f x (take k xs) in
    let b = sum_by-cons f x (take j xs) in
    let r = sum_more f xs k j (omega arith) in
    omega arith

-- where a marked query state changes, the others are as they were
pub untouched_next : {P : Type 0} (marked : List Bool) (old cur : List P) (k : ℕ) (v : P) → AreUntouched marked old cur → has marked k ≡ true → AreUntouched marked old (slice_set cur k v)
untouched_next marked old cur k v others is j unmarked = read_other cur k j v (λ same. false≢true (sym unmarked ∙ (ap (has marked) same ∙ is))) ∙ others j unmarked

-- What is asked of the query states before the event.
pub record CanTake {P : Type 0} (phase : ℕ → P → Phase) (event : Event) (position : ℕ) (marked : List Bool) (query_states : List P) : Type 0 where
  pub idle : All (λ p. IsIdle (phase position p)) query_states
  pub can : All (λ p. CanPrepare event position (phase position p)) query_states
  pub no_ops : AreNoOps phase event position marked query_states

-- For those that it does not go to the event is a no-op.
pub no_ops_there : {P : Type 0} (phase : ℕ → P → Phase) (event : Event) (position : ℕ) (activity : Activity) (marked : List Bool) (query_states : List P) → All (λ p. IsIdle (phase position p)) query_states → All (λ p. CanPrepare event position (phase position p)) query_states → AreLeft phase position activity query_states → ((k : ℕ) → has activity.active_queries k ≡ true → has marked k ≡ true) → AreSpared (phase position) event marked activity.open_queries query_states → AreNoOps phase event position marked query_states
no_ops_there phase event position activity marked query_states idle can left among spared k p at unmarked = elim (spared k p at unmarked) [
  | inl unread ↦ (left.others k p at (dormant (has activity.active_queries k) refl)).passes event position known still may unread
  | inr begins ↦ (left.empty k p at begins.0).passes event position known still may begins.1
]
  where
    known : (phase position p).upto ≤ position
    known = all_get (λ x. (phase position x).upto ≤ position) query_states k p left.known at

    still : IsIdle (phase position p)
    still = all_get (λ x. IsIdle (phase position x)) query_states k p idle at

    may : CanPrepare event position (phase position p)
    may = all_get (λ x. CanPrepare event position (phase position x)) query_states k p can at

    dormant : (b : Bool) → has activity.active_queries k ≡ b → has activity.active_queries k ≡ false
    dormant false e = e
    dormant true e = absurd (false≢true (sym unmarked ∙ among k e))

-- The first so many query states were gone over: the marked ones are prepared or the event is a no-op for them, and the others are as they were.
pub record HaveGone {P : Type 0} (phase : ℕ → P → Phase) (event : Event) (position : ℕ) (marked : List Bool) (k : ℕ) (numbers : List ℕ) (old cur : List P) : Type 0 where
  pub count : length cur ≡ length old
  pub kept : map (λ p. back (phase position p)) (take k cur) ≡ map (λ p. back (phase position p)) (take k old)
  pub set : AreSet (phase position) (phase (position + 1)) event position k numbers cur
  pub left : drop k cur ≡ drop k old
  pub listed : AreOfMarked marked numbers
  pub others : AreUntouched marked old cur

-- All query states were gone over.
pub record HasGone {P : Type 0} (phase : ℕ → P → Phase) (event : Event) (position : ℕ) (marked : List Bool) (numbers : List ℕ) (old cur : List P) : Type 0 where
  pub kept : map (λ p. back (phase position p)) cur ≡ map (λ p. back (phase position p)) old
  pub set : AreSet (phase position) (phase (position + 1)) event position (length cur) numbers cur

pub gone_none : {P : Type 0} (phase : ℕ → P → Phase) (event : Event) (position : ℕ) (marked : List Bool) (numbers : List ℕ) (xs : List P) → numbers ≡ [] → HaveGone phase event position marked 0 numbers xs xs
gone_none phase event position marked numbers xs none = record {
  count = refl;
  kept = refl;
  set = set_none (phase position) (phase (position + 1)) event position numbers xs none;
  left = refl;
  listed = λ k among. absurd (false≢true (sym (ap (λ ns. is_among ns (k + 1)) none) ∙ among));
  others = λ k unmarked. refl;
}

module _ {P : Type 0} (phase : ℕ → P → Phase) (event : Event) (position : ℕ) (marked : List Bool) (old : List P) (asked : CanTake phase event position marked old) where
  -- for one that is not marked it is a no-op
  skip_one : (k : ℕ) (numbers : List ℕ) (cur : List P) → HaveGone phase event position marked k numbers old cur → k < length old → has marked k ≡ false → HaveGone phase event position marked (k + 1) numbers old cur
  skip_one k numbers cur h less unmarked =
      let inside : k < length cur = (let e = h.count in omega arith) in
      let x = there cur k inside in
      let same = set_same cur k x.0 x.1 in
      let here : slice_index_or cur k x.0 ≡ x.0 = (let both = sym (slice_get-get_or cur k x.0 inside) ∙ x.1 in cc) in
      let no_op = asked.no_ops k x.0 (sym (h.others k unmarked) ∙ x.1) unmarked in
      record {
        count = h.count;
        kept = subst (λ zs. map (λ p. back (phase position p)) (take (k + 1) zs) ≡ map (λ p. back (phase position p)) (take (k + 1) old)) same
            (same_next (λ p. back (phase position p)) (λ p. back (phase position p)) cur old k x.0 x.0 inside h.count h.left h.kept (ap (λ p. back (phase position p)) (sym here)));
        set = subst (λ zs. AreSet (phase position) (phase (position + 1)) event position (k + 1) numbers zs) same
            (set_next (phase position) (phase (position + 1)) event position k numbers cur x.0 h.set numbers (inr (no_op, refl)));
        left = subst (λ zs. drop (k + 1) zs ≡ drop (k + 1) old) same (left_next cur old k x.0 inside h.count h.left);
        listed = h.listed;
        others = h.others;
      }

  pub skip : (n k j : ℕ) (numbers : List ℕ) (cur : List P) → k + n ≡ j → j ≤ length old → HaveGone phase event position marked k numbers old cur → ((i : ℕ) → k ≤ i → i < j → has marked i ≡ false) → HaveGone phase event position marked j numbers old cur
  skip zero k j numbers cur is le h none = let same : k ≡ j = omega arith in subst (λ m. HaveGone phase event position marked m numbers old cur) same h
  skip (suc n) k j numbers cur is le h none =
      skip n (k + 1) j numbers cur (omega arith) le (skip_one k numbers cur h (omega arith) (none k (omega arith) (omega arith))) (λ i above below. none i (omega arith) below)

  -- For those up to a marked one it is a no-op.
  pub skip_to : (k j : ℕ) (numbers : List ℕ) (cur : List P) → k ≤ j → j ≤ length old → HaveGone phase event position marked k numbers old cur → ((i : ℕ) → k ≤ i → i < j → has marked i ≡ false) → HaveGone phase event position marked j numbers old cur
  skip_to k j numbers cur low le h none = skip (j - k) k j numbers cur (omega arith) le h none

  -- Where no further one is marked, all were gone over.
  pub gone_all : (k : ℕ) (numbers : List ℕ) (cur : List P) → k ≤ length old → HaveGone phase event position marked k numbers old cur → ((i : ℕ) → k ≤ i → i < length cur → has marked i ≡ false) → HasGone phase event position marked numbers old cur
  gone_all k numbers cur le h none =
      let same = h.count in
      let all = skip_to k (length old) numbers cur le (omega arith) h (λ i above below. none i above (omega arith)) in
      record {
        kept = subst (λ zs. map (λ p. back (phase position p)) cur ≡ map (λ p. back (phase position p)) zs) (take_all (length old) old (omega arith))
            (subst (λ zs. map (λ p. back (phase position p)) zs ≡ map (λ p. back (phase position p)) (take (length old) old)) (take_all (length old) cur (omega arith)) all.kept);
        set = subst (λ n. AreSet (phase position) (phase (position + 1)) event position n numbers cur) (sym h.count) all.set;
      }

  -- A marked one is prepared and noted, or the event is a no-op for it.
  pub next_one : (k : ℕ) (numbers more : List ℕ) (cur : List P) (v d : P) → HaveGone phase event position marked k numbers old cur → k < length cur → has marked k ≡ true → back (phase position v) ≡ back (phase position (slice_index_or cur k d)) → IsNoted event position (k + 1) (phase position v) (phase (position + 1) v) numbers more → HaveGone phase event position marked (k + 1) more old (slice_set cur k v)
  next_one k numbers more cur v d h inside is_marked same noted = record {
    count = as_long cur k v ∙ h.count;
    kept = same_next (λ p. back (phase position p)) (λ p. back (phase position p)) cur old k v d inside h.count h.left h.kept same;
    set = set_next (phase position) (phase (position + 1)) event position k numbers cur v h.set more noted;
    left = left_next cur old k v inside h.count h.left;
    listed = listed_more more noted;
    others = untouched_next marked old cur k v h.others is_marked;
  }
    where
      pushed : (j : ℕ) → is_among (numbers ++ (k + 1) ∷ []) (j + 1) ≡ true → has marked j ≡ true
      pushed j among = elim (or_cases (is_among numbers (j + 1)) (eqb (k + 1) (j + 1)) (sym (among_push numbers (k + 1) (j + 1)) ∙ among)) [
        | inl was ↦ h.listed j was
        | inr new ↦ (let e = eqb-true (k + 1) (j + 1) new in let same : k ≡ j = omega arith in subst (λ i. has marked i ≡ true) same is_marked)
      ]

      listed_more : (ns : List ℕ) → IsNoted event position (k + 1) (phase position v) (phase (position + 1) v) numbers ns → AreOfMarked marked ns
      listed_more ns (inl done) = subst (AreOfMarked marked) (sym done.1) pushed
      listed_more ns (inr no_op) = subst (AreOfMarked marked) (sym no_op.1) h.listed

-- The marked ones among the first so many query states are taken back, and the others are as they were.
pub record AreBackUpTo {P : Type 0} (k : ℕ) (phase : ℕ → P → Phase) (marked : List Bool) (old cur : List P) : Type 0 where
  pub count : length cur ≡ length old
  pub others : AreUntouched marked old cur
  pub ahead : drop k cur ≡ drop k old
  pub back : (j : ℕ) (o n : P) → j < k → slice_get old j ≡ Some o → slice_get cur j ≡ Some n → has marked j ≡ true → (position : ℕ) → phase position n ≡ record (phase position o) { ready = None }

pub back_none : {P : Type 0} (phase : ℕ → P → Phase) (marked : List Bool) (xs : List P) → AreBackUpTo 0 phase marked xs xs
back_none phase marked xs = record { count = refl; others = λ k unmarked. refl; ahead = refl; back = λ j o n less. absurd (omega arith) }

pub back_all : {P : Type 0} (k : ℕ) (phase : ℕ → P → Phase) (marked : List Bool) (old cur : List P) → length cur ≤ k → AreBackUpTo k phase marked old cur → AreBack phase marked old cur
back_all k phase marked old cur end h = record { count = h.count; others = h.others; back = λ j o n at is. (let less = get_within cur j n is in h.back j o n (omega arith) at is) }

at_ahead : {A : Type 0} (xs ys : List A) (k : ℕ) (d o : A) → k < length xs → drop k xs ≡ drop k ys → slice_get ys k ≡ Some o → slice_index_or xs k d ≡ o
at_ahead [] ys k d o less same at = absurd (omega arith)
at_ahead (x ∷ xs) [] k d o less same at = absurd cc
at_ahead (x ∷ xs) (y ∷ ys) zero d o less same at = cc
at_ahead (x ∷ xs) (y ∷ ys) (suc k) d o less same at = at_ahead xs ys k d o (omega arith) same at

module _ {P : Type 0} (k : ℕ) (phase : ℕ → P → Phase) (marked : List Bool) (old cur : List P) (h : AreBackUpTo k phase marked old cur) (inside : k < length cur) where
  -- one that is not marked
  pub back_past : has marked k ≡ false → AreBackUpTo (k + 1) phase marked old cur
  back_past unmarked =
      let x = there cur k inside in
      record {
        count = h.count;
        others = h.others;
        ahead = subst (λ zs. drop (k + 1) zs ≡ drop (k + 1) old) (set_same cur k x.0 x.1) (left_next cur old k x.0 inside h.count h.ahead);
        back = λ j o n less at is among. elim (cases_lt j k) [
          | inl low ↦ h.back j o n low at is among
          | inr high ↦ absurd (false≢true (sym unmarked ∙ (ap (has marked) (let e : k ≡ j = omega arith in e) ∙ among)))
        ];
      }

  -- one that is marked is taken back
  pub back_next : (v d : P) → has marked k ≡ true → ((position : ℕ) → phase position v ≡ back (phase position (slice_index_or cur k d))) → AreBackUpTo (k + 1) phase marked old (slice_set cur k v)
  back_next v d is_marked taken = record {
    count = as_long cur k v ∙ h.count;
    others = untouched_next marked old cur k v h.others is_marked;
    ahead = left_next cur old k v inside h.count h.ahead;
    back = λ j o n less at is among position. elim (cases_lt j k) [
      | inl low ↦ h.back j o n low at (sym (read_other cur k j v (λ same. omega arith)) ∙ is) among position
      | inr high ↦ (
          let same : j ≡ k = omega arith in
          let new : n ≡ v = read_there cur k v n (subst (λ i. slice_get (slice_set cur k v) i ≡ Some n) same is) in
          let was : slice_index_or cur k d ≡ o = at_ahead cur old k d o inside h.ahead (subst (λ i. slice_get old i ≡ Some o) same at) in
          ap (phase position) new ∙ (taken position ∙ ap (λ p. back (phase position p)) was)
          )
    ];
  }

-- a query state that is what it was is dormant as it was
is_dormant_as : {P : Type 0} (phase : ℕ → P → Phase) (old new : P) → IsUnchanged phase old new → IsDormant (λ n. phase n old) → IsDormant (λ n. phase n new)
is_dormant_as phase old new same h = record {
  passes = λ event position. subst (λ a. a.upto ≤ position → IsIdle a → CanPrepare event position a → IsUnread event a → IsNoOpFor event position a (phase (position + 1) new)) (sym (same position))
      (subst (λ b. (phase position old).upto ≤ position → IsIdle (phase position old) → CanPrepare event position (phase position old) → IsUnread event (phase position old) → IsNoOpFor event position (phase position old) b) (sym (same (position + 1))) (h.passes event position));
}

-- and has no open match where it had none
is_empty_as : {P : Type 0} (phase : ℕ → P → Phase) (old new : P) → IsUnchanged phase old new → IsEmpty (λ n. phase n old) → IsEmpty (λ n. phase n new)
is_empty_as phase old new same h = record {
  passes = λ event position. subst (λ a. a.upto ≤ position → IsIdle a → CanPrepare event position a → BeginsNone event a → IsNoOpFor event position a (phase (position + 1) new)) (sym (same position))
      (subst (λ b. (phase position old).upto ≤ position → IsIdle (phase position old) → CanPrepare event position (phase position old) → BeginsNone event (phase position old) → IsNoOpFor event position (phase position old) b) (sym (same (position + 1))) (h.passes event position));
}

-- After the event: what is known of the numbers' query states was looked at, and the others are as they were.
pub left_after : {P : Type 0} (phase : ℕ → P → Phase) (count : ℕ) (before activity : Activity) (numbers : List ℕ) (old prepared new : List P) → length prepared ≡ length old → All (λ p. (phase (count + 1) p).upto ≤ count + 1) new → AreLeft phase count before old → AreUnchanged phase numbers old prepared → ((k : ℕ) → is_among numbers (k + 1) ≡ false → slice_get new k ≡ slice_get prepared k) → AreLooked phase numbers before activity new → AreLeft phase (count + 1) activity new
left_after phase count before activity numbers old prepared new long known left unchanged others looked = record {
  known = known;
  others = λ k p at out. dormant k p at out (is_among numbers (k + 1)) refl;
  empty = λ k p at out. none k p at out (is_among numbers (k + 1)) refl;
  within = λ k is. both k is (is_among numbers (k + 1)) refl;
}
  where
    was_there : (k : ℕ) (p : _) → slice_get new k ≡ Some p → is_among numbers (k + 1) ≡ false → (o : _) × (slice_get old k ≡ Some o) × IsUnchanged phase o p
    was_there k p at among =
        let is = sym (others k among) ∙ at in
        let less = get_within prepared k p is in
        let was = there old k (omega arith) in
        (was.0, was.1, unchanged k was.0 p was.1 is among)

    dormant : (k : ℕ) (p : _) → slice_get new k ≡ Some p → has activity.active_queries k ≡ false → (b : Bool) → is_among numbers (k + 1) ≡ b → IsDormant (λ n. phase n p)
    dormant k p at out true among = looked.rest k p at among out
    dormant k p at out false among =
        let was = was_there k p at among in
        is_dormant_as phase was.0 p was.2 (left.others k was.0 was.1 (sym (looked.others k among).0 ∙ out))

    none : (k : ℕ) (p : _) → slice_get new k ≡ Some p → has activity.open_queries k ≡ false → (b : Bool) → is_among numbers (k + 1) ≡ b → IsEmpty (λ n. phase n p)
    none k p at out true among = looked.empty k p at among out
    none k p at out false among =
        let was = was_there k p at among in
        is_empty_as phase was.0 p was.2 (left.empty k was.0 was.1 (sym (looked.others k among).1 ∙ out))

    both : (k : ℕ) → has activity.active_queries k ≡ true → (b : Bool) → is_among numbers (k + 1) ≡ b → has activity.open_queries k ≡ true
    both k is true among = looked.within k among is
    both k is false among =
        let same = looked.others k among in
        same.1 ∙ left.within k (sym same.0 ∙ is)

-- and after a refusal, where nothing is known of the marked ones
pub left_again : {P : Type 0} (phase : ℕ → P → Phase) (count : ℕ) (marked : List Bool) (before activity : Activity) (old new : List P) → map (phase count) new ≡ map (phase count) old → AreUntouched marked old new → AreLeft phase count before old → ((k : ℕ) → has activity.active_queries k ≡ (has before.active_queries k || has marked k)) → ((k : ℕ) → has activity.open_queries k ≡ (has before.open_queries k || has marked k)) → AreLeft phase count activity new
left_again phase count marked before activity old new unchanged same left active_are open_are = record {
  known = all_mapped (λ (p : Phase). p.upto ≤ count) (phase count) new (subst (All (λ (p : Phase). p.upto ≤ count)) (sym unchanged) (All-map (λ (p : Phase). p.upto ≤ count) (phase count) old left.known));
  others = λ k p at out. (let neither = both (has before.active_queries k) (has marked k) (sym (active_are k) ∙ out) in left.others k p (sym (same k neither.1) ∙ at) neither.0);
  empty = λ k p at out. (let neither = both (has before.open_queries k) (has marked k) (sym (open_are k) ∙ out) in left.empty k p (sym (same k neither.1) ∙ at) neither.0);
  within = λ k is. open_are k ∙ elim (or_cases (has before.active_queries k) (has marked k) (sym (active_are k) ∙ is)) [
    | inl was ↦ or_left (has before.open_queries k) (has marked k) (left.within k was)
    | inr now ↦ or_right (has before.open_queries k) (has marked k) now
  ];
}
  where
    both : (a b : Bool) → (a || b) ≡ false → (a ≡ false) × (b ≡ false)
    both true b e = absurd (false≢true (sym e))
    both false b e = (refl, e)

taken_upto : (event : Event) (position : ℕ) (o n : Phase) → IsTaken event position o n → o.upto ≤ position → n.upto ≤ position + 1
taken_upto event position o n (inl done) le = let e = done.1.upto in omega arith
taken_upto event position o n (inr no_op) le = let e = no_op.upto in omega arith

taken_all : (event : Event) (position : ℕ) (old new : List Phase) → AllZip (IsTaken event position) old new → All (λ (p : Phase). p.upto ≤ position) old → All (λ (p : Phase). p.upto ≤ position + 1) new
taken_all event position [] [] z h = All-nil (λ (p : Phase). p.upto ≤ position + 1)
taken_all event position [] (n ∷ ns) z h = absurd z
taken_all event position (o ∷ os) [] z h = absurd z
taken_all event position (o ∷ os) (n ∷ ns) z h = All-cons (λ (p : Phase). p.upto ≤ position + 1) n ns (taken_upto event position o n z.0 (All-head (λ (p : Phase). p.upto ≤ position) o os h)) (taken_all event position os ns z.1 (All-tail (λ (p : Phase). p.upto ≤ position) o os h))

back_upto : (count : ℕ) (old new : List Phase) → map back new ≡ map back old → All (λ (p : Phase). p.upto ≤ count) old → All (λ (p : Phase). p.upto ≤ count) new
back_upto count [] [] e h = h
back_upto count [] (n ∷ ns) e h = absurd cc
back_upto count (o ∷ os) [] e h = absurd cc
back_upto count (o ∷ os) (n ∷ ns) e h =
    let head : back n ≡ back o = cc in
    let rest : map back ns ≡ map back os = cc in
    let same : n.upto ≡ o.upto = ap (λ (p : Phase). p.upto) head in
    let le : o.upto ≤ count = All-head (λ (p : Phase). p.upto ≤ count) o os h in
    All-cons (λ (p : Phase). p.upto ≤ count) n ns (omega arith) (back_upto count os ns rest (All-tail (λ (p : Phase). p.upto ≤ count) o os h))

-- after the event each query state's last one is among them
pub known_after : {P : Type 0} (phase : ℕ → P → Phase) (event : Event) (position : ℕ) (at_first prepared new : List P) → map (λ p. back (phase position p)) prepared ≡ map (λ p. back (phase position p)) at_first → AllZip (IsTaken event position) (map (phase position) prepared) (map (phase (position + 1)) new) → All (λ p. (phase position p).upto ≤ position) at_first → All (λ p. (phase (position + 1) p).upto ≤ position + 1) new
known_after phase event position at_first prepared new kept taken known =
    all_mapped (λ (p : Phase). p.upto ≤ position + 1) (phase (position + 1)) new
    (taken_all event position (map (phase position) prepared) (map (phase (position + 1)) new) taken
    (back_upto position (map (phase position) at_first) (map (phase position) prepared) (sym (map_map back (phase position) prepared) ∙ (kept ∙ map_map back (phase position) at_first)) (All-map (λ (p : Phase). p.upto ≤ position) (phase position) at_first known)))

-- after a refusal each query state is as it was
pub unchanged_after : {P : Type 0} (phase : ℕ → P → Phase) (position : ℕ) (marked : List Bool) (at_first prepared new : List P) → All (λ p. IsIdle (phase position p)) at_first → map (λ p. back (phase position p)) prepared ≡ map (λ p. back (phase position p)) at_first → AreUntouched marked at_first prepared → AreBack phase marked prepared new → map (phase position) new ≡ map (phase position) at_first
unchanged_after phase position marked at_first prepared new idle kept same taken =
    go at_first prepared new 0 idle kept taken.count
    (λ k unmarked. same k (ap (has marked) (from_zero k) ∙ unmarked))
    (λ k unmarked. taken.others k (ap (has marked) (from_zero k) ∙ unmarked))
    (λ k o n at is among. taken.back k o n at is (ap (has marked) (from_zero k) ∙ among) position)
  where
    from_zero : (k : ℕ) → k ≡ 0 + k
    from_zero k = omega arith

    is_back : (a : _) → IsIdle (phase position a) → back (phase position a) ≡ phase position a
    is_back a e = (λ i. record (phase position a) { ready = sym e i })

    go : (as' ps ns : List _) (first : ℕ) → All (λ p. IsIdle (phase position p)) as' → map (λ p. back (phase position p)) ps ≡ map (λ p. back (phase position p)) as' → length ns ≡ length ps → ((k : ℕ) → has marked (first + k) ≡ false → slice_get ps k ≡ slice_get as' k) → ((k : ℕ) → has marked (first + k) ≡ false → slice_get ns k ≡ slice_get ps k) → ((k : ℕ) (o n : _) → slice_get ps k ≡ Some o → slice_get ns k ≡ Some n → has marked (first + k) ≡ true → phase position n ≡ back (phase position o)) → map (phase position) ns ≡ map (phase position) as'
    go [] [] [] first h e long one two three = refl
    go [] [] (n ∷ ns) first h e long one two three = absurd (omega arith)
    go [] (p ∷ ps) ns first h e long one two three = absurd cc
    go (a ∷ as') [] ns first h e long one two three = absurd cc
    go (a ∷ as') (p ∷ ps) [] first h e long one two three = absurd (omega arith)
    go (a ∷ as') (p ∷ ps) (n ∷ ns) first h e long one two three =
        let head : back (phase position p) ≡ back (phase position a) = cc in
        let rest : map (λ x. back (phase position x)) ps ≡ map (λ x. back (phase position x)) as' = cc in
        let idle_a = All-head (λ x. IsIdle (phase position x)) a as' h in
        let more : (k : ℕ) → first + 1 + k ≡ first + suc k = (λ k. omega arith) in
        let here : phase position n ≡ phase position a = by a p n idle_a head (one 0) (two 0) (three 0 p n refl refl) (has marked (first + 0)) refl in
        ap (λ z. z ∷ map (phase position) ns) here ∙ ap (λ zs. phase position a ∷ zs) (go as' ps ns (first + 1) (All-tail (λ x. IsIdle (phase position x)) a as' h) rest (omega arith) (λ k out. one (suc k) (ap (has marked) (sym (more k)) ∙ out)) (λ k out. two (suc k) (ap (has marked) (sym (more k)) ∙ out)) (λ k o m at is among. three (suc k) o m at is (ap (has marked) (sym (more k)) ∙ among)))
      where
        by : (a p n : _) → IsIdle (phase position a) → back (phase position p) ≡ back (phase position a) → (has marked (first + 0) ≡ false → Some p ≡ Some a) → (has marked (first + 0) ≡ false → Some n ≡ Some p) → (has marked (first + 0) ≡ true → phase position n ≡ back (phase position p)) → (b : Bool) → has marked (first + 0) ≡ b → phase position n ≡ phase position a
        by a p n idle_a head one two three true is = three is ∙ (head ∙ is_back a idle_a)
        by a p n idle_a head one two three false is =
            let first_same = one is in
            let next_same = two is in
            let same : n ≡ a = cc in
            ap (phase position) same

-- a number of a set is below its room
pub has_within : (set : List Bool) (k : ℕ) → has set k ≡ true → k < length set
has_within [] k is = absurd (false≢true is)
has_within (b ∷ bs) zero is = omega arith
has_within (b ∷ bs) (suc k) is = let r = has_within bs k is in omega arith

still_among : (event : Event) (position number : ℕ) (before after : Phase) (numbers more : List ℕ) (m : ℕ) → IsNoted event position number before after numbers more → is_among numbers m ≡ true → is_among more m ≡ true
still_among event position number before after numbers more m (inl noted) was = subst (λ ns. is_among ns m ≡ true) (sym noted.1) (among_push numbers number m ∙ or_left (is_among numbers m) (eqb number m) was)
still_among event position number before after numbers more m (inr no_op) was = subst (λ ns. is_among ns m ≡ true) (sym no_op.1) was

-- where one query state more is prepared, or the event is a no-op for it
pub unchanged_next : {P : Type 0} (phase : ℕ → P → Phase) (event : Event) (position k : ℕ) (numbers more : List ℕ) (old cur : List P) (v d : P) → IsNoted event position (k + 1) (phase position v) (phase (position + 1) v) numbers more → (more ≡ numbers ++ (k + 1) ∷ []) ⊎ IsUnchanged phase (slice_index_or cur k d) v → k < length cur → drop k cur ≡ drop k old → AreUnchanged phase numbers old cur → AreUnchanged phase more old (slice_set cur k v)
unchanged_next phase event position k numbers more old cur v d noted left inside ahead h j o n at is out = elim (cases_eq j k) [
  | inl same ↦ here same left
  | inr other ↦ h j o n at (sym (read_other cur k j v other) ∙ is) (was (is_among numbers (j + 1)) refl)
]
  where
    was : (b : Bool) → is_among numbers (j + 1) ≡ b → is_among numbers (j + 1) ≡ false
    was false e = e
    was true e = absurd (false≢true (sym out ∙ still_among event position (k + 1) (phase position v) (phase (position + 1) v) numbers more (j + 1) noted e))

    here : j ≡ k → (more ≡ numbers ++ (k + 1) ∷ []) ⊎ IsUnchanged phase (slice_index_or cur k d) v → IsUnchanged phase o n
    here same (inl pushed) =
        let last : k + 1 ≡ j + 1 = omega arith in
        absurd (false≢true (sym out ∙ (ap (λ ns. is_among ns (j + 1)) pushed ∙ (among_push numbers (k + 1) (j + 1) ∙ or_right (is_among numbers (j + 1)) (eqb (k + 1) (j + 1)) (eq-eqb (k + 1) (j + 1) last)))))
    here same (inr as_was) =
        let new : n ≡ v = read_there cur k v n (subst (λ i. slice_get (slice_set cur k v) i ≡ Some n) same is) in
        let first : slice_index_or cur k d ≡ o = at_ahead cur old k d o inside ahead (subst (λ i. slice_get old i ≡ Some o) same at) in
        λ count. ap (phase count) new ∙ (as_was count ∙ ap (phase count) first)

-- no query state changed yet
pub unchanged_none : {P : Type 0} (phase : ℕ → P → Phase) (numbers : List ℕ) (xs : List P) → AreUnchanged phase numbers xs xs
unchanged_none phase numbers xs k o n at is out = let same : n ≡ o = (let both = sym is ∙ at in cc) in λ count. ap (phase count) same
