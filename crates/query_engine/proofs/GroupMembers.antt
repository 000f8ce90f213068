-- The groups of queries that share a clock, as one query comes after the other, and numbers of those that pass a test.
use Rattle.std.proofs.Common.{◌≡◌, refl, sym, ap, subst, ◌∙◌, ℕ, zero, suc, ◌+◌, ◌-◌, ◌<◌, ◌≤◌, ◌⊎◌, inl, inr, Bool, true, false, ◌||◌, eqb, List, [], ◌∷◌, ◌++◌, length, Some, slice_get, slice_index_or, arith}
use Rattle.std.proofs.lemmas.Bool.{cases_lt, eqb-true, eq-eqb, ne_eqb, false≢true, or_cases, or_right}
use Rattle.std.proofs.lemmas.Option.{slice_get_within}
use Rattle.stream_schema.specs.Types.{Declared}
use Rattle.cel_terms.specs.declared.Query.{Query}
use Rattle.query_standing.specs.Dormancy.{ShareClock}
use Rattle.query_standing.proofs.QueryStates.{length_more}
use Rattle.all_or_none.specs.Phases.{is_among}
use Rattle.all_or_none.proofs.Numbers.{among_push, rising_push}
use Rattle.query_engine.specs.declared.times.Group.{Group}
use Rattle.query_engine.specs.Times.{IsGroupOf, IsMember, AreThose, AreGroups}

-- LISTS

pub there_inside : {A : Type 0} (xs : List A) (k : ℕ) → k < length xs → (x : A) × (slice_get xs k ≡ Some x)
there_inside [] k less = absurd (omega arith)
there_inside (x ∷ xs) zero less = (x, refl)
there_inside (x ∷ xs) (suc k) less = there_inside xs k (omega arith)

pub same_at : {A : Type 0} (xs : List A) (k : ℕ) (x y : A) → slice_get xs k ≡ Some x → slice_get xs k ≡ Some y → x ≡ y
same_at xs k x y one two = let both = sym one ∙ two in cc

-- with one element more
at_left : {A : Type 0} (xs : List A) (y x : A) (k : ℕ) → slice_get xs k ≡ Some x → slice_get (xs ++ y ∷ []) k ≡ Some x
at_left [] y x k e = absurd cc
at_left (z ∷ xs) y x zero e = e
at_left (z ∷ xs) y x (suc k) e = at_left xs y x k e

at_last : {A : Type 0} (xs : List A) (y : A) → slice_get (xs ++ y ∷ []) (length xs) ≡ Some y
at_last [] y = refl
at_last (x ∷ xs) y = at_last xs y

at_push : {A : Type 0} (xs : List A) (y x : A) (k : ℕ) → slice_get (xs ++ y ∷ []) k ≡ Some x → (slice_get xs k ≡ Some x) ⊎ ((k ≡ length xs) × (y ≡ x))
at_push [] y x zero e = inr (refl, cc)
at_push [] y x (suc k) e = absurd cc
at_push (z ∷ xs) y x zero e = inl e
at_push (z ∷ xs) y x (suc k) e = elim (at_push xs y x k e) [ inl old ↦ inl old | inr new ↦ inr (ap suc new.0, new.1) ]

or_left : {A : Type 0} (xs : List A) (y d : A) (k : ℕ) → k < length xs → slice_index_or (xs ++ y ∷ []) k d ≡ slice_index_or xs k d
or_left [] y d k less = absurd (omega arith)
or_left (x ∷ xs) y d zero less = refl
or_left (x ∷ xs) y d (suc k) less = or_left xs y d k (omega arith)

or_last : {A : Type 0} (xs : List A) (y d : A) (k : ℕ) → k ≡ length xs → slice_index_or (xs ++ y ∷ []) k d ≡ y
or_last [] y d zero e = refl
or_last [] y d (suc k) e = absurd (omega arith)
or_last (x ∷ xs) y d zero e = absurd (omega arith)
or_last (x ∷ xs) y d (suc k) e = or_last xs y d k (omega arith)

-- NUMBERS OF THOSE THAT PASS A TEST

pub those_none : {A : Type 0} (test : A → Bool) (xs : List A) (numbers : List ℕ) → numbers ≡ [] → AreThose test 0 xs numbers
those_none test xs numbers none = subst (AreThose test 0 xs) (sym none) (record {
  rising = λ i j less within. absurd (omega arith);
  within = λ n among. absurd (false≢true among);
  exact = λ k x less at. absurd (omega arith);
})

not_among : (b : Bool) → (b ≡ true → ⊥) → b ≡ false
not_among false never = refl
not_among true never = absurd (never refl)

or_not : (a b : Bool) → b ≡ false → (a || b) ≡ a
or_not true b e = refl
or_not false b e = e

module _ {A : Type 0} (test : A → Bool) (k : ℕ) (xs : List A) (numbers : List ℕ) (h : AreThose test k xs numbers) (x : A) (here : slice_get xs k ≡ Some x) where
  pub those_push : test x ≡ true → (more : List ℕ) → more ≡ numbers ++ (k + 1) ∷ [] → AreThose test (k + 1) xs more
  those_push passes more put = subst (AreThose test (k + 1) xs) (sym put) (record {
    rising = rising_push numbers (k + 1) h.rising (λ m among. (let high = (h.within m among).1 in omega arith));
    within = λ n among. elim (or_cases (is_among numbers n) (eqb (k + 1) n) (sym (among_push numbers (k + 1) n) ∙ among)) [
      | inl was ↦ (let w = h.within n was in let high = w.1 in (w.0, omega arith))
      | inr new ↦ (let same = eqb-true (k + 1) n new in (omega arith, omega arith))
    ];
    exact = λ j y less at. elim (cases_lt j k) [
      | inl low ↦ among_push numbers (k + 1) (j + 1) ∙ (or_not (is_among numbers (j + 1)) (eqb (k + 1) (j + 1)) (ne_eqb (k + 1) (j + 1) (λ e. (omega arith))) ∙ h.exact j y low at)
      | inr high ↦ (
          let same : j ≡ k = omega arith in
          let next : k + 1 ≡ j + 1 = omega arith in
          let is : x ≡ y = same_at xs k x y here (subst (λ i. slice_get xs i ≡ Some y) same at) in
          among_push numbers (k + 1) (j + 1) ∙ (or_right (is_among numbers (j + 1)) (eqb (k + 1) (j + 1)) (eq-eqb (k + 1) (j + 1) next) ∙ (sym passes ∙ ap test is))
          )
    ];
  })

  pub those_past : test x ≡ false → AreThose test (k + 1) xs numbers
  those_past fails = record {
    rising = h.rising;
    within = λ n among. (let w = h.within n among in let high = w.1 in (w.0, omega arith));
    exact = λ j y less at. elim (cases_lt j k) [
      | inl low ↦ h.exact j y low at
      | inr high ↦ (
          let same : j ≡ k = omega arith in
          let is : x ≡ y = same_at xs k x y here (subst (λ i. slice_get xs i ≡ Some y) same at) in
          not_among (is_among numbers (j + 1)) (λ among. (let w = (h.within (j + 1) among).1 in omega arith)) ∙ (sym fails ∙ ap test is)
          )
    ];
  }

-- THE GROUPS OF THE FIRST SO MANY QUERIES

share_self : (schema : Declared) (q : Query) → ShareClock schema q q
share_self schema q = record { reads = λ e r. r; reads_back = λ e r. r; clocks = λ e p c h. h; clocks_back = λ e p c h. h }

pub no_groups : (schema : Declared) (queries : List Query) (groups : List Group) (numbers : List ℕ) → groups ≡ [] → numbers ≡ [] → AreGroups schema queries 0 groups numbers
no_groups schema queries groups numbers none none_yet =
    subst (λ gs. AreGroups schema queries 0 gs numbers) (sym none) (subst (AreGroups schema queries 0 []) (sym none_yet) (record {
      long = refl;
      inside = λ k less. absurd (omega arith);
      each = λ g n at. absurd cc;
      order = λ i j g h less one two. absurd cc;
      known = λ g n at. absurd cc;
      members = λ k q less at. absurd (omega arith);
    }))

module _ (schema : Declared) (queries : List Query) (count : ℕ) (groups : List Group) (numbers : List ℕ) (h : AreGroups schema queries count groups numbers) (q : Query) (here : slice_get queries count ≡ Some q) where
  -- the next query is in a group that is there
  pub one_member : (number : ℕ) → 1 ≤ number → number ≤ length groups → ((g : Group) (first : Query) → slice_get groups (number - 1) ≡ Some g → slice_get queries (g.query - 1) ≡ Some first → ShareClock schema q first) → (more : List ℕ) → more ≡ numbers ++ number ∷ [] → AreGroups schema queries (count + 1) groups more
  one_member number low high shares more put = subst (AreGroups schema queries (count + 1) groups) (sym put) (record {
    long = length_more numbers number ∙ ap (λ n. n + 1) h.long;
    inside = λ k less. elim (cases_lt k (length numbers)) [
      | inl old ↦ subst (λ n. (1 ≤ n) × (n ≤ length groups)) (sym (or_left numbers number 0 k old)) (h.inside k old)
      | inr new ↦ subst (λ n. (1 ≤ n) × (n ≤ length groups)) (sym (or_last numbers number 0 k (let l = length_more numbers number in omega arith))) (low, high)
    ];
    each = h.each;
    order = h.order;
    known = λ g n at. (let k = h.known g n at in let e = (h.each g n at).numbered in let few = k.0 in let l = h.long in (omega arith, or_left numbers number 0 (g.query - 1) (omega arith) ∙ k.1));
    members = λ k r less at. elim (cases_lt k count) [
      | inl old ↦ (let l = h.long in subst (IsMember schema queries groups k r) (sym (or_left numbers number 0 k (omega arith))) (h.members k r old at))
      | inr new ↦ (
          let l = h.long in
          let same : k ≡ count = omega arith in
          let is : q ≡ r = same_at queries count q r here (subst (λ i. slice_get queries i ≡ Some r) same at) in
          let g = there_inside groups (number - 1) (omega arith) in
          let few = (h.known g.0 (number - 1) g.1).0 in
          subst (IsMember schema queries groups k r) (sym (or_last numbers number 0 k (omega arith))) (record {
            group = g.0;
            numbered = low;
            at = g.1;
            least = omega arith;
            shares = λ first there. subst (λ (z : Query). ShareClock schema z first) is (shares g.0 first g.1 there);
          })
          )
    ];
  })

  -- or in one of its own
  pub one_group : (g : Group) → g.query ≡ count + 1 → IsGroupOf schema queries g → (wider : List Group) → wider ≡ groups ++ g ∷ [] → (number : ℕ) → number ≡ length groups + 1 → (more : List ℕ) → more ≡ numbers ++ number ∷ [] → AreGroups schema queries (count + 1) wider more
  one_group g first_is own wider wider_is number number_is more put = subst (λ gs. AreGroups schema queries (count + 1) gs more) (sym wider_is) (subst (AreGroups schema queries (count + 1) (groups ++ g ∷ [])) (sym put) (record {
    long = length_more numbers number ∙ ap (λ n. n + 1) h.long;
    inside = λ k less. (let long = length_more groups g in elim (cases_lt k (length numbers)) [
      | inl old ↦ (let w = h.inside k old in let high = w.1 in subst (λ n. (1 ≤ n) × (n ≤ length (groups ++ g ∷ []))) (sym (or_left numbers number 0 k old)) (w.0, omega arith))
      | inr new ↦ subst (λ n. (1 ≤ n) × (n ≤ length (groups ++ g ∷ []))) (sym (or_last numbers number 0 k (let l = length_more numbers number in omega arith))) (omega arith, omega arith)
    ]);
    each = λ x n at. elim (at_push groups g x n at) [
      | inl old ↦ h.each x n old
      | inr new ↦ subst (IsGroupOf schema queries) new.1 own
    ];
    order = λ i j x y less one two. elim (at_push groups g x i one) [
      | inl old ↦ elim (at_push groups g y j two) [
        | inl both ↦ h.order i j x y less old both
        | inr new ↦ (let few = (h.known x i old).0 in let is = ap (λ (z : Group). z.query) new.1 in omega arith)
      ]
      | inr new ↦ elim (at_push groups g y j two) [
        | inl old ↦ absurd (let e = new.0 in let inside = slice_get_within groups j y old in omega arith)
        | inr both ↦ absurd (let e = new.0 in let f = both.0 in omega arith)
      ]
    ];
    known = λ x n at. (let l = h.long in elim (at_push groups g x n at) [
      | inl old ↦ (let k = h.known x n old in let e = (h.each x n old).numbered in let few = k.0 in (omega arith, or_left numbers number 0 (x.query - 1) (omega arith) ∙ k.1))
      | inr new ↦ (
          let is = ap (λ (z : Group). z.query) new.1 in
          let place = new.0 in
          (omega arith, or_last numbers number 0 (x.query - 1) (omega arith) ∙ (number_is ∙ ap (λ n. n + 1) (sym place)))
          )
    ]);
    members = λ k r less at. (let l = h.long in elim (cases_lt k count) [
      | inl old ↦ subst (IsMember schema queries (groups ++ g ∷ []) k r) (sym (or_left numbers number 0 k (omega arith))) (wider_member k r (slice_index_or numbers k 0) (h.members k r old at))
      | inr new ↦ (
          let same : k ≡ count = omega arith in
          let is : q ≡ r = same_at queries count q r here (subst (λ i. slice_get queries i ≡ Some r) same at) in
          let place : length groups ≡ number - 1 = omega arith in
          let mine : count ≡ g.query - 1 = omega arith in
          subst (IsMember schema queries (groups ++ g ∷ []) k r) (sym (or_last numbers number 0 k (omega arith))) (record {
            group = g;
            numbered = omega arith;
            at = subst (λ i. slice_get (groups ++ g ∷ []) i ≡ Some g) place (at_last groups g);
            least = omega arith;
            shares = λ first there. (
                let one : r ≡ first = same_at queries (g.query - 1) r first (subst (λ i. slice_get queries i ≡ Some r) (same ∙ mine) at) there in
                subst (ShareClock schema r) one (share_self schema r)
                );
          })
          )
    ]);
  })) where
    wider_member : (k : ℕ) (r : Query) (n : ℕ) → IsMember schema queries groups k r n → IsMember schema queries (groups ++ g ∷ []) k r n
    wider_member k r n m = record {
      group = m.group;
      numbered = m.numbered;
      at = at_left groups g m.group (n - 1) m.at;
      least = m.least;
      shares = m.shares;
    }
