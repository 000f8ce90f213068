-- The query states of the numbers so far have committed, and the others are as they were.
use Rattle.std.proofs.Common.{◌≡◌, refl, sym, ap, subst, ◌∙◌, ℕ, zero, suc, ◌+◌, ◌-◌, ◌<◌, ◌≤◌, inl, inr, Bool, true, false, ◌||◌, eqb, List, [], ◌∷◌, length, map, take, Option, Some, None, slice_get, slice_index_or, slice_set, arith}
use Rattle.std.specs.Prelude.{option_map}
use Rattle.std.specs.List.{AllZip}
use Rattle.std.proofs.lemmas.Bool.{cases_eq, eqb-true, eq-eqb, false≢true, or_cases}
use Rattle.std.proofs.lemmas.Option.{slice_get_within, slice_get-get_or, slice_get-map}
use Rattle.std.proofs.lemmas.List.{get_or-take}
use Rattle.stream_schema.specs.declared.Event.{Event}
use Rattle.query_standing.specs.Kept.{roots_at}
use Rattle.all_or_none.specs.Phases.{Phase, IsNoOpFor, IsPrepared, IsTaken, is_among, AreRising, AreSet, MayAnswer}
use Rattle.all_or_none.proofs.Numbers.{read_other, read_there, as_long, among_next, among_at, found_at}

pub record HasCommitted {P : Type 0} (before after : P → Phase) (event : Event) (position : ℕ) (numbers : List ℕ) (old new : List P) : Type 0 where
  pub count : length new ≡ length old
  pub done : (k : ℕ) (o n : P) → slice_get old k ≡ Some o → slice_get new k ≡ Some n → is_among numbers (k + 1) ≡ true → IsTaken event position (before o) (after n)
  pub left : (k : ℕ) → is_among numbers (k + 1) ≡ false → slice_get new k ≡ slice_get old k

pub committed_none : {P : Type 0} (before after : P → Phase) (event : Event) (position : ℕ) (xs : List P) → HasCommitted before after event position [] xs xs
committed_none before after event position xs = record { count = refl; done = λ k o n a b among. absurd (false≢true among); left = λ k among. refl }

-- a number comes once
not_before : (numbers : List ℕ) (i : ℕ) → AreRising numbers → i < length numbers → is_among (take i numbers) (slice_index_or numbers i 0) ≡ false
not_before numbers i rising inside = by (is_among (take i numbers) (slice_index_or numbers i 0)) refl
  where
    short : (xs : List ℕ) (n j : ℕ) → j < length (take n xs) → j < n
    short [] zero j less = absurd (omega arith)
    short [] (suc n) j less = absurd (omega arith)
    short (x ∷ xs) zero j less = absurd (omega arith)
    short (x ∷ xs) (suc n) zero less = omega arith
    short (x ∷ xs) (suc n) (suc j) less = let r = short xs n j (omega arith) in omega arith

    by : (b : Bool) → is_among (take i numbers) (slice_index_or numbers i 0) ≡ b → is_among (take i numbers) (slice_index_or numbers i 0) ≡ false
    by false e = e
    by true e =
        let f = found_at (take i numbers) (slice_index_or numbers i 0) e in
        let less = short numbers i f.0 f.1 in
        let a = get_or-take i numbers f.0 0 less in
        let b = f.2 in
        let r = rising f.0 i less inside in
        absurd (omega arith)

-- The query state of the number that comes next.
module _ {P : Type 0} (before after : P → Phase) (event : Event) (position : ℕ) (numbers : List ℕ) (i n : ℕ) (old cur : List P) (inside : i < length numbers) (here : n ≡ slice_index_or numbers i 0) (set : AreSet before after event position (length old) numbers old) (h : HasCommitted before after event position (take i numbers) old cur) where
  pub is_listed : is_among numbers n ≡ true
  is_listed = subst (λ m. is_among numbers m ≡ true) (sym here) (among_at numbers i inside)

  pub positive : 1 ≤ n
  positive = (set.within n is_listed).0

  pub next_within : n - 1 < length cur
  next_within = let low = positive in let high = (set.within n is_listed).1 in let same = h.count in omega arith

  pub back_again : n - 1 + 1 ≡ n
  back_again = let low = positive in omega arith

  first_time : is_among (take i numbers) (n - 1 + 1) ≡ false
  first_time = ap (is_among (take i numbers)) (back_again ∙ here) ∙ not_before numbers i set.rising inside

  -- it is as it was
  as_it_was : (d : P) → slice_get old (n - 1) ≡ Some (slice_index_or cur (n - 1) d)
  as_it_was d = sym (h.left (n - 1) first_time) ∙ slice_get-get_or cur (n - 1) d next_within

  pub next_prepared : (d : P) → IsPrepared event position (before (slice_index_or cur (n - 1) d))
  next_prepared d =
      let at = as_it_was d in
      set.named (n - 1) (slice_index_or cur (n - 1) d) (slice_get_within old (n - 1) (slice_index_or cur (n - 1) d) at) at (subst (λ m. is_among numbers m ≡ true) (sym back_again) is_listed)

  joined : (m : ℕ) → is_among (take (i + 1) numbers) m ≡ (is_among (take i numbers) m || eqb n m)
  joined m = among_next numbers i m inside ∙ ap (λ x. is_among (take i numbers) m || eqb x m) (sym here)

  neither : (a b : Bool) → (a || b) ≡ false → (a ≡ false) × (b ≡ false)
  neither true b e = absurd (false≢true (sym e))
  neither false b e = (refl, e)

  pub committed_next : (d v : P) → IsTaken event position (before (slice_index_or cur (n - 1) d)) (after v) → HasCommitted before after event position (take (i + 1) numbers) old (slice_set cur (n - 1) v)
  committed_next d v taken = record {
    count = as_long cur (n - 1) v ∙ h.count;
    done = λ k o w old_at new_at among. elim (cases_eq k (n - 1)) [
      | inl same ↦ (
          let was : o ≡ slice_index_or cur (n - 1) d = (let both = sym (subst (λ j. slice_get old j ≡ Some o) same old_at) ∙ as_it_was d in cc) in
          let is : w ≡ v = read_there cur (n - 1) v w (subst (λ j. slice_get (slice_set cur (n - 1) v) j ≡ Some w) same new_at) in
          subst (λ z. IsTaken event position (before z) (after w)) (sym was) (subst (λ z. IsTaken event position (before (slice_index_or cur (n - 1) d)) (after z)) (sym is) taken)
          )
      | inr other ↦ elim (or_cases (is_among (take i numbers) (k + 1)) (eqb n (k + 1)) (sym (joined (k + 1)) ∙ among)) [
        | inl was ↦ h.done k o w old_at (sym (read_other cur (n - 1) k v other) ∙ new_at) was
        | inr new ↦ absurd (other (let same = eqb-true n (k + 1) new in omega arith))
      ]
    ];
    left = λ k among. (
        let both = neither (is_among (take i numbers) (k + 1)) (eqb n (k + 1)) (sym (joined (k + 1)) ∙ among) in
        read_other cur (n - 1) k v (λ same. absurd (false≢true (sym both.1 ∙ eq-eqb n (k + 1) (let e = back_again in omega arith)))) ∙ h.left k both.0
        );
  }

zip_each : {A B C : Type 0} (R : B → C → Type 0) (f : A → B) (g : A → C) (xs ys : List A) → length ys ≡ length xs → ((k : ℕ) (x y : A) → slice_get xs k ≡ Some x → slice_get ys k ≡ Some y → R (f x) (g y)) → AllZip R (map f xs) (map g ys)
zip_each R f g [] [] same each = tt
zip_each R f g [] (y ∷ ys) same each = absurd (omega arith)
zip_each R f g (x ∷ xs) [] same each = absurd (omega arith)
zip_each R f g (x ∷ xs) (y ∷ ys) same each = (each 0 x y refl refl, zip_each R f g xs ys (omega arith) (λ k a b at_a at_b. each (suc k) a b at_a at_b))

length_mapped : {A B : Type 0} (f : A → B) (xs : List A) → length (map f xs) ≡ length xs
length_mapped f [] = refl
length_mapped f (x ∷ xs) = let rest = length_mapped f xs in omega arith

-- all numbers have come
module _ {P : Type 0} (before after : P → Phase) (event : Event) (position : ℕ) (numbers : List ℕ) (old new : List P) (set : AreSet before after event position (length old) numbers old) (h : HasCommitted before after event position numbers old new) where
  no_op_there : (k : ℕ) (w : P) → slice_get new k ≡ Some w → is_among numbers (k + 1) ≡ false → IsNoOpFor event position (before w) (after w)
  no_op_there k w at among = let was = sym (h.left k among) ∙ at in set.others k w (slice_get_within old k w was) was among

  taken_there : (k : ℕ) (o w : P) → slice_get old k ≡ Some o → slice_get new k ≡ Some w → (b : Bool) → is_among numbers (k + 1) ≡ b → IsTaken event position (before o) (after w)
  taken_there k o w old_at new_at true among = h.done k o w old_at new_at among
  taken_there k o w old_at new_at false among =
      let same : w ≡ o = (let both = sym new_at ∙ (h.left k among ∙ old_at) in cc) in
      inr (subst (λ z. IsNoOpFor event position (before z) (after w)) same (no_op_there k w new_at among))

  pub committed_all : AllZip (IsTaken event position) (map before old) (map after new)
  committed_all = zip_each (IsTaken event position) before after old new h.count (λ k o w old_at new_at. taken_there k o w old_at new_at (is_among numbers (k + 1)) refl)

  mapped_at : (k : ℕ) (p : Phase) (x : Option P) → slice_get new k ≡ x → option_map after x ≡ Some p → (w : P) × (slice_get new k ≡ Some w) × (after w ≡ p)
  mapped_at k p None at is = absurd cc
  mapped_at k p (Some w) at is = (w, at, cc)

  pub may_answer : MayAnswer numbers (map after new)
  may_answer = record {
    rising = set.rising;
    within = λ n among. (let w = set.within n among in let high = w.1 in let long = length_mapped after new in let same = h.count in (w.0, omega arith));
    others = λ k p at among. (
        let m = mapped_at k p (slice_get new k) refl (sym (slice_get-map after new k) ∙ at) in
        subst (λ z. roots_at z.query z.kept ≡ []) m.2 (no_op_there k m.0 m.1 among).quiet
        );
  }
