-- Rows of sets that are made, and united one by one.
use Rattle.std.proofs.Common.{◌≡◌, refl, sym, ap, ap₂, subst, ◌∙◌, ℕ, ◌+◌, ◌<◌, ◌≤◌, ◌⊎◌, inl, inr, Bool, true, false, ◌&&◌, ◌||◌, List, [], ◌∷◌, ◌++◌, length, slice_index_or, slice_set, length-append, arith, ◌≢◌}
use Rattle.std.proofs.lemmas.Bool.{cases_lt, cases_order, false_from_ne_true}
use Rattle.std.proofs.lemmas.List.{get_or_append_left, get_or-append-add, get_or-set_same, get_or-set_other, get_or_past, get_or_default, length-set}
use Rattle.cer_base.specs.Bits.{has, room_for}
use Rattle.cea_determinise.specs.Cea.{row}
use Rattle.cea_compile.specs.Found.{HaveRoom}

-- so many empty sets
pub record AreBlank (size count : ℕ) (rows : List (List Bool)) : Type 0 where
  pub made : length rows ≡ count
  pub each : (j : ℕ) → j < count → length (slice_index_or rows j []) ≡ room_for size
  pub empty : (j k : ℕ) → row rows j k ≡ false

pub blank_more : (size count : ℕ) (rows : List (List Bool)) (b : List Bool) → AreBlank size count rows → length b ≡ room_for size → ((k : ℕ) → has b k ≡ false) → AreBlank size (count + 1) (rows ++ b ∷ [])
blank_more size count rows b h room empty = record {
  made = length-append rows (b ∷ []) ∙ ap (λ n. n + 1) h.made;
  each = λ j less. room_at j less (cases_lt j (length rows));
  empty = λ j k. empty_at j k (cases_lt j (length rows));
}
  where
    made : length rows ≡ count
    made = h.made

    last : (j : ℕ) → j ≡ length rows → slice_index_or (rows ++ b ∷ []) j [] ≡ b
    last j e = ap (λ i. slice_index_or (rows ++ b ∷ []) i []) (let g : j ≡ length rows + 0 = omega arith in g) ∙ get_or-append-add rows (b ∷ []) 0 []

    room_at : (j : ℕ) → j < count + 1 → (j < length rows) ⊎ (length rows ≤ j) → length (slice_index_or (rows ++ b ∷ []) j []) ≡ room_for size
    room_at j less (inl low) = ap length (get_or_append_left rows (b ∷ []) [] j low) ∙ h.each j (omega (arith, made))
    room_at j less (inr high) = ap length (last j (omega (arith, made))) ∙ room

    past : (j : ℕ) → length rows < j → slice_index_or (rows ++ b ∷ []) j [] ≡ []
    past j more = get_or_past (rows ++ b ∷ []) j [] (omega (arith, length-append rows (b ∷ [])))

    empty_after : (j k : ℕ) → (length rows < j) ⊎ (j ≤ length rows) → length rows ≤ j → row (rows ++ b ∷ []) j k ≡ false
    empty_after j k (inl more) high = ap (λ s. has s k) (past j more) ∙ get_or_past [] k false (omega arith)
    empty_after j k (inr low) high = ap (λ s. has s k) (last j (omega arith)) ∙ empty k

    empty_at : (j k : ℕ) → (j < length rows) ⊎ (length rows ≤ j) → row (rows ++ b ∷ []) j k ≡ false
    empty_at j k (inl low) = ap (λ s. has s k) (get_or_append_left rows (b ∷ []) [] j low) ∙ h.empty j k
    empty_at j k (inr high) = empty_after j k (cases_lt (length rows) j) high

-- the rows before a number are linked, and the others are as they were
pub record AreLinked (size : ℕ) (old rows : List (List Bool)) (from to : List Bool) (i : ℕ) : Type 0 where
  pub room : HaveRoom size rows
  pub before : (j k : ℕ) → j < i → row rows j k ≡ row old j k || (has from j && has to k)
  pub from_there : (j k : ℕ) → i ≤ j → row rows j k ≡ row old j k

pub linked_none : (size : ℕ) (old : List (List Bool)) (from to : List Bool) → HaveRoom size old → AreLinked size old old from to 0
linked_none size old from to room = record { room = room; before = λ j k less. absurd (omega arith); from_there = λ j k le. refl }

or_nothing : (b : Bool) → b ≡ b || false
or_nothing true = refl
or_nothing false = refl

-- the row of a leaf that is not in the set stays
pub linked_past : (size : ℕ) (old rows : List (List Bool)) (from to : List Bool) (i : ℕ) → AreLinked size old rows from to i → has from i ≡ false → AreLinked size old rows from to (i + 1)
linked_past size old rows from to i h not_in = record {
  room = h.room;
  before = λ j k less. at j k (cases_lt j i) less;
  from_there = λ j k le. h.from_there j k (omega arith);
}
  where
    at : (j k : ℕ) → (j < i) ⊎ (i ≤ j) → j < i + 1 → row rows j k ≡ row old j k || (has from j && has to k)
    at j k (inl low) less = h.before j k low
    at j k (inr high) less =
        let same : j ≡ i = omega arith in
        h.from_there j k high ∙ (or_nothing (row old j k) ∙ ap (λ b. row old j k || (b && has to k)) (sym (ap (has from) same ∙ not_in)))

-- the row of a leaf that is in the set is united with the other set
pub linked_more : (size : ℕ) (old rows : List (List Bool)) (from to b : List Bool) (i : ℕ) → AreLinked size old rows from to i → i < size → has from i ≡ true → ((k : ℕ) → has b k ≡ has (slice_index_or rows i []) k || has to k) → length b ≡ length (slice_index_or rows i []) → AreLinked size old (slice_set rows i b) from to (i + 1)
linked_more size old rows from to b i h within is_in united room = record {
  room = record { count = length_set ∙ h.room.count; each = λ j less. room_at j less (cases_order j i) };
  before = λ j k less. at j k less (cases_order j i);
  from_there = λ j k le. (let more : i < j = omega arith in ap (λ s. has s k) (other j (above j more)) ∙ h.from_there j k (omega arith));
}
  where
    there : i < length rows
    there = let c = h.room.count in omega arith

    length_set : length (slice_set rows i b) ≡ length rows
    length_set = length-set rows i b

    above : (j : ℕ) → i < j → j ≢ i
    above j more e = omega arith

    below : (j : ℕ) → j < i → j ≢ i
    below j less e = omega arith

    other : (j : ℕ) → j ≢ i → slice_index_or (slice_set rows i b) j [] ≡ slice_index_or rows j []
    other j ne = get_or-set_other rows i j b [] ne

    here : (j : ℕ) → j ≡ i → slice_index_or (slice_set rows i b) j [] ≡ b
    here j e = ap (λ n. slice_index_or (slice_set rows i b) n []) e ∙ get_or-set_same rows i b [] there

    room_at : (j : ℕ) → j < size → (j ≡ i) ⊎ ((j < i) ⊎ (i < j)) → length (slice_index_or (slice_set rows i b) j []) ≡ room_for size
    room_at j less (inr (inl low)) = ap length (other j (below j low)) ∙ h.room.each j less
    room_at j less (inl e) = ap length (here j e) ∙ (room ∙ h.room.each i within)
    room_at j less (inr (inr high)) = ap length (other j (above j high)) ∙ h.room.each j less

    at : (j k : ℕ) → j < i + 1 → (j ≡ i) ⊎ ((j < i) ⊎ (i < j)) → row (slice_set rows i b) j k ≡ row old j k || (has from j && has to k)
    at j k less (inr (inl low)) = ap (λ s. has s k) (other j (below j low)) ∙ h.before j k low
    at j k less (inl e) =
        ap (λ s. has s k) (here j e) ∙ (united k ∙ ap₂ (λ x y. x || y) (h.from_there i k (omega arith) ∙ ap (λ n. row old n k) (sym e)) (ap (λ c. c && has to k) (sym (ap (has from) e ∙ is_in))))
    at j k less (inr (inr high)) = absurd (omega arith)

-- all rows are linked
pub linked_all : (size : ℕ) (old rows : List (List Bool)) (from to : List Bool) → AreLinked size old rows from to size → ((j : ℕ) → has from j ≡ true → j < size) → (j k : ℕ) → row rows j k ≡ row old j k || (has from j && has to k)
linked_all size old rows from to h below j k = at (cases_lt j size)
  where
    at : (j < size) ⊎ (size ≤ j) → row rows j k ≡ row old j k || (has from j && has to k)
    at (inl low) = h.before j k low
    at (inr high) = h.from_there j k high ∙ (or_nothing (row old j k) ∙ ap (λ b. row old j k || (b && has to k)) (sym (false_from_ne_true (has from j) (λ e. (let l = below j e in omega arith)))))

-- the same, as the row is read from the list at another default
pub linked_here : (size : ℕ) (old rows after : List (List Bool)) (from to b d : List Bool) (i : ℕ) → AreLinked size old rows from to i → i < size → has from i ≡ true → ((k : ℕ) → has b k ≡ has (slice_index_or rows i d) k || has to k) → length b ≡ length (slice_index_or rows i d) → after ≡ slice_set rows i b → AreLinked size old after from to (i + 1)
linked_here size old rows after from to b d i h within is_in united room set =
    let count = h.room.count in
    let row_is = get_or_default rows i d [] (omega arith) in
    subst (λ rs. AreLinked size old rs from to (i + 1)) (sym set)
    (linked_more size old rows from to b i h within is_in (λ k. united k ∙ ap (λ s. has s k || has to k) row_is) (room ∙ ap length row_is))
