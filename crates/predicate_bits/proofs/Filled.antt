-- A set that is filled with the leaves of a group whose tests hold.
use Rattle.std.proofs.Common.{◌≡◌, refl, sym, ap, ◌∙◌, ℕ, ◌+◌, ◌<◌, ◌≤◌, ◌⊎◌, inl, inr, Bool, true, false, ◌&&◌, ◌||◌, List, length, Option, Some, None, slice_get, slice_index_or, Contains, eqb, arith}
use Rattle.std.proofs.lemmas.Bool.{cases_lt, eqb-true, eq-eqb, false≢true, and_parts, or_cases, or_left, or_right}
use Rattle.std.proofs.lemmas.Option.{slice_get_within}
use Rattle.std.proofs.lemmas.List.{get_or_default}
use Rattle.cer_base.specs.Bits.{has, room_for}
use Rattle.stream_schema.specs.declared.Event.{Event}
use Rattle.query_leaves.specs.declared.Leaf.{Leaf}
use Rattle.query_leaves.specs.Shapes.{each_holds}
use Rattle.query_leaves.specs.Conditions.{can_read, leaf_conditions}
use Rattle.std.specs.Prelude.{Vec}
use Rattle.std.specs.declared.alloc.Global.{Global}
use Rattle.predicate_bits.specs.Groups.{IsGroup, AreGrouped}

-- the set has those of the first numbers whose leaf can read the event, and no other number
pub record IsFilledUpTo (n : ℕ) (list : List Leaf) (event : Event) (numbers : List ℕ) (set : List Bool) : Type 0 where
  pub room : length set ≡ room_for (length list)
  pub sound : (k : ℕ) → has set k ≡ true → leaf_conditions list event k ≡ true
  pub whole : (i : ℕ) → i < n → i < length numbers → leaf_conditions list event (slice_index_or numbers i 0) ≡ true → has set (slice_index_or numbers i 0) ≡ true

pub filled_none : (list : List Leaf) (event : Event) (numbers : List ℕ) (set : List Bool) → length set ≡ room_for (length list) → ((k : ℕ) → has set k ≡ false) → IsFilledUpTo 0 list event numbers set
filled_none list event numbers set room empty = record { room = room; sound = λ k h. absurd (false≢true (sym (empty k) ∙ h)); whole = λ i less within bit. absurd (omega arith) }

-- the leaf of a listed number
pub leaf_at : (list : List Leaf) (ty : ℕ) (numbers : List ℕ) (i n : ℕ) → IsGroup list ty numbers → i < length numbers → n ≡ slice_index_or numbers i n → (l : Leaf) × (slice_get list n ≡ Some l) × (l.ty ≡ ty)
leaf_at list ty numbers i n group less read = group.sound n (i, less, sym read)

pub within_list : (list : List Leaf) (ty : ℕ) (numbers : List ℕ) (i n : ℕ) → IsGroup list ty numbers → i < length numbers → n ≡ slice_index_or numbers i n → n < length list
within_list list ty numbers i n group less read = let l = leaf_at list ty numbers i n group less read in slice_get_within list n l.0 l.1

-- whether a leaf of the event's type can read it
bit_is : (list : List Leaf) (event : Event) (n : ℕ) (l : Leaf) → slice_get list n ≡ Some l → l.ty ≡ event.ty → leaf_conditions list event n ≡ each_holds l.tests event
bit_is list event n l at is = ap (λ o. can_read o event) at ∙ ap (λ b. b && each_holds l.tests event) (eq-eqb l.ty event.ty is)

-- the bit of a listed number
pub bit_at : (list : List Leaf) (event : Event) (numbers : List ℕ) (i n : ℕ) (b : Bool) → IsGroup list event.ty numbers → i < length numbers → n ≡ slice_index_or numbers i n → ((l : Leaf) → slice_get list n ≡ Some l → b ≡ each_holds l.tests event) → leaf_conditions list event n ≡ b
bit_at list event numbers i n b group less read tested =
    let m = leaf_at list event.ty numbers i n group less read in
    bit_is list event n m.0 m.1 m.2 ∙ sym (tested m.0 m.1)

-- a number of the list is within the room of its set
pub within_room : (size n : ℕ) (set : List Bool) → n < size → length set ≡ room_for size → n < length set
within_room size n set less room = omega arith

-- the number whose leaf can read the event is put in
pub filled_more : (i : ℕ) (list : List Leaf) (event : Event) (numbers : List ℕ) (set after : List Bool) (n : ℕ) → IsFilledUpTo i list event numbers set → i < length numbers → n ≡ slice_index_or numbers i n → leaf_conditions list event n ≡ true → ((j : ℕ) → has after j ≡ (eqb j n || has set j)) → length after ≡ length set → IsFilledUpTo (i + 1) list event numbers after
filled_more i list event numbers set after n h within read bit members room = record {
  room = room ∙ h.room;
  sound = λ k e. is_sound k (or_cases (eqb k n) (has set k) (sym (members k) ∙ e));
  whole = λ j less in_range b. is_whole j less in_range b (cases_lt j i);
}
  where
    is_sound : (k : ℕ) → (eqb k n ≡ true) ⊎ (has set k ≡ true) → leaf_conditions list event k ≡ true
    is_sound k (inl e) = ap (leaf_conditions list event) (eqb-true k n e) ∙ bit
    is_sound k (inr e) = h.sound k e

    is_whole : (j : ℕ) → j < i + 1 → j < length numbers → leaf_conditions list event (slice_index_or numbers j 0) ≡ true → (j < i) ⊎ (i ≤ j) → has after (slice_index_or numbers j 0) ≡ true
    is_whole j less in_range b (inl low) = members (slice_index_or numbers j 0) ∙ or_right (eqb (slice_index_or numbers j 0) n) (has set (slice_index_or numbers j 0)) (h.whole j low in_range b)
    is_whole j less in_range b (inr high) =
        let same : j ≡ i = omega arith in
        let here = ap (λ x. slice_index_or numbers x 0) same ∙ (get_or_default numbers i 0 n within ∙ sym read) in
        members (slice_index_or numbers j 0) ∙ or_left (eqb (slice_index_or numbers j 0) n) (has set (slice_index_or numbers j 0)) (eq-eqb (slice_index_or numbers j 0) n here)

-- the number whose leaf can't read the event is not
pub filled_past : (i : ℕ) (list : List Leaf) (event : Event) (numbers : List ℕ) (set : List Bool) (n : ℕ) → IsFilledUpTo i list event numbers set → i < length numbers → n ≡ slice_index_or numbers i n → leaf_conditions list event n ≡ false → IsFilledUpTo (i + 1) list event numbers set
filled_past i list event numbers set n h within read bit = record {
  room = h.room;
  sound = h.sound;
  whole = λ j less in_range b. is_whole j less in_range b (cases_lt j i);
}
  where
    is_whole : (j : ℕ) → j < i + 1 → j < length numbers → leaf_conditions list event (slice_index_or numbers j 0) ≡ true → (j < i) ⊎ (i ≤ j) → has set (slice_index_or numbers j 0) ≡ true
    is_whole j less in_range b (inl low) = h.whole j low in_range b
    is_whole j less in_range b (inr high) =
        let same : j ≡ i = omega arith in
        let here = ap (λ x. slice_index_or numbers x 0) same ∙ (get_or_default numbers i 0 n within ∙ sym read) in
        absurd (false≢true (sym bit ∙ (ap (leaf_conditions list event) (sym here) ∙ b)))

-- all numbers of the event's type are looked at
pub filled_all : (i : ℕ) (list : List Leaf) (event : Event) (numbers : List ℕ) (set : List Bool) → IsGroup list event.ty numbers → IsFilledUpTo i list event numbers set → length numbers ≤ i → (k : ℕ) → has set k ≡ leaf_conditions list event k
filled_all i list event numbers set group h end k = one_bool (has set k) (leaf_conditions list event k) (h.sound k) (λ b. is_in b (slice_get list k) refl)
  where
    one_bool : (a b : Bool) → (a ≡ true → b ≡ true) → (b ≡ true → a ≡ true) → a ≡ b
    one_bool true b f g = sym (f refl)
    one_bool false true f g = g refl
    one_bool false false f g = refl

    listed : Contains numbers k → leaf_conditions list event k ≡ true → has set k ≡ true
    listed c b =
        let less = c.1 in
        let here = get_or_default numbers c.0 0 k c.1 ∙ c.2 in
        ap (has set) (sym here) ∙ h.whole c.0 (omega arith) c.1 (ap (leaf_conditions list event) here ∙ b)

    is_in : leaf_conditions list event k ≡ true → (o : Option Leaf) → slice_get list k ≡ o → has set k ≡ true
    is_in b None e = absurd (false≢true (sym (ap (λ x. can_read x event) e) ∙ b))
    is_in b (Some l) e =
        let parts = and_parts (eqb l.ty event.ty) (each_holds l.tests event) (sym (ap (λ x. can_read x event) e) ∙ b) in
        listed (group.whole k l e (eqb-true l.ty event.ty parts.0)) b

-- none of the first numbers is that of a leaf that can read the event
abbrev pub IsNoneUpTo : ℕ → List Leaf → Event → List ℕ → Type 0
IsNoneUpTo n list event numbers = (i : ℕ) → i < n → i < length numbers → leaf_conditions list event (slice_index_or numbers i 0) ≡ false

pub none_past : (i : ℕ) (list : List Leaf) (event : Event) (numbers : List ℕ) (n : ℕ) → IsNoneUpTo i list event numbers → i < length numbers → n ≡ slice_index_or numbers i n → leaf_conditions list event n ≡ false → IsNoneUpTo (i + 1) list event numbers
none_past i list event numbers n h within read bit j less in_range = by (cases_lt j i)
  where
    by : (j < i) ⊎ (i ≤ j) → leaf_conditions list event (slice_index_or numbers j 0) ≡ false
    by (inl low) = h j low in_range
    by (inr high) =
        let same : j ≡ i = omega arith in
        let here = ap (λ x. slice_index_or numbers x 0) same ∙ (get_or_default numbers i 0 n within ∙ sym read) in
        ap (leaf_conditions list event) here ∙ bit

-- all numbers of the event's type are looked at
pub none_all : (i : ℕ) (list : List Leaf) (event : Event) (numbers : List ℕ) → IsGroup list event.ty numbers → IsNoneUpTo i list event numbers → length numbers ≤ i → (k : ℕ) → leaf_conditions list event k ≡ false
none_all i list event numbers group h end k = by (slice_get list k) refl (leaf_conditions list event k) refl
  where
    listed : Contains numbers k → leaf_conditions list event k ≡ false
    listed c =
        let less = c.1 in
        let here = get_or_default numbers c.0 0 k c.1 ∙ c.2 in
        ap (leaf_conditions list event) (sym here) ∙ h c.0 (omega arith) c.1

    by : (o : Option Leaf) → slice_get list k ≡ o → (b : Bool) → leaf_conditions list event k ≡ b → leaf_conditions list event k ≡ false
    by o e false bit = bit
    by None e true bit = ap (λ x. can_read x event) e
    by (Some l) e true bit =
        let parts = and_parts (eqb l.ty event.ty) (each_holds l.tests event) (sym (ap (λ x. can_read x event) e) ∙ bit) in
        listed (group.whole k l e (eqb-true l.ty event.ty parts.0))

-- a type that has no list is that of no leaf
pub none_grouped : (list : List Leaf) (event : Event) (find : ℕ → Option (Vec ℕ Global)) → AreGrouped list find → find event.ty ≡ None → (k : ℕ) → leaf_conditions list event k ≡ false
none_grouped list event find grouped none k = by (slice_get list k) refl (leaf_conditions list event k) refl
  where
    by : (o : Option Leaf) → slice_get list k ≡ o → (b : Bool) → leaf_conditions list event k ≡ b → leaf_conditions list event k ≡ false
    by o e false bit = bit
    by None e true bit = ap (λ x. can_read x event) e
    by (Some l) e true bit =
        let parts = and_parts (eqb l.ty event.ty) (each_holds l.tests event) (sym (ap (λ x. can_read x event) e) ∙ bit) in
        absurd (grouped.whole k l e (ap find (eqb-true l.ty event.ty parts.0) ∙ none))
