-- Where a place stands in the row of all places, as chunks are written and made.
use Rattle.std.proofs.Common.{◌≡◌, ℕ, zero, suc, ◌+◌, ◌-◌, ◌*◌, ◌^◌, ◌<◌, ◌≤◌, List, [], ◌∷◌, ◌++◌, length, map, set, get_or, Option, Some, None, refl, sym, ap, ◌∙◌, arith, length-append, length-set, append_assoc, take, subst, inl, inr, ◌%◌, add-one, replicate, lit<}
use Rattle.std.proofs.Math.Nat.{mul_assoc}
use Rattle.std.proofs.lemmas.Nat.{pow_below, shl_whole}
use Rattle.std.proofs.lemmas.Bool.{cases_lt}
use Rattle.std.proofs.lemmas.List.{append-nil, length-replicate, get_or_default, get_or_append_left, get_or-append-add, set-append_left, set-append_right}
use Rattle.std.proofs.Math.Seq.{take-append-add}
use Rattle.std.proofs.Math.Nat.{pow-suc}
use Rattle.tecs_arena.specs.Chunks.{IsFilled, values_of, places, places_of, row, AreChunks}

-- how many places chunk k has, and how many all before it
pub size : ℕ → ℕ → ℕ
size n zero = n
size n (suc k) = size (n + n) k

pub first : ℕ → ℕ → ℕ
first n zero = 0
first n (suc k) = n + first (n + n) k

pub first_more : (n k : ℕ) → first n (suc k) ≡ first n k + size n k
unfolding size first
first_more n zero = omega arith
first_more n (suc k) = let e = first_more (n + n) k in omega arith

pub size_sum : (n k : ℕ) → first n k + n ≡ size n k
unfolding size first
size_sum n zero = omega arith
size_sum n (suc k) = let e = size_sum (n + n) k in omega arith

pub size_is : (n k : ℕ) → size n k ≡ n * 2 ^ k
unfolding size
size_is n zero = omega arith
size_is n (suc k) = let e : (n + n) * 2 ^ k ≡ n * 2 ^ suc k = rw pow-suc (omega (arith, mul_assoc n (2 ^ k) 2)) in size_is (n + n) k ∙ e

pub pow_mono : (i j : ℕ) → i ≤ j → 2 ^ i ≤ 2 ^ j
pow_mono i j le = elim (cases_lt i j) [ inl lt ↦ let h = pow_below i j lt in omega arith | inr ge ↦ let same : i ≡ j = omega arith in rw same (omega arith) ]

-- no chunk begins before an earlier one ends
pub first_mono : (n j k : ℕ) → j ≤ k → first n j ≤ first n k
unfolding first
first_mono n zero k le = omega arith
first_mono n (suc j) zero le = absurd (omega arith)
first_mono n (suc j) (suc k) le = let e = first_mono (n + n) j k (omega arith) in omega arith

-- how many places come before chunk k, where the first one has 64
first_is : (k : ℕ) → first 64 k ≡ places_of k
first_is k = let a = size_is 64 k in let b = size_sum 64 k in omega arith

-- no shift of the code loses a bit
shift : (k : ℕ) → k ≤ 25 → (64 * 2 ^ k) % 2 ^ 64 ≡ 64 * 2 ^ k
shift k few = shl_whole 64 7 k 64 (lit< tt) (omega arith)

-- so many nodes leave the last of m chunks empty where they fit into all but the last two
pub two_empty : (m n : ℕ) → 2 ≤ m → m ≤ 27 → n ≤ (64 * 2 ^ (m - 2)) % 2 ^ 64 - 64 → n ≤ places_of (m - 1)
two_empty zero n two few le = absurd (omega arith)
two_empty (suc zero) n two few le = absurd (omega arith)
two_empty (suc (suc k)) n two few le =
    let last : suc (suc k) - 1 ≡ suc k = omega arith in let before : suc (suc k) - 2 ≡ k = omega arith in
    let s = shift k (omega arith) in let p = pow-suc 2 k in
    let h = rw before at le in
    rw last (omega arith)

-- and where they do not, there are at most four places for each, and 192
pub not_two_empty : (m n : ℕ) → 2 ≤ m → m ≤ 27 → (64 * 2 ^ (m - 2)) % 2 ^ 64 - 64 < n → places_of m ≤ 4 * n + 192
not_two_empty zero n two few lt = absurd (omega arith)
not_two_empty (suc zero) n two few lt = absurd (omega arith)
not_two_empty (suc (suc k)) n two few lt =
    let before : suc (suc k) - 2 ≡ k = omega arith in
    let s = shift k (omega arith) in let p = pow-suc 2 k in let q = pow-suc 2 (suc k) in
    let h = rw before at lt in
    omega arith

module _ {X : Type 0} where
  set_append_add : (xs ys : List (Option X)) (n : ℕ) (v : Option X) → set (xs ++ ys) (length xs + n) v ≡ xs ++ set ys n v
  set_append_add xs ys n v = let e : length xs + n - length xs ≡ n = omega arith in set-append_right xs ys (length xs) (length xs + n) v refl (omega arith) ∙ ap (λ i. xs ++ set ys i v) e

  -- the chunk of a number is there, and has its size
  pub made_chunk : (n k m : ℕ) (table : List (Option (List (Option X)))) → AreChunks n m table → k < m → (cs : List (Option X)) × (get_or table k None ≡ Some cs) × (length cs ≡ size n k)
  unfolding size
  made_chunk n k zero table h lt = absurd (omega arith)
  made_chunk n k (suc m) [] h lt = absurd h
  made_chunk n k (suc m) (None ∷ table) h lt = absurd h
  made_chunk n zero (suc m) (Some cs ∷ table) h lt = (cs, refl, h.0)
  made_chunk n (suc k) (suc m) (Some cs ∷ table) h lt = made_chunk (n + n) k m table h.1 (omega arith)

  pub row_read : (n k m p : ℕ) (table : List (Option (List (Option X)))) → AreChunks n m table → k < m → p < size n k → get_or (row table) (first n k + p) None ≡ get_or (places (get_or table k None)) p None
  unfolding size first
  row_read n k zero p table h lt below = absurd (omega arith)
  row_read n k (suc m) p [] h lt below = absurd h
  row_read n k (suc m) p (None ∷ table) h lt below = absurd h
  row_read n zero (suc m) p (Some cs ∷ table) h lt below = let e : 0 + p ≡ p = omega arith in ap (λ i. get_or (cs ++ row table) i None) e ∙ get_or_append_left cs (row table) None p (omega (arith, h.0))
  row_read n (suc k) (suc m) p (Some cs ∷ table) h lt below =
      let e : n + first (n + n) k + p ≡ length cs + (first (n + n) k + p) = omega (arith, h.0) in
      ap (λ i. get_or (cs ++ row table) i None) e ∙ get_or-append-add cs (row table) (first (n + n) k + p) None ∙ row_read (n + n) k m p table h.1 (omega arith) below

  pub row_write : (n k m p : ℕ) (v : Option X) (table : List (Option (List (Option X)))) → AreChunks n m table → k < m → p < size n k → row (set table k (Some (set (places (get_or table k None)) p v))) ≡ set (row table) (first n k + p) v
  unfolding size first
  row_write n k zero p v table h lt below = absurd (omega arith)
  row_write n k (suc m) p v [] h lt below = absurd h
  row_write n k (suc m) p v (None ∷ table) h lt below = absurd h
  row_write n zero (suc m) p v (Some cs ∷ table) h lt below = let e : p ≡ 0 + p = omega arith in sym (set-append_left cs (row table) p v (omega (arith, h.0))) ∙ ap (λ i. set (cs ++ row table) i v) e
  row_write n (suc k) (suc m) p v (Some cs ∷ table) h lt below =
      let e : length cs + (first (n + n) k + p) ≡ n + first (n + n) k + p = omega (arith, h.0) in
      ap (λ r. cs ++ r) (row_write (n + n) k m p v table h.1 (omega arith) below) ∙ sym (set_append_add cs (row table) (first (n + n) k + p) v) ∙ ap (λ i. set (cs ++ row table) i v) e

  -- a chunk of the same size keeps the table
  pub chunks-set : (n k m : ℕ) (cs : List (Option X)) (table : List (Option (List (Option X)))) → AreChunks n m table → k < m → length cs ≡ size n k → AreChunks n m (set table k (Some cs))
  unfolding size
  chunks-set n k zero cs table h lt long = absurd (omega arith)
  chunks-set n k (suc m) cs [] h lt long = absurd h
  chunks-set n k (suc m) cs (None ∷ table) h lt long = absurd h
  chunks-set n zero (suc m) cs (Some ds ∷ table) h lt long = (long, h.1)
  chunks-set n (suc k) (suc m) cs (Some ds ∷ table) h lt long = (h.0, chunks-set (n + n) k m cs table h.1 (omega arith) long)

  -- a further chunk goes after all places
  pub row_grow : (n m : ℕ) (cs : List (Option X)) (table : List (Option (List (Option X)))) → AreChunks n m table → m < length table → row (set table m (Some cs)) ≡ row table ++ cs
  row_grow n zero cs [] h lt = absurd (omega arith)
  row_grow n zero cs (None ∷ table) h lt = rw h (append-nil cs)
  row_grow n zero cs (Some [] ∷ table) h lt = rw h (append-nil cs)
  row_grow n zero cs (Some (d ∷ ds) ∷ table) h lt = absurd cc
  row_grow n (suc m) cs [] h lt = absurd h
  row_grow n (suc m) cs (None ∷ table) h lt = absurd h
  row_grow n (suc m) cs (Some ds ∷ table) h lt = ap (λ r. ds ++ r) (row_grow (n + n) m cs table h.1 (omega arith)) ∙ sym (append_assoc ds (row table) cs)

  pub chunks-grow : (n m : ℕ) (cs : List (Option X)) (table : List (Option (List (Option X)))) → AreChunks n m table → m < length table → length cs ≡ size n m → AreChunks n (suc m) (set table m (Some cs))
  unfolding size
  chunks-grow n zero cs [] h lt long = absurd (omega arith)
  chunks-grow n zero cs (None ∷ table) h lt long = (long, h)
  chunks-grow n zero cs (Some [] ∷ table) h lt long = (long, h)
  chunks-grow n zero cs (Some (d ∷ ds) ∷ table) h lt long = absurd cc
  chunks-grow n (suc m) cs [] h lt long = absurd h
  chunks-grow n (suc m) cs (None ∷ table) h lt long = absurd h
  chunks-grow n (suc m) cs (Some ds ∷ table) h lt long = (h.0, chunks-grow (n + n) m cs table h.1 (omega arith) long)

  pub row_length : (n m : ℕ) (table : List (Option (List (Option X)))) → AreChunks n m table → length (row table) ≡ first n m
  unfolding first
  row_length n zero table h = ap length h
  row_length n (suc m) [] h = absurd h
  row_length n (suc m) (None ∷ table) h = absurd h
  row_length n (suc m) (Some cs ∷ table) h = let e = row_length (n + n) m table h.1 in omega (arith, h.0, length-append cs (row table))

  pub filled_within : (cs : List (Option X)) (i : ℕ) → IsFilled cs i → i < length cs
  filled_within [] i h = absurd (let e = h.1 in cc)
  filled_within (c ∷ cs) zero h = omega arith
  filled_within (c ∷ cs) (suc i) h = omega (arith, filled_within cs i h)

  -- Memory has not as many bytes as that.
  pub row_small : (m : ℕ) (table : List (Option (List (Option X)))) → AreChunks 64 m table → m ≤ 27 → length (row table) + 64 ≤ 2 ^ 33
  row_small m table h le =
      let a = row_length 64 m table h in let b = size_sum 64 m in let e = size_is 64 m in let p : 2 ^ m ≤ 2 ^ 27 = pow_mono m 27 le in omega arith

  -- what the code computes of the room: no shift loses a bit
  pub row_room : (m : ℕ) (table : List (Option (List (Option X)))) → AreChunks 64 m table → m ≤ 27 → ((64 * 2 ^ m) % 2 ^ 64 ≡ 64 * 2 ^ m) × (64 * 2 ^ m ≡ length (row table) + 64)
  row_room m table h le =
      let a = row_length 64 m table h in let b = size_sum 64 m in let e = size_is 64 m in let p : 2 ^ m ≤ 2 ^ 27 = pow_mono m 27 le in
      (shl_whole 64 7 m 64 (lit< tt) (omega arith), omega arith)

  -- the table with one chunk more
  pub grown_row : (m n : ℕ) (cs : List (Option X)) (table : List (Option (List (Option X)))) → AreChunks 64 m table → m < 27 → length table ≡ 27 → n ≡ (64 * 2 ^ m) % 2 ^ 64 → cs ≡ replicate n None → (AreChunks 64 (m + 1) (set table m (Some cs)) × (m + 1 ≤ 27)) × (row (set table m (Some cs)) ≡ row table ++ replicate (length (row table) + 64) None)
  grown_row m n cs table h few long whole blank =
      let r = row_room m table h (omega arith) in let e = size_is 64 m in
      let have : cs ≡ replicate (length (row table) + 64) None = blank ∙ ap (λ (k : ℕ). let z : Option X = None in replicate k z) (whole ∙ r.0 ∙ r.1) in
      let sized : length cs ≡ size 64 m = ap length have ∙ length-replicate (length (row table) + 64) None ∙ omega arith in
      ((rw add-one (chunks-grow 64 m cs table h (omega arith) sized), omega arith), row_grow 64 m cs table h (omega arith) ∙ ap (λ ds. row table ++ ds) have)

  -- the table without its last chunk
  row_cut : (n m : ℕ) (table : List (Option (List (Option X)))) → AreChunks n (suc m) table → AreChunks n m (set table m None) × (row (set table m None) ≡ take (first n m) (row table))
  unfolding first
  row_cut n m [] h = absurd h
  row_cut n m (None ∷ table) h = absurd h
  row_cut n zero (Some cs ∷ table) h = (h.1, h.1)
  row_cut n (suc m) (Some cs ∷ table) h =
      let e = row_cut (n + n) m table h.1 in
      let from : length cs + first (n + n) m ≡ n + first (n + n) m = omega (arith, h.0) in
      ((h.0, e.0), ap (λ r. cs ++ r) e.1 ∙ sym (take-append-add cs (row table) (first (n + n) m)) ∙ ap (λ i. take i (cs ++ row table)) from)

  pub cut_row : (m k : ℕ) (table : List (Option (List (Option X)))) → AreChunks 64 m table → m ≤ 27 → m ≡ k + 1 → (AreChunks 64 k (set table k None) × (k ≤ 27)) × (row (set table k None) ≡ take (places_of k) (row table))
  cut_row m k table h few last =
      let e = row_cut 64 k table (subst (λ i. AreChunks 64 i table) (last ∙ add-one k) h) in
      ((e.0, omega arith), e.1 ∙ ap (λ i. take i (row table)) (first_is k))

  -- A number's place: in which chunk, and where there.
  pub record IsSpot (table : List (Option (List (Option X)))) (m id k p : ℕ) : Type 0 where
    pub before : id ≡ first 64 k + p
    pub chunk : k < m
    pub there : (cs : List (Option X)) × (get_or table k None ≡ Some cs) × (length cs ≡ size 64 k)
    pub inside : p < size 64 k

  pub spot : (m id k p : ℕ) (table : List (Option (List (Option X)))) → AreChunks 64 m table → id < length (row table) → p < 64 * 2 ^ k → id + 64 ≡ 64 * 2 ^ k + p → IsSpot table m id k p
  spot m id k p table h lt below sum =
      let a = size_is 64 k in let b = size_sum 64 k in let l = row_length 64 m table h in
      let early : k < m = elim (cases_lt k m) [ inl less ↦ less | inr more ↦ absurd (let e = first_mono 64 m k more in omega arith) ] in
      record { before = omega arith; chunk = early; there = made_chunk 64 k m table h early; inside = omega arith }

  pub spot_read : (m id k p : ℕ) (table : List (Option (List (Option X)))) → AreChunks 64 m table → IsSpot table m id k p → get_or (row table) id None ≡ get_or (places (get_or table k None)) p None
  spot_read m id k p table h s = ap (λ i. get_or (row table) i None) s.before ∙ row_read 64 k m p table h s.chunk s.inside

  pub spot_write : (m id k p : ℕ) (v : Option X) (table : List (Option (List (Option X)))) → AreChunks 64 m table → IsSpot table m id k p → row (set table k (Some (set (places (get_or table k None)) p v))) ≡ set (row table) id v
  spot_write m id k p v table h s = row_write 64 k m p v table h s.chunk s.inside ∙ ap (λ i. set (row table) i v) (sym s.before)

  pub spot_inside : (m id k p : ℕ) (table : List (Option (List (Option X)))) → IsSpot table m id k p → p < length (places (get_or table k None))
  spot_inside m id k p table s = let e = s.inside in rw (s.there.1) (omega (arith, s.there.2))

  pub spot_kept : (m id k p : ℕ) (v : Option X) (table : List (Option (List (Option X)))) → AreChunks 64 m table → IsSpot table m id k p → AreChunks 64 m (set table k (Some (set (places (get_or table k None)) p v)))
  spot_kept m id k p v table h s = chunks-set 64 k m (set (places (get_or table k None)) p v) table h s.chunk (rw (s.there.1) (length-set s.there.0 p v ∙ s.there.2))

  -- The same at the chunk as the code reads it.
  pub spot_readable : (m id k p : ℕ) (r : Option (List (Option X))) (table : List (Option (List (Option X)))) → AreChunks 64 m table → IsSpot table m id k p → k < length table → IsFilled (row table) id → IsFilled (places (get_or table k r)) p
  spot_readable m id k p r table h s inside f = rw (get_or_default table k r None inside) (f.0, sym (spot_read m id k p table h s) ∙ f.1)

  pub spot_told : (m id k p : ℕ) (r : Option (List (Option X))) (x : X) (table : List (Option (List (Option X)))) → AreChunks 64 m table → IsSpot table m id k p → k < length table → get_or (places (get_or table k r)) p None ≡ Some x → get_or (row table) id None ≡ Some x
  spot_told m id k p r x table h s inside e = spot_read m id k p table h s ∙ ap (λ c. get_or (places c) p None) (get_or_default table k None r inside) ∙ e

  pub spot_room : (m id k p : ℕ) (r : Option (List (Option X))) (table : List (Option (List (Option X)))) → IsSpot table m id k p → k < length table → p < length (places (get_or table k r))
  spot_room m id k p r table s inside = rw (get_or_default table k r None inside) (spot_inside m id k p table s)

  pub spot_wrote : (m id k p : ℕ) (r : Option (List (Option X))) (v : Option X) (new : Option (List (Option X))) (table : List (Option (List (Option X)))) → AreChunks 64 m table → IsSpot table m id k p → k < length table → new ≡ Some (set (places (get_or table k r)) p v) → AreChunks 64 m (set table k new) × (row (set table k new) ≡ set (row table) id v)
  spot_wrote m id k p r v new table h s inside e =
      let same : new ≡ Some (set (places (get_or table k None)) p v) = e ∙ ap (λ c. Some (set (places c) p v)) (get_or_default table k r None inside) in
      rw same (spot_kept m id k p v table h s, spot_write m id k p v table h s)

  pub blank_row : (table : List (Option (List (Option X)))) → ((i : ℕ) → i < length table → get_or table i None ≡ None) → row table ≡ []
  blank_row [] h = refl
  blank_row (None ∷ table) h = blank_row table (λ i lt. h (suc i) (omega arith))
  blank_row (Some cs ∷ table) h = absurd (let e = h 0 (omega arith) in cc)

  -- where the first places are all written
  pub held_all : (cs : List (Option X)) (xs : List X) → cs ≡ map Some xs → values_of cs ≡ xs
  held_all cs [] e = rw e refl
  held_all cs (x ∷ xs) e = rw e (ap (λ ys. x ∷ ys) (held_all (map Some xs) xs refl))
