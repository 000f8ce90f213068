-- Lists that go as they are to other states, and the states that they go to.
use Rattle.std.proofs.Common.{◌≡◌, ◌≢◌, ℕ, zero, suc, ◌<◌, ◌≤◌, false, None, List, [], ◌∷◌, ◌++◌, map, length, take, refl, sym, ap, subst, ◌∙◌, Some, slice_get, set, nat_eq, arith}
use Rattle.std.specs.List.{IsDistinct, AllByRecursion}
use Rattle.std.proofs.lemmas.Map.Keys.{IsDistinct-cons, IsDistinct-head, IsDistinct-tail}
use Rattle.std.proofs.lemmas.Bool.{ne_eqb}
use Rattle.std.proofs.lemmas.List.Elements.{All-nil, All-cons, All-head, All-tail}
use Rattle.cer_base.specs.declared.node.Root.{Root}
use Rattle.cea_determinise.specs.declared.table.Successors.{Successors}
use Rattle.event_update.specs.Update.{IsOther, GoesOn, moved_to}
use Rattle.cea_determinise.specs.Rows.{GoTo}
use Rattle.event_update.proofs.Cached.{take_more, take_all, map_push}

-- the numbers stay apart with one more that is none of them
pub distinct_other : (n : ℕ) (ns : List ℕ) → IsDistinct nat_eq ns → IsOther n ns → IsDistinct nat_eq (ns ++ n ∷ [])
distinct_other n [] d a = IsDistinct-cons nat_eq n [] tt d
distinct_other n (m ∷ ns) d a =
    let other : m ≢ n = All-head (λ (i : ℕ). (i ≡ n) → ⊥) m ns a in
    IsDistinct-cons nat_eq m (ns ++ n ∷ []) (all_more ns (ne_eqb m n other) (IsDistinct-head nat_eq m ns d)) (distinct_other n ns (IsDistinct-tail nat_eq m ns d) (All-tail (λ (i : ℕ). (i ≡ n) → ⊥) m ns a))
  where
    all_more : (is : List ℕ) → nat_eq m n ≡ false → AllByRecursion (λ (i : ℕ). nat_eq m i ≡ false) is → AllByRecursion (λ (i : ℕ). nat_eq m i ≡ false) (is ++ n ∷ [])
    all_more [] e h = (e, tt)
    all_more (i ∷ is) e h = (h.0, all_more is e h.1)

pub distinct_nothing : (ns : List ℕ) → ns ≡ [] → IsDistinct nat_eq ns
unfolding IsDistinct
distinct_nothing ns e = rw e tt

-- one more number that is another
pub other_next : (n : ℕ) (ns : List ℕ) (k j m : ℕ) → j ≡ suc k → slice_get ns k ≡ Some m → (m ≡ n → ⊥) → IsOther n (take k ns) → IsOther n (take j ns)
other_next n ns k j m e at other h = subst (λ (i : ℕ). IsOther n (take i ns)) (sym e) (go ns k at h)
  where
    go : (is : List ℕ) (k : ℕ) → slice_get is k ≡ Some m → IsOther n (take k is) → IsOther n (take (suc k) is)
    go [] k at h = absurd cc
    go (i ∷ is) zero at h = let same : i ≡ m = cc in All-cons (λ (i : ℕ). (i ≡ n) → ⊥) i [] (λ e. other (sym same ∙ e)) (All-nil (λ (i : ℕ). (i ≡ n) → ⊥))
    go (i ∷ is) (suc k) at h = All-cons (λ (i : ℕ). (i ≡ n) → ⊥) i (take (suc k) is) (All-head (λ (i : ℕ). (i ≡ n) → ⊥) i (take k is) h) (go is k at (All-tail (λ (i : ℕ). (i ≡ n) → ⊥) i (take k is) h))

-- one more successor, and its state
pub go_next : (ns : List ℕ) (moves : List Successors) (k j n : ℕ) (m : Successors) → j ≡ suc k → GoTo ns (take k moves) → slice_get moves k ≡ Some m → GoesOn m n → GoTo (ns ++ n ∷ []) (take j moves)
go_next ns moves k j n m step h at own =
    let f : ℕ → Successors = λ i. record { marked = None; unmarked = Some i } in
    let first : Successors = record { marked = None; unmarked = None } in
    ap (λ i. take i moves) step
    ∙ take_more moves k m at
    ∙ ap (λ ms. ms ++ m ∷ []) h
    ∙ ap (λ x. (first ∷ map f ns) ++ x ∷ []) own
    ∙ ap (λ ms. first ∷ ms) (sym (map_push f ns n))

pub go_all : (ns : List ℕ) (moves : List Successors) (k : ℕ) → length moves ≤ k → GoTo ns (take k moves) → GoTo ns moves
go_all ns moves k le h = sym (take_all moves k le) ∙ h

-- the numbers of lists that have moved are apart as theirs are
pub distinct_moved : (ns : List ℕ) (rows : List (ℕ × List Root)) → IsDistinct nat_eq ns → IsDistinct nat_eq (map (λ (r : ℕ × List Root). r.0) (moved_to ns rows))
distinct_moved [] rows d = d
distinct_moved (n ∷ ns) [] d = distinct_nothing [] refl
distinct_moved (n ∷ ns) (r ∷ rows) d =
    IsDistinct-cons nat_eq n (map (λ (q : ℕ × List Root). q.0) (moved_to ns rows)) (fewer ns rows (IsDistinct-head nat_eq n ns d)) (distinct_moved ns rows (IsDistinct-tail nat_eq n ns d))
  where
    fewer : (ms : List ℕ) (rs : List (ℕ × List Root)) → AllByRecursion (λ (i : ℕ). nat_eq n i ≡ false) ms → AllByRecursion (λ (i : ℕ). nat_eq n i ≡ false) (map (λ (q : ℕ × List Root). q.0) (moved_to ms rs))
    fewer [] rs h = tt
    fewer (m ∷ ms) [] h = tt
    fewer (m ∷ ms) (q ∷ rs) h = (h.0, fewer ms rs h.1)

-- the first k rows under the first k numbers
pub moved_upto : ℕ → List ℕ → List (ℕ × List Root) → List (ℕ × List Root)
moved_upto zero ns rows = rows
moved_upto (suc k) [] rows = rows
moved_upto (suc k) (n ∷ ns) [] = []
moved_upto (suc k) (n ∷ ns) (r ∷ rows) = (n, r.1) ∷ moved_upto k ns rows

pub moved_long : (k : ℕ) (ns : List ℕ) (rows : List (ℕ × List Root)) → length (moved_upto k ns rows) ≡ length rows
unfolding moved_upto
moved_long zero ns rows = refl
moved_long (suc k) [] rows = refl
moved_long (suc k) (n ∷ ns) [] = refl
moved_long (suc k) (n ∷ ns) (r ∷ rows) = ap suc (moved_long k ns rows)

pub moved_first : (ns : List ℕ) (rows : List (ℕ × List Root)) → moved_upto 0 ns rows ≡ rows
unfolding moved_upto
moved_first ns rows = refl

-- one number more is written
moved_one : (ns : List ℕ) (rows : List (ℕ × List Root)) (k n : ℕ) (r : ℕ × List Root) → slice_get ns k ≡ Some n → slice_get (moved_upto k ns rows) k ≡ Some r → set (moved_upto k ns rows) k (n, r.1) ≡ moved_upto (suc k) ns rows
unfolding moved_upto
moved_one [] rows k n r num row = absurd cc
moved_one (m ∷ ns) [] zero n r num row = absurd cc
moved_one (m ∷ ns) [] (suc k) n r num row = absurd cc
moved_one (m ∷ ns) (q ∷ rows) zero n r num row =
    let same : q ≡ r = cc in
    let number : m ≡ n = cc in
    ap (λ (p : ℕ × List Root). (n, p.1) ∷ rows) (sym same) ∙ ap (λ (i : ℕ). (i, q.1) ∷ rows) (sym number)
moved_one (m ∷ ns) (q ∷ rows) (suc k) n r num row = ap (λ (rs : List (ℕ × List Root)). (m, q.1) ∷ rs) (moved_one ns rows k n r num row)

pub moved_next : (ns : List ℕ) (rows : List (ℕ × List Root)) (k j n : ℕ) (r : ℕ × List Root) → j ≡ suc k → slice_get ns k ≡ Some n → slice_get (moved_upto k ns rows) k ≡ Some r → set (moved_upto k ns rows) k (n, r.1) ≡ moved_upto j ns rows
moved_next ns rows k j n r step num row = moved_one ns rows k n r num row ∙ ap (λ i. moved_upto i ns rows) (sym step)

-- all numbers are written, of as many rows as there are numbers
take_none : (rs : List (ℕ × List Root)) → take 0 rs ≡ []
take_none [] = refl
take_none (r ∷ rs) = refl

pub moved_whole : (ns : List ℕ) (rows : List (ℕ × List Root)) (k : ℕ) → length (take (length ns) rows) ≤ k → moved_upto k ns (take (length ns) rows) ≡ moved_to ns rows
unfolding moved_upto
moved_whole [] rows zero h = take_none rows
moved_whole [] rows (suc k) h = take_none rows
moved_whole (n ∷ ns) [] zero h = refl
moved_whole (n ∷ ns) [] (suc k) h = refl
moved_whole (n ∷ ns) (r ∷ rows) zero h = absurd (omega arith)
moved_whole (n ∷ ns) (r ∷ rows) (suc k) h = ap (λ (rs : List (ℕ × List Root)). (n, r.1) ∷ rs) (moved_whole ns rows k (omega arith))

-- the rows that are kept are no more than the numbers
take_few : {A : Type 0} (k : ℕ) (xs : List A) → length (take k xs) ≤ k
take_few zero [] = omega arith
take_few zero (x ∷ xs) = omega arith
take_few (suc k) [] = omega arith
take_few (suc k) (x ∷ xs) = let few = take_few k xs in omega arith

pub few_numbers : (ns : List ℕ) (rows kept : List (ℕ × List Root)) → kept ≡ take (length ns) rows → length kept ≤ length ns
few_numbers ns rows kept e = let few = take_few (length ns) rows in let same = ap length e in omega arith

pub few_rows : (kept rows : List (ℕ × List Root)) (k : ℕ) → kept ≡ rows → length kept ≤ k → length rows ≤ k
few_rows kept rows k e le = subst (λ (rs : List (ℕ × List Root)). length rs ≤ k) e le

pub moved_inside : (k : ℕ) (ns : List ℕ) (rows kept : List (ℕ × List Root)) → kept ≡ rows → k < length kept → k < length (moved_upto k ns rows)
moved_inside k ns rows kept e lt = let long = moved_long k ns rows in let same = ap length e in omega arith
