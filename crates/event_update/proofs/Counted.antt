-- How many entries the lists of some rows have, as lists come and grow.
use Rattle.std.proofs.Common.{◌≡◌, ℕ, zero, suc, ◌+◌, ◌<◌, List, [], ◌∷◌, ◌++◌, length, refl, ap, ◌∙◌, arith, Some, slice_get, get_or, set}
use Rattle.cer_base.specs.declared.node.Root.{Root}
use Rattle.cer_base.specs.declared.node.Node.{Node}
use Rattle.cer_base.specs.Members.{SetTree}
use Rattle.union_lists.specs.Lists.{trees}
use Rattle.event_update.specs.Update.{entries_in}
use Rattle.event_update.proofs.Finding.{row_read}

-- the list of one tree has one entry
pub one_entry : (nodes : List Node) (l : List Root) (t : SetTree) → trees nodes l ≡ t ∷ [] → length l ≡ 1
one_entry nodes [] t e = absurd cc
one_entry nodes (x ∷ []) t e = refl
one_entry nodes (x ∷ y ∷ l) t e = absurd cc

-- one list more
pub entries_more : (rows new : List (ℕ × List Root)) (n : ℕ) (l : List Root) → new ≡ rows ++ (n, l) ∷ [] → entries_in new ≡ entries_in rows + length l
entries_more rows new n l e = ap entries_in e ∙ go rows
  where
    go : (rs : List (ℕ × List Root)) → entries_in (rs ++ (n, l) ∷ []) ≡ entries_in rs + length l
    go [] = omega arith
    go (r ∷ rs) = let more = go rs in omega arith

entries_at : (rows : List (ℕ × List Root)) (k : ℕ) (r : ℕ × List Root) (m : List Root) → slice_get rows k ≡ Some r → entries_in (set rows k (r.0, m)) + length r.1 ≡ entries_in rows + length m
entries_at [] k r m at = absurd cc
entries_at (s ∷ rows) zero r m at =
    let same : s ≡ r = cc in
    let long = ap (λ (q : ℕ × List Root). length q.1) same in
    omega arith
entries_at (s ∷ rows) (suc k) r m at = let rest = entries_at rows k r m at in omega arith

-- another list at a place
pub entries_written : (rows all : List (ℕ × List Root)) (k : ℕ) (r : ℕ × List Root) (m : List Root) → rows ≡ all → r ≡ get_or rows k r → k < length all → entries_in (set rows k (r.0, m)) + length r.1 ≡ entries_in all + length m
entries_written rows all k r m same is h = entries_at rows k r m (row_read rows all k r same is h) ∙ ap (λ (rs : List (ℕ × List Root)). entries_in rs + length m) same
