-- The rows that are staged are the first ones of those that stand there.
use Rattle.std.proofs.Common.{◌≡◌, ℕ, zero, suc, List, [], ◌∷◌, ◌+◌, map, sym, subst, take, get_or, set, nat_eq, length, ◌<◌, ◌≤◌, arith}
use Rattle.std.specs.List.{IsDistinct}
use Rattle.std.proofs.Math.Seq.{take-set-lt}
use Rattle.std.proofs.lemmas.List.{length-set}
use Rattle.cer_base.specs.declared.node.Root.{Root}
use Rattle.cer_base.specs.declared.node.Node.{Node}
use Rattle.cer_base.specs.Nodes.{tree}
use Rattle.union_lists.specs.Lists.{trees, IsUnionList, IsInserted}
use Rattle.event_update.specs.Update.{IsAdded, entries_in}
use Rattle.event_update.proofs.Counted.{entries_written}
use Rattle.event_update.proofs.Finding.{added_row, distinct_written}

below : (rows : List (ℕ × List Root)) (n k : ℕ) → k < length (take n rows) → k < n
below rows zero k h = absurd (omega arith)
below [] (suc n) k h = absurd (omega arith)
below (r ∷ rows) (suc n) zero h = omega arith
below (r ∷ rows) (suc n) (suc k) h = let b = below rows n k (omega arith) in omega arith

read_first : (rows : List (ℕ × List Root)) (n k : ℕ) (r : ℕ × List Root) → r ≡ get_or rows k r → k < length (take n rows) → r ≡ get_or (take n rows) k r
read_first rows zero k r e h = absurd (omega arith)
read_first [] (suc n) k r e h = absurd (omega arith)
read_first (x ∷ rows) (suc n) zero r e h = e
read_first (x ∷ rows) (suc n) (suc k) r e h = read_first rows n k r e (omega arith)

-- the row that was read is one of those that are staged
pub read_staged : (rows all : List (ℕ × List Root)) (n k : ℕ) (r : ℕ × List Root) → take n rows ≡ all → r ≡ get_or rows k r → k < length all → r ≡ get_or (take n rows) k r
read_staged rows all n k r same is h = read_first rows n k r is (subst (λ (rs : List (ℕ × List Root)). k < length rs) (sym same) h)

-- a row that is written is written among them
set_staged : (rows all : List (ℕ × List Root)) (n k : ℕ) (s : ℕ × List Root) → take n rows ≡ all → k < length all → take n (set rows k s) ≡ set (take n rows) k s
set_staged rows all n k s same h = take-set-lt n rows k s (below rows n k (subst (λ (rs : List (ℕ × List Root)). k < length rs) (sym same) h))

-- the numbers stay apart where a list is written in its place
pub distinct_staged : (rows all : List (ℕ × List Root)) (n k : ℕ) (r : ℕ × List Root) (m : List Root) → take n rows ≡ all → r ≡ get_or rows k r → k < length all → (n ≤ length rows) × IsDistinct nat_eq (map (λ (s : ℕ × List Root). s.0) (take n rows)) → (n ≤ length (set rows k (r.0, m))) × IsDistinct nat_eq (map (λ (s : ℕ × List Root). s.0) (take n (set rows k (r.0, m))))
distinct_staged rows all n k r m same is h d =
    let long = length-set rows k (r.0, m) in
    let upto = d.0 in (
      omega arith,
      subst (λ (rs : List (ℕ × List Root)). IsDistinct nat_eq (map (λ (s : ℕ × List Root). s.0) rs)) (sym (set_staged rows all n k (r.0, m) same h)) (distinct_written (take n rows) all k r m same (read_staged rows all n k r same is h) h d.1),
    )

-- the list that was read has taken in a node and is written in its place
pub added_staged : (old new : List Node) (rows all : List (ℕ × List Root)) (n k id : ℕ) (r : ℕ × List Root) (m : List Root) → take n rows ≡ all → r ≡ get_or rows k r → k < length all → IsUnionList new m → IsInserted (trees old r.1) (tree old id) (trees new m) → IsAdded old all k id new (take n (set rows k (r.0, m)))
added_staged old new rows all n k id r m same is h list inserted = subst (λ (rs : List (ℕ × List Root)). IsAdded old all k id new rs) (sym (set_staged rows all n k (r.0, m) same h)) (added_row old new (take n rows) all k id r m same (read_staged rows all n k r same is h) h list inserted)

-- another list at a place
pub entries_staged : (rows all : List (ℕ × List Root)) (n k : ℕ) (r : ℕ × List Root) (m : List Root) → take n rows ≡ all → r ≡ get_or rows k r → k < length all → entries_in (take n (set rows k (r.0, m))) + length r.1 ≡ entries_in all + length m
entries_staged rows all n k r m same is h = subst (λ (rs : List (ℕ × List Root)). entries_in rs + length r.1 ≡ entries_in all + length m) (sym (set_staged rows all n k (r.0, m) same h)) (entries_written (take n rows) all k r m same (read_staged rows all n k r same is h) h)
