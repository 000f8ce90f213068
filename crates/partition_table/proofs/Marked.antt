-- A key without a mark is not there.
use Rattle.std.proofs.Common.{◌≡◌, ◌∙◌, inl, inr, refl, sym, ap, subst, ℕ, suc, ◌+◌, ◌<◌, take, get_or, Bool, true, false, ◌&&◌, List, [], ◌∷◌, ◌++◌, length, All, Contains, Option, Some, None, slice_get, slice_index_or, arith}
use Rattle.std.specs.List.{fold}
use Rattle.std.specs.Option.{option_map_or}
use Rattle.std.proofs.Math.Seq.{take-suc}
use Rattle.std.proofs.lemmas.Option.{slice_get-get_or}
use Rattle.std.proofs.lemmas.Bool.{false≢true, cases_eq}
use Rattle.std.proofs.lemmas.List.Elements.{All-nil, All-cons, All-append, All-contains}
use Rattle.stream_schema.specs.declared.Value.{Value}
use Rattle.stream_schema.specs.Equality.{Decides-value}
use Rattle.partition_table.specs.Keys.{is_at, are_at}
use Rattle.partition_table.specs.Digests.{spread_value, spread_there, digest, digest_there, is_marked, IsMarked}

both : (a b : Bool) → (a && b) ≡ true → (a ≡ true) × (b ≡ true)
both true b e = (refl, e)
both false b e = absurd (false≢true e)

-- the values at the places of a key have its digest
spread_alike : (key : List Value) (places : List ℕ) (values : List Value) (n : ℕ) → are_at key places values ≡ true → fold (spread_there values) n places ≡ fold spread_value n key
spread_alike [] [] values n e = refl
spread_alike [] (p ∷ ps) values n e = absurd (false≢true e)
spread_alike (k ∷ ks) [] values n e = absurd (false≢true e)
spread_alike (k ∷ ks) (p ∷ ps) values n e = go (slice_get values p) refl (both (is_at k (slice_get values p)) (are_at ks ps values) e).0 (spread_alike ks ps values (spread_value n k) (both (is_at k (slice_get values p)) (are_at ks ps values) e).1)
  where
    go : (o : Option Value) → slice_get values p ≡ o → is_at k (slice_get values p) ≡ true → fold (spread_there values) (spread_value n k) ps ≡ fold spread_value (spread_value n k) ks → fold (spread_there values) (spread_there values n p) ps ≡ fold spread_value (spread_value n k) ks
    go None at is rest = absurd (false≢true (ap (is_at k) (sym at) ∙ is))
    go (Some v) at is rest =
        let same : k ≡ v = (Decides-value k v).0 (ap (is_at k) (sym at) ∙ is) in
        let one : spread_there values n p ≡ spread_value n k = ap (λ o. option_map_or (spread_value n) o n) at ∙ ap (spread_value n) (sym same) in
        ap (λ z. fold (spread_there values) z ps) one ∙ rest

pub digest_alike : (key : List Value) (places : List ℕ) (values : List Value) → are_at key places values ≡ true → digest_there places values ≡ digest key
digest_alike key places values e = spread_alike key places values 0 e

-- so where that has no mark the key is not there
pub not_there : (marks : List Bool) (keys : List (List Value)) (places : List ℕ) (values : List Value) → All (IsMarked marks) keys → is_marked marks (digest_there places values) ≡ false → (key : List Value) → are_at key places values ≡ true → Contains keys key → ⊥
not_there marks keys places values all none key at there =
    false≢true (sym none ∙ ap (is_marked marks) (digest_alike key places values at) ∙ All-contains (IsMarked marks) keys key all there)

-- those that had a mark have it with one more
pub still_marked : (old new : List Bool) (keys : List (List Value)) → ((digest : ℕ) → is_marked old digest ≡ true → is_marked new digest ≡ true) → All (IsMarked old) keys → All (IsMarked new) keys
still_marked old new keys kept all k d inside = kept (digest (slice_index_or keys k d)) (all k d inside)

pub one_more : (old new : List Bool) (keys : List (List Value)) (key : List Value) → ((digest : ℕ) → is_marked old digest ≡ true → is_marked new digest ≡ true) → IsMarked new key → All (IsMarked old) keys → All (IsMarked new) (keys ++ key ∷ [])
one_more old new keys key kept marked all = All-append (IsMarked new) keys (key ∷ []) (still_marked old new keys kept all) (All-cons (IsMarked new) key [] marked (All-nil (IsMarked new)))

-- the first key alone
first_one : (new : List Bool) (keys : List (List Value)) (key : List Value) → length keys + 1 ≡ 1 → IsMarked new key → All (IsMarked new) (keys ++ key ∷ [])
first_one new [] key few marked = All-cons (IsMarked new) key [] marked (All-nil (IsMarked new))
first_one new (k ∷ keys) key few marked = absurd (omega arith)

-- the new key beside those there were
pub with_new : (old between new : List Bool) (count : ℕ) (keys : List (List Value)) (key : List Value) → ((count ≡ 1 → ⊥) → between ≡ old) → ((digest : ℕ) → is_marked between digest ≡ true → is_marked new digest ≡ true) → IsMarked new key → length keys + 1 ≡ count → All (IsMarked old) keys → All (IsMarked new) (keys ++ key ∷ [])
with_new old between new count keys key same kept marked long all = elim (cases_eq count 1) [
  | inl one ↦ first_one new keys key (long ∙ one) marked
  | inr more ↦ one_more between new keys key kept marked (subst (λ marks. All (IsMarked marks) keys) (sym (same more)) all)
]

more_long : (keys : List (List Value)) (key : List Value) → length (keys ++ key ∷ []) ≡ length keys + 1
more_long [] key = refl
more_long (k ∷ keys) key = let rest = more_long keys key in omega arith

pub put_marked : (old new : List Bool) (keys all : List (List Value)) (key shown : List Value) (count : ℕ) → all ≡ keys ++ key ∷ [] → shown ≡ key → count ≡ length all → ((ks : List (List Value)) → length ks + 1 ≡ count → All (IsMarked old) ks → All (IsMarked new) (ks ++ shown ∷ [])) → All (IsMarked old) keys → All (IsMarked new) all
put_marked old new keys all key shown count are same counted marks h =
    let long : length keys + 1 ≡ count = (let a = more_long keys key in let b = ap length are in omega arith) in
    subst (All (IsMarked new)) (sym are) (subst (λ k. All (IsMarked new) (keys ++ k ∷ [])) same (marks keys long h))

-- no key is among none
pub among_none : (keys : List (List Value)) (key : List Value) → length keys ≡ 0 → Contains keys key → ⊥
among_none keys key none there = let inside = there.1 in omega arith

-- one key more of those that there are
pub next_marked : (old new : List Bool) (keys : List (List Value)) (k : ℕ) → k < length keys → ((digest : ℕ) → is_marked old digest ≡ true → is_marked new digest ≡ true) → ((key : List Value) → slice_get keys k ≡ Some key → IsMarked new key) → All (IsMarked old) (take k keys) → All (IsMarked new) (take (k + 1) keys)
next_marked old new keys k less kept marked all =
    let next : k + 1 ≡ suc k = omega arith in
    let key = get_or keys k [] in
    subst (λ ks. All (IsMarked new) ks) (sym (ap (λ i. take i keys) next ∙ take-suc keys k [] less)) (one_more old new (take k keys) key kept (marked key (slice_get-get_or keys k [] less)) all)
