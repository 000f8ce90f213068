-- The names of all leaves, each once and in order.
use Rattle.std.proofs.Common.{◌≡◌, refl, sym, ap, subst, ◌∙◌, ℕ, zero, suc, inl, inr, true, List, [], ◌∷◌, map, Option, Some, None, bytes_eq}
use Rattle.std.specs.Prelude.{fold}
use Rattle.std.specs.List.{filter_map, cons_option, AllByRecursion}
use Rattle.std.specs.List.Sorted.{IsStrictlySortedBy}
use Rattle.std.specs.Ordering.{nat_cmp, match_ordering, is_eq, ordering_reverse}
use Rattle.std.specs.declared.cmp.Ordering.{Ordering}
use Rattle.std.specs.declared.cmp.Ordering.TheVariants.{Less, Equal, Greater}
use Rattle.std.specs.Cmp.Lexicographic.{slice_cmp, nat_list_cmp_total}
use Rattle.std.proofs.lemmas.Map.Text.{is_eq-slice_cmp}
use Rattle.std.proofs.lemmas.Map.Keys.{sorted_head, sorted_tail}
use Rattle.std.proofs.lemmas.Slice.Eq.{bytes_eq-Decides}
use Rattle.cel_lists.proofs.Members.{Among, among_any, any_among}
use Rattle.match_explain.specs.LeafNames.{LeafNames}
use Rattle.match_explain.specs.Bindings.{with_one, with_each, all_names, names_at, has_name}

abbrev compare : List ℕ → List ℕ → Ordering
compare = slice_cmp nat_cmp

same_name : (a b : List ℕ) → compare a b ≡ Equal → a ≡ b
same_name a b e = (bytes_eq-Decides a b).0 (sym (is_eq-slice_cmp a b) ∙ ap is_eq e)

turned : (a b : List ℕ) → compare a b ≡ Greater → compare b a ≡ Less
turned a b e = nat_list_cmp_total.antisymm b a ∙ ap ordering_reverse e

-- the name is among the names that it is put in
one_has : (ns : List (List ℕ)) (n : List ℕ) → Among n (with_one ns n)
one_has [] n = inl refl
one_has (x ∷ xs) n = go (one_has xs n) (compare n x) refl
  where
    go : Among n (with_one xs n) → (r : Ordering) → compare n x ≡ r → Among n (match_ordering r (n ∷ x ∷ xs) (x ∷ xs) (x ∷ with_one xs n))
    go rest Less e = inl refl
    go rest Equal e = inl (sym (same_name n x e))
    go rest Greater e = inr rest

-- the others stay
one_keeps : (ns : List (List ℕ)) (n m : List ℕ) → Among m ns → Among m (with_one ns n)
one_keeps [] n m h = absurd h
one_keeps (x ∷ xs) n m h = go (one_keeps xs n m) (compare n x) h
  where
    go : (Among m xs → Among m (with_one xs n)) → (r : Ordering) → Among m (x ∷ xs) → Among m (match_ordering r (n ∷ x ∷ xs) (x ∷ xs) (x ∷ with_one xs n))
    go rest Less h = inr h
    go rest Equal h = h
    go rest Greater (inl e) = inl e
    go rest Greater (inr h) = inr (rest h)

each_keeps : (others ns : List (List ℕ)) (m : List ℕ) → Among m ns → Among m (with_each ns others)
each_keeps [] ns m h = h
each_keeps (n ∷ others) ns m h = each_keeps others (with_one ns n) m (one_keeps ns n m h)

each_has : (others ns : List (List ℕ)) (m : List ℕ) → Among m others → Among m (with_each ns others)
each_has [] ns m h = absurd h
each_has (n ∷ others) ns m (inl e) = each_keeps others (with_one ns n) m (subst (λ x. Among x (with_one ns n)) e (one_has ns n))
each_has (n ∷ others) ns m (inr h) = each_has others (with_one ns n) m h

leaves_keep : (leaves : LeafNames) (ns : List (List ℕ)) (m : List ℕ) → Among m ns → Among m (fold with_each ns leaves)
leaves_keep [] ns m h = h
leaves_keep (l ∷ leaves) ns m h = leaves_keep leaves (with_each ns l) m (each_keeps l ns m h)

leaves_have : (leaves : LeafNames) (ns : List (List ℕ)) (k : ℕ) (m : List ℕ) → Among m (names_at leaves k) → Among m (fold with_each ns leaves)
leaves_have [] ns k m h = absurd h
leaves_have (l ∷ leaves) ns zero m h = leaves_keep leaves (with_each ns l) m (each_has l ns m h)
leaves_have (l ∷ leaves) ns (suc k) m h = leaves_have leaves (with_each ns l) k m h

-- Each name of a leaf is among them.
pub all_have : (leaves : LeafNames) (k : ℕ) (m : List ℕ) → Among m (names_at leaves k) → Among m (all_names leaves)
all_have leaves k m h = leaves_have leaves [] k m h

all_one : (P : List ℕ → Type 0) (ns : List (List ℕ)) (n : List ℕ) → AllByRecursion P ns → P n → AllByRecursion P (with_one ns n)
all_one P [] n h p = (p, tt)
all_one P (x ∷ xs) n h p = go (all_one P xs n h.1 p) (compare n x)
  where
    go : AllByRecursion P (with_one xs n) → (r : Ordering) → AllByRecursion P (match_ordering r (n ∷ x ∷ xs) (x ∷ xs) (x ∷ with_one xs n))
    go rest Less = (p, h)
    go rest Equal = h
    go rest Greater = (h.0, rest)

below_all : (n x : List ℕ) (xs : List (List ℕ)) → compare n x ≡ Less → AllByRecursion (λ y. compare x y ≡ Less) xs → AllByRecursion (λ y. compare n y ≡ Less) xs
below_all n x [] e h = tt
below_all n x (y ∷ ys) e h = (nat_list_cmp_total.trans n x y e h.0, below_all n x ys e h.1)

sorted_step : (x n : List ℕ) (xs : List (List ℕ)) → IsStrictlySortedBy compare (x ∷ xs) → IsStrictlySortedBy compare (with_one xs n) → (r : Ordering) → compare n x ≡ r → IsStrictlySortedBy compare (match_ordering r (n ∷ x ∷ xs) (x ∷ xs) (x ∷ with_one xs n))
unfolding IsStrictlySortedBy
sorted_step x n xs h rest Less e = ((e, below_all n x xs e h.0), h)
sorted_step x n xs h rest Equal e = h
sorted_step x n xs h rest Greater e = (all_one (λ y. compare x y ≡ Less) xs n h.0 (turned n x e), rest)

sorted_alone : (n : List ℕ) → IsStrictlySortedBy compare (n ∷ [])
unfolding IsStrictlySortedBy
sorted_alone n = (tt, tt)

sorted_one : (ns : List (List ℕ)) (n : List ℕ) → IsStrictlySortedBy compare ns → IsStrictlySortedBy compare (with_one ns n)
sorted_one [] n h = sorted_alone n
sorted_one (x ∷ xs) n h = sorted_step x n xs h (sorted_one xs n (sorted_tail compare x xs h)) (compare n x) refl

sorted_each : (others ns : List (List ℕ)) → IsStrictlySortedBy compare ns → IsStrictlySortedBy compare (with_each ns others)
sorted_each [] ns h = h
sorted_each (n ∷ others) ns h = sorted_each others (with_one ns n) (sorted_one ns n h)

sorted_leaves : (leaves : LeafNames) (ns : List (List ℕ)) → IsStrictlySortedBy compare ns → IsStrictlySortedBy compare (fold with_each ns leaves)
sorted_leaves [] ns h = h
sorted_leaves (l ∷ leaves) ns h = sorted_leaves leaves (with_each ns l) (sorted_each l ns h)

none_sorted : IsStrictlySortedBy compare []
unfolding IsStrictlySortedBy
none_sorted = tt

pub all_sorted : (leaves : LeafNames) → IsStrictlySortedBy (slice_cmp nat_cmp) (all_names leaves)
all_sorted leaves = sorted_leaves leaves [] none_sorted

-- What is made of some of the names, under their own names, is in order too.
module _ {B : Type 0} (name : B → List ℕ) (f : List ℕ → Option B) (own : (n : List ℕ) (b : B) → f n ≡ Some b → name b ≡ n) where
  all_made : (P : List ℕ → Type 0) (ns : List (List ℕ)) → AllByRecursion P ns → AllByRecursion P (map name (filter_map f ns))
  all_made P [] h = tt
  all_made P (n ∷ ns) h = go (all_made P ns h.1) (f n) refl
    where
      go : AllByRecursion P (map name (filter_map f ns)) → (o : Option B) → f n ≡ o → AllByRecursion P (map name (cons_option o (filter_map f ns)))
      go rest None e = rest
      go rest (Some b) e = (subst P (sym (own n b e)) h.0, rest)

  made_step : (n : List ℕ) (ns : List (List ℕ)) → AllByRecursion (λ y. compare n y ≡ Less) ns → IsStrictlySortedBy compare (map name (filter_map f ns)) → (o : Option B) → f n ≡ o → IsStrictlySortedBy compare (map name (cons_option o (filter_map f ns)))
  unfolding IsStrictlySortedBy
  made_step n ns h rest None e = rest
  made_step n ns h rest (Some b) e = (
    subst (λ m. AllByRecursion (λ y. compare m y ≡ Less) (map name (filter_map f ns))) (sym (own n b e)) (all_made (λ y. compare n y ≡ Less) ns h),
    rest,
  )

  pub made_sorted : (ns : List (List ℕ)) → IsStrictlySortedBy (slice_cmp nat_cmp) ns → IsStrictlySortedBy (slice_cmp nat_cmp) (map name (filter_map f ns))
  made_sorted [] h = none_sorted
  made_sorted (n ∷ ns) h = made_step n ns (sorted_head compare n ns h) (made_sorted ns (sorted_tail compare n ns h)) (f n) refl

-- A list has a name where the test says so.
pub name_from : (names : List (List ℕ)) (n : List ℕ) → has_name names n ≡ true → Among n names
name_from names n e = let h = among_any (λ m. bytes_eq m n) names e in subst (λ x. Among x names) ((bytes_eq-Decides h.0 n).0 h.2) h.1

pub name_to : (names : List (List ℕ)) (n : List ℕ) → Among n names → has_name names n ≡ true
name_to names n h = any_among (λ m. bytes_eq m n) n names h ((bytes_eq-Decides n n).1 refl)
