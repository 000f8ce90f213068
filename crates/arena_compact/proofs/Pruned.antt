-- What a pruned tree has of the whole one.
use Rattle.std.proofs.Common.{◌≡◌, ℕ, ◌<◌, ◌≤◌, ℤ, List, [], ◌∷◌, ◌++◌, map, length, refl, sym, ap, subst, ◌∙◌, ◌⊎◌, inl, inr, All, Contains, Some, arith, true, false}
use Rattle.std.specs.Prelude.{◌≤ℤ◌, slice_get}
use Rattle.std.specs.Int.Signed.{le_z}
use Rattle.std.proofs.lemmas.Int.{ints}
use Rattle.std.proofs.lemmas.List.{append-nil}
use Rattle.std.proofs.lemmas.List.Elements.{filter-append, All-same, All-cons, All-head, All-tail, All-contains, All-contains_itself}
use Rattle.std.proofs.lemmas.Bool.{false_from_ne_true}
use Rattle.std.proofs.lemmas.Option.{slice_get_within}
use Rattle.cer_base.specs.declared.node.Stamp.{Stamp}
use Rattle.cer_base.specs.declared.node.Node.{Node}
use Rattle.cer_base.specs.declared.node.Node.TheVariants.{Bottom, Output, Union}
use Rattle.cer_base.specs.Members.{SetTree, Start, Extended, United, with_position, members, newest, need, depth, recent, IsWellFormedTree, IsSafe, ComesAfter}
use Rattle.cer_base.specs.Repeats.{HasNoRepeats}
use Rattle.cer_base.specs.Nodes.{tree, grown, HasTrueFields, WellFormed, AreInStep}
use Rattle.cer_base.proofs.Trees.{newest-left, by_older}
use Rattle.cer_base.proofs.Walks.{test_passes, test_tells, IsRooted, newest_is_rooted, recent-with_position, too_old}
use Rattle.arena_compact.specs.Pruned.{pruned, IsPruned, AtStart, Below, Both, LeftAlone}

-- what is too old from a clock on is so from a later one on
pub older_still : (low later clock : ℤ) → low ≤ℤ later → le_z low clock ≡ false → le_z later clock ≡ false
older_still low later clock le old = false_from_ne_true (le_z later clock) (λ pass. let passes : le_z low clock ≡ true = test_passes low clock (let a = test_tells later clock pass in omega (arith, ints)) in cc)

-- what goes from a clock on may go from a later one on
pub pruned_later : (low later : ℤ) → low ≤ℤ later → (t u : SetTree) → IsPruned low t u → IsPruned later t u
pruned_later low later le _ _ (AtStart s) = AtStart s
pruned_later low later le _ _ (Below p t u h) = Below p t u (pruned_later low later le t u h)
pruned_later low later le _ _ (Both l r a b h k) = Both l r a b (pruned_later low later le l a h) (pruned_later low later le r b k)
pruned_later low later le _ _ (LeftAlone l r a old h) = LeftAlone l r a (older_still low later (newest r).clock le old) (pruned_later low later le l a h)

-- the members that are recent for this clock or a later one stay, in order
pub recent-pruned : (nodes : List Node) → AreInStep nodes → (later low : ℤ) → low ≤ℤ later → (t u : SetTree) → IsPruned low t u → IsRooted nodes t → recent later (members u) ≡ recent later (members t)
recent-pruned nodes step later low le _ _ (AtStart s) h = refl
recent-pruned nodes step later low le _ _ (Below p t u i) h = recent-with_position later p (members u) ∙ ap (map (with_position p)) (recent-pruned nodes step later low le t u i h) ∙ sym (recent-with_position later p (members t))
recent-pruned nodes step later low le _ _ (Both l r a b i j) h = filter-append _ (members a) (members b) ∙ ap (λ ms. ms ++ recent later (members b)) (recent-pruned nodes step later low le l a i h.0) ∙ ap (λ ms. recent later (members l) ++ ms) (recent-pruned nodes step later low le r b j h.1) ∙ sym (filter-append _ (members l) (members r))
recent-pruned nodes step later low le _ _ (LeftAlone l r a old i) h =
    let none : recent later (members r) ≡ [] = too_old nodes later (newest r) step (newest_is_rooted nodes r h.1) (older_still low later (newest r).clock le old) r h.1 (omega arith) in
    recent-pruned nodes step later low le l a i h.0 ∙ sym (append-nil (recent later (members l))) ∙ ap (λ ms. recent later (members l) ++ ms) (sym none) ∙ sym (filter-append _ (members l) (members r))

-- the greatest start stays
pub newest-pruned : (low : ℤ) (t u : SetTree) → IsPruned low t u → IsWellFormedTree t → newest u ≡ newest t
newest-pruned low _ _ (AtStart s) h = refl
newest-pruned low _ _ (Below p t u i) h = newest-pruned low t u i h.0
newest-pruned low _ _ (Both l r a b i j) h = rw (newest-pruned low l a i h.0, newest-pruned low r b j h.1) refl
newest-pruned low _ _ (LeftAlone l r a old i) h = newest-pruned low l a i h.0 ∙ sym (newest-left l r h.2.ordered)

-- a walk takes no more places than before
pub need-pruned : (low : ℤ) (t u : SetTree) → IsPruned low t u → need u ≤ need t
need-pruned low _ _ (AtStart s) = omega arith
need-pruned low _ _ (Below p t u i) = let a = need-pruned low t u i in omega arith
need-pruned low _ _ (Both l r a b i j) = let x = need-pruned low l a i in let y = need-pruned low r b j in omega arith
need-pruned low _ _ (LeftAlone l r a old i) = let x = need-pruned low l a i in omega arith

pub depth-pruned : (low : ℤ) (t u : SetTree) → IsPruned low t u → depth u ≤ depth t
depth-pruned low _ _ (AtStart s) = omega arith
depth-pruned low _ _ (Below p t u i) = omega arith
depth-pruned low _ _ (Both l r a b i j) = let x = depth-pruned low l a i in omega arith
depth-pruned low _ _ (LeftAlone l r a old i) = let x = depth-pruned low l a i in omega arith

-- the first list is the second without some of its elements
abbrev pub IsSublist : {A : Type 0} → List A → List A → Type 0
IsSublist xs [] = xs ≡ []
IsSublist xs (y ∷ ys) = IsSublist xs ys ⊎ ((zs : _) × (xs ≡ y ∷ zs) × IsSublist zs ys)

pub sublist_nil : {A : Type 0} (ys : List A) → IsSublist [] ys
sublist_nil [] = refl
sublist_nil (y ∷ ys) = inl (sublist_nil ys)

pub sublist-append : {A : Type 0} (xs ys us vs : List A) → IsSublist xs ys → IsSublist us vs → IsSublist (xs ++ us) (ys ++ vs)
sublist-append xs [] us vs a b = rw a b
sublist-append xs (y ∷ ys) us vs a b = elim a [
  | inl skipped ↦ inl (sublist-append xs ys us vs skipped b)
  | inr here ↦ inr (here.0 ++ us, ap (λ zs. zs ++ us) here.1, sublist-append here.0 ys us vs here.2 b)
]

sublist-map : {A B : Type 0} (f : A → B) (xs ys : List A) → IsSublist xs ys → IsSublist (map f xs) (map f ys)
sublist-map f xs [] a = ap (map f) a
sublist-map f xs (y ∷ ys) a = elim a [
  | inl skipped ↦ inl (sublist-map f xs ys skipped)
  | inr here ↦ inr (map f here.0, ap (map f) here.1, sublist-map f here.0 ys here.2)
]

pub sublist-all : {A : Type 0} (P : A → Type 0) (xs ys : List A) → IsSublist xs ys → All P ys → All P xs
sublist-all P xs [] a h = All-same P xs [] a h
sublist-all P xs (y ∷ ys) a h = elim a [
  | inl skipped ↦ sublist-all P xs ys skipped (All-tail P y ys h)
  | inr here ↦ All-same P xs (y ∷ here.0) here.1 (All-cons P y here.0 (All-head P y ys h) (sublist-all P here.0 ys here.2 (All-tail P y ys h)))
]

pub sublist-without_repeats : {A : Type 0} (xs ys : List A) → IsSublist xs ys → HasNoRepeats ys → HasNoRepeats xs
sublist-without_repeats xs [] a h = rw a tt
sublist-without_repeats xs (y ∷ ys) a h = elim a [
  | inl skipped ↦ sublist-without_repeats xs ys skipped h.1
  | inr here ↦ rw (here.1) (λ has. h.0 (All-contains (λ z. Contains ys z) here.0 y (sublist-all (λ z. Contains ys z) here.0 ys here.2 (All-contains_itself ys)) has), sublist-without_repeats here.0 ys here.2 h.1)
]

pub sublist-pruned : (low : ℤ) (t u : SetTree) → IsPruned low t u → IsSublist (members u) (members t)
sublist-pruned low _ _ (AtStart s) = inr ([], refl, refl)
sublist-pruned low _ _ (Below p t u i) = sublist-map (with_position p) (members u) (members t) (sublist-pruned low t u i)
sublist-pruned low _ _ (Both l r a b i j) = sublist-append (members a) (members l) (members b) (members r) (sublist-pruned low l a i) (sublist-pruned low r b j)
sublist-pruned low _ _ (LeftAlone l r a old i) = rw (← append-nil (members a)) (sublist-append (members a) (members l) [] (members r) (sublist-pruned low l a i) (sublist_nil (members r)))

-- a pruned tree is well-formed
pub well_formed-pruned : (low : ℤ) (t u : SetTree) → IsPruned low t u → IsWellFormedTree t → IsWellFormedTree u
well_formed-pruned low _ _ (AtStart s) h = tt
well_formed-pruned low _ _ (Below p t u i) h = (well_formed-pruned low t u i h.0, sublist-all (ComesAfter p) (members u) (members t) (sublist-pruned low t u i) h.1)
well_formed-pruned low _ _ (Both l r a b i j) h = (
  well_formed-pruned low l a i h.0,
  well_formed-pruned low r b j h.1,
  record {
    ordered = rw (newest-pruned low l a i h.0, newest-pruned low r b j h.1) (h.2.ordered);
    distinct = sublist-without_repeats (members a ++ members b) (members l ++ members r) (sublist-append (members a) (members l) (members b) (members r) (sublist-pruned low l a i) (sublist-pruned low r b j)) h.2.distinct;
    shallow = let x = depth-pruned low l a i in let y = h.2.shallow in omega arith;
  },
)
well_formed-pruned low _ _ (LeftAlone l r a old i) h = well_formed-pruned low l a i h.0

-- a safe tree stays safe
flat_safe : (t : SetTree) → depth t ≡ 0 → IsSafe t
flat_safe (Start s) h = tt
flat_safe (Extended p t) h = tt
flat_safe (United l r) h = absurd (omega arith)

pub safe-pruned : (low : ℤ) (t u : SetTree) → IsPruned low t u → IsSafe t → IsSafe u
safe-pruned low _ _ (AtStart s) h = tt
safe-pruned low _ _ (Below p t u i) h = tt
safe-pruned low _ _ (Both l r a b i j) h = let x = depth-pruned low l a i in let y = depth-pruned low r b j in let d = h.1 in let e = h.0 in (omega arith, omega arith)
safe-pruned low _ _ (LeftAlone l r a old i) h = let x = depth-pruned low l a i in let e = h.0 in flat_safe a (omega arith)

-- no right child is too old
abbrev pub AreAllRecent : ℤ → SetTree → Type 0
AreAllRecent low (Start s) = Unit {0}
AreAllRecent low (Extended p t) = AreAllRecent low t
AreAllRecent low (United l r) = AreAllRecent low l × AreAllRecent low r × (low ≤ℤ (newest r).clock)

all_recent_step : (low : ℤ) (nodes : List Node) → ((id : ℕ) → id < length nodes → low ≤ℤ (newest (tree nodes id)).clock) → (id : ℕ) (n : Node) → slice_get nodes id ≡ Some n → HasTrueFields (tree nodes) id n → ((c : ℕ) → c < id → AreAllRecent low (tree nodes c)) → AreAllRecent low (grown (tree nodes) n)
all_recent_step low nodes all id (Bottom s) h t older = tt
all_recent_step low nodes all id (Output p c m k) h t older = older c t.0
all_recent_step low nodes all id (Union l r k m q) h t older = let within = slice_get_within nodes id (Union l r k m q) h in let less = t.1 in (older l t.0, older r t.1, all r (omega arith))

-- so it is where all nodes of a store are recent
pub all_recent_in : (low : ℤ) (nodes : List Node) → WellFormed nodes → ((id : ℕ) → id < length nodes → low ≤ℤ (newest (tree nodes id)).clock) → (id : ℕ) → id < length nodes → AreAllRecent low (tree nodes id)
all_recent_in low nodes w all = by_older nodes w (λ c t. AreAllRecent low t) (all_recent_step low nodes all)

-- then exactly the right children that are too old are gone
pub exactly-pruned : (low : ℤ) (t u : SetTree) → IsPruned low t u → IsWellFormedTree t → AreAllRecent low u → u ≡ pruned low t
exactly-pruned low _ _ (AtStart s) h f = refl
exactly-pruned low _ _ (Below p t u i) h f = ap (Extended p) (exactly-pruned low t u i h.0 f)
exactly-pruned low _ _ (Both l r a b i j) h f =
    let tops : newest b ≡ newest r = newest-pruned low r b j h.1 in
    let pass : le_z low (newest r).clock ≡ true = test_passes low (newest r).clock (subst (λ (s : Stamp). low ≤ℤ s.clock) tops f.2) in
    rw pass (ap (λ x. United x b) (exactly-pruned low l a i h.0 f.0) ∙ ap (United (pruned low l)) (exactly-pruned low r b j h.1 f.1))
exactly-pruned low _ _ (LeftAlone l r a old i) h f = let too : le_z low (newest r).clock ≡ false = old in rw too (exactly-pruned low l a i h.0 f)

-- and all members are recent
all_recent : (low : ℤ) (t : SetTree) → IsWellFormedTree t → AreAllRecent low t → low ≤ℤ (newest t).clock → recent low (members t) ≡ members t
all_recent low (Start s) h f le = rw (test_passes low s.clock le) refl
all_recent low (Extended p t) h f le = recent-with_position low p (members t) ∙ ap (map (with_position p)) (all_recent low t h.0 f le)
all_recent low (United l r) h f le =
    let left = all_recent low l h.0 f.0 (subst (λ (s : Stamp). low ≤ℤ s.clock) (newest-left l r h.2.ordered) le) in
    let right = all_recent low r h.1 f.1 f.2 in
    filter-append _ (members l) (members r) ∙ ap (λ ms. ms ++ recent low (members r)) left ∙ ap (λ ms. members l ++ ms) right

-- so what is left is exactly the recent members, in order
pub members-pruned : (nodes : List Node) → AreInStep nodes → (low : ℤ) (t u : SetTree) → IsPruned low t u → IsRooted nodes t → IsWellFormedTree t → AreAllRecent low u → low ≤ℤ (newest t).clock → members u ≡ recent low (members t)
members-pruned nodes step low t u i rooted h f le =
    sym (all_recent low u (well_formed-pruned low t u i h) f (subst (λ (s : Stamp). low ≤ℤ s.clock) (sym (newest-pruned low t u i h)) le))
    ∙ recent-pruned nodes step low low (omega (arith, ints)) t u i rooted
