-- What a union list is after its nodes are pruned and its older entries are gone.
use Rattle.std.proofs.Common.{◌≡◌, ℕ, zero, suc, ◌<◌, ◌≤◌, ℤ, List, [], ◌∷◌, ◌++◌, length, map, take, drop, refl, sym, ap, subst, ◌∙◌, All, arith, true, false}
use Rattle.std.specs.Prelude.{int_le, filter, ◌≤ℤ◌}
use Rattle.std.specs.Int.Signed.{le_z}
use Rattle.std.specs.List.{flat_map}
use Rattle.std.proofs.lemmas.Bool.{false_from_ne_true}
use Rattle.std.proofs.lemmas.Int.{ints}
use Rattle.std.proofs.lemmas.List.Elements.{All-nil, All-cons, All-head, All-tail}
use Rattle.cer_base.specs.declared.node.Stamp.{Stamp}
use Rattle.cer_base.specs.declared.node.Root.{Root}
use Rattle.cer_base.specs.declared.node.Node.{Node}
use Rattle.cer_base.specs.Members.{SetTree, members, IsWellFormedTree, IsSafe}
use Rattle.cer_base.specs.Nodes.{tree, WellFormed, IsRoot}
use Rattle.cer_base.proofs.Walks.{is_rooted, newest_is_rooted, test_passes, test_tells}
use Rattle.union_lists.specs.Lists.{IsFalling, top, IsHeaded, trees, IsUnionList}
use Rattle.arena_compact.specs.Pruned.{IsPruned, ArePruned}
use Rattle.arena_compact.specs.Roots.{AreOlder}
use Rattle.arena_compact.proofs.Pruned.{newest-pruned, depth-pruned, safe-pruned, IsSublist, sublist-append, sublist-pruned, sublist_nil, sublist-without_repeats}

-- the first trees of a list, pruned
members_less : (low : ℤ) (ts : List SetTree) (k : ℕ) (us : List SetTree) → ArePruned low (take k ts) us → IsSublist (flat_map members us) (flat_map members ts)
members_less low [] zero [] p = refl
members_less low [] zero (u ∷ us) p = absurd p
members_less low [] (suc k) [] p = refl
members_less low [] (suc k) (u ∷ us) p = absurd p
members_less low (t ∷ ts) zero [] p = sublist_nil (members t ++ flat_map members ts)
members_less low (t ∷ ts) zero (u ∷ us) p = absurd p
members_less low (t ∷ ts) (suc k) [] p = absurd p
members_less low (t ∷ ts) (suc k) (u ∷ us) p = sublist-append (members u) (members t) (flat_map members us) (flat_map members ts) (sublist-pruned low t u p.0) (members_less low ts k us p.1)

safe_less : (low : ℤ) (ts : List SetTree) (k : ℕ) (us : List SetTree) → ArePruned low (take k ts) us → All IsSafe ts → All IsSafe us
safe_less low [] zero [] p h = All-nil IsSafe
safe_less low [] zero (u ∷ us) p h = absurd p
safe_less low [] (suc k) [] p h = All-nil IsSafe
safe_less low [] (suc k) (u ∷ us) p h = absurd p
safe_less low (t ∷ ts) zero [] p h = All-nil IsSafe
safe_less low (t ∷ ts) zero (u ∷ us) p h = absurd p
safe_less low (t ∷ ts) (suc k) [] p h = absurd p
safe_less low (t ∷ ts) (suc k) (u ∷ us) p h = All-cons IsSafe u us (safe-pruned low t u p.0 (All-head IsSafe t ts h)) (safe_less low ts k us p.1 (All-tail IsSafe t ts h))

below_less : (low : ℤ) (n : ℕ) (ts : List SetTree) (k : ℕ) (us : List SetTree) → ArePruned low (take k ts) us → All IsWellFormedTree ts → All (λ u. top u ≤ n) ts → All (λ u. top u ≤ n) us
below_less low n [] zero [] p w h = All-nil (λ (x : SetTree). top x ≤ n)
below_less low n [] zero (u ∷ us) p w h = absurd p
below_less low n [] (suc k) [] p w h = All-nil (λ (x : SetTree). top x ≤ n)
below_less low n [] (suc k) (u ∷ us) p w h = absurd p
below_less low n (t ∷ ts) zero [] p w h = All-nil (λ (x : SetTree). top x ≤ n)
below_less low n (t ∷ ts) zero (u ∷ us) p w h = absurd p
below_less low n (t ∷ ts) (suc k) [] p w h = absurd p
below_less low n (t ∷ ts) (suc k) (u ∷ us) p w h =
    All-cons (λ (x : SetTree). top x ≤ n) u us
    (subst (λ (s : Stamp). s.pos ≤ n) (sym (newest-pruned low t u p.0 (All-head IsWellFormedTree t ts w))) (All-head (λ (x : SetTree). top x ≤ n) t ts h))
    (below_less low n ts k us p.1 (All-tail IsWellFormedTree t ts w) (All-tail (λ (x : SetTree). top x ≤ n) t ts h))

tops_less : (low : ℤ) (ts : List SetTree) (k : ℕ) (us : List SetTree) → ArePruned low (take k ts) us → All IsWellFormedTree ts → map top us ≡ take k (map top ts)
tops_less low [] zero [] p w = refl
tops_less low [] zero (u ∷ us) p w = absurd p
tops_less low [] (suc k) [] p w = refl
tops_less low [] (suc k) (u ∷ us) p w = absurd p
tops_less low (t ∷ ts) zero [] p w = refl
tops_less low (t ∷ ts) zero (u ∷ us) p w = absurd p
tops_less low (t ∷ ts) (suc k) [] p w = absurd p
tops_less low (t ∷ ts) (suc k) (u ∷ us) p w = ap (λ (s : Stamp). s.pos ∷ map top us) (newest-pruned low t u p.0 (All-head IsWellFormedTree t ts w)) ∙ ap (λ ns. top t ∷ ns) (tops_less low ts k us p.1 (All-tail IsWellFormedTree t ts w))

all_take : (P : ℕ → Type 0) (ns : List ℕ) (k : ℕ) → All P ns → All P (take k ns)
all_take P [] zero h = All-nil P
all_take P [] (suc k) h = All-nil P
all_take P (n ∷ ns) zero h = All-nil P
all_take P (n ∷ ns) (suc k) h = All-cons P n (take k ns) (All-head P n ns h) (all_take P ns k (All-tail P n ns h))

falls_take : (ns : List ℕ) (k : ℕ) → IsFalling ns → IsFalling (take k ns)
falls_take [] zero h = tt
falls_take [] (suc k) h = tt
falls_take (n ∷ ns) zero h = tt
falls_take (n ∷ ns) (suc k) h = (all_take (λ y. y < n) ns k h.0, falls_take ns k h.1)

-- they are a list
pub headed_less : (low : ℤ) (t u : SetTree) (ts : List SetTree) (k : ℕ) (us : List SetTree) → IsPruned low t u → ArePruned low (take k ts) us → IsWellFormedTree t → All IsWellFormedTree ts → IsHeaded t ts → IsHeaded u us
headed_less low t u ts k us one p wt w h = record {
  flat = let d = depth-pruned low t u one in let flat = h.flat in omega arith;
  safe = safe_less low ts k us p h.safe;
  below = subst (λ (s : Stamp). All (λ x. top x ≤ s.pos) us) (sym (newest-pruned low t u one wt)) (below_less low (top t) ts k us p w h.below);
  falls = subst IsFalling (sym (tops_less low ts k us p w)) (falls_take (map top ts) k h.falls);
  distinct = sublist-without_repeats (members u ++ flat_map members us) (members t ++ flat_map members ts) (sublist-append (members u) (members t) (flat_map members us) (flat_map members ts) (sublist-pruned low t u one) (members_less low ts k us p)) h.distinct;
}

older_than : (nodes : List Node) → WellFormed nodes → (e f : Root) → IsRoot nodes e → IsRoot nodes f → f.max.pos ≤ e.max.pos → f.max.clock ≤ℤ e.max.clock
older_than nodes w e f re rf le =
    let ce = newest_is_rooted nodes (tree nodes e.id) (is_rooted nodes w e.id re.inside) in
    let cf = newest_is_rooted nodes (tree nodes f.id) (is_rooted nodes w f.id rf.inside) in
    let me = re.is_max in let mf = rf.is_max in
    w.in_step f.max e.max (rw mf cf) (rw me ce) le

all_older : (nodes : List Node) → WellFormed nodes → (e : Root) → IsRoot nodes e → (es : List Root) → All (IsRoot nodes) es → All (λ t. top t ≤ e.max.pos) (trees nodes es) → All (λ (f : Root). f.max.clock ≤ℤ e.max.clock) es
all_older nodes w e re [] r h = All-nil (λ (f : Root). f.max.clock ≤ℤ e.max.clock)
all_older nodes w e re (f ∷ es) r h =
    let rf = All-head (IsRoot nodes) f es r in
    let le : f.max.pos ≤ e.max.pos = subst (λ (s : Stamp). s.pos ≤ e.max.pos) (sym rf.is_max) (All-head (λ (t : SetTree). top t ≤ e.max.pos) (tree nodes f.id) (trees nodes es) h) in
    All-cons (λ (g : Root). g.max.clock ≤ℤ e.max.clock) f es (older_than nodes w e f re rf le) (all_older nodes w e re es (All-tail (IsRoot nodes) f es r) (All-tail (λ (t : SetTree). top t ≤ e.max.pos) (tree nodes f.id) (trees nodes es) h))

below_of : (n : ℕ) (ts : List SetTree) → All (λ y. y < n) (map top ts) → All (λ t. top t ≤ n) ts
below_of n [] h = All-nil (λ (t : SetTree). top t ≤ n)
below_of n (t ∷ ts) h = All-cons (λ (u : SetTree). top u ≤ n) t ts (let a = All-head (λ y. y < n) (top t) (map top ts) h in omega arith) (below_of n ts (All-tail (λ y. y < n) (top t) (map top ts) h))

falling_older : (nodes : List Node) → WellFormed nodes → (es : List Root) → All (IsRoot nodes) es → IsFalling (map top (trees nodes es)) → AreOlder es
falling_older nodes w [] r h = tt
falling_older nodes w (e ∷ es) r h =
    let re = All-head (IsRoot nodes) e es r in let rest = All-tail (IsRoot nodes) e es r in
    (all_older nodes w e re es rest (subst (λ (s : Stamp). All (λ t. top t ≤ s.pos) (trees nodes es)) (sym re.is_max) (below_of (top (tree nodes e.id)) (trees nodes es) h.0)), falling_older nodes w es rest h.1)

pub list_older : (nodes : List Node) → WellFormed nodes → (es : List Root) → IsUnionList nodes es → AreOlder es
list_older nodes w [] h = tt
list_older nodes w (e ∷ es) h =
    let re = All-head (IsRoot nodes) e es h.roots in let rest = All-tail (IsRoot nodes) e es h.roots in
    (all_older nodes w e re es rest (subst (λ (s : Stamp). All (λ t. top t ≤ s.pos) (trees nodes es)) (sym re.is_max) h.list.below), falling_older nodes w es rest h.list.falls)

-- so the recent entries are the first ones
pub none_later : (low : ℤ) (e : Root) (es : List Root) → le_z low e.max.clock ≡ false → All (λ f. f.max.clock ≤ℤ e.max.clock) es → filter (λ (f : Root). int_le low f.max.clock) es ≡ []
none_later low e [] old h = refl
none_later low e (f ∷ es) old h =
    let first = All-head (λ (g : Root). g.max.clock ≤ℤ e.max.clock) f es h in
    let older : le_z low f.max.clock ≡ false = false_from_ne_true (le_z low f.max.clock) (λ pass. let passes : le_z low e.max.clock ≡ true = test_passes low e.max.clock (let a = test_tells low f.max.clock pass in omega (arith, ints)) in cc) in
    rw older (none_later low e es old (All-tail (λ (g : Root). g.max.clock ≤ℤ e.max.clock) f es h))

-- The first k entries are recent, and the next one, if any, is not.
pub record IsEnd (low : ℤ) (es : List Root) (k : ℕ) : Type 0 where
  pub upto : k ≤ length es
  pub recent : All (λ e. int_le low e.max.clock ≡ true) (take k es)
  pub old : All (λ e. int_le low e.max.clock ≡ false) (take 1 (drop k es))

pub recent_first : (low : ℤ) (es : List Root) (k : ℕ) → AreOlder es → IsEnd low es k → filter (λ (e : Root). int_le low e.max.clock) es ≡ take k es
recent_first low [] zero h end = refl
recent_first low [] (suc k) h end = refl
recent_first low (e ∷ es) zero h end = let old = All-head (λ (f : Root). int_le low f.max.clock ≡ false) e [] end.old in rw old (none_later low e es old h.0)
recent_first low (e ∷ es) (suc k) h end =
    let first = All-head (λ (f : Root). int_le low f.max.clock ≡ true) e (take k es) end.recent in
    rw first (ap (λ fs. e ∷ fs) (recent_first low es k h.1 (record { upto = (let u = end.upto in omega arith); recent = All-tail (λ (f : Root). int_le low f.max.clock ≡ true) e (take k es) end.recent; old = end.old })))
