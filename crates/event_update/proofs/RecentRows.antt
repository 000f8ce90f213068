-- Where the last row's list is recent, each is: their greatest starts do not rise.
use Rattle.std.proofs.Common.{◌≡◌, ℕ, zero, suc, ◌+◌, ◌≤◌, ℤ, true, cond, List, [], ◌∷◌, map, length, Some, slice_get, refl, sym, ap, subst, ◌∙◌, All, Contains, arith}
use Rattle.std.specs.Prelude.{◌≤ℤ◌}
use Rattle.std.proofs.lemmas.Int.{ints}
use Rattle.std.proofs.lemmas.List.Elements.{All-head, All-tail}
use Rattle.cer_base.specs.declared.node.Stamp.{Stamp}
use Rattle.cer_base.specs.declared.node.Root.{Root}
use Rattle.cer_base.specs.declared.node.Node.{Node}
use Rattle.cer_base.specs.declared.node.Node.TheVariants.{Bottom}
use Rattle.cer_base.specs.Nodes.{tree, IsRoot, WellFormed}
use Rattle.cer_base.proofs.Walks.{test_passes, test_tells, newest_is_rooted, is_rooted}
use Rattle.union_lists.specs.Lists.{IsUnionList}
use Rattle.event_update.specs.Narrow.{Tops, IsOrdered}
use Rattle.event_update.specs.Recent.{is_recent, recent_rows}
use Rattle.event_update.specs.Stands.{tops_of, tops_rows}

-- a root's greatest start is one of the store
start_of : (nodes : List Node) → WellFormed nodes → (e : Root) → IsRoot nodes e → Contains nodes (Bottom e.max)
start_of nodes w e is = subst (λ (s : Stamp). Contains nodes (Bottom s)) (sym is.is_max) (newest_is_rooted nodes (tree nodes e.id) (is_rooted nodes w e.id is.inside))

-- a list whose greatest start does not come before a recent one's is recent
later_recent : (nodes : List Node) → WellFormed nodes → (low : ℤ) (l m : List Root) → IsUnionList nodes l → IsUnionList nodes m → (tops_of l).head ≤ (tops_of m).head → is_recent low l ≡ true → is_recent low m ≡ true
later_recent nodes w low [] m first second le is = absurd first.list
later_recent nodes w low (e ∷ es) [] first second le is = absurd second.list
later_recent nodes w low (e ∷ es) (f ∷ fs) first second le is =
    let here = start_of nodes w e (All-head (IsRoot nodes) e es first.roots) in
    let there = start_of nodes w f (All-head (IsRoot nodes) f fs second.roots) in
    let later : e.max.clock ≤ℤ f.max.clock = w.in_step e.max f.max here there le in
    test_passes low f.max.clock (let passes = test_tells low e.max.clock is in omega (arith, ints))

-- what holds of all lists holds of the one at a place
list_at : (P : List Root → Type 0) (rows : List (ℕ × List Root)) (k : ℕ) (l : List Root) → All (λ (r : ℕ × List Root). P r.1) rows → slice_get (map (λ (r : ℕ × List Root). r.1) rows) k ≡ Some l → P l
list_at P [] k l all at = absurd cc
list_at P (r ∷ rows) zero l all at = let same : r.1 ≡ l = cc in subst P same (All-head (λ (r : ℕ × List Root). P r.1) r rows all)
list_at P (r ∷ rows) (suc k) l all at = list_at P rows k l (All-tail (λ (r : ℕ × List Root). P r.1) r rows all) at

-- and what holds of all greatest starts
head_at : (bound : ℕ) (rows : List (ℕ × List Root)) (k : ℕ) (l : List Root) → All (λ (s : ℕ × Tops). s.1.head ≤ bound) (tops_rows rows) → slice_get (map (λ (r : ℕ × List Root). r.1) rows) k ≡ Some l → (tops_of l).head ≤ bound
head_at bound [] k l all at = absurd cc
head_at bound (r ∷ rows) zero l all at = let same : r.1 ≡ l = cc in subst (λ (m : List Root). (tops_of m).head ≤ bound) same (All-head (λ (s : ℕ × Tops). s.1.head ≤ bound) (r.0, tops_of r.1) (tops_rows rows) all)
head_at bound (r ∷ rows) (suc k) l all at = head_at bound rows k l (All-tail (λ (s : ℕ × Tops). s.1.head ≤ bound) (r.0, tops_of r.1) (tops_rows rows) all) at

-- rows at whose end a recent list stands are recent
pub all_recent : (nodes : List Node) → WellFormed nodes → (low : ℤ) (rows : List (ℕ × List Root)) (k : ℕ) (l : List Root) → All (λ (r : ℕ × List Root). IsUnionList nodes r.1) rows → IsOrdered (tops_rows rows) → slice_get (map (λ (r : ℕ × List Root). r.1) rows) k ≡ Some l → length rows ≡ k + 1 → is_recent low l ≡ true → recent_rows low rows ≡ rows
all_recent nodes w low [] k l lists ordered at last is = refl
all_recent nodes w low (r ∷ []) zero l lists ordered at last is =
    let same : l ≡ r.1 = cc in
    ap (λ b. cond b (r ∷ []) []) (subst (λ (m : List Root). is_recent low m ≡ true) same is)
all_recent nodes w low (r ∷ q ∷ rows) zero l lists ordered at last is = absurd (omega (arith, last))
all_recent nodes w low (r ∷ rows) (suc k) l lists ordered at last is =
    let behind = All-tail (λ (r : ℕ × List Root). IsUnionList nodes r.1) r rows lists in
    let own = list_at (IsUnionList nodes) rows k l behind at in
    let here = later_recent nodes w low l r.1 own (All-head (λ (r : ℕ × List Root). IsUnionList nodes r.1) r rows lists) (head_at (tops_of r.1).head rows k l ordered.0 at) is in
    ap (λ b. cond b (r ∷ recent_rows low rows) (recent_rows low rows)) here ∙ ap (λ (rs : List (ℕ × List Root)). r ∷ rs) (all_recent nodes w low rows k l behind ordered.1 at (omega arith) is)
