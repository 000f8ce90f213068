-- Lists that stand for some events stand for them after a compaction too. For callers of the crate too.
use Rattle.std.proofs.Common.{◌≡◌, ℕ, ◌+◌, ◌<◌, ◌≤◌, ℤ, Bool, true, false, List, [], ◌∷◌, ◌++◌, length, map, refl, sym, ap, subst, ◌∙◌, inl, inr, arith, All}
use Rattle.std.specs.Prelude.{int_le, ◌≤ℤ◌, filter, Contains}
use Rattle.std.specs.Int.Signed.{le_z}
use Rattle.std.specs.List.{flat_map}
use Rattle.std.proofs.lemmas.Int.{ints}
use Rattle.std.proofs.lemmas.Bool.{cases_Bool}
use Rattle.std.proofs.lemmas.List.{length-map, get_or-map}
use Rattle.std.proofs.lemmas.List.Elements.{All-nil, All-cons, All-head, All-tail, All-map, All-weaker, All-filter, All-contains, All-contains_itself, Contains-append_left, Contains-append_right, Contains-push, filter-append}
use Rattle.cer_base.specs.declared.node.Stamp.{Stamp}
use Rattle.cer_base.specs.declared.node.Root.{Root}
use Rattle.cer_base.specs.declared.node.Node.{Node}
use Rattle.cer_base.specs.Repeats.{HasNoRepeats}
use Rattle.cer_base.specs.Members.{SetTree, Member, members, recent}
use Rattle.cer_base.specs.Nodes.{tree, WellFormed, IsRoot}
use Rattle.cer_base.proofs.Walks.{test_passes, test_tells, none_recent}
use Rattle.union_lists.specs.Lists.{trees, IsUnionList, members_of}
use Rattle.cea_determinise.specs.LazyDfa.{Table}
use Rattle.event_update.specs.Narrow.{Tops, IsOrdered, FitsIn, IsNarrow}
use Rattle.event_update.specs.Reach.{Seen, Has, all_of}
use Rattle.event_update.specs.Stands.{member_rows, tops_of, tops_rows, IsState, Stands}
use Rattle.arena_compact.specs.Roots.{recent_entries, kept_rows, with_row, AreOlder}
use Rattle.arena_compact.specs.Compacted.{ListCompacted, RowsCompacted, KeysCompacted}
use Rattle.arena_compact.specs.Pruned.{ArePruned}
use Rattle.arena_compact.proofs.Pruned.{IsSublist, sublist_nil, sublist-append, sublist-all, sublist-without_repeats, sublist-pruned}
use Rattle.arena_compact.proofs.Headed.{list_older, none_later}

-- what is in a part of a list that a test picks
filter_has : {A : Type 0} (p : A → Bool) (xs : List A) (x : A) → Contains (filter p xs) x → Contains xs x
filter_has p xs x has = All-contains (λ y. Contains xs y) (filter p xs) x (All-filter p (λ y. Contains xs y) xs (All-contains_itself xs)) has

all_picked : {A : Type 0} (p : A → Bool) (xs : List A) → All (λ y. p y ≡ true → Contains (filter p xs) y) xs
all_picked p [] = All-nil (λ y. p y ≡ true → Contains [] y)
all_picked p (x ∷ xs) = elim (cases_Bool (p x)) [
  | inl pass ↦ rw pass (All-cons (λ y. p y ≡ true → Contains (x ∷ filter p xs) y) x xs (λ t. Contains-append_left (x ∷ []) (filter p xs) x (Contains-push [] x)) (All-weaker (λ y. p y ≡ true → Contains (filter p xs) y) (λ y. p y ≡ true → Contains (x ∷ filter p xs) y) (λ y has t. Contains-append_right (x ∷ []) (filter p xs) y (has t)) xs (all_picked p xs)))
  | inr fail ↦ rw fail (All-cons (λ y. p y ≡ true → Contains (filter p xs) y) x xs (λ t. absurd (let e : true ≡ false = sym t ∙ fail in cc)) (all_picked p xs))
]

has_filter : {A : Type 0} (p : A → Bool) (xs : List A) (x : A) → p x ≡ true → Contains xs x → Contains (filter p xs) x
has_filter p xs x t has = All-contains (λ y. p y ≡ true → Contains (filter p xs) y) xs x (all_picked p xs) has t

sublist_has : {A : Type 0} (xs ys : List A) (x : A) → IsSublist xs ys → Contains xs x → Contains ys x
sublist_has xs ys x some has = All-contains (λ y. Contains ys y) xs x (sublist-all (λ y. Contains ys y) xs ys some (All-contains_itself ys)) has

pub all_of_map : {A B : Type 0} (P : B → Type 0) (f : A → B) (xs : List A) → All P (map f xs) → All (λ x. P (f x)) xs
all_of_map P f xs h = λ k d lt. subst P (get_or-map f xs k d (f d) lt) (h k (f d) (let n = length-map xs f in omega arith))

-- greatest starts of a list of which some later entries are gone
pub record TopsLess (t u : Tops) : Type 1 where
  pub head : u.head ≡ t.head
  pub rest : (P : ℕ → Type 0) → All P t.rest → All P u.rest

same_tops : (fs es : List Root) → map (λ (e : Root). e.max) fs ≡ map (λ (e : Root). e.max) es → map (λ (e : Root). e.max.pos) fs ≡ map (λ (e : Root). e.max.pos) es
same_tops [] [] e = refl
same_tops [] (y ∷ es) e = absurd cc
same_tops (x ∷ fs) [] e = absurd cc
same_tops (x ∷ fs) (y ∷ es) e =
    let first : x.max ≡ y.max = cc in
    let others : map (λ (r : Root). r.max) fs ≡ map (λ (r : Root). r.max) es = cc in
    ap (λ (s : Stamp). s.pos ∷ map (λ (r : Root). r.max.pos) fs) first ∙ ap (λ ns. y.max.pos ∷ ns) (same_tops fs es others)

tops_less : (low : ℤ) (es fs : List Root) → AreOlder es → 0 < length (recent_entries low es) → map (λ (e : Root). e.max) fs ≡ map (λ (e : Root). e.max) (recent_entries low es) → TopsLess (tops_of es) (tops_of fs)
tops_less low [] fs older some same = absurd (omega arith)
tops_less low (e ∷ es) fs older some same = elim (cases_Bool (le_z low e.max.clock)) [
  | inl pass ↦ first fs (same ∙ ap (map (λ (r : Root). r.max)) (let is : recent_entries low (e ∷ es) ≡ e ∷ recent_entries low es = rw pass refl in is))
  | inr fail ↦ absurd (let is : recent_entries low (e ∷ es) ≡ [] = rw fail (none_later low e es fail older.0) in let n = ap length is in omega arith)
] where
  first : (fs : List Root) → map (λ (r : Root). r.max) fs ≡ map (λ (r : Root). r.max) (e ∷ recent_entries low es) → TopsLess (tops_of (e ∷ es)) (tops_of fs)
  first [] is = absurd cc
  first (f ∷ fs) is =
      let top : f.max ≡ e.max = cc in
      let others : map (λ (r : Root). r.max) fs ≡ map (λ (r : Root). r.max) (recent_entries low es) = cc in
      record {
        head = ap (λ (s : Stamp). s.pos) top;
        rest = λ P h. subst (All P) (sym (same_tops fs (recent_entries low es) others)) (All-map P (λ (r : Root). r.max.pos) (recent_entries low es) (All-filter (λ (r : Root). int_le low r.max.clock) (λ (r : Root). P r.max.pos) es (all_of_map P (λ (r : Root). r.max.pos) es h)));
      }

same_flat : (f g : SetTree → List Member) (xs ys : List SetTree) → map f xs ≡ map g ys → flat_map f xs ≡ flat_map g ys
same_flat f g [] [] e = refl
same_flat f g [] (y ∷ ys) e = absurd cc
same_flat f g (x ∷ xs) [] e = absurd cc
same_flat f g (x ∷ xs) (y ∷ ys) e =
    let first : f x ≡ g y = cc in
    let others : map f xs ≡ map g ys = cc in
    ap (λ ms. ms ++ flat_map f xs) first ∙ ap (λ ms. g y ++ ms) (same_flat f g xs ys others)

-- the recent ones of the members of some trees
recent_all : (low : ℤ) (ts : List SetTree) → recent low (flat_map members ts) ≡ flat_map (λ t. recent low (members t)) ts
recent_all low [] = refl
recent_all low (t ∷ ts) = filter-append (λ (m : Member). int_le low m.start.clock) (members t) (flat_map members ts) ∙ ap (λ ms. recent low (members t) ++ ms) (recent_all low ts)

module _ (least low : ℤ) (old new : List Node) (w : WellFormed old) where
  -- an entry that is not recent has no recent member
  recent_members : (es : List Root) → All (IsRoot old) es → flat_map (λ t. recent low (members t)) (trees old (recent_entries low es)) ≡ recent low (members_of old es)
  recent_members [] r = refl
  recent_members (e ∷ es) r =
      let root = All-head (IsRoot old) e es r in let rest = recent_members es (All-tail (IsRoot old) e es r) in
      let mine = members (tree old e.id) in let all = filter-append (λ (m : Member). int_le low m.start.clock) mine (members_of old es) in
      elim (cases_Bool (le_z low e.max.clock)) [
        | inl pass ↦
            let is : recent_entries low (e ∷ es) ≡ e ∷ recent_entries low es = rw pass refl in
            ap (λ rs. flat_map (λ t. recent low (members t)) (trees old rs)) is ∙ ap (λ ms. recent low mine ++ ms) rest ∙ sym all
        | inr fail ↦
            let is : recent_entries low (e ∷ es) ≡ recent_entries low es = rw fail refl in
            let none : recent low mine ≡ [] = none_recent old w low e.id root.inside (ap (λ (s : Stamp). le_z low s.clock) (sym root.is_max) ∙ fail) in
            ap (λ rs. flat_map (λ t. recent low (members t)) (trees old rs)) is ∙ rest ∙ ap (λ ms. ms ++ recent low (members_of old es)) (sym none) ∙ sym all
      ]

  -- the members of recent entries, pruned, are some of all members, in order
  fewer_members : (es : List Root) (us : List SetTree) → ArePruned low (trees old (recent_entries low es)) us → IsSublist (flat_map members us) (members_of old es)
  fewer_members [] [] p = refl
  fewer_members [] (u ∷ us) p = absurd p
  fewer_members (e ∷ es) us p = elim (cases_Bool (le_z low e.max.clock)) [
    | inl pass ↦ first us (let is : recent_entries low (e ∷ es) ≡ e ∷ recent_entries low es = rw pass refl in subst (λ (rs : List Root). ArePruned low (trees old rs) us) is p) (λ vs q. fewer_members es vs q)
    | inr fail ↦
        let is : recent_entries low (e ∷ es) ≡ recent_entries low es = rw fail refl in
        sublist-append [] (members (tree old e.id)) (flat_map members us) (members_of old es) (sublist_nil (members (tree old e.id))) (fewer_members es us (subst (λ (rs : List Root). ArePruned low (trees old rs) us) is p))
  ] where
    first : (us : List SetTree) → ArePruned low (trees old (e ∷ recent_entries low es)) us → ((vs : List SetTree) → ArePruned low (trees old (recent_entries low es)) vs → IsSublist (flat_map members vs) (members_of old es)) → IsSublist (flat_map members us) (members_of old (e ∷ es))
    first [] p rec = absurd p
    first (u ∷ us) p rec = sublist-append (members u) (members (tree old e.id)) (flat_map members us) (members_of old es) (sublist-pruned low (tree old e.id) u p.0) (rec us p.1)

  -- Of the rows, some are gone that had no recent member; the others have all their recent members, and maybe some others that they had.
  pub data RowsLess : List (ℕ × List Root) → List (ℕ × List Root) → Type 1 where
    None : RowsLess [] []
    Gone : (r : ℕ × List Root) (rows moved : List (ℕ × List Root)) → recent low (members_of old r.1) ≡ [] → RowsLess rows moved → RowsLess (r ∷ rows) moved
    Kept : (r s : ℕ × List Root) (rows moved : List (ℕ × List Root)) → s.0 ≡ r.0 → recent low (members_of new s.1) ≡ recent low (members_of old r.1) → IsSublist (members_of new s.1) (members_of old r.1) → TopsLess (tops_of r.1) (tops_of s.1) → RowsLess rows moved → RowsLess (r ∷ rows) (s ∷ moved)

  rows_less : (rows moved : List (ℕ × List Root)) → All (λ (r : ℕ × List Root). IsUnionList old r.1) rows → RowsCompacted least low old new (kept_rows low rows) moved → RowsLess rows moved
  rows_less [] [] l c = None
  rows_less [] (s ∷ moved) l c = absurd c
  rows_less (r ∷ rows) moved l c = go (λ ms more. rows_less rows ms (All-tail (λ (x : ℕ × List Root). IsUnionList old x.1) r rows l) more) (recent_entries low r.1) refl moved c where
    go : ((ms : List (ℕ × List Root)) → RowsCompacted least low old new (kept_rows low rows) ms → RowsLess rows ms) → (es : List Root) → es ≡ recent_entries low r.1 → (moved : List (ℕ × List Root)) → RowsCompacted least low old new (with_row r.0 es (kept_rows low rows)) moved → RowsLess (r ∷ rows) moved
    go rec [] is moved c =
        let list = All-head (λ (x : ℕ × List Root). IsUnionList old x.1) r rows l in
        Gone r rows moved (sym (recent_members r.1 list.roots) ∙ ap (λ rs. flat_map (λ t. recent low (members t)) (trees old rs)) (sym is)) (rec moved c)
    go rec (e ∷ es) is [] c = absurd c
    go rec (e ∷ es) is (s ∷ moved) c =
        let list = All-head (λ (x : ℕ × List Root). IsUnionList old x.1) r rows l in
        let mine : ListCompacted least low old new (recent_entries low r.1) s.1 = subst (λ (xs : List Root). ListCompacted least low old new xs s.1) is c.1 in
        Kept r s rows moved c.0
        (recent_all low (trees new s.1) ∙ same_flat (λ t. recent low (members t)) (λ t. recent low (members t)) (trees new s.1) (trees old (recent_entries low r.1)) mine.recent_members ∙ recent_members r.1 list.roots)
        (fewer_members r.1 (trees new s.1) mine.pruned_trees)
        (tops_less low r.1 s.1 (list_older old w r.1 list) (let n = ap length is in omega arith) mine.same_max)
        (rec moved c.2)

  -- a member is in the list of a state where it was, and a recent one that was there still is
  had : (n : ℕ) (m : Member) (rows moved : List (ℕ × List Root)) → RowsLess rows moved → Has (member_rows new moved) n m → Has (member_rows old rows) n m
  had n m _ _ None h = h
  had n m _ _ (Gone r rows moved none less) h = inr (had n m rows moved less h)
  had n m _ _ (Kept r s rows moved state same some tops less) h = elim h [
    | inl here ↦ inl (sym state ∙ here.0, sublist_has (members_of new s.1) (members_of old r.1) m some here.1)
    | inr there ↦ inr (had n m rows moved less there)
  ]

  has : (n : ℕ) (m : Member) → int_le low m.start.clock ≡ true → (rows moved : List (ℕ × List Root)) → RowsLess rows moved → Has (member_rows old rows) n m → Has (member_rows new moved) n m
  has n m late _ _ None h = h
  has n m late _ _ (Gone r rows moved none less) h = elim h [
    | inl here ↦ absurd (let x = subst (λ (ms : List Member). Contains ms m) none (has_filter (λ (y : Member). int_le low y.start.clock) (members_of old r.1) m late here.1) in let lt = x.1 in omega arith)
    | inr there ↦ has n m late rows moved less there
  ]
  has n m late _ _ (Kept r s rows moved state same some tops less) h = elim h [
    | inl here ↦ inl (state ∙ here.0, filter_has (λ (y : Member). int_le low y.start.clock) (members_of new s.1) m (subst (λ (ms : List Member). Contains ms m) (sym same) (has_filter (λ (y : Member). int_le low y.start.clock) (members_of old r.1) m late here.1)))
    | inr there ↦ inr (has n m late rows moved less there)
  ]

  all_some : (rows moved : List (ℕ × List Root)) → RowsLess rows moved → IsSublist (all_of (member_rows new moved)) (all_of (member_rows old rows))
  all_some _ _ None = refl
  all_some _ _ (Gone r rows moved none less) = sublist-append [] (members_of old r.1) (all_of (member_rows new moved)) (all_of (member_rows old rows)) (sublist_nil (members_of old r.1)) (all_some rows moved less)
  all_some _ _ (Kept r s rows moved state same some tops less) = sublist-append (members_of new s.1) (members_of old r.1) (all_of (member_rows new moved)) (all_of (member_rows old rows)) some (all_some rows moved less)

  -- what holds of each row's state and greatest starts
  tops_all : (P : ℕ × Tops → Type 0) → ((x y : ℕ × Tops) → y.0 ≡ x.0 → TopsLess x.1 y.1 → P x → P y) → (rows moved : List (ℕ × List Root)) → RowsLess rows moved → All P (tops_rows rows) → All P (tops_rows moved)
  tops_all P step _ _ None h = h
  tops_all P step _ _ (Gone r rows moved none less) h = tops_all P step rows moved less (All-tail P (r.0, tops_of r.1) (tops_rows rows) h)
  tops_all P step _ _ (Kept r s rows moved state same some tops less) h = All-cons P (s.0, tops_of s.1) (tops_rows moved) (step (r.0, tops_of r.1) (s.0, tops_of s.1) state tops (All-head P (r.0, tops_of r.1) (tops_rows rows) h)) (tops_all P step rows moved less (All-tail P (r.0, tops_of r.1) (tops_rows rows) h))

  ordered : (rows moved : List (ℕ × List Root)) → RowsLess rows moved → IsOrdered (tops_rows rows) → IsOrdered (tops_rows moved)
  ordered _ _ None h = h
  ordered _ _ (Gone r rows moved none less) h = ordered rows moved less h.1
  ordered _ _ (Kept r s rows moved state same some tops less) h = (
    subst (λ (n : ℕ). All (λ (x : ℕ × Tops). x.1.head ≤ n) (tops_rows moved)) (sym tops.head) (tops_all (λ (x : ℕ × Tops). x.1.head ≤ (tops_of r.1).head) (λ x y state' less' le. let e = less'.head in omega arith) rows moved less h.0),
    ordered rows moved less h.1,
  )

  narrow : (bound : ℕ) (rows moved : List (ℕ × List Root)) → RowsLess rows moved → IsNarrow bound (tops_rows rows) → IsNarrow bound (tops_rows moved)
  narrow bound rows moved less h = record {
    values = h.values;
    few = h.few;
    fits = tops_all (λ (x : ℕ × Tops). FitsIn h.values x.1) (λ x y state tops fits. record {
      rest = subst (λ (n : ℕ). All (λ v. Contains (h.values n) v) y.1.rest) (sym tops.head) (tops.rest (λ v. Contains (h.values x.1.head) v) fits.rest);
      head = λ m le. subst (λ (n : ℕ). Contains (h.values m) n) (sym tops.head) (fits.head m (let e = tops.head in omega arith));
    }) rows moved less h.fits;
  }

  rows_state : (P : ℕ → Type 0) (rows moved : List (ℕ × List Root)) → RowsLess rows moved → All (λ (r : ℕ × List Root). P r.0) rows → All (λ (r : ℕ × List Root). P r.0) moved
  rows_state P _ _ None h = h
  rows_state P _ _ (Gone r rows moved none less) h = rows_state P rows moved less (All-tail (λ (x : ℕ × List Root). P x.0) r rows h)
  rows_state P _ _ (Kept r s rows moved state same some tops less) h = All-cons (λ (x : ℕ × List Root). P x.0) s moved (subst P (sym state) (All-head (λ (x : ℕ × List Root). P x.0) r rows h)) (rows_state P rows moved less (All-tail (λ (x : ℕ × List Root). P x.0) r rows h))

  -- each list is a list again
  pub rows_lists : (rows moved : List (ℕ × List Root)) → RowsCompacted least low old new rows moved → All (λ (r : ℕ × List Root). IsUnionList new r.1) moved
  rows_lists [] [] c = All-nil (λ (r : ℕ × List Root). IsUnionList new r.1)
  rows_lists [] (s ∷ moved) c = absurd c
  rows_lists (r ∷ rows) [] c = absurd c
  rows_lists (r ∷ rows) (s ∷ moved) c = All-cons (λ (x : ℕ × List Root). IsUnionList new x.1) s moved c.1.list (rows_lists rows moved c.2)

  pub keys_lists : (keys moved : List (List (ℕ × List Root))) → KeysCompacted least low old new keys moved → All (λ (rows : List (ℕ × List Root)). All (λ (r : ℕ × List Root). IsUnionList new r.1) rows) moved
  keys_lists [] [] c = All-nil (λ (rows : List (ℕ × List Root)). All (λ (r : ℕ × List Root). IsUnionList new r.1) rows)
  keys_lists [] (ms ∷ moved) c = absurd c
  keys_lists (rows ∷ keys) [] c = absurd c
  keys_lists (rows ∷ keys) (ms ∷ moved) c = All-cons (λ (rs : List (ℕ × List Root)). All (λ (r : ℕ × List Root). IsUnionList new r.1) rs) ms moved (rows_lists (kept_rows low rows) ms c.0) (keys_lists keys moved c.1)

  pub still_stand : (t : Table) (from : ℤ) (xs : List Seen) (rows moved : List (ℕ × List Root)) → low ≤ℤ from → Stands t from xs old rows → RowsCompacted least low old new (kept_rows low rows) moved → Stands t from xs new moved
  still_stand t from xs rows moved le h c =
      let less = rows_less rows moved h.lists c in record {
        sound = λ n m inside. h.sound n m (had n m rows moved less inside);
        complete = λ s m reaches late.
            let there = h.complete s m reaches late in
            let starts = test_tells from m.start.clock late in
            (there.0, there.1, has there.0 m (test_passes low m.start.clock (omega (arith, ints))) rows moved less there.2);
        distinct = sublist-without_repeats (all_of (member_rows new moved)) (all_of (member_rows old rows)) (all_some rows moved less) h.distinct;
        lists = rows_lists (kept_rows low rows) moved c;
        states = rows_state (IsState t) rows moved less h.states;
        ordered = ordered rows moved less h.ordered;
        narrow = narrow (length t.states + 1) rows moved less h.narrow;
      }
