-- What holds of the rows holds of the recent ones, and what stands from the low clock on stands without the others.
use Rattle.std.proofs.Common.{◌≡◌, ℕ, suc, ◌+◌, ◌≤◌, ℤ, Bool, true, false, cond, List, [], ◌∷◌, ◌++◌, map, length, take, refl, sym, ap, subst, ◌∙◌, inl, inr, All, Contains, arith, append_assoc}
use Rattle.std.specs.Prelude.{◌≤ℤ◌, int_le}
use Rattle.std.specs.List.{filter}
use Rattle.std.specs.Int.Signed.{le_z}
use Rattle.std.proofs.lemmas.Int.{ints}
use Rattle.std.proofs.lemmas.Bool.{cases_Bool, true≢false}
use Rattle.std.proofs.lemmas.List.{append-nil}
use Rattle.std.proofs.lemmas.List.Elements.{All-nil, All-cons, All-head, All-tail, All-append, All-contains, All-filter, filter-append}
use Rattle.cer_base.specs.declared.node.Stamp.{Stamp}
use Rattle.cer_base.specs.declared.node.Root.{Root}
use Rattle.cer_base.specs.declared.node.Node.{Node}
use Rattle.cer_base.specs.declared.node.Node.TheVariants.{Bottom}
use Rattle.cer_base.specs.Repeats.{HasNoRepeats}
use Rattle.cer_base.specs.Members.{SetTree, Member, members, recent}
use Rattle.cer_base.specs.Nodes.{tree, IsRoot, WellFormed}
use Rattle.cer_base.proofs.Walks.{test_passes, test_tells, newest_is_rooted, is_rooted, too_old}
use Rattle.cea_determinise.specs.declared.table.Successors.{Successors}
use Rattle.cea_determinise.specs.LazyDfa.{Table}
use Rattle.union_lists.specs.Lists.{top, trees, members_of, IsUnionList}
use Rattle.event_update.specs.declared.Staged.{Staged}
use Rattle.event_update.specs.declared.Staged.TheVariants.{Unchanged, Moved, Changed}
use Rattle.event_update.specs.Narrow.{Tops, IsOrdered, FitsIn, IsNarrow}
use Rattle.event_update.specs.Reach.{Seen, Has, all_of}
use Rattle.event_update.specs.Recent.{is_recent, recent_rows, going_on}
use Rattle.event_update.specs.Stands.{IsBefore, member_rows, tops_of, tops_rows, IsState, Stands, CanAdvance}
use Rattle.event_update.specs.Update.{AreCached, CanBuild}
use Rattle.event_update.proofs.Distinct.{without}
use Rattle.event_update.proofs.Placed.{all_front, all_back}
use Rattle.event_update.proofs.RowSplits.{SplitsAt, front_is, one_more}

-- what holds of all rows and of the recent ones holds of those that go on
pub on_going : (low : ℤ) (rows : List (ℕ × List Root)) (P : List (ℕ × List Root) → Type 0) → P rows → P (recent_rows low rows) → (s : Staged) → P (going_on low rows s)
on_going low rows P all some Unchanged = all
on_going low rows P all some (Moved states) = all
on_going low rows P all some (Changed new) = some

-- a list that is not recent has no member from the low clock on

none_passes : {X : Type 0} (p : X → Bool) (xs : List X) → filter p xs ≡ [] → All (λ x. p x ≡ false) xs
none_passes p [] e = All-nil (λ x. p x ≡ false)
none_passes p (x ∷ xs) e = elim (cases_Bool (p x)) [
  | inl pass ↦ absurd (let some : x ∷ filter p xs ≡ [] = sym (ap (λ b. cond b (x ∷ filter p xs) (filter p xs)) pass) ∙ e in cc)
  | inr fail ↦ All-cons (λ y. p y ≡ false) x xs fail (none_passes p xs (sym (ap (λ b. cond b (x ∷ filter p xs) (filter p xs)) fail) ∙ e))
]

all_old : (nodes : List Node) → WellFormed nodes → (low : ℤ) (e : Root) → IsRoot nodes e → le_z low e.max.clock ≡ false → (es : List Root) → All (IsRoot nodes) es → All (λ t. top t ≤ e.max.pos) (trees nodes es) → recent low (members_of nodes es) ≡ []
all_old nodes w low e re old [] roots below = refl
all_old nodes w low e re old (f ∷ es) roots below =
    let rf = All-head (IsRoot nodes) f es roots in
    let first : Contains nodes (Bottom e.max) = subst (λ (s : Stamp). Contains nodes (Bottom s)) (sym re.is_max) (newest_is_rooted nodes (tree nodes e.id) (is_rooted nodes w e.id re.inside)) in
    let le = All-head (λ (t : SetTree). top t ≤ e.max.pos) (tree nodes f.id) (trees nodes es) below in
    let here = too_old nodes low e.max w.in_step first old (tree nodes f.id) (is_rooted nodes w f.id rf.inside) le in
    let rest = all_old nodes w low e re old es (All-tail (IsRoot nodes) f es roots) (All-tail (λ (t : SetTree). top t ≤ e.max.pos) (tree nodes f.id) (trees nodes es) below) in
    filter-append (λ (m : Member). int_le low m.start.clock) (members (tree nodes f.id)) (members_of nodes es) ∙ ap (λ ms. ms ++ recent low (members_of nodes es)) here ∙ rest

none_of_old : (nodes : List Node) → WellFormed nodes → (low : ℤ) (l : List Root) → IsUnionList nodes l → is_recent low l ≡ false → recent low (members_of nodes l) ≡ []
none_of_old nodes w low [] is old = absurd is.list
none_of_old nodes w low (e ∷ es) is old =
    let re = All-head (IsRoot nodes) e es is.roots in
    let below = subst (λ (s : Stamp). All (λ t. top t ≤ s.pos) (trees nodes es)) (sym re.is_max) is.list.below in
    let own = ap (λ (s : Stamp). s.pos) re.is_max in
    all_old nodes w low e re old (e ∷ es) is.roots (All-cons (λ t. top t ≤ e.max.pos) (tree nodes e.id) (trees nodes es) (omega arith) below)

old_has_none : (nodes : List Node) → WellFormed nodes → (low from : ℤ) → low ≤ℤ from → (l : List Root) → IsUnionList nodes l → is_recent low l ≡ false → (m : Member) → Contains (members_of nodes l) m → int_le from m.start.clock ≡ true → ⊥
old_has_none nodes w low from le l is old m has passes =
    let fails : le_z low m.start.clock ≡ false = All-contains (λ (x : Member). int_le low x.start.clock ≡ false) (members_of nodes l) m (none_passes (λ (x : Member). int_le low x.start.clock) (members_of nodes l) (none_of_old nodes w low l is old)) has in
    true≢false (sym (test_passes low m.start.clock (let a = test_tells from m.start.clock passes in omega (arith, ints))) ∙ fails)

-- the recent rows

pub has_recent : (nodes : List Node) → WellFormed nodes → (low from : ℤ) → low ≤ℤ from → (rows : List (ℕ × List Root)) → All (λ (r : ℕ × List Root). IsUnionList nodes r.1) rows → (n : ℕ) (m : Member) → int_le from m.start.clock ≡ true → Has (member_rows nodes rows) n m → Has (member_rows nodes (recent_rows low rows)) n m
has_recent nodes w low from le [] lists n m passes has = has
has_recent nodes w low from le (r ∷ rows) lists n m passes has =
    let rest = has_recent nodes w low from le rows (All-tail (λ (q : ℕ × List Root). IsUnionList nodes q.1) r rows lists) n m passes in
    elim (cases_Bool (is_recent low r.1)) [
      | inl is ↦ rw is (elim has [ inl at ↦ inl at | inr later ↦ inr (rest later) ])
      | inr not ↦ rw not (elim has [ inl at ↦ absurd (old_has_none nodes w low from le r.1 (All-head (λ (q : ℕ × List Root). IsUnionList nodes q.1) r rows lists) not m at.1 passes) | inr later ↦ rest later ])
    ]

has_before : (nodes : List Node) (low : ℤ) (rows : List (ℕ × List Root)) (n : ℕ) (m : Member) → Has (member_rows nodes (recent_rows low rows)) n m → Has (member_rows nodes rows) n m
has_before nodes low [] n m has = has
has_before nodes low (r ∷ rows) n m has = elim (cases_Bool (is_recent low r.1)) [
  | inl is ↦ elim (subst (λ b. Has (member_rows nodes (cond b (r ∷ recent_rows low rows) (recent_rows low rows))) n m) is has) [ inl at ↦ inl at | inr later ↦ inr (has_before nodes low rows n m later) ]
  | inr not ↦ inr (has_before nodes low rows n m (subst (λ b. Has (member_rows nodes (cond b (r ∷ recent_rows low rows) (recent_rows low rows))) n m) not has))
]

members_recent : (P : Member → Type 0) (nodes : List Node) (low : ℤ) (rows : List (ℕ × List Root)) → All P (all_of (member_rows nodes rows)) → All P (all_of (member_rows nodes (recent_rows low rows)))
members_recent P nodes low [] h = h
members_recent P nodes low (r ∷ rows) h =
    let rest = members_recent P nodes low rows (all_back P (members_of nodes r.1) (all_of (member_rows nodes rows)) h) in
    elim (cases_Bool (is_recent low r.1)) [ inl is ↦ rw is (All-append P (members_of nodes r.1) (all_of (member_rows nodes (recent_rows low rows))) (all_front P (members_of nodes r.1) (all_of (member_rows nodes rows)) h) rest) | inr not ↦ rw not rest ]

distinct_recent : (nodes : List Node) (low : ℤ) (front : List Member) (rows : List (ℕ × List Root)) → HasNoRepeats (front ++ all_of (member_rows nodes rows)) → HasNoRepeats (front ++ all_of (member_rows nodes (recent_rows low rows)))
distinct_recent nodes low front [] h = h
distinct_recent nodes low front (r ∷ rows) h =
    let ms = members_of nodes r.1 in
    elim (cases_Bool (is_recent low r.1)) [
      | inl is ↦ rw is (subst HasNoRepeats (append_assoc front ms (all_of (member_rows nodes (recent_rows low rows)))) (distinct_recent nodes low (front ++ ms) rows (subst HasNoRepeats (sym (append_assoc front ms (all_of (member_rows nodes rows)))) h)))
      | inr not ↦ rw not (distinct_recent nodes low front rows (without front ms (all_of (member_rows nodes rows)) h))
    ]

pub tops_recent : (P : ℕ × Tops → Type 0) (low : ℤ) (rows : List (ℕ × List Root)) → All P (tops_rows rows) → All P (tops_rows (recent_rows low rows))
tops_recent P low [] h = h
tops_recent P low (r ∷ rows) h =
    let rest = tops_recent P low rows (All-tail P (r.0, tops_of r.1) (tops_rows rows) h) in
    elim (cases_Bool (is_recent low r.1)) [ inl is ↦ rw is (All-cons P (r.0, tops_of r.1) (tops_rows (recent_rows low rows)) (All-head P (r.0, tops_of r.1) (tops_rows rows) h) rest) | inr not ↦ rw not rest ]

pub ordered_recent : (low : ℤ) (rows : List (ℕ × List Root)) → IsOrdered (tops_rows rows) → IsOrdered (tops_rows (recent_rows low rows))
ordered_recent low [] h = h
ordered_recent low (r ∷ rows) h =
    let rest = ordered_recent low rows h.1 in
    elim (cases_Bool (is_recent low r.1)) [ inl is ↦ rw is (tops_recent (λ (s : ℕ × Tops). s.1.head ≤ (tops_of r.1).head) low rows h.0, rest) | inr not ↦ rw not rest ]

pub narrow_recent : (bound : ℕ) (low : ℤ) (rows : List (ℕ × List Root)) → IsNarrow bound (tops_rows rows) → IsNarrow bound (tops_rows (recent_rows low rows))
narrow_recent bound low rows h = record { values = h.values; few = h.few; fits = tops_recent (λ (r : ℕ × Tops). FitsIn h.values r.1) low rows h.fits }

pub length_recent : (low : ℤ) (rows : List (ℕ × List Root)) → length (recent_rows low rows) ≤ length rows
length_recent low [] = omega arith
length_recent low (r ∷ rows) =
    let rest = length_recent low rows in
    elim (cases_Bool (is_recent low r.1)) [ inl is ↦ rw is (omega arith) | inr not ↦ rw not (omega arith) ]

pub cached_recent : (t : Table) (event_class : ℕ) (low : ℤ) (rows : List (ℕ × List Root)) (ss : List Successors) → AreCached t event_class (map (λ (r : ℕ × List Root). r.0) rows) ss → (some : List Successors) × AreCached t event_class (map (λ (r : ℕ × List Root). r.0) (recent_rows low rows)) some
cached_recent t event_class low [] ss h = (ss, h)
cached_recent t event_class low (r ∷ rows) [] h = absurd h
cached_recent t event_class low (r ∷ rows) (s ∷ ss) h =
    let rest = cached_recent t event_class low rows ss h.1 in
    elim (cases_Bool (is_recent low r.1)) [ inl is ↦ rw is (s ∷ rest.0, (h.0, rest.1)) | inr not ↦ rw not rest ]

pub build_recent : (stamp : Stamp) (nodes : List Node) (low : ℤ) (rows : List (ℕ × List Root)) → CanBuild stamp nodes rows → CanBuild stamp nodes (recent_rows low rows)
build_recent stamp nodes low rows can = record {
  store = can.store;
  before = members_recent (IsBefore stamp.pos) nodes low rows can.before;
  distinct = distinct_recent nodes low [] rows can.distinct;
  lists = All-filter (λ (r : ℕ × List Root). is_recent low r.1) (λ (r : ℕ × List Root). IsUnionList nodes r.1) rows can.lists;
  ordered = ordered_recent low rows can.ordered;
}

pub advance_recent : (t : Table) (stamp : Stamp) (nodes : List Node) (low : ℤ) (rows : List (ℕ × List Root)) → CanAdvance t stamp nodes rows → CanAdvance t stamp nodes (recent_rows low rows)
advance_recent t stamp nodes low rows can = record {
  before = members_recent (IsBefore stamp.pos) nodes low rows can.before;
  distinct = distinct_recent nodes low [] rows can.distinct;
  lists = All-filter (λ (r : ℕ × List Root). is_recent low r.1) (λ (r : ℕ × List Root). IsUnionList nodes r.1) rows can.lists;
  states = All-filter (λ (r : ℕ × List Root). is_recent low r.1) (λ (r : ℕ × List Root). IsState t r.0) rows can.states;
  ordered = ordered_recent low rows can.ordered;
  narrow = narrow_recent (length t.states + 1) low rows can.narrow;
}

-- What stands from a clock on that is not below the low one stands without the other rows.
pub stands_recent : (t : Table) (low from : ℤ) → low ≤ℤ from → (xs : List Seen) (nodes : List Node) → WellFormed nodes → (rows : List (ℕ × List Root)) → Stands t from xs nodes rows → Stands t from xs nodes (recent_rows low rows)
stands_recent t low from le xs nodes w rows st = record {
  sound = λ n m has. st.sound n m (has_before nodes low rows n m has);
  complete = λ q m reaches keeps. let s = st.complete q m reaches keeps in (s.0, s.1, has_recent nodes w low from le rows st.lists s.0 m keeps s.2);
  distinct = distinct_recent nodes low [] rows st.distinct;
  lists = All-filter (λ (r : ℕ × List Root). is_recent low r.1) (λ (r : ℕ × List Root). IsUnionList nodes r.1) rows st.lists;
  states = All-filter (λ (r : ℕ × List Root). is_recent low r.1) (λ (r : ℕ × List Root). IsState t r.0) rows st.states;
  ordered = ordered_recent low rows st.ordered;
  narrow = narrow_recent (length t.states + 1) low rows st.narrow;
}

-- One row more is gone through: a recent one is put last.

pub recent_more : (low : ℤ) (rows : List (ℕ × List Root)) (k : ℕ) (l : List Root) (s : SplitsAt rows k l) → is_recent low l ≡ true → recent_rows low (take (suc k) rows) ≡ recent_rows low (take k rows) ++ (s.number, l) ∷ []
recent_more low rows k l s is = ap (recent_rows low) (one_more rows k l s) ∙ filter-append (λ (r : ℕ × List Root). is_recent low r.1) (take k rows) ((s.number, l) ∷ []) ∙ ap (λ b. recent_rows low (take k rows) ++ cond b ((s.number, l) ∷ []) []) is

pub recent_same : (low : ℤ) (rows : List (ℕ × List Root)) (k : ℕ) (l : List Root) (s : SplitsAt rows k l) → is_recent low l ≡ false → recent_rows low (take (suc k) rows) ≡ recent_rows low (take k rows)
recent_same low rows k l s not = ap (recent_rows low) (one_more rows k l s) ∙ filter-append (λ (r : ℕ × List Root). is_recent low r.1) (take k rows) ((s.number, l) ∷ []) ∙ ap (λ b. recent_rows low (take k rows) ++ cond b ((s.number, l) ∷ []) []) not ∙ append-nil (recent_rows low (take k rows))

-- the recent rows around a recent one
pub recent_split : (low : ℤ) (rows : List (ℕ × List Root)) (k : ℕ) (l : List Root) (s : SplitsAt rows k l) → is_recent low l ≡ true → recent_rows low rows ≡ recent_rows low (take k rows) ++ (s.number, l) ∷ recent_rows low s.back
recent_split low rows k l s is =
    ap (recent_rows low) s.whole ∙ filter-append (λ (r : ℕ × List Root). is_recent low r.1) s.front ((s.number, l) ∷ s.back) ∙ ap (λ b. recent_rows low s.front ++ cond b ((s.number, l) ∷ recent_rows low s.back) (recent_rows low s.back)) is
    ∙ ap (λ (f : List (ℕ × List Root)). recent_rows low f ++ (s.number, l) ∷ recent_rows low s.back) (sym (front_is rows k l s))
