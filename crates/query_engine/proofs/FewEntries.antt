-- The lists of all keys have no more entries than there are nodes: each entry is of a node of its own.
use Rattle.std.proofs.Common.{◌≡◌, ℕ, suc, ◌<◌, ◌≤◌, inl, inr, Bool, List, [], ◌∷◌, ◌++◌, length, map, refl, sym, ap, subst, All, Contains, Some, slice_get, arith}
use Rattle.std.proofs.lemmas.List.{length-append, length-map}
use Rattle.std.proofs.lemmas.List.Elements.{All-head, All-tail, Contains-append_left, Contains-append_right}
use Rattle.std.proofs.lemmas.List.Sums.{sum_by-cons}
use Rattle.stream_schema.specs.Types.{Declared}
use Rattle.stream_schema.specs.declared.Event.{Event}
use Rattle.stream_schema.specs.declared.Value.{Value}
use Rattle.cel_terms.specs.declared.Query.{Query}
use Rattle.cer_base.specs.Repeats.{HasNoRepeats}
use Rattle.cer_base.specs.declared.node.Stamp.{Stamp}
use Rattle.cer_base.specs.declared.node.Root.{Root}
use Rattle.cer_base.specs.declared.node.Node.{Node}
use Rattle.cer_base.specs.Members.{SetTree, Start, Extended, United, Member, members, with_position}
use Rattle.cer_base.specs.Nodes.{tree, IsRoot}
use Rattle.cea_determinise.specs.Runs.{Automaton}
use Rattle.cea_determinise.specs.Strict.{Standing}
use Rattle.cea_determinise.specs.Cea.{automaton_of_cea}
use Rattle.union_lists.specs.Lists.{IsUnionList, members_of}
use Rattle.event_update.specs.Reach.{Seen, Reaches, Has, all_of}
use Rattle.event_update.specs.Stands.{member_rows}
use Rattle.event_update.specs.Update.{entries_in}
use Rattle.arena_compact.specs.Roots.{ids_of, places}
use Rattle.query_standing.specs.Keys.{positions, HasKeyAt}
use Rattle.query_standing.specs.Kept.{Rows, QueryState, KeyIsKept, QueryStateStands}
use Rattle.query_standing.proofs.Lists.{here, there, cons_cases, append_cases, none_in_nil, no_repeats_front}
use Rattle.query_standing.proofs.Link.{positions_append}
use Rattle.query_engine.proofs.Finite.{few}
use Rattle.query_engine.proofs.FewPlaces.{one_key, below, below_length, is_below}

-- LISTS WITHOUT REPEATS

pub in_both : {A : Type 0} (xs ys : List A) (a : A) → HasNoRepeats (xs ++ ys) → Contains xs a → Contains ys a → ⊥
in_both [] ys a h x y = none_in_nil a x
in_both {A} (b ∷ xs) ys a h x y = elim (cons_cases b a xs x) [
  | inl e ↦ h.0 (Contains-append_right xs ys b (subst (Contains ys) (sym e) y))
  | inr l ↦ in_both xs ys a h.1 l y
]

no_repeats_back : {A : Type 0} (xs ys : List A) → HasNoRepeats (xs ++ ys) → HasNoRepeats ys
no_repeats_back [] ys h = h
no_repeats_back (x ∷ xs) ys h = no_repeats_back xs ys h.1

pub joined : {A : Type 0} (xs ys : List A) → HasNoRepeats xs → HasNoRepeats ys → ((a : A) → Contains xs a → Contains ys a → ⊥) → HasNoRepeats (xs ++ ys)
joined [] ys h g d = g
joined (x ∷ xs) ys h g d = (
  λ has. elim (append_cases xs ys x has) [ inl l ↦ h.0 l | inr r ↦ d x (here x xs) r ],
  joined xs ys h.1 g (λ a l r. d a (there x a xs l) r),
)

-- THE NODES OF A KEY'S LISTS

-- each node has a member
first_member : (t : SetTree) → (m : Member) × (rest : List Member) × (members t ≡ m ∷ rest)
first_member (Start s) = (record { start = s; positions = [] }, [], refl)
first_member (Extended p t) = let r = first_member t in (with_position p r.0, map (with_position p) r.1, ap (map (with_position p)) r.2)
first_member (United l r) = let f = first_member l in (f.0, f.1 ++ members r, ap (λ ms. ms ++ members r) f.2)

has_first : (t : SetTree) → Contains (members t) (first_member t).0
has_first t = let f = first_member t in subst (λ ms. Contains ms f.0) (sym f.2) (here f.0 f.1)

-- what a node of a list has, the list has
of_list : (nodes : List Node) (es : List Root) (id : ℕ) (m : Member) → Contains (ids_of es) id → Contains (members (tree nodes id)) m → Contains (members_of nodes es) m
of_list nodes [] id m has is = absurd (none_in_nil id has)
of_list nodes (e ∷ es) id m has is = elim (cons_cases e.id id (ids_of es) has) [
  | inl same ↦ Contains-append_left (members (tree nodes e.id)) (members_of nodes es) m (subst (λ i. Contains (members (tree nodes i)) m) (sym same) is)
  | inr later ↦ Contains-append_right (members (tree nodes e.id)) (members_of nodes es) m (of_list nodes es id m later is)
]

list_apart : (nodes : List Node) (es : List Root) → HasNoRepeats (members_of nodes es) → HasNoRepeats (ids_of es)
list_apart nodes [] d = tt
list_apart nodes (e ∷ es) d =
    let t = tree nodes e.id in (
      λ has. in_both (members t) (members_of nodes es) (first_member t).0 d (has_first t) (of_list nodes es e.id (first_member t).0 has (has_first t)),
      list_apart nodes es (no_repeats_back (members t) (members_of nodes es) d),
    )

-- the nodes of a key's lists, and of all keys' lists
unfoldable pub row_ids : Rows → List ℕ
row_ids [] = []
row_ids (r ∷ rows) = ids_of r.1 ++ row_ids rows

all_ids : List Rows → List ℕ
all_ids [] = []
all_ids (rows ∷ more) = row_ids rows ++ all_ids more

pub of_rows : (nodes : List Node) (rows : Rows) (id : ℕ) (m : Member) → Contains (row_ids rows) id → Contains (members (tree nodes id)) m → (n : ℕ) × Has (member_rows nodes rows) n m
unfolding row_ids
of_rows nodes [] id m has is = absurd (none_in_nil id has)
of_rows nodes (r ∷ rows) id m has is = elim (append_cases (ids_of r.1) (row_ids rows) id has) [
  | inl own ↦ (r.0, inl (refl, of_list nodes r.1 id m own is))
  | inr later ↦ let rest = of_rows nodes rows id m later is in (rest.0, inr rest.1)
]

in_all : (rows : List (ℕ × List Member)) (n : ℕ) (m : Member) → Has rows n m → Contains (all_of rows) m
in_all [] n m has = absurd has
in_all (r ∷ rows) n m has = elim has [
  | inl at ↦ Contains-append_left r.1 (all_of rows) m at.1
  | inr later ↦ Contains-append_right r.1 (all_of rows) m (in_all rows n m later)
]

rows_apart : (nodes : List Node) (rows : Rows) → HasNoRepeats (all_of (member_rows nodes rows)) → HasNoRepeats (row_ids rows)
unfolding row_ids
rows_apart nodes [] d = tt
rows_apart nodes (r ∷ rows) d =
    let own = members_of nodes r.1 in let others = all_of (member_rows nodes rows) in
    joined (ids_of r.1) (row_ids rows) (list_apart nodes r.1 (no_repeats_front own others d)) (rows_apart nodes rows (no_repeats_back own others d))
    (λ id l later. (
    let t = tree nodes id in
    let m = (first_member t).0 in
    let at = of_rows nodes rows id m later (has_first t) in
    in_both own others m d (of_list nodes r.1 id m l (has_first t)) (in_all (member_rows nodes rows) at.0 m at.1)
    ))

list_inside : (nodes : List Node) (es : List Root) → All (IsRoot nodes) es → (id : ℕ) → Contains (ids_of es) id → id < length nodes
list_inside nodes [] a id has = absurd (none_in_nil id has)
list_inside nodes (e ∷ es) a id has = elim (cons_cases e.id id (ids_of es) has) [
  | inl same ↦ subst (λ i. i < length nodes) same (All-head (IsRoot nodes) e es a).inside
  | inr later ↦ list_inside nodes es (All-tail (IsRoot nodes) e es a) id later
]

rows_inside : (nodes : List Node) (rows : Rows) → All (λ (r : ℕ × List Root). IsUnionList nodes r.1) rows → (id : ℕ) → Contains (row_ids rows) id → id < length nodes
unfolding row_ids
rows_inside nodes [] a id has = absurd (none_in_nil id has)
rows_inside nodes (r ∷ rows) a id has = elim (append_cases (ids_of r.1) (row_ids rows) id has) [
  | inl own ↦ list_inside nodes r.1 (All-head (λ (o : ℕ × List Root). IsUnionList nodes o.1) r rows a).roots id own
  | inr later ↦ rows_inside nodes rows (All-tail (λ (o : ℕ × List Root). IsUnionList nodes o.1) r rows a) id later
]

rows_count : (rows : Rows) → length (row_ids rows) ≡ entries_in rows
unfolding row_ids
rows_count [] = refl
rows_count (r ∷ rows) =
    let a = length-append (ids_of r.1) (row_ids rows) in
    let b = length-map r.1 (λ (e : Root). e.id) in
    let c = rows_count rows in
    omega arith

all_count : (rows : List Rows) → length (all_ids rows) ≡ places rows
unfolding all_ids
all_count [] = refl
all_count (r ∷ rows) =
    let a = length-append (row_ids r) (all_ids rows) in
    let b = rows_count r in
    let c = all_count rows in
    let d = sum_by-cons entries_in r rows in
    omega arith

-- ALL KEYS

module _ (schema : Declared) (q : Query) (events : List Event) (p : QueryState) where
  -- where the node's first member starts
  start_of : ℕ → ℕ
  start_of id = (first_member (tree p.nodes id)).0.start.pos

  -- a member that the key's events reach starts at one of them
  starts_there : (a : Automaton) (strict : Bool) (xs : List Seen) (s : Standing) (m : Member) → Reaches a strict xs s m → Contains (positions xs) m.start.pos
  starts_there a strict [] s m r = absurd r
  starts_there a strict (x ∷ xs) s m r = elim r [
    | inl own ↦ subst (λ k. Contains (positions (x ∷ xs)) k) (sym (ap (λ (t : Stamp). t.pos) own.0)) (here x.stamp.pos (positions xs))
    | inr later ↦ there x.stamp.pos m.start.pos (positions xs) (starts_there a strict xs s m later)
  ]

  -- a node of a key's lists starts at an event of the key
  of_key : (key : List Value) (rows : Rows) → KeyIsKept schema q events p key rows → (id : ℕ) → Contains (row_ids rows) id → HasKeyAt schema q events key (start_of id)
  unfolding start_of
  of_key key rows k id has =
      let t = tree p.nodes id in
      let m = (first_member t).0 in
      let at = of_rows p.nodes rows id m has (has_first t) in
      let found = starts_there (automaton_of_cea p.table.cea) p.table.cea.strict k.taken _ m (k.stands.sound at.0 m at.1) in
      let among = subst (λ ns. Contains ns m.start.pos) (sym (positions_append k.taken k.no_op)) (Contains-append_left (positions k.taken) (positions k.no_op) m.start.pos found) in
      (k.are_seen.exact m.start.pos).0 among

  record Apart (keys : List (List Value)) (rows : List Rows) : Type 0 where
    apart : HasNoRepeats (all_ids rows)
    each : (id : ℕ) → Contains (all_ids rows) id → (id < length p.nodes) × ((key : List Value) × Contains keys key × HasKeyAt schema q events key (start_of id))

  all_apart : (keys : List (List Value)) (rows : List Rows) → HasNoRepeats keys → length rows ≡ length keys →
      ((n : ℕ) (key : List Value) (lists : Rows) → slice_get keys n ≡ Some key → slice_get rows n ≡ Some lists → KeyIsKept schema q events p key lists) → Apart keys rows
  unfolding all_ids
  all_apart [] [] d same each = record { apart = tt; each = λ id has. absurd (none_in_nil id has) }
  all_apart [] (r ∷ rows) d same each = absurd (omega arith)
  all_apart (key ∷ keys) [] d same each = absurd (omega arith)
  all_apart (key ∷ keys) (r ∷ rows) d same each =
      let k = each 0 key r refl refl in
      let rest = all_apart keys rows d.1 (omega arith) (λ n l lists at lists_at. each (suc n) l lists at lists_at) in
      record {
        apart = joined (row_ids r) (all_ids rows) (rows_apart p.nodes r k.stands.distinct) rest.apart
            (λ id own later. (
            let other = (rest.each id later).1 in
            let same_key = one_key schema q events (start_of id) other.0 key other.2 (of_key key r k id own) in
            d.0 (subst (Contains keys) same_key other.1)
            ));
        each = λ id has. elim (append_cases (row_ids r) (all_ids rows) id has) [
          | inl own ↦ (rows_inside p.nodes r k.stands.lists id own, (key, here key keys, of_key key r k id own))
          | inr later ↦ let o = rest.each id later in (o.0, (o.1.0, there key o.1.0 keys o.1.1, o.1.2))
        ];
      }

  -- The lists have no more entries than there are nodes.
  pub entries_few : QueryStateStands schema q events p → places p.rows ≤ length p.nodes
  entries_few s =
      let all = all_apart p.keys p.rows s.keys.distinct s.keys.lists s.each in
      let count = all_count p.rows in
      let fewer = few (all_ids p.rows) (below (length p.nodes)) all.apart (λ id has. is_below (length p.nodes) id (all.each id has).0) in
      let long = below_length (length p.nodes) in
      omega (arith, count, fewer, long)
