-- What the lists of all keys need those of the keys that stay need.
use Rattle.std.proofs.Common.{◌≡◌, ℕ, ℤ, List, [], ◌∷◌, length, sym, subst, ◌∙◌, inl, inr, Contains, Option, Some, slice_get, get_or, arith, All}
use Rattle.std.specs.List.{flat_map}
use Rattle.std.proofs.lemmas.List.Concat.{flat_map-cons}
use Rattle.std.proofs.lemmas.List.Elements.{Contains-append_left, Contains-append_right}
use Rattle.std.proofs.lemmas.Option.{slice_get-get_or, slice_get_within, get_or_from_slice_get}
use Rattle.stream_schema.specs.declared.Value.{Value}
use Rattle.cer_base.specs.Repeats.{HasNoRepeats}
use Rattle.cer_base.specs.declared.node.Root.{Root}
use Rattle.cer_base.specs.declared.node.Node.{Node}
use Rattle.tecs_enumerate.specs.Remaining.{CursorState}
use Rattle.arena_compact.specs.Roots.{ids_of}
use Rattle.arena_compact.specs.Compacted.{entries_of, IsLeftFor, Lists, Held, Compacted}
use Rattle.arena_compact.proofs.Reached.{needs_within}
use Rattle.query_standing.specs.Kept.{Rows}
use Rattle.query_standing.specs.Giving.{AreRemoved}
use Rattle.query_standing.proofs.Lists.{here, there, cons_cases, append_cases, none_in_nil, got, at}
use Rattle.query_standing.proofs.KeyCases.{at_one_place}

-- what holds of the lists of all keys holds of those of the keys that stay
pub all_stay : (P : Rows → Type 0) (old : List (List Value)) (kept : List Rows) (before : Option ℕ) (new : List (List Value)) (rows : List Rows) (after : Option ℕ) → AreRemoved old kept before new rows after → length kept ≡ length old → All P kept → All P rows
all_stay P old kept before new rows after given long h = λ i d lt.
    let count = given.lists long in
    let key = get_or new i [] in
    let key_is : slice_get new i ≡ Some key = slice_get-get_or new i [] (omega arith) in
    let own = get_or rows i d in
    let was = given.stays i key own key_is (slice_get-get_or rows i d lt) in
    subst P (get_or_from_slice_get kept was.0 own d was.2) (h was.0 d (slice_get_within kept was.0 own was.2))

-- what stands in lists that are joined stands in one of them
in_one : {X A : Type 0} (f : X → List A) (xs : List X) (a : A) → Contains (flat_map f xs) a → (x : X) × Contains xs x × Contains (f x) a
in_one f [] a has = absurd (none_in_nil a has)
in_one f (x ∷ xs) a has = elim (append_cases (f x) (flat_map f xs) a (subst (λ ys. Contains ys a) (flat_map-cons f x xs) has)) [
  | inl own ↦ (x, here x xs, own)
  | inr later ↦ let rest = in_one f xs a later in (rest.0, there x rest.0 xs rest.1, rest.2)
]

-- and what stands in one stands in them all
in_joined : {X A : Type 0} (f : X → List A) (xs : List X) (x : X) (a : A) → Contains xs x → Contains (f x) a → Contains (flat_map f xs) a
in_joined f [] x a among has = absurd (none_in_nil x among)
in_joined {A} f (y ∷ ys) x a among has = subst (λ zs. Contains zs a) (sym (flat_map-cons f y ys)) (elim (cons_cases y x ys among) [
  | inl same ↦ Contains-append_left (f y) (flat_map f ys) a (subst (λ z. Contains (f z) a) (sym same) has)
  | inr later ↦ Contains-append_right (f y) (flat_map f ys) a (in_joined f ys x a later has)
])

-- the nodes of a key's lists
abbrev row_nodes : Rows → List ℕ
row_nodes rows = flat_map (λ (r : ℕ × List Root). ids_of r.1) rows

module _ (old : List (List Value)) (kept : List Rows) (before : Option ℕ) (new : List (List Value)) (rows : List Rows) (after : Option ℕ) (given : AreRemoved old kept before new rows after) (distinct : HasNoRepeats old) (long : length kept ≡ length old) where
  -- lists that have a node stay
  lists_stay : (m : ℕ) (lists : Rows) (id : ℕ) → slice_get kept m ≡ Some lists → Contains (row_nodes lists) id → Contains rows lists
  lists_stay m lists id is has =
      let within = slice_get_within kept m lists is in
      let key = get_or old m [] in
      let key_is : slice_get old m ≡ Some key = slice_get-get_or old m [] (omega arith) in
      elim (given.gone distinct m key key_is) [
        | inl stays ↦ (
            let i = at new key stays in
            let inside = slice_get_within new i.0 key i.1 in
            let count = given.lists long in
            let own = get_or rows i.0 [] in
            let own_is : slice_get rows i.0 ≡ Some own = slice_get-get_or rows i.0 [] (omega arith) in
            let was = given.stays i.0 key own i.1 own_is in
            let same : was.0 ≡ m = at_one_place old was.0 m key distinct was.1 key_is in
            let there_is : slice_get kept m ≡ Some own = subst (λ k. slice_get kept k ≡ Some own) same was.2 in
            let lists_is : own ≡ lists = (let both = sym there_is ∙ is in cc) in
            subst (Contains rows) lists_is (got rows i.0 own own_is)
            )
        | inr none ↦ (
            let empty : lists ≡ [] = (let both = sym is ∙ none in cc) in
            absurd (none_in_nil id (subst (λ (ls : Rows). Contains (row_nodes ls) id) empty has))
            )
      ]

  nodes_stay : (id : ℕ) → Contains (entries_of kept) id → Contains (entries_of rows) id
  nodes_stay id has =
      let one = in_one row_nodes kept id has in
      let i = at kept one.0 one.1 in
      in_joined row_nodes rows one.0 id (lists_stay i.0 one.0 id i.1 one.2) one.2

  still_left : (query : ℕ) (low : ℤ) (nodes : List Node) (ws : List CursorState) (id : ℕ) → IsLeftFor query low nodes kept ws id → IsLeftFor query low nodes rows ws id
  still_left query low nodes ws id (Lists needs late) = Lists (needs_within low nodes (entries_of kept) (entries_of rows) nodes_stay id needs) late
  still_left query low nodes ws id (Held w among mine needs late) = Held w among mine needs late

  -- a compaction's nodes are left for the lists that stay, or for a cursor
  pub compacted_stays : (query : ℕ) (low : ℤ) (olds news : List Node) (ws : List CursorState) → Compacted query low olds news kept ws → Compacted query low olds news rows ws
  compacted_stays query low olds news ws c = record {
    well_formed = c.well_formed;
    no_new_start = c.no_new_start;
    fewer_later = c.fewer_later;
    left = λ id lt. still_left query low news ws id (c.left id lt);
  }
