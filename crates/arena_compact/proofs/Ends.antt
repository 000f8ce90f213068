-- From the moved entries and stacks to the lists and cursors that a compaction leaves.
use Rattle.std.proofs.Common.{◌≡◌, ℕ, zero, suc, ◌<◌, ℤ, true, List, [], ◌∷◌, length, map, take, Option, refl, sym, ap, subst, ◌∙◌, inl, inr, arith, All}
use Rattle.std.specs.Prelude.{◌≤ℤ◌, int_le}
use Rattle.std.specs.Int.Signed.{le_z}
use Rattle.std.proofs.lemmas.Int.{ints}
use Rattle.std.proofs.lemmas.Bool.{cases_Bool}
use Rattle.std.proofs.lemmas.List.Elements.{All-nil, All-cons, All-head, All-tail}
use Rattle.cer_base.specs.declared.node.Stamp.{Stamp}
use Rattle.cer_base.specs.declared.node.Root.{Root}
use Rattle.cer_base.specs.declared.node.Node.{Node}
use Rattle.cer_base.specs.Members.{SetTree, members, newest, recent, IsWellFormedTree}
use Rattle.cer_base.specs.Nodes.{tree, WellFormed, IsRoot}
use Rattle.cer_base.proofs.Trees.{need-tree}
use Rattle.cer_base.proofs.Walks.{test_tells, is_rooted}
use Rattle.tecs_enumerate.specs.Remaining.{CursorState, id_of, Fits}
use Rattle.union_lists.specs.Lists.{trees, IsList, IsUnionList}
use Rattle.arena_compact.specs.Pruned.{pruned, ArePruned}
use Rattle.arena_compact.specs.Marks.{low_of, IsKeptFrom, AreNodeMarks}
use Rattle.arena_compact.specs.Moves.{Moved}
use Rattle.arena_compact.specs.Roots.{recent_entries, kept_rows, with_row, AreOlder, EntryMoved, EntriesMoved, RowsMoved, KeysMoved, CursorMoved}
use Rattle.arena_compact.specs.Compacted.{ListCompacted, RowsCompacted, KeysCompacted, CursorCompacted}
use Rattle.arena_compact.proofs.Pruned.{pruned_later, newest-pruned, recent-pruned, exactly-pruned, members-pruned, all_recent_in}
use Rattle.arena_compact.proofs.Headed.{headed_less, list_older, none_later}
use Rattle.arena_compact.proofs.Rests.{same_rest, still_fits}
use Rattle.arena_compact.proofs.Held.{needs_no_more}

-- an entry of a list that passes a test, where the list is picked by it
picked : (P : Root → Type 0) (low : ℤ) (es : List Root) → All (λ e. int_le low e.max.clock ≡ true → P e) es → All P (recent_entries low es)
picked P low [] h = All-nil P
picked P low (e ∷ es) h =
    let rest = picked P low es (All-tail (λ (f : Root). int_le low f.max.clock ≡ true → P f) e es h) in
    elim (cases_Bool (le_z low e.max.clock)) [
      | inl pass ↦ rw pass (All-cons P e (recent_entries low es) (All-head (λ (f : Root). int_le low f.max.clock ≡ true → P f) e es h pass) rest)
      | inr fail ↦ rw fail rest
    ]

module _ (lows : List ℤ) (old new : List Node) (marks table : List (Option ℕ)) (w : WellFormed old) (h : Moved lows old marks (length old) new table) where
  -- an entry that is moved is a root of the new nodes
  entry_root : (e f : Root) → IsRoot old e → EntryMoved new table e f → IsRoot new f
  entry_root e f r m = record {
    inside = h.inside e.id f.id r.inside m.id;
    is_max = m.same_max ∙ r.is_max ∙ sym (newest-pruned (low_of lows e.id) (tree old e.id) (tree new f.id) (h.trees e.id f.id r.inside m.id) (w.well_formed_tree e.id r.inside));
    is_need = m.need.is ∙ need-tree new h.well_formed f.id m.need.node m.need.there;
  }

  entry_roots : (es fs : List Root) → All (IsRoot old) es → EntriesMoved new table es fs → All (IsRoot new) fs
  entry_roots [] [] r m = All-nil (IsRoot new)
  entry_roots [] (f ∷ fs) r m = absurd m
  entry_roots (e ∷ es) [] r m = absurd m
  entry_roots (e ∷ es) (f ∷ fs) r m = All-cons (IsRoot new) f fs (entry_root e f (All-head (IsRoot old) e es r) m.0) (entry_roots es fs (All-tail (IsRoot old) e es r) m.1)

  same_maxes : (es fs : List Root) → EntriesMoved new table es fs → map (λ (e : Root). e.max) fs ≡ map (λ (e : Root). e.max) es
  same_maxes [] [] m = refl
  same_maxes [] (f ∷ fs) m = absurd m
  same_maxes (e ∷ es) [] m = absurd m
  same_maxes (e ∷ es) (f ∷ fs) m = ap (λ s. s ∷ map (λ (x : Root). x.max) fs) m.0.same_max ∙ ap (λ ss. e.max ∷ ss) (same_maxes es fs m.1)

  well_formed_trees : (es : List Root) → All (IsRoot old) es → All IsWellFormedTree (trees old es)
  well_formed_trees [] r = All-nil IsWellFormedTree
  well_formed_trees (e ∷ es) r = let root = All-head (IsRoot old) e es r in All-cons IsWellFormedTree (tree old e.id) (trees old es) (w.well_formed_tree e.id root.inside) (well_formed_trees es (All-tail (IsRoot old) e es r))

  roots_take : (es : List Root) (k : ℕ) → All (IsRoot old) es → All (IsRoot old) (take k es)
  roots_take [] zero r = All-nil (IsRoot old)
  roots_take [] (suc k) r = All-nil (IsRoot old)
  roots_take (e ∷ es) zero r = All-nil (IsRoot old)
  roots_take (e ∷ es) (suc k) r = All-cons (IsRoot old) e (take k es) (All-head (IsRoot old) e es r) (roots_take es k (All-tail (IsRoot old) e es r))

  trees_take : (es : List Root) (k : ℕ) → trees old (take k es) ≡ take k (trees old es)
  trees_take [] zero = refl
  trees_take [] (suc k) = refl
  trees_take (e ∷ es) zero = refl
  trees_take (e ∷ es) (suc k) = ap (λ ts. tree old e.id ∷ ts) (trees_take es k)

  module _ (low : ℤ) where
    -- the entry's node is kept from the clock on
    abbrev pub IsKeptEntry : Root → Type 0
    IsKeptEntry e = IsKeptFrom marks lows low e.id

    pruned_trees : (es fs : List Root) → All (IsRoot old) es → All IsKeptEntry es → EntriesMoved new table es fs → ArePruned low (trees old es) (trees new fs)
    pruned_trees [] [] r k m = tt
    pruned_trees [] (f ∷ fs) r k m = absurd m
    pruned_trees (e ∷ es) [] r k m = absurd m
    pruned_trees (e ∷ es) (f ∷ fs) r k m =
        let root = All-head (IsRoot old) e es r in let kept = All-head IsKeptEntry e es k in
        (pruned_later (low_of lows e.id) low kept.upto (tree old e.id) (tree new f.id) (h.trees e.id f.id root.inside m.0.id), pruned_trees es fs (All-tail (IsRoot old) e es r) (All-tail IsKeptEntry e es k) m.1)

    recent_prefix : (es : List Root) → AreOlder es → (k : ℕ) × (recent_entries low es ≡ take k es)
    recent_prefix [] o = (0, refl)
    recent_prefix (e ∷ es) o = elim (cases_Bool (le_z low e.max.clock)) [
      | inl pass ↦ let rest = recent_prefix es o.1 in (suc rest.0, rw pass (ap (λ fs. e ∷ fs) rest.1))
      | inr fail ↦ (0, rw fail (none_later low e es fail o.0))
    ]

    recents : (es : List Root) → All (λ e. int_le low e.max.clock ≡ true) (recent_entries low es)
    recents [] = All-nil (λ (e : Root). int_le low e.max.clock ≡ true)
    recents (e ∷ es) = elim (cases_Bool (le_z low e.max.clock)) [
      | inl pass ↦ rw pass (All-cons (λ (f : Root). int_le low f.max.clock ≡ true) e (recent_entries low es) pass (recents es))
      | inr fail ↦ rw fail (recents es)
    ]

    -- each has its recent members
    recents_all : (es : List Root) (us : List SetTree) → All (IsRoot old) es → ArePruned low (trees old es) us → map (λ t. recent low (members t)) us ≡ map (λ t. recent low (members t)) (trees old es)
    recents_all [] [] r p = refl
    recents_all [] (u ∷ us) r p = absurd p
    recents_all (e ∷ es) [] r p = absurd p
    recents_all (e ∷ es) (u ∷ us) r p =
        let root = All-head (IsRoot old) e es r in
        ap (λ ms. ms ∷ map (λ t. recent low (members t)) us) (recent-pruned old w.in_step low low (omega (arith, ints)) (tree old e.id) u p.0 (is_rooted old w e.id root.inside))
        ∙ ap (λ mss. recent low (members (tree old e.id)) ∷ mss) (recents_all es us (All-tail (IsRoot old) e es r) p.1)

    -- and these alone, where all new nodes are recent
    module _ (all : (id : ℕ) → id < length new → low ≤ℤ (newest (tree new id)).clock) where
      exactly_all : (es fs : List Root) → All (IsRoot old) es → All (IsRoot new) fs → ArePruned low (trees old es) (trees new fs) → trees new fs ≡ map (pruned low) (trees old es)
      exactly_all [] [] r s p = refl
      exactly_all [] (f ∷ fs) r s p = absurd p
      exactly_all (e ∷ es) [] r s p = absurd p
      exactly_all (e ∷ es) (f ∷ fs) r s p =
          let root = All-head (IsRoot old) e es r in let there = All-head (IsRoot new) f fs s in
          ap (λ t. t ∷ trees new fs) (exactly-pruned low (tree old e.id) (tree new f.id) p.0 (w.well_formed_tree e.id root.inside) (all_recent_in low new h.well_formed all f.id there.inside))
          ∙ ap (λ ts. pruned low (tree old e.id) ∷ ts) (exactly_all es fs (All-tail (IsRoot old) e es r) (All-tail (IsRoot new) f fs s) p.1)

      members_all : (es fs : List Root) → All (IsRoot old) es → All (IsRoot new) fs → All (λ e. int_le low e.max.clock ≡ true) es → ArePruned low (trees old es) (trees new fs) → map members (trees new fs) ≡ map (λ t. recent low (members t)) (trees old es)
      members_all [] [] r s t p = refl
      members_all [] (f ∷ fs) r s t p = absurd p
      members_all (e ∷ es) [] r s t p = absurd p
      members_all (e ∷ es) (f ∷ fs) r s t p =
          let Test : Root → Type 0 = λ x. int_le low x.max.clock ≡ true in
          let root = All-head (IsRoot old) e es r in let there = All-head (IsRoot new) f fs s in
          let le : low ≤ℤ (newest (tree old e.id)).clock = subst (λ (x : Stamp). low ≤ℤ x.clock) root.is_max (test_tells low e.max.clock (All-head Test e es t)) in
          ap (λ ms. ms ∷ map members (trees new fs)) (members-pruned old w.in_step low (tree old e.id) (tree new f.id) p.0 (is_rooted old w e.id root.inside) (w.well_formed_tree e.id root.inside) (all_recent_in low new h.well_formed all f.id there.inside) le)
          ∙ ap (λ mss. recent low (members (tree old e.id)) ∷ mss) (members_all es fs (All-tail (IsRoot old) e es r) (All-tail (IsRoot new) f fs s) (All-tail Test e es t) p.1)

    module _ (least : ℤ) (all : least ≡ low → (id : ℕ) → id < length new → low ≤ℤ (newest (tree new id)).clock) where
      -- a list is compacted
      pub list_compacted : (es fs : List Root) → IsUnionList old es → All IsKeptEntry (recent_entries low es) → 0 < length (recent_entries low es) → EntriesMoved new table (recent_entries low es) fs → ListCompacted least low old new (recent_entries low es) fs
      list_compacted [] fs l kept some m = absurd l.list
      list_compacted (e ∷ es) fs l kept some m =
          let prefix = recent_prefix (e ∷ es) (list_older old w (e ∷ es) l) in
          let roots : All (IsRoot old) (recent_entries low (e ∷ es)) = subst (All (IsRoot old)) (sym prefix.1) (roots_take (e ∷ es) prefix.0 l.roots) in
          let news = entry_roots (recent_entries low (e ∷ es)) fs roots m in
          let less = pruned_trees (recent_entries low (e ∷ es)) fs roots kept m in
          record {
            list = record { roots = news; list = headed prefix.0 (let x = ap length prefix.1 in omega arith) (trees new fs) (subst (λ (rs : List Root). ArePruned low (trees old rs) (trees new fs)) prefix.1 less) };
            same_max = same_maxes (recent_entries low (e ∷ es)) fs m;
            pruned_trees = less;
            recent_members = recents_all (recent_entries low (e ∷ es)) (trees new fs) roots less;
            same_trees = λ same. exactly_all (all same) (recent_entries low (e ∷ es)) fs roots news less;
            all_recent = λ same. members_all (all same) (recent_entries low (e ∷ es)) fs roots news (recents (e ∷ es)) less;
          } where
            headed : (k : ℕ) → 0 < length (take k (e ∷ es)) → (us : List SetTree) → ArePruned low (trees old (take k (e ∷ es))) us → IsList us
            headed zero lt us p = absurd (omega arith)
            headed (suc k) lt [] p = absurd p
            headed (suc k) lt (u ∷ us) p =
                let root = All-head (IsRoot old) e es l.roots in
                headed_less low (tree old e.id) u (trees old es) k us p.0 (subst (λ (ts : List SetTree). ArePruned low ts us) (trees_take es k) p.1) (w.well_formed_tree e.id root.inside) (well_formed_trees es (All-tail (IsRoot old) e es l.roots)) l.list

      -- each recent entry of each list is kept
      abbrev pub AreKeptRows : List (ℕ × List Root) → Type 0
      AreKeptRows rows = All (λ (r : ℕ × List Root). All (λ e. int_le low e.max.clock ≡ true → IsKeptEntry e) r.1) rows

      -- the lists of a key
      rows_compacted : (rows moved : List (ℕ × List Root)) → All (λ (r : ℕ × List Root). IsUnionList old r.1) rows → AreKeptRows rows → RowsMoved new table (kept_rows low rows) moved → RowsCompacted least low old new (kept_rows low rows) moved
      rows_compacted [] [] l k m = tt
      rows_compacted [] (s ∷ moved) l k m = absurd m
      rows_compacted (r ∷ rows) moved l k m = go (λ ms more. rows_compacted rows ms (All-tail (λ (x : ℕ × List Root). IsUnionList old x.1) r rows l) (All-tail KeptRow r rows k) more) (recent_entries low r.1) refl moved m where
        KeptRow : ℕ × List Root → Type 0
        KeptRow x = All (λ e. int_le low e.max.clock ≡ true → IsKeptEntry e) x.1

        go : ((ms : List (ℕ × List Root)) → RowsMoved new table (kept_rows low rows) ms → RowsCompacted least low old new (kept_rows low rows) ms) → (es : List Root) → es ≡ recent_entries low r.1 → (moved : List (ℕ × List Root)) → RowsMoved new table (with_row r.0 es (kept_rows low rows)) moved → RowsCompacted least low old new (with_row r.0 es (kept_rows low rows)) moved
        go rec [] is moved m = rec moved m
        go rec (e ∷ es) is [] m = absurd m
        go rec (e ∷ es) is (s ∷ moved) m = (
          m.0,
          subst (λ (xs : List Root). ListCompacted least low old new xs s.1) (sym is) (list_compacted r.1 s.1 (All-head (λ (x : ℕ × List Root). IsUnionList old x.1) r rows l) (picked IsKeptEntry low r.1 (All-head (λ (x : ℕ × List Root). All (λ e. int_le low e.max.clock ≡ true → IsKeptEntry e) x.1) r rows k)) (let x = ap length is in omega arith) (subst (λ (xs : List Root). EntriesMoved new table xs s.1) is m.1)),
          rec moved m.2,
        )

      -- those of all keys
      pub keys_compacted : (keys moved : List (List (ℕ × List Root))) → All (λ (rows : List (ℕ × List Root)). All (λ (r : ℕ × List Root). IsUnionList old r.1) rows) keys → All AreKeptRows keys → KeysMoved low new table keys moved → KeysCompacted least low old new keys moved
      keys_compacted [] [] l k m = tt
      keys_compacted [] (ms ∷ moved) l k m = absurd m
      keys_compacted (rows ∷ keys) [] l k m = absurd m
      keys_compacted (rows ∷ keys) (ms ∷ moved) l k m =
          let P : List (ℕ × List Root) → Type 0 = λ rs. All (λ (r : ℕ × List Root). IsUnionList old r.1) rs in
          (rows_compacted rows ms (All-head P rows keys l) (All-head AreKeptRows rows keys k) m.0, keys_compacted keys moved (All-tail P rows keys l) (All-tail AreKeptRows rows keys k) m.1)

  -- a cursor
  pub cursor_compacted : (roots : List (ℕ × ℤ)) → AreNodeMarks old roots 0 marks lows → (query : ℕ) (c v : CursorState) → (c.query ≡ query → All (λ id. low_of lows id ≤ℤ c.low) (map id_of c.stack) × Fits c old) → CursorMoved query table c v → CursorCompacted query old new c v
  cursor_compacted roots marked query c v fits m = record {
    same_rest = λ mine. rw (m.same) (same_rest lows old new marks table w h c.low c.room c.path c.stack v.stack (fits mine).0 (fits mine).1 (m.moved mine));
    fits = λ mine. rw (m.same) (still_fits lows old new marks table w h c.low c.room c.stack v.stack (fits mine).1 (m.moved mine));
    no_more = λ mine. needs_no_more lows old new marks table roots c v w marked h (m.moved mine) (ap (λ (x : CursorState). x.low) m.same);
    same = m.same;
    other = m.other;
  }
