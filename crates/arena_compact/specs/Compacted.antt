-- What a compaction leaves.
use Rattle.std.specs.Prelude.{◌≡◌, ℕ, ◌+◌, ◌*◌, ◌<◌, ◌≤◌, ◌==◌, ℤ, ◌≤ℤ◌, int_le, cond, List, [], ◌∷◌, length, map, get_or, All, Contains}
use Rattle.std.specs.List.{flat_map}
use Rattle.cer_base.specs.declared.node.Stamp.{Stamp}
use Rattle.cer_base.specs.declared.node.Root.{Root}
use Rattle.cer_base.specs.declared.node.Node.{Node}
use Rattle.cer_base.specs.declared.node.Node.TheVariants.{Bottom}
use Rattle.cer_base.specs.Repeats.{HasNoRepeats}
use Rattle.cer_base.specs.Members.{newest, members, recent}
use Rattle.cer_base.specs.Nodes.{tree, WellFormed}
use Rattle.tecs_enumerate.specs.declared.descent.Pending.{Pending}
use Rattle.tecs_enumerate.specs.Remaining.{CursorState, id_of, rest, Fits}
use Rattle.union_lists.specs.Lists.{trees, IsUnionList}
use Rattle.arena_compact.specs.Pruned.{pruned, ArePruned}
use Rattle.arena_compact.specs.Marks.{Needs}
use Rattle.arena_compact.specs.Moves.{later}
use Rattle.arena_compact.specs.Roots.{ids_of, places, kept_rows}

-- the lower one of a clock and a cursor's, which counts only while something is left on its stack
abbrev pub lower_of : ℤ → ℤ → List Pending → ℤ
lower_of low own [] = low
lower_of low own (e ∷ es) = cond (int_le low own) low own

-- the earliest clock from which on a node may be kept: the least of the query's own and those of its cursors that have something left
abbrev pub least_of : ℕ → ℤ → List CursorState → ℤ
least_of query low [] = low
least_of query low (w ∷ ws) = least_of query (cond (w.query == query) (lower_of low w.low w.stack) low) ws

-- the nodes of all entries
abbrev pub entries_of : List (List (ℕ × List Root)) → List ℕ
entries_of keys = flat_map (flat_map (λ (r : ℕ × List Root). ids_of r.1)) keys

-- Why a node is left: the lists need it from the query's low clock on and it is recent for that, or what a cursor of the query has left needs it from the cursor's clock on and it is recent for this one.
pub data IsLeftFor (query : ℕ) (low : ℤ) (nodes : List Node) (keys : List (List (ℕ × List Root))) (ws : List CursorState) (id : ℕ) : Type 0 where
  Lists : Needs low nodes (entries_of keys) id → low ≤ℤ (newest (tree nodes id)).clock → IsLeftFor query low nodes keys ws id
  Held : (w : CursorState) → Contains ws w → w.query ≡ query → Needs w.low nodes (map id_of w.stack) id → w.low ≤ℤ (newest (tree nodes id)).clock → IsLeftFor query low nodes keys ws id

-- The store is well-formed, no start is new, no position has more nodes from it on, and each node is left for a list or a cursor.
pub record Compacted (query : ℕ) (low : ℤ) (old new : List Node) (keys : List (List (ℕ × List Root))) (ws : List CursorState) : Type 0 where
  pub well_formed : WellFormed new
  pub no_new_start : (s : Stamp) → Contains new (Bottom s) → Contains old (Bottom s)
  pub fewer_later : (p : ℕ) → later p new ≤ later p old
  pub left : (id : ℕ) → id < length new → IsLeftFor query low new keys ws id

-- The list has these entries, in order, with the same greatest starts, each with its node's recent members. Where no cursor needs an earlier clock, it has these alone.
pub record ListCompacted (least low : ℤ) (old new : List Node) (es fs : List Root) : Type 0 where
  pub list : IsUnionList new fs
  pub same_max : map (λ e. e.max) fs ≡ map (λ e. e.max) es
  pub pruned_trees : ArePruned low (trees old es) (trees new fs)
  pub recent_members : map (λ t. recent low (members t)) (trees new fs) ≡ map (λ t. recent low (members t)) (trees old es)
  pub same_trees : least ≡ low → trees new fs ≡ map (pruned low) (trees old es)
  pub all_recent : least ≡ low → map members (trees new fs) ≡ map (λ t. recent low (members t)) (trees old es)

-- the same states in the same order, each with its list compacted
abbrev pub RowsCompacted : ℤ → ℤ → List Node → List Node → List (ℕ × List Root) → List (ℕ × List Root) → Type 0
RowsCompacted least low old new [] [] = Unit {0}
RowsCompacted least low old new [] (s ∷ moved) = ⊥
RowsCompacted least low old new (r ∷ rows) [] = ⊥
RowsCompacted least low old new (r ∷ rows) (s ∷ moved) = (s.0 ≡ r.0) × ListCompacted least low old new r.1 s.1 × RowsCompacted least low old new rows moved

-- of each key the states stay whose lists have a recent entry, in order, with these entries alone
abbrev pub KeysCompacted : ℤ → ℤ → List Node → List Node → List (List (ℕ × List Root)) → List (List (ℕ × List Root)) → Type 0
KeysCompacted least low old new [] [] = Unit {0}
KeysCompacted least low old new [] (moved ∷ others) = ⊥
KeysCompacted least low old new (rows ∷ keys) [] = ⊥
KeysCompacted least low old new (rows ∷ keys) (moved ∷ others) = RowsCompacted least low old new (kept_rows low rows) moved × KeysCompacted least low old new keys others

-- These are different nodes, which what a cursor has left needs.
pub record AreNeeded (nodes : List Node) (w : CursorState) (ids : List ℕ) : Type 0 where
  pub distinct : HasNoRepeats ids
  pub needs : All (Needs w.low nodes (map id_of w.stack)) ids

-- However many nodes the cursor needs, it needed as many before.
abbrev pub NeedsNoMore : List Node → List Node → CursorState → CursorState → Type 0
NeedsNoMore old new w v = (ids : List ℕ) → AreNeeded new v ids → (olds : List ℕ) × AreNeeded old w olds × (length olds ≡ length ids)

-- A cursor of the query has the same left, still fits, and needs no more nodes than before; another one is as it was.
pub record CursorCompacted (query : ℕ) (old new : List Node) (w v : CursorState) : Type 0 where
  pub same_rest : w.query ≡ query → rest v new ≡ rest w old
  pub fits : w.query ≡ query → Fits v new
  pub no_more : w.query ≡ query → NeedsNoMore old new w v
  pub same : v ≡ record w { stack = v.stack }
  pub other : (w.query ≡ query → ⊥) → v ≡ w

-- What is asked of the store, of all lists and of the query's cursors, and for how many nodes there must be room.
pub record CanCompact (query places : ℕ) (nodes : List Node) (keys : List (List (ℕ × List Root))) (ws : List CursorState) : Type 0 where
  pub well_formed : WellFormed nodes
  pub lists : All (λ (rows : List (ℕ × List Root)). All (λ (r : ℕ × List Root). IsUnionList nodes r.1) rows) keys
  pub cursors : All (λ (w : CursorState). w.query ≡ query → Fits w nodes) ws
  pub room : length nodes ≤ places

-- What a compaction leaves of the store, of all lists and of all cursors.
pub record AreCompacted (query : ℕ) (low : ℤ) (old new : List Node) (keys keys_new : List (List (ℕ × List Root))) (ws ws_new : List CursorState) : Type 0 where
  pub nodes : Compacted query low old new keys_new ws_new
  pub lists : KeysCompacted (least_of query low ws) low old new keys keys_new
  pub cursors : (k : ℕ) (d : CursorState) → k < length ws → CursorCompacted query old new (get_or ws k d) (get_or ws_new k d)
  pub count : length ws_new ≡ length ws

-- A compaction with its steps: at most eight for each node and four for each entry, at least one for each entry and three more for each that stays.
pub record IsCompaction (query : ℕ) (low : ℤ) (old new : List Node) (keys keys_new : List (List (ℕ × List Root))) (ws ws_new : List CursorState) (before now : ℕ) : Type 0 where
  pub compacted : AreCompacted query low old new keys keys_new ws ws_new
  pub steps : now ≤ before + 8 * length old + 4 * places keys
  pub counted : places keys + 3 * places keys_new + before ≤ now
