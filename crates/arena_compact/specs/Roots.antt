-- Where a compaction begins: the recent entries of lists and what cursors still have. And where these are
-- after it.
use Rattle.std.specs.Prelude.{◌≡◌, ℕ, ◌<◌, ◌≤◌, ◌==◌, ℤ, ◌≤ℤ◌, All, int_le, true, cond, List, [], ◌∷◌, length, map, filter, sum_by, Option, Some, slice_get, ◌+◌, ◌*◌, swap}
use Rattle.std.specs.Prelude.{slice_set as set}
use Rattle.std.specs.List.{flat_map}
use Rattle.cer_base.specs.declared.node.Root.{Root}
use Rattle.cer_base.specs.declared.node.Node.{Node}
use Rattle.tecs_enumerate.specs.declared.descent.Pending.{Pending}
use Rattle.tecs_enumerate.specs.Remaining.{CursorState, id_of}
use Rattle.event_update.specs.Update.{entries_in}
use Rattle.arena_compact.specs.Marks.{needed_from}
use Rattle.arena_compact.specs.Moves.{MovesTo}
use Rattle.arena_compact.specs.Fates.{NeedAt}

-- the entries whose greatest start is recent
abbrev pub recent_entries : ℤ → List Root → List Root
recent_entries low es = filter (λ e. int_le low e.max.clock) es

abbrev pub ids_of : List Root → List ℕ
ids_of es = map (λ e. e.id) es

-- the nodes of the recent entries of a list, needed from the clock on
abbrev pub list_roots : ℤ → List Root → List (ℕ × ℤ)
list_roots low es = needed_from low (ids_of (recent_entries low es))

-- those of a key's lists
abbrev pub row_roots : ℤ → List (ℕ × List Root) → List (ℕ × ℤ)
row_roots low rows = flat_map (λ (r : ℕ × List Root). list_roots low r.1) rows

-- those of all keys' lists
abbrev pub key_roots : ℤ → List (List (ℕ × List Root)) → List (ℕ × ℤ)
key_roots low keys = flat_map (row_roots low) keys

-- the nodes that a cursor still has on its stack, needed from its own clock on
abbrev pub stack_roots : CursorState → List (ℕ × ℤ)
stack_roots w = needed_from w.low (map id_of w.stack)

-- those of the query's cursors
abbrev pub cursor_roots : ℕ → List CursorState → List (ℕ × ℤ)
cursor_roots query ws = flat_map (λ w. cond (w.query == query) (stack_roots w) []) ws

-- A node has a place, at which a node stands.
pub record IsPlaced (nodes : List Node) (table : List (Option ℕ)) (id : ℕ) : Type 0 where
  pub place : ℕ
  pub gives : MovesTo table id place
  pub inside : place < length nodes

-- The entry is of the place of the node that it was of, with the same greatest start and the need of the node there.
pub record EntryMoved (nodes : List Node) (table : List (Option ℕ)) (e f : Root) : Type 0 where
  pub id : MovesTo table e.id f.id
  pub same_max : f.max ≡ e.max
  pub need : NeedAt nodes f.id f.need

abbrev pub EntriesMoved : List Node → List (Option ℕ) → List Root → List Root → Type 0
EntriesMoved nodes table [] [] = Unit {0}
EntriesMoved nodes table [] (f ∷ fs) = ⊥
EntriesMoved nodes table (e ∷ es) [] = ⊥
EntriesMoved nodes table (e ∷ es) (f ∷ fs) = EntryMoved nodes table e f × EntriesMoved nodes table es fs

-- clocks do not rise from an entry to the ones after it
abbrev pub AreOlder : List Root → Type 0
AreOlder [] = Unit {0}
AreOlder (e ∷ es) = All (λ f. f.max.clock ≤ℤ e.max.clock) es × AreOlder es

-- each entry is of the place of the node that it was of, and its part of the path is the same
abbrev pub AreMoved : List (Option ℕ) → List Pending → List Pending → Type 0
AreMoved table [] [] = Unit {0}
AreMoved table [] (f ∷ fs) = ⊥
AreMoved table (e ∷ es) [] = ⊥
AreMoved table (e ∷ es) (f ∷ fs) = (f.prefix ≡ e.prefix) × MovesTo table e.id f.id × AreMoved table es fs

-- how many entries the lists of all keys have
abbrev pub places : List (List (ℕ × List Root)) → ℕ
places keys = sum_by entries_in keys

-- one state more with its list, unless the list has no entry
abbrev pub with_row : ℕ → List Root → List (ℕ × List Root) → List (ℕ × List Root)
with_row n [] rows = rows
with_row n (e ∷ es) rows = (n, e ∷ es) ∷ rows

-- the states whose lists have a recent entry, in order, each with these alone
abbrev pub kept_rows : ℤ → List (ℕ × List Root) → List (ℕ × List Root)
kept_rows low [] = []
kept_rows low (r ∷ rows) = with_row r.0 (recent_entries low r.1) (kept_rows low rows)

-- the same states in the same order, the entries of each one's list being moved
abbrev pub RowsMoved : List Node → List (Option ℕ) → List (ℕ × List Root) → List (ℕ × List Root) → Type 0
RowsMoved nodes table [] [] = Unit {0}
RowsMoved nodes table [] (s ∷ moved) = ⊥
RowsMoved nodes table (r ∷ rows) [] = ⊥
RowsMoved nodes table (r ∷ rows) (s ∷ moved) = (s.0 ≡ r.0) × EntriesMoved nodes table r.1 s.1 × RowsMoved nodes table rows moved

-- What is asked of a key's lists before they are moved: clocks do not rise in any, and the nodes of recent entries have places.
pub record CanMove (low : ℤ) (nodes : List Node) (table : List (Option ℕ)) (rows : List (ℕ × List Root)) : Type 0 where
  pub older : All (λ (r : ℕ × List Root). AreOlder r.1) rows
  pub placed : All (λ (r : ℕ × List Root). All (λ (e : Root). int_le low e.max.clock ≡ true → IsPlaced nodes table e.id) r.1) rows

-- The rows that have a recent entry stay, and are moved; steps are counted for the entries that there were and for those that stay.
pub record MovesRows (low : ℤ) (nodes : List Node) (table : List (Option ℕ)) (rows rows_new : List (ℕ × List Root)) (before after : ℕ) : Type 0 where
  pub moved : RowsMoved nodes table (kept_rows low rows) rows_new
  pub steps : after ≤ before + 3 * entries_in rows
  pub counted : 3 * entries_in (kept_rows low rows) + before ≤ after

-- each key's rows that stay are moved
abbrev pub KeysMoved : ℤ → List Node → List (Option ℕ) → List (List (ℕ × List Root)) → List (List (ℕ × List Root)) → Type 0
KeysMoved low nodes table [] [] = Unit {0}
KeysMoved low nodes table [] (moved ∷ others) = ⊥
KeysMoved low nodes table (rows ∷ keys) [] = ⊥
KeysMoved low nodes table (rows ∷ keys) (moved ∷ others) = RowsMoved nodes table (kept_rows low rows) moved × KeysMoved low nodes table keys others

-- A cursor of the query is moved, with nothing else of it changed; another one stays as it is.
pub record CursorMoved (query : ℕ) (table : List (Option ℕ)) (w v : CursorState) : Type 0 where
  pub moved : w.query ≡ query → AreMoved table w.stack v.stack
  pub same : v ≡ record w { stack = v.stack }
  pub other : (w.query ≡ query → ⊥) → v ≡ w

-- Row k is moved: it stays after the rows that stay already, or it goes.
pub data MovedAt (low : ℤ) (nodes : List Node) (table : List (Option ℕ)) (old : List (ℕ × List Root)) (kept k : ℕ) : ℕ → List (ℕ × List Root) → Type 0 where
  Stays : (r : ℕ × List Root) (fs : List Root) → slice_get old k ≡ Some r → 0 < length (recent_entries low r.1) → EntriesMoved nodes table (recent_entries low r.1) fs → MovedAt low nodes table old kept k (kept + 1) (swap (set old k (r.0, fs)) kept k)
  Goes : (r : ℕ × List Root) (fs : List Root) → slice_get old k ≡ Some r → recent_entries low r.1 ≡ [] → MovedAt low nodes table old kept k kept (set old k (r.0, fs))
