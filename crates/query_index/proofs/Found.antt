-- What an event marks by the indexes of its type.
use Rattle.std.proofs.Common.{◌≡◌, refl, sym, ap, subst, ◌∙◌, ℕ, zero, suc, ◌≤◌, Bool, List, [], ◌∷◌, Some, None, Vec, slice_get, slice_index_or, All}
use Rattle.std.specs.declared.alloc.Global.{Global}
use Rattle.stream_schema.specs.declared.Event.{Event}
use Rattle.query_index.specs.declared.rows.LeafRow.{LeafRow}
use Rattle.query_index.specs.declared.rows.IndexedLeaf.{IndexedLeaf}
use Rattle.query_index.specs.declared.index.Index.{Index}
use Rattle.query_index.specs.Rows.{Table, IsRowBelow, AreBelow, HaveRoom, HaveRooms, Marks}
use Rattle.query_index.specs.Index.{gathered, AreIndexes, indexes_of, AreIndexed}
use Rattle.query_index.proofs.Listed.{rows_below, marks_found, room_found, room_within, marks_none}
use Rattle.query_index.proofs.Indexed.{marks_sufficed, same_suffice, below_within}

-- the indexes that are found are those of the type
found : (vs : List (Vec Index Global)) (ty : ℕ) (v : Vec Index Global) → slice_get vs ty ≡ Some v → slice_index_or (indexes_of vs) ty [] ≡ v.items
found [] ty v at = absurd cc
found (w ∷ vs) zero v at = let same : w ≡ v = cc in ap (λ (x : Vec Index Global). x.items) same
found (w ∷ vs) (suc ty) v at = found vs ty v at

none_found : (vs : List (Vec Index Global)) (ty : ℕ) → slice_get vs ty ≡ None → slice_index_or (indexes_of vs) ty [] ≡ []
none_found [] ty at = refl
none_found (w ∷ vs) zero at = absurd cc
none_found (w ∷ vs) (suc ty) at = none_found vs ty at

-- the indexes of the event's type, as they are looked at
pub are_found : (rows : List (List LeafRow)) (is : List (Vec Index Global)) (own : List (Vec Index Global)) (ls leaves : List IndexedLeaf) (v : Vec Index Global) (list : List Index) (ty : ℕ) → AreIndexed ls rows (indexes_of is) → own ≡ is → Some v ≡ slice_get own ty → list ≡ v.items → leaves ≡ ls → AreIndexes leaves (slice_index_or rows ty []) list
are_found rows is own ls leaves v list ty are same at list_is leaves_is =
    subst (λ x. AreIndexes x (slice_index_or rows ty []) list) (sym leaves_is)
    (subst (AreIndexes ls (slice_index_or rows ty [])) (found is ty v (ap (λ vs. slice_get vs ty) (sym same) ∙ sym at) ∙ sym list_is) (are ty))

-- their rows are of queries below the number
pub found_below : (rows : List (List LeafRow)) (ls leaves : List IndexedLeaf) (count ty room : ℕ) (table : Table) (list : List Index) → record { rows = rows; leaves = ls; count = count } ≡ table → AreBelow count rows ls → leaves ≡ ls → table.count ≤ room → AreIndexes leaves (slice_index_or rows ty []) list → All (IsRowBelow room leaves) (gathered list)
found_below rows ls leaves count ty room table list is below leaves_is le are = below_within (slice_index_or rows ty []) (gathered list) leaves room are.rows.within (rows_below rows ls leaves count ty room table is below leaves_is le)

-- and the sets have room for their leaves
pub found_room : (rows : List (List LeafRow)) (ls leaves : List IndexedLeaf) (count : ℕ) (table : Table) (event : Event) (sets : List (List Bool)) (list : List Index) → record { rows = rows; leaves = ls; count = count } ≡ table → AreBelow count rows ls → leaves ≡ ls → HaveRooms table.count table.rows table.leaves event sets → AreIndexes leaves (slice_index_or rows event.ty []) list → HaveRoom (gathered list) leaves event sets
found_room rows ls leaves count table event sets list is below leaves_is h are = room_within (slice_index_or rows event.ty []) (gathered list) leaves event sets sets are.rows.within refl (room_found rows ls leaves count table event sets is below leaves_is h)

-- What their rows mark is what the table says.
pub found_marks : (rows : List (List LeafRow)) (ls leaves : List IndexedLeaf) (count : ℕ) (table : Table) (event : Event) (before now : List Bool) (had have : List (List Bool)) (list : List Index) → record { rows = rows; leaves = ls; count = count } ≡ table → leaves ≡ ls → AreIndexes leaves (slice_index_or rows event.ty []) list → Marks (gathered list) leaves event before now had have → Marks (slice_index_or table.rows event.ty []) table.leaves event before now had have
found_marks rows ls leaves count table event before now had have list is leaves_is are marks = marks_found rows ls leaves count table event before now had have is leaves_is (marks_sufficed (slice_index_or rows event.ty []) (gathered list) leaves event before now had have (same_suffice leaves (slice_index_or rows event.ty []) (gathered list) event are.rows) marks)

-- where the type has none, there is nothing to mark
pub nothing_found : (rows : List (List LeafRow)) (is own : List (Vec Index Global)) (ls : List IndexedLeaf) (count : ℕ) (table : Table) (event : Event) (set : List Bool) (sets : List (List Bool)) → record { rows = rows; leaves = ls; count = count } ≡ table → AreIndexed ls rows (indexes_of is) → own ≡ is → None ≡ slice_get own event.ty → Marks (slice_index_or table.rows event.ty []) table.leaves event set set sets sets
nothing_found rows is own ls count table event set sets table_is are same at =
    let none : AreIndexes ls (slice_index_or rows event.ty []) [] = subst (AreIndexes ls (slice_index_or rows event.ty [])) (none_found is event.ty (ap (λ vs. slice_get vs event.ty) (sym same) ∙ sym at)) (are event.ty) in
    found_marks rows ls ls count table event set set sets sets [] table_is refl none (marks_none ls event set sets)
