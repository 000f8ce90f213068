-- Runs of numbers, pieces of rows, and the rows of pieces.
use Rattle.std.proofs.Common.{◌≡◌, refl, sym, subst, ◌∙◌, ℕ, ◌+◌, ◌<◌, ◌≤◌, inl, inr, ◌⊎◌, ℤ, ◌≤ℤ◌, ◌<ℤ◌, List, [], ◌∷◌, ◌++◌, length, take, slice_index_or, Contains, arith}
use Rattle.std.proofs.lemmas.Int.{ints, by_lt_z}
use Rattle.std.proofs.lemmas.List.Elements.{Contains-append_left, Contains-push, Contains-push_cases}
use Rattle.std.proofs.lemmas.List.{take_more, take_all}
use Rattle.stream_schema.specs.declared.Event.{Event}
use Rattle.predicate_bits.specs.declared.spans.Span.{Span}
use Rattle.predicate_bits.specs.Spans.{IsNumbered, IsAt}
use Rattle.query_index.specs.declared.rows.LeafRow.{LeafRow}
use Rattle.query_index.specs.declared.rows.IndexedLeaf.{IndexedLeaf}
use Rattle.query_index.specs.declared.runs.Run.{Run}
use Rattle.query_index.specs.declared.buckets.Piece.{Piece}
use Rattle.query_index.specs.Index.{ReadsNot, IsApart, AreRowsOver, IsWithin}
use Rattle.query_index.specs.Runs.{HasNumber, KeepNumbers, Cover, HasPiece, HavePieces, ArePieces, Share, AreMeeting, AreMeetingRows}

-- a number of one run more
pub number_pushed : (runs new : List Run) (run : Run) (n : ℤ) → new ≡ runs ++ run ∷ [] → HasNumber runs n ⊎ ((run.low ≤ℤ n) × (n ≤ℤ run.high)) → HasNumber new n
number_pushed runs new run n put h = subst (λ rs. HasNumber rs n) (sym put) (elim h [
  | inl was ↦ record { run = was.run; listed = Contains-append_left runs (run ∷ []) was.run was.listed; low = was.low; high = was.high }
  | inr one ↦ record { run = run; listed = Contains-push runs run; low = one.0; high = one.1 }
])

number_cases : (runs : List Run) (run : Run) (n : ℤ) → HasNumber (runs ++ run ∷ []) n → HasNumber runs n ⊎ ((run.low ≤ℤ n) × (n ≤ℤ run.high))
number_cases runs run n h = elim (Contains-push_cases runs run h.run h.listed) [
  | inl was ↦ inl (record { run = h.run; listed = was; low = h.low; high = h.high })
  | inr one ↦ inr (subst (λ (r : Run). r.low ≤ℤ n) (sym one) h.low, subst (λ (r : Run). n ≤ℤ r.high) (sym one) h.high)
]

pub push_keeps : (runs new : List Run) (run : Run) → new ≡ runs ++ run ∷ [] → KeepNumbers (runs ++ run ∷ []) new
push_keeps runs new run put n h = subst (λ rs. HasNumber rs n) (sym put) h

-- two runs as one
pub joined_keeps : (runs new : List Run) (first second one : Run) → new ≡ runs ++ one ∷ [] → ((n : ℤ) → first.low ≤ℤ n → n ≤ℤ first.high → (one.low ≤ℤ n) × (n ≤ℤ one.high)) → ((n : ℤ) → second.low ≤ℤ n → n ≤ℤ second.high → (one.low ≤ℤ n) × (n ≤ℤ one.high)) → KeepNumbers ((runs ++ first ∷ []) ++ second ∷ []) new
joined_keeps runs new first second one put of_first of_second n h = number_pushed runs new one n put (elim (number_cases (runs ++ first ∷ []) second n h) [
  | inr there ↦ inr (of_second n there.0 there.1)
  | inl early ↦ elim (number_cases runs first n early) [
    | inl was ↦ inl was
    | inr there ↦ inr (of_first n there.0 there.1)
  ]
])

-- the row may concern an event with one of the numbers
pub put_covers : (runs new : List Run) (leaves : List IndexedLeaf) (place : ℕ) (span : Span) (row : LeafRow) (run : Run) → run.low ≡ span.low → run.high ≡ span.high → KeepNumbers (runs ++ run ∷ []) new → Cover new leaves place span row
put_covers runs new leaves place span row run low high keep event at = inl (keep at.2.0 (number_pushed runs (runs ++ run ∷ []) run at.2.0 refl (inr (subst (λ z. z ≤ℤ at.2.0) (sym low) at.2.2, subst (λ z. at.2.0 ≤ℤ z) (sym high) at.2.3))))

pub put_keeps : (runs new : List Run) (run : Run) → KeepNumbers (runs ++ run ∷ []) new → KeepNumbers runs new
put_keeps runs new run keep n h = keep n (number_pushed runs (runs ++ run ∷ []) run n refl (inl h))

-- it concerns none
pub apart_covers : (runs : List Run) (leaves : List IndexedLeaf) (place : ℕ) (span : Span) (row : LeafRow) → IsApart leaves place span row → Cover runs leaves place span row
apart_covers runs leaves place span row apart event at = inr (apart event at)

-- What is left of a span: each number is there, or one of the runs has it, or the row is not concerned.
pub record IsLeft (runs : List Run) (leaves : List IndexedLeaf) (place : ℕ) (span left : Span) (row : LeafRow) : Type 0 where
  pub kind : left.kind ≡ span.kind
  pub each : (event : Event) (at : IsAt place span event) → ((left.low ≤ℤ at.2.0) × (at.2.0 ≤ℤ left.high)) ⊎ (HasNumber runs at.2.0 ⊎ ReadsNot leaves event row)

pub left_first : (runs : List Run) (leaves : List IndexedLeaf) (place : ℕ) (span : Span) (row : LeafRow) → IsLeft runs leaves place span span row
left_first runs leaves place span row = record { kind = refl; each = λ event at. inl (at.2.2, at.2.3) }

abbrev at_part : (span part : Span) (place : ℕ) (event : Event) (at : IsAt place span event) → part.kind ≡ span.kind → part.low ≤ℤ at.2.0 → at.2.0 ≤ℤ part.high → IsAt place part event
at_part span part place event at is low high = (at.0, at.1, (at.2.0, subst (λ k. IsNumbered k at.0 at.2.0) (sym is) at.2.1, low, high))

-- the part that is looked at goes
pub left_next : (runs new : List Run) (leaves : List IndexedLeaf) (place : ℕ) (span left part rest : Span) (row : LeafRow) (end : ℤ) → part.kind ≡ left.kind → rest.kind ≡ left.kind → ((n : ℤ) → left.low ≤ℤ n → n ≤ℤ end → (part.low ≤ℤ n) × (n ≤ℤ part.high)) → ((n : ℤ) → end <ℤ n → n ≤ℤ left.high → (rest.low ≤ℤ n) × (n ≤ℤ rest.high)) → KeepNumbers runs new → Cover new leaves place part row → IsLeft runs leaves place span left row → IsLeft new leaves place span rest row
left_next runs new leaves place span left part rest row end part_is rest_is up_to after keep cover h = record {
  kind = rest_is ∙ h.kind;
  each = λ event at. elim (h.each event at) [
    | inr (inl had) ↦ inr (inl (keep at.2.0 had))
    | inr (inr none) ↦ inr (inr none)
    | inl there ↦ by_lt_z end at.2.0
        (λ late. inl (after at.2.0 late there.1))
        (λ early. let inside = up_to at.2.0 there.0 early in inr (cover event (at_part span part place event at (part_is ∙ h.kind) inside.0 inside.1)))
  ];
}

-- and so does the last one
pub left_last : (runs new : List Run) (leaves : List IndexedLeaf) (place : ℕ) (span left : Span) (row : LeafRow) → KeepNumbers runs new → Cover new leaves place left row → IsLeft runs leaves place span left row → Cover new leaves place span row
left_last runs new leaves place span left row keep cover h event at = elim (h.each event at) [
  | inr (inl had) ↦ inl (keep at.2.0 had)
  | inr (inr none) ↦ inr none
  | inl there ↦ cover event (at_part span left place event at h.kind there.0 there.1)
]

-- the pieces of a row, one more for each run
pub pieces_first : (row : LeafRow) (old : List Piece) → HavePieces row [] old old
pieces_first row old = record { within = λ p i. inl i; kept = λ p i. i; each = λ n h. absurd (none h.run h.listed) }
  where
    none : (run : Run) → Contains [] run → ⊥
    none run h = let lt = h.1 in omega arith

pub pieces_next : (row : LeafRow) (runs : List Run) (k : ℕ) (d : Run) (old pieces new : List Piece) (piece : Piece) → k < length runs → new ≡ pieces ++ piece ∷ [] → piece.row ≡ row → piece.run ≡ slice_index_or runs k d → HavePieces row (take k runs) old pieces → HavePieces row (take (k + 1) runs) old new
pieces_next row runs k d old pieces new piece inside put of is h = subst (λ rs. HavePieces row rs old new) (sym (take_more runs k d inside)) (subst (HavePieces row (take k runs ++ run ∷ []) old) (sym put) (record {
  within = λ p i. elim (Contains-push_cases pieces piece p i) [
    | inl was ↦ h.within p was
    | inr one ↦ inr (subst (λ (q : Piece). q.row ≡ row) one of)
  ];
  kept = λ p i. Contains-append_left pieces (piece ∷ []) p (h.kept p i);
  each = λ n has. elim (number_cases (take k runs) run n has) [
    | inl was ↦ (let had = h.each n was in record { piece = had.piece; listed = Contains-append_left pieces (piece ∷ []) had.piece had.listed; of = had.of; low = had.low; high = had.high })
    | inr one ↦ record { piece = piece; listed = Contains-push pieces piece; of = of; low = subst (λ (r : Run). r.low ≤ℤ n) (sym is) one.0; high = subst (λ (r : Run). n ≤ℤ r.high) (sym is) one.1 }
  ];
}))
  where
    run : Run
    run = slice_index_or runs k d

pub pieces_last : (row : LeafRow) (runs : List Run) (k : ℕ) (old new : List Piece) → length runs ≤ k → HavePieces row (take k runs) old new → HavePieces row runs old new
pieces_last row runs k old new end h = subst (λ rs. HavePieces row rs old new) (take_all k runs end) h

-- the pieces of one row more
pub rows_first : (leaves : List IndexedLeaf) (place : ℕ) (span : Span) → ArePieces [] leaves place span []
rows_first leaves place span = record { within = λ p i. absurd (none p i); others = λ r i. absurd (no_row r i) }
  where
    none : (p : Piece) → Contains [] p → ⊥
    none p h = let lt = h.1 in omega arith

    no_row : (r : LeafRow) → Contains [] r → ⊥
    no_row r h = let lt = h.1 in omega arith

pub rows_next : (rows : List LeafRow) (leaves : List IndexedLeaf) (place : ℕ) (span : Span) (k : ℕ) (d : LeafRow) (runs read : List Run) (pieces new : List Piece) → k < length rows → read ≡ runs → Cover runs leaves place span (slice_index_or rows k d) → HavePieces (slice_index_or rows k d) read pieces new → ArePieces (take k rows) leaves place span pieces → ArePieces (take (k + 1) rows) leaves place span new
rows_next rows leaves place span k d runs read pieces new inside is cover have h = subst (λ rs. ArePieces rs leaves place span new) (sym (take_more rows k d inside)) (record {
  within = λ p i. elim (have.within p i) [
    | inl was ↦ Contains-append_left (take k rows) (row ∷ []) p.row (h.within p was)
    | inr one ↦ subst (Contains (take k rows ++ row ∷ [])) (sym one) (Contains-push (take k rows) row)
  ];
  others = λ r i event at. elim (Contains-push_cases (take k rows) row r i) [
    | inl was ↦ elim (h.others r was event at) [
      | inl had ↦ inl (record { piece = had.piece; listed = have.kept had.piece had.listed; of = had.of; low = had.low; high = had.high })
      | inr none ↦ inr none
    ]
    | inr one ↦ elim (cover event at) [
      | inl has ↦ inl (subst (λ q. HasPiece new q at.2.0) one (have.each at.2.0 (subst (λ rs. HasNumber rs at.2.0) (sym is) has)))
      | inr none ↦ inr (subst (ReadsNot leaves event) one none)
    ]
  ];
})
  where
    row : LeafRow
    row = slice_index_or rows k d

pub rows_last : (rows : List LeafRow) (leaves : List IndexedLeaf) (place : ℕ) (span : Span) (k : ℕ) (pieces : List Piece) → length rows ≤ k → ArePieces (take k rows) leaves place span pieces → ArePieces rows leaves place span pieces
rows_last rows leaves place span k pieces end h = subst (λ rs. ArePieces rs leaves place span pieces) (take_all k rows end) h

-- pieces that have a number of a span
pub meeting_first : (span : Span) → AreMeeting [] span []
meeting_first span = record { within = λ p i. i; each = λ p i n s. i }

pub meeting_put : (pieces : List Piece) (span : Span) (k : ℕ) (d : Piece) (some new : List Piece) → k < length pieces → new ≡ some ++ slice_index_or pieces k d ∷ [] → AreMeeting (take k pieces) span some → AreMeeting (take (k + 1) pieces) span new
meeting_put pieces span k d some new inside put h = subst (λ ps. AreMeeting ps span new) (sym (take_more pieces k d inside)) (subst (AreMeeting (take k pieces ++ piece ∷ []) span) (sym put) (record {
  within = λ p i. elim (Contains-push_cases some piece p i) [
    | inl was ↦ Contains-append_left (take k pieces) (piece ∷ []) p (h.within p was)
    | inr one ↦ subst (Contains (take k pieces ++ piece ∷ [])) one (Contains-push (take k pieces) piece)
  ];
  each = λ p i n s. elim (Contains-push_cases (take k pieces) piece p i) [
    | inl was ↦ Contains-append_left some (piece ∷ []) p (h.each p was n s)
    | inr one ↦ subst (Contains (some ++ piece ∷ [])) one (Contains-push some piece)
  ];
}))
  where
    piece : Piece
    piece = slice_index_or pieces k d

pub meeting_past : (pieces : List Piece) (span : Span) (k : ℕ) (d : Piece) (some : List Piece) → k < length pieces → ((n : ℤ) → Share (slice_index_or pieces k d) span n → ⊥) → AreMeeting (take k pieces) span some → AreMeeting (take (k + 1) pieces) span some
meeting_past pieces span k d some inside none h = subst (λ ps. AreMeeting ps span some) (sym (take_more pieces k d inside)) (record {
  within = λ p i. Contains-append_left (take k pieces) (piece ∷ []) p (h.within p i);
  each = λ p i n s. elim (Contains-push_cases (take k pieces) piece p i) [
    | inl was ↦ h.each p was n s
    | inr one ↦ absurd (none n (subst (λ q. Share q span n) (sym one) s))
  ];
})
  where
    piece : Piece
    piece = slice_index_or pieces k d

pub meeting_last : (pieces : List Piece) (span : Span) (k : ℕ) (some : List Piece) → length pieces ≤ k → AreMeeting (take k pieces) span some → AreMeeting pieces span some
meeting_last pieces span k some end h = subst (λ ps. AreMeeting ps span some) (take_all k pieces end) h

-- and their rows
pub meeting_rows_first : (span : Span) → AreMeetingRows [] span []
meeting_rows_first span = record { within = λ r i. absurd (none r i); each = λ p i n s. absurd (no_piece p i) }
  where
    none : (r : LeafRow) → Contains [] r → ⊥
    none r h = let lt = h.1 in omega arith

    no_piece : (p : Piece) → Contains [] p → ⊥
    no_piece p h = let lt = h.1 in omega arith

pub meeting_rows_put : (pieces : List Piece) (span : Span) (k : ℕ) (d : Piece) (rows new : List LeafRow) → k < length pieces → new ≡ rows ++ (slice_index_or pieces k d).row ∷ [] → AreMeetingRows (take k pieces) span rows → AreMeetingRows (take (k + 1) pieces) span new
meeting_rows_put pieces span k d rows new inside put h = subst (λ ps. AreMeetingRows ps span new) (sym (take_more pieces k d inside)) (subst (AreMeetingRows (take k pieces ++ piece ∷ []) span) (sym put) (record {
  within = λ r i. elim (Contains-push_cases rows piece.row r i) [
    | inl was ↦ (let had = h.within r was in (had.0, Contains-append_left (take k pieces) (piece ∷ []) had.0 had.1, had.2))
    | inr one ↦ (piece, Contains-push (take k pieces) piece, one)
  ];
  each = λ p i n s. elim (Contains-push_cases (take k pieces) piece p i) [
    | inl was ↦ Contains-append_left rows (piece.row ∷ []) p.row (h.each p was n s)
    | inr one ↦ subst (λ (q : Piece). Contains (rows ++ piece.row ∷ []) q.row) one (Contains-push rows piece.row)
  ];
}))
  where
    piece : Piece
    piece = slice_index_or pieces k d

pub meeting_rows_past : (pieces : List Piece) (span : Span) (k : ℕ) (d : Piece) (rows : List LeafRow) → k < length pieces → ((n : ℤ) → Share (slice_index_or pieces k d) span n → ⊥) → AreMeetingRows (take k pieces) span rows → AreMeetingRows (take (k + 1) pieces) span rows
meeting_rows_past pieces span k d rows inside none h = subst (λ ps. AreMeetingRows ps span rows) (sym (take_more pieces k d inside)) (record {
  within = λ r i. (let had = h.within r i in (had.0, Contains-append_left (take k pieces) (piece ∷ []) had.0 had.1, had.2));
  each = λ p i n s. elim (Contains-push_cases (take k pieces) piece p i) [
    | inl was ↦ h.each p was n s
    | inr one ↦ absurd (none n (subst (λ q. Share q span n) (sym one) s))
  ];
})
  where
    piece : Piece
    piece = slice_index_or pieces k d

pub meeting_rows_last : (pieces : List Piece) (span : Span) (k : ℕ) (rows : List LeafRow) → length pieces ≤ k → AreMeetingRows (take k pieces) span rows → AreMeetingRows pieces span rows
meeting_rows_last pieces span k rows end h = subst (λ ps. AreMeetingRows ps span rows) (take_all k pieces end) h

below : (a b c : ℤ) → a ≤ℤ b → b ≤ℤ c → a ≤ℤ c
below a b c f g = omega (arith, ints)

-- a value of a part of a span is one of the span
abbrev within_at : (wide span : Span) (place : ℕ) (event : Event) → IsWithin wide span → IsAt place span event → IsAt place wide event
within_at wide span place event w at = (at.0, at.1, (at.2.0, subst (λ k. IsNumbered k at.0 at.2.0) w.kinded at.2.1, below wide.low span.low at.2.0 w.low at.2.2, below at.2.0 span.high wide.high at.2.3 w.high))

-- the pieces for a part of a span
pub part_pieces : (rows : List LeafRow) (leaves : List IndexedLeaf) (place : ℕ) (wide span : Span) (pieces some : List Piece) → IsWithin wide span → AreMeeting pieces span some → ArePieces rows leaves place wide pieces → ArePieces rows leaves place span some
part_pieces rows leaves place wide span pieces some within here h = record {
  within = λ p i. h.within p (here.within p i);
  others = λ r i event at. elim (h.others r i event (within_at wide span place event within at)) [
    | inl has ↦ inl (record { piece = has.piece; listed = here.each has.piece has.listed at.2.0 (has.low, has.high, at.2.2, at.2.3); of = has.of; low = has.low; high = has.high })
    | inr none ↦ inr none
  ];
}

-- and the rows for one
pub part_rows : (rows : List LeafRow) (leaves : List IndexedLeaf) (place : ℕ) (wide span : Span) (pieces : List Piece) (some : List LeafRow) → IsWithin wide span → AreMeetingRows pieces span some → ArePieces rows leaves place wide pieces → AreRowsOver rows leaves place (record { kind = wide.kind; low = span.low; high = span.high }) some
part_rows rows leaves place wide span pieces some within here h = subst (λ k. AreRowsOver rows leaves place (record { kind = k; low = span.low; high = span.high }) some) within.kinded (record {
  within = λ r i. (let had = here.within r i in subst (Contains rows) had.2 (h.within had.0 had.1));
  others = λ r i event at. elim (h.others r i event (within_at wide span place event within at)) [
    | inl has ↦ inl (subst (Contains some) has.of (here.each has.piece has.listed at.2.0 (has.low, has.high, at.2.2, at.2.3)))
    | inr none ↦ inr none
  ];
})
