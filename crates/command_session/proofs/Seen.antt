-- The open cursors of a session as its engine and its lists of cursors change.
use Rattle.std.proofs.Common.{◌≡◌, ℕ, zero, suc, ◌+◌, ◌==◌, ◌<◌, cond, not, nat_lt, List, [], ◌∷◌, ◌++◌, length, map, position, remove, get_or, slice_get, slice_set, All, Some, None, refl, ap, ap₂, arith}
use Rattle.std.specs.List.{position_or_len}
use Rattle.cel_terms.specs.Answers.{Answer}
use Rattle.query_engine.specs.Engine.{EngineState, Open, Fits, KeepsCursors, IsKept}
use Rattle.query_engine.specs.Holding.{answer_of}
use Rattle.command_session.specs.declared.opened.CursorNumber.{CursorNumber}
use Rattle.command_session.specs.SessionModel.{OpenCursor, has_number}
use Rattle.command_session.specs.Sessions.{cursor_seen, cursors_seen, left_of}

-- A cursor is seen by its query and what it has left.
same_seen : (old new : EngineState) (o : CursorNumber) (b c : Open) → c.query ≡ b.query → left_of new c ≡ left_of old b → cursor_seen new o c ≡ cursor_seen old o b
same_seen old new o b c query left = ap₂ (λ (q : ℕ) (l : List Answer). record { number = o.number; query = q; position = o.position; left = l }) query left

-- ONE ENGINE AFTER ANOTHER

pub fits_kept : (old new : EngineState) (cursors : List Open) → KeepsCursors old new → All (Fits old) cursors → All (Fits new) cursors
fits_kept old new cursors keeps fits = λ k d lt. (keeps (get_or cursors k d) (fits k d lt)).0

pub seen_kept : (old new : EngineState) (opened : List CursorNumber) (cursors : List Open) → KeepsCursors old new → All (Fits old) cursors →
    cursors_seen new opened cursors ≡ cursors_seen old opened cursors
seen_kept old new [] cursors keeps fits = refl
seen_kept old new (o ∷ opened) [] keeps fits = refl
seen_kept old new (o ∷ opened) (c ∷ cursors) keeps fits =
    ap₂ (λ (h : OpenCursor) (t : List OpenCursor). h ∷ t)
    (same_seen old new o c c refl (ap (map answer_of) (keeps c (fits 0 c (omega arith))).1))
    (seen_kept old new opened cursors keeps (λ k d lt. fits (suc k) d (omega (arith, lt))))

-- a compaction that held them
pub fits_held : (old new : EngineState) (before after : List Open) → length after ≡ length before →
    ((k : ℕ) → (d : Open) → k < length before → IsKept old new (get_or before k d) (get_or after k d)) → All (Fits new) after
fits_held old new before after long kept = λ k d lt. (kept k d (omega (arith, lt, long))).fits

pub seen_held : (old new : EngineState) (opened : List CursorNumber) (before after : List Open) → length after ≡ length before →
    ((k : ℕ) → (d : Open) → k < length before → IsKept old new (get_or before k d) (get_or after k d)) → cursors_seen new opened after ≡ cursors_seen old opened before
seen_held old new [] before after long kept = refl
seen_held old new (o ∷ opened) [] [] long kept = refl
seen_held old new (o ∷ opened) [] (c ∷ after) long kept = absurd (omega (arith, long))
seen_held old new (o ∷ opened) (b ∷ before) [] long kept = absurd (omega (arith, long))
seen_held old new (o ∷ opened) (b ∷ before) (c ∷ after) long kept =
    let first = kept 0 b (omega arith) in
    ap₂ (λ (h : OpenCursor) (t : List OpenCursor). h ∷ t)
    (same_seen old new o b c first.query (ap (map answer_of) first.rest))
    (seen_held old new opened before after (omega (arith, long)) (λ k d lt. kept (suc k) d (omega (arith, lt))))

-- WHERE A CURSOR STANDS

seen_long : (e : EngineState) (opened : List CursorNumber) (cursors : List Open) → length opened ≡ length cursors → length (cursors_seen e opened cursors) ≡ length opened
seen_long e [] cursors long = refl
seen_long e (o ∷ opened) [] long = absurd (omega (arith, long))
seen_long e (o ∷ opened) (c ∷ cursors) long = let rest = seen_long e opened cursors (omega (arith, long)) in omega (arith, rest)

seen_first : (e : EngineState) (number : ℕ) (opened : List CursorNumber) (cursors : List Open) → length opened ≡ length cursors →
    position_or_len (has_number number) (cursors_seen e opened cursors) ≡ position_or_len (λ (o : CursorNumber). o.number == number) opened
seen_first e number [] cursors long = refl
seen_first e number (o ∷ opened) [] long = absurd (omega (arith, long))
seen_first e number (o ∷ opened) (c ∷ cursors) long =
    ap (λ (n : ℕ). cond (not (o.number == number)) (1 + n) 0) (seen_first e number opened cursors (omega (arith, long)))

pub place_seen : (e : EngineState) (number : ℕ) (opened : List CursorNumber) (cursors : List Open) → length opened ≡ length cursors →
    position (has_number number) (cursors_seen e opened cursors) ≡ position (λ (o : CursorNumber). o.number == number) opened
place_seen e number opened cursors long =
    ap₂ (λ (i n : ℕ). cond (nat_lt i n) (Some i) None) (seen_first e number opened cursors long) (seen_long e opened cursors long)

pub seen_at : (e : EngineState) (opened : List CursorNumber) (cursors : List Open) (k : ℕ) (o : CursorNumber) (c : Open) →
    slice_get opened k ≡ Some o → slice_get cursors k ≡ Some c → slice_get (cursors_seen e opened cursors) k ≡ Some (cursor_seen e o c)
seen_at e [] cursors k o c at here = absurd (let clash : None ≡ Some o = at in cc)
seen_at e (p ∷ opened) [] k o c at here = absurd (let clash : None ≡ Some c = here in cc)
seen_at e (p ∷ opened) (b ∷ cursors) zero o c at here =
    let one : p ≡ o = cc in let two : b ≡ c = cc in
    ap Some (ap₂ (λ (x : CursorNumber) (y : Open). cursor_seen e x y) one two)
seen_at e (p ∷ opened) (b ∷ cursors) (suc k) o c at here = seen_at e opened cursors k o c at here

-- ONE CURSOR CHANGES, COMES OR GOES

pub seen_set : (e : EngineState) (opened : List CursorNumber) (cursors : List Open) (k : ℕ) (o : CursorNumber) (c : Open) → slice_get opened k ≡ Some o →
    cursors_seen e opened (slice_set cursors k c) ≡ slice_set (cursors_seen e opened cursors) k (cursor_seen e o c)
seen_set e [] cursors k o c at = absurd (let clash : None ≡ Some o = at in cc)
seen_set e (p ∷ opened) [] k o c at = refl
seen_set e (p ∷ opened) (b ∷ cursors) zero o c at =
    let one : p ≡ o = cc in
    ap (λ (x : CursorNumber). cursor_seen e x c ∷ cursors_seen e opened cursors) one
seen_set e (p ∷ opened) (b ∷ cursors) (suc k) o c at =
    ap (λ (t : List OpenCursor). cursor_seen e p b ∷ t) (seen_set e opened cursors k o c at)

pub seen_more : (e : EngineState) (opened : List CursorNumber) (cursors : List Open) (o : CursorNumber) (c : Open) → length opened ≡ length cursors →
    cursors_seen e (opened ++ o ∷ []) (cursors ++ c ∷ []) ≡ cursors_seen e opened cursors ++ cursor_seen e o c ∷ []
seen_more e [] [] o c long = refl
seen_more e [] (b ∷ cursors) o c long = absurd (omega (arith, long))
seen_more e (p ∷ opened) [] o c long = absurd (omega (arith, long))
seen_more e (p ∷ opened) (b ∷ cursors) o c long =
    ap (λ (t : List OpenCursor). cursor_seen e p b ∷ t) (seen_more e opened cursors o c (omega (arith, long)))

pub seen_fewer : (e : EngineState) (opened : List CursorNumber) (cursors : List Open) (k : ℕ) → length opened ≡ length cursors → k < length opened →
    cursors_seen e (remove opened k) (remove cursors k) ≡ remove (cursors_seen e opened cursors) k
seen_fewer e [] cursors k long inside = absurd (omega (arith, inside))
seen_fewer e (p ∷ opened) [] k long inside = absurd (omega (arith, long))
seen_fewer e (p ∷ opened) (b ∷ cursors) zero long inside = refl
seen_fewer e (p ∷ opened) (b ∷ cursors) (suc k) long inside =
    ap (λ (t : List OpenCursor). cursor_seen e p b ∷ t) (seen_fewer e opened cursors k (omega (arith, long)) (omega (arith, inside)))
