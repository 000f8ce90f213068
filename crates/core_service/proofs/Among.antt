-- What the held cursor of a number has left, as cursors come, change and go.
use Rattle.std.proofs.Common.{◌≡◌, ℕ, zero, suc, ◌+◌, ◌==◌, ◌<◌, ◌≤◌, cond, Bool, true, false, List, [], ◌∷◌, ◌++◌, length, map, reverse, position, remove, get_or, slice_get, slice_set, All, Option, Some, None, refl, sym, ◌∙◌, ap, ap₂, subst, arith}
use Rattle.std.specs.List.{position_or_len}
use Rattle.std.proofs.lemmas.Bool.{eqb-true, eq-eqb, false_from_ne_true}
use Rattle.std.proofs.lemmas.Grind.{common_steps}
use Rattle.std.proofs.lemmas.List.Sums.{fails_before_first}
use Rattle.cel_terms.specs.Answers.{Answer}
use Rattle.answer_text.specs.OutputRows.{row_at}
use Rattle.query_engine.specs.Engine.{EngineState, Open, Fits, KeepsCursors, IsKept, rest}
use Rattle.query_engine.specs.Holding.{answer_of}
use Rattle.core_service.specs.declared.marks.HeldMark.{HeldMark}
use Rattle.core_service.specs.Answering.{AreKept}
use Rattle.core_service.specs.Holding.{HeldRows, RiseTo, cursor_rows, rows_among}

-- TESTS

not_same : (a b : ℕ) → (a ≡ b → ⊥) → (a == b) ≡ false
not_same a b differ = false_from_ne_true (a == b) (λ same. differ (eqb-true a b same))

module _ (e : EngineState) (m : HeldMark) (c : Open) (marks : List HeldMark) (cursors : List Open) (number : ℕ) where
  first_is : m.number ≡ number → rows_among e (m ∷ marks) (c ∷ cursors) number ≡ Some (cursor_rows e m c)
  first_is same = ap (λ (b : Bool). cond b (Some (cursor_rows e m c)) (rows_among e marks cursors number)) (eq-eqb m.number number same)

  first_is_not : (m.number ≡ number → ⊥) → rows_among e (m ∷ marks) (c ∷ cursors) number ≡ rows_among e marks cursors number
  first_is_not differ = ap (λ (b : Bool). cond b (Some (cursor_rows e m c)) (rows_among e marks cursors number)) (not_same m.number number differ)

-- the first cursor aside, the two lists tell the same
same_behind : (e f : EngineState) (m n : HeldMark) (c d : Open) (ms ns : List HeldMark) (cs ds : List Open) (number : ℕ) → m.number ≡ n.number → cursor_rows e m c ≡ cursor_rows f n d → rows_among e ms cs number ≡ rows_among f ns ds number →
    rows_among e (m ∷ ms) (c ∷ cs) number ≡ rows_among f (n ∷ ns) (d ∷ ds) number
same_behind e f m n c d ms ns cs ds number same rows behind =
    ap (λ (k : ℕ). cond (k == number) (Some (cursor_rows e m c)) (rows_among e ms cs number)) same
    ∙ (ap (λ (r : HeldRows). cond (n.number == number) (Some r) (rows_among e ms cs number)) rows ∙ ap (λ (o : Option HeldRows). cond (n.number == number) (Some (cursor_rows f n d)) o) behind)

-- NUMBERS THAT RISE

rise_low : (low last : ℕ) (marks : List HeldMark) → RiseTo low last marks → low ≤ last
rise_low low last [] h = h
rise_low low last (m ∷ marks) h = let less = h.0 in let rest = rise_low m.number last marks h.1 in omega arith

rise_at : (low last : ℕ) (marks : List HeldMark) (k : ℕ) (m : HeldMark) → RiseTo low last marks → slice_get marks k ≡ Some m → low < m.number
rise_at low last [] k m h at = absurd (let clash : None ≡ Some m = at in cc)
rise_at low last (x ∷ marks) zero m h at = let one : x ≡ m = cc in subst (λ (y : HeldMark). low < y.number) one h.0
rise_at low last (x ∷ marks) (suc k) m h at = let less = h.0 in let rest = rise_at x.number last marks k m h.1 at in omega arith

pub rise_more : (low last : ℕ) (marks : List HeldMark) (m : HeldMark) → RiseTo low last marks → last < m.number → RiseTo low m.number (marks ++ m ∷ [])
rise_more low last [] m h less = (omega (arith, h, less), omega arith)
rise_more low last (x ∷ marks) m h less = (h.0, rise_more x.number last marks m h.1 less)

rise_from : (low least last : ℕ) (marks : List HeldMark) → least ≤ low → RiseTo low last marks → RiseTo least last marks
rise_from low least last [] less h = omega (arith, h, less)
rise_from low least last (x ∷ marks) less h = (let first = h.0 in omega arith, h.1)

pub rise_fewer : (low last : ℕ) (marks : List HeldMark) (k : ℕ) → k < length marks → RiseTo low last marks → RiseTo low last (remove marks k)
rise_fewer low last [] k inside h = absurd (omega (arith, inside))
rise_fewer low last (x ∷ marks) zero inside h = let first = h.0 in rise_from x.number low last marks (omega arith) h.1
rise_fewer low last (x ∷ marks) (suc k) inside h = (h.0, rise_fewer x.number last marks k (omega (arith, inside)) h.1)

pub rise_set : (low last : ℕ) (marks : List HeldMark) (k : ℕ) (m n : HeldMark) → slice_get marks k ≡ Some m → n.number ≡ m.number → RiseTo low last marks → RiseTo low last (slice_set marks k n)
rise_set low last [] k m n at same h = absurd (let clash : None ≡ Some m = at in cc)
rise_set low last (x ∷ marks) zero m n at same h =
    let one : x ≡ m = cc in
    let number : x.number ≡ n.number = ap (λ (y : HeldMark). y.number) one ∙ sym same in
    subst (λ (j : ℕ). (low < j) × RiseTo j last marks) number h
rise_set low last (x ∷ marks) (suc k) m n at same h = (h.0, rise_set x.number last marks k m n at same h.1)

-- WHERE THE CURSOR OF A NUMBER STANDS

pub at_place : (e : EngineState) (low last : ℕ) (marks : List HeldMark) (cursors : List Open) (number k : ℕ) (m : HeldMark) (c : Open) → RiseTo low last marks → slice_get marks k ≡ Some m → slice_get cursors k ≡ Some c → m.number ≡ number →
    rows_among e marks cursors number ≡ Some (cursor_rows e m c)
at_place e low last [] cursors number k m c h at there same = absurd (let clash : None ≡ Some m = at in cc)
at_place e low last (x ∷ marks) [] number k m c h at there same = absurd (let clash : None ≡ Some c = there in cc)
at_place e low last (x ∷ marks) (y ∷ cursors) number zero m c h at there same =
    let one : x ≡ m = cc in
    let two : y ≡ c = cc in
    first_is e x y marks cursors number (ap (λ (z : HeldMark). z.number) one ∙ same) ∙ ap Some (ap₂ (cursor_rows e) one two)
at_place e low last (x ∷ marks) (y ∷ cursors) number (suc k) m c h at there same =
    let above = rise_at x.number last marks k m h.1 at in
    first_is_not e x y marks cursors number (λ equal. omega (arith, above, same, equal)) ∙ at_place e x.number last marks cursors number k m c h.1 at there same

-- no number is that one
none_among : (e : EngineState) (marks : List HeldMark) (cursors : List Open) (number : ℕ) → ((k : ℕ) (d : HeldMark) → k < length marks → ((get_or marks k d).number == number) ≡ false) → rows_among e marks cursors number ≡ None
none_among e [] cursors number none = refl
none_among e (m ∷ marks) [] number none = refl
none_among e (m ∷ marks) (c ∷ cursors) number none =
    ap (λ (b : Bool). cond b (Some (cursor_rows e m c)) (rows_among e marks cursors number)) (none zero m (omega arith)) ∙ none_among e marks cursors number (λ k d less. none (suc k) d (omega (arith, less)))

pub not_held : (e : EngineState) (marks : List HeldMark) (cursors : List Open) (number : ℕ) → position (λ (m : HeldMark). m.number == number) marks ≡ None → rows_among e marks cursors number ≡ None
not_held e marks cursors number none = none_among e marks cursors number (λ k d less.
    let far : length marks ≤ position_or_len (λ (m : HeldMark). m.number == number) marks = grind (arith, common_steps) in
    fails_before_first (λ (m : HeldMark). m.number == number) marks k d (omega arith))

-- all numbers are below that one
free_above : (e : EngineState) (low last : ℕ) (marks : List HeldMark) (cursors : List Open) (number : ℕ) → RiseTo low last marks → last < number → rows_among e marks cursors number ≡ None
free_above e low last [] cursors number h above = refl
free_above e low last (m ∷ marks) [] number h above = refl
free_above e low last (m ∷ marks) (c ∷ cursors) number h above =
    let most = rise_low m.number last marks h.1 in
    first_is_not e m c marks cursors number (λ equal. omega (arith, most, above, equal)) ∙ free_above e m.number last marks cursors number h.1 above

-- all numbers are above that one
free_below : (e : EngineState) (low last : ℕ) (marks : List HeldMark) (cursors : List Open) (number : ℕ) → RiseTo low last marks → number ≤ low → rows_among e marks cursors number ≡ None
free_below e low last [] cursors number h below = refl
free_below e low last (m ∷ marks) [] number h below = refl
free_below e low last (m ∷ marks) (c ∷ cursors) number h below =
    let first = h.0 in
    first_is_not e m c marks cursors number (λ equal. omega (arith, first, below, equal)) ∙ free_below e m.number last marks cursors number h.1 (omega (arith, first, below))

pub free_next : (e : EngineState) (last : ℕ) (marks : List HeldMark) (cursors : List Open) → RiseTo 0 last marks → rows_among e marks cursors (last + 1) ≡ None
free_next e last marks cursors h = free_above e 0 last marks cursors (last + 1) h (omega arith)

-- A CURSOR COMES

pub others_more : (e : EngineState) (marks : List HeldMark) (cursors : List Open) (m : HeldMark) (c : Open) (other : ℕ) → length marks ≡ length cursors → (other ≡ m.number → ⊥) →
    rows_among e (marks ++ m ∷ []) (cursors ++ c ∷ []) other ≡ rows_among e marks cursors other
others_more e [] [] m c other long differ = first_is_not e m c [] [] other (λ equal. differ (sym equal))
others_more e [] (d ∷ cursors) m c other long differ = absurd (omega (arith, long))
others_more e (x ∷ marks) [] m c other long differ = absurd (omega (arith, long))
others_more e (x ∷ marks) (y ∷ cursors) m c other long differ =
    same_behind e e x x y y (marks ++ m ∷ []) marks (cursors ++ c ∷ []) cursors other refl refl (others_more e marks cursors m c other (omega (arith, long)) differ)

pub here_more : (e : EngineState) (marks : List HeldMark) (cursors : List Open) (m : HeldMark) (c : Open) → length marks ≡ length cursors → rows_among e marks cursors m.number ≡ None →
    rows_among e (marks ++ m ∷ []) (cursors ++ c ∷ []) m.number ≡ Some (cursor_rows e m c)
here_more e [] [] m c long none = first_is e m c [] [] m.number refl
here_more e [] (d ∷ cursors) m c long none = absurd (omega (arith, long))
here_more e (x ∷ marks) [] m c long none = absurd (omega (arith, long))
here_more e (x ∷ marks) (y ∷ cursors) m c long none = by (x.number == m.number) refl (here_more e marks cursors m c (omega (arith, long)))
  where
    by : (b : Bool) → (x.number == m.number) ≡ b → (rows_among e marks cursors m.number ≡ None → rows_among e (marks ++ m ∷ []) (cursors ++ c ∷ []) m.number ≡ Some (cursor_rows e m c)) → rows_among e (x ∷ marks ++ m ∷ []) (y ∷ cursors ++ c ∷ []) m.number ≡ Some (cursor_rows e m c)
    by true is rest =
        let clash : Some (cursor_rows e x y) ≡ None = sym (first_is e x y marks cursors m.number (eqb-true x.number m.number is)) ∙ none in
        absurd cc
    by false is rest =
        let behind : rows_among e marks cursors m.number ≡ None = sym (ap (λ (b : Bool). cond b (Some (cursor_rows e x y)) (rows_among e marks cursors m.number)) is) ∙ none in
        ap (λ (b : Bool). cond b (Some (cursor_rows e x y)) (rows_among e (marks ++ m ∷ []) (cursors ++ c ∷ []) m.number)) is ∙ rest behind

-- A CURSOR CHANGES

pub get_set : {X : Type 0} (xs : List X) (k : ℕ) (x y : X) → slice_get xs k ≡ Some x → slice_get (slice_set xs k y) k ≡ Some y
get_set [] k x y at = absurd (let clash : None ≡ Some x = at in cc)
get_set (z ∷ xs) zero x y at = refl
get_set (z ∷ xs) (suc k) x y at = get_set xs k x y at

pub others_set : (e : EngineState) (marks : List HeldMark) (cursors : List Open) (k other : ℕ) (m n : HeldMark) (c d : Open) → slice_get marks k ≡ Some m → slice_get cursors k ≡ Some c → n.number ≡ m.number → (other ≡ m.number → ⊥) →
    rows_among e (slice_set marks k n) (slice_set cursors k d) other ≡ rows_among e marks cursors other
others_set e [] cursors k other m n c d at there same differ = absurd (let clash : None ≡ Some m = at in cc)
others_set e (x ∷ marks) [] k other m n c d at there same differ = absurd (let clash : None ≡ Some c = there in cc)
others_set e (x ∷ marks) (y ∷ cursors) zero other m n c d at there same differ =
    let one : x ≡ m = cc in
    let number : x.number ≡ m.number = ap (λ (z : HeldMark). z.number) one in
    first_is_not e n d marks cursors other (λ equal. differ (sym equal ∙ same)) ∙ sym (first_is_not e x y marks cursors other (λ equal. differ (sym equal ∙ number)))
others_set e (x ∷ marks) (y ∷ cursors) (suc k) other m n c d at there same differ =
    same_behind e e x x y y (slice_set marks k n) marks (slice_set cursors k d) cursors other refl refl (others_set e marks cursors k other m n c d at there same differ)

-- A CURSOR GOES

pub others_fewer : (e : EngineState) (marks : List HeldMark) (cursors : List Open) (k other : ℕ) (m : HeldMark) (c : Open) → slice_get marks k ≡ Some m → slice_get cursors k ≡ Some c → (other ≡ m.number → ⊥) →
    rows_among e (remove marks k) (remove cursors k) other ≡ rows_among e marks cursors other
others_fewer e [] cursors k other m c at there differ = absurd (let clash : None ≡ Some m = at in cc)
others_fewer e (x ∷ marks) [] k other m c at there differ = absurd (let clash : None ≡ Some c = there in cc)
others_fewer e (x ∷ marks) (y ∷ cursors) zero other m c at there differ =
    let one : x ≡ m = cc in
    sym (first_is_not e x y marks cursors other (λ equal. differ (sym equal ∙ ap (λ (z : HeldMark). z.number) one)))
others_fewer e (x ∷ marks) (y ∷ cursors) (suc k) other m c at there differ =
    same_behind e e x x y y (remove marks k) marks (remove cursors k) cursors other refl refl (others_fewer e marks cursors k other m c at there differ)

pub gone_fewer : (e : EngineState) (low last : ℕ) (marks : List HeldMark) (cursors : List Open) (k : ℕ) (m : HeldMark) → RiseTo low last marks → slice_get marks k ≡ Some m → rows_among e (remove marks k) (remove cursors k) m.number ≡ None
gone_fewer e low last [] cursors k m h at = absurd (let clash : None ≡ Some m = at in cc)
gone_fewer e low last (x ∷ marks) cursors zero m h at =
    let one : x ≡ m = cc in
    free_below e x.number last marks (remove cursors 0) m.number h.1 (let same = ap (λ (z : HeldMark). z.number) one in omega arith)
gone_fewer e low last (x ∷ marks) [] (suc k) m h at = refl
gone_fewer e low last (x ∷ marks) (y ∷ cursors) (suc k) m h at =
    let above = rise_at x.number last marks k m h.1 at in
    first_is_not e x y (remove marks k) (remove cursors k) m.number (λ equal. omega (arith, equal, above)) ∙ gone_fewer e x.number last marks cursors k m h.1 at

-- ONE ENGINE AFTER ANOTHER

-- the answer that was drawn, by what the cursor gave last
abbrev answer_drawn : Option ℕ → List ℕ → List Answer
answer_drawn None path = []
answer_drawn (Some start) path = record { start = start; marks = reverse path } ∷ []

-- a cursor is seen by its query, what it gave last and what it has left
abbrev rows_by : HeldMark → ℕ → List ℕ → List Answer → HeldRows
rows_by m query path left = record { drawn = map (row_at query m.end) (answer_drawn m.drawn path); later = map (row_at query m.end) left }

rows_seen : (e : EngineState) (m : HeldMark) (c : Open) → cursor_rows e m c ≡ rows_by m c.query c.path (map answer_of (rest e c))
rows_seen e m c = by m.drawn
  where
    by : (drawn : Option ℕ) → cursor_rows e (record m { drawn = drawn }) c ≡ rows_by (record m { drawn = drawn }) c.query c.path (map answer_of (rest e c))
    by None = refl
    by (Some start) = refl

kept_rows : (old new : EngineState) (m : HeldMark) (b c : Open) → IsKept old new b c → cursor_rows new m c ≡ cursor_rows old m b
kept_rows old new m b c kept =
    rows_seen new m c ∙ (ap (λ (q : ℕ). rows_by m q c.path (map answer_of (rest new c))) kept.query ∙ (ap (λ (p : List ℕ). rows_by m b.query p (map answer_of (rest new c))) kept.path
    ∙ (ap (λ (l : List Answer). rows_by m b.query b.path l) (ap (map answer_of) kept.rest) ∙ sym (rows_seen old m b))))

pub all_kept : (old new : EngineState) (marks : List HeldMark) (before after : List Open) (number : ℕ) → AreKept old new before after → rows_among new marks after number ≡ rows_among old marks before number
all_kept old new [] before after number kept = refl
all_kept old new (m ∷ marks) [] [] number kept = refl
all_kept old new (m ∷ marks) [] (c ∷ after) number kept = let long = kept.count in absurd (omega arith)
all_kept old new (m ∷ marks) (b ∷ before) [] number kept = let long = kept.count in absurd (omega arith)
all_kept old new (m ∷ marks) (b ∷ before) (c ∷ after) number kept =
    let long = kept.count in
    same_behind new old m m c b marks marks after before number refl (kept_rows old new m b c (kept.each 0 b (omega arith)))
    (all_kept old new marks before after number (record { count = omega arith; each = λ k d less. kept.each (suc k) d (omega (arith, less)) }))

pub fits_kept : (old new : EngineState) (before after : List Open) → AreKept old new before after → All (Fits new) after
fits_kept old new before after kept k d less = let long = kept.count in (kept.each k d (omega arith)).fits

-- an event came
pub kept_by : (old new : EngineState) (cursors : List Open) → KeepsCursors old new → All (Fits old) cursors → AreKept old new cursors cursors
kept_by old new cursors keeps fit = record {
  count = refl;
  each = λ k d less. let h = keeps (get_or cursors k d) (fit k d less) in record { query = refl; path = refl; fits = h.0; rest = h.1 };
}
