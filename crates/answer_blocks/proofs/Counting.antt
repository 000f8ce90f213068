-- Rows one after another, and what they cost. For callers of the crate too.
use Rattle.std.proofs.Common.{◌≡◌, ℕ, suc, ◌+◌, ◌-◌, ◌<◌, ◌≤◌, List, [], ◌∷◌, ◌++◌, length, map, take, drop, reverse, Option, Some, Result, Ok, Err, IsPermutation, refl, sym, ◌∙◌, ap, subst, append_assoc, arith, flat_map}
use Rattle.std.specs.Prelude.{slice_get}
use Rattle.std.proofs.lemmas.List.{append-nil, take_more, take_all, take-append-drop, length-take, length-reverse, map-append}
use Rattle.std.proofs.lemmas.List.Sums.{sum_by-cons, sum_by-append}
use Rattle.std.proofs.lemmas.List.Sorted.{IsPermutation-refl, IsPermutation-sym, Contains-permutation, sum_by-IsPermutation}
use Rattle.std.proofs.lemmas.Option.{get_or_from_slice_get}
use Rattle.std.proofs.Math.Seq.{drop-cons}
use Rattle.cer_base.specs.declared.OrMemory.{OrMemory}
use Rattle.cer_base.specs.declared.OrMemory.TheVariants.{Fault, Memory}
use Rattle.cer_base.specs.Repeats.{HasNoRepeats}
use Rattle.cer_base.proofs.Repeats.{HasNoRepeats-permutation}
use Rattle.stream_schema.specs.Types.{Declared}
use Rattle.stream_schema.specs.declared.Event.{Event}
use Rattle.cel_terms.specs.declared.Query.{Query}
use Rattle.cel_terms.specs.Answers.{Answer, AreAnswersAt}
use Rattle.cer_outside.specs.Bytes.{TookAll}
use Rattle.query_engine.specs.Bounds.{delay, update_bound, for_each_query}
use Rattle.query_engine.specs.Engine.{EngineState, StandsFor}
use Rattle.query_engine.proofs.Counting.{one_query_more, fewer_queries}
use Rattle.answer_text.specs.declared.Order.{Order}
use Rattle.answer_text.specs.declared.Order.TheVariants.{Sorted}
use Rattle.answer_text.specs.Output.{line, AreInOrder}
use Rattle.answer_text.specs.OutputRows.{Row, lines_of, row_at, AreRowsOf, AreRowsAt}
use Rattle.answer_text.proofs.RowLists.{lines_both, lines_at, rows_of_block, rows_of_blocks, rows_append}
use Rattle.answer_blocks.specs.SinkBytes.{TookPrefix, TookBy}
use Rattle.answer_blocks.specs.Wanted.{wanted, AreWanted}
use Rattle.answer_blocks.specs.RowSteps.{delay_of, delays, row_delays, HasRows, HasRowsAt, StopsAmong, WroteRows}
use Rattle.answer_blocks.proofs.Blocks.{wanted_are_there, wanted_once, enough, some_block_is, some_blocks_are}
use Rattle.answer_blocks.proofs.Sorting.{in_order, in_order_moves, in_order_is}
use Rattle.answer_blocks.proofs.Joined.{item_at, none_wanted, none_in_order}
use Rattle.answer_blocks.proofs.Writing.{all_after, prefix_after, line_failed}

-- DELAYS

pub delays_mapped : (number end : ℕ) (answers : List Answer) → row_delays (map (row_at number end) answers) ≡ delays answers
delays_mapped number end [] = refl
delays_mapped number end (a ∷ answers) =
    let rest = delays_mapped number end answers in
    let one = sum_by-cons (λ (row : Row). delay_of row.answer) (row_at number end a) (map (row_at number end) answers) in
    let two = sum_by-cons delay_of a answers in
    omega arith

pub delays_both : (front rest : List Row) → row_delays (front ++ rest) ≡ row_delays front + row_delays rest
delays_both front rest = sum_by-append (λ (row : Row). delay_of row.answer) front rest

delays_one : (row : Row) → row_delays (row ∷ []) ≡ delay_of row.answer
delays_one row = let one = sum_by-cons (λ (row : Row). delay_of row.answer) row [] in omega (arith, one)

length_back : (path : List ℕ) → length (reverse path) ≡ length path
length_back path = length-reverse path

-- the same answers in another order have the same delays
pub delays_moved : (xs ys : List Answer) → IsPermutation xs ys → delays ys ≡ delays xs
delays_moved xs ys moved = sum_by-IsPermutation delay_of xs ys moved

-- An answer was asked for: its delay is no longer to come.
pub one_given : (before now start : ℕ) (path : List ℕ) (left later : List Answer) → left ≡ record { start = start; marks = reverse path } ∷ later →
    now ≤ before + delay (length path) → now + delays later ≤ before + delays left
one_given before now start path left later is cost =
    let one = sum_by-cons delay_of (record { start = start; marks = reverse path }) later in
    let same : delays left ≡ delays (record { start = start; marks = reverse path } ∷ later) = ap delays is in
    let long = length_back path in
    omega (arith, cost, one, same, long)

-- likewise after steps before
pub one_more_given : (first before now start : ℕ) (path : List ℕ) (all left later : List Answer) → before + delays left ≤ first + delays all → left ≡ record { start = start; marks = reverse path } ∷ later →
    now ≤ before + delay (length path) → now + delays later ≤ first + delays all
one_more_given first before now start path all left later so_far is cost =
    let one = one_given before now start path left later is cost in omega (arith, so_far, one)

-- THE ROWS OF A QUERY

rows_of_wanted : (order : Order) (schema : Declared) (number : ℕ) (q : Query) (events : List Event) (end : ℕ) (all answers : List Answer) →
    AreAnswersAt schema q events end all → IsPermutation (wanted q.any all) answers → AreInOrder order answers →
    AreRowsOf order schema number q events end (map (row_at number end) answers)
rows_of_wanted order schema number q events end all answers h moved ordered = record {
  answers = answers;
  distinct = HasNoRepeats-permutation (wanted q.any all) answers moved (wanted_once q.any all h.once);
  right = λ a c. h.each a (wanted_are_there q.any all a (Contains-permutation answers (wanted q.any all) a (IsPermutation-sym (wanted q.any all) answers moved) c));
  enough = enough q.any schema q events end all answers h moved;
  ordered = ordered;
  are = refl;
}

-- The rows of what was pulled.
pub rows_pulled : (order : Order) (engine : EngineState) (number : ℕ) (given answers : List Answer) (P : List Row → Type 0) →
    AreWanted engine number given → IsPermutation given answers → (HasNoRepeats given → AreInOrder order answers) →
    ((end : ℕ) (events : List Event) → StandsFor engine events → end ≡ length events - 1 → P (map (row_at number end) answers)) → HasRows order engine number P
rows_pulled order engine number given answers P are moved ordered h = record {
  rows_are = λ events q stands at.
      let w = are.are events q stands at in
      let wanted_moved : IsPermutation (wanted q.any w.0) answers = subst (λ (l : List Answer). IsPermutation l answers) w.2 moved in
      let once : HasNoRepeats given = subst HasNoRepeats (sym w.2) (wanted_once q.any w.0 w.1.once) in (
        map (row_at number (length events - 1)) answers,
        rows_of_wanted order engine.schema number q events (length events - 1) w.0 answers w.1 wanted_moved (ordered once),
        h (length events - 1) events stands refl,
      );
}

-- the same, where the position is known
pub rows_pulled_at : (order : Order) (engine : EngineState) (number end : ℕ) (given answers : List Answer) (P : List Row → Type 0) →
    AreWanted engine number given → IsPermutation given answers → (HasNoRepeats given → AreInOrder order answers) →
    ((events : List Event) → StandsFor engine events → end ≡ length events - 1) → P (map (row_at number end) answers) → HasRows order engine number P
rows_pulled_at order engine number end given answers P are moved ordered at_end h =
    rows_pulled order engine number given answers P are moved ordered
    (λ last events stands is. subst (λ (e : ℕ). P (map (row_at number e) answers)) (at_end events stands ∙ sym is) h)

-- the answers that are wanted, in order, whatever the position
pub rows_in_order : (engine : EngineState) (number : ℕ) (given : List Answer) (P : List Row → Type 0) → AreWanted engine number given →
    ((end : ℕ) → P (map (row_at number end) (in_order given))) → HasRows Sorted engine number P
rows_in_order engine number given P are h =
    rows_pulled Sorted engine number given (in_order given) P are (in_order_moves given) (in_order_is given) (λ end events stands is. h end)

-- Where there is no answer, there is no row.
pub no_rows_of : (order : Order) (engine : EngineState) (number : ℕ) (P : List Row → Type 0) →
    ((events : List Event) (q : Query) → StandsFor engine events → slice_get engine.queries (number - 1) ≡ Some q → AreAnswersAt engine.schema q events (length events - 1) []) →
    P [] → HasRows order engine number P
no_rows_of order engine number P none h = record {
  rows_are = λ events q stands at.
      let moved : IsPermutation (wanted q.any []) [] = subst (λ (l : List Answer). IsPermutation l []) (sym (none_wanted q.any)) (IsPermutation-refl []) in
      ([], rows_of_wanted order engine.schema number q events (length events - 1) [] [] (none events q stands at) moved (none_in_order order), h);
}

-- Some rows are those of the query, whatever it is that is said of any rows.
pub some_rows : (order : Order) (engine : EngineState) (number : ℕ) (P : List Row → Type 0) → ((rows : List Row) → P rows) → HasRows order engine number P
some_rows order engine number P every = record {
  rows_are = λ events q stands at.
      let some = some_block_is order engine.schema number q events (length events - 1) in
      let rows = rows_of_block order engine.schema number q events (length events - 1) some.0 some.1 in
      (rows.0, rows.1, every rows.0);
}

-- a weaker fact of them
pub rows_weaker : (order : Order) (engine : EngineState) (number : ℕ) (P Q : List Row → Type 0) → ((rows : List Row) → P rows → Q rows) → HasRows order engine number P → HasRows order engine number Q
rows_weaker order engine number P Q less h = record {
  rows_are = λ events q stands at. let r = h.rows_are events q stands at in (r.0, r.1, less r.0 r.2);
}

-- THE ROWS OF THE QUERIES

one_of : (order : Order) (schema : Declared) (number : ℕ) (q : Query) (events : List Event) (end : ℕ) (rows : List Row) →
    AreRowsOf order schema number q events end rows → AreRowsAt order schema number (q ∷ []) events end rows
one_of order schema number q events end rows h = (rows, [], h, refl, sym (append-nil rows))

-- The rows of a query more,
pub rows_more : (order : Order) (engine : EngineState) (P Q R : List Row → Type 0) (k : ℕ) → k < length engine.queries →
    HasRowsAt order engine (take k engine.queries) P → HasRows order engine (k + 1) Q →
    ((front back : List Row) → P front → Q back → R (front ++ back)) → HasRowsAt order engine (take (k + 1) engine.queries) R
rows_more order engine P Q R k within h g join = record {
  rows_are = λ events stands.
      let queries = engine.queries in
      let item = item_at queries k within in
      let one_less : (k + 1) - 1 ≡ k = omega arith in
      let before = h.rows_are events stands in
      let here = g.rows_are events item.0 stands (ap (slice_get queries) one_less ∙ item.1) in
      let more : take (k + 1) queries ≡ take k queries ++ item.0 ∷ [] =
      take_more queries k item.0 within ∙ ap (λ (q : Query). take k queries ++ q ∷ []) (get_or_from_slice_get queries k item.0 item.0 item.1) in
      let long : length (take k queries) ≡ k = omega (arith, length-take k queries) in
      let number : k + 1 ≡ 1 + length (take k queries) = omega (arith, long) in (
        before.0 ++ here.0,
        subst (λ (qs : List Query). AreRowsAt order engine.schema 1 qs events (length events - 1) (before.0 ++ here.0)) (sym more)
            (rows_append order engine.schema 1 (k + 1) (take k queries) (item.0 ∷ []) events (length events - 1) before.0 here.0 number before.1
            (one_of order engine.schema (k + 1) item.0 events (length events - 1) here.0 here.1)),
        join before.0 here.0 before.2 here.2,
      );
}

-- and those of the later queries, where it is the last that was begun.
pub rows_cut : (order : Order) (engine : EngineState) (P Q R : List Row → Type 0) (k : ℕ) → k < length engine.queries →
    HasRowsAt order engine (take k engine.queries) P → HasRows order engine (k + 1) Q →
    ((front back rest : List Row) → P front → Q back → R (front ++ (back ++ rest))) → HasRowsAt order engine engine.queries R
rows_cut order engine P Q R k within h g join = record {
  rows_are = λ events stands.
      let queries = engine.queries in
      let end = length events - 1 in
      let item = item_at queries k within in
      let one_less : (k + 1) - 1 ≡ k = omega arith in
      let before = h.rows_are events stands in
      let here = g.rows_are events item.0 stands (ap (slice_get queries) one_less ∙ item.1) in
      let blocks = some_blocks_are order engine.schema ((k + 1) + 1) (drop (suc k) queries) events end in
      let later = rows_of_blocks order engine.schema ((k + 1) + 1) (drop (suc k) queries) events end blocks.0 blocks.1 in
      let next : drop k queries ≡ item.0 ∷ drop (suc k) queries =
      drop-cons queries k item.0 within ∙ ap (λ (q : Query). q ∷ drop (suc k) queries) (get_or_from_slice_get queries k item.0 item.0 item.1) in
      let whole : take k queries ++ item.0 ∷ drop (suc k) queries ≡ queries =
      ap (λ (qs : List Query). take k queries ++ qs) (sym next) ∙ take-append-drop k queries in
      let long : length (take k queries) ≡ k = omega (arith, length-take k queries) in
      let number : k + 1 ≡ 1 + length (take k queries) = omega (arith, long) in
      let behind : AreRowsAt order engine.schema (k + 1) (item.0 ∷ drop (suc k) queries) events end (here.0 ++ later.0) = (here.0, later.0, here.1, later.1, refl) in (
        before.0 ++ (here.0 ++ later.0),
        subst (λ (qs : List Query). AreRowsAt order engine.schema 1 qs events end (before.0 ++ (here.0 ++ later.0))) whole
            (rows_append order engine.schema 1 (k + 1) (take k queries) (item.0 ∷ drop (suc k) queries) events end before.0 (here.0 ++ later.0) number before.1 behind),
        join before.0 here.0 later.0 before.2 here.2,
      );
}

-- No query has been begun,
pub no_rows : (order : Order) (engine : EngineState) (P : List Row → Type 0) → P [] → HasRowsAt order engine (take 0 engine.queries) P
no_rows order engine P h = record { rows_are = λ events stands. ([], refl, h) }

-- or all are done.
pub all_rows : (order : Order) (engine : EngineState) (P Q : List Row → Type 0) (k : ℕ) → length engine.queries ≤ k → ((rows : List Row) → P rows → Q rows) →
    HasRowsAt order engine (take k engine.queries) P → HasRowsAt order engine engine.queries Q
all_rows order engine P Q k past less h =
    let all : HasRowsAt order engine engine.queries P = subst (λ (qs : List Query). HasRowsAt order engine qs P) (take_all k engine.queries past) h in
    record { rows_are = λ events stands. let r = all.rows_are events stands in (r.0, r.1, less r.0 r.2) }

-- ROWS THAT ARE WRITTEN

-- more steps may be taken
pub stops_later : (before after : Option (List ℕ)) (rows : List Row) (most more now : ℕ) → most ≤ more → StopsAmong before after rows most now → StopsAmong before after rows more now
stops_later before after rows most more now less s = record {
  whole = s.whole;
  one = s.one;
  later = s.later;
  rows_are = s.rows_are;
  middle = s.middle;
  took = s.took;
  part = s.part;
  steps = let h = s.steps in omega arith;
}

pub wrote_later : {T F : Type 0} (before after : Option (List ℕ)) (rows : List Row) (most more now : ℕ) (result : Result T (OrMemory F)) → most ≤ more → WroteRows before after rows most now result → WroteRows before after rows more now result
wrote_later before after rows most more now (Ok done) less w = (w.0, let h = w.1 in omega arith)
wrote_later before after rows most more now (Err (Fault f)) less w = stops_later before after rows most more now less w
wrote_later before after rows most more now (Err Memory) less w = (w.0, let h = w.1 in omega arith)

-- All of the one, and then all of the other.
pub wrote_both : (first middle last : Option (List ℕ)) (front back : List Row) (start most extra mid now : ℕ) →
    TookAll first middle (lines_of front) × (mid ≤ most + row_delays front) → TookAll middle last (lines_of back) × (now ≤ mid + extra + row_delays back) →
    TookAll first last (lines_of (front ++ back)) × (now ≤ most + extra + row_delays (front ++ back))
wrote_both first middle last front back start most extra mid now p q = (
  subst (TookAll first last) (sym (lines_both front back)) (all_after first middle last (lines_of front) (lines_of back) p.0 q.0),
  let a = p.1 in let b = q.1 in let c = delays_both front back in omega arith,
)

stops_behind : (front whole later rest back : List Row) (one : Row) → back ≡ whole ++ one ∷ later → front ++ (back ++ rest) ≡ (front ++ whole) ++ one ∷ (later ++ rest)
stops_behind front whole later rest back one is =
    ap (λ (l : List Row). front ++ (l ++ rest)) is
    ∙ (ap (λ (l : List Row). front ++ l) (append_assoc whole (one ∷ later) rest) ∙ sym (append_assoc front whole (one ∷ (later ++ rest))))

-- All of the one, and then an error in the other.
pub wrote_then_failed : {F : Type 0} (first middle last : Option (List ℕ)) (front back rest : List Row) (most extra all mid now : ℕ) (e : OrMemory F) → extra ≤ all →
    TookAll first middle (lines_of front) × (mid ≤ most + row_delays front) → WroteRows {T = Unit {0}} middle last back (mid + extra) now (Err e) →
    WroteRows {T = Unit {0}} first last (front ++ (back ++ rest)) (most + all) now (Err e)
wrote_then_failed first middle last front back rest most extra all mid now (Fault f) less p s = record {
  whole = front ++ s.whole;
  one = s.one;
  later = s.later ++ rest;
  rows_are = stops_behind front s.whole s.later rest back s.one s.rows_are;
  middle = s.middle;
  took = subst (TookAll first s.middle) (sym (lines_both front s.whole)) (all_after first middle s.middle (lines_of front) (lines_of s.whole) p.0 s.took);
  part = s.part;
  steps =
      let a = p.1 in
      let b = s.steps in
      let c = delays_both front (s.whole ++ s.one ∷ []) in
      let d : row_delays ((front ++ s.whole) ++ s.one ∷ []) ≡ row_delays (front ++ (s.whole ++ s.one ∷ [])) = ap row_delays (append_assoc front s.whole (s.one ∷ [])) in
      omega arith;
}
wrote_then_failed first middle last front back rest most extra all mid now Memory less p s = (
  prefix_after first middle last (lines_of front) (lines_of back) (lines_of rest) (lines_of (front ++ (back ++ rest))) (lines_three front back rest) p.0 s.0,
  let a = p.1 in let b = s.1 in let c = delays_both front (back ++ rest) in let d = delays_both back rest in omega arith,
)
  where
    lines_three : (front back rest : List Row) → lines_of (front ++ (back ++ rest)) ≡ (lines_of front ++ lines_of back) ++ lines_of rest
    lines_three front back rest =
        lines_both front (back ++ rest) ∙ (ap (λ (l : List ℕ). lines_of front ++ l) (lines_both back rest) ∙ sym (append_assoc (lines_of front) (lines_of back) (lines_of rest)))

-- A block more, of the query after so many,
pub one_block_more : (first middle last : Option (List ℕ)) (front back : List Row) (start mid now k : ℕ) (cost : ℕ → ℕ) →
    TookAll first middle (lines_of front) × (mid ≤ start + for_each_query k cost + row_delays front) → TookAll middle last (lines_of back) × (now ≤ mid + cost (k + 1) + row_delays back) →
    TookAll first last (lines_of (front ++ back)) × (now ≤ start + for_each_query (k + 1) cost + row_delays (front ++ back))
one_block_more first middle last front back start mid now k cost p q =
    let both = wrote_both first middle last front back start (start + for_each_query k cost) (cost (k + 1)) mid now p q in
    (both.0, let h = both.1 in let more = one_query_more k cost in omega arith)

cost_within : (k n : ℕ) (cost : ℕ → ℕ) → k < n → for_each_query k cost + cost (k + 1) ≤ for_each_query n cost
cost_within k n cost less =
    let at : k + 1 + (n - (k + 1)) ≡ n = omega arith in
    let within : for_each_query (k + 1) cost ≤ for_each_query n cost = subst (λ (m : ℕ). for_each_query (k + 1) cost ≤ for_each_query m cost) at (fewer_queries (k + 1) (n - (k + 1)) cost) in
    let more = one_query_more k cost in
    omega arith

-- an error in it,
pub one_block_failed : {F : Type 0} (first middle last : Option (List ℕ)) (front back rest : List Row) (start mid now k n : ℕ) (cost : ℕ → ℕ) (e : OrMemory F) → k < n →
    TookAll first middle (lines_of front) × (mid ≤ start + for_each_query k cost + row_delays front) → WroteRows {T = Unit {0}} middle last back (mid + cost (k + 1)) now (Err e) →
    WroteRows {T = Unit {0}} first last (front ++ (back ++ rest)) (start + for_each_query n cost) now (Err e)
one_block_failed first middle last front back rest start mid now k n cost e less p q =
    let within = cost_within k n cost less in
    wrote_later {T = Unit {0}} first last (front ++ (back ++ rest)) (start + for_each_query k cost + cost (k + 1)) (start + for_each_query n cost) now (Err e) (omega arith)
    (wrote_then_failed first middle last front back rest (start + for_each_query k cost) (cost (k + 1)) (cost (k + 1)) mid now e (omega arith) p q)

-- and all of them.
pub all_done : (first last : Option (List ℕ)) (rows : List Row) (start now k n : ℕ) (cost : ℕ → ℕ) → k ≤ n →
    TookAll first last (lines_of rows) × (now ≤ start + for_each_query k cost + row_delays rows) → TookAll first last (lines_of rows) × (now ≤ start + for_each_query n cost + row_delays rows)
all_done first last rows start now k n cost upto p =
    let at : k + (n - k) ≡ n = omega arith in
    let within : for_each_query k cost ≤ for_each_query n cost = subst (λ (m : ℕ). for_each_query k cost ≤ for_each_query m cost) at (fewer_queries k (n - k) cost) in
    (p.0, let h = p.1 in omega arith)

-- ANSWERS THAT ARE WRITTEN

-- All that were to be given are written.
pub all_given : (number end : ℕ) (before after : Option (List ℕ)) (all answers left : List Answer) (first mid now : ℕ) → all ≡ answers ++ left → left ≡ [] → TookAll before after (flat_map (line number end) answers) →
    mid + delays left ≤ first + delays all → now ≤ mid + 1 → TookAll before after (lines_of (map (row_at number end) all)) × (now ≤ first + 1 + row_delays (map (row_at number end) all))
all_given number end before after all answers left first mid now split none took so_far last =
    let whole : all ≡ answers = split ∙ (ap (λ (l : List Answer). answers ++ l) none ∙ append-nil answers) in (
      subst (TookAll before after) (sym (lines_at number end all)) (subst (λ (l : List Answer). TookAll before after (flat_map (line number end) l)) (sym whole) took),
      let same = delays_mapped number end all in omega arith,
    )

delays_split : (all answers left later : List Answer) (a : Answer) → all ≡ answers ++ left → left ≡ a ∷ later → delays all ≡ delays answers + delay_of a + delays later
delays_split all answers left later a split next =
    let one : delays all ≡ delays (answers ++ left) = ap delays split in
    let two = sum_by-append delay_of answers left in
    let three : delays left ≡ delays (a ∷ later) = ap delays next in
    let four = sum_by-cons delay_of a later in
    omega arith

-- An error at a line.
pub line_stops : {F : Type 0} (number end : ℕ) (before middle after : Option (List ℕ)) (all answers left later : List Answer) (a : Answer) (first now : ℕ) (e : OrMemory F) →
    all ≡ answers ++ left → left ≡ a ∷ later → TookAll before middle (flat_map (line number end) answers) → now + delays later ≤ first + delays all →
    TookBy {T = Unit {0}} middle after (line number end a) (Err e) → WroteRows {T = Unit {0}} before after (map (row_at number end) all) (first + 1) now (Err e)
line_stops number end before middle after all answers left later a first now (Fault f) split next took so_far part =
    let f = row_at number end in record {
      whole = map f answers;
      one = f a;
      later = map f later;
      rows_are = ap (map f) (split ∙ ap (λ (l : List Answer). answers ++ l) next) ∙ map-append f answers (a ∷ later);
      middle = middle;
      took = subst (TookAll before middle) (sym (lines_at number end answers)) took;
      part = part;
      steps =
          let one = delays_split all answers left later a split next in
          let two = delays_both (map f answers) (f a ∷ []) in
          let three = delays_mapped number end answers in
          let four = delays_one (f a) in
          omega arith;
    }
line_stops {F} number end before middle after all answers left later a first now Memory split next took so_far part = (
  subst (TookPrefix before after) (sym (lines_at number end all)) (line_failed {F = F} number end before middle after all answers left later a Memory split next took part),
  let same = delays_mapped number end all in omega arith,
)

-- All that were wanted are pulled, and put into some order.
pub pulled_within : (number end : ℕ) (given answers : List Answer) (first mid now found : ℕ) → IsPermutation given answers → mid ≤ first + update_bound found → now ≤ mid + 1 + delays given →
    now ≤ first + (update_bound found + 1) + row_delays (map (row_at number end) answers)
pulled_within number end given answers first mid now found moved opened pulled =
    let one = delays_moved given answers moved in
    let two = delays_mapped number end answers in
    omega arith

-- the text after another one, a block more
pub text_more : (start text now : List ℕ) (front back : List Row) (first mid last k : ℕ) (cost : ℕ → ℕ) →
    (text ≡ start ++ lines_of front) × (mid ≤ first + for_each_query k cost + row_delays front) → (now ≡ text ++ lines_of back) × (last ≤ mid + cost (k + 1) + row_delays back) →
    (now ≡ start ++ lines_of (front ++ back)) × (last ≤ first + for_each_query (k + 1) cost + row_delays (front ++ back))
text_more start text now front back first mid last k cost p q = (
  q.0 ∙ (ap (λ (l : List ℕ). l ++ lines_of back) p.0 ∙ (append_assoc start (lines_of front) (lines_of back) ∙ ap (λ (l : List ℕ). start ++ l) (sym (lines_both front back)))),
  let a = p.1 in let b = q.1 in let c = delays_both front back in let more = one_query_more k cost in omega arith,
)

-- memory ran out in a block
pub text_failed : (front back rest : List Row) (first mid last k n : ℕ) (cost : ℕ → ℕ) → k < n → mid ≤ first + for_each_query k cost + row_delays front → last ≤ mid + cost (k + 1) + row_delays back →
    last ≤ first + for_each_query n cost + row_delays (front ++ (back ++ rest))
text_failed front back rest first mid last k n cost less p q =
    let within = cost_within k n cost less in
    let c = delays_both front (back ++ rest) in
    let d = delays_both back rest in
    omega arith

-- likewise with a query that takes no step
pub text_grows : (rows : List Row) (first last k : ℕ) (cost : ℕ → ℕ) → last ≤ first + for_each_query k cost + row_delays rows → last ≤ first + for_each_query (k + 1) cost + row_delays rows
text_grows rows first last k cost p = let more = fewer_queries k 1 cost in omega arith

-- all blocks are there
pub text_done : (now start : List ℕ) (rows : List Row) (first last k n : ℕ) (cost : ℕ → ℕ) → k ≤ n → (now ≡ start ++ lines_of rows) × (last ≤ first + for_each_query k cost + row_delays rows) →
    (now ≡ start ++ lines_of rows) × (last ≤ first + for_each_query n cost + row_delays rows)
text_done now start rows first last k n cost upto p =
    let at : k + (n - k) ≡ n = omega arith in
    let within : for_each_query k cost ≤ for_each_query n cost = subst (λ (m : ℕ). for_each_query k cost ≤ for_each_query m cost) at (fewer_queries k (n - k) cost) in
    (p.0, let h = p.1 in omega arith)
