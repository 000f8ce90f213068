-- The positions of a substream, the marks of a valuation and the answers at a position: what each step computes.
-- Nobody needs to believe these; the public contracts speak of the definitions alone.
use Rattle.std.specs.Prelude.{ℕ, zero, suc, ◌+◌, ℤ, ◌+ℤ◌, Bool, true, false, not, ◌&&◌, ◌||◌, ◌==◌, if◌then◌else◌, nat_lt, nat_le, List, [], ◌∷◌, ◌++◌, map, length, Option, Some, None, slice_get, fold}
use Rattle.std.specs.List.{list_any, list_all}
use Rattle.std.specs.Option.{option_map_or}
use Rattle.std.specs.Int.Signed.{lt_z as int_lt}
use Rattle.std.specs.Cmp.Lexicographic.{pointwise}
use Rattle.stream_schema.specs.Types.{Declared}
use Rattle.stream_schema.specs.declared.Event.{Event}
use Rattle.stream_schema.specs.declared.Value.{Value}
use Rattle.stream_schema.specs.Equality.{same_value}
use Rattle.stream_schema.specs.declared.Value.TheVariants as value
use Rattle.cel_terms.specs.declared.Name.{Name}
use Rattle.cel_terms.specs.declared.Query.{Query}
use Rattle.cel_terms.specs.declared.Window.{Window}
use Rattle.cel_terms.specs.declared.Window.TheVariants.{Free, Events, Clock}
use Rattle.cel_terms.specs.Predicate.{attr_value}
use Rattle.cel_terms.specs.Meaning.{Bound, Valuation, lists_name}
use Rattle.cel_terms.specs.Answers.{Answer, is_bound}
use Rattle.cel_terms.specs.EventsRead.{query_reads}
use Rattle.cel_lists.specs.declared.Match.{Match}

-- the numbers below a bound that pass, ascending
abbrev pub below : (ℕ → Bool) → ℕ → List ℕ
below passes zero = []
below passes (suc n) = below passes n ++ (if passes n then n ∷ [] else [])

-- both are there, and equal
abbrev pub both_same : Option Value → Option Value → Bool
both_same (Some a) (Some b) = same_value a b
both_same _ _ = false

abbrev pub same_attr : Declared → Event → Event → Name → Bool
same_attr schema a b name = both_same (attr_value schema a name.text) (attr_value schema b name.text)

-- both are of the query's types and have equal keys
abbrev pub shares : Declared → Query → Event → Event → Bool
shares schema q here there = query_reads schema q here && (query_reads schema q there && list_all (same_attr schema here there) q.partition)

abbrev pub shares_at : Declared → Query → List Event → Event → ℕ → Bool
shares_at schema q events there p = option_map_or (λ here. shares schema q here there) (slice_get events p) false

-- the positions of the substream that the event at end is in
abbrev pub substream_positions : Declared → Query → List Event → ℕ → List ℕ
substream_positions schema q events end =
    option_map_or (λ there. below (shares_at schema q events there) (length events)) (slice_get events end) []

-- SELECT leaves some name of the position
abbrev pub is_kept : Option (List Name) → List (List ℕ) → Bool
is_kept None names = is_bound names
is_kept (Some listed) names = list_any (lists_name (map (λ n. n.text) listed)) names

abbrev pub marks_at : Option (List Name) → ℕ → Bound → Bool
marks_at select p b = (b.position == p) && is_kept select b.names

abbrev pub is_mark : Option (List Name) → Valuation → ℕ → Bool
is_mark select v p = list_any (marks_at select p) v

abbrev pub is_inside : List ℕ → ℕ → Bool
is_inside marks p = list_any (λ m. nat_lt m p) marks && list_any (λ m. nat_lt p m) marks

abbrev pub is_contiguous : List ℕ → List ℕ → Bool
is_contiguous positions marks = list_all (λ p. not (is_inside marks p) || list_any (λ m. m == p) marks) positions

-- both are whole numbers, the later at most n more than the earlier
abbrev pub are_close : ℤ → Option Value → Option Value → Bool
are_close n (Some (value.Int from)) (Some (value.Int to)) = not (int_lt (from +ℤ n) to)
are_close n _ _ = false

abbrev pub window_holds : Declared → Window → ℕ → ℕ → Event → Event → Bool
window_holds schema Free start end first last = true
window_holds schema (Events n) start end first last = nat_le end (start + n)
window_holds schema (Clock name n) start end first last = are_close n (attr_value schema first name.text) (attr_value schema last name.text)

-- both ends are there, and in the window
abbrev pub is_in_window : Declared → Window → List Event → ℕ → ℕ → Bool
is_in_window schema window events start end =
    option_map_or (λ first. option_map_or (window_holds schema window start end first) (slice_get events end) false) (slice_get events start) false

abbrev pub marks_of : Option (List Name) → List Event → Valuation → List ℕ
marks_of select events v = below (is_mark select v) (length events)

-- STRICT asks for contiguous marks
abbrev pub is_strict_enough : Bool → List ℕ → List ℕ → Bool
is_strict_enough strict positions marks = not strict || is_contiguous positions marks

-- the answer of a match that ends at end
abbrev pub answer_of : Declared → Query → List Event → List ℕ → ℕ → Match → Option Answer
answer_of schema q events positions end m =
    if (m.end == end) && (is_in_window schema q.window events m.start end && is_strict_enough q.strict positions (marks_of q.select events m.bounds))
    then Some (record { start = m.start; marks = marks_of q.select events m.bounds })
    else None

abbrev pub same_answer : Answer → Answer → Bool
same_answer a b = (a.start == b.start) && pointwise ◌==◌ a.marks b.marks

-- with the answer, where it is not among them yet
abbrev pub with_new : List Answer → Option Answer → List Answer
with_new found None = found
with_new found (Some a) = if list_any (same_answer a) found then found else found ++ a ∷ []

abbrev pub answers_from : Declared → Query → List Event → List ℕ → ℕ → List Match → List Answer
answers_from schema q events positions end = fold (λ found m. with_new found (answer_of schema q events positions end m)) []
