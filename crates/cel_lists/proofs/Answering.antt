-- The answers that are computed are exactly those of the query, each once. For callers of the crate too.
use Rattle.std.proofs.Common.{◌≡◌, refl, sym, ap, ap₂, subst, ◌∙◌, ℕ, ◌<◌, ◌⊎◌, inl, inr, Bool, true, false, ◌&&◌, List, [], ◌∷◌, ◌++◌, length, Option, Some, None, arith}
use Rattle.std.specs.Prelude.{◌==◌, if◌then◌else◌, Contains, fold}
use Rattle.std.specs.List.{list_any}
use Rattle.std.specs.Cmp.Lexicographic.{pointwise}
use Rattle.std.proofs.lemmas.Bool.Decides.{Decides-eqb}
use Rattle.std.proofs.lemmas.Slice.Eq.{slice_eq-Decides}
use Rattle.stream_schema.specs.Types.{Declared}
use Rattle.stream_schema.specs.declared.Event.{Event}
use Rattle.cel_terms.specs.declared.Name.{Name}
use Rattle.cel_terms.specs.declared.Query.{Query}
use Rattle.cel_terms.specs.declared.Formula.{Formula}
use Rattle.cel_terms.specs.Meaning.{Stream, Valuation, meaning}
use Rattle.cel_terms.specs.Answers.{Answer, IsAnswer, HasMarks, AreMarks, IsOfSubstream, selected, substream, AreAnswersAt}
use Rattle.cel_terms.specs.MeaningLaws.{stream_of}
use Rattle.cel_terms.proofs.Marked.{Binds, bound_within, lies_selected}
use Rattle.cel_lists.specs.declared.Match.{Match}
use Rattle.cel_lists.specs.Lists.{matches_of}
use Rattle.cel_lists.specs.Below.{substream_positions, marks_of, is_in_window, is_strict_enough, answer_of, same_answer, with_new, answers_from}
use Rattle.cer_base.specs.Repeats.{HasNoRepeats}
use Rattle.cel_lists.proofs.Members.{Among, contains_from, among_from, among_left, among_right, among_cases, any_among, among_any}
use Rattle.cel_lists.proofs.Sequences.{and_from, and_to}
use Rattle.cel_lists.proofs.Places.{rises, one_list}
use Rattle.cel_lists.proofs.Keys.{positions_from, positions_to}
use Rattle.cel_lists.proofs.Agreement.{agrees}
use Rattle.cel_lists.proofs.Exact.{exact}
use Rattle.cel_lists.proofs.Windows.{window_from, window_to}
use Rattle.cel_lists.proofs.Marking.{left_by, are_marks, strict_from, strict_to}

-- equal answers
same_from : (a b : Answer) → same_answer a b ≡ true → a ≡ b
same_from a b e =
    let s = and_from (a.start == b.start) (pointwise ◌==◌ a.marks b.marks) e in
    ap₂ (λ (start : ℕ) (marks : List ℕ). record { start = start; marks = marks }) ((Decides-eqb a.start b.start).0 s.0) ((slice_eq-Decides Decides-eqb a.marks b.marks (pointwise ◌==◌ a.marks b.marks) refl).0 s.1)

same_to : (a : Answer) → same_answer a a ≡ true
same_to a = and_to (a.start == a.start) (pointwise ◌==◌ a.marks a.marks) ((Decides-eqb a.start a.start).1 refl) ((slice_eq-Decides Decides-eqb a.marks a.marks (pointwise ◌==◌ a.marks a.marks) refl).1 refl)

-- One answer more, unless it is there.
new_cases : (found : List Answer) (a x : Answer) (b : Bool) → Among x (if b then found else found ++ a ∷ []) → Among x found ⊎ (Some a ≡ Some x)
new_cases found a x true h = inl h
new_cases found a x false h =
    elim (among_cases x found (a ∷ []) h) [
      | inl f ↦ inl f
      | inr g ↦ elim g [ inl e ↦ inr (ap Some e) | inr n ↦ absurd n ]
    ]

with_cases : (found : List Answer) (o : Option Answer) (x : Answer) → Among x (with_new found o) → Among x found ⊎ (o ≡ Some x)
with_cases found None x h = inl h
with_cases found (Some a) x h = new_cases found a x (list_any (same_answer a) found) h

new_keeps : (found : List Answer) (a x : Answer) (b : Bool) → Among x found → Among x (if b then found else found ++ a ∷ [])
new_keeps found a x true h = h
new_keeps found a x false h = among_left x found (a ∷ []) h

with_keeps : (found : List Answer) (o : Option Answer) (x : Answer) → Among x found → Among x (with_new found o)
with_keeps found None x h = h
with_keeps found (Some a) x h = new_keeps found a x (list_any (same_answer a) found) h

new_has : (found : List Answer) (a : Answer) (b : Bool) → (b ≡ true → Among a found) → Among a (if b then found else found ++ a ∷ [])
new_has found a true f = f refl
new_has found a false f = among_right a found (a ∷ []) (inl refl)

there_already : (found : List Answer) (a : Answer) → list_any (same_answer a) found ≡ true → Among a found
there_already found a e = let s = among_any (same_answer a) found e in subst (λ (x : Answer). Among x found) (sym (same_from a s.0 s.2)) s.1

with_has : (found : List Answer) (o : Option Answer) (a : Answer) → o ≡ Some a → Among a (with_new found o)
with_has found None a e = absurd cc
with_has found (Some b) a e = let same : b ≡ a = cc in subst (λ (x : Answer). Among x (with_new found (Some b))) same (new_has found b (list_any (same_answer b) found) (there_already found b))

no_repeats_append : (found : List Answer) (a : Answer) → HasNoRepeats found → (Among a found → ⊥) → HasNoRepeats (found ++ a ∷ [])
no_repeats_append [] a h n = (λ c. among_from a [] c, tt)
no_repeats_append (x ∷ xs) a h n = (
  λ c. apart (among_cases x xs (a ∷ []) (among_from x (xs ++ a ∷ []) c)),
  no_repeats_append xs a h.1 (λ m. n (inr m)),
)
  where
    apart : Among x xs ⊎ Among x (a ∷ []) → ⊥
    apart (inl m) = h.0 (contains_from x xs m)
    apart (inr (inl e)) = n (inl (sym e))
    apart (inr (inr m)) = m

new_once : (found : List Answer) (a : Answer) (b : Bool) → HasNoRepeats found → (Among a found → b ≡ true) → HasNoRepeats (if b then found else found ++ a ∷ [])
new_once found a true h n = h
new_once found a false h n = no_repeats_append found a h (λ m. absurd (let e = n m in cc))

with_once : (found : List Answer) (o : Option Answer) → HasNoRepeats found → HasNoRepeats (with_new found o)
with_once found None h = h
with_once found (Some a) h = new_once found a (list_any (same_answer a) found) h (λ m. any_among (same_answer a) a found m (same_to a))

-- The answers of a list of matches.
gathered : (f : Match → Option Answer) (found : List Answer) (ms : List Match) (a : Answer) → Among a (fold (λ x m. with_new x (f m)) found ms) → Among a found ⊎ ((m : Match) × Among m ms × (f m ≡ Some a))
gathered f found [] a h = inl h
gathered f found (m ∷ ms) a h =
    elim (gathered f (with_new found (f m)) ms a h) [
      | inl g ↦ elim (with_cases found (f m) a g) [ inl k ↦ inl k | inr e ↦ inr (m, inl refl, e) ]
      | inr r ↦ inr (r.0, inr r.1, r.2)
    ]

kept_through : (f : Match → Option Answer) (found : List Answer) (ms : List Match) (a : Answer) → Among a found → Among a (fold (λ x m. with_new x (f m)) found ms)
kept_through f found [] a h = h
kept_through f found (m ∷ ms) a h = kept_through f (with_new found (f m)) ms a (with_keeps found (f m) a h)

gathers : (f : Match → Option Answer) (found : List Answer) (ms : List Match) (m : Match) (a : Answer) → Among m ms → f m ≡ Some a → Among a (fold (λ x m. with_new x (f m)) found ms)
gathers f found [] m a h e = absurd h
gathers f found (x ∷ ms) m a (inl h) e = kept_through f (with_new found (f x)) ms a (with_has found (f x) a (ap f h ∙ e))
gathers f found (x ∷ ms) m a (inr h) e = gathers f (with_new found (f x)) ms m a h e

once_through : (f : Match → Option Answer) (found : List Answer) (ms : List Match) → HasNoRepeats found → HasNoRepeats (fold (λ x m. with_new x (f m)) found ms)
once_through f found [] h = h
once_through f found (m ∷ ms) h = once_through f (with_new found (f m)) ms (with_once found (f m) h)

-- Marks of the query's meaning are those that are computed of a valuation of its formula.
there : (st : Stream) (select : Option (List Name)) (f : Formula) (s e : ℕ) (v : Valuation) → selected select (meaning st f) s e v → (p : ℕ) → Binds p v → p < length st.events
there st select f s e v h p b =
    let l = lies_selected st select f s e v h in
    let w = bound_within st.Has s e p v l.within b in
    let to = w.to in
    let end = l.span.there in
    omega arith

left_means : (st : Stream) (select : Option (List Name)) (f : Formula) (s e : ℕ) (v : Valuation) → meaning st f s e v → selected select (meaning st f) s e (left_by select v)
left_means st None f s e v h = h
left_means st (Some names) f s e v h = (v, h, refl)

left_from : (st : Stream) (select : Option (List Name)) (f : Formula) (s e : ℕ) (v : Valuation) → selected select (meaning st f) s e v → (w : Valuation) × meaning st f s e w × (v ≡ left_by select w)
left_from st None f s e v h = (v, h, refl)
left_from st (Some names) f s e v h = h

marks_means : (st : Stream) (select : Option (List Name)) (f : Formula) (s e : ℕ) (v : Valuation) → meaning st f s e v → HasMarks (selected select (meaning st f)) s e (marks_of select st.events v)
marks_means st select f s e v h =
    let m = left_means st select f s e v h in
    record { valuation = left_by select v; means = m; are_marks = are_marks select st.events v (there st select f s e (left_by select v) m) }

same_marks : (v : Valuation) (a b : List ℕ) → AreMarks v a → AreMarks v b → a ≡ b
same_marks v a b x y =
    one_list a b (rises a x.ascending) (rises b y.ascending)
    (λ p h. among_from p b ((y.bound p).1 ((x.bound p).0 (contains_from p a h))))
    (λ p h. among_from p a ((x.bound p).1 ((y.bound p).0 (contains_from p b h))))

marks_from : (st : Stream) (select : Option (List Name)) (f : Formula) (s e : ℕ) (marks : List ℕ) → HasMarks (selected select (meaning st f)) s e marks → (v : Valuation) × meaning st f s e v × (marks ≡ marks_of select st.events v)
marks_from st select f s e marks h =
    let w = left_from st select f s e h.valuation h.means in
    let m = left_means st select f s e w.0 w.1 in (
      w.0,
      w.1,
      same_marks (left_by select w.0) marks (marks_of select st.events w.0)
          (subst (λ (v : Valuation). AreMarks v marks) w.2 h.are_marks)
          (are_marks select st.events w.0 (there st select f s e (left_by select w.0) m)),
    )

some_if_to : (b : Bool) (a : Answer) → b ≡ true → (if b then Some a else None) ≡ Some a
some_if_to true a e = refl
some_if_to false a e = absurd cc

some_if_from : (b : Bool) (a c : Answer) → (if b then Some a else None) ≡ Some c → (b ≡ true) × (a ≡ c)
some_if_from true a c e = (refl, cc)
some_if_from false a c e = absurd cc

-- What a match gives is an answer,
answer_from : (schema : Declared) (q : Query) (events : List Event) (end : ℕ) (m : Match) (a : Answer) →
    Among m (matches_of schema events (substream_positions schema q events end) q.formula) →
    answer_of schema q events (substream_positions schema q events end) end m ≡ Some a → IsAnswer schema q events end a
answer_from schema q events end m a has gives =
    let positions = substream_positions schema q events end in
    let marks = marks_of q.select events m.bounds in
    let i = some_if_from ((m.end == end) && (is_in_window schema q.window events m.start end && is_strict_enough q.strict positions marks)) (record { start = m.start; marks = marks }) a gives in
    let b = and_from (m.end == end) (is_in_window schema q.window events m.start end && is_strict_enough q.strict positions marks) i.0 in
    let c = and_from (is_in_window schema q.window events m.start end) (is_strict_enough q.strict positions marks) b.1 in
    let x = exact schema events positions q.formula in
    let at_end : m.end ≡ end = (Decides-eqb m.end end).0 b.0 in
    let means : meaning (substream schema q events end) q.formula m.start end m.bounds =
    agrees schema events (Contains positions) (IsOfSubstream schema q events end) (positions_from schema q events end) (positions_to schema q events end) q.formula m.start end m.bounds
    (subst (λ (k : ℕ). meaning (stream_of schema events positions) q.formula m.start k m.bounds) at_end (x.back m.start m.end m.bounds has)) in
    subst (IsAnswer schema q events end) i.1 record {
      marks = marks_means (substream schema q events end) q.select q.formula m.start end m.bounds means;
      strict = strict_from q.strict (IsOfSubstream schema q events end) positions marks (positions_to schema q events end) c.1;
      window = window_from schema q events m.start end c.0;
    }

-- and each answer is given by one.
answer_to : (schema : Declared) (q : Query) (events : List Event) (end : ℕ) (a : Answer) → IsAnswer schema q events end a →
    (m : Match) × Among m (matches_of schema events (substream_positions schema q events end) q.formula) × (answer_of schema q events (substream_positions schema q events end) end m ≡ Some a)
answer_to schema q events end a is =
    let positions = substream_positions schema q events end in
    let v = marks_from (substream schema q events end) q.select q.formula a.start end a.marks is.marks in
    let marks = marks_of q.select events v.0 in
    let m : Match = record { start = a.start; end = end; bounds = v.0 } in
    let x = exact schema events positions q.formula in
    let means : meaning (stream_of schema events positions) q.formula a.start end v.0 =
    agrees schema events (IsOfSubstream schema q events end) (Contains positions) (positions_to schema q events end) (positions_from schema q events end) q.formula a.start end v.0 v.1 in
    let strict : is_strict_enough q.strict positions marks ≡ true =
    ap (is_strict_enough q.strict positions) (sym v.2) ∙ strict_to q.strict (IsOfSubstream schema q events end) positions a.marks (positions_from schema q events end) is.strict in (
      m,
      x.to a.start end v.0 means,
      some_if_to ((end == end) && (is_in_window schema q.window events a.start end && is_strict_enough q.strict positions marks)) (record { start = a.start; marks = marks })
          (and_to (end == end) (is_in_window schema q.window events a.start end && is_strict_enough q.strict positions marks) ((Decides-eqb end end).1 refl)
          (and_to (is_in_window schema q.window events a.start end) (is_strict_enough q.strict positions marks) (window_to schema q events a.start end is.window) strict))
          ∙ ap (λ (ms : List ℕ). Some (record { start = a.start; marks = ms })) (sym v.2),
    )

-- A list that is computed so has exactly the answers, each once.
pub are_answers : (schema : Declared) (q : Query) (events : List Event) (end : ℕ) (positions : List ℕ) (ms : List Match) (answers : List Answer) →
    positions ≡ substream_positions schema q events end → ms ≡ matches_of schema events positions q.formula → answers ≡ answers_from schema q events positions end ms →
    AreAnswersAt schema q events end answers
are_answers schema q events end positions ms answers p m a =
    let of = answer_of schema q events (substream_positions schema q events end) end in
    let all = matches_of schema events (substream_positions schema q events end) q.formula in
    let same : answers ≡ fold (λ x y. with_new x (of y)) [] all =
    a ∙ (ap (answers_from schema q events positions end) m ∙ ap (λ (ps : List ℕ). answers_from schema q events ps end (matches_of schema events ps q.formula)) p) in
    subst (AreAnswersAt schema q events end) (sym same) record {
      each = λ x has. from_gathered x (gathered of [] all x (among_from x (fold (λ x y. with_new x (of y)) [] all) has));
      all = λ x is. (let t = answer_to schema q events end x is in contains_from x (fold (λ x y. with_new x (of y)) [] all) (gathers of [] all t.0 x t.1 t.2));
      once = once_through of [] all tt;
    }
  where
    from_gathered : (x : Answer) → Among x [] ⊎ ((y : Match) × Among y (matches_of schema events (substream_positions schema q events end) q.formula) × (answer_of schema q events (substream_positions schema q events end) end y ≡ Some x)) → IsAnswer schema q events end x
    from_gathered x (inl h) = absurd h
    from_gathered x (inr r) = answer_from schema q events end r.0 x r.1 r.2

-- So each query has such a list.
pub some_answers_are : (schema : Declared) (q : Query) (events : List Event) (end : ℕ) → (answers : List Answer) × AreAnswersAt schema q events end answers
some_answers_are schema q events end =
    let positions = substream_positions schema q events end in
    let ms = matches_of schema events positions q.formula in
    let answers = answers_from schema q events positions end ms in
    (answers, are_answers schema q events end positions ms answers refl refl refl)
