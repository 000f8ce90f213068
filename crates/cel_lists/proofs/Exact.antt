-- The matches of a formula are exactly its valuations.
use Rattle.std.proofs.Common.{◌≡◌, refl, sym, ap, subst, ◌∙◌, ℕ, ◌≤◌, ◌⊎◌, inl, inr, Bool, true, false, List, [], ◌∷◌, ◌++◌, map, Option, Some, None, length, arith}
use Rattle.cel_lists.specs.Valuations.{AreMatchesOf}
use Rattle.std.specs.Prelude.{Result, Ok, Err, IfOk, slice_get, bytes_eq, fold}
use Rattle.std.specs.Option.{option_map_or}
use Rattle.stream_schema.specs.Types.{Declared}
use Rattle.stream_schema.specs.declared.Event.{Event}
use Rattle.cel_terms.specs.declared.Filter.{Filter}
use Rattle.cel_terms.specs.declared.Postfix.{Postfix}
use Rattle.cel_terms.specs.declared.Postfix.TheVariants.{Plus, NextPlus, Named, Keep}
use Rattle.cel_terms.specs.declared.Formula.{Formula, Of, Chain', Linked', Either', Post', Under', Row_of-Formula, end_of-Formula, more_of-Formula, Row_of-Link, end_of-Link, more_of-Link}
use Rattle.cel_terms.specs.Meaning.{Meaning, Valuation, Single, IsTyped, Sequence, Repeated, OneOf, Renamed, Filtered, event_type_name, under, with_postfix, with_postfixes, meaning, first_of_chain, chained, linked, one_of}
use Rattle.cel_terms.specs.MeaningLaws.{stream_of}
use Rattle.std.proofs.lemmas.Slice.Eq.{bytes_eq-Decides}
use Rattle.cel_terms.proofs.Operations.{Within, Moves-refl, sequence_within, repeated_within}
use Rattle.cel_terms.proofs.Induction.{Every, Always, every_postfix}
use Rattle.cel_terms.proofs.Intervals.{Lies, lies, lies_kept}
use Rattle.cel_lists.specs.declared.Match.{Match}
use Rattle.cel_lists.specs.Lists.{change, changed, is_of_type, single, single_at, singles, meets, filtered, in_sequence, up_to, after_postfix, matches_of, matches_of_first, matches_of_chain, matches_of_links, matches_of_choices}
use Rattle.cel_lists.proofs.Members.{Among, contains_from, among_from, among_left, among_right, among_cases, among_map, map_among, among_filter_map, filter_map_among, among_filter, filter_among}
use Rattle.cel_lists.proofs.Sequences.{In, if_to, if_from, sequence_in, in_sequence_means, up_to_repeat, repeat_up_to}
use Rattle.cel_lists.proofs.Meets.{meets_from, meets_to}

-- The list has exactly the valuations of the meaning.
pub record Same (part : Meaning) (ms : List Match) : Type 0 where
  pub to : Within part (In ms)
  pub back : Within (In ms) part

-- a type
typed_to : (schema : Declared) (name : List ℕ) (found : Option Event) (event : Event) → found ≡ Some event → event_type_name schema event ≡ Some name → option_map_or (is_of_type schema name) found false ≡ true
typed_to schema name found event at typed =
    let same : option_map_or (λ n. bytes_eq n name) (event_type_name schema event) false ≡ bytes_eq name name = ap (λ o. option_map_or (λ n. bytes_eq n name) o false) typed in
    ap (λ o. option_map_or (is_of_type schema name) o false) at ∙ same ∙ (bytes_eq-Decides name name).1 refl

record TypedFrom (schema : Declared) (name : List ℕ) (found : Option Event) : Type 0 where
  event : Event
  at : found ≡ Some event
  typed : event_type_name schema event ≡ Some name

named : (name : List ℕ) (found : Option (List ℕ)) → option_map_or (λ n. bytes_eq n name) found false ≡ true → found ≡ Some name
named name None e = absurd cc
named name (Some n) e = ap Some ((bytes_eq-Decides n name).0 e)

typed_from : (schema : Declared) (name : List ℕ) (found : Option Event) → option_map_or (is_of_type schema name) found false ≡ true → TypedFrom schema name found
typed_from schema name None e = absurd cc
typed_from schema name (Some event) e = record { event = event; at = refl; typed = named name (event_type_name schema event) e }

single_same : (schema : Declared) (events : List Event) (positions : List ℕ) (name : List ℕ) → Same (Single (stream_of schema events positions) name) (singles schema events positions name)
single_same schema events positions name = record { to = to; back = back }
  where
    to : Within (Single (stream_of schema events positions) name) (In (singles schema events positions name))
    to s e v h =
        let found : Among (single name s) (singles schema events positions name) =
        among_filter_map (single_at schema events name) s (single name s) positions (among_from s positions h.typed.within)
        (if_to _ (single name s) (typed_to schema name (slice_get events s) h.typed.event h.typed.at h.typed.typed)) in
        let there : In (singles schema events positions name) s e (record { position = s; names = name ∷ [] } ∷ []) =
        subst (λ (k : ℕ). In (singles schema events positions name) s k (record { position = s; names = name ∷ [] } ∷ [])) (sym h.ends) found in
        subst (λ (w : Valuation). In (singles schema events positions name) s e w) (sym h.bound) there

    back : Within (In (singles schema events positions name)) (Single (stream_of schema events positions) name)
    back s e v h =
        let m : Match = record { start = s; end = e; bounds = v } in
        let x = filter_map_among (single_at schema events name) m positions h in
        let j = if_from (option_map_or (is_of_type schema name) (slice_get events x.0) false) (single name x.0) m x.2 in
        let t = typed_from schema name (slice_get events x.0) j.0 in
        let start : x.0 ≡ s = ap (λ (k : Match). k.start) j.1 in
        let end : x.0 ≡ e = ap (λ (k : Match). k.end) j.1 in
        let typed : IsTyped (stream_of schema events positions) name x.0 = record { event = t.event; at = t.at; typed = t.typed; within = contains_from x.0 positions x.1 } in
        record {
          typed = subst (IsTyped (stream_of schema events positions) name) start typed;
          ends = sym end ∙ start;
          bound = sym (ap (λ (k : Match). k.bounds) j.1) ∙ ap (λ (k : ℕ). record { position = k; names = name ∷ [] } ∷ []) start;
        }

sequence_same : (schema : Declared) (events : List Event) (positions : List ℕ) (tight : Bool) (a b : Meaning) (as' bs : List Match) → Same a as' → Same b bs → Same (Sequence (stream_of schema events positions) tight a b) (in_sequence positions tight as' bs)
sequence_same schema events positions tight a b as' bs p q =
    let st = stream_of schema events positions in
    record {
      to = λ s e v h. sequence_in schema events positions tight as' bs s e v (sequence_within st st (Moves-refl st) tight a (In as') b (In bs) p.to q.to s e v h);
      back = λ s e v h. sequence_within st st (Moves-refl st) tight (In as') a (In bs) b p.back q.back s e v (in_sequence_means schema events positions tight as' bs s e v h);
    }

repeated_same : (schema : Declared) (events : List Event) (positions : List ℕ) (tight : Bool) (a : Meaning) (ms : List Match) → Every a (Lies (stream_of schema events positions)) → Every (Repeated (stream_of schema events positions) tight a) (Lies (stream_of schema events positions)) → Same a ms → Same (Repeated (stream_of schema events positions) tight a) (up_to positions tight ms (length events))
repeated_same schema events positions tight a ms within all p =
    let st = stream_of schema events positions in
    let ordered : (s e : ℕ) (v : Valuation) → In ms s e v → s ≤ e = λ s e v h. (within s e v (p.back s e v h)).span.ordered in
    let bounded : (s e : ℕ) (v : Valuation) → Repeated st tight (In ms) s e v → e ≤ length events =
    λ s e v h. let b = (all s e v (repeated_within st st (Moves-refl st) tight (In ms) a p.back s e v h)).span.there in omega arith in
    record {
      to = λ s e v h. repeat_up_to schema events positions tight ms (length events) ordered bounded s e v (repeated_within st st (Moves-refl st) tight a (In ms) p.to s e v h);
      back = λ s e v h. repeated_within st st (Moves-refl st) tight (In ms) a p.back s e v (up_to_repeat schema events positions tight ms (length events) s e v h);
    }

-- a change of names
renamed_same : (p : Postfix) (a : Meaning) (ms : List Match) → Same a ms → Same (Renamed (change p) a) (map (changed p) ms)
renamed_same p a ms q = record {
  to = λ s e v h. subst (λ (w : Valuation). In (map (changed p) ms) s e w) (sym h.2) (among_map (changed p) (record { start = s; end = e; bounds = h.0 }) ms (q.to s e h.0 h.1));
  back = λ s e v h.
      let x = map_among (changed p) (record { start = s; end = e; bounds = v }) ms h in
      let start : x.0.start ≡ s = ap (λ (k : Match). k.start) x.2 in
      let end : x.0.end ≡ e = ap (λ (k : Match). k.end) x.2 in
      let there : In ms s e x.0.bounds = subst (λ (k : ℕ). In ms s k x.0.bounds) end (subst (λ (k : ℕ). In ms k x.0.end x.0.bounds) start x.1) in
      (x.0.bounds, q.back s e x.0.bounds there, sym (ap (λ (k : Match). k.bounds) x.2));
}

filtered_same : (schema : Declared) (events : List Event) (positions : List ℕ) (c : Filter) (a : Meaning) (ms : List Match) → Same a ms → Same (Filtered (stream_of schema events positions) c a) (filtered schema events ms c)
filtered_same schema events positions c a ms q = record {
  to = λ s e v h. among_filter (λ m. meets schema events c m.bounds) (record { start = s; end = e; bounds = v }) ms (q.to s e v h.0) (meets_to schema events positions c v h.1);
  back = λ s e v h. let x = filter_among (λ m. meets schema events c m.bounds) (record { start = s; end = e; bounds = v }) ms h in (q.back s e v x.0, meets_from schema events positions c v x.1);
}

either_same : (a b : Meaning) (as' bs : List Match) → Same a as' → Same b bs → Same (OneOf a b) (as' ++ bs)
either_same a b as' bs p q = record { to = to; back = λ s e v h. back s e v (among_cases (record { start = s; end = e; bounds = v }) as' bs h) }
  where
    to : Within (OneOf a b) (In (as' ++ bs))
    to s e v (inl h) = among_left (record { start = s; end = e; bounds = v }) as' bs (p.to s e v h)
    to s e v (inr h) = among_right (record { start = s; end = e; bounds = v }) as' bs (q.to s e v h)

    back : (s e : ℕ) (v : Valuation) → In as' s e v ⊎ In bs s e v → OneOf a b s e v
    back s e v (inl h) = inl (p.back s e v h)
    back s e v (inr h) = inr (q.back s e v h)

every_after : (schema : Declared) (events : List Event) (positions : List ℕ) (p : Postfix) (a : Meaning) → Every a (Lies (stream_of schema events positions)) → Every (with_postfix (stream_of schema events positions) p a) (Lies (stream_of schema events positions))
every_after schema events positions p a within = let st = stream_of schema events positions in every_postfix st Always (Lies st) (lies_kept st) p a tt within

postfix_same : (schema : Declared) (events : List Event) (positions : List ℕ) (p : Postfix) (a : Meaning) (ms : List Match) → Every a (Lies (stream_of schema events positions)) → Same a ms → Same (with_postfix (stream_of schema events positions) p a) (after_postfix events positions ms p)
postfix_same schema events positions Plus a ms within q = repeated_same schema events positions false a ms within (every_after schema events positions Plus a within) q
postfix_same schema events positions NextPlus a ms within q = repeated_same schema events positions true a ms within (every_after schema events positions NextPlus a within) q
postfix_same schema events positions (Named name) a ms within q = renamed_same (Named name) a ms q
postfix_same schema events positions (Keep kept) a ms within q = renamed_same (Keep kept) a ms q

postfixes_same : (schema : Declared) (events : List Event) (positions : List ℕ) (ps : List Postfix) (a : Meaning) (ms : List Match) → Every a (Lies (stream_of schema events positions)) → Same a ms → Same (with_postfixes (stream_of schema events positions) ps a) (fold (after_postfix events positions) ms ps)
postfixes_same schema events positions [] a ms within q = q
postfixes_same schema events positions (p ∷ ps) a ms within q =
    postfixes_same schema events positions ps (with_postfix (stream_of schema events positions) p a) (after_postfix events positions ms p)
    (every_after schema events positions p a within) (postfix_same schema events positions p a ms within q)

under_same : (schema : Declared) (events : List Event) (positions : List ℕ) (cs : List Filter) (a : Meaning) (ms : List Match) → Same a ms → Same (under (stream_of schema events positions) cs a) (fold (filtered schema events) ms cs)
under_same schema events positions [] a ms q = q
under_same schema events positions (c ∷ cs) a ms q = under_same schema events positions cs (Filtered (stream_of schema events positions) c a) (filtered schema events ms c) (filtered_same schema events positions c a ms q)

-- each formula of the row is matched exactly
abbrev EachSame : Declared → List Event → List ℕ → {m : _} → Row_of-Formula m → Type 0
EachSame schema events positions end_of-Formula = Unit {0}
EachSame schema events positions (more_of-Formula f rest) = Same (meaning (stream_of schema events positions) f) (matches_of schema events positions f) × EachSame schema events positions rest

abbrev EachLinkSame : Declared → List Event → List ℕ → {m : _} → Row_of-Link m → Type 0
EachLinkSame schema events positions end_of-Link = Unit {0}
EachLinkSame schema events positions (more_of-Link tight next rest) = Same (meaning (stream_of schema events positions) next) (matches_of schema events positions next) × EachLinkSame schema events positions rest

chain_same : (schema : Declared) (events : List Event) (positions : List ℕ) {m : _} → (before : Meaning) (ms : List Match) (row : Row_of-Formula m) → EachSame schema events positions row → Same before ms → Same (chained (stream_of schema events positions) before row) (matches_of_chain schema events positions ms row)
chain_same schema events positions before ms end_of-Formula each q = q
chain_same schema events positions before ms (more_of-Formula f rest) each q =
    chain_same schema events positions (Sequence (stream_of schema events positions) false before (meaning (stream_of schema events positions) f)) (in_sequence positions false ms (matches_of schema events positions f)) rest each.1
    (sequence_same schema events positions false before (meaning (stream_of schema events positions) f) ms (matches_of schema events positions f) q each.0)

first_same : (schema : Declared) (events : List Event) (positions : List ℕ) {m : _} → (row : Row_of-Formula m) → EachSame schema events positions row → Same (first_of_chain (stream_of schema events positions) row) (matches_of_first schema events positions row)
first_same schema events positions end_of-Formula each = record { to = λ s e v h. h; back = λ s e v h. h }
first_same schema events positions (more_of-Formula f rest) each = chain_same schema events positions (meaning (stream_of schema events positions) f) (matches_of schema events positions f) rest each.1 each.0

links_same : (schema : Declared) (events : List Event) (positions : List ℕ) {m : _} → (before : Meaning) (ms : List Match) (row : Row_of-Link m) → EachLinkSame schema events positions row → Same before ms → Same (linked (stream_of schema events positions) before row) (matches_of_links schema events positions ms row)
links_same schema events positions before ms end_of-Link each q = q
links_same schema events positions before ms (more_of-Link tight next rest) each q =
    links_same schema events positions (Sequence (stream_of schema events positions) tight before (meaning (stream_of schema events positions) next)) (in_sequence positions tight ms (matches_of schema events positions next)) rest each.1
    (sequence_same schema events positions tight before (meaning (stream_of schema events positions) next) ms (matches_of schema events positions next) q each.0)

choices_same : (schema : Declared) (events : List Event) (positions : List ℕ) {m : _} → (row : Row_of-Formula m) → EachSame schema events positions row → Same (one_of (stream_of schema events positions) row) (matches_of_choices schema events positions row)
choices_same schema events positions end_of-Formula each = record { to = λ s e v h. h; back = λ s e v h. h }
choices_same schema events positions (more_of-Formula f rest) each =
    either_same (meaning (stream_of schema events positions) f) (one_of (stream_of schema events positions) rest) (matches_of schema events positions f) (matches_of_choices schema events positions rest)
    each.0 (choices_same schema events positions rest each.1)

mutual
  -- The matches are the valuations.
  pub exact : (schema : Declared) (events : List Event) (positions : List ℕ) (f : Formula) → Same (meaning (stream_of schema events positions) f) (matches_of schema events positions f)
  exact schema events positions (Of name) = single_same schema events positions name.text
  exact schema events positions (Chain' s parts) = first_same schema events positions parts (each_exact schema events positions parts)
  exact schema events positions (Linked' p first s links) = links_same schema events positions (meaning (stream_of schema events positions) first) (matches_of schema events positions first) links (each_link_exact schema events positions links) (exact schema events positions first)
  exact schema events positions (Either' s choices) = choices_same schema events positions choices (each_exact schema events positions choices)
  exact schema events positions (Post' p base postfixes) = postfixes_same schema events positions postfixes.items (meaning (stream_of schema events positions) base) (matches_of schema events positions base) (lies (stream_of schema events positions) base) (exact schema events positions base)
  exact schema events positions (Under' p base filters) = under_same schema events positions filters.items (meaning (stream_of schema events positions) base) (matches_of schema events positions base) (exact schema events positions base)

  each_exact : (schema : Declared) (events : List Event) (positions : List ℕ) {m : _} → (row : Row_of-Formula m) → EachSame schema events positions row
  each_exact schema events positions end_of-Formula = tt
  each_exact schema events positions (more_of-Formula f rest) = (exact schema events positions f, each_exact schema events positions rest)

  each_link_exact : (schema : Declared) (events : List Event) (positions : List ℕ) {m : _} → (row : Row_of-Link m) → EachLinkSame schema events positions row
  each_link_exact schema events positions end_of-Link = tt
  each_link_exact schema events positions (more_of-Link tight next rest) = (exact schema events positions next, each_link_exact schema events positions rest)

-- A list that is computed so has exactly the valuations.
pub are_matches : (schema : Declared) (events : List Event) (positions : List ℕ) (f : Formula) (ms : List Match) → ms ≡ matches_of schema events positions f → AreMatchesOf (meaning (stream_of schema events positions) f) ms
are_matches schema events positions f ms is =
    let x = exact schema events positions f in
    subst (AreMatchesOf (meaning (stream_of schema events positions) f)) (sym is) record {
      each = λ m has. x.back m.start m.end m.bounds (among_from m (matches_of schema events positions f) has);
      all = λ s e v h. contains_from (record { start = s; end = e; bounds = v }) (matches_of schema events positions f) (x.to s e v h);
    }

pub if_ok : {T E : Type 0} (P Q : T → Type 0) (r : Result T E) → ((x : T) → P x → Q x) → IfOk r P → IfOk r Q
if_ok P Q (Ok x) f h = f x h
if_ok P Q (Err e) f h = h
