-- A formula means what its tree means.
use Rattle.std.proofs.Common.{◌≡◌, refl, sym, ap, ap₂, subst, ◌∙◌, ℕ, ◌<◌, ◌&&◌, append_assoc, ◌⊎◌, inl, inr, Bool, true, false, cond, List, [], ◌∷◌, ◌++◌, map, IsTrue}
use Rattle.std.proofs.lemmas.List.{map-append}
use Rattle.std.proofs.lemmas.Bool.{false≢true}
use Rattle.stream_schema.specs.declared.Event.{Event}
use Rattle.cel_terms.specs.declared.Pred.{Pred}
use Rattle.cel_terms.specs.declared.Postfix.{Postfix}
use Rattle.cel_terms.specs.declared.Postfix.TheVariants.{Plus, NextPlus, Named, Keep}
use Rattle.cel_terms.specs.declared.Filter.{Filter, On, All', Any', Row_of-Filter, end_of-Filter, more_of-Filter}
use Rattle.cel_terms.specs.declared.Formula.{Formula, Of, Chain', Linked', Either', Post', Under', Row_of-Formula, end_of-Formula, more_of-Formula, Row_of-Link, end_of-Link, more_of-Link}
use Rattle.cel_terms.specs.Predicate.{holds}
use Rattle.query_leaves.specs.LeafTree.{LeafTree, leaf, none, sequence, either, plus}
use Rattle.query_leaves.specs.Expand.{Occurrence, at_leaves, rename_leaf, test_leaf, filtered, filtered_by_all, filtered_by_any, under_all, one_or_more, postfixed, postfixed_by_all, expand, expand_chain, expand_on, expand_links, expand_choices}
use Rattle.cea_compile.specs.Paths.{AtLeaf, tree_meaning, AllTestsHold}
use Rattle.cel_terms.specs.Meaning.{Stream, Meaning, Bound, Valuation, MayFollow, Single, Sequence, Repeated, once, again, OneOf, lists_name, with_name, only_names, Renamed, PassesAt, AllHold, Meets, MeetsAll, MeetsAny, Filtered, under, with_postfix, with_postfixes, meaning, first_of_chain, chained, linked, one_of}

-- each valuation of the one is one of the other
abbrev pub Within : Meaning → Meaning → Type 0
Within a b = (s e : ℕ) (v : Valuation) → a s e v → b s e v

pub record Same (a b : Meaning) : Type 0 where
  pub to : Within a b
  pub back : Within b a

pub Same_refl : (a : Meaning) → Same a a
Same_refl a = record { to = λ s e v h. h; back = λ s e v h. h }

pub Same_trans : (a b c : Meaning) → Same a b → Same b c → Same a c
Same_trans a b c p q = record { to = λ s e v h. q.to s e v (p.to s e v h); back = λ s e v h. p.back s e v (q.back s e v h) }

-- the operations keep inclusion
sequence_within : (stream : Stream) (tight : Bool) (a a' b b' : Meaning) → Within a a' → Within b b' → Within (Sequence stream tight a b) (Sequence stream tight a' b')
sequence_within stream tight a a' b b' f g s e v h = record {
  middle = h.middle;
  next = h.next;
  before = h.before;
  after = h.after;
  first_is = f s h.middle h.before h.first_is;
  follows = h.follows;
  second_is = g h.next e h.after h.second_is;
  united = h.united;
}

either_within : (a a' b b' : Meaning) → Within a a' → Within b b' → Within (OneOf a b) (OneOf a' b')
either_within a a' b b' f g s e v (inl h) = inl (f s e v h)
either_within a a' b b' f g s e v (inr h) = inr (g s e v h)

repeated_within : (stream : Stream) (tight : Bool) (a a' : Meaning) → Within a a' → Within (Repeated stream tight a) (Repeated stream tight a')
repeated_within stream tight a a' f s e v (once h) = once (f _ _ _ h)
repeated_within stream tight a a' f s e v (again h m r) = again (f _ _ _ h) m (repeated_within stream tight a a' f _ _ _ r)

renamed_within : (g : List (List ℕ) → List (List ℕ)) (a a' : Meaning) → Within a a' → Within (Renamed g a) (Renamed g a')
renamed_within g a a' f s e v h = (h.0, f s e h.0 h.1, h.2)

filtered_within : (stream : Stream) (c : Filter) (a a' : Meaning) → Within a a' → Within (Filtered stream c a) (Filtered stream c a')
filtered_within stream c a a' f s e v h = (f s e v h.0, h.1)

sequence_same : (stream : Stream) (tight : Bool) (a a' b b' : Meaning) → Same a a' → Same b b' → Same (Sequence stream tight a b) (Sequence stream tight a' b')
sequence_same stream tight a a' b b' p q = record { to = sequence_within stream tight a a' b b' p.to q.to; back = sequence_within stream tight a' a b' b p.back q.back }

either_same : (a a' b b' : Meaning) → Same a a' → Same b b' → Same (OneOf a b) (OneOf a' b')
either_same a a' b b' p q = record { to = either_within a a' b b' p.to q.to; back = either_within a' a b' b p.back q.back }

repeated_same : (stream : Stream) (tight : Bool) (a a' : Meaning) → Same a a' → Same (Repeated stream tight a) (Repeated stream tight a')
repeated_same stream tight a a' p = record { to = repeated_within stream tight a a' p.to; back = repeated_within stream tight a' a p.back }

pub renamed_same : (g : List (List ℕ) → List (List ℕ)) (a a' : Meaning) → Same a a' → Same (Renamed g a) (Renamed g a')
renamed_same g a a' p = record { to = renamed_within g a a' p.to; back = renamed_within g a' a p.back }

filtered_same : (stream : Stream) (c : Filter) (a a' : Meaning) → Same a a' → Same (Filtered stream c a) (Filtered stream c a')
filtered_same stream c a a' p = record { to = filtered_within stream c a a' p.to; back = filtered_within stream c a' a p.back }

-- Renaming goes into the parts.
abbrev pub renamed : (List (List ℕ) → List (List ℕ)) → Valuation → Valuation
renamed g v = map (λ b. record { position = b.position; names = g b.names }) v

renamed-append : (g : List (List ℕ) → List (List ℕ)) (v w : Valuation) → renamed g (v ++ w) ≡ renamed g v ++ renamed g w
renamed-append g v w = map-append (λ (b : Bound). record { position = b.position; names = g b.names }) v w

renamed_sequence : (stream : Stream) (tight : Bool) (g : List (List ℕ) → List (List ℕ)) (a b : Meaning) → Same (Renamed g (Sequence stream tight a b)) (Sequence stream tight (Renamed g a) (Renamed g b))
renamed_sequence stream tight g a b = record {
  to = λ s e v h. record {
    middle = h.1.middle;
    next = h.1.next;
    before = renamed g h.1.before;
    after = renamed g h.1.after;
    first_is = (h.1.before, h.1.first_is, refl);
    follows = h.1.follows;
    second_is = (h.1.after, h.1.second_is, refl);
    united = h.2 ∙ (ap (renamed g) h.1.united ∙ renamed-append g h.1.before h.1.after);
  };
  back = λ s e v h. (
    h.first_is.0 ++ h.second_is.0,
    record {
      middle = h.middle;
      next = h.next;
      before = h.first_is.0;
      after = h.second_is.0;
      first_is = h.first_is.1;
      follows = h.follows;
      second_is = h.second_is.1;
      united = refl;
    },
    h.united ∙ (ap₂ (λ x y. x ++ y) h.first_is.2 h.second_is.2 ∙ sym (renamed-append g h.first_is.0 h.second_is.0)),
  );
}

renamed_either : (g : List (List ℕ) → List (List ℕ)) (a b : Meaning) → Same (Renamed g (OneOf a b)) (OneOf (Renamed g a) (Renamed g b))
renamed_either g a b = record { to = λ s e v h. to s e v h.0 h.1 h.2; back = back }
  where
    to : (s e : ℕ) (v w : Valuation) → OneOf a b s e w → v ≡ renamed g w → OneOf (Renamed g a) (Renamed g b) s e v
    to s e v w (inl h) q = inl (w, h, q)
    to s e v w (inr h) q = inr (w, h, q)

    back : Within (OneOf (Renamed g a) (Renamed g b)) (Renamed g (OneOf a b))
    back s e v (inl h) = (h.0, inl h.1, h.2)
    back s e v (inr h) = (h.0, inr h.1, h.2)

repeated_renamed : (stream : Stream) (tight : Bool) (g : List (List ℕ) → List (List ℕ)) (a : Meaning) (s e : ℕ) (w : Valuation) → Repeated stream tight a s e w → Repeated stream tight (Renamed g a) s e (renamed g w)
repeated_renamed stream tight g a s e w (once h) = once (w, h, refl)
repeated_renamed stream tight g a s e w (again {v = v} {w = w'} h m r) = subst (Repeated stream tight (Renamed g a) s e) (sym (renamed-append g v w')) (again (v, h, refl) m (repeated_renamed stream tight g a _ e w' r))

renamed_repeated_back : (stream : Stream) (tight : Bool) (g : List (List ℕ) → List (List ℕ)) (a : Meaning) (s e : ℕ) (v : Valuation) → Repeated stream tight (Renamed g a) s e v → Renamed g (Repeated stream tight a) s e v
renamed_repeated_back stream tight g a s e v (once h) = (h.0, once h.1, h.2)
renamed_repeated_back stream tight g a s e v (again h m r) = let x = renamed_repeated_back stream tight g a _ e _ r in (h.0 ++ x.0, again h.1 m x.1, ap₂ (λ x y. x ++ y) h.2 x.2 ∙ sym (renamed-append g h.0 x.0))

renamed_repeated : (stream : Stream) (tight : Bool) (g : List (List ℕ) → List (List ℕ)) (a : Meaning) → Same (Renamed g (Repeated stream tight a)) (Repeated stream tight (Renamed g a))
renamed_repeated stream tight g a = record {
  to = λ s e v h. subst (Repeated stream tight (Renamed g a) s e) (sym h.2) (repeated_renamed stream tight g a s e h.0 h.1);
  back = renamed_repeated_back stream tight g a;
}

renamed_leaf : (stream : Stream) (g : List (List ℕ) → List (List ℕ)) (l : Occurrence) → Same (Renamed g (AtLeaf stream l)) (AtLeaf stream (rename_leaf g l))
renamed_leaf stream g l = record {
  to = λ s e v h. record { reads = record { typed = h.1.reads.typed; tests = h.1.reads.tests }; ends = h.1.ends; bound = h.2 ∙ ap (renamed g) h.1.bound };
  back = λ s e v h. (record { position = s; names = l.names } ∷ [], record { reads = record { typed = h.reads.typed; tests = h.reads.tests }; ends = h.ends; bound = refl }, h.bound);
}

pub renamed_tree : (stream : Stream) (g : List (List ℕ) → List (List ℕ)) (t : LeafTree Occurrence) → Same (Renamed g (tree_meaning stream t)) (tree_meaning stream (at_leaves (rename_leaf g) t))
renamed_tree stream g (leaf l) = renamed_leaf stream g l
renamed_tree stream g none = record { to = λ s e v h. h.1; back = λ s e v h. absurd h }
renamed_tree stream g (sequence u a b) = Same_trans _ _ _ (renamed_sequence stream u g (tree_meaning stream a) (tree_meaning stream b)) (sequence_same stream u _ _ _ _ (renamed_tree stream g a) (renamed_tree stream g b))
renamed_tree stream g (either a b) = Same_trans _ _ _ (renamed_either g (tree_meaning stream a) (tree_meaning stream b)) (either_same _ _ _ _ (renamed_tree stream g a) (renamed_tree stream g b))
renamed_tree stream g (plus u a) = Same_trans _ _ _ (renamed_repeated stream u g (tree_meaning stream a)) (repeated_same stream u _ _ (renamed_tree stream g a))

-- A test on the positions of a name goes into the parts.
abbrev pub Checked : Stream → List ℕ → (Event → Bool) → Meaning → Meaning
Checked stream name test part s e v = part s e v × AllHold stream name test v

AllHold-append : (stream : Stream) (name : List ℕ) (test : Event → Bool) (v w : Valuation) → AllHold stream name test v → AllHold stream name test w → AllHold stream name test (v ++ w)
AllHold-append stream name test [] w h k = k
AllHold-append stream name test (b ∷ v) w h k = (h.0, AllHold-append stream name test v w h.1 k)

AllHold-parts : (stream : Stream) (name : List ℕ) (test : Event → Bool) (v w : Valuation) → AllHold stream name test (v ++ w) → AllHold stream name test v × AllHold stream name test w
AllHold-parts stream name test [] w h = (tt, h)
AllHold-parts stream name test (b ∷ v) w h = let p = AllHold-parts stream name test v w h.1 in ((h.0, p.0), p.1)

checked_sequence : (stream : Stream) (tight : Bool) (name : List ℕ) (test : Event → Bool) (a b : Meaning) → Same (Checked stream name test (Sequence stream tight a b)) (Sequence stream tight (Checked stream name test a) (Checked stream name test b))
checked_sequence stream tight name test a b = record { to = to; back = back }
  where
    to : Within (Checked stream name test (Sequence stream tight a b)) (Sequence stream tight (Checked stream name test a) (Checked stream name test b))
    to s e v h = let p = AllHold-parts stream name test h.0.before h.0.after (subst (AllHold stream name test) h.0.united h.1) in record {
      middle = h.0.middle;
      next = h.0.next;
      before = h.0.before;
      after = h.0.after;
      first_is = (h.0.first_is, p.0);
      follows = h.0.follows;
      second_is = (h.0.second_is, p.1);
      united = h.0.united;
    }

    back : Within (Sequence stream tight (Checked stream name test a) (Checked stream name test b)) (Checked stream name test (Sequence stream tight a b))
    back s e v h = (
      record {
        middle = h.middle;
        next = h.next;
        before = h.before;
        after = h.after;
        first_is = h.first_is.0;
        follows = h.follows;
        second_is = h.second_is.0;
        united = h.united;
      },
      subst (AllHold stream name test) (sym h.united) (AllHold-append stream name test h.before h.after h.first_is.1 h.second_is.1),
    )

checked_either : (stream : Stream) (name : List ℕ) (test : Event → Bool) (a b : Meaning) → Same (Checked stream name test (OneOf a b)) (OneOf (Checked stream name test a) (Checked stream name test b))
checked_either stream name test a b = record { to = λ s e v h. to s e v h.0 h.1; back = back }
  where
    to : (s e : ℕ) (v : Valuation) → OneOf a b s e v → AllHold stream name test v → OneOf (Checked stream name test a) (Checked stream name test b) s e v
    to s e v (inl h) k = inl (h, k)
    to s e v (inr h) k = inr (h, k)

    back : Within (OneOf (Checked stream name test a) (Checked stream name test b)) (Checked stream name test (OneOf a b))
    back s e v (inl h) = (inl h.0, h.1)
    back s e v (inr h) = (inr h.0, h.1)

checked_repeated_to : (stream : Stream) (tight : Bool) (name : List ℕ) (test : Event → Bool) (a : Meaning) (s e : ℕ) (v : Valuation) → Repeated stream tight a s e v → AllHold stream name test v → Repeated stream tight (Checked stream name test a) s e v
checked_repeated_to stream tight name test a s e v (once h) k = once (h, k)
checked_repeated_to stream tight name test a s e v (again {v = w} {w = w'} h m r) k = let p = AllHold-parts stream name test w w' k in again (h, p.0) m (checked_repeated_to stream tight name test a _ e w' r p.1)

checked_repeated_back : (stream : Stream) (tight : Bool) (name : List ℕ) (test : Event → Bool) (a : Meaning) (s e : ℕ) (v : Valuation) → Repeated stream tight (Checked stream name test a) s e v → Checked stream name test (Repeated stream tight a) s e v
checked_repeated_back stream tight name test a s e v (once h) = (once h.0, h.1)
checked_repeated_back stream tight name test a s e v (again {v = w} {w = w'} h m r) = let x = checked_repeated_back stream tight name test a _ e w' r in (again h.0 m x.0, AllHold-append stream name test w w' h.1 x.1)

checked_repeated : (stream : Stream) (tight : Bool) (name : List ℕ) (test : Event → Bool) (a : Meaning) → Same (Checked stream name test (Repeated stream tight a)) (Repeated stream tight (Checked stream name test a))
checked_repeated stream tight name test a = record { to = λ s e v h. checked_repeated_to stream tight name test a s e v h.0 h.1; back = checked_repeated_back stream tight name test a }

tested : (stream : Stream) (pred : Pred) (tests : List Pred) (event : Event) (b : Bool) → AllTestsHold stream tests event → (b ≡ true → IsTrue (holds stream.schema pred event)) → AllTestsHold stream (cond b (pred ∷ tests) tests) event
tested stream pred tests event true h f = (f refl, h)
tested stream pred tests event false h f = h

tested_parts : (stream : Stream) (pred : Pred) (tests : List Pred) (event : Event) (b : Bool) → AllTestsHold stream (cond b (pred ∷ tests) tests) event → AllTestsHold stream tests event × (b ≡ true → IsTrue (holds stream.schema pred event))
tested_parts stream pred tests event true h = (h.1, λ e. h.0)
tested_parts stream pred tests event false h = (h, λ e. absurd (false≢true e))

checked_leaf : (stream : Stream) (name : List ℕ) (pred : Pred) (l : Occurrence) → Same (Checked stream name (holds stream.schema pred) (AtLeaf stream l)) (AtLeaf stream (test_leaf name pred l))
checked_leaf stream name pred l = record { to = to; back = back }
  where
    to : Within (Checked stream name (holds stream.schema pred) (AtLeaf stream l)) (AtLeaf stream (test_leaf name pred l))
    to s e v h = let p = subst (AllHold stream name (holds stream.schema pred)) h.0.bound h.1 in record {
      reads = record { typed = h.0.reads.typed; tests = tested stream pred l.tests h.0.reads.typed.event (lists_name l.names name) h.0.reads.tests (λ i. p.0 i h.0.reads.typed.event h.0.reads.typed.at) };
      ends = h.0.ends;
      bound = h.0.bound;
    }

    back : Within (AtLeaf stream (test_leaf name pred l)) (Checked stream name (holds stream.schema pred) (AtLeaf stream l))
    back s e v h =
        let p = tested_parts stream pred l.tests h.reads.typed.event (lists_name l.names name) h.reads.tests in
        let here : PassesAt stream name (holds stream.schema pred) (record { position = s; names = l.names }) = λ i event at. subst (λ x. IsTrue (holds stream.schema pred x)) (let q = sym h.reads.typed.at ∙ at in cc) (p.1 i) in
        (record { reads = record { typed = h.reads.typed; tests = p.0 }; ends = h.ends; bound = h.bound }, subst (AllHold stream name (holds stream.schema pred)) (sym h.bound) (here, tt))

checked_tree : (stream : Stream) (name : List ℕ) (pred : Pred) (t : LeafTree Occurrence) → Same (Checked stream name (holds stream.schema pred) (tree_meaning stream t)) (tree_meaning stream (at_leaves (test_leaf name pred) t))
checked_tree stream name pred (leaf l) = checked_leaf stream name pred l
checked_tree stream name pred none = record { to = λ s e v h. h.0; back = λ s e v h. absurd h }
checked_tree stream name pred (sequence u a b) = Same_trans _ _ _ (checked_sequence stream u name (holds stream.schema pred) (tree_meaning stream a) (tree_meaning stream b)) (sequence_same stream u _ _ _ _ (checked_tree stream name pred a) (checked_tree stream name pred b))
checked_tree stream name pred (either a b) = Same_trans _ _ _ (checked_either stream name (holds stream.schema pred) (tree_meaning stream a) (tree_meaning stream b)) (either_same _ _ _ _ (checked_tree stream name pred a) (checked_tree stream name pred b))
checked_tree stream name pred (plus u a) = Same_trans _ _ _ (checked_repeated stream u name (holds stream.schema pred) (tree_meaning stream a)) (repeated_same stream u _ _ (checked_tree stream name pred a))

-- the valuations of the part that meet a condition
abbrev pub Where : Meaning → (Valuation → Type 0) → Meaning
Where part Cond s e v = part s e v × Cond v

where_within : (a b : Meaning) (Cond : Valuation → Type 0) → Within a b → Within (Where a Cond) (Where b Cond)
where_within a b Cond f s e v h = (f s e v h.0, h.1)

where_same : (a b : Meaning) (Cond : Valuation → Type 0) → Same a b → Same (Where a Cond) (Where b Cond)
where_same a b Cond p = record { to = where_within a b Cond p.to; back = where_within b a Cond p.back }

where_both : (a : Meaning) (C D : Valuation → Type 0) → Same (Where a (λ v. C v × D v)) (Where (Where a C) D)
where_both a C D = record { to = λ s e v h. ((h.0, h.1.0), h.1.1); back = λ s e v h. (h.0.0, (h.0.1, h.1)) }

where_either : (a : Meaning) (C D : Valuation → Type 0) → Same (Where a (λ v. C v ⊎ D v)) (OneOf (Where a C) (Where a D))
where_either a C D = record { to = λ s e v h. to s e v h.0 h.1; back = back }
  where
    to : (s e : ℕ) (v : Valuation) → a s e v → C v ⊎ D v → OneOf (Where a C) (Where a D) s e v
    to s e v h (inl k) = inl (h, k)
    to s e v h (inr k) = inr (h, k)

    back : Within (OneOf (Where a C) (Where a D)) (Where a (λ v. C v ⊎ D v))
    back s e v (inl h) = (h.0, inl h.1)
    back s e v (inr h) = (h.0, inr h.1)

mutual
  filtered_tree : (stream : Stream) (c : Filter) (t : LeafTree Occurrence) → Same (Where (tree_meaning stream t) (Meets stream c)) (tree_meaning stream (filtered c t))
  filtered_tree stream (On name pred) t = checked_tree stream name.text pred t
  filtered_tree stream (All' s filters) t = all_filtered stream filters t
  filtered_tree stream (Any' s filters) t = any_filtered stream filters t

  all_filtered : (stream : Stream) {m : _} (cs : Row_of-Filter m) (t : LeafTree Occurrence) → Same (Where (tree_meaning stream t) (MeetsAll stream cs)) (tree_meaning stream (filtered_by_all cs t))
  all_filtered stream end_of-Filter t = record { to = λ s e v h. h.0; back = λ s e v h. (h, tt) }
  all_filtered stream (more_of-Filter c cs) t = Same_trans _ _ _ (where_both (tree_meaning stream t) (Meets stream c) (MeetsAll stream cs)) (Same_trans _ _ _ (where_same _ _ (MeetsAll stream cs) (filtered_tree stream c t)) (all_filtered stream cs (filtered c t)))

  any_filtered : (stream : Stream) {m : _} (cs : Row_of-Filter m) (t : LeafTree Occurrence) → Same (Where (tree_meaning stream t) (MeetsAny stream cs)) (tree_meaning stream (filtered_by_any cs t))
  any_filtered stream end_of-Filter t = record { to = λ s e v h. h.1; back = λ s e v h. absurd h }
  any_filtered stream (more_of-Filter c cs) t = Same_trans _ _ _ (where_either (tree_meaning stream t) (Meets stream c) (MeetsAny stream cs)) (either_same _ _ _ _ (filtered_tree stream c t) (any_filtered stream cs t))

under_tree : (stream : Stream) (cs : List Filter) (part : Meaning) (t : LeafTree Occurrence) → Same part (tree_meaning stream t) → Same (under stream cs part) (tree_meaning stream (under_all cs t))
under_tree stream [] part t h = h
under_tree stream (c ∷ cs) part t h = under_tree stream cs (Filtered stream c part) (filtered c t) (Same_trans _ _ _ (where_same _ _ (Meets stream c) h) (filtered_tree stream c t))

-- what may follow next may follow later
follows_later : (stream : Stream) (u : Bool) (a b : ℕ) → MayFollow stream u a b → a < b
follows_later stream true a b f = f.0
follows_later stream false a b f = f

first_looser : (stream : Stream) (tight u : Bool) (a b : ℕ) → MayFollow stream tight a b → MayFollow stream (tight && u) a b
first_looser stream true true a b f = f
first_looser stream true false a b f = f.0
first_looser stream false u a b f = f

second_looser : (stream : Stream) (tight u : Bool) (a b : ℕ) → MayFollow stream u a b → MayFollow stream (tight && u) a b
second_looser stream true u a b f = f
second_looser stream false u a b f = follows_later stream u a b f

-- a repetition, and after it another one of the same part
joined_rounds : (stream : Stream) (tight : Bool) (part : Meaning) (s m n e : ℕ) (v w : Valuation) → Repeated stream tight part s m v → MayFollow stream tight m n → Repeated stream tight part n e w → Repeated stream tight part s e (v ++ w)
joined_rounds stream tight part s m n e v w (once h) f r = again h f r
joined_rounds stream tight part s m n e v w (again {middle = k} {next = j} {v = x} {w = y} h g q) f r = subst (Repeated stream tight part s e) (sym (append_assoc x y w)) (again h g (joined_rounds stream tight part j m n e y w q f r))

looser_rounds : (stream : Stream) (tight u : Bool) (part : Meaning) (s e : ℕ) (v : Valuation) → Repeated stream u part s e v → Repeated stream (tight && u) part s e v
looser_rounds stream tight u part s e v (once h) = once h
looser_rounds stream tight u part s e v (again {middle = m} {next = n} {w = w} h f r) = again h (second_looser stream tight u m n f) (looser_rounds stream tight u part n e w r)

-- A repetition of a repetition repeats the part, next to one another where both do.
rounds_of_rounds : (stream : Stream) (tight u : Bool) (part : Meaning) (s e : ℕ) (v : Valuation) → Repeated stream tight (Repeated stream u part) s e v → Repeated stream (tight && u) part s e v
rounds_of_rounds stream tight u part s e v (once h) = looser_rounds stream tight u part s e v h
rounds_of_rounds stream tight u part s e v (again {middle = m} {next = n} {v = x} {w = y} h f r) = joined_rounds stream (tight && u) part s m n e x y (looser_rounds stream tight u part s m x h) (first_looser stream tight u m n f) (rounds_of_rounds stream tight u part n e y r)

each_round_alone : (stream : Stream) (u : Bool) (part : Meaning) (s e : ℕ) (v : Valuation) → Repeated stream false part s e v → Repeated stream false (Repeated stream u part) s e v
each_round_alone stream u part s e v (once h) = once (once h)
each_round_alone stream u part s e v (again {next = n} {w = w} h f r) = again (once h) f (each_round_alone stream u part n e w r)

rounds_in_rounds : (stream : Stream) (tight u : Bool) (part : Meaning) (s e : ℕ) (v : Valuation) → Repeated stream (tight && u) part s e v → Repeated stream tight (Repeated stream u part) s e v
rounds_in_rounds stream true u part s e v h = once h
rounds_in_rounds stream false u part s e v h = each_round_alone stream u part s e v h

repeated_tree : (stream : Stream) (tight : Bool) (part : Meaning) (t : LeafTree Occurrence) → Same part (tree_meaning stream t) → Same (Repeated stream tight part) (tree_meaning stream (one_or_more tight t))
repeated_tree stream tight part (leaf l) h = repeated_same stream tight _ _ h
repeated_tree stream tight part none h = repeated_same stream tight _ _ h
repeated_tree stream tight part (sequence u a b) h = repeated_same stream tight _ _ h
repeated_tree stream tight part (either a b) h = repeated_same stream tight _ _ h
repeated_tree stream tight part (plus u a) h = Same_trans _ _ _ (repeated_same stream tight _ _ h) record { to = rounds_of_rounds stream tight u (tree_meaning stream a); back = rounds_in_rounds stream tight u (tree_meaning stream a) }

postfixed_tree : (stream : Stream) (p : Postfix) (part : Meaning) (t : LeafTree Occurrence) → Same part (tree_meaning stream t) → Same (with_postfix stream p part) (tree_meaning stream (postfixed p t))
postfixed_tree stream Plus part t h = repeated_tree stream false part t h
postfixed_tree stream NextPlus part t h = repeated_tree stream true part t h
postfixed_tree stream (Named name) part t h = Same_trans _ _ _ (renamed_same (with_name name.text) _ _ h) (renamed_tree stream (with_name name.text) t)
postfixed_tree stream (Keep names) part t h = Same_trans _ _ _ (renamed_same (only_names names) _ _ h) (renamed_tree stream (only_names names) t)

all_postfixed : (stream : Stream) (ps : List Postfix) (part : Meaning) (t : LeafTree Occurrence) → Same part (tree_meaning stream t) → Same (with_postfixes stream ps part) (tree_meaning stream (postfixed_by_all ps t))
all_postfixed stream [] part t h = h
all_postfixed stream (p ∷ ps) part t h = all_postfixed stream ps (with_postfix stream p part) (postfixed p t) (postfixed_tree stream p part t h)

single_leaf : (stream : Stream) (name : List ℕ) → Same (Single stream name) (AtLeaf stream (record { type = name; tests = []; names = name ∷ [] }))
single_leaf stream name = record {
  to = λ s e v h. record { reads = record { typed = h.typed; tests = tt }; ends = h.ends; bound = h.bound };
  back = λ s e v h. record { typed = h.reads.typed; ends = h.ends; bound = h.bound };
}

-- A formula means what its tree means.
mutual
  pub expanded : (stream : Stream) (f : Formula) → Same (meaning stream f) (tree_meaning stream (expand f))
  expanded stream (Of name) = single_leaf stream name.text
  expanded stream (Chain' s parts) = chain_expanded stream parts
  expanded stream (Linked' p first s links) = links_expanded stream (meaning stream first) (expand first) links (expanded stream first)
  expanded stream (Either' s choices) = choices_expanded stream choices
  expanded stream (Post' p base postfixes) = all_postfixed stream postfixes.items (meaning stream base) (expand base) (expanded stream base)
  expanded stream (Under' p base filters) = under_tree stream filters.items (meaning stream base) (expand base) (expanded stream base)

  chain_expanded : (stream : Stream) {m : _} (fs : Row_of-Formula m) → Same (first_of_chain stream fs) (tree_meaning stream (expand_chain fs))
  chain_expanded stream end_of-Formula = Same_refl _
  chain_expanded stream (more_of-Formula f rest) = on_expanded stream (meaning stream f) (expand f) rest (expanded stream f)

  on_expanded : (stream : Stream) {m : _} (before : Meaning) (t : LeafTree Occurrence) (fs : Row_of-Formula m) → Same before (tree_meaning stream t) → Same (chained stream before fs) (tree_meaning stream (expand_on t fs))
  on_expanded stream before t end_of-Formula h = h
  on_expanded stream before t (more_of-Formula f rest) h = on_expanded stream (Sequence stream false before (meaning stream f)) (sequence false t (expand f)) rest (sequence_same stream false _ _ _ _ h (expanded stream f))

  links_expanded : (stream : Stream) {m : _} (before : Meaning) (t : LeafTree Occurrence) (ls : Row_of-Link m) → Same before (tree_meaning stream t) → Same (linked stream before ls) (tree_meaning stream (expand_links t ls))
  links_expanded stream before t end_of-Link h = h
  links_expanded stream before t (more_of-Link tight next rest) h = links_expanded stream (Sequence stream tight before (meaning stream next)) (sequence tight t (expand next)) rest (sequence_same stream tight _ _ _ _ h (expanded stream next))

  choices_expanded : (stream : Stream) {m : _} (fs : Row_of-Formula m) → Same (one_of stream fs) (tree_meaning stream (expand_choices fs))
  choices_expanded stream end_of-Formula = Same_refl _
  choices_expanded stream (more_of-Formula f rest) = either_same _ _ _ _ (expanded stream f) (choices_expanded stream rest)
