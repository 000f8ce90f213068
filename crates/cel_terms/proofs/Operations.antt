-- The operations of the meaning keep inclusion, and their laws. For callers of the crate too.
use Rattle.std.proofs.Common.{refl, sym, ap, subst, ◌∙◌, ℕ, inl, inr, Bool, List, ◌++◌, append_assoc}
use Rattle.cel_terms.specs.declared.Filter.{Filter}
use Rattle.cel_terms.specs.Meaning.{Stream, Meaning, Valuation, MayFollow, Sequence, Repeated, once, again, OneOf, Renamed, Filtered}
use Rattle.cel_terms.specs.MeaningLaws.{AreSame}

-- each valuation of the one is one of the other
abbrev pub Within : Meaning → Meaning → Type 0
Within a b = (s e : ℕ) (v : Valuation) → a s e v → b s e v

-- What may follow in the one stream may follow in the other.
abbrev pub Moves : Stream → Stream → Type 0
Moves a b = (tight : Bool) (from to : ℕ) → MayFollow a tight from to → MayFollow b tight from to

pub Moves-refl : (a : Stream) → Moves a a
Moves-refl a tight from to h = h

pub Within-refl : (a : Meaning) → Within a a
Within-refl a s e v h = h

pub Within-trans : (a b c : Meaning) → Within a b → Within b c → Within a c
Within-trans a b c f g s e v h = g s e v (f s e v h)

pub same : (a b : Meaning) → Within a b → Within b a → AreSame a b
same a b f g s e v = (f s e v, g s e v)

pub same_to : (a b : Meaning) → AreSame a b → Within a b
same_to a b f s e v = (f s e v).0

pub same_back : (a b : Meaning) → AreSame a b → Within b a
same_back a b f s e v = (f s e v).1

pub sequence_within : (x y : Stream) → Moves x y → (tight : Bool) (a a' b b' : Meaning) → Within a a' → Within b b' → Within (Sequence x tight a b) (Sequence y tight a' b')
sequence_within x y moves tight a a' b b' f g s e v h = record {
  middle = h.middle;
  next = h.next;
  before = h.before;
  after = h.after;
  first_is = f s h.middle h.before h.first_is;
  follows = moves tight h.middle h.next h.follows;
  second_is = g h.next e h.after h.second_is;
  united = h.united;
}

pub either_within : (a a' b b' : Meaning) → Within a a' → Within b b' → Within (OneOf a b) (OneOf a' b')
either_within a a' b b' f g s e v (inl h) = inl (f s e v h)
either_within a a' b b' f g s e v (inr h) = inr (g s e v h)

pub repeated_within : (x y : Stream) → Moves x y → (tight : Bool) (a a' : Meaning) → Within a a' → Within (Repeated x tight a) (Repeated y tight a')
repeated_within x y moves tight a a' f s e v (once h) = once (f _ _ _ h)
repeated_within x y moves tight a a' f s e v (again h m r) = again (f _ _ _ h) (moves tight _ _ m) (repeated_within x y moves tight a a' f _ _ _ r)

pub renamed_within : (g : List (List ℕ) → List (List ℕ)) (a a' : Meaning) → Within a a' → Within (Renamed g a) (Renamed g a')
renamed_within g a a' f s e v h = (h.0, f s e h.0 h.1, h.2)

pub filtered_within : (stream : Stream) (c : Filter) (a a' : Meaning) → Within a a' → Within (Filtered stream c a) (Filtered stream c a')
filtered_within stream c a a' f s e v h = (f s e v h.0, h.1)

pub bracketed_right : (stream : Stream) (tight closer : Bool) (a b c : Meaning) → Within (Sequence stream closer (Sequence stream tight a b) c) (Sequence stream tight a (Sequence stream closer b c))
bracketed_right stream tight closer a b c s e v h = record {
  middle = h.first_is.middle;
  next = h.first_is.next;
  before = h.first_is.before;
  after = h.first_is.after ++ h.after;
  first_is = h.first_is.first_is;
  follows = h.first_is.follows;
  second_is = record {
    middle = h.middle;
    next = h.next;
    before = h.first_is.after;
    after = h.after;
    first_is = h.first_is.second_is;
    follows = h.follows;
    second_is = h.second_is;
    united = refl;
  };
  united = h.united ∙ (ap (λ x. x ++ h.after) h.first_is.united ∙ append_assoc h.first_is.before h.first_is.after h.after);
}

pub bracketed_left : (stream : Stream) (tight closer : Bool) (a b c : Meaning) → Within (Sequence stream tight a (Sequence stream closer b c)) (Sequence stream closer (Sequence stream tight a b) c)
bracketed_left stream tight closer a b c s e v h = record {
  middle = h.second_is.middle;
  next = h.second_is.next;
  before = h.before ++ h.second_is.before;
  after = h.second_is.after;
  first_is = record {
    middle = h.middle;
    next = h.next;
    before = h.before;
    after = h.second_is.before;
    first_is = h.first_is;
    follows = h.follows;
    second_is = h.second_is.first_is;
    united = refl;
  };
  follows = h.second_is.follows;
  second_is = h.second_is.second_is;
  united = h.united ∙ (ap (λ x. h.before ++ x) h.second_is.united ∙ sym (append_assoc h.before h.second_is.before h.second_is.after));
}

pub either_turned : (a b : Meaning) → Within (OneOf a b) (OneOf b a)
either_turned a b s e v (inl h) = inr h
either_turned a b s e v (inr h) = inl h

pub unfolded : (stream : Stream) (tight : Bool) (a : Meaning) → Within (Repeated stream tight a) (OneOf a (Sequence stream tight a (Repeated stream tight a)))
unfolded stream tight a s e v (once h) = inl h
unfolded stream tight a s e v (again {v = v'} {w = w} h m r) = inr record {
  middle = _;
  next = _;
  before = v';
  after = w;
  first_is = h;
  follows = m;
  second_is = r;
  united = refl;
}

pub folded : (stream : Stream) (tight : Bool) (a : Meaning) → Within (OneOf a (Sequence stream tight a (Repeated stream tight a))) (Repeated stream tight a)
folded stream tight a s e v (inl h) = once h
folded stream tight a s e v (inr h) = subst (Repeated stream tight a s e) (sym h.united) (again h.first_is h.follows h.second_is)
