-- Laws of the meaning of formulas, which follow from its definition.
use Rattle.std.specs.Prelude.{◌≡◌, ℕ, ◌<◌, ◌≤◌, ◌↔◌, Bool, List, [], ◌∷◌, Contains, Some, None, length, slice_get}
use Rattle.stream_schema.specs.Types.{Declared, IsWellDeclared}
use Rattle.stream_schema.specs.declared.Event.{Event}
use Rattle.cel_terms.specs.declared.Postfix.{Postfix}
use Rattle.cel_terms.specs.declared.Postfix.TheVariants.{Keep}
use Rattle.cel_terms.specs.declared.Formula.{Formula, Of, Chain', Linked', Either', Post', Under', Row_of-Formula, end_of-Formula, more_of-Formula, Row_of-Link, end_of-Link, more_of-Link}
use Rattle.cel_terms.specs.declared.Query.{Query}
use Rattle.cel_terms.specs.Predicate.{attr_value}
use Rattle.cel_terms.specs.Meaning.{Stream, Meaning, Valuation, Sequence, Repeated, OneOf, meaning}
use Rattle.cel_terms.specs.Answers.{Answer, IsAnswer, IsOfSubstream}

-- the stream of the events whose substream is the listed positions
abbrev pub stream_of : Declared → List Event → List ℕ → Stream
stream_of schema events positions = record { schema = schema; events = events; Has = Contains positions }

-- The two have the same valuations.
abbrev pub AreSame : Meaning → Meaning → Type 0
AreSame a b = (start end : ℕ) (v : Valuation) → a start end v ↔ b start end v

-- A chain may be bracketed anywhere.
abbrev pub ChainsBracketAnywhere : Type 0
ChainsBracketAnywhere = (schema : Declared) (events : List Event) (positions : List ℕ) (tight closer : Bool) (f g h : Formula) →
    let stream = stream_of schema events positions in
    AreSame (Sequence stream closer (Sequence stream tight (meaning stream f) (meaning stream g)) (meaning stream h))
    (Sequence stream tight (meaning stream f) (Sequence stream closer (meaning stream g) (meaning stream h)))

-- The order of the two in an OR does not matter.
abbrev pub ChoicesCommute : Type 0
ChoicesCommute = (schema : Declared) (events : List Event) (positions : List ℕ) (f g : Formula) →
    let stream = stream_of schema events positions in
    AreSame (OneOf (meaning stream f) (meaning stream g)) (OneOf (meaning stream g) (meaning stream f))

-- One or more of a formula is one, or one and then one or more.
abbrev pub RepetitionUnfolds : Type 0
RepetitionUnfolds = (schema : Declared) (events : List Event) (positions : List ℕ) (tight : Bool) (f : Formula) →
    let stream = stream_of schema events positions in
    let repeated = Repeated stream tight (meaning stream f) in
    AreSame repeated (OneOf (meaning stream f) (Sequence stream tight (meaning stream f) repeated))

-- The interval begins and ends at events of the substream, and does not end before it begins.
pub record IsSpan (stream : Stream) (start end : ℕ) : Type 0 where
  pub begins : stream.Has start
  pub ends : stream.Has end
  pub ordered : start ≤ end
  pub there : end < length stream.events

-- The interval of each valuation of a formula is one of the substream.
abbrev pub IntervalsSpan : Type 0
IntervalsSpan = (schema : Declared) (events : List Event) (positions : List ℕ) (f : Formula) (start end : ℕ) (v : Valuation) →
    let stream = stream_of schema events positions in
    meaning stream f start end v → IsSpan stream start end

-- The position is one of the substream, from the start to the end.
pub record IsWithin (Has : ℕ → Type 0) (start end position : ℕ) : Type 0 where
  pub has : Has position
  pub from : start ≤ position
  pub to : position ≤ end

-- The marks of an answer are positions of the substream within its interval.
abbrev pub MarksLieWithin : Type 0
MarksLieWithin = (schema : Declared) (q : Query) (events : List Event) (end : ℕ) (answer : Answer) →
    IsAnswer schema q events end answer → (p : ℕ) → Contains answer.marks p →
    IsWithin (IsOfSubstream schema q events end) answer.start end p

-- no KEEP among the postfixes
abbrev pub HaveNoKeep : List Postfix → Type 0
HaveNoKeep [] = Unit {0}
HaveNoKeep (Keep names ∷ ps) = ⊥
HaveNoKeep (p ∷ ps) = HaveNoKeep ps

-- no KEEP in the formula
abbrev mutual
  pub HasNoKeep : Formula → Type 0
  HasNoKeep (Of name) = Unit {0}
  HasNoKeep (Chain' s parts) = AllHaveNoKeep parts
  HasNoKeep (Linked' p first s links) = HasNoKeep first × LinksHaveNoKeep links
  HasNoKeep (Either' s choices) = AllHaveNoKeep choices
  HasNoKeep (Post' p base postfixes) = HasNoKeep base × HaveNoKeep postfixes.items
  HasNoKeep (Under' p base filters) = HasNoKeep base

  pub AllHaveNoKeep : {m : _} → Row_of-Formula m → Type 0
  AllHaveNoKeep end_of-Formula = Unit {0}
  AllHaveNoKeep (more_of-Formula f rest) = HasNoKeep f × AllHaveNoKeep rest

  pub LinksHaveNoKeep : {m : _} → Row_of-Link m → Type 0
  LinksHaveNoKeep end_of-Link = Unit {0}
  LinksHaveNoKeep (more_of-Link tight next rest) = HasNoKeep next × LinksHaveNoKeep rest

-- Without SELECT and KEEP an answer's interval begins and ends at marks.
abbrev pub EndsAreMarked : Type 0
EndsAreMarked = (schema : Declared) (q : Query) (events : List Event) (end : ℕ) (answer : Answer) →
    q.select ≡ None → HasNoKeep q.formula → IsAnswer schema q events end answer →
    Contains answer.marks answer.start × Contains answer.marks end

-- An event whose type number is not declared is of no substream and has no attribute, so it can stand for a position that is left out.
abbrev pub UndeclaredIsLeftOut : Type 0
UndeclaredIsLeftOut = (schema : Declared) (q : Query) (events : List Event) (end position : ℕ) (event : Event) →
    IsWellDeclared schema → slice_get events position ≡ Some event → length schema.types ≤ event.ty →
    (IsOfSubstream schema q events end position → ⊥) × ((name : List ℕ) → attr_value schema event name ≡ None)
