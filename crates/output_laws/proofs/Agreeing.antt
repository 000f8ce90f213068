-- Streams that agree at the positions of an interval give a formula the same valuations there. For callers of the crate too.
use Rattle.std.proofs.Common.{◌≡◌, sym, subst, ◌∙◌, ℕ, ◌<◌, ◌≤◌, inl, inr, Bool, true, false, List, [], ◌∷◌, ◌++◌, Option, Some, None, slice_get, arith}
use Rattle.std.specs.Prelude.{IsTrue}
use Rattle.stream_schema.specs.Types.{Declared}
use Rattle.cel_terms.specs.declared.Name.{Name}
use Rattle.cel_terms.specs.declared.Pred.{Pred}
use Rattle.cel_terms.specs.declared.Filter.{Filter, On, All', Any', Row_of-Filter, end_of-Filter, more_of-Filter}
use Rattle.cel_terms.specs.declared.Postfix.{Postfix}
use Rattle.cel_terms.specs.declared.Postfix.TheVariants.{Plus, NextPlus, Named, Keep}
use Rattle.cel_terms.specs.declared.Formula.{Formula, Of, Chain', Linked', Either', Post', Under', Row_of-Formula, end_of-Formula, more_of-Formula, Row_of-Link, end_of-Link, more_of-Link}
use Rattle.cel_terms.specs.Predicate.{holds}
use Rattle.cel_terms.specs.Meaning.{Stream, Meaning, Valuation, MayFollow, Single, Sequence, Repeated, once, again, OneOf, Renamed, event_type_name, with_name, only_names, AllHold, Meets, MeetsAll, MeetsAny, Filtered, under, with_postfix, with_postfixes, meaning, first_of_chain, chained, linked, one_of}
use Rattle.cel_terms.specs.Answers.{selected}
use Rattle.cel_terms.proofs.Induction.{renamed, later}

-- From the first position on and below n the same positions are of the two substreams, with the same events.
pub record Agree (from n : ℕ) (a b : Stream) : Type 0 where
  pub schema : a.schema ≡ b.schema
  pub events : (p : ℕ) → from ≤ p → p < n → a.Has p → slice_get a.events p ≡ slice_get b.events p
  pub there : (p : ℕ) → from ≤ p → p < n → a.Has p → b.Has p
  pub back : (p : ℕ) → from ≤ p → p < n → b.Has p → a.Has p

-- The position is one of these, and of the substream.
pub record IsIn (a : Stream) (from n p : ℕ) : Type 0 where
  pub low : from ≤ p
  pub high : p < n
  pub has : a.Has p

-- each position of the valuation is one of them
abbrev pub AllIn : Stream → ℕ → ℕ → Valuation → Type 0
AllIn a from n [] = Unit {0}
AllIn a from n (b ∷ v) = IsIn a from n b.position × AllIn a from n v

-- The part has the valuation, whose positions are of them.
pub record HasThere (a : Stream) (from n : ℕ) (part : Meaning) (start end : ℕ) (v : Valuation) : Type 0 where
  pub means : part start end v
  pub within : AllIn a from n v

-- The same, where it does not start before them; it does not end before it starts.
pub record IsCarried (a : Stream) (from n : ℕ) (part : Meaning) (start end : ℕ) (v : Valuation) : Type 0 where
  pub ordered : start ≤ end
  pub there : from ≤ start → HasThere a from n part start end v

-- What the one part has between them, the other has too.
abbrev pub Carries : Stream → ℕ → ℕ → Meaning → Meaning → Type 0
Carries a from n part other = (s e : ℕ) (v : Valuation) → e < n → part s e v → IsCarried a from n other s e v

within_joined : (a : Stream) (from n : ℕ) (v w : Valuation) → AllIn a from n v → AllIn a from n w → AllIn a from n (v ++ w)
within_joined a from n [] w h k = k
within_joined a from n (b ∷ v) w h k = (h.0, within_joined a from n v w h.1 k)

within_renamed : (a : Stream) (from n : ℕ) (change : List (List ℕ) → List (List ℕ)) (v : Valuation) → AllIn a from n v → AllIn a from n (renamed change v)
within_renamed a from n change [] h = tt
within_renamed a from n change (b ∷ v) h = (h.0, within_renamed a from n change v h.1)

follows_too : (from n : ℕ) (a b : Stream) → Agree from n a b → (tight : Bool) (middle next : ℕ) → from ≤ middle → next < n → MayFollow a tight middle next → MayFollow b tight middle next
follows_too from n a b g false middle next low less h = h
follows_too from n a b g true middle next low less h = (h.0, λ p has after before. h.1 p (g.back p (omega arith) (omega arith) has) after before)

single_carries : (from n : ℕ) (a b : Stream) → Agree from n a b → (name : List ℕ) → Carries a from n (Single a name) (Single b name)
single_carries from n a b g name s e v less h =
    let is = h.ends in
    let high : s < n = omega arith in
    record {
      ordered = omega arith;
      there = λ low. record {
        means = record {
          typed = record {
            event = h.typed.event;
            at = sym (g.events s low high h.typed.within) ∙ h.typed.at;
            typed = subst (λ (d : Declared). event_type_name d h.typed.event ≡ Some name) g.schema h.typed.typed;
            within = g.there s low high h.typed.within;
          };
          ends = h.ends;
          bound = h.bound;
        };
        within = subst (AllIn a from n) (sym h.bound) (record { low = low; high = high; has = h.typed.within }, tt);
      };
    }

sequence_carries : (from n : ℕ) (a b : Stream) → Agree from n a b → (tight : Bool) (p p' q q' : Meaning) → Carries a from n p p' → Carries a from n q q' → Carries a from n (Sequence a tight p q) (Sequence b tight p' q')
sequence_carries from n a b g tight p p' q q' f k s e v less h =
    let second = k h.next e h.after less h.second_is in
    let order = second.ordered in
    let step = later a tight h.middle h.next h.follows in
    let next_less : h.next < n = omega arith in
    let middle_less : h.middle < n = omega arith in
    let first = f s h.middle h.before middle_less h.first_is in
    let before = first.ordered in
    record {
      ordered = omega arith;
      there = λ low. (
          let middle_low : from ≤ h.middle = omega arith in
          let next_low : from ≤ h.next = omega arith in
          let one = first.there low in
          let two = second.there next_low in
          record {
            means = record {
              middle = h.middle;
              next = h.next;
              before = h.before;
              after = h.after;
              first_is = one.means;
              follows = follows_too from n a b g tight h.middle h.next middle_low next_less h.follows;
              second_is = two.means;
              united = h.united;
            };
            within = subst (AllIn a from n) (sym h.united) (within_joined a from n h.before h.after one.within two.within);
          });
    }

repeated_carries : (from n : ℕ) (a b : Stream) → Agree from n a b → (tight : Bool) (p p' : Meaning) → Carries a from n p p' → (s e : ℕ) (v : Valuation) → Repeated a tight p s e v → e < n → IsCarried a from n (Repeated b tight p') s e v
repeated_carries from n a b g tight p p' f s e v (once {start = start} {end = end} {v = v'} h) less =
    let one = f start end v' less h in
    record { ordered = one.ordered; there = λ low. (let has = one.there low in record { means = once has.means; within = has.within }) }
repeated_carries from n a b g tight p p' f s e v (again {start = start} {middle = middle} {next = next} {end = end} {v = v'} {w = w} h m r) less =
    let rest = repeated_carries from n a b g tight p p' f next end w r less in
    let order = rest.ordered in
    let step = later a tight middle next m in
    let next_less : next < n = omega arith in
    let middle_less : middle < n = omega arith in
    let first = f start middle v' middle_less h in
    let before = first.ordered in
    record {
      ordered = omega arith;
      there = λ low. (
          let middle_low : from ≤ middle = omega arith in
          let next_low : from ≤ next = omega arith in
          let one = first.there low in
          let two = rest.there next_low in
          record {
            means = again one.means (follows_too from n a b g tight middle next middle_low next_less m) two.means;
            within = within_joined a from n v' w one.within two.within;
          });
    }

renamed_carries : (a : Stream) (from n : ℕ) (change : List (List ℕ) → List (List ℕ)) (p p' : Meaning) → Carries a from n p p' → Carries a from n (Renamed change p) (Renamed change p')
renamed_carries a from n change p p' f s e v less h =
    let one = f s e h.0 less h.1 in
    record {
      ordered = one.ordered;
      there = λ low. (let has = one.there low in record { means = (h.0, has.means, h.2); within = subst (AllIn a from n) (sym h.2) (within_renamed a from n change h.0 has.within) });
    }

either_carries : (a : Stream) (from n : ℕ) (p p' q q' : Meaning) → Carries a from n p p' → Carries a from n q q' → Carries a from n (OneOf p q) (OneOf p' q')
either_carries a from n p p' q q' f k s e v less (inl h) =
    let one = f s e v less h in
    record { ordered = one.ordered; there = λ low. (let has = one.there low in record { means = inl has.means; within = has.within }) }
either_carries a from n p p' q q' f k s e v less (inr h) =
    let one = k s e v less h in
    record { ordered = one.ordered; there = λ low. (let has = one.there low in record { means = inr has.means; within = has.within }) }

all_hold : (from n : ℕ) (a b : Stream) → Agree from n a b → (name : List ℕ) (pred : Pred) (v : Valuation) → AllIn a from n v → AllHold a name (holds a.schema pred) v → AllHold b name (holds b.schema pred) v
all_hold from n a b g name pred [] within h = tt
all_hold from n a b g name pred (c ∷ v) within h = (
  λ listed event at. subst (λ (d : Declared). IsTrue (holds d pred event)) g.schema (h.0 listed event (g.events c.position within.0.low within.0.high within.0.has ∙ at)),
  all_hold from n a b g name pred v within.1 h.1,
)

mutual
  meets_too : (from n : ℕ) (a b : Stream) → Agree from n a b → (c : Filter) (v : Valuation) → AllIn a from n v → Meets a c v → Meets b c v
  meets_too from n a b g (On name pred) v within h = all_hold from n a b g name.text pred v within h
  meets_too from n a b g (All' s filters) v within h = all_too from n a b g filters v within h
  meets_too from n a b g (Any' s filters) v within h = any_too from n a b g filters v within h

  all_too : (from n : ℕ) (a b : Stream) → Agree from n a b → {m : _} → (row : Row_of-Filter m) (v : Valuation) → AllIn a from n v → MeetsAll a row v → MeetsAll b row v
  all_too from n a b g end_of-Filter v within h = h
  all_too from n a b g (more_of-Filter c rest) v within h = (meets_too from n a b g c v within h.0, all_too from n a b g rest v within h.1)

  any_too : (from n : ℕ) (a b : Stream) → Agree from n a b → {m : _} → (row : Row_of-Filter m) (v : Valuation) → AllIn a from n v → MeetsAny a row v → MeetsAny b row v
  any_too from n a b g end_of-Filter v within h = h
  any_too from n a b g (more_of-Filter c rest) v within (inl h) = inl (meets_too from n a b g c v within h)
  any_too from n a b g (more_of-Filter c rest) v within (inr h) = inr (any_too from n a b g rest v within h)

filtered_carries : (from n : ℕ) (a b : Stream) → Agree from n a b → (c : Filter) (p p' : Meaning) → Carries a from n p p' → Carries a from n (Filtered a c p) (Filtered b c p')
filtered_carries from n a b g c p p' f s e v less h =
    let one = f s e v less h.0 in
    record { ordered = one.ordered; there = λ low. (let has = one.there low in record { means = (has.means, meets_too from n a b g c v has.within h.1); within = has.within }) }

under_carries : (from n : ℕ) (a b : Stream) → Agree from n a b → (cs : List Filter) (p p' : Meaning) → Carries a from n p p' → Carries a from n (under a cs p) (under b cs p')
under_carries from n a b g [] p p' f = f
under_carries from n a b g (c ∷ cs) p p' f = under_carries from n a b g cs (Filtered a c p) (Filtered b c p') (filtered_carries from n a b g c p p' f)

postfix_carries : (from n : ℕ) (a b : Stream) → Agree from n a b → (x : Postfix) (p p' : Meaning) → Carries a from n p p' → Carries a from n (with_postfix a x p) (with_postfix b x p')
postfix_carries from n a b g Plus p p' f = λ s e v less h. repeated_carries from n a b g false p p' f s e v h less
postfix_carries from n a b g NextPlus p p' f = λ s e v less h. repeated_carries from n a b g true p p' f s e v h less
postfix_carries from n a b g (Named name) p p' f = renamed_carries a from n (with_name name.text) p p' f
postfix_carries from n a b g (Keep names) p p' f = renamed_carries a from n (only_names names) p p' f

postfixes_carry : (from n : ℕ) (a b : Stream) → Agree from n a b → (xs : List Postfix) (p p' : Meaning) → Carries a from n p p' → Carries a from n (with_postfixes a xs p) (with_postfixes b xs p')
postfixes_carry from n a b g [] p p' f = f
postfixes_carry from n a b g (x ∷ xs) p p' f = postfixes_carry from n a b g xs (with_postfix a x p) (with_postfix b x p') (postfix_carries from n a b g x p p' f)

-- Every formula carries.
mutual
  pub carries : (from n : ℕ) (a b : Stream) → Agree from n a b → (f : Formula) → Carries a from n (meaning a f) (meaning b f)
  carries from n a b g (Of name) = single_carries from n a b g name.text
  carries from n a b g (Chain' s parts) = first_carries from n a b g parts
  carries from n a b g (Linked' p first s links) = links_carry from n a b g (meaning a first) (meaning b first) links (carries from n a b g first)
  carries from n a b g (Either' s choices) = choices_carry from n a b g choices
  carries from n a b g (Post' p base postfixes) = postfixes_carry from n a b g postfixes.items (meaning a base) (meaning b base) (carries from n a b g base)
  carries from n a b g (Under' p base filters) = under_carries from n a b g filters.items (meaning a base) (meaning b base) (carries from n a b g base)

  first_carries : (from n : ℕ) (a b : Stream) → Agree from n a b → {m : _} → (row : Row_of-Formula m) → Carries a from n (first_of_chain a row) (first_of_chain b row)
  first_carries from n a b g end_of-Formula = λ s e v less h. absurd h
  first_carries from n a b g (more_of-Formula f rest) = chain_carries from n a b g (meaning a f) (meaning b f) rest (carries from n a b g f)

  chain_carries : (from n : ℕ) (a b : Stream) → Agree from n a b → {m : _} → (p p' : Meaning) (row : Row_of-Formula m) → Carries a from n p p' → Carries a from n (chained a p row) (chained b p' row)
  chain_carries from n a b g p p' end_of-Formula k = k
  chain_carries from n a b g p p' (more_of-Formula f rest) k =
      chain_carries from n a b g (Sequence a false p (meaning a f)) (Sequence b false p' (meaning b f)) rest
      (sequence_carries from n a b g false p p' (meaning a f) (meaning b f) k (carries from n a b g f))

  links_carry : (from n : ℕ) (a b : Stream) → Agree from n a b → {m : _} → (p p' : Meaning) (row : Row_of-Link m) → Carries a from n p p' → Carries a from n (linked a p row) (linked b p' row)
  links_carry from n a b g p p' end_of-Link k = k
  links_carry from n a b g p p' (more_of-Link tight next rest) k =
      links_carry from n a b g (Sequence a tight p (meaning a next)) (Sequence b tight p' (meaning b next)) rest
      (sequence_carries from n a b g tight p p' (meaning a next) (meaning b next) k (carries from n a b g next))

  choices_carry : (from n : ℕ) (a b : Stream) → Agree from n a b → {m : _} → (row : Row_of-Formula m) → Carries a from n (one_of a row) (one_of b row)
  choices_carry from n a b g end_of-Formula = λ s e v less h. absurd h
  choices_carry from n a b g (more_of-Formula f rest) = either_carries a from n (meaning a f) (meaning b f) (one_of a rest) (one_of b rest) (carries from n a b g f) (choices_carry from n a b g rest)

pub selected_carries : (from n : ℕ) (a b : Stream) → Agree from n a b → (names : Option (List Name)) (f : Formula) → Carries a from n (selected names (meaning a f)) (selected names (meaning b f))
selected_carries from n a b g None f = carries from n a b g f
selected_carries from n a b g (Some names) f = renamed_carries a from n (only_names names) (meaning a f) (meaning b f) (carries from n a b g f)
