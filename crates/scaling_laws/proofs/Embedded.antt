-- Streams of which one stands in the other, with the same events in the same order at other positions: a formula has the same valuations in both.
use Rattle.std.proofs.Common.{◌≡◌, refl, sym, ap, subst, ◌∙◌, ℕ, ◌<◌, inl, inr, Bool, true, false, List, [], ◌∷◌, ◌++◌, Option, Some, None, slice_get}
use Rattle.std.specs.Prelude.{IsTrue}
use Rattle.stream_schema.specs.Types.{Declared}
use Rattle.cel_terms.specs.declared.Name.{Name}
use Rattle.cel_terms.specs.declared.Pred.{Pred}
use Rattle.cel_terms.specs.declared.Filter.{Filter, On, All', Any', Row_of-Filter, end_of-Filter, more_of-Filter}
use Rattle.cel_terms.specs.declared.Postfix.{Postfix}
use Rattle.cel_terms.specs.declared.Postfix.TheVariants.{Plus, NextPlus, Named, Keep}
use Rattle.cel_terms.specs.declared.Formula.{Formula, Of, Chain', Linked', Either', Post', Under', Row_of-Formula, end_of-Formula, more_of-Formula, Row_of-Link, end_of-Link, more_of-Link}
use Rattle.cel_terms.specs.Predicate.{holds}
use Rattle.cel_terms.specs.Meaning.{Stream, Meaning, Bound, Valuation, MayFollow, Single, Sequence, Repeated, once, again, OneOf, Renamed, event_type_name, lists_name, with_name, only_names, AllHold, Meets, MeetsAll, MeetsAny, Filtered, under, with_postfix, with_postfixes, meaning, first_of_chain, chained, linked, one_of}
use Rattle.cel_terms.specs.Answers.{selected}
use Rattle.cel_terms.proofs.Induction.{renamed}

-- The positions of the one substream stand at those of the other, in the same order, with the same events.
pub record Embeds (At : ℕ → ℕ → Type 0) (a b : Stream) : Type 0 where
  pub schema : a.schema ≡ b.schema
  pub events : (p q : ℕ) → At p q → slice_get a.events p ≡ slice_get b.events q
  pub forth : (p q : ℕ) → At p q → a.Has p → b.Has q
  pub back : (p q : ℕ) → At p q → b.Has q → a.Has p
  pub placed : (p : ℕ) → a.Has p → (q : ℕ) × At p q
  pub found : (q : ℕ) → b.Has q → (p : ℕ) × At p q
  pub rises : (p q r s : ℕ) → At p q → At r s → p < r → q < s
  pub falls : (p q r s : ℕ) → At p q → At r s → q < s → p < r

-- The other stands in the one as well.
pub turned : (At : ℕ → ℕ → Type 0) (a b : Stream) → Embeds At a b → Embeds (λ q p. At p q) b a
turned At a b g = record {
  schema = sym g.schema;
  events = λ q p at. sym (g.events p q at);
  forth = λ q p at. g.back p q at;
  back = λ q p at. g.forth p q at;
  placed = g.found;
  found = g.placed;
  rises = λ q p s r at there. g.falls p q r s at there;
  falls = λ q p s r at there. g.rises p q r s at there;
}

-- the elements of both lists, in order, are so to each other
abbrev pub AllAt : {X Y : Type 0} → (X → Y → Type 0) → List X → List Y → Type 0
AllAt R [] [] = Unit {0}
AllAt R [] (y ∷ ys) = ⊥
AllAt R (x ∷ xs) [] = ⊥
AllAt R (x ∷ xs) (y ∷ ys) = R x y × AllAt R xs ys

-- the same names at the places of the positions
abbrev pub AreAt : (ℕ → ℕ → Type 0) → Valuation → Valuation → Type 0
AreAt At = AllAt (λ (b c : Bound). At b.position c.position × (b.names ≡ c.names))

-- The part has the valuation at the places.
pub record IsCarried (At : ℕ → ℕ → Type 0) (part : Meaning) (start end : ℕ) (v : Valuation) : Type 0 where
  pub from : ℕ
  pub to : ℕ
  pub valuation : Valuation
  pub starts : At start from
  pub ends : At end to
  pub same : AreAt At v valuation
  pub means : part from to valuation

-- What the one part has, the other has at the places.
abbrev pub Carries : (ℕ → ℕ → Type 0) → Meaning → Meaning → Type 0
Carries At part other = (s e : ℕ) (v : Valuation) → part s e v → IsCarried At other s e v

joined_at : (At : ℕ → ℕ → Type 0) (v v' w w' : Valuation) → AreAt At v v' → AreAt At w w' → AreAt At (v ++ w) (v' ++ w')
joined_at At [] [] w w' h k = k
joined_at At [] (c ∷ v') w w' h k = absurd h
joined_at At (b ∷ v) [] w w' h k = absurd h
joined_at At (b ∷ v) (c ∷ v') w w' h k = (h.0, joined_at At v v' w w' h.1 k)

renamed_at : (At : ℕ → ℕ → Type 0) (change : List (List ℕ) → List (List ℕ)) (v w : Valuation) → AreAt At v w → AreAt At (renamed change v) (renamed change w)
renamed_at At change [] [] h = tt
renamed_at At change [] (c ∷ w) h = absurd h
renamed_at At change (b ∷ v) [] h = absurd h
renamed_at At change (b ∷ v) (c ∷ w) h = ((h.0.0, ap change h.0.1), renamed_at At change v w h.1)

follows_too : (At : ℕ → ℕ → Type 0) (a b : Stream) → Embeds At a b → (tight : Bool) (middle middle' next next' : ℕ) → At middle middle' → At next next' → MayFollow a tight middle next → MayFollow b tight middle' next'
follows_too At a b g false middle middle' next next' m n h = g.rises middle middle' next next' m n h
follows_too At a b g true middle middle' next next' m n h = (
  g.rises middle middle' next next' m n h.0,
  λ q has after before.
      let p = g.found q has in
      h.1 p.0 (g.back p.0 q p.1 has) (g.falls middle middle' p.0 q m p.1 after) (g.falls p.0 q next next' p.1 n before),
)

single_carries : (At : ℕ → ℕ → Type 0) (a b : Stream) → Embeds At a b → (name : List ℕ) → Carries At (Single a name) (Single b name)
single_carries At a b g name s e v h =
    let there = g.placed s h.typed.within in
    record {
      from = there.0;
      to = there.0;
      valuation = record { position = there.0; names = name ∷ [] } ∷ [];
      starts = there.1;
      ends = subst (λ (x : ℕ). At x there.0) (sym h.ends) there.1;
      same = subst (λ (w : Valuation). AreAt At w (record { position = there.0; names = name ∷ [] } ∷ [])) (sym h.bound) ((there.1, refl), tt);
      means = record {
        typed = record {
          event = h.typed.event;
          at = sym (g.events s there.0 there.1) ∙ h.typed.at;
          typed = subst (λ (d : Declared). event_type_name d h.typed.event ≡ Some name) g.schema h.typed.typed;
          within = g.forth s there.0 there.1 h.typed.within;
        };
        ends = refl;
        bound = refl;
      };
    }

sequence_carries : (At : ℕ → ℕ → Type 0) (a b : Stream) → Embeds At a b → (tight : Bool) (p p' q q' : Meaning) → Carries At p p' → Carries At q q' → Carries At (Sequence a tight p q) (Sequence b tight p' q')
sequence_carries At a b g tight p p' q q' f k s e v h =
    let one = f s h.middle h.before h.first_is in
    let two = k h.next e h.after h.second_is in
    record {
      from = one.from;
      to = two.to;
      valuation = one.valuation ++ two.valuation;
      starts = one.starts;
      ends = two.ends;
      same = subst (λ (w : Valuation). AreAt At w (one.valuation ++ two.valuation)) (sym h.united) (joined_at At h.before one.valuation h.after two.valuation one.same two.same);
      means = record {
        middle = one.to;
        next = two.from;
        before = one.valuation;
        after = two.valuation;
        first_is = one.means;
        follows = follows_too At a b g tight h.middle one.to h.next two.from one.ends two.starts h.follows;
        second_is = two.means;
        united = refl;
      };
    }

repeated_carries : (At : ℕ → ℕ → Type 0) (a b : Stream) → Embeds At a b → (tight : Bool) (p p' : Meaning) → Carries At p p' → (s e : ℕ) (v : Valuation) → Repeated a tight p s e v → IsCarried At (Repeated b tight p') s e v
repeated_carries At a b g tight p p' f s e v (once {start = start} {end = end} {v = v'} h) =
    let one = f start end v' h in
    record { from = one.from; to = one.to; valuation = one.valuation; starts = one.starts; ends = one.ends; same = one.same; means = once one.means }
repeated_carries At a b g tight p p' f s e v (again {start = start} {middle = middle} {next = next} {end = end} {v = v'} {w = w} h m r) =
    let one = f start middle v' h in
    let two = repeated_carries At a b g tight p p' f next end w r in
    record {
      from = one.from;
      to = two.to;
      valuation = one.valuation ++ two.valuation;
      starts = one.starts;
      ends = two.ends;
      same = joined_at At v' one.valuation w two.valuation one.same two.same;
      means = again one.means (follows_too At a b g tight middle one.to next two.from one.ends two.starts m) two.means;
    }

renamed_carries : (At : ℕ → ℕ → Type 0) (change : List (List ℕ) → List (List ℕ)) (p p' : Meaning) → Carries At p p' → Carries At (Renamed change p) (Renamed change p')
renamed_carries At change p p' f s e v h =
    let one = f s e h.0 h.1 in
    record {
      from = one.from;
      to = one.to;
      valuation = renamed change one.valuation;
      starts = one.starts;
      ends = one.ends;
      same = subst (λ (w : Valuation). AreAt At w (renamed change one.valuation)) (sym h.2) (renamed_at At change h.0 one.valuation one.same);
      means = (one.valuation, one.means, refl);
    }

either_carries : (At : ℕ → ℕ → Type 0) (p p' q q' : Meaning) → Carries At p p' → Carries At q q' → Carries At (OneOf p q) (OneOf p' q')
either_carries At p p' q q' f k s e v (inl h) =
    let one = f s e v h in
    record { from = one.from; to = one.to; valuation = one.valuation; starts = one.starts; ends = one.ends; same = one.same; means = inl one.means }
either_carries At p p' q q' f k s e v (inr h) =
    let one = k s e v h in
    record { from = one.from; to = one.to; valuation = one.valuation; starts = one.starts; ends = one.ends; same = one.same; means = inr one.means }

all_hold : (At : ℕ → ℕ → Type 0) (a b : Stream) → Embeds At a b → (name : List ℕ) (pred : Pred) (v w : Valuation) → AreAt At v w → AllHold a name (holds a.schema pred) v → AllHold b name (holds b.schema pred) w
all_hold At a b g name pred [] [] same h = tt
all_hold At a b g name pred [] (c ∷ w) same h = absurd same
all_hold At a b g name pred (c ∷ v) [] same h = absurd same
all_hold At a b g name pred (c ∷ v) (d ∷ w) same h = (
  λ listed event at. subst (λ (s : Declared). IsTrue (holds s pred event)) g.schema
      (h.0 (subst (λ (names : List (List ℕ)). lists_name names name ≡ true) (sym same.0.1) listed) event (g.events c.position d.position same.0.0 ∙ at)),
  all_hold At a b g name pred v w same.1 h.1,
)

mutual
  meets_too : (At : ℕ → ℕ → Type 0) (a b : Stream) → Embeds At a b → (c : Filter) (v w : Valuation) → AreAt At v w → Meets a c v → Meets b c w
  meets_too At a b g (On name pred) v w same h = all_hold At a b g name.text pred v w same h
  meets_too At a b g (All' s filters) v w same h = all_too At a b g filters v w same h
  meets_too At a b g (Any' s filters) v w same h = any_too At a b g filters v w same h

  all_too : (At : ℕ → ℕ → Type 0) (a b : Stream) → Embeds At a b → {m : _} → (row : Row_of-Filter m) (v w : Valuation) → AreAt At v w → MeetsAll a row v → MeetsAll b row w
  all_too At a b g end_of-Filter v w same h = h
  all_too At a b g (more_of-Filter c rest) v w same h = (meets_too At a b g c v w same h.0, all_too At a b g rest v w same h.1)

  any_too : (At : ℕ → ℕ → Type 0) (a b : Stream) → Embeds At a b → {m : _} → (row : Row_of-Filter m) (v w : Valuation) → AreAt At v w → MeetsAny a row v → MeetsAny b row w
  any_too At a b g end_of-Filter v w same h = h
  any_too At a b g (more_of-Filter c rest) v w same (inl h) = inl (meets_too At a b g c v w same h)
  any_too At a b g (more_of-Filter c rest) v w same (inr h) = inr (any_too At a b g rest v w same h)

filtered_carries : (At : ℕ → ℕ → Type 0) (a b : Stream) → Embeds At a b → (c : Filter) (p p' : Meaning) → Carries At p p' → Carries At (Filtered a c p) (Filtered b c p')
filtered_carries At a b g c p p' f s e v h =
    let one = f s e v h.0 in
    record { from = one.from; to = one.to; valuation = one.valuation; starts = one.starts; ends = one.ends; same = one.same; means = (one.means, meets_too At a b g c v one.valuation one.same h.1) }

under_carries : (At : ℕ → ℕ → Type 0) (a b : Stream) → Embeds At a b → (cs : List Filter) (p p' : Meaning) → Carries At p p' → Carries At (under a cs p) (under b cs p')
under_carries At a b g [] p p' f = f
under_carries At a b g (c ∷ cs) p p' f = under_carries At a b g cs (Filtered a c p) (Filtered b c p') (filtered_carries At a b g c p p' f)

postfix_carries : (At : ℕ → ℕ → Type 0) (a b : Stream) → Embeds At a b → (x : Postfix) (p p' : Meaning) → Carries At p p' → Carries At (with_postfix a x p) (with_postfix b x p')
postfix_carries At a b g Plus p p' f = λ s e v h. repeated_carries At a b g false p p' f s e v h
postfix_carries At a b g NextPlus p p' f = λ s e v h. repeated_carries At a b g true p p' f s e v h
postfix_carries At a b g (Named name) p p' f = renamed_carries At (with_name name.text) p p' f
postfix_carries At a b g (Keep names) p p' f = renamed_carries At (only_names names) p p' f

postfixes_carry : (At : ℕ → ℕ → Type 0) (a b : Stream) → Embeds At a b → (xs : List Postfix) (p p' : Meaning) → Carries At p p' → Carries At (with_postfixes a xs p) (with_postfixes b xs p')
postfixes_carry At a b g [] p p' f = f
postfixes_carry At a b g (x ∷ xs) p p' f = postfixes_carry At a b g xs (with_postfix a x p) (with_postfix b x p') (postfix_carries At a b g x p p' f)

-- Every formula carries.
mutual
  carries : (At : ℕ → ℕ → Type 0) (a b : Stream) → Embeds At a b → (f : Formula) → Carries At (meaning a f) (meaning b f)
  carries At a b g (Of name) = single_carries At a b g name.text
  carries At a b g (Chain' s parts) = first_carries At a b g parts
  carries At a b g (Linked' p first s links) = links_carry At a b g (meaning a first) (meaning b first) links (carries At a b g first)
  carries At a b g (Either' s choices) = choices_carry At a b g choices
  carries At a b g (Post' p base postfixes) = postfixes_carry At a b g postfixes.items (meaning a base) (meaning b base) (carries At a b g base)
  carries At a b g (Under' p base filters) = under_carries At a b g filters.items (meaning a base) (meaning b base) (carries At a b g base)

  first_carries : (At : ℕ → ℕ → Type 0) (a b : Stream) → Embeds At a b → {m : _} → (row : Row_of-Formula m) → Carries At (first_of_chain a row) (first_of_chain b row)
  first_carries At a b g end_of-Formula = λ s e v h. absurd h
  first_carries At a b g (more_of-Formula f rest) = chain_carries At a b g (meaning a f) (meaning b f) rest (carries At a b g f)

  chain_carries : (At : ℕ → ℕ → Type 0) (a b : Stream) → Embeds At a b → {m : _} → (p p' : Meaning) (row : Row_of-Formula m) → Carries At p p' → Carries At (chained a p row) (chained b p' row)
  chain_carries At a b g p p' end_of-Formula k = k
  chain_carries At a b g p p' (more_of-Formula f rest) k =
      chain_carries At a b g (Sequence a false p (meaning a f)) (Sequence b false p' (meaning b f)) rest
      (sequence_carries At a b g false p p' (meaning a f) (meaning b f) k (carries At a b g f))

  links_carry : (At : ℕ → ℕ → Type 0) (a b : Stream) → Embeds At a b → {m : _} → (p p' : Meaning) (row : Row_of-Link m) → Carries At p p' → Carries At (linked a p row) (linked b p' row)
  links_carry At a b g p p' end_of-Link k = k
  links_carry At a b g p p' (more_of-Link tight next rest) k =
      links_carry At a b g (Sequence a tight p (meaning a next)) (Sequence b tight p' (meaning b next)) rest
      (sequence_carries At a b g tight p p' (meaning a next) (meaning b next) k (carries At a b g next))

  choices_carry : (At : ℕ → ℕ → Type 0) (a b : Stream) → Embeds At a b → {m : _} → (row : Row_of-Formula m) → Carries At (one_of a row) (one_of b row)
  choices_carry At a b g end_of-Formula = λ s e v h. absurd h
  choices_carry At a b g (more_of-Formula f rest) = either_carries At (meaning a f) (meaning b f) (one_of a rest) (one_of b rest) (carries At a b g f) (choices_carry At a b g rest)

pub selected_carries : (At : ℕ → ℕ → Type 0) (a b : Stream) → Embeds At a b → (names : Option (List Name)) (f : Formula) → Carries At (selected names (meaning a f)) (selected names (meaning b f))
selected_carries At a b g None f = carries At a b g f
selected_carries At a b g (Some names) f = renamed_carries At (only_names names) (meaning a f) (meaning b f) (carries At a b g f)
