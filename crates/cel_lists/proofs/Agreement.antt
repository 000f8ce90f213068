-- Streams with the same events and the same positions give a formula the same valuations.
use Rattle.std.proofs.Common.{ℕ, inl, inr, true, false, List, [], ◌∷◌}
use Rattle.stream_schema.specs.Types.{Declared}
use Rattle.stream_schema.specs.declared.Event.{Event}
use Rattle.cel_terms.specs.declared.Pred.{Pred}
use Rattle.cel_terms.specs.declared.Filter.{Filter, On, All', Any', Row_of-Filter, end_of-Filter, more_of-Filter}
use Rattle.cel_terms.specs.declared.Postfix.{Postfix}
use Rattle.cel_terms.specs.declared.Postfix.TheVariants.{Plus, NextPlus, Named, Keep}
use Rattle.cel_terms.specs.declared.Formula.{Formula, Of, Chain', Linked', Either', Post', Under', Row_of-Formula, end_of-Formula, more_of-Formula, Row_of-Link, end_of-Link, more_of-Link}
use Rattle.cel_terms.specs.Predicate.{holds}
use Rattle.cel_terms.specs.Meaning.{Stream, Meaning, Valuation, Sequence, with_name, only_names, AllHold, Meets, MeetsAll, MeetsAny, Filtered, under, with_postfix, with_postfixes, meaning, first_of_chain, chained, linked, one_of}
use Rattle.cel_terms.proofs.Operations.{Within, Moves, sequence_within, either_within, repeated_within, renamed_within}

abbrev pub stream_with : Declared → List Event → (ℕ → Type 0) → Stream
stream_with schema events Has = record { schema = schema; events = events; Has = Has }

moves : (schema : Declared) (events : List Event) (P Q : ℕ → Type 0) → ((p : ℕ) → Q p → P p) → Moves (stream_with schema events P) (stream_with schema events Q)
moves schema events P Q g false from to h = h
moves schema events P Q g true from to h = (h.0, λ p has after before. h.1 p (g p has) after before)

all_hold : (schema : Declared) (events : List Event) (P Q : ℕ → Type 0) (name : List ℕ) (pred : Pred) (v : Valuation) → AllHold (stream_with schema events P) name (holds schema pred) v → AllHold (stream_with schema events Q) name (holds schema pred) v
all_hold schema events P Q name pred [] h = h
all_hold schema events P Q name pred (b ∷ v) h = (h.0, all_hold schema events P Q name pred v h.1)

mutual
  meets_too : (schema : Declared) (events : List Event) (P Q : ℕ → Type 0) (c : Filter) (v : Valuation) → Meets (stream_with schema events P) c v → Meets (stream_with schema events Q) c v
  meets_too schema events P Q (On name pred) v h = all_hold schema events P Q name.text pred v h
  meets_too schema events P Q (All' s filters) v h = all_too schema events P Q filters v h
  meets_too schema events P Q (Any' s filters) v h = any_too schema events P Q filters v h

  all_too : (schema : Declared) (events : List Event) (P Q : ℕ → Type 0) {m : _} → (row : Row_of-Filter m) (v : Valuation) → MeetsAll (stream_with schema events P) row v → MeetsAll (stream_with schema events Q) row v
  all_too schema events P Q end_of-Filter v h = h
  all_too schema events P Q (more_of-Filter c rest) v h = (meets_too schema events P Q c v h.0, all_too schema events P Q rest v h.1)

  any_too : (schema : Declared) (events : List Event) (P Q : ℕ → Type 0) {m : _} → (row : Row_of-Filter m) (v : Valuation) → MeetsAny (stream_with schema events P) row v → MeetsAny (stream_with schema events Q) row v
  any_too schema events P Q end_of-Filter v h = h
  any_too schema events P Q (more_of-Filter c rest) v (inl h) = inl (meets_too schema events P Q c v h)
  any_too schema events P Q (more_of-Filter c rest) v (inr h) = inr (any_too schema events P Q rest v h)

postfix_too : (schema : Declared) (events : List Event) (P Q : ℕ → Type 0) → ((p : ℕ) → Q p → P p) → (p : Postfix) (a b : Meaning) → Within a b → Within (with_postfix (stream_with schema events P) p a) (with_postfix (stream_with schema events Q) p b)
postfix_too schema events P Q g Plus a b f = repeated_within (stream_with schema events P) (stream_with schema events Q) (moves schema events P Q g) false a b f
postfix_too schema events P Q g NextPlus a b f = repeated_within (stream_with schema events P) (stream_with schema events Q) (moves schema events P Q g) true a b f
postfix_too schema events P Q g (Named name) a b f = renamed_within (with_name name.text) a b f
postfix_too schema events P Q g (Keep names) a b f = renamed_within (only_names names) a b f

postfixes_too : (schema : Declared) (events : List Event) (P Q : ℕ → Type 0) → ((p : ℕ) → Q p → P p) → (ps : List Postfix) (a b : Meaning) → Within a b → Within (with_postfixes (stream_with schema events P) ps a) (with_postfixes (stream_with schema events Q) ps b)
postfixes_too schema events P Q g [] a b f = f
postfixes_too schema events P Q g (p ∷ ps) a b f = postfixes_too schema events P Q g ps (with_postfix (stream_with schema events P) p a) (with_postfix (stream_with schema events Q) p b) (postfix_too schema events P Q g p a b f)

under_too : (schema : Declared) (events : List Event) (P Q : ℕ → Type 0) (cs : List Filter) (a b : Meaning) → Within a b → Within (under (stream_with schema events P) cs a) (under (stream_with schema events Q) cs b)
under_too schema events P Q [] a b f = f
under_too schema events P Q (c ∷ cs) a b f = under_too schema events P Q cs (Filtered (stream_with schema events P) c a) (Filtered (stream_with schema events Q) c b) (λ s e v h. (f s e v h.0, meets_too schema events P Q c v h.1))

mutual
  pub agrees : (schema : Declared) (events : List Event) (P Q : ℕ → Type 0) → ((p : ℕ) → P p → Q p) → ((p : ℕ) → Q p → P p) → (f : Formula) → Within (meaning (stream_with schema events P) f) (meaning (stream_with schema events Q) f)
  agrees schema events P Q h g (Of name) = λ s e v k. record { typed = record { event = k.typed.event; at = k.typed.at; typed = k.typed.typed; within = h s k.typed.within }; ends = k.ends; bound = k.bound }
  agrees schema events P Q h g (Chain' s parts) = first_agrees schema events P Q h g parts
  agrees schema events P Q h g (Linked' p first s links) = links_agree schema events P Q h g (meaning (stream_with schema events P) first) (meaning (stream_with schema events Q) first) links (agrees schema events P Q h g first)
  agrees schema events P Q h g (Either' s choices) = choices_agree schema events P Q h g choices
  agrees schema events P Q h g (Post' p base postfixes) = postfixes_too schema events P Q g postfixes.items (meaning (stream_with schema events P) base) (meaning (stream_with schema events Q) base) (agrees schema events P Q h g base)
  agrees schema events P Q h g (Under' p base filters) = under_too schema events P Q filters.items (meaning (stream_with schema events P) base) (meaning (stream_with schema events Q) base) (agrees schema events P Q h g base)

  first_agrees : (schema : Declared) (events : List Event) (P Q : ℕ → Type 0) → ((p : ℕ) → P p → Q p) → ((p : ℕ) → Q p → P p) → {m : _} → (row : Row_of-Formula m) → Within (first_of_chain (stream_with schema events P) row) (first_of_chain (stream_with schema events Q) row)
  first_agrees schema events P Q h g end_of-Formula = λ s e v k. k
  first_agrees schema events P Q h g (more_of-Formula f rest) = chain_agrees schema events P Q h g (meaning (stream_with schema events P) f) (meaning (stream_with schema events Q) f) rest (agrees schema events P Q h g f)

  chain_agrees : (schema : Declared) (events : List Event) (P Q : ℕ → Type 0) → ((p : ℕ) → P p → Q p) → ((p : ℕ) → Q p → P p) → {m : _} → (a b : Meaning) (row : Row_of-Formula m) → Within a b → Within (chained (stream_with schema events P) a row) (chained (stream_with schema events Q) b row)
  chain_agrees schema events P Q h g a b end_of-Formula k = k
  chain_agrees schema events P Q h g a b (more_of-Formula f rest) k =
      chain_agrees schema events P Q h g (Sequence (stream_with schema events P) false a (meaning (stream_with schema events P) f)) (Sequence (stream_with schema events Q) false b (meaning (stream_with schema events Q) f)) rest
      (sequence_within (stream_with schema events P) (stream_with schema events Q) (moves schema events P Q g) false a b (meaning (stream_with schema events P) f) (meaning (stream_with schema events Q) f) k (agrees schema events P Q h g f))

  links_agree : (schema : Declared) (events : List Event) (P Q : ℕ → Type 0) → ((p : ℕ) → P p → Q p) → ((p : ℕ) → Q p → P p) → {m : _} → (a b : Meaning) (row : Row_of-Link m) → Within a b → Within (linked (stream_with schema events P) a row) (linked (stream_with schema events Q) b row)
  links_agree schema events P Q h g a b end_of-Link k = k
  links_agree schema events P Q h g a b (more_of-Link tight next rest) k =
      links_agree schema events P Q h g (Sequence (stream_with schema events P) tight a (meaning (stream_with schema events P) next)) (Sequence (stream_with schema events Q) tight b (meaning (stream_with schema events Q) next)) rest
      (sequence_within (stream_with schema events P) (stream_with schema events Q) (moves schema events P Q g) tight a b (meaning (stream_with schema events P) next) (meaning (stream_with schema events Q) next) k (agrees schema events P Q h g next))

  choices_agree : (schema : Declared) (events : List Event) (P Q : ℕ → Type 0) → ((p : ℕ) → P p → Q p) → ((p : ℕ) → Q p → P p) → {m : _} → (row : Row_of-Formula m) → Within (one_of (stream_with schema events P) row) (one_of (stream_with schema events Q) row)
  choices_agree schema events P Q h g end_of-Formula = λ s e v k. k
  choices_agree schema events P Q h g (more_of-Formula f rest) = either_within (meaning (stream_with schema events P) f) (meaning (stream_with schema events Q) f) (one_of (stream_with schema events P) rest) (one_of (stream_with schema events Q) rest) (agrees schema events P Q h g f) (choices_agree schema events P Q h g rest)
