-- What the operations of the meaning keep holds of every valuation of a formula. For callers of the crate too.
use Rattle.std.proofs.Common.{sym, subst, ℕ, ◌<◌, inl, inr, Bool, true, false, List, [], ◌∷◌, ◌++◌, map}
use Rattle.cel_terms.specs.declared.Name.{Name}
use Rattle.cel_terms.specs.declared.Filter.{Filter}
use Rattle.cel_terms.specs.declared.Postfix.{Postfix}
use Rattle.cel_terms.specs.declared.Postfix.TheVariants.{Plus, NextPlus, Named, Keep}
use Rattle.cel_terms.specs.declared.Formula.{Formula, Of, Chain', Linked', Either', Post', Under', Row_of-Formula, end_of-Formula, more_of-Formula, Row_of-Link, end_of-Link, more_of-Link}
use Rattle.cel_terms.specs.Meaning.{Stream, Meaning, Valuation, MayFollow, Single, Sequence, Repeated, once, again, OneOf, with_name, only_names, Filtered, under, with_postfix, with_postfixes, meaning, first_of_chain, chained, linked, one_of}

-- the names of each position are changed
abbrev pub renamed : (List (List ℕ) → List (List ℕ)) → Valuation → Valuation
renamed g v = map (λ b. record { position = b.position; names = g b.names }) v

abbrev pub Every : Meaning → (ℕ → ℕ → Valuation → Type 0) → Type 0
Every part Q = (s e : ℕ) (v : Valuation) → part s e v → Q s e v

-- Each operation keeps the fact, renaming where the postfix is one that counts.
pub record IsKept (stream : Stream) (Counts : Postfix → Type 0) (Q : ℕ → ℕ → Valuation → Type 0) : Type 0 where
  pub single : (name : List ℕ) (s e : ℕ) (v : Valuation) → Single stream name s e v → Q s e v
  pub joined : (s m n e : ℕ) (v w : Valuation) → Q s m v → m < n → Q n e w → Q s e (v ++ w)
  pub named : (name : Name) → Counts (Named name) → (s e : ℕ) (v : Valuation) → Q s e v → Q s e (renamed (with_name name.text) v)
  pub keeps : (names : List Name) → Counts (Keep names) → (s e : ℕ) (v : Valuation) → Q s e v → Q s e (renamed (only_names names) v)

abbrev pub AllCount : (Postfix → Type 0) → List Postfix → Type 0
AllCount Counts [] = Unit {0}
AllCount Counts (p ∷ ps) = Counts p × AllCount Counts ps

-- each postfix of the formula counts
abbrev mutual
  pub PostfixesCount : (Postfix → Type 0) → Formula → Type 0
  PostfixesCount Counts (Of name) = Unit {0}
  PostfixesCount Counts (Chain' s parts) = PartsCount Counts parts
  PostfixesCount Counts (Linked' p first s links) = PostfixesCount Counts first × LinksCount Counts links
  PostfixesCount Counts (Either' s choices) = PartsCount Counts choices
  PostfixesCount Counts (Post' p base postfixes) = PostfixesCount Counts base × AllCount Counts postfixes.items
  PostfixesCount Counts (Under' p base filters) = PostfixesCount Counts base

  pub PartsCount : (Postfix → Type 0) → {m : _} → Row_of-Formula m → Type 0
  PartsCount Counts end_of-Formula = Unit {0}
  PartsCount Counts (more_of-Formula f rest) = PostfixesCount Counts f × PartsCount Counts rest

  pub LinksCount : (Postfix → Type 0) → {m : _} → Row_of-Link m → Type 0
  LinksCount Counts end_of-Link = Unit {0}
  LinksCount Counts (more_of-Link tight next rest) = PostfixesCount Counts next × LinksCount Counts rest

pub later : (stream : Stream) (tight : Bool) (m n : ℕ) → MayFollow stream tight m n → m < n
later stream false m n h = h
later stream true m n h = h.0

every_sequence : (stream : Stream) (Counts : Postfix → Type 0) (Q : ℕ → ℕ → Valuation → Type 0) → IsKept stream Counts Q → (tight : Bool) (a b : Meaning) → Every a Q → Every b Q → Every (Sequence stream tight a b) Q
every_sequence stream Counts Q kept tight a b f g s e v h =
    subst (Q s e) (sym h.united) (kept.joined s h.middle h.next e h.before h.after (f s h.middle h.before h.first_is) (later stream tight h.middle h.next h.follows) (g h.next e h.after h.second_is))

every_repeated : (stream : Stream) (Counts : Postfix → Type 0) (Q : ℕ → ℕ → Valuation → Type 0) → IsKept stream Counts Q → (tight : Bool) (a : Meaning) → Every a Q → Every (Repeated stream tight a) Q
every_repeated stream Counts Q kept tight a f s e v (once h) = f _ _ _ h
every_repeated stream Counts Q kept tight a f s e v (again {start = start} {middle = middle} {next = next} {end = end} {v = v'} {w = w} h m r) =
    kept.joined start middle next end v' w (f start middle v' h) (later stream tight middle next m) (every_repeated stream Counts Q kept tight a f next end w r)

pub every_postfix : (stream : Stream) (Counts : Postfix → Type 0) (Q : ℕ → ℕ → Valuation → Type 0) → IsKept stream Counts Q → (p : Postfix) (a : Meaning) → Counts p → Every a Q → Every (with_postfix stream p a) Q
every_postfix stream Counts Q kept Plus a c f = every_repeated stream Counts Q kept false a f
every_postfix stream Counts Q kept NextPlus a c f = every_repeated stream Counts Q kept true a f
every_postfix stream Counts Q kept (Named name) a c f = λ s e v h. subst (Q s e) (sym h.2) (kept.named name c s e h.0 (f s e h.0 h.1))
every_postfix stream Counts Q kept (Keep names) a c f = λ s e v h. subst (Q s e) (sym h.2) (kept.keeps names c s e h.0 (f s e h.0 h.1))

every_postfixes : (stream : Stream) (Counts : Postfix → Type 0) (Q : ℕ → ℕ → Valuation → Type 0) → IsKept stream Counts Q → (ps : List Postfix) (a : Meaning) → AllCount Counts ps → Every a Q → Every (with_postfixes stream ps a) Q
every_postfixes stream Counts Q kept [] a c f = f
every_postfixes stream Counts Q kept (p ∷ ps) a c f = every_postfixes stream Counts Q kept ps (with_postfix stream p a) c.1 (every_postfix stream Counts Q kept p a c.0 f)

every_under : (stream : Stream) (Q : ℕ → ℕ → Valuation → Type 0) (fs : List Filter) (a : Meaning) → Every a Q → Every (under stream fs a) Q
every_under stream Q [] a f = f
every_under stream Q (c ∷ cs) a f = every_under stream Q cs (Filtered stream c a) (λ s e v h. f s e v h.0)

every_either : (Q : ℕ → ℕ → Valuation → Type 0) (a b : Meaning) → Every a Q → Every b Q → Every (OneOf a b) Q
every_either Q a b f g s e v (inl h) = f s e v h
every_either Q a b f g s e v (inr h) = g s e v h

mutual
  pub every : (stream : Stream) (Counts : Postfix → Type 0) (Q : ℕ → ℕ → Valuation → Type 0) → IsKept stream Counts Q → (f : Formula) → PostfixesCount Counts f → Every (meaning stream f) Q
  every stream Counts Q kept (Of name) c = kept.single name.text
  every stream Counts Q kept (Chain' s parts) c = every_first stream Counts Q kept parts c
  every stream Counts Q kept (Linked' p first s links) c = every_linked stream Counts Q kept (meaning stream first) links (every stream Counts Q kept first c.0) c.1
  every stream Counts Q kept (Either' s choices) c = every_choice stream Counts Q kept choices c
  every stream Counts Q kept (Post' p base postfixes) c = every_postfixes stream Counts Q kept postfixes.items (meaning stream base) c.1 (every stream Counts Q kept base c.0)
  every stream Counts Q kept (Under' p base filters) c = every_under stream Q filters.items (meaning stream base) (every stream Counts Q kept base c)

  every_first : (stream : Stream) (Counts : Postfix → Type 0) (Q : ℕ → ℕ → Valuation → Type 0) → IsKept stream Counts Q → {m : _} → (row : Row_of-Formula m) → PartsCount Counts row → Every (first_of_chain stream row) Q
  every_first stream Counts Q kept end_of-Formula c = λ s e v h. absurd h
  every_first stream Counts Q kept (more_of-Formula f rest) c = every_chained stream Counts Q kept (meaning stream f) rest (every stream Counts Q kept f c.0) c.1

  every_chained : (stream : Stream) (Counts : Postfix → Type 0) (Q : ℕ → ℕ → Valuation → Type 0) → IsKept stream Counts Q → {m : _} → (before : Meaning) (row : Row_of-Formula m) → Every before Q → PartsCount Counts row → Every (chained stream before row) Q
  every_chained stream Counts Q kept before end_of-Formula b c = b
  every_chained stream Counts Q kept before (more_of-Formula f rest) b c = every_chained stream Counts Q kept (Sequence stream false before (meaning stream f)) rest (every_sequence stream Counts Q kept false before (meaning stream f) b (every stream Counts Q kept f c.0)) c.1

  every_linked : (stream : Stream) (Counts : Postfix → Type 0) (Q : ℕ → ℕ → Valuation → Type 0) → IsKept stream Counts Q → {m : _} → (before : Meaning) (row : Row_of-Link m) → Every before Q → LinksCount Counts row → Every (linked stream before row) Q
  every_linked stream Counts Q kept before end_of-Link b c = b
  every_linked stream Counts Q kept before (more_of-Link tight next rest) b c = every_linked stream Counts Q kept (Sequence stream tight before (meaning stream next)) rest (every_sequence stream Counts Q kept tight before (meaning stream next) b (every stream Counts Q kept next c.0)) c.1

  every_choice : (stream : Stream) (Counts : Postfix → Type 0) (Q : ℕ → ℕ → Valuation → Type 0) → IsKept stream Counts Q → {m : _} → (row : Row_of-Formula m) → PartsCount Counts row → Every (one_of stream row) Q
  every_choice stream Counts Q kept end_of-Formula c = λ s e v h. absurd h
  every_choice stream Counts Q kept (more_of-Formula f rest) c = every_either Q (meaning stream f) (one_of stream rest) (every stream Counts Q kept f c.0) (every_choice stream Counts Q kept rest c.1)

-- every postfix counts
abbrev pub Always : Postfix → Type 0
Always p = Unit {0}

all_always : (ps : List Postfix) → AllCount Always ps
all_always [] = tt
all_always (p ∷ ps) = (tt, all_always ps)

mutual
  pub always : (f : Formula) → PostfixesCount Always f
  always (Of name) = tt
  always (Chain' s parts) = parts_always parts
  always (Linked' p first s links) = (always first, links_always links)
  always (Either' s choices) = parts_always choices
  always (Post' p base postfixes) = (always base, all_always postfixes.items)
  always (Under' p base filters) = always base

  parts_always : {m : _} → (row : Row_of-Formula m) → PartsCount Always row
  parts_always end_of-Formula = tt
  parts_always (more_of-Formula f rest) = (always f, parts_always rest)

  links_always : {m : _} → (row : Row_of-Link m) → LinksCount Always row
  links_always end_of-Link = tt
  links_always (more_of-Link tight next rest) = (always next, links_always rest)
