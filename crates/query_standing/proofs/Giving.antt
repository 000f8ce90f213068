-- Keys without lists may be removed.
use Rattle.std.proofs.Common.{◌≡◌, ℕ, ◌<◌, ◌⊎◌, inl, inr, ℤ, Bool, List, [], ◌∷◌, ◌++◌, length, refl, sym, ap, subst, ◌∙◌, All, Contains, Option, Some, None, slice_get, append_assoc, arith}
use Rattle.std.proofs.Math.Path.{fun_ext}
use Rattle.std.proofs.lemmas.List.Elements.{All-nil, All-head, All-tail}
use Rattle.cer_base.specs.Bits.{has}
use Rattle.cer_base.specs.declared.node.Node.{Node}
use Rattle.cer_base.specs.declared.node.Root.{Root}
use Rattle.cer_base.specs.Repeats.{HasNoRepeats}
use Rattle.stream_schema.specs.Types.{Declared}
use Rattle.stream_schema.specs.declared.Event.{Event}
use Rattle.stream_schema.specs.declared.Value.{Value}
use Rattle.cel_terms.specs.declared.Query.{Query}
use Rattle.cea_determinise.specs.LazyDfa.{Table}
use Rattle.event_update.specs.Reach.{Seen}
use Rattle.event_update.specs.Stands.{seen, Stands}
use Rattle.event_update.specs.Dormancy.{IsDormantState, IsSilent}
use Rattle.event_update.proofs.Dormant.{dormant_stand}
use Rattle.query_standing.specs.Keys.{positions, AreSeen}
use Rattle.query_standing.specs.Kept.{Rows, QueryState, low_at, KeyStands, KeyIsKept, IsHere, QueryStateStands}
use Rattle.query_standing.specs.Giving.{IsHereMoved, AreRemoved}
use Rattle.query_standing.proofs.Lists.{Rises, rises, rises_apart}
use Rattle.query_standing.proofs.KeyCases.{kept_key, at_one_place}
use Rattle.query_standing.proofs.Link.{positions_append}
use Rattle.query_standing.proofs.Passing.{all_below}

-- A SILENT EVENT PASSES NO LIST

-- an event that no leaf can read, as it is seen
silent_is : (x : Seen) → IsSilent x → x ≡ seen x.stamp []
silent_is x quiet = ap (λ bits. record { stamp = x.stamp; bits = bits }) (fun_ext (λ k. quiet k))

-- where no match is open, events that no leaf can read open none
none_pass : (t : Table) (low : ℤ) (xs zs : List Seen) (nodes : List Node) → All IsSilent zs → Rises (positions (xs ++ zs)) → Stands t low xs nodes [] → Stands t low (xs ++ zs) nodes []
none_pass t low xs [] nodes quiet rise stands = subst (λ ys. Stands t low ys nodes []) (sym (append_none xs)) stands
  where
    append_none : (ys : List Seen) → ys ++ [] ≡ ys
    append_none [] = refl
    append_none (y ∷ ys) = ap (λ zs. y ∷ zs) (append_none ys)
none_pass t low xs (z ∷ zs) nodes quiet rise stands =
    let is = silent_is z (All-head IsSilent z zs quiet) in
    let below = all_below z.stamp.pos xs (rises_apart (positions xs) z.stamp.pos (positions zs) (subst Rises (positions_append xs (z ∷ zs)) rise)).0 in
    let one = dormant_stand t low xs z.stamp [] nodes [] (λ k. refl) (All-nil (λ (r : ℕ × List Root). IsDormantState t r.0)) below stands in
    let next = subst (λ (x : Seen). Stands t low (xs ++ x ∷ []) nodes []) (sym is) one in
    subst (λ ys. Stands t low ys nodes []) (append_assoc xs (z ∷ []) zs)
    (none_pass t low (xs ++ z ∷ []) zs nodes (All-tail IsSilent z zs quiet) (subst (λ ys. Rises (positions ys)) (sym (append_assoc xs (z ∷ []) zs)) rise) next)

-- a key that is kept with no list stands with none
none_kept : (schema : Declared) (q : Query) (events : List Event) (query_state : QueryState) (key : List Value) → KeyIsKept schema q events query_state key [] → KeyStands schema q events query_state key []
none_kept schema q events query_state key k = record {
  seen = k.taken ++ k.no_op;
  are_seen = k.are_seen;
  stands = none_pass query_state.table (low_at q query_state.clock) k.taken k.no_op query_state.nodes k.silent (rises (positions (k.taken ++ k.no_op)) k.are_seen.ascending) k.stands;
}

-- THE LAW

-- Keys without lists are removed, and it stands for the same events.
pub query_state_removes : (schema : Declared) (q : Query) (events : List Event) (query_state : QueryState) (keys : List (List Value)) (rows : List Rows) (here : Option ℕ) →
    QueryStateStands schema q events query_state → AreRemoved query_state.keys query_state.rows query_state.here keys rows here → QueryStateStands schema q events (record query_state { keys = keys; rows = rows; here = here })
query_state_removes schema q events query_state keys rows here s g = record {
  states = s.states;
  nodes = s.nodes;
  starts = s.starts;
  never_falls = s.never_falls;
  clock = s.clock;
  unread = s.unread;
  keys = record { distinct = g.distinct s.keys.distinct; others = others; lists = g.lists s.keys.lists };
  here = moved query_state.here here g.here s.here;
  each = λ n key lists at lists_at. (let m = g.stays n key lists at lists_at in waits key lists (s.each m.0 key lists m.1 m.2));
  last = λ n key lists is at lists_at. (
      let m = g.stays n key lists at lists_at in
      stand key lists (last query_state.here here g.here s.here refl n key lists is at m.0 m.1 m.2)
      );
} where
  stand : (key : List Value) (lists : Rows) → KeyStands schema q events query_state key lists → KeyStands schema q events (record query_state { keys = keys; rows = rows; here = here }) key lists
  stand key lists k = record { seen = k.seen; are_seen = k.are_seen; stands = k.stands }

  waits : (key : List Value) (lists : Rows) → KeyIsKept schema q events query_state key lists → KeyIsKept schema q events (record query_state { keys = keys; rows = rows; here = here }) key lists
  waits key lists k = record { taken = k.taken; no_op = k.no_op; are_seen = k.are_seen; silent = k.silent; skip_insensitive = k.skip_insensitive; stands = k.stands }

  others : (key : List Value) → (Contains keys key → ⊥) → KeyStands schema q events (record query_state { keys = keys; rows = rows; here = here }) key []
  others key fresh = elim (kept_key key query_state.keys) [
    | inl there ↦ elim (g.gone s.keys.distinct there.0 key there.1) [
      | inl stays ↦ absurd (fresh stays)
      | inr none ↦ stand key [] (none_kept schema q events query_state key (s.each there.0 key [] there.1 none))
    ]
    | inr new ↦ stand key [] (s.keys.others key new)
  ]

  moved : (before after : Option ℕ) → IsHereMoved query_state.keys before keys after → IsHere schema q events query_state.keys before → IsHere schema q events keys after
  moved None None m h = h
  moved None (Some n) m h = absurd m
  moved (Some k) None m h = absurd m
  moved (Some k) (Some n) m h = (h.0, h.1, h.2, h.3, m h.0 h.4)

  last : (before after : Option ℕ) → IsHereMoved query_state.keys before keys after → IsHere schema q events query_state.keys before → query_state.here ≡ before → (n : ℕ) (key : List Value) (lists : Rows) → after ≡ Some n → slice_get keys n ≡ Some key → (m : ℕ) → slice_get query_state.keys m ≡ Some key → slice_get query_state.rows m ≡ Some lists → KeyStands schema q events query_state key lists
  last None None m h is n key lists e at k at_k lists_k = (let none : None ≡ Some n = e in absurd cc)
  last None (Some j) m h is n key lists e at k at_k lists_k = absurd m
  last (Some i) None m h is n key lists e at k at_k lists_k = absurd m
  last (Some i) (Some j) m h is n key lists e at k at_k lists_k =
      let there = m h.0 h.4 in
      let same_n : j ≡ n = cc in
      let same_key : h.0 ≡ key = (let both = sym (subst (λ x. slice_get keys x ≡ Some h.0) same_n there) ∙ at in cc) in
      let place : i ≡ k = at_one_place query_state.keys i k key s.keys.distinct (subst (λ x. slice_get query_state.keys i ≡ Some x) same_key h.4) at_k in
      s.last k key lists (is ∙ ap (λ x. Some x) place) at_k lists_k
