-- What is left of each query state once the query states are compacted one after the other.
use Rattle.std.proofs.Common.{◌≡◌, ℕ, zero, suc, ◌+◌, ◌<◌, ℤ, Bool, List, [], ◌∷◌, map, length, get_or, sym, ap, ap₂, subst, ◌∙◌, Some, slice_get, slice_set, inl, inr, arith}
use Rattle.std.proofs.lemmas.List.{map-id}
use Rattle.std.proofs.lemmas.Bool.{cases_eq}
use Rattle.tecs_enumerate.specs.Remaining.{CursorState}
use Rattle.cel_terms.specs.declared.Query.{Query}
use Rattle.cer_base.specs.declared.node.Node.{Node}
use Rattle.query_standing.specs.Kept.{Rows, QueryState, low_at}
use Rattle.all_or_none.specs.Phases.{Phase}
use Rattle.arena_compact.specs.Compacted.{IsLeftFor, Lists, Held}
use Rattle.query_state.specs.Compacting.{CursorsCompacted, AreRecent, QueryStateCompacted}
use Rattle.query_engine.specs.Compacting.{IsTrimmed, AreTrimmed}

-- As many cursors; those of the query are the same.
pub record AreAlike (query : ℕ) (vs us : List CursorState) : Type 0 where
  pub count : length us ≡ length vs
  pub mine : (j : ℕ) (d : CursorState) → j < length vs → (get_or vs j d).query ≡ query → get_or us j d ≡ get_or vs j d

-- a compaction with the cursors of one query changes nothing of those of another
alike : (query other : ℕ) (old new : List Node) (vs us : List CursorState) → (query ≡ other → ⊥) → CursorsCompacted other old new vs us → AreAlike query vs us
alike query other old new vs us apart c = record {
  count = c.count;
  mine = λ j d lt is. (c.each j d lt).other (λ e. apart (sym is ∙ e));
}

-- so what is left for a cursor of the query still is
still_left : (query : ℕ) (low : ℤ) (nodes : List Node) (rows : List Rows) (vs us : List CursorState) (id : ℕ) → AreAlike query vs us → IsLeftFor query low nodes rows vs id → IsLeftFor query low nodes rows us id
still_left query low nodes rows vs us id h (Lists needs late) = Lists needs late
still_left query low nodes rows vs us id h (Held w among mine needs late) =
    let count = h.count in let inside = among.1 in
    let same = h.mine among.0 w among.1 (ap (λ (x : CursorState). x.query) among.2 ∙ mine) in
    Held w (among.0, omega arith, same ∙ among.2) mine needs late

still_trimmed : (query : ℕ) (vs us : List CursorState) (q : Query) (p : QueryState) → AreAlike query vs us → IsTrimmed query vs q p → IsTrimmed query us q p
still_trimmed query vs us q p h t = record {
  left = λ id lt. still_left query (low_at q p.clock) p.nodes p.rows vs us id h (t.left id lt);
  entries = t.entries;
  keys = t.keys;
}

set_there : (query_states : List Phase) (k : ℕ) (v p : Phase) → k < length query_states → slice_get (slice_set query_states k v) k ≡ Some p → v ≡ p
set_there [] k v p lt at = absurd (omega arith)
set_there (x ∷ query_states) zero v p lt at = cc
set_there (x ∷ query_states) (suc k) v p lt at = set_there query_states k v p (omega arith) at

set_other : (query_states : List Phase) (k j : ℕ) (v p : Phase) → j < k → slice_get (slice_set query_states k v) j ≡ Some p → slice_get query_states j ≡ Some p
set_other [] k j v p lt at = at
set_other (x ∷ query_states) zero j v p lt at = absurd (omega arith)
set_other (x ∷ query_states) (suc k) zero v p lt at = at
set_other (x ∷ query_states) (suc k) (suc j) v p lt at = set_other query_states k j v p (omega arith) at

-- one query state more is trimmed
pub all_trimmed : (chosen : List Bool) (k : ℕ) (cur : List Phase) (q v : Phase) (vs us : List CursorState) → k < length cur → v.query ≡ q.query → QueryStateCompacted (k + 1) (low_at q.query q.kept.clock) q.kept v.kept (map (λ w. w) vs) (map (λ w. w) us) → AreTrimmed chosen k vs cur → AreTrimmed chosen (k + 1) us (slice_set cur k v)
all_trimmed chosen k cur q v vs us lt same c h j p less at flag =
    let of = subst (λ (xs : List CursorState). QueryStateCompacted (k + 1) (low_at q.query q.kept.clock) q.kept v.kept xs us) (map-id vs) (subst (QueryStateCompacted (k + 1) (low_at q.query q.kept.clock) q.kept v.kept (map (λ w. w) vs)) (map-id us) c) in
    elim (cases_eq j k) [
      | inl is ↦
          let here : v ≡ p = set_there cur k v p lt (subst (λ n. slice_get (slice_set cur k v) n ≡ Some p) is at) in
          let low : low_at q.query q.kept.clock ≡ low_at v.query v.kept.clock = ap₂ low_at (sym same) (sym of.clock) in
          subst (λ n. IsTrimmed (n + 1) us p.query p.kept) (sym is) (subst (λ (x : Phase). IsTrimmed (k + 1) us x.query x.kept) here (record {
            left = λ id inside. subst (λ (l : ℤ). IsLeftFor (k + 1) l v.kept.nodes v.kept.rows us id) low (of.nodes.left id inside);
            entries = subst (λ (l : ℤ). AreRecent l v.kept.rows) low of.recent;
            keys = of.have;
          }))
      | inr other ↦
          still_trimmed (j + 1) vs us p.query p.kept (alike (j + 1) (k + 1) q.kept.nodes v.kept.nodes vs us (λ e. other (omega arith)) of.cursors) (h j p (omega arith) (set_other cur k j v p (omega arith) at) flag)
    ]
