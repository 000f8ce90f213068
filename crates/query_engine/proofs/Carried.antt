-- Cursors that are carried over the compaction of the query states, one after the other.
use Rattle.std.proofs.Common.{◌≡◌, ℕ, zero, suc, ◌+◌, ◌-◌, ◌<◌, List, [], ◌∷◌, map, drop, length, get_or, refl, sym, ap, subst, ◌∙◌, All, inl, inr, slice_get, slice_index_or, slice_set, arith}
use Rattle.std.specs.Option.{option_map_or}
use Rattle.std.proofs.lemmas.Bool.{cases_eq}
use Rattle.std.proofs.lemmas.List.{map-id}
use Rattle.cer_base.specs.declared.node.Node.{Node}
use Rattle.tecs_enumerate.specs.Remaining.{CursorState, Fits, rest}
use Rattle.query_standing.specs.Kept.{QueryState}
use Rattle.all_or_none.specs.Phases.{Phase}
use Rattle.arena_compact.specs.Compacted.{CursorCompacted}
use Rattle.query_state.specs.Compacting.{CursorsCompacted}
use Rattle.query_engine.specs.Compacting.{nodes_of, FitsQueryState, IsCarried, AreCarried}

-- the nodes of the query state at a place
abbrev nodes_here : List Phase → ℕ → List Node
nodes_here query_states k = option_map_or (λ (p : QueryState). p.nodes) (slice_get (map (λ (p : Phase). p.kept) query_states) k) []

here_set : (query_states : List Phase) (k : ℕ) (v : Phase) → k < length query_states → nodes_here (slice_set query_states k v) k ≡ v.kept.nodes
here_set [] k v lt = absurd (omega arith)
here_set (p ∷ query_states) zero v lt = refl
here_set (p ∷ query_states) (suc k) v lt = here_set query_states k v (omega arith)

here_other : (query_states : List Phase) (k j : ℕ) (v : Phase) → (j ≡ k → ⊥) → nodes_here (slice_set query_states k v) j ≡ nodes_here query_states j
here_other [] k j v other = refl
here_other (p ∷ query_states) zero zero v other = absurd (other refl)
here_other (p ∷ query_states) zero (suc j) v other = refl
here_other (p ∷ query_states) (suc k) zero v other = refl
here_other (p ∷ query_states) (suc k) (suc j) v other = here_other query_states k j v (λ e. other (ap suc e))

here_is : (cur old : List Phase) (k : ℕ) (d : Phase) → k < length cur → length cur ≡ length old → drop k cur ≡ drop k old → nodes_here old k ≡ (slice_index_or cur k d).kept.nodes
here_is [] old k d lt long left = absurd (omega arith)
here_is (p ∷ cur) [] k d lt long left = absurd (omega arith)
here_is (p ∷ cur) (q ∷ old) zero d lt long left = let same : p ≡ q = cc in ap (λ (x : Phase). x.kept.nodes) (sym same)
here_is (p ∷ cur) (q ∷ old) (suc k) d lt long left = here_is cur old k d (omega arith) (omega arith) left

module _ (k : ℕ) (old cur : List Phase) (q : Phase) (lt : k < length cur) (here : nodes_of old (k + 1) ≡ q.kept.nodes) where
  -- a cursor of the query state at hand is as it was, and fits it
  pub fits_here : (w v : CursorState) → FitsQueryState old w → IsCarried k old cur w v → v.query ≡ k + 1 → Fits v q.kept.nodes
  fits_here w v f h mine =
      let was : v.query ≡ w.query = ap (λ (x : CursorState). x.query) h.same in
      let is : w.query ≡ k + 1 = sym was ∙ mine in
      let nodes : nodes_of old w.query ≡ q.kept.nodes = ap (nodes_of old) is ∙ here in
      subst (λ (x : CursorState). Fits x q.kept.nodes) (sym (h.ahead (omega arith))) (subst (Fits w) nodes f.2)

  carried_next : (p : Phase) (w v u : CursorState) → FitsQueryState old w → IsCarried k old cur w v → CursorCompacted (k + 1) q.kept.nodes p.kept.nodes v u → IsCarried (k + 1) old (slice_set cur k p) w u
  carried_next p w v u f h c =
      let was : v.query ≡ w.query = ap (λ (x : CursorState). x.query) h.same in
      let low = f.0 in
      record {
        same = c.same ∙ ap (λ (x : CursorState). record x { stack = u.stack }) h.same;
        fits = λ le. elim (cases_eq w.query (k + 1)) [
          | inl mine ↦
              let at : w.query - 1 ≡ k = omega arith in
              subst (Fits u) (sym (ap (nodes_here (slice_set cur k p)) at ∙ here_set cur k p lt)) (c.fits (was ∙ mine))
          | inr other ↦
              subst (Fits u) (sym (here_other cur k (w.query - 1) p (λ e. other (omega arith))))
              (subst (λ (x : CursorState). Fits x (nodes_of cur w.query)) (sym (c.other (λ e. other (sym was ∙ e)))) (h.fits (omega arith)))
        ];
        rest = λ le. elim (cases_eq w.query (k + 1)) [
          | inl mine ↦
              let at : w.query - 1 ≡ k = omega arith in
              ap (rest u) (ap (nodes_here (slice_set cur k p)) at ∙ here_set cur k p lt)
              ∙ (c.same_rest (was ∙ mine)
              ∙ (ap (λ (x : CursorState). rest x q.kept.nodes) (h.ahead (omega arith))
              ∙ ap (rest w) (sym here ∙ ap (nodes_of old) (sym mine))))
          | inr other ↦
              ap (rest u) (here_other cur k (w.query - 1) p (λ e. other (omega arith)))
              ∙ (ap (λ (x : CursorState). rest x (nodes_of cur w.query)) (c.other (λ e. other (sym was ∙ e))) ∙ h.rest (omega arith))
        ];
        ahead = λ above. c.other (λ e. (let clash = sym was ∙ e in omega arith)) ∙ h.ahead (omega arith);
      }

  pub all_fit : (ws vs : List CursorState) → All (FitsQueryState old) ws → AreCarried k old cur ws vs → All (λ v. v.query ≡ k + 1 → Fits v q.kept.nodes) (map (λ v. v) vs)
  all_fit ws vs fits h = subst (All (λ (v : CursorState). v.query ≡ k + 1 → Fits v q.kept.nodes)) (sym (map-id vs)) (λ j d less mine.
      let count = h.count in
      fits_here (get_or ws j d) (get_or vs j d) (fits j d (omega arith)) (h.each j d (omega arith)) mine)

  pub all_carried : (p : Phase) (ws vs us : List CursorState) → All (FitsQueryState old) ws → AreCarried k old cur ws vs → CursorsCompacted (k + 1) q.kept.nodes p.kept.nodes (map (λ v. v) vs) (map (λ v. v) us) → AreCarried (k + 1) old (slice_set cur k p) ws us
  all_carried p ws vs us fits h c =
      let of : CursorsCompacted (k + 1) q.kept.nodes p.kept.nodes vs us = subst (λ (xs : List CursorState). CursorsCompacted (k + 1) q.kept.nodes p.kept.nodes xs us) (map-id vs) (subst (CursorsCompacted (k + 1) q.kept.nodes p.kept.nodes (map (λ v. v) vs)) (map-id us) c) in
      let count = h.count in
      record {
        count = of.count ∙ h.count;
        each = λ j d less. carried_next p (get_or ws j d) (get_or vs j d) (get_or us j d) (fits j d less) (h.each j d less) (of.each j d (omega arith));
      }

-- the nodes of the query state at hand are those that it had
pub query_state_here : (cur old : List Phase) (k : ℕ) (d : Phase) → k < length cur → length cur ≡ length old → drop k cur ≡ drop k old → nodes_of old (k + 1) ≡ (slice_index_or cur k d).kept.nodes
query_state_here cur old k d lt long left = let at : k + 1 - 1 ≡ k = omega arith in ap (nodes_here old) at ∙ here_is cur old k d lt long left

pub none_carried : (query_states : List Phase) (ws : List CursorState) → All (FitsQueryState query_states) ws → AreCarried 0 query_states query_states ws ws
none_carried query_states ws fits = record {
  count = refl;
  each = λ j d less. record {
    same = refl;
    fits = λ le. (fits j d less).2;
    rest = λ le. refl;
    ahead = λ above. refl;
  };
}
