-- Lists that are ready for an event are ready for the next one after it.
use Rattle.std.proofs.Common.{◌≡◌, ℕ, zero, suc, ◌+◌, ◌<◌, List, [], ◌∷◌, ◌++◌, map, length, refl, sym, ap, subst, ◌∙◌, inl, inr, All, Some, slice_get, arith}
use Rattle.std.proofs.lemmas.Int.{ints}
use Rattle.std.specs.Prelude.{ℤ, pos, Bool}
use Rattle.std.proofs.lemmas.List.Elements.{All-nil, All-cons, All-head, All-tail, All-weaker, All-append}
use Rattle.cer_base.specs.declared.node.Stamp.{Stamp}
use Rattle.cer_base.specs.declared.node.Root.{Root}
use Rattle.cer_base.specs.declared.node.Node.{Node}
use Rattle.cer_base.specs.declared.node.Node.TheVariants.{Bottom}
use Rattle.cer_base.specs.Nodes.{WellFormed, AreInStep, IsRoot}
use Rattle.cer_base.proofs.Trees.{in_step-bottom}
use Rattle.cea_determinise.specs.LazyDfa.{Table}
use Rattle.union_lists.specs.Lists.{IsUnionList}
use Rattle.event_update.specs.Reach.{Seen}
use Rattle.event_update.specs.Stands.{Stands, CanAdvance, IsLater, seen}
use Rattle.event_update.specs.Update.{GrowsBy}
use Rattle.event_update.proofs.Before.{can_advance, none_stand}
use Rattle.set_tests.specs.Ready.{IsReady}

no_nodes : WellFormed []
no_nodes = record { true_fields = λ id n at. absurd cc; well_formed_tree = λ id h. absurd (omega arith); in_step = λ s t a b le. absurd (let k = a.1 in omega arith) }

ready_none : (low : ℤ) (t : Table) → IsReady low t [] [] 0
ready_none low t = record { well_formed = no_nodes; starts = λ s has. absurd (let k = has.1 in omega arith); events = []; earlier = All-nil (λ (x : Seen). x.stamp.pos < 0); stand = none_stand t low [] }

none_there : {A : Type 0} (xs : List A) → length xs ≡ 0 → [] ≡ xs
none_there [] e = refl
none_there (x ∷ xs) e = absurd (omega arith)

pub ready_first : (low : ℤ) (t : Table) (nodes : List Node) (rows : List (ℕ × List Root)) → nodes ≡ [] → length rows ≡ 0 → IsReady low t nodes rows 0
ready_first low t nodes rows e f = subst (λ ns. IsReady low t ns rows 0) (sym e) (subst (λ rs. IsReady low t [] rs 0) (none_there rows f) (ready_none low t))

module _ (low : ℤ) (t : Table) (nodes : List Node) (rows : List (ℕ × List Root)) (next : ℕ) (r : IsReady low t nodes rows next) (stamp : Stamp) (is_pos : stamp.pos ≡ next) (is_clock : stamp.clock ≡ pos 0) where
  pub step_ready : AreInStep (nodes ++ Bottom stamp ∷ [])
  step_ready = in_step-bottom nodes stamp r.well_formed.in_step (λ s has. let b = r.starts s has in (omega (arith, b.0, is_pos), let c = b.1 in let lt = b.0 in omega (arith, ints)))

  pub later : IsLater stamp r.events
  later = All-weaker (λ (x : Seen). x.stamp.pos < next) (λ (x : Seen). x.stamp.pos < stamp.pos) (λ x lt. omega (arith, lt, is_pos)) r.events r.earlier

  pub can_ready : CanAdvance t stamp nodes rows
  can_ready = can_advance t low r.events stamp nodes rows r.stand later

  pub ready_next : (bits : List Bool) (u : Table) (new : List Node) (rows_new : List (ℕ × List Root)) (after : ℕ) → after ≡ next + 1 → GrowsBy stamp nodes new → Stands u low (r.events ++ seen stamp bits ∷ []) new rows_new → IsReady low u new rows_new after
  ready_next bits u new rows_new after e grows stand = record {
    well_formed = grows.well_formed;
    starts = λ s has. elim (grows.starts s has) [
      | inl old ↦ let b = r.starts s old in (omega (arith, b.0, e), b.1)
      | inr own ↦ (let p = ap (λ (q : Stamp). q.pos) own in omega (arith, p, is_pos, e), ap (λ (q : Stamp). q.clock) own ∙ is_clock)
    ];
    events = r.events ++ seen stamp bits ∷ [];
    earlier = All-append (λ (x : Seen). x.stamp.pos < after) r.events (seen stamp bits ∷ []) (All-weaker (λ (x : Seen). x.stamp.pos < next) (λ (x : Seen). x.stamp.pos < after) (λ x lt. omega (arith, lt, e)) r.events r.earlier)
        (All-cons (λ (x : Seen). x.stamp.pos < after) (seen stamp bits) [] (omega (arith, is_pos, e)) (All-nil (λ (x : Seen). x.stamp.pos < after)));
    stand = stand;
  }

-- the entries of the list at a place are roots
pub roots_at : (nodes : List Node) (rows : List (ℕ × List Root)) (k : ℕ) (l : List Root) → All (λ (r : ℕ × List Root). IsUnionList nodes r.1) rows → slice_get (map (λ (r : ℕ × List Root). r.1) rows) k ≡ Some l → All (IsRoot nodes) l
roots_at nodes [] k l h at = absurd cc
roots_at nodes (r ∷ rows) zero l h at = let same : r.1 ≡ l = cc in subst (All (IsRoot nodes)) same (All-head (λ (s : ℕ × List Root). IsUnionList nodes s.1) r rows h).roots
roots_at nodes (r ∷ rows) (suc k) l h at = roots_at nodes rows k l (All-tail (λ (s : ℕ × List Root). IsUnionList nodes s.1) r rows h) at
