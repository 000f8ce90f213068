-- Lists for which events of the same leaves are no-ops. For callers of the crate too.
use Rattle.std.proofs.Common.{◌≡◌, ℕ, ℤ, Bool, true, false, List, [], ◌∷◌, ◌++◌, map, refl, sym, ap, subst, ◌∙◌, inl, inr, All, Option, Some, None, arith}
use Rattle.std.specs.Prelude.{int_le}
use Rattle.std.proofs.lemmas.List.Elements.{All-nil, All-cons, All-head, All-tail, All-weaker}
use Rattle.cer_base.specs.Bits.{has}
use Rattle.cer_base.specs.declared.node.Stamp.{Stamp}
use Rattle.cer_base.specs.declared.node.Root.{Root}
use Rattle.cer_base.specs.declared.node.Node.{Node}
use Rattle.cer_base.specs.Members.{Member}
use Rattle.cea_determinise.specs.declared.cea.Cea.{Cea}
use Rattle.cea_determinise.specs.declared.table.Successors.{Successors}
use Rattle.cea_determinise.specs.Runs.{Automaton}
use Rattle.cea_determinise.specs.Strict.{Standing, begin, next_standing}
use Rattle.cea_determinise.specs.Cea.{automaton_of_cea, standing}
use Rattle.cea_determinise.specs.LazyDfa.{Table, event_class_at, standing_at, Leads}
use Rattle.cea_determinise.specs.Rows.{GoTo}
use Rattle.cea_determinise.proofs.Growth.{sets_at-later}
use Rattle.event_update.specs.Reach.{Seen, Has}
use Rattle.event_update.specs.Stands.{member_rows, seen, IsLater, Stands}
use Rattle.event_update.specs.Update.{IsCached, AreCached, Discovers}
use Rattle.event_update.specs.Dormancy.{IsNoOp, AreNoOp}
use Rattle.event_update.proofs.Advance.{reaches_more, reaches_less}
use Rattle.event_update.proofs.Cached.{number_later}

some_one : {A : Type 0} {x y : A} → Some x ≡ Some y → x ≡ y
some_one e = cc

no_op_of : (t : Table) (bits : List Bool) (nodes : List Node) (rows : List (ℕ × List Root)) (n : ℕ) (m : Member) → All (λ (r : ℕ × List Root). IsNoOp t bits r.0) rows → Has (member_rows nodes rows) n m → IsNoOp t bits n
no_op_of t bits nodes [] n m h has = absurd has
no_op_of t bits nodes (r ∷ rows) n m h has = elim has [
  | inl at ↦ subst (IsNoOp t bits) at.0 (All-head (λ (q : ℕ × List Root). IsNoOp t bits q.0) r rows h)
  | inr later ↦ no_op_of t bits nodes rows n m (All-tail (λ (q : ℕ × List Root). IsNoOp t bits q.0) r rows h) later
]

-- the lists stand for one event more
pub no_op_stand : (t : Table) (low : ℤ) (xs : List Seen) (stamp : Stamp) (bits : List Bool) (nodes : List Node) (rows : List (ℕ × List Root)) → AreNoOp t bits rows → IsLater stamp xs → Stands t low xs nodes rows → Stands t low (xs ++ seen stamp bits ∷ []) nodes rows
no_op_stand t low xs stamp bits nodes rows p later st = record {
  sound = λ n m in_row. reaches_more a t.cea.strict xs x (at n) (at n) m m later (st.sound n m in_row) (inr ((no_op_of t bits nodes rows n m p.each in_row).stays, refl));
  complete = λ s m reaches keeps. (
      let o = reaches_less a t.cea.strict xs x s m later reaches in
      elim o.was [
        | inl old ↦ (
            let w = st.complete o.state o.member old (subst (λ (q : Stamp). int_le low q.clock ≡ true) o.same_start keeps) in
            elim o.extends [
              | inl mark ↦ absurd ((no_op_of t bits nodes rows w.0 _ p.each w.2).unmarked s (ap (λ (q : Standing). next_standing a t.cea.strict q x.bits true) w.1 ∙ mark.0))
              | inr past ↦ still s m w past.0 past.1
            ]
            )
        | inr new ↦ elim o.extends [
          | inl mark ↦ absurd (p.starts s true (subst (λ (q : Standing). next_standing a t.cea.strict q x.bits true ≡ Some s) new.0 mark.0))
          | inr past ↦ absurd (p.starts s false (subst (λ (q : Standing). next_standing a t.cea.strict q x.bits false ≡ Some s) new.0 past.0))
        ]
      ]
      );
  distinct = st.distinct;
  lists = st.lists;
  states = st.states;
  ordered = st.ordered;
  narrow = st.narrow;
} where
  a : Automaton
  a = automaton_of_cea t.cea

  x : Seen
  x = seen stamp bits

  at : ℕ → Standing
  at = standing_at t.states

  still : (s : Standing) (m : Member) {was : Standing} {old : Member} → ((n : ℕ) × (at n ≡ was) × Has (member_rows nodes rows) n old) → next_standing a t.cea.strict was x.bits false ≡ Some s → m ≡ old → (n : ℕ) × (at n ≡ s) × Has (member_rows nodes rows) n m
  still s m w goes same =
      let stays = (no_op_of t bits nodes rows w.0 _ p.each w.2).stays in
      let moved : next_standing a t.cea.strict (at w.0) x.bits false ≡ Some s = ap (λ (q : Standing). next_standing a t.cea.strict q x.bits false) w.1 ∙ goes in
      let both : Some (at w.0) ≡ Some s = sym stays ∙ moved in
      (w.0, some_one both, subst (Has (member_rows nodes rows) w.0) (sym same) w.2)

-- and stay no-ops as the table grows
pub no_op_stay : (old new : Table) (from : List ℕ) (read bits : List Bool) (rows : List (ℕ × List Root)) → Discovers old from read new → AreNoOp old bits rows → AreNoOp new bits rows
no_op_stay old new from read bits rows d p = record {
  starts = subst (λ (c : Cea). (s : Standing) (mark : Bool) → next_standing (automaton_of_cea c) c.strict begin (has bits) mark ≡ Some s → ⊥) (sym d.cea) p.starts;
  each = All-weaker (λ (r : ℕ × List Root). IsNoOp old bits r.0) (λ (r : ℕ × List Root). IsNoOp new bits r.0) (λ r h. one r.0 h) rows p.each;
} where
  one : (n : ℕ) → IsNoOp old bits n → IsNoOp new bits n
  one n h =
      let le = h.is_state in
      let more = number_later old new from read d in
      let same : standing_at new.states n ≡ standing_at old.states n = ap standing (sets_at-later old.states new.states d.more n d.states h.is_state) in
      record {
        is_state = omega arith;
        stays = subst (λ (c : Cea). next_standing (automaton_of_cea c) c.strict (standing_at new.states n) (has bits) false ≡ Some (standing_at new.states n)) (sym d.cea)
            (subst (λ (s : Standing). next_standing (automaton_of_cea old.cea) old.cea.strict s (has bits) false ≡ Some s) (sym same) h.stays);
        unmarked = subst (λ (c : Cea). (q : Standing) → next_standing (automaton_of_cea c) c.strict (standing_at new.states n) (has bits) true ≡ Some q → ⊥) (sym d.cea)
            (subst (λ (s : Standing). (q : Standing) → next_standing (automaton_of_cea old.cea) old.cea.strict s (has bits) true ≡ Some q → ⊥) (sym same) h.unmarked);
      }

-- where the table tells that each state goes to itself, and the start nowhere, they are no-ops
no_successor : {A : Type 0} (o : Option A) → None ≡ o → (x : A) → o ≡ Some x → ⊥
no_successor o none x some = let both = none ∙ some in absurd cc

goes_none : (t : Table) (bits : List Bool) (n : ℕ) (mark : Bool) → Leads t.cea t.states n bits mark None → (s : Standing) → next_standing (automaton_of_cea t.cea) t.cea.strict (standing_at t.states n) (has bits) mark ≡ Some s → ⊥
goes_none t bits n mark leads s goes = no_successor _ leads.exact s goes

no_op_cached : (t : Table) (event_class n : ℕ) → IsCached t event_class n (record { marked = None; unmarked = Some n }) → IsNoOp t (event_class_at t.event_classes event_class) n
no_op_cached t event_class n k = record {
  is_state = k.right.state;
  stays = sym k.right.unmarked.exact;
  unmarked = goes_none t (event_class_at t.event_classes event_class) n true k.right.marked;
}

each_cached : (t : Table) (event_class : ℕ) (rows : List (ℕ × List Root)) → AreCached t event_class (map (λ (r : ℕ × List Root). r.0) rows) (map (λ (n : ℕ). record { marked = None; unmarked = Some n }) (map (λ (r : ℕ × List Root). r.0) rows)) → All (λ (r : ℕ × List Root). IsNoOp t (event_class_at t.event_classes event_class) r.0) rows
each_cached t event_class [] h = All-nil (λ (r : ℕ × List Root). IsNoOp t (event_class_at t.event_classes event_class) r.0)
each_cached t event_class (r ∷ rows) h = All-cons (λ (q : ℕ × List Root). IsNoOp t (event_class_at t.event_classes event_class) q.0) r rows (no_op_cached t event_class r.0 h.0) (each_cached t event_class rows h.1)

pub all_no_op : (t : Table) (event_class : ℕ) (rows : List (ℕ × List Root)) (moves : List Successors) → AreCached t event_class (0 ∷ map (λ (r : ℕ × List Root). r.0) rows) moves → GoTo (map (λ (r : ℕ × List Root). r.0) rows) moves → AreNoOp t (event_class_at t.event_classes event_class) rows
all_no_op t event_class rows moves cached go = record {
  starts = λ s mark. starts_none mark s;
  each = each_cached t event_class rows all.1;
} where
  all : AreCached t event_class (0 ∷ map (λ (r : ℕ × List Root). r.0) rows) (record { marked = None; unmarked = None } ∷ map (λ (n : ℕ). record { marked = None; unmarked = Some n }) (map (λ (r : ℕ × List Root). r.0) rows))
  all = subst (AreCached t event_class (0 ∷ map (λ (r : ℕ × List Root). r.0) rows)) go cached

  starts_none : (mark : Bool) (s : Standing) → next_standing (automaton_of_cea t.cea) t.cea.strict begin (has (event_class_at t.event_classes event_class)) mark ≡ Some s → ⊥
  starts_none true s goes = goes_none t (event_class_at t.event_classes event_class) 0 true all.0.right.marked s goes
  starts_none false s goes = goes_none t (event_class_at t.event_classes event_class) 0 false all.0.right.unmarked s goes
