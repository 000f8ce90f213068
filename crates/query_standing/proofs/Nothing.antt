-- Events that begin nothing where no match is open.
use Rattle.std.proofs.Common.{◌≡◌, ℕ, ℤ, Bool, true, false, not, ◌&&◌, ◌||◌, cond, List, [], ◌∷◌, ◌++◌, refl, sym, ap, subst, ◌∙◌, inl, inr, Option, Some, None, option_map, option_and_then}
use Rattle.std.proofs.Math.Bool.{and-false}
use Rattle.std.proofs.lemmas.Bool.{false≢true}
use Rattle.std.specs.Prelude.{int_le}
use Rattle.cer_base.specs.declared.node.Stamp.{Stamp}
use Rattle.cer_base.specs.declared.node.Root.{Root}
use Rattle.cer_base.specs.declared.node.Node.{Node}
use Rattle.cea_determinise.specs.declared.cea.Phase.{Phase}
use Rattle.cea_determinise.specs.Runs.{LeafSet, Automaton, start, skip_insensitive, agrees, readers, minds_next, waits_at_once, successor, next}
use Rattle.cea_determinise.specs.Strict.{Standing, begin, next_standing, phase_after}
use Rattle.cea_determinise.specs.Cea.{automaton_of_cea}
use Rattle.cea_determinise.specs.LazyDfa.{Table}
use Rattle.cea_determinise.proofs.SomeLeaf.{none_below}
use Rattle.event_update.specs.Reach.{Seen}
use Rattle.event_update.specs.Stands.{IsLater, Stands}
use Rattle.event_update.proofs.Advance.{reaches_less}

-- where no match is open, and the event begins none, none is open after it
pub none_stand : (t : Table) (low : ℤ) (xs : List Seen) (x : Seen) (nodes : List Node) → ((s : Standing) (mark : Bool) → next_standing (automaton_of_cea t.cea) t.cea.strict begin x.bits mark ≡ Some s → ⊥) → IsLater x.stamp xs → Stands t low xs nodes [] → Stands t low (xs ++ x ∷ []) nodes []
none_stand t low xs x nodes starts later st = record {
  sound = λ n m in_row. absurd in_row;
  complete = λ s m reaches keeps. (
      let o = reaches_less (automaton_of_cea t.cea) t.cea.strict xs x s m later reaches in
      elim o.was [
        | inl old ↦ (let w = st.complete o.state o.member old (subst (λ (q : Stamp). int_le low q.clock ≡ true) o.same_start keeps) in absurd w.2)
        | inr new ↦ elim o.extends [
          | inl mark ↦ absurd (starts s true (subst (λ (q : Standing). next_standing (automaton_of_cea t.cea) t.cea.strict q x.bits true ≡ Some s) new.0 mark.0))
          | inr past ↦ absurd (starts s false (subst (λ (q : Standing). next_standing (automaton_of_cea t.cea) t.cea.strict q x.bits false ≡ Some s) new.0 past.0))
        ]
      ]
      );
  distinct = st.distinct;
  lists = st.lists;
  states = st.states;
  ordered = st.ordered;
  narrow = st.narrow;
}

-- no leaf reads it as the first of a match
none_reads : (f b c : Bool) → f && b ≡ false → f && (b && c) ≡ false
none_reads true true c e = absurd (false≢true (sym e))
none_reads true false c e = refl
none_reads false b c e = refl

none_next : (a : Automaton) (bits : LeafSet) (mark : Bool) → ((k : ℕ) → a.first k && bits k ≡ false) → next a start bits mark ≡ None
none_next a bits mark none = ap (λ b. cond b (Some (successor a start bits mark)) None) (none_below a.size (λ k. readers a start bits mark k && minds_next a k || (not mark && skip_insensitive a start k || readers a start bits mark k && waits_at_once a k)) (λ k. rw (none_reads (a.first k) (bits k) (agrees mark (a.marked k)) (none k), and-false (not mark)) refl))

pub none_begins : (a : Automaton) (strict : Bool) (bits : LeafSet) → ((k : ℕ) → a.first k && bits k ≡ false) → (s : Standing) (mark : Bool) → next_standing a strict begin bits mark ≡ Some s → ⊥
none_begins a strict bits none s mark goes = by (phase_after strict begin.phase mark) goes
  where
    by : (o : Option Phase) → option_and_then (λ p. option_map (λ t. record { sets = t; phase = p }) (next a start bits mark)) o ≡ Some s → ⊥
    by None e = absurd cc
    by (Some p) e = let both = sym e ∙ ap (option_map (λ t. record { sets = t; phase = p })) (none_next a bits mark none) in absurd cc

-- before any event the lists stand from any clock on
pub any_low : (t : Table) (low other : ℤ) (nodes : List Node) (rows : List (ℕ × List Root)) → Stands t low [] nodes rows → Stands t other [] nodes rows
any_low t low other nodes rows st = record {
  sound = st.sound;
  complete = λ s m reaches keeps. absurd reaches;
  distinct = st.distinct;
  lists = st.lists;
  states = st.states;
  ordered = st.ordered;
  narrow = st.narrow;
}

pub none_in_front : {X : Type 0} (xs ys : List X) → xs ++ ys ≡ [] → xs ≡ []
none_in_front [] ys e = refl
none_in_front (x ∷ xs) ys e = absurd cc
