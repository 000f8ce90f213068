-- The stored successor is that of the definition.
use Rattle.std.proofs.Common.{◌≡◌, ℕ, Bool, true, false, ◌&&◌, ◌||◌, Some, None, refl, sym, ap, ◌∙◌}
use Rattle.std.specs.Prelude.{not}
use Rattle.cea_determinise.specs.Runs.{LeafSet, Automaton, pair, skip_insensitive, readers, minds_next, waits_at_once, successor, has_leaf}
use Rattle.cea_determinise.specs.declared.cea.Phase.{Phase}
use Rattle.cea_determinise.specs.Strict.{Standing, phase_after, next_standing}

module _ (a : Automaton) (strict : Bool) (s : Standing) (bits : LeafSet) (mark : Bool) where
  -- the two sets are those of the successor
  abbrev pub AreNext : LeafSet → LeafSet → Type 0
  AreNext fresh waiting = ((k : ℕ) → fresh k ≡ readers a s.sets bits mark k && minds_next a k)
      × ((k : ℕ) → waiting k ≡ not mark && skip_insensitive a s.sets k || readers a s.sets bits mark k && waits_at_once a k)

  sets_are : (fresh waiting : LeafSet) → AreNext fresh waiting → pair fresh waiting ≡ successor a s.sets bits mark
  sets_are fresh waiting are = λ i. pair (λ k. are.0 k i) (λ k. are.1 k i)

  pub has_none : phase_after strict s.phase mark ≡ None → None ≡ next_standing a strict s bits mark
  has_none e = rw e refl

  pub has_empty : (fresh waiting : LeafSet) (p : Phase) → phase_after strict s.phase mark ≡ Some p → AreNext fresh waiting → has_leaf a (pair fresh waiting) ≡ false → None ≡ next_standing a strict s bits mark
  has_empty fresh waiting p e are empty =
      let no : has_leaf a (successor a s.sets bits mark) ≡ false = ap (has_leaf a) (sym (sets_are fresh waiting are)) ∙ empty in
      rw (e, no) refl

  pub has_next : (fresh waiting : LeafSet) (p : Phase) → phase_after strict s.phase mark ≡ Some p → AreNext fresh waiting → has_leaf a (pair fresh waiting) ≡ true → Some (record { sets = pair fresh waiting; phase = p }) ≡ next_standing a strict s bits mark
  has_next fresh waiting p e are some =
      let yes : has_leaf a (successor a s.sets bits mark) ≡ true = ap (has_leaf a) (sym (sets_are fresh waiting are)) ∙ some in
      rw (e, yes) (ap (λ t. Some (record { sets = t; phase = p })) (sets_are fresh waiting are))
