use Rattle.std.proofs.Common.{◌≡◌, ℕ, List, Option, arith, sym, ap, length, set, Some, length-set, Bool, true, false, ◌∙◌}
use Rattle.arena_compact.proofs.Keeping.{marks_output, marks_left, marks_both}
use Rattle.arena_compact.proofs.marks.keep_children.Goals as goal

not_both : (b : Bool) → false ≡ b → b ≡ true → ⊥
not_both b e t = let x : false ≡ true = e ∙ t in cc

longer : (table new : List (Option ℕ)) (c n : ℕ) → new ≡ set table c (Some n) → length new ≡ length table
longer table new c n is = ap length is ∙ length-set table c (Some n)

pub keep-requires : goal.keep-requires
keep-requires g c = record {
  inside = let true_fields = c.requires.can.well_formed.true_fields c.args.id _ c.in-Output.ensures.node in let older = true_fields.0 in let room = c.requires.can.room in let inside = c.requires.inside in omega arith;
  even = c.requires.can.even;
}

pub keep-requires-in-Union : goal.keep-requires-in-Union
keep-requires-in-Union g c = record {
  inside = let true_fields = c.requires.can.well_formed.true_fields c.args.id _ c.in-Union.ensures.node in let older = true_fields.0 in let room = c.requires.can.room in let inside = c.requires.inside in omega arith;
  even = c.requires.can.even;
}

pub keep-requires-then-is_recent : goal.keep-requires-then-is_recent
keep-requires-then-is_recent g c =
    let true_fields = c.requires.can.well_formed.true_fields c.args.id _ c.in-Union.ensures.node in let older = true_fields.1 in let room = c.requires.can.room in let inside = c.requires.inside in
    let long = longer _ _ _ _ c.keep-in-Union.ensures.table in
    let even = c.requires.can.even in let same = c.keep-in-Union.auto.lows in
    record { inside = omega arith; even = omega arith }

pub returns-in-Output-clause-marked : goal.returns-in-Output-clause-marked
returns-in-Output-clause-marked g c = record {
  marks = λ roots h.
      rw (c.keep.ensures.table) (marks_output _ roots _ _ _ _ _ _ _ _ _ c.requires.can.well_formed c.requires.can.room c.requires.can.even h c.in-Output.ensures.node (c.is_kept.ensures.kept c.if-not-is_kept.false) (rw (c.low_at-low.ensures) at c.keep.ensures.lows));
  long = (longer _ _ _ _ c.keep.ensures.table, c.keep.auto.lows);
}

pub returns-then-is_recent-clause-marked : goal.returns-then-is_recent-clause-marked
returns-then-is_recent-clause-marked g c = record {
  marks = λ roots h.
      rw (c.keep-then-is_recent.ensures.table, c.keep-in-Union.ensures.table) (marks_both _ roots _ _ _ _ _ _ _ _ _ _ _ _ c.requires.can.well_formed c.requires.can.room c.requires.can.even c.keep-in-Union.auto.lows h c.in-Union.ensures.node (c.is_kept.ensures.kept c.if-not-is_kept.false)
      (rw (c.low_at-low.ensures) at (sym c.if-is_recent.ensures)) (rw (c.low_at-low.ensures) at c.keep-in-Union.ensures.lows) (rw (c.low_at-low.ensures, c.keep-in-Union.ensures.table) at c.keep-then-is_recent.ensures.lows));
  long = (longer _ _ _ _ c.keep-then-is_recent.ensures.table ∙ longer _ _ _ _ c.keep-in-Union.ensures.table, c.keep-then-is_recent.auto.lows ∙ c.keep-in-Union.auto.lows);
}

pub returns-else-is_recent-clause-marked : goal.returns-else-is_recent-clause-marked
returns-else-is_recent-clause-marked g c = record {
  marks = λ roots h.
      rw (c.keep-in-Union.ensures.table) (marks_left _ roots _ _ _ _ _ _ _ _ _ _ c.requires.can.well_formed c.requires.can.room c.requires.can.even h c.in-Union.ensures.node (c.is_kept.ensures.kept c.if-not-is_kept.false) (not_both _ (rw (c.low_at-low.ensures) at c.if-is_recent.ensures)) (rw (c.low_at-low.ensures) at c.keep-in-Union.ensures.lows));
  long = (longer _ _ _ _ c.keep-in-Union.ensures.table, c.keep-in-Union.auto.lows);
}
