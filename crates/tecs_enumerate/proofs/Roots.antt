-- How a cursor's stack is filled.
use Rattle.std.proofs.Common.{◌≡◌, ℕ, suc, ◌+◌, ◌-◌, ◌<◌, ◌≤◌, get_or, drop, ℤ, ◌≤ℤ◌, true, false, List, [], ◌∷◌, ◌++◌, map, length, refl, sym, ap, subst, ◌∙◌, arith}
use Rattle.std.specs.Int.Signed.{le_z}
use Rattle.std.proofs.Math.Seq.{drop-cons}
use Rattle.cer_base.specs.declared.node.Stamp.{Stamp}
use Rattle.cer_base.specs.declared.node.Node.{Node}
use Rattle.cer_base.specs.declared.node.Root.{Root}
use Rattle.cer_base.specs.Members.{Member, members, recent}
use Rattle.cer_base.specs.Nodes.{tree, WellFormed, IsRoot}
use Rattle.cer_base.proofs.Walks.{none_recent, test_tells}
use Rattle.tecs_enumerate.specs.declared.descent.Pending.{Pending}
use Rattle.tecs_enumerate.specs.Remaining.{with_positions, rest_of, recent_of, Room, AllHaveRoom, AreNested}
use Rattle.tecs_enumerate.proofs.Visits.{AllHaveRoom-more}

-- what the stack has of the last roots
pub record Begun (low : ℤ) (nodes : List Node) (room : Room) (roots : List Root) (stack : List Pending) : Type 0 where
  pub given : rest_of low nodes [] stack ≡ recent_of low nodes roots
  pub fits : AllHaveRoom low nodes room stack
  pub nested : AreNested 0 stack

with_positions-nil : (ms : List Member) → map (with_positions []) ms ≡ ms
with_positions-nil [] = refl
with_positions-nil (m ∷ ms) = ap (λ xs. m ∷ xs) (with_positions-nil ms)

pub begun_none : (low : ℤ) (nodes : List Node) (room : Room) → Begun low nodes room [] []
begun_none low nodes room = record { given = refl; fits = tt; nested = tt }

pub begun_kept : (low : ℤ) (nodes : List Node) (room room' : Room) (roots : List Root) (stack : List Pending) (r : Root) → Begun low nodes room roots stack → IsRoot nodes r → le_z low r.max.clock ≡ true → length stack + 1 + r.need ≤ room'.stack → r.need ≤ room'.path → room.stack ≤ room'.stack → room.path ≤ room'.path → Begun low nodes room' (r ∷ roots) (record { id = r.id; prefix = 0 } ∷ stack)
begun_kept low nodes room room' roots stack r b is kept s p ge gf =
    let needs = is.is_need in
    record {
      given = ap (λ ms. ms ++ rest_of low nodes [] stack) (with_positions-nil (recent low (members (tree nodes r.id))))
          ∙ ap (λ ms. recent low (members (tree nodes r.id)) ++ ms) b.given;
      fits = (record { inside = is.inside; recent = subst (λ (t : Stamp). low ≤ℤ t.clock) is.is_max (test_tells low r.max.clock kept); stack = omega arith; path = omega arith }, AllHaveRoom-more low nodes room room' stack ge gf b.fits);
      nested = (omega arith, b.nested);
    }

pub begun_dropped : (low : ℤ) (nodes : List Node) → WellFormed nodes → (room : Room) (roots : List Root) (stack : List Pending) (r : Root) → Begun low nodes room roots stack → IsRoot nodes r → le_z low r.max.clock ≡ false → Begun low nodes room (r ∷ roots) stack
begun_dropped low nodes w room roots stack r b is old =
    let none : recent low (members (tree nodes r.id)) ≡ [] = none_recent nodes w low r.id is.inside (subst (λ (t : Stamp). le_z low t.clock ≡ false) is.is_max old) in
    record {
      given = b.given ∙ ap (λ ms. ms ++ recent_of low nodes roots) (sym none);
      fits = b.fits;
      nested = b.nested;
    }

-- the last k roots and one more
pub one_more : (roots : List Root) (k : ℕ) (d : Root) → 0 < k → k - 1 < length roots → drop (k - 1) roots ≡ get_or roots (k - 1) d ∷ drop k roots
one_more roots k d some inside =
    let next : suc (k - 1) ≡ k = omega arith in
    drop-cons roots (k - 1) d inside ∙ ap (λ n. get_or roots (k - 1) d ∷ drop n roots) next
