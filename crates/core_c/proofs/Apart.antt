-- A box apart from its type, in a walk: what it is to the machine, and how it is made of what the box owned and gives that back. Assumes `Logic`.
use Rattle.std.proofs.Common.{◌≡◌, ℕ, List, [], ◌∷◌, ◌++◌, refl, ap, ◌∙◌}
use mathlib.Core.Bool.{true, ◌&&◌}
use lib.Dec.{T}
use seplogic.Ra.Ura.{Ura}
use mir.Syntax.{impl, tnil, dnil}
use mir.Raw.{raw as unnamed}
use mir.Val.{Val, vptr, vstruct, vcons, vnil, of_list, has_ty, WT}
use base.Logic.{never, fst∗}
use types.Logic.{Logic, sem}
use types.Kit.{Item, Goal, Seq, Step, step, ‵, ◌$◌, move, drop, fsplit, fjoin, fpick, fpack, feq_i, feq_l}
use denote.RattleType.{RattleType, Valss}
use denote.Builtin.{RawPtr}
use denote.Memory.{lone}
use denote.RawPtr.{Ptr, block_ptr, null_ptr, ptr_val, in_a_block}
use denote.Steps.{nothing}
use denote.Param.{layout}
use denote.Param.Laws.{Laws}
use denote.Struct.Struct.{within}
use denote.Struct.Owning.{shape}
use Rattle.core.specs.declared.alloc.Allocator.{Ghosts}
use Rattle.core.proofs.alloc.Calls.{Al, handle_tells}
use Rattle.core.proofs.cell.Inside.{Good}
use Rattle.std_alloc.specs.Box.Ownership.{box_owns}
use Rattle.std_alloc.proofs.ResultValues.{and_tt}
use Rattle.core_c.specs.contracts.unboxed.Unboxed as unboxed

-- a struct of two fields
abbrev pub pair : Val → Val → Val
pair v w = vstruct (vcons v (vcons w vnil))

-- the values of the fields, told one after another, are those of the struct
told : (vs ps ws : List Val) (p : Ptr) (b o : ℕ) (w : Val) → vs ≡ vstruct (of_list (ps ++ (ws ++ []))) ∷ [] → ps ≡ ptr_val p ∷ [] → ws ≡ w ∷ [] → p ≡ block_ptr b o → vs ≡ pair (vptr b o) w ∷ []
told vs ps ws p b o w whole first second at =
    whole ∙ ((λ i. vstruct (of_list (first i ++ (second i ++ []))) ∷ []) ∙ ap (λ (q : Ptr). vstruct (of_list (ptr_val q ∷ w ∷ [])) ∷ []) at)

module _ (X A : RattleType) (laws : Laws A) (members : Ghosts A.Denot) where
  abbrev pub Apart : RattleType
  Apart = unboxed.the_row X A members

  -- the allocator in the form that the kit's steps take
  abbrev pub allocator : Al
  allocator = record { row = A; laws = laws; g = members; d = impl [] tnil dnil; drops = impl [] tnil dnil }

  abbrev Box-at : A.Denot → Ptr → X.Denot → base.Fml.Fml
  Box-at a p x = box_owns (members.dealloc_token a) X p x

  pub pair_fits : (b o : ℕ) (w : Val) → Good (layout A) w → T (has_ty (layout A) w && true) × WT (pair (vptr b o) w)
  pair_fits b o w good = (and_tt (has_ty (layout A) w) good.0, (tt, (good.1, tt)))

  module _ {M : Type 1} {𝓤 : Ura M} {𝓛 : Logic 𝓤} {K : Type 0} {Γ : List (Item 𝓤)} {G : Goal 𝓤 𝓛.H} where
    -- from it come the box's memory, which is no null, and the allocator
    pub opened : K → (u : Apart.Denot) (vs : List Val)
        → ((b o : ℕ) (w : Val) → vs ≡ pair (vptr b o) w ∷ [] → Good (layout A) w → Seq K 𝓛 (‵ (Box-at u.alloc (block_ptr b o) u.value) ∷ ‵ (A.own_val u.alloc (w ∷ [])) ∷ Γ) G)
        → Seq K 𝓛 (‵ (Apart.own_val u vs) ∷ Γ) G
    opened t u vs next =
        fsplit t $ fpick t (λ each. fsplit t $ feq_l t (λ whole. fsplit t $ feq_l t (λ first. fsplit t $
        handle_tells allocator t u.alloc each.1.0 (λ w second good. move t (1 ∷ []) $ drop t $ move t (1 ∷ []) $
        in_a_block t u.at (λ p. Box-at u.alloc p u.value) (fst∗ 𝓤 (never 𝓤) (sem 𝓛 (members.dealloc_token u.alloc (unnamed (lone X.mir)) null_ptr))) (λ b o at.
        next b o w (told vs each.0 each.1.0 u.at b o w whole first second at) good)))))

    -- and of these it is made
    pub closed : K → (b o : ℕ) (w : Val) (a : A.Denot) (x : X.Denot)
        → Step K 𝓛 (‵ (Apart.own_val (record { at = block_ptr b o; alloc = a; value = x }) (pair (vptr b o) w ∷ [])) ∷ Γ) G (‵ (Box-at a (block_ptr b o) x) ∷ ‵ (A.own_val a (w ∷ [])) ∷ Γ) G
    closed t b o w a x = step (λ s. let whole : List Val = pair (vptr b o) w ∷ [] in
        nothing t $ move t (2 ∷ 0 ∷ []) $ fjoin t $ feq_i t (List Val) (vptr b o ∷ []) (vptr b o ∷ []) refl $ fjoin t $ feq_i t (List Val) whole whole refl $ fjoin t $
        fpack t (Valss (RawPtr ∷ A ∷ [])) (within (shape (unboxed.the_type X A members)) (block_ptr b o, (a, tt)) whole) (vptr b o ∷ [], (w ∷ [], tt)) $ fjoin t $ s)
