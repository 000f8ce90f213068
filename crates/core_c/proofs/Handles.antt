-- A handle in a walk. Assumes `Logic`.
use Rattle.std.proofs.Common.{ℕ, List, [], ◌∷◌, Bool, refl}
use seplogic.Ra.Ura.{Ura}
use mir.Val.{Val, vptr, vbool}
use types.Logic.{Logic}
use types.Kit.{Item, Goal, Step, step, ‵, ◌$◌, fjoin, fpack, feq_i}
use denote.RattleType.{Valss}
use denote.Builtin.{RawPtr, bool}
use denote.RawPtr.{block_ptr}
use denote.Steps.{nothing}
use denote.Struct.Struct.{within}
use denote.Struct.Owning.{shape}
use Rattle.std.specs.declared.alloc.Global.{Global}
use Rattle.core_service.specs.contracts.service.Service as services
use Rattle.core_c.specs.Held.{owns_service}
use Rattle.core_c.specs.contracts.handle.Handle.{the_row, the_type}
use Rattle.core_c.proofs.Apart.{pair}

-- a handle whose fields are these
abbrev pub handle_of : ℕ → ℕ → Bool → Global → services.the_row.Denot → the_row.Denot
handle_of b o full heap service = record { at = block_ptr b o; full = full; heap = heap; service = service }

module _ {M : Type 1} {𝓤 : Ura M} {𝓛 : Logic 𝓤} {K : Type 0} {Γ : List (Item 𝓤)} {G : Goal 𝓤 𝓛.H} where
  -- it is made of what such a handle owns beside its fields
  pub handle_made : K → (b o : ℕ) (full : Bool) (heap : Global) (service : services.the_row.Denot)
      → Step K 𝓛 (‵ (the_row.own_val (handle_of b o full heap service) (pair (vptr b o) (vbool full) ∷ [])) ∷ Γ) G (‵ (owns_service full (block_ptr b o) heap service) ∷ Γ) G
  handle_made t b o full heap service = step (λ s. let whole : List Val = pair (vptr b o) (vbool full) ∷ [] in
      nothing t $ feq_i t (List Val) (vbool full ∷ []) (vbool full ∷ []) refl $ fjoin t $
      feq_i t (List Val) (vptr b o ∷ []) (vptr b o ∷ []) refl $ fjoin t $ feq_i t (List Val) whole whole refl $ fjoin t $
      fpack t (Valss (RawPtr ∷ bool ∷ [])) (within (shape the_type) (block_ptr b o, (full, tt)) whole) (vptr b o ∷ [], (vbool full ∷ [], tt)) $ fjoin t $ s)
