-- `is_full` reads the flag behind the reference.
use Rattle.core_c.proofs.Walking.{[], ◌∷◌, List, refl, sym, full_share, ftrue, flft, named, Val, vbool, ‵, ◌⊛◌, ◌$◌, ◌∵◌, !, qed, move, keep, split, join, fsplit3, feq_i, rewrite, suffices, frame, group, enter, of_opd, load, stop, fld, returns, alloc_all, pass_all, free_all, look_at, through, sets, whole, sub, look_in, shows, cell_at, MutRef, mut_vals, mut_Tells, plain, nothing, opens, closes, peeks, Stays, walk_of, says, stay_ref, Goes-ref, ends_at}
use types.Kit.{done}
use Rattle.std.proofs.raw_atomic.Walks.{proved}
use Rattle.core_c.specs.contracts.handle.Handle.is_full as f
use Rattle.core_c.proofs.handle.Handle.is_full.Statement.{statement}
use Rattle.core_c.proofs.handle.Handle.is_full.Code as code
use Rattle.core_c.specs.contracts.handle.Handle.{the_row}
use Rattle.core_c.proofs.handle.Handle.TheLaws.{lowers}

abbrev stays : Stays f.ended.signature.params f.ended.kept
stays = (stay_ref (0 ∷ []) tt (plain (λ _. the_row)), tt)

pub is_full_spec : {M : Type 1} → statement M
is_full_spec 𝓤 𝓛 𝓜 𝓡 wired =
    let clauses = f.clauses 𝓛 𝓜.mem 𝓡.returns in
    let Walk = walk_of 𝓛 f.ended stays clauses in
    proved 𝓛 f.ended stays clauses 𝓜 𝓡 (Goes-ref 𝓛 1 0 tt (plain (λ _. the_row)), tt)
    f.Key.name code.function (code.unfolded 𝓤 𝓛.H 𝓜 𝓡 wired) (λ κs. (mut_vals, tt)) (λ κs. (mut_Tells (named 0) κs.0 the_row, tt)) (λ κs qs bounds passed _ are.
    let b = passed.0.ref_ptr.0 in let o = passed.0.ref_ptr.1 in let handle = passed.0.now in let vs = mut_vals passed.0 in
    let z : Walk.Ghost = ((κs, qs, bounds, passed, (vs, tt)), tt) in
    qed 𝓛 (((‵ (flft κs.0 qs.0) ⊛ ‵ ftrue) ⊛ ‵ ((MutRef (named 0) κs.0 the_row).own_val passed.0 vs) ⊛ ‵ ftrue) ∷ ‵ ftrue ∷ []) ∵
    split ! $ split ! $ move ! (2 ∷ []) $ split ! $ keep ! (0 ∷ 2 ∷ []) $
    enter ! _ _ _ _ _ $ alloc_all ! (λ l. pass_all ! refl ((tt, tt), tt) $
    fsplit3 ! $ move ! (1 ∷ 2 ∷ 3 ∷ []) $ opens ! tt the_row b o (λ us. move ! (1 ∷ []) $ peeks ! the_row _ (shows 𝓛 the_row) handle us (λ is.
    -- the cell holds what the fields say, and again after the read
    let spelled = lowers.val_is handle us is in
    let Cell = λ (vs : List Val). ‵ (cell_at full_share the_row.mir vs b o) in
    rewrite ! 1 Cell spelled refl $
    sets ! (of_opd ! (load ! (through ! refl (fld ! refl (stop !))) (look_in ! 1 (sub ! 1 refl (whole !))))) refl (tt, tt) $
    rewrite ! 1 Cell (sym spelled) refl $ move ! (1 ∷ []) $ closes ! tt the_row handle us b o $
    returns ! (look_at ! 0 refl) $ free_all ! refl $ move ! (3 ∷ []) $
    suffices ! _ (ends_at 𝓛 f.ended stays clauses z (vbool handle.full) handle.full (handle, tt) (tt, tt)) $ says ! (refl, refl) $
    group ! 3 $ nothing ! $ move ! (1 ∷ 0 ∷ []) $ join ! $ nothing ! $ move ! (2 ∷ 0 ∷ []) $ join ! $ frame ! $ frame ! $
    feq_i ! _ (vbool handle.full ∷ []) _ refl $ done !))))
