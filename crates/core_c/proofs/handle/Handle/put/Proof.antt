-- `put` keeps the pointer of what was a box, and sets the flag.
use Rattle.core_c.proofs.Walking.{◌≡◌, List, [], ◌∷◌, ◌++◌, true, refl, sym, subst, full_share, SProp, ent, id⊢, ftrue, flft, named, Val, vunit, vbool, vptr, tables, WpFn, ‵, ◌⊛◌, ◌$◌, ◌∵◌, !, qed, move, keep, drop, split, join, fsplit, fsplit3, fjoin, feq_i, rewrite, suffices, frame, group, enter, of_opd, unit_lit, true_lit, stop, fld, assigns, returns, alloc_all, pass_all, free_all, look_at, get, get_in, through, sets, whole, sub, store_in, yes, shows, cell_at, RattleType, owns, mut_vals, mut_Tells, plain, types_at, nothing, opens, closes, peeks, Stays, walk_of, says, stay_ref, stay_dropped, Goes-ref, Goes-dropped, ends_at}
use types.Kit.{done}
use Rattle.std.proofs.raw_atomic.Walks.{proved_at}
use Rattle.std.specs.contracts.alloc.Global as global
use Rattle.std.proofs.alloc.Global.TheLaws as global_laws
use Rattle.std.specs.contracts.impls.GlobalAllocator.TheImpl.{ghosts}
use Rattle.core_service.specs.contracts.service.Service as services
use Rattle.core_c.specs.contracts.handle.Handle.put as f
use Rattle.core_c.proofs.handle.Handle.put.Statement.{statement}
use Rattle.core_c.proofs.handle.Handle.put.Code as code
use Rattle.core_c.specs.contracts.handle.Handle.{the_row}
use Rattle.core_c.proofs.handle.Handle.TheLaws.{lowers}
use Rattle.core_c.proofs.Apart.{pair, Apart, pair_fits, opened}
use Rattle.core_c.proofs.Handles.{handle_of, handle_made}

pub put_spec : {M : Type 1} → statement M
put_spec 𝓤 𝓛 𝓜 𝓡 wired =
    let clauses = f.clauses 𝓛 𝓜.mem 𝓡.returns in
    let function = code.function in
    let 𝓣 = tables 𝓤 𝓛.H 𝓜 𝓡 𝓡.env in
    let Unboxed : RattleType = Apart services.the_row global.the_row global_laws.the_row_laws ghosts in
    let stays : Stays f.ended.signature.params f.ended.kept = (stay_ref (0 ∷ []) tt (plain (λ _. the_row)), (stay_dropped (plain (λ _. Unboxed)) yes, tt)) in
    proved_at 𝓛 f.ended stays clauses 𝓜 𝓡 (Goes-ref 𝓛 1 0 tt (plain (λ _. the_row)), (Goes-dropped 𝓛 1 (plain (λ _. Unboxed)) yes (λ κs x w. refl), tt))
    f.Key.name function (code.unfolded 𝓤 𝓛.H 𝓜 𝓡 wired) (λ z are.
    let κs = z.0.0 in let qs = z.0.1 in let passed = z.0.3 in let vss = z.0.4 in
    let b = passed.0.ref_ptr.0 in let o = passed.0.ref_ptr.1 in let handle = passed.0.now in let given = passed.1.0 in
    let Post : Val → SProp 𝓤 = (walk_of 𝓛 f.ended stays clauses).post z in
    let Run : List Val → SProp 𝓤 = λ vs. WpFn 𝓤 𝓛.H 𝓣.C 𝓣.Λ function vs Post in
    let reference : vss.0 ≡ mut_vals passed.0 = mut_Tells (named 0) κs.0 the_row passed.0 vss.0 are.0 in
    qed 𝓛 (((‵ (flft κs.0 qs.0) ⊛ ‵ ftrue) ⊛ ‵ (owns (types_at f.ended.signature.params κs) passed vss)) ∷ ‵ ftrue ∷ []) ∵
    split ! $ move ! (1 ∷ []) $ fsplit ! $ move ! (1 ∷ []) $ fsplit ! $
    opened services.the_row global.the_row global_laws.the_row_laws ghosts ! given vss.1.0 (λ b' o' w told good.
    let v : Val = pair (vptr b' o') w in
    let fits = pair_fits services.the_row global.the_row global_laws.the_row_laws ghosts b' o' w good in
    move ! (3 ∷ []) $ fsplit3 ! $ move ! (6 ∷ []) $ split ! $ keep ! (3 ∷ 4 ∷ 0 ∷ 2 ∷ 5 ∷ []) $
    suffices ! (Run (vptr b o ∷ v ∷ [])) (subst (λ (vs : List Val). ent 𝓤 (Run (vptr b o ∷ v ∷ [])) (Run vs)) (sym (λ i. reference i ++ (told i ++ []))) (id⊢ 𝓤 (Run (vptr b o ∷ v ∷ [])))) $
    enter ! 𝓣.C 𝓣.Λ function (vptr b o ∷ v ∷ []) Post $ alloc_all ! (λ l. pass_all ! refl ((tt, tt), (fits, tt)) $
    opens ! tt the_row b o (λ us. move ! (1 ∷ []) $ peeks ! the_row _ (shows 𝓛 the_row) handle us (λ is.
    let Cell = λ (vs : List Val). ‵ (cell_at full_share the_row.mir vs b o) in
    -- what the handle owned before is dropped with its fields
    rewrite ! 1 Cell (lowers.val_is handle us is) refl $ fsplit ! $ drop ! $ drop ! $
    sets ! (of_opd ! (get_in ! (fld ! refl (stop !)) (sub ! 0 refl (whole !)))) refl (tt, tt) $
    sets ! (of_opd ! (get ! refl)) refl (tt, tt) $
    assigns ! (of_opd ! (get ! refl)) (through ! refl (fld ! refl (stop !))) (store_in ! 0 (sub ! 0 refl (whole !)) (tt, tt)) $
    assigns ! (of_opd ! (true_lit !)) (through ! refl (fld ! refl (stop !))) (store_in ! 0 (sub ! 1 refl (whole !)) (tt, tt)) $
    sets ! (of_opd ! (unit_lit !)) refl (tt, tt) $
    let after = handle_of b' o' true given.alloc given.value in
    move ! (5 ∷ []) $ handle_made ! b' o' true given.alloc given.value $
    move ! (1 ∷ []) $ closes ! tt the_row after (pair (vptr b' o') (vbool true) ∷ []) b o $
    returns ! (look_at ! 0 refl) $ free_all ! refl $ move ! (3 ∷ []) $
    suffices ! _ (ends_at 𝓛 f.ended stays clauses z vunit tt (after, (tt, tt)) (tt, (tt, tt))) $ says ! (refl, refl) $
    group ! 3 $ nothing ! $ nothing ! $ fjoin ! $ move ! (1 ∷ 0 ∷ []) $ join ! $ nothing ! $ move ! (2 ∷ 0 ∷ []) $ join ! $ frame ! $ frame ! $
    feq_i ! _ (vunit ∷ []) _ refl $ done !)))))
