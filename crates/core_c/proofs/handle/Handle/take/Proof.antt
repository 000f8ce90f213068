-- `take` reads the pointer, clears the flag, and puts the pointer and the allocator into a struct.
use Rattle.core_c.proofs.Walking.{◌≡◌, List, [], ◌∷◌, ◌++◌, Bool, true, false, refl, sym, ◌∙◌, subst, full_share, SProp, ent, id⊢, ftrue, flft, fact, named, Val, vbool, vptr, tables, WpFn, ‵, raw, ◌⊛◌, ◌$◌, ◌∵◌, !, qed, move, keep, drop, split, join, fsplit, fsplit3, fjoin, rewrite, suffices, frame, group, enter, of_opd, load, false_lit, stop, fld, no_more, and_then, assigns, returns, alloc_all, pass_all, free_all, look_at, get, through, sets, agg, whole, sub, look_in, store_in, yes, shows, cell_at, RattleType, owns, mut_vals, mut_Tells, plain, types_at, nothing, opens, closes, heard, peeks, Stays, walk_of, says, stay_ref, stay_dropped, Goes-ref, Goes-dropped, ends_at}
use types.Kit.{done}
use mir.Raw.{raw as unnamed}
use base.Logic.{fst∗, never}
use types.Logic.{sem}
use denote.Memory.{lone}
use denote.RawPtr.{block_ptr, null_ptr, in_a_block}
use Rattle.core.proofs.alloc.Calls.{handle_tells}
use Rattle.std_alloc.specs.Box.Ownership.{box_owns}
use Rattle.std.proofs.raw_atomic.Walks.{proved_at}
use Rattle.std.specs.contracts.alloc.Global as global
use Rattle.std.proofs.alloc.Global.TheLaws as global_laws
use Rattle.std.specs.contracts.impls.GlobalAllocator.TheImpl.{ghosts}
use Rattle.core_service.specs.contracts.service.Service as services
use Rattle.core_c.specs.Held.{owns_service}
use Rattle.core_c.specs.contracts.handle.Handle.take as f
use Rattle.core_c.proofs.handle.Handle.take.Statement.{statement}
use Rattle.core_c.proofs.handle.Handle.take.Code as code
use Rattle.core_c.specs.contracts.handle.Handle.{the_row}
use Rattle.core_c.proofs.handle.Handle.TheLaws.{lowers}
use Rattle.core_c.proofs.Apart.{pair, allocator, pair_fits, closed}
use Rattle.core_c.proofs.Handles.{handle_of, handle_made}

pub take_spec : {M : Type 1} → statement M
take_spec 𝓤 𝓛 𝓜 𝓡 wired =
    let clauses = f.clauses 𝓛 𝓜.mem 𝓡.returns in
    let function = code.function in
    let 𝓣 = tables 𝓤 𝓛.H 𝓜 𝓡 𝓡.env in
    let S : RattleType = services.the_row in
    let Z : RattleType = global.the_row in
    let laws = global_laws.the_row_laws in
    let stays : Stays f.ended.signature.params f.ended.kept = (stay_ref (0 ∷ []) tt (plain (λ _. the_row)), (stay_dropped (plain (λ _. Z)) yes, tt)) in
    proved_at 𝓛 f.ended stays clauses 𝓜 𝓡 (Goes-ref 𝓛 1 0 tt (plain (λ _. the_row)), (Goes-dropped 𝓛 1 (plain (λ _. Z)) yes (λ κs x w. refl), tt))
    f.Key.name function (code.unfolded 𝓤 𝓛.H 𝓜 𝓡 wired) (λ z are.
    let κs = z.0.0 in let qs = z.0.1 in let passed = z.0.3 in let vss = z.0.4 in
    let b = passed.0.ref_ptr.0 in let o = passed.0.ref_ptr.1 in let handle = passed.0.now in let heap = passed.1.0 in
    let Post : Val → SProp 𝓤 = (walk_of 𝓛 f.ended stays clauses).post z in
    let Run : List Val → SProp 𝓤 = λ vs. WpFn 𝓤 𝓛.H 𝓣.C 𝓣.Λ function vs Post in
    let reference : vss.0 ≡ mut_vals passed.0 = mut_Tells (named 0) κs.0 the_row passed.0 vss.0 are.0 in
    qed 𝓛 (((‵ (flft κs.0 qs.0) ⊛ ‵ ftrue) ⊛ ‵ (owns (types_at f.ended.signature.params κs) passed vss)) ∷ raw (fact 𝓤 (handle.full ≡ true)) ∷ []) ∵
    move ! (1 ∷ []) $ heard ! (handle.full ≡ true) (λ full. split ! $ move ! (1 ∷ []) $ fsplit ! $ move ! (1 ∷ []) $ fsplit ! $
    handle_tells (allocator S Z laws ghosts) ! heap vss.1.0 (λ w told good.
    move ! (2 ∷ []) $ fsplit3 ! $ move ! (5 ∷ []) $ split ! $ keep ! (3 ∷ 4 ∷ 0 ∷ 2 ∷ 5 ∷ []) $
    suffices ! (Run (vptr b o ∷ w ∷ [])) (subst (λ (vs : List Val). ent 𝓤 (Run (vptr b o ∷ w ∷ [])) (Run vs)) (sym (λ i. reference i ++ (told i ++ []))) (id⊢ 𝓤 (Run (vptr b o ∷ w ∷ [])))) $
    enter ! 𝓣.C 𝓣.Λ function (vptr b o ∷ w ∷ []) Post $ alloc_all ! (λ l. pass_all ! refl ((tt, tt), (good, tt)) $
    opens ! tt the_row b o (λ us. move ! (1 ∷ []) $ peeks ! the_row _ (shows 𝓛 the_row) handle us (λ is. fsplit ! $ drop ! $
    -- a full handle owns a box, whose pointer is no null
    rewrite ! 0 (λ (y : Bool). ‵ (owns_service y handle.at handle.heap handle.service)) full refl $
    in_a_block ! handle.at (λ p. box_owns (ghosts.dealloc_token handle.heap) S p handle.service) (fst∗ 𝓤 (never 𝓤) (sem 𝓛 (ghosts.dealloc_token handle.heap (unnamed (lone S.mir)) null_ptr))) (λ b' o' at.
    let spelled = lowers.val_is handle us is ∙ (λ i. lowers.lowered (record handle { at = at i }) ∷ []) in
    rewrite ! 1 (λ (vs : List Val). ‵ (cell_at full_share the_row.mir vs b o)) spelled refl $
    sets ! (of_opd ! (load ! (through ! refl (fld ! refl (stop !))) (look_in ! 1 (sub ! 0 refl (whole !))))) refl (tt, tt) $
    sets ! (of_opd ! (get ! refl)) refl (tt, tt) $
    assigns ! (of_opd ! (false_lit !)) (through ! refl (fld ! refl (stop !))) (store_in ! 1 (sub ! 1 refl (whole !)) (tt, tt)) $
    sets ! (agg ! (and_then ! (get ! refl) (and_then ! (get ! refl) (no_more !)))) refl (pair_fits S Z laws ghosts b' o' w good) $
    -- the struct has the box's memory, and the handle nothing more
    let after = handle_of b' o' false handle.heap handle.service in
    move ! (0 ∷ 6 ∷ []) $ closed S Z laws ghosts ! b' o' w heap handle.service $ move ! (1 ∷ []) $
    nothing ! $ handle_made ! b' o' false handle.heap handle.service $
    move ! (1 ∷ 0 ∷ 3 ∷ 4 ∷ 5 ∷ []) $ closes ! tt the_row after (pair (vptr b' o') (vbool false) ∷ []) b o $
    returns ! (look_at ! 0 refl) $ free_all ! refl $ move ! (4 ∷ []) $
    suffices ! _ (ends_at 𝓛 f.ended stays clauses z (pair (vptr b' o') w) (record { at = block_ptr b' o'; alloc = heap; value = handle.service }) (after, (tt, tt)) (tt, (tt, tt))) $ says ! (refl, refl) $
    group ! 3 $ nothing ! $ nothing ! $ fjoin ! $ move ! (1 ∷ 0 ∷ []) $ join ! $ nothing ! $ move ! (2 ∷ 0 ∷ []) $ join ! $ frame ! $ frame ! $ done !)))))))
