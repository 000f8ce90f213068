-- `of` calls for the box's pointer and its allocator, and puts the two into a struct.
use Rattle.std.proofs.Common.{◌≡◌, List, [], ◌∷◌, ◌++◌, refl, sym, ap, ◌∙◌, subst}
use mir.Syntax.{Args, Fn, a_type, dcons, dnil}
use mir.Raw.{raw as unnamed}
use mir.Val.{Val, vptr, vstruct, of_list}
use mir.MapTy.{inst_fn}
use base.Logic.{SProp, ent, emp, never, id⊢, fst∗}
use base.Fml.{ftrue, fsep, flft}
use prog.Wp.{WpFn}
use types.Logic.{sem}
use types.Kit.{‵, raw, ◌⊛◌, some, later, ◌$◌, ◌∵◌, !, qed, by, move, keep, drop, split, split3, join, fsplit, fjoin, fpick, pick, suffices, use0, use1, await, rewrite, feq_l}
use types.Run.{stop, fld, of_opd, no_more, and_then, returns, enter}
use types.ByLocal.{alloc_all, pass_all, free_all, look_at, get, get_in, sets, lands_as}
use types.Part.{agg, sub, whole}
use contract.Monad.{fact, fact_i}
use contract.Running.{tables}
use denote.Exit.{no}
use denote.RattleType.{RattleType, owns}
use denote.Signature.{types_at, plain}
use denote.Builtin.{RawPtr}
use denote.RawPtr.{Ptr, block_ptr, null_ptr, ptr_val, in_a_block}
use denote.Steps.{nothing, only, heard}
use denote.Param.{param, layout, bounded}
use denote.Param.Laws.{param_laws}
use denote.Struct.Tuple.{Tuple}
use denote.Triple.Spec.{triple_of}
use denote.Triple.Call.{calls_at}
use denote.Triple.Walked.{Stays, stay_dropped, walk_of}
use Rattle.core.proofs.alloc.Calls.{Goes-blank, handle_tells}
use Rattle.core.proofs.atomic.Steps.{fm}
use Rattle.std_alloc.specs.Box.Ownership.{box_owns}
use Rattle.std_alloc.specs.contracts.boxed.Box.into_raw_with_allocator as parts
use Rattle.std_alloc.proofs.boxed.Box.into_raw_with_allocator.Met.{met}
use Rattle.std_alloc.proofs.BoxSteps.Form as box
use Rattle.std_alloc.proofs.BoxSteps.Steps.{box_out, box_in}
use Rattle.std.proofs.raw_atomic.Walks.{proved_at, leaves}
use Rattle.core_c.specs.contracts.unboxed.Unboxed.of as f
use Rattle.core_c.proofs.unboxed.Unboxed.of.Statement.{statement}
use Rattle.core_c.proofs.unboxed.Unboxed.of.Code as code
use Rattle.core_c.proofs.Apart.{pair, pair_fits, closed}

pub of_spec : {M : Type 1} → statement M
of_spec 𝓤 𝓛 𝓜 𝓡 wired X A laws laws-A g d dx dd allocates drops-X drops-A =
    let R : RattleType = param 0 X in
    let Z : RattleType = param 1 A in
    let own-laws = param_laws 1 A laws-A in
    let ended = f.ended X A g d dx dd in
    let clauses = f.clauses X A g d dx dd 𝓛 𝓜.mem 𝓡.returns in
    let form : box.Bx = record { row = X; laws = laws; al = record { row = A; laws = laws-A; g = g; d = d; drops = dd } } in
    let given : Args = bounded (a_type ∷ a_type ∷ []) (X, (A, tt)) (dcons d (dcons dx (dcons dd dnil))) in
    let function : Fn = inst_fn given code.function in
    let 𝓣 = tables 𝓤 𝓛.H 𝓜 𝓡 𝓡.env in
    let stays : Stays ended.signature.params ended.kept = (stay_dropped (plain (λ _. box.B form)) no, tt) in
    proved_at 𝓛 ended stays clauses 𝓜 𝓡 (Goes-blank 𝓛 2 (plain (λ _. box.B form)) no (λ κs x w. tt), tt)
    (f.Key.name given) function (code.unfolded 𝓤 𝓛.H 𝓜 𝓡 wired (X, (A, tt)) d dx dd) (λ z are.
    let κs = z.0.0 in let qs = z.0.1 in let boxed = z.0.3.0 in let a = boxed.alloc in
    let Post : Val → SProp 𝓤 = (walk_of 𝓛 ended stays clauses).post z in
    let Run : List Val → SProp 𝓤 = λ vs. WpFn 𝓤 𝓛.H 𝓣.C 𝓣.Λ function vs Post in
    let lives = ‵ (flft κs.0 qs.0) ⊛ ‵ (flft κs.1.0 qs.1.0) ⊛ ‵ ftrue in
    qed 𝓛 ((lives ⊛ ‵ (owns (types_at ended.signature.params κs) z.0.3 z.0.4)) ∷ raw ((clauses κs z.0.3).requires z.1) ∷ []) ∵
    split ! $ move ! (1 ∷ []) $ fsplit ! $
    -- the box lies at a place that is no null
    box_out form ! boxed z.0.4.0 (λ b o w at told good.
    let v : Val = box.word form w b o in
    let fits = pair_fits R Z own-laws g b o w good in
    let Pair = Tuple (RawPtr ∷ Z ∷ []) in
    let call = triple_of 𝓛 (parts.signature X A g d dd dx) (parts.spec X A g d dd dx 𝓛 𝓜.mem 𝓡.returns) in
    let passed : call.Ghost = ((κs, qs, tt, (boxed, tt), (v ∷ [], tt)), tt) in
    box_in form ! boxed b o boxed.value at refl $ fjoin ! $ move ! (1 ∷ 0 ∷ []) $ join ! $ join ! $ use1 𝓛 (raw (call.pre passed)) (id⊢ 𝓤 _) $
    suffices ! (Run (v ∷ [])) (subst (λ (vs : List Val). ent 𝓤 (Run (v ∷ [])) (Run vs)) (sym (λ i. told i ++ [])) (id⊢ 𝓤 (Run (v ∷ [])))) $
    enter ! 𝓣.C 𝓣.Λ function (v ∷ []) Post $ alloc_all ! (λ l. pass_all ! refl (fits, tt) $
    sets ! (of_opd ! (get ! refl)) refl fits $
    calls_at ! (fm 𝓛 𝓜 𝓡) call (met 𝓤 𝓛 𝓜 𝓡 (code.calls-std_alloc::boxed::Box::into_raw_with_allocator 𝓡.env wired) X A laws laws-A g d dd dx allocates drops-A drops-X) passed
    (and_then ! (get ! refl) (no_more !)) (λ u.
    -- it answers the pointer and the allocator, and gives the box's memory
    use1 𝓛 (later (some (λ (r : Ptr × A.Denot). (lives ⊛ ‵ (Pair.own_val r (u ∷ []))) ⊛ some (λ (_ : (Unit {0} × (Unit {0} × Unit {0})) × Unit {0}).
    ‵ (fsep (fsep ftrue (fsep ftrue ftrue)) ftrue) ⊛ (raw (fact 𝓤 (r.1 ≡ a)) ⊛ ‵ (box_owns (g.dealloc_token a) R r.0 boxed.value)))))) (id⊢ 𝓤 _) $
    await ! tt $ pick ! (λ r. split ! $ move ! (1 ∷ []) $ pick ! (λ _. split3 ! $ drop ! $ heard ! (r.1 ≡ a) (λ same.
    in_a_block ! r.0 (λ p. box_owns (g.dealloc_token a) R p boxed.value) (fst∗ 𝓤 (never 𝓤) (sem 𝓛 (g.dealloc_token a (unnamed (layout X)) null_ptr))) (λ b' o' at'.
    move ! (1 ∷ []) $ split ! $ move ! (1 ∷ []) $ fpick ! (λ each. fsplit ! $ feq_l ! (λ whole'. fsplit ! $ feq_l ! (λ first. fsplit ! $
    rewrite ! 0 (λ (s : A.Denot). ‵ (A.own_val s each.1.0)) same refl $ handle_tells form.al ! a each.1.0 (λ w' second good'.
    let fits' = pair_fits R Z own-laws g b' o' w' good' in
    lands_as ! (ap only (whole' ∙ (λ i. vstruct (of_list ((first ∙ ap (λ (p : Ptr). ptr_val p ∷ []) at') i ++ (second i ++ []))) ∷ []))) refl fits' $
    sets ! (of_opd ! (get_in ! (fld ! refl (stop !)) (sub ! 0 refl (whole !)))) refl (tt, tt) $
    sets ! (of_opd ! (get_in ! (fld ! refl (stop !)) (sub ! 1 refl (whole !)))) refl good' $
    sets ! (of_opd ! (get ! refl)) refl good' $
    sets ! (agg ! (and_then ! (get ! refl) (and_then ! (get ! refl) (no_more !)))) refl fits' $
    -- of the memory and the allocator the struct is made
    move ! (3 ∷ 0 ∷ []) $ closed R Z own-laws g ! b' o' w' a boxed.value $
    use0 𝓛 (raw (fact 𝓤 (boxed.value ≡ boxed.value))) (fact_i 𝓤 (boxed.value ≡ boxed.value) (emp 𝓤) refl) $ nothing ! $ nothing ! $ fjoin ! $
    returns ! (look_at ! 0 refl) $ free_all ! refl $ keep ! (4 ∷ 0 ∷ 2 ∷ 1 ∷ []) $
    by ! (leaves 𝓛 ended stays clauses z (pair (vptr b' o') w') (record { at = block_ptr b' o'; alloc = a; value = boxed.value }) ((tt, (tt, tt)), tt) (tt, tt))))))))))))))
