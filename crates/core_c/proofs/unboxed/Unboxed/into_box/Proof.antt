-- `into_box` takes the pointer and the allocator out of the struct, and calls for a box of them.
use Rattle.std.proofs.Common.{◌≡◌, List, [], ◌∷◌, ◌++◌, refl, sym, ap, subst}
use mir.Syntax.{Args, Fn, a_type, dcons, dnil}
use mir.Val.{Val, vptr}
use mir.MapTy.{inst_fn}
use base.Logic.{SProp, ent, id⊢}
use base.Fml.{ftrue, flft}
use prog.Wp.{WpFn}
use types.Kit.{‵, raw, ◌⊛◌, some, later, at_ret, ◌$◌, ◌∵◌, !, qed, by, move, keep, drop, split, split3, join, fsplit, fjoin, pick, suffices, use1, await, rewrite, feq_i}
use types.Run.{stop, fld, of_opd, no_more, and_then, first, blocks, exec, returns, enter}
use types.ByLocal.{alloc_all, pass_all, free_all, look_at, get, get_in, sets, lands_last, env}
use types.Part.{sub, whole}
use contract.Monad.{fact}
use contract.BorrowLft.{◌⊑◌}
use contract.Running.{tables}
use denote.Exit.{no}
use denote.RattleType.{RattleType, owns}
use denote.Signature.{types_at, plain}
use denote.RawPtr.{block_ptr}
use denote.Steps.{nothing, only}
use denote.Param.{param, layout, bounded}
use denote.Param.Laws.{param_laws}
use denote.Triple.Clauses.{Lasts, lasts}
use denote.Triple.Spec.{triple_of}
use denote.Triple.Call.{calls_at_last}
use denote.Triple.Walked.{Stays, stay_dropped, walk_of}
use Rattle.core.proofs.alloc.Calls.{Goes-blank}
use Rattle.core.proofs.alloc.Shapes.{after}
use Rattle.core.proofs.atomic.Steps.{fm}
use Rattle.core.proofs.cell.Inside.{Good}
use Rattle.std_alloc.specs.contracts.boxed.Box.from_raw as made
use Rattle.std_alloc.proofs.boxed.Box.from_raw.Met.{met}
use Rattle.std_alloc.proofs.BoxSteps.Form as box
use Rattle.std_alloc.proofs.BoxSteps.Steps.{box_out, box_in}
use Rattle.std.proofs.raw_atomic.Walks.{proved_at, leaves}
use Rattle.core_c.specs.contracts.unboxed.Unboxed.into_box as f
use Rattle.core_c.proofs.unboxed.Unboxed.into_box.Statement.{statement}
use Rattle.core_c.proofs.unboxed.Unboxed.into_box.Code as code
use Rattle.core_c.proofs.Apart.{pair, Apart, pair_fits, opened}

pub into_box_spec : {M : Type 1} → statement M
into_box_spec 𝓤 𝓛 𝓜 𝓡 wired X A laws laws-A g d dx dd allocates drops-X drops-A =
    let R : RattleType = param 0 X in
    let Z : RattleType = param 1 A in
    let own-laws = param_laws 1 A laws-A in
    let ended = f.ended X A g d dx dd in
    let clauses = f.clauses X A g d dx dd 𝓛 𝓜.mem 𝓡.returns in
    let form : box.Bx = record { row = X; laws = laws; al = record { row = A; laws = laws-A; g = g; d = d; drops = dd } } in
    let given : Args = bounded (a_type ∷ a_type ∷ []) (X, (A, tt)) (dcons d (dcons dx (dcons dd dnil))) in
    let function : Fn = inst_fn given code.function in
    let 𝓣 = tables 𝓤 𝓛.H 𝓜 𝓡 𝓡.env in
    let stays : Stays ended.signature.params ended.kept = (stay_dropped (plain (λ _. Apart R Z own-laws g)) no, tt) in
    proved_at 𝓛 ended stays clauses 𝓜 𝓡 (Goes-blank 𝓛 2 (plain (λ _. Apart R Z own-laws g)) no (λ κs x w. tt), tt)
    (f.Key.name given) function (code.unfolded 𝓤 𝓛.H 𝓜 𝓡 wired (X, (A, tt)) d dx dd) (λ z are.
    let κs = z.0.0 in let qs = z.0.1 in let self = z.0.3.0 in let a = self.alloc in
    let Post : Val → SProp 𝓤 = (walk_of 𝓛 ended stays clauses).post z in
    let Run : List Val → SProp 𝓤 = λ vs. WpFn 𝓤 𝓛.H 𝓣.C 𝓣.Λ function vs Post in
    let lives = ‵ (flft κs.0 qs.0) ⊛ ‵ (flft κs.1.0 qs.1.0) ⊛ ‵ ftrue in
    qed 𝓛 ((lives ⊛ ‵ (owns (types_at ended.signature.params κs) z.0.3 z.0.4)) ∷ raw ((clauses κs z.0.3).requires z.1) ∷ []) ∵
    split ! $ move ! (1 ∷ []) $ fsplit ! $ opened R Z own-laws g ! self z.0.4.0 (λ b o w told good.
    let v : Val = pair (vptr b o) w in
    let fits = pair_fits R Z own-laws g b o w good in
    let B : RattleType = box.B form in
    let call = triple_of 𝓛 (made.signature X A g d dd) (made.spec X A g d dd 𝓛 𝓜.mem 𝓡.returns) in
    let passed : call.Ghost = ((κs, qs, tt, (a, (block_ptr b o, tt)), (w ∷ [], (vptr b o ∷ [], tt))), self.value) in
    -- the bounds of the two lifetimes stand with what the caller asks, and are not needed
    move ! (4 ∷ []) $ use1 𝓛 (raw (fact 𝓤 (κs.0 ⊑ X.lives)) ⊛ raw (fact 𝓤 (κs.1.0 ⊑ A.lives)) ⊛ ‵ ftrue) (id⊢ 𝓤 _) $ split3 ! $ move ! (2 ∷ []) $ drop ! $
    move ! (1 ∷ 2 ∷ []) $ join ! $ move ! (1 ∷ 0 ∷ []) $ join ! $
    move ! (2 ∷ []) $ feq_i ! (List Val) (vptr b o ∷ []) (vptr b o ∷ []) refl $ fjoin ! $ move ! (2 ∷ 0 ∷ []) $ fjoin ! $ move ! (2 ∷ 0 ∷ []) $ join ! $ join ! $
    use1 𝓛 (raw (call.pre passed)) (id⊢ 𝓤 _) $
    suffices ! (Run (v ∷ [])) (subst (λ (vs : List Val). ent 𝓤 (Run (v ∷ [])) (Run vs)) (sym (λ i. told i ++ [])) (id⊢ 𝓤 (Run (v ∷ [])))) $
    enter ! 𝓣.C 𝓣.Λ function (v ∷ []) Post $ alloc_all ! (λ l. pass_all ! refl (fits, tt) $ let locals = env function.locals l in
    sets ! (of_opd ! (get_in ! (fld ! refl (stop !)) (sub ! 0 refl (whole !)))) refl (tt, tt) $
    sets ! (of_opd ! (get_in ! (fld ! refl (stop !)) (sub ! 1 refl (whole !)))) refl good $
    first ! $ blocks ! $ sets ! (of_opd ! (get ! refl)) refl good $
    calls_at_last ! (fm 𝓛 𝓜 𝓡) call (met 𝓤 𝓛 𝓜 𝓡 (code.calls-std_alloc::boxed::Box::from_raw 𝓡.env wired) X A laws laws-A g d dd allocates drops-A) passed
    (and_then ! (get ! refl) (and_then ! (get ! refl) (no_more !))) (λ u.
    use1 𝓛 (later (some (λ (r : B.Denot). (lives ⊛ ‵ (B.own_val r (u ∷ []))) ⊛ some (λ (ends : Lasts (made.ended X A g d dd) κs passed.0.3).
    ‵ (lasts (made.ended X A g d dd) κs passed.0.3 ends) ⊛ (raw (fact 𝓤 (r.value ≡ self.value)) ⊛ raw (fact 𝓤 (r.alloc ≡ a))))))) (id⊢ 𝓤 (call.post passed u)) $
    await ! tt $ pick ! (λ r. split ! $ move ! (1 ∷ []) $ pick ! (λ _. split3 ! $ drop ! $ move ! (2 ∷ []) $ split ! $ move ! (1 ∷ []) $
    -- the machine's value of the box, which the local takes, is a pair too
    box_out form ! r (u ∷ []) (λ b' o' w' at' told' good'. box_in form ! r b' o' r.value at' refl $ rewrite ! 0 (λ (vs : List Val). ‵ (B.own_val r vs)) (sym told') refl $
    let fits' : Good (layout B) u = subst (Good (layout B)) (sym (ap only told')) (pair_fits R Z own-laws g b' o' w' good') in
    lands_last ! refl fits' $ exec ! 𝓣.C 𝓣.Λ locals (after 3 function.body) (at_ret locals Post) $
    sets ! (of_opd ! (get ! refl)) refl fits' $ nothing ! $ nothing ! $ fjoin ! $
    returns ! (look_at ! 0 refl) $ free_all ! refl $ keep ! (2 ∷ 0 ∷ 1 ∷ 3 ∷ []) $
    by ! (leaves 𝓛 ended stays clauses z u r ((tt, (tt, tt)), tt) (tt, tt)))))))))
