-- `opening` reads a marker's bytes, which are none, as those of an opening, and begins the ledger that the opening owns.
use Rattle.std.proofs.Common.{◌≡◌, ◌<◌, ℕ, List, [], ◌∷◌, refl, arith}
use base.Fraction.{full_share}
use base.Fml.{ftrue, fat, fsep}
use mir.Raw.{raw as unnamed}
use mir.Syntax.{Ty}
use mir.Val.{Val, vstruct, vcons, vnil, has_ty, WT}
use lib.Dec.{T}
use prog.Wp.{spot_of}
use contract.Running.{tables}
use types.Kit.{‵, ◌⊛◌, some, later, at_ret, ◌$◌, ◌∵◌, !, qed, move, keep, use0, use1, join, fjoin, fpack, feq_i, pick, await, suffices, frame}
use types.Run.{enter, of_opd, load, addr, from, look_raw, stop, no_more, and_then, first, blocks, exec, returns}
use types.ByLocal.{alloc_all, pass_all, free_all, look_at, take_at, give_at, get, through, sets, sets_last, env}
use types.Part.{agg}
use denote.Builtin.{unit}
use denote.Memory.{lone}
use denote.RattleType.{Valss}
use denote.Steps.{nothing}
use denote.Struct.Struct.{within}
use denote.Triple.Walked.{walk_of, ends_at}
use Rattle.std.proofs.raw_atomic.Walks.{proved}
use Rattle.core.proofs.alloc.Shapes.{after}
use Rattle.core.specs.Sync.Ledger.{book_owns, share_owns}
use Rattle.core.specs.contracts.ledger.Blank as blank
use Rattle.core.proofs.ledger.Steps as ledger
use Rattle.core.proofs.ledger.Walks.{token, Mark, made, tells_last}
use Rattle.cer_base.specs.contracts.steps.Opening as opening
use Rattle.cer_base.specs.contracts.steps.Opening.TheInside as inside
use Rattle.core_c.specs.contracts.count.opening as f
use Rattle.core_c.proofs.count.opening.Statement.{statement}
use Rattle.core_c.proofs.count.opening.Code as code

positive : 0 < 1
positive = omega arith

pub opening_spec : {M : Type 1} → statement M
opening_spec 𝓤 𝓛 𝓜 𝓡 wired =
    let c = f.clauses 𝓛 𝓜.mem 𝓡.returns in let W = walk_of 𝓛 f.ended tt c in let 𝓣 = tables 𝓤 𝓛.H 𝓜 𝓡 𝓡.env in
    proved 𝓛 f.ended tt c 𝓜 𝓡 tt f.Key.name code.function (code.unfolded 𝓤 𝓛.H 𝓜 𝓡 wired) (λ κs. tt) (λ κs. tt) (λ κs qs bounds a _ are.
    let y : W.Ghost = ((κs, qs, bounds, a, tt), tt) in let v : Val = vstruct (vcons token vnil) in
    qed 𝓛 ((‵ ftrue ⊛ ‵ ftrue) ∷ ‵ ftrue ∷ []) ∵ keep ! [] $
    enter ! _ _ _ _ _ $ alloc_all ! (λ l. pass_all ! refl tt $
    sets ! (agg ! (no_more !)) refl (tt, tt) $
    sets ! (agg ! (and_then ! (get ! refl) (no_more !))) refl (tt, (tt, tt)) $
    sets ! (agg ! (and_then ! (get ! refl) (no_more !))) refl (tt, ((tt, tt), tt)) $
    sets ! (addr ! (from ! (stop !))) refl (tt, tt) $
    let τ : Ty = (spot_of 𝓤 𝓛.H (env code.Mir.locals l) 1).0 in let ω : Ty = lone opening.the_row.mir in let good : T (has_ty ω v) × WT v = (tt, ((tt, tt), tt)) in
    take_at ! 1 $ use1 𝓛 (‵ (fat full_share (unnamed ω) (l 1) 0 v)) (𝓛.laws.at_raw full_share τ (l 1) 0 v) $
    first ! $ blocks ! $ sets_last ! (of_opd ! (load ! (through ! refl (stop !)) (look_raw ! 0 {τ = ω} {v = v} refl))) refl good $
    exec ! 𝓣.C 𝓣.Λ (env code.Mir.locals l) (after 5 code.function.body) (at_ret _ (W.post y)) $
    sets ! (of_opd ! (get ! refl)) refl good $
    use1 𝓛 (‵ (fat full_share τ (l 1) 0 v)) (𝓛.laws.raw_at full_share τ (l 1) 0 v) $ give_at ! 1 $
    use0 𝓛 (later (some (λ (γ : ℕ). ‵ (fsep (book_owns γ 1 0) (share_owns γ 1 1 0))))) (ledger.begins 𝓛 1) $ await ! tt $ pick ! (λ γ.
    let b : blank.the_row.Denot = record { marker = record {}; name = γ; parts = 1 } in
    use0 𝓛 (‵ ((Mark blank.the_type.name [] unit).own_val (tt, tt) (token ∷ []))) (made blank.the_type.name [] unit 𝓛) $ fjoin ! $
    nothing ! $ move ! (1 ∷ 0 ∷ []) $ fjoin ! $ feq_i ! (List Val) (v ∷ []) (v ∷ []) refl $ fjoin ! $
    fpack ! (Valss (blank.the_row ∷ [])) (within (record { name = inside.struct.name; args = []; types = []; fields = blank.the_row ∷ [] }) (b, tt) (v ∷ [])) (token ∷ [], tt) $
    nothing ! $ move ! (1 ∷ 0 ∷ []) $ fjoin ! $
    fpack ! ((u : inside.the_row.Denot) × ((opening.the_view u ≡ b) × opening.the_invariant u)) (λ u. fsep (inside.the_row.own_val u.0 (v ∷ [])) ftrue) (record { blank = b }, (refl, positive)) $
    returns ! (look_at ! 0 refl) $ free_all ! refl $ keep ! (0 ∷ []) $
    suffices ! _ (ends_at 𝓛 f.ended tt c y v b tt tt) $ nothing ! $ join ! $ nothing ! $ join ! $ frame ! $ tells_last ! refl)))
