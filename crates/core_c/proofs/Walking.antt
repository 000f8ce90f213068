-- What the walks over a handle name.
pub use Rattle.std.proofs.Common.{◌≡◌, List, [], ◌∷◌, ◌++◌, Bool, true, false, refl, sym, ◌∙◌, subst}
pub use base.Fraction.{full_share}
pub use base.Logic.{SProp, ent, id⊢}
pub use base.Fml.{ftrue, flft}
pub use mir.Syntax.{named}
pub use mir.Val.{Val, vunit, vbool, vptr}
pub use contract.Monad.{fact}
pub use contract.Running.{tables}
pub use prog.Wp.{WpFn}
pub use types.Kit.{‵, raw, ◌⊛◌, ◌$◌, ◌∵◌, !, qed, by, move, keep, drop, split, join, fsplit, fsplit3, fjoin, feq_i, rewrite, suffices, frame, group}
pub use types.Run.{enter, of_opd, load, unit_lit, true_lit, false_lit, stop, fld, no_more, and_then, assigns, returns}
pub use types.ByLocal.{alloc_all, pass_all, free_all, look_at, get, get_in, through, sets}
pub use types.Part.{agg, whole, sub, look_in, store_in}
pub use denote.Exit.{yes}
pub use denote.Laws.{shows}
pub use denote.Memory.{cell_at}
pub use denote.RattleType.{RattleType, owns}
pub use denote.Ref.{MutRef, mut_vals, mut_Tells}
pub use denote.Signature.{plain, types_at}
pub use denote.Steps.{nothing, opens, closes, heard, peeks}
pub use denote.Triple.Walked.{Stays, walk_of, says, stay_dropped, Goes-dropped, stay_ref, Goes-ref, ends_at}
