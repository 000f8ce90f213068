use Rattle.std.proofs.Common.{◌∙◌, ◌<◌, Bool, false, List, ap, sym, subst, length, slice_index_or}
use Rattle.std.specs.Prelude.{Vec}
use Rattle.std.specs.declared.alloc.Global.{Global}
use Rattle.all_or_none.specs.Phases.{Phase}
use Rattle.query_state.specs.QueryStates.{reads_type}
use Rattle.query_state.proofs.state.QueryState.reads.Goals as goal

pub returns : goal.returns
returns c =
    let less = subst (λ (p : Phase). c.args.ty < length p.schema.types) (sym c.self.view_is) c.requires in
    c.is_read.ensures ∙ (ap (λ (t : List Bool). slice_index_or t c.args.ty false) (c.as_slice.ensures.value ∙ ap (λ (v : Vec Bool Global). v.items) c.deref.ensures) ∙ (c.self.invariant.0.types c.args.ty less
    ∙ ap (λ (p : Phase). reads_type p.schema p.query c.args.ty) c.self.view_is))
