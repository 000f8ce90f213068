use Rattle.std.proofs.Common.{◌≡◌, arith, length, vec_len}
use Rattle.tecs_enumerate.proofs.Entries.{done_iff}
use Rattle.tecs_enumerate.proofs.Cursor.is_done.Goals as goal

pub returns : goal.returns
returns c =
    let same : vec_len c.self.inside.stack ≡ length c.self.inside.stack.items = omega arith in
    rw (← c.self.view_is) (λ nodes fits. done_iff c.self.inside.low nodes _ c.self.inside.path.items c.self.inside.stack.items c.is_empty.result _ same c.is_empty.ensures fits)
