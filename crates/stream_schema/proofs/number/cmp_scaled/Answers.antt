use Rattle.std.proofs.Common.{◌*◌, ◌^◌, arith}
use Rattle.stream_schema.proofs.Numbers.{scaled_apart, nat_cmp_turned}
use Rattle.stream_schema.proofs.number.cmp_scaled.Goals as goal

pub returns-then-q-p : goal.returns-then-q-p
returns-then-q-p c =
    let e = c.from.ensures in
    let s = scaled_apart c.args.x c.args.y c.args.p c.args.q (omega arith) in
    cc c.cmp_scaled_to.ensures

pub returns-else-q-p : goal.returns-else-q-p
returns-else-q-p c =
    let s = scaled_apart c.args.y c.args.x c.args.q c.args.p (omega arith) in
    let t = nat_cmp_turned (c.args.x * 10 ^ c.args.p) (c.args.y * 10 ^ c.args.q) in
    let r = c.reverse.ensures in
    let k = c.cmp_scaled_to-else-q-p.ensures in
    let f = c.from-else-q-p.ensures in
    cc
