use Rattle.std.proofs.Common.{◌≡◌, ◌<◌, length, map, take, get_or, arith, sym}
use Rattle.std.proofs.lemmas.List.{length-map, map-set, get_or-map, take_all}
use Rattle.arena_compact.specs.Roots.{CanMove}
use Rattle.arena_compact.proofs.Readings.{all_read, places_more, places_set, key_here, keys_more}
use Rattle.arena_compact.proofs.keys.move_keys.Goals as goal

pub move_key-requires : goal.move_key-requires
move_key-requires g c =
    let f = g.K.HasLists.rows in let key = get_or c.loop-k.keys c.loop-k.k c.index-keys-k.result in
    let n = length-map c.args.keys.now f in let long = c.loop-k.auto.keys in
    let at = sym (get_or-map f c.loop-k.keys c.loop-k.k c.index-keys-k.result (f key) (omega arith)) in
    let here = key_here _ _ _ _ _ _ (f key) c.loop-k.invariant.turned (omega arith) at in
    record { can = (all_read (CanMove c.args.low (g.S.NodeStore.nodes c.args.store.now) c.args.table.now) (map f c.args.keys.now) c.loop-k.k (f key) (omega arith) here c.requires.can) }

pub loop-k-preserved : goal.loop-k-preserved
loop-k-preserved g c =
    let f = g.K.HasLists.rows in let key = get_or c.loop-k.keys c.loop-k.k c.index-keys-k.result in
    let n = length-map c.args.keys.now f in let long = c.loop-k.auto.keys in
    let at = sym (get_or-map f c.loop-k.keys c.loop-k.k c.index-keys-k.result (f key) (omega arith)) in
    let lt : c.loop-k.k < length (map f c.args.keys.now) = omega arith in
    let here = key_here _ _ _ _ _ _ (f key) c.loop-k.invariant.turned lt at in
    let more = places_more (map f c.args.keys.now) c.loop-k.k (f key) lt here in
    let paid = c.loop-k.invariant.paid in let step = c.move_key.ensures.steps in
    let each = c.move_key.ensures.counted in let counted = c.loop-k.invariant.counted in
    let m = length-map c.loop-k.keys f in
    let set_one = places_set (map f c.loop-k.keys) c.loop-k.k (f c.move_key.new.key) (omega arith) in
    rw (map-set f c.loop-k.keys c.loop-k.k c.move_key.new.key) (record { turned = keys_more _ _ _ _ _ _ (f key) _ c.loop-k.invariant.turned lt at c.move_key.ensures.moved; paid = omega arith; counted = omega arith })

pub returns-clause-counted : goal.returns-clause-counted
returns-clause-counted g c =
    let f = g.K.HasLists.rows in let m = length-map c.loop-k.keys f in let long = c.loop-k.auto.keys in
    let counted = c.loop-k.invariant.counted in
    let all : take c.loop-k.k (map f c.loop-k.keys) ≡ map f c.loop-k.keys = take_all c.loop-k.k (map f c.loop-k.keys) (omega arith) in
    rw all at counted
