use Rattle.std.proofs.Common.{◌≡◌, ◌∙◌, sym, ap, subst, Some, List, length, length-append, get_or, ◌<◌, ◌∷◌, [], arith}
use Rattle.std.proofs.lemmas.Option.{slice_get-get_or}
use Rattle.cea_determinise.specs.declared.cea.StateSets.{StateSets}
use Rattle.cea_determinise.specs.Cea.{HasLeavesBelow}
use Rattle.cea_determinise.proofs.Growth.{meets_tells}
use Rattle.cea_determinise.proofs.Accepting.{tells_more}
use Rattle.cea_determinise.proofs.lazy_dfa.tell_accepting.Goals as goal

pub meets-requires : goal.meets-requires
meets-requires c =
    let states = c.args.states.now.keys in
    let k = c.loop-k.k in
    let p = c.index-as_slice-k.result in
    let within : k < length states = omega (arith, c.loop-k-test.true, c.len-k-end.ensures.len) in
    let is : p ≡ get_or states k p = c.index-as_slice-k.is ∙ ap (λ (xs : List StateSets). get_or xs k p) c.as_slice.ensures.keys in
    let below = subst (HasLeavesBelow c.args.cea.now.size) (sym is) (c.requires.states.sets k p within) in
    below.fresh.room ∙ sym c.requires.states.well_formed.last.room

pub loop-k-preserved : goal.loop-k-preserved
loop-k-preserved c =
    let cea = c.args.cea.now in
    let states = c.args.states.now.keys in
    let k = c.loop-k.k in
    let p = c.index-as_slice-k.result in
    let within : k < length states = omega (arith, c.loop-k-test.true, c.len-k-end.ensures.len) in
    let is : p ≡ get_or states k p = c.index-as_slice-k.is ∙ ap (λ (xs : List StateSets). get_or xs k p) c.as_slice.ensures.keys in
    let below = subst (HasLeavesBelow cea.size) (sym is) (c.requires.states.sets k p within) in
    let told = c.loop-k.accepting.items in
    let b = c.meets.result in
    let count = c.loop-k.invariant.count in
    let tells = meets_tells cea p.fresh b below.fresh c.meets.ensures.some c.meets.ensures.none in
    rw c.in_ok-push.ensures.items (record {
      count = omega (arith, length-append told (b ∷ []), count);
      told = tells_more cea states told k p b c.loop-k.invariant.told count (slice_get-get_or states k p within ∙ ap Some (sym is)) tells;
    })
