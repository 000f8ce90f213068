use Rattle.std.proofs.Common.{◌≡◌, ap, ap₂, ◌∙◌, ◌++◌, map}
use Rattle.std.specs.Prelude.{string_bytes}
use Rattle.ceql_parser.proofs.NameSetLemmas.{same_self, same_as, same_then, same_changed, on_ok_same}
use Rattle.ceql_parser.proofs.name_sets.NameSet.join.Goals.{then-len, else-len}
use Rattle.ceql_parser.proofs.name_sets.NameSet.join.Goals as goal

pub returns : goal.returns
returns c =
    let now = c.args.self.now in
    let others = c.args.others in
    let made = c.if-len.self ++ map string_bytes c.as_slice.result.now in
    let fewer : map string_bytes c.as_slice.result.now ≡ c.if-len.fewer = ap (map string_bytes) c.as_slice.ensures.keys ∙ c.fewer-2.view_is in
    elim c.if-len.branch [
      | then-len w ↦ on_ok_same c.add_all.result c.add_all.new.self made (now ++ others)
          (same_then made (others ++ now) (now ++ others)
          (same_as made made (others ++ now) (same_self made) (ap₂ (λ a b. a ++ b) (w.self-is ∙ w.swap.ensures.x_after) (fewer ∙ w.fewer-is ∙ w.swap.ensures.y_after)))
          (same_changed others now))
          c.add_all.ensures
      | else-len w ↦ on_ok_same c.add_all.result c.add_all.new.self made (now ++ others)
          (same_as made made (now ++ others) (same_self made) (ap₂ (λ a b. a ++ b) w.self-is (fewer ∙ w.fewer-is)))
          c.add_all.ensures
    ]
