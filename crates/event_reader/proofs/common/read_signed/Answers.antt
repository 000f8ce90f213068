use Rattle.std.proofs.Common.{ℕ, ◌+◌, ◌-◌, List, length, sym, subst, ap, ◌∙◌, w64, rules}
use mir.Val.{SFits}
use Rattle.std.proofs.lemmas.Int.{to_z-of_z}
use Rattle.stream_schema.specs.declared.Kind.TheVariants as kind
use Rattle.event_reader.specs.Values.{signed}
use Rattle.event_reader.specs.CommonLines.{IsFieldUpTo}
use Rattle.event_reader.proofs.CommonNumbers.{signed_field}
use Rattle.event_reader.proofs.common.read_signed.Goals as goal

pub returns-in-Some-signed : goal.returns-in-Some-signed
returns-in-Some-signed c =
    let text : List ℕ = c.args.text.now in
    let fits : SFits w64 c.in-Some-signed.number = search rules in
    let put = rw (to_z-of_z w64 c.in-Some-signed.number fits) at c.put_number.ensures in
    subst (λ v. IsFieldUpTo kind.Int text v (length text - length c.without_sign-digits.result.now + c.in-Some.end)) (sym put)
    (rw c.without_sign-digits.ensures
    (signed_field text c.in-Some.size c.in-Some.end c.in-Some-signed.number (rw c.without_sign-digits.ensures at c.in-Some.ensures)
    (sym (c.in-Some-signed.ensures ∙ ap (λ m. signed m c.in-Some.size) c.has_minus.ensures))))
