use Rattle.std.proofs.Common.{ap, sym, subst, ◌∙◌, w64}
use Rattle.std.proofs.lemmas.Int.{to_z_pos}
use Rattle.stream_schema.specs.declared.Kind.TheVariants as kind
use Rattle.stream_schema.specs.declared.Value.TheVariants as value
use Rattle.event_reader.specs.CommonLines.{IsFieldUpTo}
use Rattle.event_reader.proofs.CommonNumbers.{plain_field}
use Rattle.event_reader.proofs.common.read_number.Goals as goal

pub returns : goal.returns
returns c =
    subst (λ v. IsFieldUpTo kind.Int c.args.text.now v c.in-Some.end) (sym (c.put_number.ensures ∙ ap (λ n. value.Int n) (to_z_pos w64 c.in-Some.size c.in-Some.ensures.small)))
    (plain_field c.args.text.now c.in-Some.size c.in-Some.end c.in-Some.ensures)
