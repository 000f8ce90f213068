use Rattle.std.proofs.Common.{sym, ◌∙◌, ap, subst, ap₂, bytes_eq, ◌++◌, ◌∷◌, [], ◌<◌, List, length, All}
use Rattle.std.specs.List.{list_any}
use Rattle.stream_schema.specs.Types.{Declared, DeclaredType, DeclaredStream}
use Rattle.stream_schema.specs.Names.{is_taken}
use Rattle.stream_schema.proofs.WellDeclared.{free_stream, stream_pushed}
use Rattle.stream_schema.proofs.registry.Schema.declare_stream.Goals as goal

pub push-requires : goal.push-requires
push-requires c = record {
  new = free_stream _ _ _ c.self.invariant c.as_bytes.result.now
      (ap₂ (λ s name. is_taken s name) c.self.view_is c.as_bytes.ensures.value ∙ sym c.is_taken.ensures ∙ c.if-is_taken.false);
}

pub invariant_of-self-2 : goal.invariant_of-self-2
invariant_of-self-2 c =
    let s = c.in_ok-declaration.declaration in
    let numbers = ap (λ (u : DeclaredStream). u.types) c.in_ok-declaration.ensures ∙ c.in_ok-listed.ensures in
    let declared = subst (λ (ts : List DeclaredType). All (λ ty. ty < length ts) c.in-Some.numbers.keys) (ap (λ (d : Declared). d.types) (sym c.self.view_is)) (rw c.in-Some.is at c.in_ok-numbers.ensures.declared) in
    stream_pushed _ _ _ c.self.invariant s c.as_bytes.result.now _ _ (ap (λ (u : DeclaredStream). u.name) c.in_ok-declaration.ensures ∙ sym c.as_bytes.ensures.value)
    (subst (All (λ ty. ty < length c.self.inside.types.items)) (sym numbers) declared)
    (c.in_ok-push-2.ensures.items ∙ ap (λ xs. xs ++ s ∷ []) c.in_ok-reserve.ensures.items) c.in_ok-push.ensures.added
