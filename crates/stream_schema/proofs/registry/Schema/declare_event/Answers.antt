use Rattle.std.proofs.Common.{sym, ◌∙◌, ap, subst, ap₂, bytes_eq, ◌++◌, ◌∷◌, []}
use Rattle.std.specs.List.{list_any}
use Rattle.stream_schema.specs.Types.{DeclaredType}
use Rattle.stream_schema.specs.Names.{is_taken}
use Rattle.stream_schema.specs.Indexes.{IsIndexed}
use Rattle.stream_schema.proofs.WellDeclared.{free_type, type_pushed}
use Rattle.stream_schema.proofs.registry.Schema.declare_event.Goals as goal

pub push-requires : goal.push-requires
push-requires c = record {
  new = free_type _ _ _ c.self.invariant c.as_bytes.result.now
      (ap₂ (λ s name. is_taken s name) c.self.view_is c.as_bytes.ensures.value ∙ sym c.is_taken.ensures ∙ c.if-is_taken.false);
}

pub invariant_of-self-2 : goal.invariant_of-self-2
invariant_of-self-2 c =
    let value = rw c.in-Some.is at c.in_ok-declaration.ensures.value in
    let once = rw c.in-Some.is at c.in_ok-declaration.ensures.distinct in
    type_pushed _ _ _ c.self.invariant c.in-Some.declaration c.as_bytes.result.now _ _ (ap (λ (t : DeclaredType). t.name) value ∙ sym c.as_bytes.ensures.value) (free_type _ _ _ c.self.invariant c.as_bytes.result.now (ap₂ (λ s name. is_taken s name) c.self.view_is c.as_bytes.ensures.value ∙ sym c.is_taken.ensures ∙ c.if-is_taken.false)) once
    (c.in_ok-push-2.ensures.items ∙ ap (λ xs. xs ++ c.in-Some.declaration ∷ []) c.in_ok-reserve.ensures.items) c.in_ok-push.ensures.added
