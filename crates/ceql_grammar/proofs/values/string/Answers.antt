use Rattle.std.proofs.Common.{◌≡◌, sym, ap, subst, ◌∙◌, false, true}
use Rattle.std.specs.Str.{IsUtf8, is_utf8}
use Rattle.std.proofs.lemmas.Str.{IsUtf8-from_is_utf8, IsUtf8-string_bytes, is_utf8-from_IsUtf8}
use Rattle.std.proofs.lemmas.Bool.{false_from_ne_true}
use Rattle.ceql_grammar.specs.Values.{unquoted}
use Rattle.ceql_grammar.proofs.values.string.Goals as goal

pub returns-in-Ok : goal.returns-in-Ok
returns-in-Ok c = (
  c.of.ensures ∙ ap (λ v. v.items) c.in-Ok.ensures.ok ∙ c.in_ok-bytes.ensures,
  is_utf8-from_IsUtf8 (unquoted c.args.text.now) (subst IsUtf8 (ap (λ v. v.items) c.in-Ok.ensures.ok ∙ c.in_ok-bytes.ensures) (IsUtf8-string_bytes c.in-Ok.string)),
)

pub returns : goal.returns
returns c = false_from_ne_true (is_utf8 (unquoted c.args.text.now)) (λ e.
    let k : false ≡ true = c.in-Err.ensures.succeeds (subst IsUtf8 (sym c.in_ok-bytes.ensures) (IsUtf8-from_is_utf8 (unquoted c.args.text.now) e)) in cc)
