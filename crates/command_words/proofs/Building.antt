-- What the proofs of the builders cite.
use Rattle.std.proofs.Common.{◌≡◌, ◌&&◌, ◌∙◌, Bool, Ok, Result, ap₂, refl, subst, sym, true, false, true≢false}
use Rattle.std.specs.Prelude.{IfOk, not}
use Rattle.std.proofs.lemmas.Result.{IfOk-weaker}
use Rattle.clap.specs.Words.{AddsArg, AddsSubcommand, App, Rule, app_of, is_simple, is_simple_and_free, rule_of, with_rule, with_subcommand}
use Rattle.clap.specs.declared.builder.arg.Arg.{Arg}
use Rattle.clap.specs.declared.builder.command.Command.{Command}
use Rattle.command_words.specs.Program.{program}

pub first_holds : (a b : Bool) → (a && b) ≡ true → a ≡ true
first_holds true b e = refl
first_holds false b e = absurd (true≢false (sym e))

pub second_holds : (a b : Bool) → (a && b) ≡ true → b ≡ true
second_holds true b e = e
second_holds false b e = absurd (true≢false (sym e))

pub not_true : (b : Bool) → not b ≡ true → b ≡ false
not_true true e = absurd (true≢false (sym e))
not_true false e = refl

-- the command is one of which clap's definition tells the matches, and the faults too
pub program_is_simple : is_simple program ≡ true
unfolding program
program_is_simple = refl

pub program_is_free : is_simple_and_free program ≡ true
unfolding program
program_is_free = refl

-- one more argument, where there was memory for the command
pub argued : {E : Type 0} (command result : Result Command E) (c : Command) (a : Arg) → command ≡ Ok c → a.global ≡ false
    → IfOk result (λ made. AddsArg c a made)
    → (app : App) (rule : Rule) → IfOk command (λ c. app_of c ≡ app) → rule_of a ≡ rule → IfOk result (λ c. app_of c ≡ with_rule app rule)
argued command result c a is_command local adds app rule is_app is_rule =
    let app_is : app_of c ≡ app = subst (λ r. IfOk r (λ c. app_of c ≡ app)) is_command is_app in
    IfOk-weaker result _ _ (λ made h. h.shape local ∙ ap₂ with_rule app_is is_rule) adds

-- a command below another one, where there was memory for both
pub added : {E : Type 0} (upper lower result : Result Command E) (p c : Command) → upper ≡ Ok p → lower ≡ Ok c
    → IfOk lower (λ c. (app_of c).top.is_plain ≡ true) → IfOk result (λ made. AddsSubcommand p c made)
    → (above below : App) → IfOk upper (λ c. app_of c ≡ above) → IfOk lower (λ c. app_of c ≡ below)
    → IfOk result (λ c. app_of c ≡ with_subcommand above below.top)
added upper lower result p c is_upper is_lower plain adds above below is_above is_below =
    let plain_c : (app_of c).top.is_plain ≡ true = subst (λ r. IfOk r (λ c. (app_of c).top.is_plain ≡ true)) is_lower plain in
    let above_is : app_of p ≡ above = subst (λ r. IfOk r (λ c. app_of c ≡ above)) is_upper is_above in
    let below_is : app_of c ≡ below = subst (λ r. IfOk r (λ c. app_of c ≡ below)) is_lower is_below in
    IfOk-weaker result _ _ (λ made h. h.shape (not_true _ (first_holds _ _ (second_holds _ _ (second_holds _ _ plain_c)))) ∙ ap₂ (λ (x y : App). with_subcommand x y.top) above_is below_is) adds
