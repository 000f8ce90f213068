-- The text of a line that is kept gives the event that the line gave.
use Rattle.std.proofs.Common.{◌≡◌, ℕ, ◌-◌, ◌==◌, Bool, true, false, cond, List, [], ◌∷◌, length, take, refl, sym, ap, ◌∙◌, arith}
use Rattle.std.specs.Prelude.{◌||◌, slice_index, Option, Some, None, Result, Ok, Err}
use Rattle.std.specs.List.{list_any}
use Rattle.std.specs.Str.Lines.{strip_carriage_return}
use Rattle.std.proofs.lemmas.List.Folds.{list_any_at}
use Rattle.cer_base.specs.declared.bytes.TheConstants.{CARRIAGE_RETURN}
use Rattle.stream_schema.specs.Types.{Declared}
use Rattle.stream_schema.specs.declared.Event.{Event}
use Rattle.event_reader.specs.declared.EventFault.{EventFault}
use Rattle.event_reader.specs.declared.EventFault.TheVariants.{BadLine}
use Rattle.event_reader.specs.Events.{event_of_text, event_of_line}

-- a text that holds no carriage return ends in none
no_return : (text : List ℕ) → list_any (λ b. b == CARRIAGE_RETURN) text ≡ false → strip_carriage_return text ≡ text
no_return [] none = refl
no_return (x ∷ xs) none = by_test (slice_index (x ∷ xs) (length (x ∷ xs) - 1) == 13) refl
  where
    by_test : (t : Bool) → (slice_index (x ∷ xs) (length (x ∷ xs) - 1) == 13) ≡ t → cond t (take (length (x ∷ xs) - 1) (x ∷ xs)) (x ∷ xs) ≡ x ∷ xs
    by_test false e = refl
    by_test true e =
        let some = list_any_at (λ b. b == CARRIAGE_RETURN) (x ∷ xs) (length (x ∷ xs) - 1) 0 (omega arith) e in
        absurd (let both = sym some ∙ none in cc)

-- a text that gives an event holds none
gives_none : (schema : Declared) (text : List ℕ) (event : Event) → event_of_text schema text ≡ Ok (Some event) → list_any (λ b. b == CARRIAGE_RETURN) text ≡ false
gives_none schema text event e = by_length (length text == 0) _ _ e
  where
    by_return : (c m : Bool) (given : Result (Option Event) EventFault) → cond (c || m) (Err BadLine) given ≡ Ok (Some event) → c ≡ false
    by_return false m given f = refl
    by_return true m given f = absurd cc

    by_length : (t m : Bool) (given : Result (Option Event) EventFault) → cond t (Ok None) (cond (list_any (λ b. b == CARRIAGE_RETURN) text || m) (Err BadLine) given) ≡ Ok (Some event) → list_any (λ b. b == CARRIAGE_RETURN) text ≡ false
    by_length true m given f = absurd cc
    by_length false m given f = by_return (list_any (λ b. b == CARRIAGE_RETURN) text) m given f

-- The text that is kept of a line gives the event that the line gave.
pub gives_again : (schema : Declared) (text : List ℕ) (event : Event) → event_of_line schema text ≡ Ok (Some event) → event_of_line schema (strip_carriage_return text) ≡ Ok (Some event)
gives_again schema text event e = ap (event_of_text schema) (no_return (strip_carriage_return text) (gives_none schema (strip_carriage_return text) event e)) ∙ e
