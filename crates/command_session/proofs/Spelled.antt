-- Commands as they are read and as they are spelled.
use Rattle.std.proofs.Common.{◌≡◌, ℕ, ◌∷◌, ◌++◌, Bool, true, false, cond, List, refl, sym, ap, subst, ◌∙◌, Option, Some, None, Result, Ok, Err, rules}
use Rattle.std.specs.Prelude.{bytes_eq, codes, option_and_then, option_map}
use Rattle.stream_schema.specs.Types.{Declared}
use Rattle.stream_schema.specs.declared.Event.{Event}
use Rattle.event_reader.specs.declared.EventFault.{EventFault}
use Rattle.event_reader.specs.Events.{event_of_line}
use Rattle.command_session.specs.declared.command.ScriptCommand.{ScriptCommand}
use Rattle.command_session.specs.declared.command.ScriptCommand.TheVariants as command
use Rattle.command_session.specs.declared.command.CommandFault.{CommandFault}
use Rattle.command_session.specs.declared.command.CommandFault.TheVariants as fault
use Rattle.event_reader.specs.LineWords.{cut}
use Rattle.command_session.specs.Numbers.{command_number, one_of}
use Rattle.command_session.specs.Commands.{event_command, open_command, pull_command, drop_command, other_command, or_unknown, command_in, command_of}
use Rattle.command_session.specs.Spelling.{Spells}
use Rattle.event_reader.proofs.FirstBlank.{parts, cut_is, parts_join, parts_of, mapped_some}
use Rattle.command_session.proofs.Digits.{and_then_some, number_writes, writes_number, one_writes, writes_one, writes_unblank}

one_ok : {F : Type 0} (x y : ScriptCommand) → (let r : Result ScriptCommand F = Ok x in r) ≡ Ok y → x ≡ y
one_ok x y e = cc

same_bytes : (xs ys : List ℕ) → bytes_eq xs ys ≡ true → xs ≡ ys
same_bytes xs ys e = search (rules, e)

-- what a cut text is
cut_joins : (text a b : List ℕ) → cut text ≡ Some (a, b) → text ≡ a ++ 32 ∷ b
cut_joins text a b e = parts_join text a b (sym (cut_is text) ∙ e)

known_ok : (o : Option ScriptCommand) (command : ScriptCommand) → or_unknown o ≡ Ok command → o ≡ Some command
known_ok None c e = absurd (search (rules, e))
known_ok (Some d) c e = ap (λ x. Some x) (one_ok d c e)

event_spelled : (schema : Declared) (line text : List ℕ) (r : Result (Option Event) EventFault) (c : ScriptCommand) → text ≡ codes "event " ++ line → event_of_line schema line ≡ r → event_command r ≡ Ok c → Spells schema text c
event_spelled schema line text (Ok (Some event)) c is read e = subst (Spells schema text) (one_ok (command.Event event) c e) (line, is, read)
event_spelled schema line text (Ok None) c is read e = absurd (search (rules, e))
event_spelled schema line text (Err refusal) c is read e = absurd (search (rules, e))

open_spelled : (schema : Declared) (rest text : List ℕ) (c : ScriptCommand) → text ≡ codes "open " ++ rest → option_and_then open_command (cut rest) ≡ Some c → Spells schema text c
open_spelled schema rest text c is e =
    let words = and_then_some open_command (cut rest) c e in
    let query = and_then_some (λ q. option_map (λ n. command.OpenAt q n) (one_of 64 words.0.1)) (command_number words.0.0) c words.2 in
    let cursor = mapped_some (λ n. command.OpenAt query.0 n) (one_of 64 words.0.1) c query.2 in
    subst (Spells schema text) cursor.2 (words.0.0, words.0.1, is ∙ ap (λ l. codes "open " ++ l) (cut_joins rest words.0.0 words.0.1 words.1), number_writes words.0.0 query.0 query.1, one_writes 64 words.0.1 cursor.0 cursor.1)

pull_spelled : (schema : Declared) (rest text : List ℕ) (c : ScriptCommand) → text ≡ codes "pull " ++ rest → option_and_then pull_command (cut rest) ≡ Some c → Spells schema text c
pull_spelled schema rest text c is e =
    let words = and_then_some pull_command (cut rest) c e in
    let cursor = and_then_some (λ n. option_map (λ m. command.Pull n m) (one_of 4294967295 words.0.1)) (one_of 64 words.0.0) c words.2 in
    let count = mapped_some (λ m. command.Pull cursor.0 m) (one_of 4294967295 words.0.1) c cursor.2 in
    subst (Spells schema text) count.2 (words.0.0, words.0.1, is ∙ ap (λ l. codes "pull " ++ l) (cut_joins rest words.0.0 words.0.1 words.1), one_writes 64 words.0.0 cursor.0 cursor.1, one_writes 4294967295 words.0.1 count.0 count.1)

drop_spelled : (schema : Declared) (rest text : List ℕ) (c : ScriptCommand) → text ≡ codes "drop " ++ rest → drop_command rest ≡ Some c → Spells schema text c
drop_spelled schema rest text c is e =
    let cursor = mapped_some (λ n. command.Drop n) (one_of 64 rest) c e in
    subst (Spells schema text) cursor.2 (rest, is, one_writes 64 rest cursor.0 cursor.1)

-- a text that begins with the word and a blank
begins : (text word rest name : List ℕ) → text ≡ word ++ 32 ∷ rest → bytes_eq word name ≡ true → text ≡ name ++ 32 ∷ rest
begins text word rest name is e = is ∙ ap (λ w. w ++ 32 ∷ rest) (same_bytes word name e)

other_spelled : (schema : Declared) (text word rest : List ℕ) (c : ScriptCommand) → text ≡ word ++ 32 ∷ rest → other_command word rest ≡ Some c → Spells schema text c
other_spelled schema text word rest c is e = by_tests (bytes_eq word (codes "open")) (bytes_eq word (codes "pull")) (bytes_eq word (codes "drop")) refl refl refl e
  where
    by_tests : (o p d : Bool) → bytes_eq word (codes "open") ≡ o → bytes_eq word (codes "pull") ≡ p → bytes_eq word (codes "drop") ≡ d
        → cond o (option_and_then open_command (cut rest)) (cond p (option_and_then pull_command (cut rest)) (cond d (drop_command rest) None)) ≡ Some c → Spells schema text c
    by_tests true p d eo ep ed f = open_spelled schema rest text c (begins text word rest (codes "open") is eo) f
    by_tests false true d eo ep ed f = pull_spelled schema rest text c (begins text word rest (codes "pull") is ep) f
    by_tests false false true eo ep ed f = drop_spelled schema rest text c (begins text word rest (codes "drop") is ed) f
    by_tests false false false eo ep ed f = absurd (search (rules, f))

compact_spelled : (schema : Declared) (text : List ℕ) (t : Bool) (c : ScriptCommand) → bytes_eq text (codes "compact") ≡ t → cond t (Ok command.Compact) (Err fault.UnknownCommand) ≡ Ok c → Spells schema text c
compact_spelled schema text true c same e = subst (Spells schema text) (one_ok command.Compact c e) (same_bytes text (codes "compact") same)
compact_spelled schema text false c same e = absurd (search (rules, e))

words_spelled : (schema : Declared) (text word rest : List ℕ) (t : Bool) (c : ScriptCommand) → text ≡ word ++ 32 ∷ rest → bytes_eq word (codes "event") ≡ t
    → cond t (event_command (event_of_line schema rest)) (or_unknown (other_command word rest)) ≡ Ok c → Spells schema text c
words_spelled schema text word rest true c is same e = event_spelled schema rest text (event_of_line schema rest) c (begins text word rest (codes "event") is same) refl e
words_spelled schema text word rest false c is same e = other_spelled schema text word rest c is (known_ok (other_command word rest) c e)

-- a text that is read as a command spells it
pub spelled : (schema : Declared) (text : List ℕ) (c : ScriptCommand) → command_of schema text ≡ Ok c → Spells schema text c
spelled schema text c e = by_cut (cut text) refl e
  where
    by_cut : (words : Option (List ℕ × List ℕ)) → cut text ≡ words → command_in schema text words ≡ Ok c → Spells schema text c
    by_cut None is f = compact_spelled schema text (bytes_eq text (codes "compact")) c refl f
    by_cut (Some words) is f = words_spelled schema text words.0 words.1 (bytes_eq words.0 (codes "event")) c (cut_joins text words.0 words.1 is) refl f

-- the words of a text that begins so
cut_off : (schema : Declared) (word rest text : List ℕ) → text ≡ word ++ 32 ∷ rest → parts (word ++ 32 ∷ rest) ≡ Some (word, rest) → command_of schema text ≡ command_in schema text (Some (word, rest))
cut_off schema word rest text is e = ap (command_in schema text) (cut_is text ∙ (ap parts is ∙ e))

-- a text that spells a command is read so
pub read_so : (schema : Declared) (text : List ℕ) (c : ScriptCommand) → Spells schema text c → command_of schema text ≡ Ok c
read_so schema text (command.Event event) (line, is, read) = cut_off schema (codes "event") line text is refl ∙ ap event_command read
read_so schema text (command.OpenAt query cursor) (q, c, is, writes, one) = cut_off schema (codes "open") (q ++ 32 ∷ c) text is refl
    ∙ ap or_unknown (ap (option_and_then open_command) (cut_is (q ++ 32 ∷ c) ∙ parts_of q c (writes_unblank q query writes))
    ∙ (ap (option_and_then (λ n. option_map (λ m. command.OpenAt n m) (one_of 64 c))) (writes_number q query writes) ∙ ap (option_map (λ m. command.OpenAt query m)) (writes_one 64 c cursor one)))
read_so schema text (command.Pull cursor n) (c, m, is, one, count) = cut_off schema (codes "pull") (c ++ 32 ∷ m) text is refl
    ∙ ap or_unknown (ap (option_and_then pull_command) (cut_is (c ++ 32 ∷ m) ∙ parts_of c m (writes_unblank c cursor one.0))
    ∙ (ap (option_and_then (λ k. option_map (λ l. command.Pull k l) (one_of 4294967295 m))) (writes_one 64 c cursor one) ∙ ap (option_map (λ l. command.Pull cursor l)) (writes_one 4294967295 m n count)))
read_so schema text (command.Drop cursor) (c, is, one) = cut_off schema (codes "drop") c text is refl ∙ ap or_unknown (ap (option_map (λ k. command.Drop k)) (writes_one 64 c cursor one))
read_so schema text command.Compact is = ap (command_of schema) is

one_refusal : (x y : EventFault) → fault.Event x ≡ fault.Event y → x ≡ y
one_refusal x y e = cc

one_err : (x y : CommandFault) → (let r : Result ScriptCommand CommandFault = Err x in r) ≡ Err y → x ≡ y
one_err x y e = cc

-- a refusal of an event comes from the line after the word alone
event_refused : (schema : Declared) (line text : List ℕ) (r : Result (Option Event) EventFault) (refusal : EventFault) → text ≡ codes "event " ++ line → event_of_line schema line ≡ r → event_command r ≡ Err (fault.Event refusal)
    → (line : List ℕ) × (text ≡ codes "event " ++ line) × (event_of_line schema line ≡ Err refusal)
event_refused schema line text (Ok (Some event)) refusal is read e = absurd (search (rules, e))
event_refused schema line text (Ok None) refusal is read e = let clash = one_err fault.UnknownCommand (fault.Event refusal) e in absurd (search (rules, clash))
event_refused schema line text (Err found) refusal is read e = (line, is, read ∙ ap (λ x. Err x) (one_refusal found refusal (one_err (fault.Event found) (fault.Event refusal) e)))

known_err : (o : Option ScriptCommand) (refusal : EventFault) → or_unknown o ≡ Err (fault.Event refusal) → ⊥
known_err (Some c) refusal e = absurd (search (rules, e))
known_err None refusal e = let clash = one_err fault.UnknownCommand (fault.Event refusal) e in absurd (search (rules, clash))

pub refused : (schema : Declared) (text : List ℕ) (refusal : EventFault) → command_of schema text ≡ Err (fault.Event refusal) → (line : List ℕ) × (text ≡ codes "event " ++ line) × (event_of_line schema line ≡ Err refusal)
refused schema text refusal e = by_cut (cut text) refl e
  where
    compact : (t : Bool) → cond t (Ok command.Compact) (Err fault.UnknownCommand) ≡ Err (fault.Event refusal) → ⊥
    compact true f = absurd (search (rules, f))
    compact false f = let clash = one_err fault.UnknownCommand (fault.Event refusal) f in absurd (search (rules, clash))

    by_word : (word rest : List ℕ) (t : Bool) → bytes_eq word (codes "event") ≡ t → text ≡ word ++ 32 ∷ rest → cond t (event_command (event_of_line schema rest)) (or_unknown (other_command word rest)) ≡ Err (fault.Event refusal)
        → (line : List ℕ) × (text ≡ codes "event " ++ line) × (event_of_line schema line ≡ Err refusal)
    by_word word rest true same is f = event_refused schema rest text (event_of_line schema rest) refusal (begins text word rest (codes "event") is same) refl f
    by_word word rest false same is f = absurd (known_err (other_command word rest) refusal f)

    by_cut : (words : Option (List ℕ × List ℕ)) → cut text ≡ words → command_in schema text words ≡ Err (fault.Event refusal) → (line : List ℕ) × (text ≡ codes "event " ++ line) × (event_of_line schema line ≡ Err refusal)
    by_cut None is f = absurd (compact (bytes_eq text (codes "compact")) f)
    by_cut (Some words) is f = by_word words.0 words.1 (bytes_eq words.0 (codes "event")) refl (cut_joins text words.0 words.1 is) f

pub refuses_so : (schema : Declared) (text : List ℕ) (refusal : EventFault) → ((line : List ℕ) × (text ≡ codes "event " ++ line) × (event_of_line schema line ≡ Err refusal)) → command_of schema text ≡ Err (fault.Event refusal)
refuses_so schema text refusal (line, is, read) = cut_off schema (codes "event") line text is refl ∙ ap event_command read
