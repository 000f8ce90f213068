-- What a caller may use: words ask for one command at most, and for none only where clap refuses them or the order is of neither name.
use Rattle.std.proofs.Common.{◌≡◌, ◌∙◌, ◌⊎◌, ◌≤◌, ℕ, List, Option, Some, None, Bool, true, false, cond, ap, arith, codes, inl, inr, refl, sym}
use Rattle.std.specs.Prelude.{option_map, unwrap_or}
use Rattle.std.specs.Str.{bytes_eq}
use Rattle.answer_text.specs.declared.Order.{Order}
use Rattle.clap.specs.Words.{Row, Text, subcommand_of}
use Rattle.command_words.specs.CommandLine.{AskNothing, AsksFor, bytes_in, command_at, command_asked, clap_takes, explain_in, order_in, reorder_with, resume_with, run_with, sample_in, save_in, session_in}
use Rattle.command_words.specs.Program.{program}
use Rattle.command_words.specs.declared.Command.{Command}
use Rattle.command_words.specs.declared.Command.TheVariants.{Resume}
use Rattle.command_words.specs.declared.ResumeWords.{ResumeWords}
use Rattle.command_words.proofs.Taken.{taken_is_found}

pub one_command : (words : List (List ℕ)) (a b : Command) → AsksFor words a → AsksFor words b → a ≡ b
one_command words a b first second = ap (λ asked. unwrap_or asked a) (sym first ∙ second)

-- how many bytes are too many for a run that goes on from a checkpoint, or for none
abbrev words_most : Command → ℕ
words_most (Resume asked) = asked.most_bytes
words_most _ = 0

-- a run that goes on from a checkpoint takes at most so many bytes: no other command is one
resume_at : (run sample session late question kept restart : Bool) (rows : List Row) (order : Option Order) (asked : ResumeWords) → order ≡ order_in rows →
    cond run (option_map (run_with rows) order) (cond sample (Some (sample_in rows)) (cond session (Some (session_in rows)) (cond late (option_map (reorder_with rows) order)
    (cond question (Some (explain_in rows)) (cond kept (Some (save_in rows)) (cond restart (option_map (resume_with rows) order) None)))))) ≡ Some (Resume asked) →
    asked.most_bytes ≡ bytes_in rows
resume_at true sample session late question kept restart rows None asked is e = absurd cc
resume_at true sample session late question kept restart rows (Some order) asked is e = absurd cc
resume_at false true session late question kept restart rows order asked is e = absurd cc
resume_at false false true late question kept restart rows order asked is e = absurd cc
resume_at false false false true question kept restart rows None asked is e = absurd cc
resume_at false false false true question kept restart rows (Some order) asked is e = absurd cc
resume_at false false false false true kept restart rows order asked is e = absurd cc
resume_at false false false false false true restart rows order asked is e = absurd cc
resume_at false false false false false false true rows None asked is e = absurd cc
resume_at false false false false false false true rows (Some order) asked is e =
    let same : resume_with rows order ≡ Resume asked = cc in
    ap words_most (sym same)
resume_at false false false false false false false rows order asked is e = absurd cc

-- clap took the words of a command, but the order is neither `walk` nor `sorted`
abbrev pub HasNoOrderBehind : Text → List (List ℕ) → Type 0
HasNoOrderBehind name words = (rows : List Row) × (subcommand_of program words ≡ Some (name, rows)) × (order_in rows ≡ None)

-- the same of one of the commands that have an order
abbrev pub HasNoOrder : List (List ℕ) → Type 0
HasNoOrder words = HasNoOrderBehind (codes "run") words ⊎ (HasNoOrderBehind (codes "reorder") words ⊎ HasNoOrderBehind (codes "resume") words)

asked_is : (words : List (List ℕ)) → clap_takes words ≡ true → command_asked words ≡ command_at (subcommand_of program words)
asked_is words taken = rw taken refl

run_refused : (words : List (List ℕ)) (rows : List Row) (order : Option Order) → AskNothing words → clap_takes words ≡ true
    → subcommand_of program words ≡ Some (codes "run", rows) → order_in rows ≡ order → HasNoOrderBehind (codes "run") words
run_refused words rows None nothing taken is none = (rows, is, none)
run_refused words rows (Some order) nothing taken is some =
    absurd (nothing (run_with rows order) (asked_is words taken ∙ rw (is, some) refl))

reorder_refused : (words : List (List ℕ)) (rows : List Row) (order : Option Order) → AskNothing words → clap_takes words ≡ true
    → subcommand_of program words ≡ Some (codes "reorder", rows) → order_in rows ≡ order → HasNoOrderBehind (codes "reorder") words
reorder_refused words rows None nothing taken is none = (rows, is, none)
reorder_refused words rows (Some order) nothing taken is some =
    absurd (nothing (reorder_with rows order) (asked_is words taken ∙ rw (is, some) refl))

resume_refused : (words : List (List ℕ)) (rows : List Row) (order : Option Order) → AskNothing words → clap_takes words ≡ true
    → subcommand_of program words ≡ Some (codes "resume", rows) → order_in rows ≡ order → HasNoOrderBehind (codes "resume") words
resume_refused words rows None nothing taken is none = (rows, is, none)
resume_refused words rows (Some order) nothing taken is some =
    absurd (nothing (resume_with rows order) (asked_is words taken ∙ rw (is, some) refl))

pub nothing_is_refused : (words : List (List ℕ)) → AskNothing words → (clap_takes words ≡ false) ⊎ HasNoOrder words
nothing_is_refused words nothing = go (clap_takes words) refl
  where
    go : (taken : Bool) → clap_takes words ≡ taken → (clap_takes words ≡ false) ⊎ HasNoOrder words
    go false refused = inl refused
    go true taken = elim (taken_is_found words taken) [
      | inl run ↦ inr (inl (run_refused words run.0 (order_in run.0) nothing taken run.1 refl))
      | inr (inl sample) ↦ absurd (nothing (sample_in sample.0) (asked_is words taken ∙ rw sample.1 refl))
      | inr (inr (inl script)) ↦ absurd (nothing (session_in script.0) (asked_is words taken ∙ rw script.1 refl))
      | inr (inr (inr (inl late))) ↦ inr (inr (inl (reorder_refused words late.0 (order_in late.0) nothing taken late.1 refl)))
      | inr (inr (inr (inr (inl question)))) ↦ absurd (nothing (explain_in question.0) (asked_is words taken ∙ rw question.1 refl))
      | inr (inr (inr (inr (inr (inl kept))))) ↦ absurd (nothing (save_in kept.0) (asked_is words taken ∙ rw kept.1 refl))
      | inr (inr (inr (inr (inr (inr (inl restart)))))) ↦ inr (inr (inr (resume_refused words restart.0 (order_in restart.0) nothing taken restart.1 refl)))
      | inr (inr (inr (inr (inr (inr (inr none)))))) ↦ absurd none
    ]

resume_found : (found : Option (Text × List Row)) (asked : ResumeWords) → command_at found ≡ Some (Resume asked) → asked.most_bytes ≤ 4611686018427387904
resume_found None asked e = absurd cc
resume_found (Some p) asked e =
    let is = resume_at (bytes_eq p.0 (codes "run")) (bytes_eq p.0 (codes "sample")) (bytes_eq p.0 (codes "session")) (bytes_eq p.0 (codes "reorder")) (bytes_eq p.0 (codes "explain")) (bytes_eq p.0 (codes "save")) (bytes_eq p.0 (codes "resume"))
    p.1 (order_in p.1) asked refl e in
    omega (arith, is)

-- the bytes of a run that goes on from a checkpoint have a bound
pub resume_has_bound : (words : List (List ℕ)) (r : ResumeWords) → AsksFor words (Resume r) → r.most_bytes ≤ 4611686018427387904
resume_has_bound words r asked = go (clap_takes words) refl asked
  where
    go : (taken : Bool) → clap_takes words ≡ taken → cond taken (command_at (subcommand_of program words)) None ≡ Some (Resume r) → r.most_bytes ≤ 4611686018427387904
    go true is e = resume_found (subcommand_of program words) r e
    go false is e = absurd cc
