-- Two names that begin with no dash, and no option: the run that they ask for.
use Rattle.std.proofs.Common.{◌≡◌, ◌∙◌, ◌==◌, ℕ, List, [], ◌∷◌, Some, None, Bool, cond, ap, ap₂, codes, refl, true, false}
use Rattle.std.specs.Str.{bytes_eq}
use Rattle.answer_text.specs.declared.Order.TheVariants.{Sorted}
use Rattle.clap.specs.Faults.{check_fault, defaults_fault, level_fault, settle_fault, step_fault, turn_fault, walk_fault}
use Rattle.clap.specs.Kinds.{or_else}
use Rattle.clap.specs.Lexer.{long_of, long_of_rest, short_of, short_of_rest, strip_byte}
use Rattle.std.specs.Prelude.{option_and_then}
use Rattle.clap.specs.Simple.{built_leaf, inherited}
use Rattle.clap.specs.Walk.{Held, Walk, arg_by_index, finished, idle, nothing_held, settled, to_positional, value, walk, walk_from, walked}
use Rattle.clap.specs.Words.{Kinds, Rule, Shape, Text, fault_of, subcommand_of}
use Rattle.command_words.specs.CommandLine.{AsksFor, command_at, has_no_kind}
use Rattle.command_words.specs.Program.{program, run}
use Rattle.command_words.specs.declared.Command.TheVariants.{Run}

no_dashes : (word : Text) → strip_byte 45 word ≡ None → bytes_eq word (45 ∷ 45 ∷ []) ≡ false
no_dashes [] plain = refl
no_dashes (x ∷ xs) plain = go (x == 45) refl plain
  where
    go : (b : Bool) → (x == 45) ≡ b → cond b (Some xs) None ≡ None → bytes_eq (x ∷ xs) (45 ∷ 45 ∷ []) ≡ false
    go true e plain = cc
    go false e plain = rw e refl

no_long : (word : Text) → strip_byte 45 word ≡ None → long_of word ≡ None
no_long word plain = ap (λ rest. option_and_then long_of_rest (option_and_then (strip_byte 45) rest)) plain

no_short : (word : Text) → strip_byte 45 word ≡ None → short_of word ≡ None
no_short word plain = ap (option_and_then short_of_rest) plain

abbrev between : Held → ℕ → Walk
between held position = record { held = held; waiting = idle; position = position; is_trailing = false; stopped = None }

name_walked : (c : List Rule) (held : Held) (position : ℕ) (word : Text) → strip_byte 45 word ≡ None
    → walked c [] (between held position) word ≡ to_positional c (arg_by_index c position) word (between held position) held
unfolding walked
name_walked c held position word plain = rw (no_dashes word plain, no_long word plain, no_short word plain) refl

name_turn : (s : Shape) (held : Held) (position : ℕ) (word : Text) → strip_byte 45 word ≡ None
    → turn_fault s [] (between held position) word ≡ step_fault s position held value
name_turn s held position word plain = rw (no_dashes word plain, no_long word plain, no_short word plain) refl

-- the command as clap builds it below the program
abbrev below : Shape
below = built_leaf (inherited program.top run.top)

module _ (queries events : Text) (first : strip_byte 45 queries ≡ None) (second : strip_byte 45 events ≡ None) where
  abbrev one : Walk
  one = to_positional below.rules (arg_by_index below.rules 1) queries (between nothing_held 1) nothing_held

  abbrev two : Walk
  two = to_positional below.rules (arg_by_index below.rules 2) events (between one.held 2) one.held

  one_is : walked below.rules [] (walk_from nothing_held) queries ≡ one
  one_is = name_walked below.rules nothing_held 1 queries first

  two_is : walk below.rules [] nothing_held (queries ∷ events ∷ []) ≡ two
  unfolding program
  two_is = ap (λ w. walked below.rules [] w events) one_is ∙ name_walked below.rules one.held 2 events second

  walk_is : walk_fault below [] (walk_from nothing_held) (queries ∷ events ∷ []) ≡ []
  unfolding walk_fault program
  walk_is = ap₂ or_else (name_turn below nothing_held 1 queries first)
      (ap₂ or_else (ap (λ w. turn_fault below [] w events) one_is ∙ name_turn below one.held 2 events second) refl)

  level_is : level_fault below [] nothing_held (queries ∷ events ∷ []) false [] ≡ []
  unfolding defaults_fault program
  level_is = ap₂ (λ (kinds : Kinds) (w : Walk). or_else kinds (or_else [] (or_else (settle_fault below.rules below.args_override_self w.held)
      (or_else (defaults_fault (settled below.rules w.held).rows below.rules) (check_fault below (finished below.rules w.held) false))))) walk_is two_is

  fault_is : fault_of program (codes "run" ∷ queries ∷ events ∷ []) ≡ []
  unfolding walked walk_fault defaults_fault program
  fault_is = ap (λ (kinds : Kinds). or_else kinds []) level_is

  found_is : subcommand_of program (codes "run" ∷ queries ∷ events ∷ []) ≡ Some (codes "run", finished below.rules two.held)
  unfolding walked program
  found_is = ap (λ (w : Walk). Some (codes "run", finished below.rules w.held)) two_is

  pub names_alone : AsksFor (codes "run" ∷ queries ∷ events ∷ []) (Run (record { queries = queries; events = events; order = Sorted; compact_every = None; most_bytes = 1099511627776 }))
  unfolding program
  names_alone = rw (ap has_no_kind fault_is) (ap command_at found_is)
