-- What some words ask for, computed: a reader sees by them that the definition is what the words say.
use Rattle.std.proofs.Common.{◌≡◌, [], ◌∷◌, Some, None, codes, refl}
use Rattle.answer_text.specs.declared.Order.TheVariants.{Walk, Sorted}
use Rattle.clap.proofs.OnLiterals.{clap_on_literals}
use Rattle.command_words.specs.CommandLine.{AsksFor, command_asked}
use Rattle.command_words.specs.Program.{program}
use Rattle.command_words.specs.declared.Command.TheVariants.{Run, Sample, Explain, Resume}

pub options_stand_between : AsksFor (codes "run" ∷ codes "--order=walk" ∷ codes "q" ∷ codes "--max-bytes" ∷ codes "+05" ∷ codes "-" ∷ [])
    (Run (record { queries = codes "q"; events = codes "-"; order = Walk; compact_every = None; most_bytes = 5 }))
unfolding clap_on_literals program
options_stand_between = refl

pub numbers_have_zeros : AsksFor (codes "sample" ∷ codes "+7" ∷ codes "007" ∷ []) (Sample (record { seed = 7; count = 7 }))
unfolding clap_on_literals program
numbers_have_zeros = refl

pub positions_are_listed : AsksFor (codes "explain" ∷ codes "q" ∷ codes "e" ∷ codes "1" ∷ codes "2" ∷ codes "5" ∷ codes "5" ∷ codes "2" ∷ [])
    (Explain (record { queries = codes "q"; events = codes "e"; question = record { query = 1; start = 2; end = 5; positions = 5 ∷ 2 ∷ [] } }))
unfolding clap_on_literals program
positions_are_listed = refl

pub a_checkpoint_is_named : AsksFor (codes "resume" ∷ codes "q" ∷ codes "--compact-every=9" ∷ codes "c" ∷ codes "e" ∷ codes "--order" ∷ codes "walk" ∷ [])
    (Resume (record { queries = codes "q"; checkpoint = codes "c"; events = codes "e"; order = Walk; compact_every = Some 9; most_bytes = 1099511627776 }))
unfolding clap_on_literals program
a_checkpoint_is_named = refl

pub one_name_is_refused : command_asked (codes "run" ∷ codes "q" ∷ []) ≡ None
unfolding clap_on_literals program
one_name_is_refused = refl

pub defaults_hold : AsksFor (codes "run" ∷ codes "q.core" ∷ codes "e.csv" ∷ [])
    (Run (record { queries = codes "q.core"; events = codes "e.csv"; order = Sorted; compact_every = None; most_bytes = 1099511627776 }))
unfolding clap_on_literals program
defaults_hold = refl
