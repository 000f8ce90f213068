-- What clap found in words that it takes: one of the commands.
use Rattle.std.proofs.Common.{◌≡◌, ◌⊎◌, List, [], ◌∷◌, Option, Some, None, Bool, cond, codes, refl, sym, inl, inr, true, false, true≢false}
use Rattle.std.specs.Prelude.{is_some, option_map}
use Rattle.clap.specs.Faults.{check_fault, defaults_fault, entered_fault, level_fault, settle_fault, walk_fault}
use Rattle.clap.specs.Kinds.{check_kinds, or_else}
use Rattle.clap.specs.Simple.{built, entered, names_of, rows_at}
use Rattle.clap.specs.Walk.{Held, Names, answers_to, finished, nothing_held, settled, stop_after, walk, walk_from}
use Rattle.clap.specs.Words.{Kinds, Row, Shape, Text, subcommand_of}
use Rattle.command_words.specs.CommandLine.{has_no_kind, clap_takes}
use Rattle.command_words.specs.Program.{program}

last_none : (a b : Kinds) → has_no_kind (or_else a b) ≡ true → has_no_kind b ≡ true
last_none [] b e = e
last_none (k ∷ ks) b e = absurd (true≢false (sym e))

missing : (help subcommand argument : Bool) → subcommand ≡ true → has_no_kind (check_kinds help subcommand argument) ≡ true → ⊥
missing true subcommand argument wants e = true≢false (sym e)
missing false true argument wants e = true≢false (sym e)
missing false false argument wants e = true≢false (sym wants)

-- a level that asks for a subcommand and fails by nothing has one
has_one : (s : Shape) (rows : List Row) (has : Bool) → s.subcommand_required ≡ true → has_no_kind (check_fault s rows has) ≡ true → has ≡ true
has_one s rows true asks e = refl
has_one s rows false asks e = absurd (missing _ s.subcommand_required _ asks e)

level_has : (s : Shape) (names : Names) (words : List Text) (has : Bool) (below : Kinds) → s.subcommand_required ≡ true
    → has_no_kind (level_fault s names nothing_held words has below) ≡ true → has ≡ true
level_has s names words has below asks e =
    let end : Held = (walk s.rules names nothing_held words).held in
    let checks = check_fault s (finished s.rules end) has in
    let defaults = defaults_fault (settled s.rules end).rows s.rules in
    let settles = settle_fault s.rules s.args_override_self end in
    let after_walk = last_none (walk_fault s names (walk_from nothing_held) words) (or_else below (or_else settles (or_else defaults checks))) e in
    let after_below = last_none below (or_else settles (or_else defaults checks)) after_walk in
    let after_settles = last_none settles (or_else defaults checks) after_below in
    has_one s (finished s.rules end) has asks (last_none defaults checks after_settles)

-- what was found is after this name
abbrev IsFound : Text → Option (Text × List Row) → Type 0
IsFound name found = (rows : List Row) × (found ≡ Some (name, rows))

-- the first of seven shapes whose test passes
abbrev first_of_seven : Bool → Bool → Bool → Bool → Bool → Bool → Bool → Shape → Shape → Shape → Shape → Shape → Shape → Shape → Option Shape
first_of_seven first second third fourth fifth sixth seventh a b c d e f g =
    cond first (Some a) (cond second (Some b) (cond third (Some c) (cond fourth (Some d) (cond fifth (Some e) (cond sixth (Some f) (cond seventh (Some g) None))))))

-- what was found is after one of these names
abbrev IsOneOf : List Text → Option (Text × List Row) → Type 0
IsOneOf [] found = ⊥
IsOneOf (name ∷ names) found = IsFound name found ⊎ IsOneOf names found

one_of_seven : (first second third fourth fifth sixth seventh : Bool) (a b c d e f g : Shape) (words : List Text)
    → is_some (option_map (λ s. rows_at s words) (first_of_seven first second third fourth fifth sixth seventh a b c d e f g)) ≡ true
    → IsOneOf (a.name ∷ b.name ∷ c.name ∷ d.name ∷ e.name ∷ f.name ∷ g.name ∷ []) (option_map (λ s. rows_at s words) (first_of_seven first second third fourth fifth sixth seventh a b c d e f g))
one_of_seven true second third fourth fifth sixth seventh a b c d e f g words some = inl (_, refl)
one_of_seven false true third fourth fifth sixth seventh a b c d e f g words some = inr (inl (_, refl))
one_of_seven false false true fourth fifth sixth seventh a b c d e f g words some = inr (inr (inl (_, refl)))
one_of_seven false false false true fifth sixth seventh a b c d e f g words some = inr (inr (inr (inl (_, refl))))
one_of_seven false false false false true sixth seventh a b c d e f g words some = inr (inr (inr (inr (inl (_, refl)))))
one_of_seven false false false false false true seventh a b c d e f g words some = inr (inr (inr (inr (inr (inl (_, refl))))))
one_of_seven false false false false false false true a b c d e f g words some = inr (inr (inr (inr (inr (inr (inl (_, refl)))))))
one_of_seven false false false false false false false a b c d e f g words some = absurd (true≢false (sym some))

-- after the name of one of the commands
abbrev pub IsOfCommand : Option (Text × List Row) → Type 0
IsOfCommand found = IsOneOf (codes "run" ∷ codes "sample" ∷ codes "session" ∷ codes "reorder" ∷ codes "explain" ∷ codes "save" ∷ codes "resume" ∷ []) found

entered_one : (stop : Option (Text × List Text)) → is_some (entered (built program) stop) ≡ true → IsOfCommand (entered (built program) stop)
unfolding program
entered_one None some = absurd (true≢false (sym some))
entered_one (Some p) some =
    one_of_seven (answers_to p.0 (codes "run", [])) (answers_to p.0 (codes "sample", [])) (answers_to p.0 (codes "session", [])) (answers_to p.0 (codes "reorder", [])) (answers_to p.0 (codes "explain", [])) (answers_to p.0 (codes "save", [])) (answers_to p.0 (codes "resume", []))
    _ _ _ _ _ _ _ p.1 some

-- clap found one of the commands in words that it takes
pub taken_is_found : (words : List Text) → clap_takes words ≡ true → IsOfCommand (subcommand_of program words)
unfolding program
taken_is_found words taken =
    let stop = stop_after (built program).top.rules (names_of (built program)) words in
    entered_one stop (level_has (built program).top (names_of (built program)) words (is_some (entered (built program) stop))
    (entered_fault (built program) stop) refl taken)
