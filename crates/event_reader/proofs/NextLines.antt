-- What each answer of a reader says, where the source tells its bytes.
use Rattle.std.proofs.Common.{◌≡◌, ℕ, ◌+◌, ◌-◌, ◌<◌, ◌≤◌, List, [], ◌∷◌, ◌++◌, length, take, drop, Bool, true, false, Option, Some, None, Result, Ok, Err, refl, sym, ◌∙◌, ap, arith, append_assoc, add-one, suc}
use Rattle.std.proofs.Math.Seq.{drop-cons}
use Rattle.std.proofs.lemmas.List.{append-nil, take_all, drop_all, length-take, take-append-drop}
use Rattle.event_reader.specs.declared.LineFault.{LineFault}
use Rattle.event_reader.specs.declared.LineFault.TheVariants.{ReadFault, LineTooLong, InputTooLong}
use Rattle.event_reader.specs.declared.reader.Next.{Next}
use Rattle.event_reader.specs.declared.reader.Next.TheVariants.{Line, End}
use Rattle.cer_outside.specs.Bytes.{ReadsOn, IsAtEnd}
use Rattle.event_reader.specs.Lines.{file_lines, line_text}
use Rattle.event_reader.specs.Lines.{has_line_feed}
use Rattle.event_reader.specs.LineBuffers.{BufferState, IsFirstLineFeed, IsShort}
use Rattle.event_reader.specs.LineReaders.{LineReader, HasGiven, HasTakenFor, Follows}
use Rattle.event_reader.proofs.GivenLines.{given_line, given_last, all_ended, all_at_end, all_long, all_full, cut_off, given_first, taken_so_far, taken_in_full}

-- the reader after a line, by its window
pub given_reader : (now : LineReader) (scratch given : BufferState) (budget room number : ℕ) (ended closed : Bool) (start len end : ℕ) →
    (let r : LineReader = record { budget = budget; number = number; text = scratch.text; pending = scratch.pending; room = room; ended = ended; closed = closed } in r ≡ now) →
    given ≡ record { pending = drop end scratch.pending; text = drop start (take len scratch.pending) } →
    drop start (take len now.pending) ≡ line_text now.number (take len now.pending) →
    let r : LineReader = record { budget = budget; number = number + 1; text = given.text; pending = given.pending; room = room - end; ended = ended; closed = closed } in
    r ≡ record now { number = now.number + 1; text = line_text now.number (take len now.pending); pending = drop end now.pending; room = now.room - end }
given_reader now scratch given budget room number ended closed start len end e h t =
    let p : scratch.pending ≡ now.pending = ap (λ (r : LineReader). r.pending) e in
    let b : budget ≡ now.budget = ap (λ (r : LineReader). r.budget) e in
    let n : number ≡ now.number = ap (λ (r : LineReader). r.number) e in
    let m : room ≡ now.room = ap (λ (r : LineReader). r.room) e in
    let d : ended ≡ now.ended = ap (λ (r : LineReader). r.ended) e in
    let s : closed ≡ now.closed = ap (λ (r : LineReader). r.closed) e in
    let gp : given.pending ≡ drop end now.pending = ap (λ (k : BufferState). k.pending) h ∙ ap (drop end) p in
    let gt : given.text ≡ line_text now.number (take len now.pending) = ap (λ (k : BufferState). k.text) h ∙ ap (λ l. drop start (take len l)) p ∙ t in
    rw (gp, gt, b, n, m, d, s) refl

pub whole_reader : (now : LineReader) (len : ℕ) → len ≡ length now.pending →
    let r : LineReader = record now { number = now.number + 1; text = line_text now.number (take len now.pending); pending = drop len now.pending; room = now.room - len; ended = true } in
    r ≡ record now { number = now.number + 1; text = line_text now.number now.pending; pending = []; room = now.room - length now.pending; ended = true }
whole_reader now len e =
    let t : take len now.pending ≡ now.pending = take_all len now.pending (omega arith) in
    let d : drop len now.pending ≡ [] = drop_all len now.pending (omega arith) in
    rw (t, d, e) refl

cut_at_feed : (place : ℕ) (pending : List ℕ) → IsFirstLineFeed place pending → pending ≡ take place pending ++ 10 ∷ drop (place + 1) pending
cut_at_feed place pending first =
    sym (take-append-drop place pending)
    ∙ ap (λ l. take place pending ++ l) (rw (add-one) (drop-cons pending place 0 first.within ∙ ap (λ b. b ∷ drop (suc place) pending) first.feed))

pub next_line : (old new : LineReader) (before after : Option (List ℕ)) (pending : List ℕ) (len : ℕ) (bytes : List ℕ) (texts : List (List ℕ)) →
    HasGiven old bytes before texts → old.ended ≡ false → ReadsOn before after old.pending pending → length pending ≤ old.room →
    IsFirstLineFeed len pending → len ≤ 65536 →
    new ≡ record old { number = old.number + 1; text = line_text old.number (take len pending); pending = drop (len + 1) pending; room = old.room - (len + 1) } →
    HasGiven new bytes after (texts ++ new.text ∷ [])
next_line old new None after pending len bytes texts given open_ reads room first short is = absurd given
next_line old new (Some before) None pending len bytes texts given open_ reads room first short is = absurd reads
next_line old new (Some before) (Some after) pending len bytes texts given open_ reads room first short is =
    let l : length (take len pending) ≡ len = omega (arith, length-take len pending, first.within) in
    let rest : new.pending ≡ drop (len + 1) pending = ap (λ (r : LineReader). r.pending) is in
    let at : old.pending ++ before ≡ take len pending ++ 10 ∷ (new.pending ++ after) =
    sym reads ∙ ap (λ k. k ++ after) (cut_at_feed len pending first) ∙ append_assoc (take len pending) (10 ∷ drop (len + 1) pending) after ∙ ap (λ k. take len pending ++ 10 ∷ (k ++ after)) (sym rest) in
    given_line old new bytes before after texts (take len pending) given open_ first.plain (omega arith) (omega (arith, first.within)) at
    (ap (λ (r : LineReader). r.budget) is) (ap (λ (r : LineReader). r.number) is) (ap (λ (r : LineReader). r.room) is ∙ ap (λ n. old.room - (n + 1)) (sym l)) (ap (λ (r : LineReader). r.ended) is ∙ open_) (ap (λ (r : LineReader). r.text) is)

pub next_ended : (old new : LineReader) (before after : Option (List ℕ)) (bytes : List ℕ) (texts : List (List ℕ)) →
    HasGiven old bytes before texts → old.ended ≡ true → new.budget ≡ old.budget → Follows new bytes after texts (Ok End)
next_ended old new None after bytes texts given ended budget = absurd given
next_ended old new (Some before) after bytes texts given ended budget =
    ap (λ n. file_lines n bytes) budget ∙ all_ended old bytes before texts given ended

pub next_long : (old new : LineReader) (before after : Option (List ℕ)) (pending bytes : List ℕ) (texts : List (List ℕ)) (result : Result Next LineFault) →
    HasGiven old bytes before texts → old.ended ≡ false → ReadsOn before after old.pending pending → length pending ≤ old.room →
    has_line_feed (take 65537 pending) ≡ false → 65536 < length pending → new.budget ≡ old.budget → result ≡ Err (LineTooLong (old.number + 1)) →
    Follows new bytes after texts result
next_long old new None after pending bytes texts result given open_ reads room plain long budget is = absurd given
next_long old new (Some before) None pending bytes texts result given open_ reads room plain long budget is = absurd reads
next_long old new (Some before) (Some after) pending bytes texts result given open_ reads room plain long budget is =
    let l : length (take 65537 pending) ≡ 65537 = omega (arith, length-take 65537 pending) in
    let at : old.pending ++ before ≡ take 65537 pending ++ (drop 65537 pending ++ after) =
    sym reads ∙ ap (λ k. k ++ after) (sym (take-append-drop 65537 pending)) ∙ append_assoc (take 65537 pending) (drop 65537 pending) after in
    rw is (ap (λ n. file_lines n bytes) budget ∙ all_long old bytes before texts (take 65537 pending) (drop 65537 pending ++ after) given open_ at plain (omega arith) (omega arith))

pub next_full : (old new : LineReader) (before after : Option (List ℕ)) (pending bytes : List ℕ) (texts : List (List ℕ)) (result : Result Next LineFault) →
    HasGiven old bytes before texts → old.ended ≡ false → ReadsOn before after old.pending pending →
    IsShort pending → length pending ≡ old.room → new.budget ≡ old.budget → result ≡ Err (InputTooLong old.budget) →
    Follows new bytes after texts result
next_full old new None after pending bytes texts result given open_ reads short full budget is = absurd given
next_full old new (Some before) None pending bytes texts result given open_ reads short full budget is = absurd reads
next_full old new (Some before) (Some after) pending bytes texts result given open_ reads short full budget is =
    rw is (ap (λ n. file_lines n bytes) budget ∙ all_full old bytes before texts pending after given open_ (sym reads) short.plain short.short full)

pub next_cut : (old new : LineReader) (before after : Option (List ℕ)) (pending bytes : List ℕ) (texts : List (List ℕ)) (result : Result Next LineFault) →
    HasGiven old bytes before texts → old.ended ≡ false → ReadsOn before after old.pending pending →
    length pending ≤ old.room → IsShort pending → new.budget ≡ old.budget → result ≡ Err ReadFault →
    Follows new bytes after texts result
next_cut old new None after pending bytes texts result given open_ reads room short budget is = absurd given
next_cut old new (Some before) None pending bytes texts result given open_ reads room short budget is = absurd reads
next_cut old new (Some before) (Some after) pending bytes texts result given open_ reads room short budget is =
    rw (is, budget) (cut_off old bytes before after pending texts given open_ short.plain (sym reads) room)

-- the file has ended: what is at hand is its last line, or there is none
pub next_last : (old new : LineReader) (before after : Option (List ℕ)) (pending text bytes : List ℕ) (texts : List (List ℕ)) (next : Next) →
    HasGiven old bytes before texts → old.ended ≡ false → ReadsOn before after old.pending pending →
    IsShort pending → length pending < old.room → IsAtEnd after →
    (length pending ≡ 0 → (next ≡ End) × (new ≡ record old { text = text; pending = pending; closed = true })) →
    (0 < length pending → (next ≡ Line) × (new ≡ record old { number = old.number + 1; text = line_text old.number pending; pending = []; room = old.room - length pending; ended = true })) →
    Follows new bytes after texts (Ok next)
next_last old new None after pending text bytes texts next given open_ reads short within end none some = absurd given
next_last old new (Some before) None pending text bytes texts next given open_ reads short within end none some = absurd reads
next_last old new (Some before) (Some after) [] text bytes texts next given open_ reads short within end none some =
    let is = none refl in
    rw is.0 (ap (λ (r : LineReader). file_lines r.budget bytes) is.1 ∙ all_at_end old bytes before texts given open_ (sym reads ∙ end) (omega arith))
next_last old new (Some before) (Some after) (x ∷ pending) text bytes texts next given open_ reads short within end none some =
    let is = some (omega arith) in
    let at : old.pending ++ before ≡ x ∷ pending = sym reads ∙ ap (λ k. (x ∷ pending) ++ k) end ∙ append-nil (x ∷ pending) in
    let rest : new.pending ++ after ≡ [] = ap (λ (r : LineReader). r.pending ++ after) is.1 ∙ end in
    rw is.0 (given_last old new bytes before after texts (x ∷ pending) given open_ short.plain short.short within (omega arith) at rest
    (ap (λ (r : LineReader). r.budget) is.1) (ap (λ (r : LineReader). r.number) is.1) (ap (λ (r : LineReader). r.room) is.1) (ap (λ (r : LineReader). r.ended) is.1) (ap (λ (r : LineReader). r.text) is.1))

-- the texts that were given are the first ones of the file, whatever follows
pub first_given : (reader : LineReader) (bytes : List ℕ) (left : Option (List ℕ)) (texts : List (List ℕ)) → HasGiven reader bytes left texts → take (length texts) (file_lines reader.budget bytes).texts ≡ texts
first_given reader bytes None texts given = absurd given
first_given reader bytes (Some left) texts given = given_first reader bytes left texts given

-- what was taken where the end was told before
pub took_ended : (old : LineReader) (left : Option (List ℕ)) (bytes : List ℕ) (texts : List (List ℕ)) (next : Next) →
    HasGiven old bytes left texts → length old.pending ≤ old.room → HasTakenFor old.budget bytes left (Ok next)
took_ended old None bytes texts next given room = absurd given
took_ended old (Some left) bytes texts next given room = taken_so_far old bytes left left old.pending texts given refl room

-- what was taken where reading stopped with these bytes at hand
pub took_line : (old : LineReader) (before after : Option (List ℕ)) (pending bytes : List ℕ) (texts : List (List ℕ)) (next : Next) →
    HasGiven old bytes before texts → ReadsOn before after old.pending pending → length pending ≤ old.room → HasTakenFor old.budget bytes after (Ok next)
took_line old None after pending bytes texts next given reads room = absurd given
took_line old (Some before) None pending bytes texts next given reads room = absurd reads
took_line old (Some before) (Some after) pending bytes texts next given reads room = taken_so_far old bytes before after pending texts given (sym reads) room

pub took_long : (old : LineReader) (before after : Option (List ℕ)) (pending bytes : List ℕ) (texts : List (List ℕ)) (line : ℕ) (result : Result Next LineFault) →
    HasGiven old bytes before texts → ReadsOn before after old.pending pending → length pending ≤ old.room → result ≡ Err (LineTooLong line) → HasTakenFor old.budget bytes after result
took_long old None after pending bytes texts line result given reads room is = absurd given
took_long old (Some before) None pending bytes texts line result given reads room is = absurd reads
took_long old (Some before) (Some after) pending bytes texts line result given reads room is = rw is (taken_so_far old bytes before after pending texts given (sym reads) room)

pub took_cut : (old : LineReader) (before after : Option (List ℕ)) (pending bytes : List ℕ) (texts : List (List ℕ)) (result : Result Next LineFault) →
    HasGiven old bytes before texts → ReadsOn before after old.pending pending → length pending ≤ old.room → result ≡ Err ReadFault → HasTakenFor old.budget bytes after result
took_cut old None after pending bytes texts result given reads room is = absurd given
took_cut old (Some before) None pending bytes texts result given reads room is = absurd reads
took_cut old (Some before) (Some after) pending bytes texts result given reads room is = rw is (taken_so_far old bytes before after pending texts given (sym reads) room)

pub took_full : (old : LineReader) (before after : Option (List ℕ)) (pending bytes : List ℕ) (texts : List (List ℕ)) (count : ℕ) (result : Result Next LineFault) →
    HasGiven old bytes before texts → ReadsOn before after old.pending pending → length pending ≡ old.room → result ≡ Err (InputTooLong count) → HasTakenFor old.budget bytes after result
took_full old None after pending bytes texts count result given reads full is = absurd given
took_full old (Some before) None pending bytes texts count result given reads full is = absurd reads
took_full old (Some before) (Some after) pending bytes texts count result given reads full is = rw is (taken_in_full old bytes before after pending texts given (sym reads) full)
