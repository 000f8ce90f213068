-- What a sink has taken, a line after another.
use Rattle.std.proofs.Common.{◌≡◌, ℕ, ◌+◌, ◌≤◌, List, [], ◌∷◌, ◌++◌, length, take, Option, Some, None, Err, refl, sym, ◌∙◌, ap, subst, append_assoc, arith, flat_map}
use Rattle.std.proofs.lemmas.Grind.{flat_map-append}
use Rattle.std.proofs.lemmas.List.{append-nil, length-append, take-append-le}
use Rattle.std.proofs.Math.Seq.{take-append-add}
use Rattle.cer_base.specs.declared.OrMemory.{OrMemory}
use Rattle.cer_base.specs.declared.OrMemory.TheVariants.{Fault, Memory}
use Rattle.cer_outside.specs.Bytes.{TookAll, TookPart}
use Rattle.cer_outside.specs.Causes.{HasCauseOrMemory}
use Rattle.cel_terms.specs.Answers.{Answer}
use Rattle.answer_text.specs.Output.{line}
use Rattle.answer_blocks.specs.SinkBytes.{TookPrefix, TookBy}

pub took_none : (now : Option (List ℕ)) → TookAll now now []
took_none None = refl
took_none (Some taken) = ap Some (sym (append-nil taken))

-- All of the one and then all of the other.
pub all_after : (first middle last : Option (List ℕ)) (xs ys : List ℕ) → TookAll first middle xs → TookAll middle last ys → TookAll first last (xs ++ ys)
all_after None None last xs ys p q = q
all_after None (Some middle) last xs ys p q = absurd (let wrong : Some middle ≡ None = p in cc)
all_after (Some first) None last xs ys p q = absurd (let wrong : None ≡ Some (first ++ xs) = p in cc)
all_after (Some first) (Some middle) last xs ys p q =
    let same : middle ≡ first ++ xs = cc in
    let end : last ≡ Some (middle ++ ys) = q in
    end ∙ ap Some (ap (λ (l : List ℕ). l ++ ys) same ∙ append_assoc first xs ys)

part_of_both : (first middle last xs ys rest bytes : List ℕ) (count : ℕ) → bytes ≡ (xs ++ ys) ++ rest → count ≤ length ys →
    middle ≡ first ++ xs → last ≡ middle ++ take count ys → last ≡ first ++ take (length xs + count) bytes
part_of_both first middle last xs ys rest bytes count split within before now =
    let fits : length xs + count ≤ length (xs ++ ys) = omega (arith, length-append xs ys) in
    let inside : take (length xs + count) ((xs ++ ys) ++ rest) ≡ take (length xs + count) (xs ++ ys) = take-append-le (length xs + count) (xs ++ ys) rest fits in
    let seam : take (length xs + count) (xs ++ ys) ≡ xs ++ take count ys = take-append-add xs ys count in
    let moved = append_assoc first xs (take count ys) in
    cc

-- All of the one and then a proper first part of the other.
part_after : (first middle last : Option (List ℕ)) (xs ys rest bytes : List ℕ) → bytes ≡ (xs ++ ys) ++ rest →
    TookAll first middle xs → TookPart middle last ys → TookPart first last bytes
part_after None None last xs ys rest bytes split p q = q
part_after None (Some middle) last xs ys rest bytes split p q = absurd (let wrong : Some middle ≡ None = p in cc)
part_after (Some first) None last xs ys rest bytes split p q = absurd (let wrong : None ≡ Some (first ++ xs) = p in cc)
part_after (Some first) (Some middle) None xs ys rest bytes split p q = absurd q
part_after (Some first) (Some middle) (Some last) xs ys rest bytes split p q =
    let same : middle ≡ first ++ xs = cc in
    record {
      count = length xs + q.count;
      within = omega (arith, q.within, ap length split, length-append (xs ++ ys) rest, length-append xs ys);
      took = part_of_both first middle last xs ys rest bytes q.count split (omega (arith, q.within)) same q.took;
    }

pub prefix_after : (first middle last : Option (List ℕ)) (xs ys rest bytes : List ℕ) → bytes ≡ (xs ++ ys) ++ rest →
    TookAll first middle xs → TookPrefix middle last ys → TookPrefix first last bytes
prefix_after None None last xs ys rest bytes split p q = q
prefix_after None (Some middle) last xs ys rest bytes split p q = absurd (let wrong : Some middle ≡ None = p in cc)
prefix_after (Some first) None last xs ys rest bytes split p q = absurd (let wrong : None ≡ Some (first ++ xs) = p in cc)
prefix_after (Some first) (Some middle) None xs ys rest bytes split p q = absurd q
prefix_after (Some first) (Some middle) (Some last) xs ys rest bytes split p q =
    let same : middle ≡ first ++ xs = cc in
    record {
      count = length xs + q.count;
      within = omega (arith, q.within, ap length split, length-append (xs ++ ys) rest, length-append xs ys);
      took = part_of_both first middle last xs ys rest bytes q.count split q.within same q.took;
    }

-- An error in the other is one in both.
pub error_after : {F : Type 0} (first middle last : Option (List ℕ)) (xs ys rest bytes : List ℕ) (e : OrMemory F) → bytes ≡ (xs ++ ys) ++ rest →
    TookAll first middle xs → TookBy {T = Unit {0}} middle last ys (Err e) → TookBy {T = Unit {0}} first last bytes (Err e)
error_after first middle last xs ys rest bytes (Fault f) split p q = part_after first middle last xs ys rest bytes split p q
error_after first middle last xs ys rest bytes Memory split p q = prefix_after first middle last xs ys rest bytes split p q

-- A cause in a later call is one from the start.
pub cause_after : {F : Type 0} (first middle last : ℕ) (e : OrMemory F) → middle ≡ first →
    HasCauseOrMemory {T = Unit {0}} middle last (Err e) → HasCauseOrMemory {T = Unit {0}} first last (Err e)
cause_after {F} first middle last e same cause =
    let P : ℕ → Type 0 = λ n. HasCauseOrMemory {T = Unit {0}} n last (Err e) in subst P same cause

-- Nothing yet is a first part.
pub prefix_none : (now : Option (List ℕ)) (bytes : List ℕ) → TookPrefix now now bytes
prefix_none None bytes = refl
prefix_none (Some taken) bytes = record { count = 0; within = omega arith; took = sym (append-nil taken) }

-- A line more is taken,
pub line_written : (number end : ℕ) (first middle last : Option (List ℕ)) (all answers left later : List Answer) (a : Answer) →
    all ≡ answers ++ left → left ≡ a ∷ later → TookAll first middle (flat_map (line number end) answers) → TookAll middle last (line number end a) →
    (given : List Answer) × (all ≡ given ++ later) × TookAll first last (flat_map (line number end) given)
line_written number end first middle last all answers left later a split next p q =
    let f = line number end in
    let one : flat_map f (answers ++ a ∷ []) ≡ flat_map f answers ++ f a =
    flat_map-append f answers (a ∷ []) ∙ ap (λ (l : List ℕ). flat_map f answers ++ l) (append-nil (f a)) in (
      answers ++ a ∷ [],
      split ∙ ap (λ (l : List Answer). answers ++ l) next ∙ sym (append_assoc answers (a ∷ []) later),
      subst (λ (l : List ℕ). TookAll first last l) (sym one) (all_after first middle last (flat_map f answers) (f a) p q),
    )

-- and an error at it is one of all the lines.
pub line_failed : {F : Type 0} (number end : ℕ) (first middle last : Option (List ℕ)) (all answers left later : List Answer) (a : Answer) (e : OrMemory F) →
    all ≡ answers ++ left → left ≡ a ∷ later → TookAll first middle (flat_map (line number end) answers) →
    TookBy {T = Unit {0}} middle last (line number end a) (Err e) → TookBy {T = Unit {0}} first last (flat_map (line number end) all) (Err e)
line_failed number end first middle last all answers left later a e split next p q =
    let f = line number end in
    let whole : flat_map f all ≡ (flat_map f answers ++ f a) ++ flat_map f later =
    ap (flat_map f) (split ∙ ap (λ (l : List Answer). answers ++ l) next) ∙ flat_map-append f answers (a ∷ later) ∙ sym (append_assoc (flat_map f answers) (f a) (flat_map f later)) in
    error_after first middle last (flat_map f answers) (f a) (flat_map f later) (flat_map f all) e whole p q

-- An error in a block is one of the blocks.
pub block_failed : {F : Type 0} (first middle last : Option (List ℕ)) (front back rest : List ℕ) (e : OrMemory F) →
    TookAll first middle front → TookBy {T = Unit {0}} middle last back (Err e) → TookBy {T = Unit {0}} first last (front ++ (back ++ rest)) (Err e)
block_failed first middle last front back rest e p q =
    error_after first middle last front back rest (front ++ (back ++ rest)) e (sym (append_assoc front back rest)) p q
