-- A part taken after a part is a longer part.
use Rattle.std.proofs.Common.{◌≡◌, ℕ, ◌+◌, ◌-◌, ◌<◌, ◌≤◌, List, [], ◌++◌, length, take, drop, Option, Some, None, Ok, Err, refl, sym, ◌∙◌, ap, append_assoc, arith, append-nil}
use Rattle.std.proofs.Math.Seq.{take-add, take-append_seam}
use Rattle.std.proofs.lemmas.List.{take_all, length-drop, length-take, length-append, take-append-drop, drop-drop}
use Rattle.cer_outside.specs.Bytes.{Moves, Takes, TookAll, TookPart}

pub took_nothing : (now : Option (List ℕ)) → TookAll now now []
took_nothing None = refl
took_nothing (Some taken) = ap Some (sym (append-nil taken))

later_part : (bytes : List ℕ) (done count : ℕ) →
    take done bytes ++ take count (take (length bytes - done) (drop done bytes)) ≡ take (done + count) bytes
later_part bytes done count =
    let whole : take (length bytes - done) (drop done bytes) ≡ drop done bytes = take_all _ _ (omega (arith, length-drop done bytes)) in
    ap (λ (rest : List ℕ). take done bytes ++ take count rest) whole ∙ sym (take-add done count bytes)

more_taken : (first middle last bytes : List ℕ) (done count : ℕ) →
    middle ≡ first ++ take done bytes →
    last ≡ middle ++ take count (take (length bytes - done) (drop done bytes)) →
    last ≡ first ++ take (done + count) bytes
more_taken first middle last bytes done count before now =
    let joined = later_part bytes done count in
    let moved = append_assoc first (take done bytes) (take count (take (length bytes - done) (drop done bytes))) in
    cc

-- A write of what is left makes the part that was taken longer.
pub took_more : (E : Type 0) (first middle last : Option (List ℕ)) (bytes : List ℕ) (done count : ℕ) →
    TookAll first middle (take done bytes) →
    Takes {E = E} middle last (take (length bytes - done) (drop done bytes)) (Ok count) →
    TookAll first last (take (done + count) bytes)
took_more E None None last bytes done count before now = now
took_more E None (Some middle) last bytes done count before now = absurd (let wrong : Some middle ≡ None = before in cc)
took_more E (Some first) None last bytes done count before now = absurd (let wrong : None ≡ Some (first ++ take done bytes) = before in cc)
took_more E (Some first) (Some middle) None bytes done count before now = absurd now
took_more E (Some first) (Some middle) (Some last) bytes done count before now =
    let same : middle ≡ first ++ take done bytes = cc in
    ap Some (more_taken first middle last bytes done count same now)

-- A failed write leaves the part that was taken as it was.
pub took_part : {E : Type 0} (first middle last : Option (List ℕ)) (bytes piece : List ℕ) (done : ℕ) (e : E) →
    done < length bytes →
    TookAll first middle (take done bytes) →
    Takes middle last piece (Err e) →
    TookPart first last bytes
took_part None None last bytes piece done e below before now = now
took_part None (Some middle) last bytes piece done e below before now = absurd (let wrong : Some middle ≡ None = before in cc)
took_part (Some first) None last bytes piece done e below before now = absurd (let wrong : None ≡ Some (first ++ take done bytes) = before in cc)
took_part (Some first) (Some middle) None bytes piece done e below before now = absurd now
took_part (Some first) (Some middle) (Some last) bytes piece done e below before now =
    record { count = done; within = below; took = (let same : middle ≡ first ++ take done bytes = cc in let stays : last ≡ middle = now in cc) }

-- All of the bytes are the part whose length is theirs.
pub took_all : (first last : Option (List ℕ)) (bytes : List ℕ) (done : ℕ) →
    length bytes ≤ done →
    TookAll first last (take done bytes) →
    TookAll first last bytes
took_all None last bytes done beyond before = before
took_all (Some first) last bytes done beyond before =
    let whole = take_all done bytes beyond in
    let had : last ≡ Some (first ++ take done bytes) = before in
    cc

-- What is copied from the front of what is left, and what is left after it, are what was left.
pub moved_front : (bytes before into copied : List ℕ) (given count : ℕ) →
    before ≡ drop given bytes →
    given ≤ length bytes →
    count ≤ length bytes - given →
    count ≤ length into →
    copied ≡ take count (take (length bytes - given) (drop given bytes)) →
    Moves before (drop (given + count) bytes) (copied ++ drop count into) count
moved_front bytes before into copied given count was within left fits same =
    let rest : take (length bytes - given) (drop given bytes) ≡ drop given bytes = take_all _ _ (omega (arith, length-drop given bytes)) in
    let front : copied ≡ take count (drop given bytes) = cc in
    let long : length copied ≡ count = omega (arith, ap length front, length-take count (drop given bytes), length-drop given bytes) in
    let first : take count (copied ++ drop count into) ≡ copied = rw (← long, take-append_seam) refl in
    let later : drop (given + count) bytes ≡ drop count (drop given bytes) = sym (drop-drop count given bytes) in
    let whole = take-append-drop count (drop given bytes) in
    (omega (arith, length-append copied (drop count into)), cc)
