-- Sums and counts modulo 2 to the power of 64, one more at a time.
use Rattle.std.proofs.Common.{◌≡◌, ℕ, ◌+◌, ◌%◌, ◌^◌, List, [], ◌∷◌, ◌++◌, length, map, reverse, sym, ◌∙◌, ap, refl, append_assoc, arith}
use Rattle.std.specs.Prelude.{sum, sum_by}
use Rattle.std.proofs.Math.Nat.{mod-add-mod, add-mod-mod}
use Rattle.std.proofs.lemmas.List.Sums.{sum_by_push}
use Rattle.std.proofs.lemmas.List.Sorted.{sum_by-IsPermutation, IsPermutation-reverse}
use Rattle.cer_base.specs.Members.{Member}
use Rattle.cel_terms.specs.Answers.{Answer}
use Rattle.query_engine.specs.Holding.{answer_of}
use Rattle.command_sample.specs.Tallies.{weight_of}

-- two numbers that are told modulo w, added modulo w
pub added_mod : (w a b m n : ℕ) → a ≡ m % w → b ≡ n % w → (a + b) % w ≡ (m + n) % w
added_mod w a b m n ha hb = ap (λ x. (x + b) % w) ha ∙ (ap (λ x. (m % w + x) % w) hb ∙ (mod-add-mod m w (n % w) ∙ add-mod-mod m n w))

map_push : (ms : List Member) (m : Member) → map answer_of (ms ++ m ∷ []) ≡ map answer_of ms ++ answer_of m ∷ []
map_push [] m = refl
map_push (x ∷ xs) m = ap (λ (l : List Answer). answer_of x ∷ l) (map_push xs m)

length_push : (ms : List Member) (m : Member) → length (ms ++ m ∷ []) ≡ length ms + 1
length_push [] m = refl
length_push (x ∷ xs) m = omega (arith, length_push xs m)

-- The sum is the same from either end.
pub sum_reverse : (xs : List ℕ) → sum (reverse xs) ≡ sum xs
sum_reverse xs = sum_by-IsPermutation (λ x. x) xs (reverse xs) (IsPermutation-reverse xs)

-- A member more is given.
pub given_more : (end : ℕ) (all given left later : List Member) (m : Member) → all ≡ given ++ left → left ≡ m ∷ later → all ≡ (given ++ m ∷ []) ++ later
given_more end all given left later m h is = h ∙ (ap (λ (l : List Member). given ++ l) is ∙ sym (append_assoc given (m ∷ []) later))

pub counted_more : (given : List Member) (m : Member) (before now : ℕ) → before ≡ length given % 2 ^ 64 → now ≡ (before + 1) % 2 ^ 64 → now ≡ length (given ++ m ∷ []) % 2 ^ 64
counted_more given m before now h is = is ∙ (added_mod (2 ^ 64) before 1 (length given) 1 h refl ∙ ap (λ n. n % 2 ^ 64) (sym (length_push given m)))

pub added_more : (end : ℕ) (given : List Member) (m : Member) (path : List ℕ) (before weight now : ℕ) → before ≡ sum_by (weight_of end) (map answer_of given) % 2 ^ 64 →
    path ≡ m.positions → weight ≡ (m.start.pos + end + sum path) % 2 ^ 64 → now ≡ (before + weight) % 2 ^ 64 → now ≡ sum_by (weight_of end) (map answer_of (given ++ m ∷ [])) % 2 ^ 64
added_more end given m path before weight now h lent is joined =
    let own : weight ≡ weight_of end (answer_of m) % 2 ^ 64 = is ∙ ap (λ n. (m.start.pos + end + n) % 2 ^ 64) (ap (λ (l : List ℕ). sum l) lent ∙ sym (sum_reverse m.positions)) in
    joined ∙ (added_mod (2 ^ 64) before weight (sum_by (weight_of end) (map answer_of given)) (weight_of end (answer_of m)) h own
    ∙ ap (λ n. n % 2 ^ 64) (sym (ap (λ (l : List Answer). sum_by (weight_of end) l) (map_push given m) ∙ sum_by_push (weight_of end) (map answer_of given) (answer_of m))))

pub length_answers : (ms : List Member) → length ms ≡ length (map answer_of ms)
length_answers [] = refl
length_answers (x ∷ xs) = omega (arith, length_answers xs)
