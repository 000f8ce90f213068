-- How many parentheses are open, token by token.
use Rattle.std.proofs.Common.{◌≡◌, refl, sym, ◌∙◌, ap, subst, ℕ, zero, suc, ◌+◌, ◌-◌, ◌<◌, ◌≤◌, Bool, true, false, List, [], ◌∷◌, ◌++◌, length, get_or, take, drop, arith, add-one, length-append}
use Rattle.std.specs.Prelude.{codes, if◌then◌else◌}
use Rattle.ceql_lexer.specs.declared.Token.{Token}
use Rattle.ceql_grammar.specs.WordsAndSigns.{Is, is, among}
use Rattle.ceql_grammar.specs.Texts.{open_after_one, open_after, IsTooDeepAt, IsShallow, IsTooDeep}
use Rattle.cer_base.specs.declared.limits.TheConstants.{DEEPEST_NESTING}

open_more : (n : ℕ) (xs : List Token) (t : Token) → open_after n (xs ++ t ∷ []) ≡ open_after_one (open_after n xs) t
open_more n [] t = refl
open_more n (x ∷ xs) t = open_more (open_after_one n x) xs t

split_at : (ts : List Token) (i : ℕ) (t : Token) → i < length ts → t ≡ get_or ts i t → ts ≡ take i ts ++ t ∷ drop (suc i) ts
split_at [] i t l e = absurd (omega arith)
split_at (x ∷ ts) zero t l e = ap (λ x. x ∷ ts) (sym e)
split_at (x ∷ ts) (suc i) t l e = ap (λ us. x ∷ us) (split_at ts i t (omega arith) e)

taken_length : (ts : List Token) (i : ℕ) → i ≤ length ts → length (take i ts) ≡ i
taken_length ts zero l = refl
taken_length [] (suc i) l = absurd (omega arith)
taken_length (x ∷ ts) (suc i) l = let k = taken_length ts i (omega arith) in omega (arith, k)

take_next : (ts : List Token) (i : ℕ) (t : Token) → i < length ts → t ≡ get_or ts i t → take (suc i) ts ≡ take i ts ++ t ∷ []
take_next [] i t l e = absurd (omega arith)
take_next (x ∷ ts) zero t l e = ap (λ x. x ∷ []) (sym e)
take_next (x ∷ ts) (suc i) t l e = ap (λ us. x ∷ us) (take_next ts i t (omega arith) e)

-- one more token
pub open_next : (ts : List Token) (i : ℕ) (t : Token) (n m : ℕ) → i < length ts → t ≡ get_or ts i t → n ≡ open_after 0 (take i ts) → m ≡ open_after_one n t → m ≡ open_after 0 (take (i + 1) ts)
open_next ts i t n m l e k h =
    let f : take (i + 1) ts ≡ take i ts ++ t ∷ [] = rw add-one (take_next ts i t l e) in
    h ∙ ap (λ n. open_after_one n t) k ∙ sym (open_more 0 (take i ts) t) ∙ ap (open_after 0) (sym f)

below : (a b : ℕ) → a ≤ b → (a ≡ b → ⊥) → a + 1 ≤ b
below zero zero l n = absurd (n refl)
below zero (suc b) l n = omega arith
below (suc a) zero l n = absurd (omega arith)
below (suc a) (suc b) l n = let k = below a b (omega arith) (λ e. n (ap suc e)) in omega (arith, k)

within_at : (n : ℕ) (a b c : Bool) → n ≤ DEEPEST_NESTING → (64 ≤ n → b ≡ true → ⊥) → (if a then 0 else (if b then n + 1 else (if c then n - 1 else n))) ≤ 64
within_at n true b c l k = omega arith
within_at n false true c l k = below n 64 l (λ e. k (omega (arith, e)) refl)
within_at n false false true l k = omega arith
within_at n false false false l k = l

-- no more are open than may be
pub within : (n m : ℕ) (t : Token) → n ≤ DEEPEST_NESTING → (DEEPEST_NESTING ≤ n → Is (codes "(") t → ⊥) → m ≡ open_after_one n t → m ≤ DEEPEST_NESTING
within n m t l k e = let h = within_at n (among (codes "DECLARE" ∷ codes "SELECT" ∷ []) t) (is (codes "(") t) (is (codes ")") t) l k in omega (arith, e, h)

-- lists cut at the same place
pub same_cut : (xs ys : List Token) (t u : Token) (us vs : List Token) → xs ++ t ∷ us ≡ ys ++ u ∷ vs → length xs ≡ length ys → (xs ≡ ys) × (t ≡ u)
same_cut [] [] t u us vs e l = (refl, cc)
same_cut [] (y ∷ ys) t u us vs e l = absurd (omega arith)
same_cut (x ∷ xs) [] t u us vs e l = absurd (omega arith)
same_cut (x ∷ xs) (y ∷ ys) t u us vs e l = let k = same_cut xs ys t u us vs (cc) (omega arith) in (cc, k.1)

-- where it is not too deep, the first such place stands after the token
pub not_here : (ts : List Token) (i : ℕ) (t : Token) (n : ℕ) → i < length ts → t ≡ get_or ts i t → n ≡ open_after 0 (take i ts) → (DEEPEST_NESTING ≤ n → Is (codes "(") t → ⊥) → ((before : List Token) (u : Token) → IsTooDeepAt ts before u → i ≤ length before) → (before : List Token) (u : Token) → IsTooDeepAt ts before u → i + 1 ≤ length before
not_here ts i t n l e k fits later before u h = below i (length before) (later before u h) (λ same.
    let cut = same_cut (take i ts) before t u (drop (suc i) ts) h.after (sym (split_at ts i t l e) ∙ h.split) (taken_length ts i (omega arith) ∙ same) in
    fits (subst (λ m. DEEPEST_NESTING ≤ m) (sym (k ∙ ap (open_after 0) cut.0)) h.full) (ap (is (codes "(")) cut.1 ∙ h.opens))

-- the token is the first such place
pub here_first : (ts : List Token) (i : ℕ) (t : Token) (n : ℕ) → i < length ts → t ≡ get_or ts i t → n ≡ open_after 0 (take i ts) → DEEPEST_NESTING ≤ n → Is (codes "(") t → ((before : List Token) (u : Token) → IsTooDeepAt ts before u → i ≤ length before) → IsTooDeep ts t.place
here_first ts i t n l e k full opens later =
    let size = taken_length ts i (omega arith) in
    record {
      before = take i ts;
      token = t;
      first = record {
        here = record { after = drop (suc i) ts; split = split_at ts i t l e; opens = opens; full = subst (λ m. DEEPEST_NESTING ≤ m) k full };
        first = λ other u h. let m = later other u h in omega (arith, size, m);
      };
      place_is = refl;
    }

-- after the last token there is none
pub nowhere : (ts : List Token) (i : ℕ) → length ts ≤ i → ((before : List Token) (u : Token) → IsTooDeepAt ts before u → i ≤ length before) → IsShallow ts
nowhere ts i l later before u h = let m = later before u h in let e = ap length h.split ∙ length-append before (u ∷ h.after) in absurd (omega arith)
