-- Reading the digits of a text one after the other, and the bytes of a string.
use Rattle.std.proofs.Common.{length-drop, append-nil, ◌≡◌, ℕ, suc, true, false, ◌==◌, ◌++◌, append_assoc, Bool, ◌+◌, ◌-◌, ◌*◌, ◌<◌, ◌≤◌, List, [], ◌∷◌, length, get_or, drop, refl, sym, ap, ◌∙◌, arith, add-one}
use Rattle.std.specs.Prelude.{filter, if◌then◌else◌}
use Rattle.std.specs.Char.{is_ascii_digit}
use Rattle.std.proofs.Math.Seq.{drop-cons}
use Rattle.cer_base.specs.Digits.{read_on}
use Rattle.ceql_grammar.specs.Values.{inside_quotes, unquoted}

kept : (p : ℕ → Bool) (x : ℕ) (xs : List ℕ) → p x ≡ true → filter p (x ∷ xs) ≡ x ∷ filter p xs
kept p x xs e = rw e refl

-- a digit is read before those after it
pub digit_step : (value : ℕ) (text : List ℕ) (i : ℕ) → i < length text → is_ascii_digit (get_or text i 0) ≡ true → read_on value (filter is_ascii_digit (drop i text)) ≡ read_on (value * 10 + (get_or text i 0 - 48)) (filter is_ascii_digit (drop (i + 1) text))
digit_step value text i l e = rw (add-one, drop-cons text i 0) (ap (read_on value) (kept is_ascii_digit (get_or text i 0) (drop (suc i) text) e))

-- before the last byte there is nothing more to read
pub none_between : (quote : ℕ) (bytes : List ℕ) → length bytes ≤ 1 → inside_quotes quote bytes ≡ []
none_between quote [] l = refl
none_between quote (x ∷ []) l = refl
none_between quote (x ∷ y ∷ bytes) l = absurd (omega arith)

one_in_front : (bytes : List ℕ) (i : ℕ) → i < length bytes → drop i bytes ≡ get_or bytes i 0 ∷ drop (i + 1) bytes
one_in_front bytes i l = rw add-one (drop-cons bytes i 0 l)

next_in_front : (bytes : List ℕ) (i : ℕ) → i + 1 < length bytes → drop (i + 1) bytes ≡ get_or bytes (i + 1) 0 ∷ drop (i + 2) bytes
next_in_front bytes i l =
    let e : i + 1 + 1 ≡ i + 2 = omega arith in
    one_in_front bytes (i + 1) l ∙ ap (λ n. get_or bytes (i + 1) 0 ∷ drop n bytes) e

two_in_front : (bytes : List ℕ) (i : ℕ) → i + 1 < length bytes → drop i bytes ≡ get_or bytes i 0 ∷ get_or bytes (i + 1) 0 ∷ drop (i + 2) bytes
two_in_front bytes i l = one_in_front bytes i (omega arith) ∙ ap (λ r. get_or bytes i 0 ∷ r) (next_in_front bytes i l)

taken : (quote a b : ℕ) (rest : List ℕ) (e : Bool) → (a == quote) ≡ e → inside_quotes quote (a ∷ b ∷ rest) ≡ (if e then a ∷ inside_quotes quote rest else a ∷ inside_quotes quote (b ∷ rest))
taken quote a b rest e h = ap (λ e. if e then a ∷ inside_quotes quote rest else a ∷ inside_quotes quote (b ∷ rest)) h

-- a doubled quote is read as one
pub quote_step : (quote : ℕ) (made more bytes total : List ℕ) (i : ℕ) → i + 1 < length bytes → (get_or bytes i 0 == quote) ≡ true → more ≡ made ++ get_or bytes i 0 ∷ [] → made ++ inside_quotes quote (drop i bytes) ≡ total → more ++ inside_quotes quote (drop (i + 2) bytes) ≡ total
quote_step quote made more bytes total i l h e k =
    ap (λ m. m ++ inside_quotes quote (drop (i + 2) bytes)) e ∙ append_assoc made (get_or bytes i 0 ∷ []) (inside_quotes quote (drop (i + 2) bytes))
    ∙ sym (ap (λ r. made ++ r) (ap (inside_quotes quote) (two_in_front bytes i l) ∙ taken quote (get_or bytes i 0) (get_or bytes (i + 1) 0) (drop (i + 2) bytes) true h)) ∙ k

-- any other byte is read as it stands
pub byte_step : (quote : ℕ) (made more bytes total : List ℕ) (i : ℕ) → i + 1 < length bytes → (get_or bytes i 0 == quote) ≡ false → more ≡ made ++ get_or bytes i 0 ∷ [] → made ++ inside_quotes quote (drop i bytes) ≡ total → more ++ inside_quotes quote (drop (i + 1) bytes) ≡ total
byte_step quote made more bytes total i l h e k =
    ap (λ m. m ++ inside_quotes quote (drop (i + 1) bytes)) e ∙ append_assoc made (get_or bytes i 0 ∷ []) (inside_quotes quote (drop (i + 1) bytes))
    ∙ ap (λ r. made ++ (get_or bytes i 0 ∷ inside_quotes quote r)) (next_in_front bytes i l)
    ∙ sym (ap (λ r. made ++ r) (ap (inside_quotes quote) (two_in_front bytes i l) ∙ taken quote (get_or bytes i 0) (get_or bytes (i + 1) 0) (drop (i + 2) bytes) false h)) ∙ k

-- at the last byte the whole string is read
pub unquoted_whole : (quote : ℕ) (made inside text : List ℕ) (i : ℕ) → text ≡ quote ∷ inside → length inside ≤ i + 1 → made ++ inside_quotes quote (drop i inside) ≡ inside_quotes quote inside → made ≡ unquoted text
unquoted_whole quote made inside text i e l k =
    let none = none_between quote (drop i inside) (omega (arith, length-drop i inside)) in
    sym (append-nil made) ∙ ap (λ r. made ++ r) (sym none) ∙ k ∙ sym (ap unquoted e)

pub nothing_unquoted : (text : List ℕ) → length text ≡ 0 → [] ≡ unquoted text
nothing_unquoted [] e = refl
nothing_unquoted (x ∷ text) e = absurd (omega arith)
