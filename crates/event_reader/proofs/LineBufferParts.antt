-- The parts of a window's buffer.
use Rattle.std.proofs.Common.{◌≡◌, ℕ, ◌+◌, ◌-◌, ◌<◌, ◌≤◌, ◌==◌, List, [], ◌∷◌, ◌++◌, length, take, drop, get_or, Bool, true, false, Option, Some, None, Ok, refl, sym, subst, ◌∙◌, ap, arith, inl, inr, append_assoc, suc, zero, eq-eqb}
use Rattle.std.specs.Prelude.{nat_lt}
use Rattle.std.proofs.lemmas.Bool.{cases_Bool, ltb-true, ltb-false}
use Rattle.std.proofs.lemmas.Bool.Decides.{nat_tests}
use Rattle.std.proofs.lemmas.List.{length-drop, length-take, take-take, drop-take, drop-drop, get_or-take, get_or-drop, take_all, take-append-le}
use Rattle.std.proofs.Math.Seq.{take-add, take-append-add}
use Rattle.std.proofs.lemmas.List.Folds.{list_any-append, list_any_none, list_any_at}
use Rattle.std.specs.List.{list_any}
use Rattle.cer_outside.specs.Bytes.{Reads, ReadsOn}
use Rattle.std.proofs.lemmas.Grind.{get_or_default_zero}
use Rattle.memchr.specs.Find.{IsFirstByte, NoneBefore, Nowhere, Passes, is_byte}
use Rattle.cer_outside.specs.Bytes.{ReadsOn}
use Rattle.event_reader.specs.Lines.{has_line_feed}
use Rattle.event_reader.specs.LineBuffers.{BufferState, bytes_between, IsLineBuffer, IsFirstLineFeed, IsShort}
use Rattle.event_reader.proofs.LineBytes.{neither, any_take}
use Rattle.event_reader.proofs.Texts.{by_cases}
use Rattle.event_reader.proofs.LineMarks.{none_in_front}

-- what no byte is, no byte of a last part is
any_drop : (p : ℕ → Bool) (n : ℕ) (xs : List ℕ) → list_any p xs ≡ false → list_any p (drop n xs) ≡ false
any_drop p zero xs e = e
any_drop p (suc n) [] e = refl
any_drop p (suc n) (x ∷ xs) e =
    let both : (p x ≡ false) × (list_any p xs ≡ false) = neither _ _ e in
    any_drop p n xs both.1

pub plain_drop : (n : ℕ) (xs : List ℕ) → has_line_feed xs ≡ false → has_line_feed (drop n xs) ≡ false
plain_drop n xs e = any_drop (λ b. b == 10) n xs e

pub plain_take : (n : ℕ) (xs : List ℕ) → has_line_feed xs ≡ false → has_line_feed (take n xs) ≡ false
plain_take n xs e = any_take (λ b. b == 10) n xs e

plain_append : (xs ys : List ℕ) → has_line_feed xs ≡ false → has_line_feed ys ≡ false → has_line_feed (xs ++ ys) ≡ false
plain_append xs ys a b = list_any-append (λ b. b == 10) xs ys ∙ rw (a, b) refl

pub length_between : (bytes : List ℕ) (from to : ℕ) → to ≤ length bytes → length (bytes_between bytes from to) ≡ to - from
length_between bytes from to h = omega (arith, length-take (to - from) (drop from bytes), length-drop from bytes)

none_between : (bytes : List ℕ) (at : ℕ) → bytes_between bytes at at ≡ []
none_between bytes at = let z : at - at ≡ 0 = omega arith in rw z refl

pub between_drop : (bytes : List ℕ) (from to n : ℕ) → n ≤ to - from → bytes_between bytes (from + n) to ≡ drop n (bytes_between bytes from to)
between_drop bytes from to n h =
    let split : to - from ≡ n + (to - (from + n)) = omega arith in
    sym (ap (λ k. drop n (take k (drop from bytes))) split ∙ drop-take n (to - (from + n)) (drop from bytes) ∙ ap (take (to - (from + n))) (drop-drop n from bytes))

pub between_take : (bytes : List ℕ) (from to n : ℕ) → n ≤ to - from → bytes_between bytes from (from + n) ≡ take n (bytes_between bytes from to)
between_take bytes from to n h =
    let e : from + n - from ≡ n = omega arith in
    ap (λ k. take k (drop from bytes)) e ∙ sym (take-take n (to - from) (drop from bytes) h)

between_join : (bytes : List ℕ) (from mid to : ℕ) → from ≤ mid → mid ≤ to → bytes_between bytes from to ≡ bytes_between bytes from mid ++ bytes_between bytes mid to
between_join bytes from mid to a b =
    let split : to - from ≡ (mid - from) + (to - mid) = omega arith in
    let at : from + (mid - from) ≡ mid = omega arith in
    ap (λ k. take k (drop from bytes)) split ∙ take-add (mid - from) (to - mid) (drop from bytes)
    ∙ ap (λ r. bytes_between bytes from mid ++ take (to - mid) r) (drop-drop (mid - from) from bytes ∙ ap (λ k. drop k bytes) at)

-- a line is given
pub given_buffer : (bytes : List ℕ) (from searched to text_from text_to start len end : ℕ) (pending : List ℕ) → IsLineBuffer bytes from searched to text_from text_to → bytes_between bytes from to ≡ pending → start ≤ len → len ≤ end → end ≤ length pending → len ≤ 65536 → has_line_feed (take len pending) ≡ false → IsLineBuffer bytes (from + end) (from + end) to (from + start) (from + len)
given_buffer bytes from searched to text_from text_to start len end pending w e a b h short plain =
    let l : length pending ≡ to - from = ap length (sym e) ∙ length_between bytes from to (omega (arith, w.capacity, w.to_within)) in
    record {
      capacity = w.capacity;
      from_searched = omega arith;
      searched_to = omega (arith, w.from_searched, w.searched_to);
      to_within = w.to_within;
      text_order = omega arith;
      text_within = omega (arith, w.from_searched, w.searched_to, w.to_within);
      text_short = omega arith;
      text_plain = ap has_line_feed (between_drop bytes from (from + len) start (omega arith)) ∙ plain_drop start (bytes_between bytes from (from + len)) (ap has_line_feed (between_take bytes from to len (omega arith) ∙ ap (take len) e) ∙ plain);
      plain = ap has_line_feed (none_between bytes (from + end));
    }

pub given_held : (bytes : List ℕ) (from searched to text_from text_to start len end : ℕ) (now : BufferState) → IsLineBuffer bytes from searched to text_from text_to → bytes_between bytes from to ≡ now.pending → start ≤ len → len ≤ end → end ≤ length now.pending → let h : BufferState = record { pending = bytes_between bytes (from + end) to; text = bytes_between bytes (from + start) (from + len) } in h ≡ record { pending = drop end now.pending; text = drop start (take len now.pending) }
given_held bytes from searched to text_from text_to start len end now w e a b h =
    let l : length now.pending ≡ to - from = ap length (sym e) ∙ length_between bytes from to (omega (arith, w.capacity, w.to_within)) in
    let p : bytes_between bytes (from + end) to ≡ drop end now.pending = between_drop bytes from to end (omega arith) ∙ ap (drop end) e in
    let t : bytes_between bytes (from + start) (from + len) ≡ drop start (take len now.pending) = between_drop bytes from (from + len) start (omega arith) ∙ ap (drop start) (between_take bytes from to len (omega arith) ∙ ap (take len) e) in
    cc

-- a search of the rest finds none
pub no_feed : (xs : List ℕ) → Nowhere (Passes (is_byte 10) xs) 0 (length xs) → has_line_feed xs ≡ false
no_feed xs none =
    list_any_none (λ b. b == 10) xs (λ k d h. by_cases _ (λ e. none k (omega arith) h (ap (λ b. b == 10) (sym (get_or_default_zero xs k d h)) ∙ e)))

pub searched_none : (bytes : List ℕ) (from searched to text_from text_to : ℕ) → IsLineBuffer bytes from searched to text_from text_to → Nowhere (Passes (is_byte 10) (bytes_between bytes searched to)) 0 (length (bytes_between bytes searched to)) → has_line_feed (bytes_between bytes from to) ≡ false
searched_none bytes from searched to text_from text_to w none =
    ap has_line_feed (between_join bytes from searched to w.from_searched w.searched_to)
    ∙ plain_append (bytes_between bytes from searched) (bytes_between bytes searched to) w.plain (no_feed (bytes_between bytes searched to) none)

pub window_searched : (bytes : List ℕ) (from searched to text_from text_to at : ℕ) → IsLineBuffer bytes from searched to text_from text_to → searched ≤ at → at ≤ to → has_line_feed (bytes_between bytes from at) ≡ false → IsLineBuffer bytes from at to text_from text_to
window_searched bytes from searched to text_from text_to at w a b plain = record {
  capacity = w.capacity;
  from_searched = omega (arith, w.from_searched);
  searched_to = b;
  to_within = w.to_within;
  text_order = w.text_order;
  text_within = w.text_within;
  text_short = w.text_short;
  text_plain = w.text_plain;
  plain = plain;
}

nowhere_take : (xs : List ℕ) (k : ℕ) → k < length xs → Nowhere (Passes (is_byte 10) xs) 0 k → has_line_feed (take k xs) ≡ false
nowhere_take xs k within none = none_in_front 10 xs k within none

is_ten : (byte : ℕ) → (byte == 10) ≡ true → byte ≡ 10
is_ten byte e = grind (arith, nat_tests)

-- a search of the rest finds one
pub found_plain : (bytes : List ℕ) (from searched to text_from text_to place : ℕ) → IsLineBuffer bytes from searched to text_from text_to → place < length (bytes_between bytes searched to) → Nowhere (Passes (is_byte 10) (bytes_between bytes searched to)) 0 place → has_line_feed (bytes_between bytes from (searched + place)) ≡ false
found_plain bytes from searched to text_from text_to place w within none =
    let l : length (bytes_between bytes searched to) ≡ to - searched = length_between bytes searched to (omega (arith, w.capacity, w.to_within)) in
    ap has_line_feed (between_join bytes from searched (searched + place) w.from_searched (omega arith))
    ∙ plain_append (bytes_between bytes from searched) (bytes_between bytes searched (searched + place)) w.plain
    (ap has_line_feed (between_take bytes searched to place (omega arith)) ∙ nowhere_take (bytes_between bytes searched to) place within none)

pub found_feed : (bytes : List ℕ) (from searched to text_from text_to place : ℕ) → IsLineBuffer bytes from searched to text_from text_to → NoneBefore (Passes (is_byte 10) (bytes_between bytes searched to)) 0 (length (bytes_between bytes searched to)) place × Passes (is_byte 10) (bytes_between bytes searched to) place → IsFirstLineFeed (searched + place - from) (bytes_between bytes from to)
found_feed bytes from searched to text_from text_to place w found =
    let l : length (bytes_between bytes searched to) ≡ to - searched = length_between bytes searched to (omega (arith, w.capacity, w.to_within)) in
    let whole : length (bytes_between bytes from to) ≡ to - from = length_between bytes from to (omega (arith, w.capacity, w.to_within)) in
    let at : from + (searched + place - from) ≡ searched + place = omega (arith, w.from_searched) in
    record {
      within = omega (arith, found.0.high, w.from_searched, w.searched_to);
      plain = ap has_line_feed (sym (between_take bytes from to (searched + place - from) (omega (arith, found.0.high, w.from_searched, w.searched_to))) ∙ ap (bytes_between bytes from) at) ∙ found_plain bytes from searched to text_from text_to place w found.0.high found.0.before;
      feed = get_or-take (to - from) (drop from bytes) (searched + place - from) 0 (omega (arith, found.0.high, w.from_searched, w.searched_to))
          ∙ get_or-drop from bytes (searched + place - from) 0 ∙ ap (λ k. get_or bytes k 0) at
          ∙ sym (get_or-take (to - searched) (drop searched bytes) place 0 (omega (arith, found.0.high)) ∙ get_or-drop searched bytes place 0)
          ∙ is_ten (get_or (bytes_between bytes searched to) place 0) found.1;
    }

-- after a read the bytes stand in front
pub filled_window : (old new : List ℕ) (from searched to text_from text_to end : ℕ) → IsLineBuffer old from searched to text_from text_to → length new ≡ 131072 → take (to - from) new ≡ bytes_between old from to → to - from ≤ end → end ≤ 131072 → IsLineBuffer new 0 (searched - from) end 0 0
filled_window old new from searched to text_from text_to end w capacity same more within = record {
  capacity = capacity;
  from_searched = omega arith;
  searched_to = omega (arith, w.searched_to);
  to_within = within;
  text_order = omega arith;
  text_within = omega arith;
  text_short = omega arith;
  text_plain = refl;
  plain =
      (let at : from + (searched - from) ≡ searched = omega (arith, w.from_searched) in
      let start : searched - from - 0 ≡ searched - from = omega arith in
      let inner : take (searched - from) new ≡ take (searched - from) (take (to - from) new) = sym (take-take (searched - from) (to - from) new (omega (arith, w.searched_to))) in
      ap (λ k. has_line_feed (take k new)) start
      ∙ ap has_line_feed (inner ∙ ap (take (searched - from)) same ∙ sym (between_take old from to (searched - from) (omega (arith, w.searched_to))) ∙ ap (bytes_between old from) at)
      ∙ w.plain);
}

-- a first line feed that stands too far off
pub long_before : (place : ℕ) (pending : List ℕ) → IsFirstLineFeed place pending → 65536 < place → (has_line_feed (take 65537 pending) ≡ false) × (65536 < length pending)
long_before place pending first far =
    (ap has_line_feed (sym (take-take 65537 place pending far)) ∙ plain_take 65537 (take place pending) first.plain, omega (arith, first.within))

pub long_plain : (pending : List ℕ) → has_line_feed pending ≡ false → 65536 < length pending → (has_line_feed (take 65537 pending) ≡ false) × (65536 < length pending)
long_plain pending plain long = (plain_take 65537 pending plain, long)

-- a read that brought nothing
pub short_still : (old new : List ℕ) (n : ℕ) → has_line_feed old ≡ false → length old ≤ 65536 → take (length old) new ≡ old → length new ≡ length old + n → n ≡ 0 → IsShort new
short_still old new n plain short kept count none =
    let same : new ≡ old = sym (take_all (length old) new (omega arith)) ∙ kept in
    record { plain = ap has_line_feed same ∙ plain; short = omega (arith, ap length same) }

pub reads_behind : (E : Type 0) (before after : Option (List ℕ)) (old new part : List ℕ) (len n : ℕ) → take (len + n) new ≡ take len old ++ take n part → Reads {E = E} before after part (Ok n) → ReadsOn before after (take len old) (take (len + n) new)
reads_behind E None after old new part len n front reads = reads
reads_behind E (Some before) None old new part len n front reads = absurd reads
reads_behind E (Some before) (Some after) old new part len n front reads =
    ap (λ l. l ++ after) front ∙ append_assoc (take len old) (take n part) after ∙ ap (λ l. take len old ++ l) reads.0.1

-- the front of a buffer into whose middle was read
pub new_front : (old part last more : List ℕ) (long len n : ℕ) → len ≤ length old → n ≤ length part → len + n ≤ long → take (len + n) (take long ((take len old ++ (part ++ last)) ++ more)) ≡ take len old ++ take n part
new_front old part last more long len n a b h =
    let l : length (take len old) ≡ len = omega (arith, length-take len old) in
    take-take (len + n) long ((take len old ++ (part ++ last)) ++ more) h
    ∙ ap (take (len + n)) (append_assoc (take len old) (part ++ last) more)
    ∙ ap (λ k. take (k + n) (take len old ++ ((part ++ last) ++ more))) (sym l)
    ∙ take-append-add (take len old) ((part ++ last) ++ more) n
    ∙ ap (λ k. take len old ++ k) (ap (take n) (append_assoc part last more) ∙ take-append-le n part (last ++ more) b)

-- a line feed that was found is there
pub feed_there : (place : ℕ) (bytes : List ℕ) → IsFirstLineFeed place bytes → has_line_feed bytes ≡ true
feed_there place bytes found = list_any_at (λ b. b == 10) bytes place 0 found.within (eq-eqb (get_or bytes place 0) 10 found.feed)

further : (xs : List ℕ) (i k : ℕ) → get_or (drop i xs) k 0 ≡ get_or xs (i + k) 0
further xs i k = get_or-drop i xs k 0

-- none among the first and none of the rest up to a place is none up to there
nowhere_further : (xs : List ℕ) (i place : ℕ) → Nowhere (Passes (is_byte 10) xs) 0 i → Nowhere (Passes (is_byte 10) (drop i xs)) 0 place → Nowhere (Passes (is_byte 10) xs) 0 (i + place)
nowhere_further xs i place near far k low high p = elim (cases_Bool (nat_lt k i)) [
  | inl less ↦ near k low (ltb-true k i less) p
  | inr more ↦ let after : i ≤ k = ltb-false k i more in
      far (k - i) (omega arith) (omega arith)
      (ap (λ b. b == 10) (further xs i (k - i) ∙ ap (λ j. get_or xs j 0) (let e : i + (k - i) ≡ k = omega arith in e)) ∙ p)
]

rest_is : (xs : List ℕ) (i : ℕ) → take (length xs - i) (drop i xs) ≡ drop i xs
rest_is xs i = take_all (length xs - i) (drop i xs) (let l = length-drop i xs in omega arith)

-- one that is found in the rest is the first of all, where none is among those before
pub found_further : (xs : List ℕ) (i place : ℕ) → i ≤ length xs → Nowhere (Passes (is_byte 10) xs) 0 i → IsFirstByte (is_byte 10) (take (length xs - i) (drop i xs)) (Some place) → IsFirstByte (is_byte 10) xs (Some (i + place))
found_further xs i place within near found =
    let far = subst (λ ys. IsFirstByte (is_byte 10) ys (Some place)) (rest_is xs i) found in
    let l : length (drop i xs) ≡ length xs - i = length-drop i xs in (
      record {
        low = omega arith;
        high = omega (arith, far.0.high);
        before = nowhere_further xs i place near far.0.before;
      },
      ap (λ b. b == 10) (sym (further xs i place)) ∙ far.1,
    )

-- and none in the rest is none at all
pub none_further : (xs : List ℕ) (i : ℕ) → i ≤ length xs → Nowhere (Passes (is_byte 10) xs) 0 i → IsFirstByte (is_byte 10) (take (length xs - i) (drop i xs)) None → IsFirstByte (is_byte 10) xs None
none_further xs i within near none k low high p =
    let far = subst (λ ys. IsFirstByte (is_byte 10) ys None) (rest_is xs i) none in
    let l : length (drop i xs) ≡ length xs - i = length-drop i xs in
    nowhere_further xs i (length (drop i xs)) near far k low (omega arith) p
