-- Rows around a place.
use Rattle.std.proofs.Common.{◌≡◌, ℕ, zero, suc, List, [], ◌∷◌, ◌++◌, map, length, take, refl, sym, ap, ◌∙◌, Some, slice_get}
use Rattle.std.proofs.Math.Seq.{take-append_seam}
use Rattle.cer_base.specs.declared.node.Root.{Root}

pub record SplitsAt (rows : List (ℕ × List Root)) (k : ℕ) (l : List Root) : Type 0 where
  pub front : List (ℕ × List Root)
  pub number : ℕ
  pub back : List (ℕ × List Root)
  pub whole : rows ≡ front ++ (number, l) ∷ back
  pub place : length front ≡ k

pub split_at : (rows : List (ℕ × List Root)) (k : ℕ) (l : List Root) → slice_get (map (λ (r : ℕ × List Root). r.1) rows) k ≡ Some l → SplitsAt rows k l
split_at [] k l at = absurd cc
split_at (r ∷ rows) zero l at = let same : r.1 ≡ l = cc in record { front = []; number = r.0; back = rows; whole = ap (λ (m : List Root). (r.0, m) ∷ rows) same; place = refl }
split_at (r ∷ rows) (suc k) l at = let s = split_at rows k l at in record { front = r ∷ s.front; number = s.number; back = s.back; whole = ap (λ rs. r ∷ rs) s.whole; place = ap suc s.place }

key_at : (front back : List (ℕ × List Root)) (n : ℕ) (l : List Root) → slice_get (map (λ (r : ℕ × List Root). r.0) (front ++ (n, l) ∷ back)) (length front) ≡ Some n
key_at [] back n l = refl
key_at (r ∷ front) back n l = key_at front back n l

pub key_of : (rows : List (ℕ × List Root)) (k : ℕ) (l : List Root) (s : SplitsAt rows k l) → slice_get (map (λ (r : ℕ × List Root). r.0) rows) k ≡ Some s.number
key_of rows k l s =
    ap (λ (rs : List (ℕ × List Root)). slice_get (map (λ (r : ℕ × List Root). r.0) rs) k) s.whole
    ∙ ap (λ j. slice_get (map (λ (r : ℕ × List Root). r.0) (s.front ++ (s.number, l) ∷ s.back)) j) (sym s.place)
    ∙ key_at s.front s.back s.number l

-- the rows before the place
pub front_is : (rows : List (ℕ × List Root)) (k : ℕ) (l : List Root) (s : SplitsAt rows k l) → take k rows ≡ s.front
front_is rows k l s =
    ap (take k) s.whole ∙ ap (λ j. take j (s.front ++ (s.number, l) ∷ s.back)) (sym s.place) ∙ take-append_seam s.front ((s.number, l) ∷ s.back)

-- and one more
pub one_more : (rows : List (ℕ × List Root)) (k : ℕ) (l : List Root) (s : SplitsAt rows k l) → take (suc k) rows ≡ take k rows ++ (s.number, l) ∷ []
one_more rows k l s = ap (take (suc k)) s.whole ∙ ap (λ j. take (suc j) (s.front ++ (s.number, l) ∷ s.back)) (sym s.place) ∙ with_next s.front ∙ ap (λ (f : List (ℕ × List Root)). f ++ (s.number, l) ∷ []) (sym (front_is rows k l s))
  where
    with_next : (front : List (ℕ × List Root)) → take (suc (length front)) (front ++ (s.number, l) ∷ s.back) ≡ front ++ (s.number, l) ∷ []
    with_next [] = refl
    with_next (r ∷ front) = ap (λ rs. r ∷ rs) (with_next front)
