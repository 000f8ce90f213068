-- What is read so far and what is left, read after read.
use Rattle.std.proofs.Common.{◌≡◌, ℕ, ◌≤◌, List, [], ◌++◌, length, take, Option, Some, None, refl, sym, ◌∙◌, ap, subst, append_assoc}
use Rattle.std.proofs.Math.Seq.{take-append_seam}
use Rattle.std.proofs.lemmas.List.{append-nil, take_all}
use Rattle.cer_outside.specs.Bytes.{ReadsOn, IsAtEnd}
use Rattle.cer_outside.specs.Content.{Content, Untold, Missing, Holds, HasOpened}
use Rattle.command_base.specs.SourceBytes.{AreFirst, AreFirstOf, IsRest, IsRestOf, TookAtMost, TookAtMostOf}

-- nothing read yet
pub reads_none : (left : Option (List ℕ)) → ReadsOn left left [] []
reads_none None = refl
reads_none (Some bytes) = refl

-- one read after another
pub reads_more : (a b c : Option (List ℕ)) (x y z : List ℕ) → ReadsOn a b x y → ReadsOn b c y z → ReadsOn a c x z
reads_more None None c x y z first second = second
reads_more None (Some b) c x y z first second = cc
reads_more (Some a) None c x y z first second = absurd first
reads_more (Some a) (Some b) None x y z first second = absurd second
reads_more (Some a) (Some b) (Some c) x y z first second = second ∙ first

-- what is left after reading is a last part
pub reads_rest : (a b : Option (List ℕ)) (y : List ℕ) → ReadsOn a b [] y → IsRest a b
reads_rest None b y read = tt
reads_rest (Some a) None y read = absurd read
reads_rest (Some a) (Some b) y read = (y, sym read)

-- a last part of a last part
pub rest_of_rest : (a b c : Option (List ℕ)) → IsRest a b → IsRest b c → IsRest a c
rest_of_rest None b c first second = tt
rest_of_rest (Some a) None c first second = absurd first
rest_of_rest (Some a) (Some b) None first second = absurd second
rest_of_rest (Some a) (Some b) (Some c) first second =
    (first.0 ++ second.0, first.1 ∙ ap (λ w. first.0 ++ w) second.1 ∙ sym (append_assoc first.0 second.0 c))

-- all was read
pub first_all : (n : ℕ) (a b : Option (List ℕ)) (y : List ℕ) → ReadsOn a b [] y → IsAtEnd b → length y ≤ n → AreFirst n a y
first_all n None b y read end few = tt
first_all n (Some a) None y read end few = absurd read
first_all n (Some a) (Some b) y read end few =
    let whole : a ≡ y = sym read ∙ ap (λ w. y ++ w) end ∙ append-nil y in
    sym (take_all n y few) ∙ ap (take n) (sym whole)

-- as much was read as is read
pub first_full : (n : ℕ) (a b : Option (List ℕ)) (y : List ℕ) → ReadsOn a b [] y → length y ≡ n → AreFirst n a y
first_full n None b y read full = tt
first_full n (Some a) None y read full = absurd read
first_full n (Some a) (Some b) y read full =
    sym (take-append_seam y b) ∙ ap (λ k. take k (y ++ b)) full ∙ ap (take n) read

-- what was read of a source is of the file that was opened
pub first_opened : (n : ℕ) (file : Content) (left : Option (List ℕ)) (y : List ℕ) → HasOpened file left → AreFirst n left y → AreFirstOf n file y
first_opened n Untold left y opened first = tt
first_opened n Missing left y opened first = opened
first_opened n (Holds bytes) left y opened first = let P : Option (List ℕ) → Type 0 = λ w. AreFirst n w y in subst P opened first

-- and so is what is left
pub rest_opened : (file : Content) (left last : Option (List ℕ)) → HasOpened file left → IsRest left last → IsRestOf file last
rest_opened Untold left last opened rest = tt
rest_opened Missing left last opened rest = opened
rest_opened (Holds bytes) left last opened rest = let P : Option (List ℕ) → Type 0 = λ w. IsRest w last in subst P opened rest

-- and no more was taken of it
pub took_opened : (most : ℕ) (file : Content) (left last : Option (List ℕ)) → HasOpened file left → TookAtMost most left last → TookAtMostOf most file last
took_opened most Untold left last opened took = tt
took_opened most Missing left last opened took = opened
took_opened most (Holds bytes) left last opened took = let P : Option (List ℕ) → Type 0 = λ w. TookAtMost most w last in subst P opened took
