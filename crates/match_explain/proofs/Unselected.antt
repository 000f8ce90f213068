-- A run through the leaves that SELECT leaves marks is one through the leaves of the formula.
use Rattle.std.proofs.Common.{◌≡◌, refl, sym, ap, ap₂, subst, ◌∙◌, ℕ, zero, suc, ◌+◌, List, [], ◌∷◌, ◌++◌, map, length, Option, Some, None, slice_get}
use Rattle.std.proofs.lemmas.List.{map-append}
use Rattle.cel_terms.specs.declared.Name.{Name}
use Rattle.cel_terms.specs.declared.Formula.{Formula}
use Rattle.cel_terms.specs.Meaning.{Stream, meaning, only_names}
use Rattle.query_leaves.specs.LeafTree.{LeafTree, leaf, none, sequence, either, plus}
use Rattle.query_leaves.specs.Expand.{Occurrence, at_leaves, rename_leaf, expand, selected_tree}
use Rattle.query_leaves.specs.Leaves.{occurrences, numbered, names_in}
use Rattle.cea_compile.specs.Paths.{Step, Path, at, then, left, right, once, again, LeafReads, reading, valuation}
use Rattle.cea_compile.proofs.Leaves.{unbinds, has_its_leaves}
use Rattle.cea_compile.proofs.Expand.{expanded}

-- a change of each leaf leaves their number and order
changed_occurrences : (g : Occurrence → Occurrence) (t : LeafTree Occurrence) → occurrences (at_leaves g t) ≡ map g (occurrences t)
changed_occurrences g (leaf l) = refl
changed_occurrences g none = refl
changed_occurrences g (sequence u a b) = ap₂ (λ x y. x ++ y) (changed_occurrences g a) (changed_occurrences g b) ∙ sym (map-append g (occurrences a) (occurrences b))
changed_occurrences g (either a b) = ap₂ (λ x y. x ++ y) (changed_occurrences g a) (changed_occurrences g b) ∙ sym (map-append g (occurrences a) (occurrences b))
changed_occurrences g (plus u a) = changed_occurrences g a

length_mapped : (g : Occurrence → Occurrence) (ls : List Occurrence) → length (map g ls) ≡ length ls
length_mapped g [] = refl
length_mapped g (l ∷ ls) = ap suc (length_mapped g ls)

as_many : (g : Occurrence → Occurrence) (t : LeafTree Occurrence) → length (occurrences (at_leaves g t)) ≡ length (occurrences t)
as_many g t = ap length (changed_occurrences g t) ∙ length_mapped g (occurrences t)

changed_numbers : (g : Occurrence → Occurrence) (t : LeafTree Occurrence) (base : ℕ) → numbered base (at_leaves g t) ≡ numbered base t
changed_numbers g (leaf l) base = refl
changed_numbers g none base = refl
changed_numbers g (sequence u a b) base = ap₂ (λ x y. sequence u x y) (changed_numbers g a base) (changed_numbers g b (base + length (occurrences (at_leaves g a))) ∙ ap (λ n. numbered (base + n) b) (as_many g a))
changed_numbers g (either a b) base = ap₂ (λ x y. either x y) (changed_numbers g a base) (changed_numbers g b (base + length (occurrences (at_leaves g a))) ∙ ap (λ n. numbered (base + n) b) (as_many g a))
changed_numbers g (plus u a) base = ap (λ x. plus u x) (changed_numbers g a base)

-- what stands after a changed leaf
mapped_from : (g : Occurrence → Occurrence) (ls : List Occurrence) (k : ℕ) (l : Occurrence) → slice_get (map g ls) k ≡ Some l → (o : Occurrence) × (slice_get ls k ≡ Some o) × (l ≡ g o)
mapped_from g [] k l e = absurd cc
mapped_from g (o ∷ os) zero l e = (o, refl, cc)
mapped_from g (o ∷ os) (suc k) l e = mapped_from g os k l e

-- what SELECT does to the names of a position
abbrev pub kept : Option (List Name) → List (List ℕ) → List (List ℕ)
kept None names = names
kept (Some listed) names = only_names listed names

pub numbers_kept : (select : Option (List Name)) (t : LeafTree Occurrence) → numbered 0 (selected_tree select t) ≡ numbered 0 t
numbers_kept None t = refl
numbers_kept (Some listed) t = changed_numbers (rename_leaf (only_names listed)) t 0

reads_renamed : (stream : Stream) (h : List (List ℕ) → List (List ℕ)) (l o : Occurrence) (p : ℕ) → l ≡ rename_leaf h o → LeafReads stream l p → LeafReads stream o p
reads_renamed stream h l o p e r = let r' = subst (λ x. LeafReads stream x p) e r in record { typed = r'.typed; tests = r'.tests }

pub reads_kept : (stream : Stream) (select : Option (List Name)) (t : LeafTree Occurrence) (k p : ℕ) → (reading stream (occurrences (selected_tree select t))).Reads k p → (reading stream (occurrences t)).Reads k p
reads_kept stream None t k p r = r
reads_kept stream (Some listed) t k p r =
    let m = mapped_from (rename_leaf (only_names listed)) (occurrences t) k r.0 (subst (λ ls. slice_get ls k ≡ Some r.0) (changed_occurrences (rename_leaf (only_names listed)) t) r.1) in
    (m.0, m.1, reads_renamed stream (only_names listed) r.0 m.0 p m.2 r.2)

names_mapped : (h : List (List ℕ) → List (List ℕ)) (ls : List Occurrence) (k : ℕ) → h [] ≡ [] → names_in (slice_get (map (rename_leaf h) ls) k) ≡ h (names_in (slice_get ls k))
names_mapped h [] k e = sym e
names_mapped h (l ∷ ls) zero e = refl
names_mapped h (l ∷ ls) (suc k) e = names_mapped h ls k e

pub names_kept : (select : Option (List Name)) (t : LeafTree Occurrence) (k : ℕ) → names_in (slice_get (occurrences (selected_tree select t)) k) ≡ kept select (names_in (slice_get (occurrences t) k))
names_kept None t k = refl
names_kept (Some listed) t k = ap (λ (ls : List Occurrence). names_in (slice_get ls k)) (changed_occurrences (rename_leaf (only_names listed)) t) ∙ names_mapped (only_names listed) (occurrences t) k refl

-- leaves that read more have all the paths
moved : {H : ℕ → Type 0} {R S : ℕ → ℕ → Type 0} {t : LeafTree ℕ} {s e : ℕ} {w : List Step} → ((k p : ℕ) → R k p → S k p) → Path (record { Has = H; Reads = R }) t s e w → Path (record { Has = H; Reads = S }) t s e w
moved f (at r) = at (f _ _ r)
moved f (then p m q) = then (moved f p) m (moved f q)
moved f (left p) = left (moved f p)
moved f (right p) = right (moved f p)
moved f (once p) = once (moved f p)
moved f (again p m q) = again (moved f p) m (moved f q)

-- What the formula means, from a path through the leaves that SELECT marks.
pub formula_means : (stream : Stream) (select : Option (List Name)) (f : Formula) (s e : ℕ) (w : List Step) → Path (reading stream (occurrences (selected_tree select (expand f)))) (numbered 0 (selected_tree select (expand f))) s e w → meaning stream f s e (valuation (occurrences (expand f)) w)
formula_means stream select f s e w p =
    let t = expand f in
    let q = subst (λ n. Path (reading stream (occurrences t)) n s e w) (numbers_kept select t) (moved (reads_kept stream select t) p) in
    (expanded stream f).back s e (valuation (occurrences t) w) (unbinds stream (occurrences t) t 0 (has_its_leaves t) s e w q)
