-- Changes that are passed over by their keys.
use Rattle.std.proofs.Common.{◌≡◌, refl, sym, ap, ◌∙◌, ℕ, Bool, true, false, not, ◌||◌, cond, List, [], ◌∷◌, map, bytes_eq, length, get_or, take, arith, nat_eq, eq-eqb, subst, ◌+◌, ◌<◌, ◌++◌, Bor}
use Rattle.std.specs.Prelude.{reverse}
use Rattle.std.specs.List.{list_any}
use Rattle.std.proofs.lemmas.Slice.Eq.{bytes_eq-Decides}
use Rattle.std.proofs.lemmas.List.{length-map, take_more, get_or-map, get_or_read}
use Rattle.cel_terms.specs.declared.Pred.{Pred}
use Rattle.cel_terms.specs.Meaning.{lists_name}
use Rattle.query_leaves.specs.declared.occurrence.Change.{Change}
use Rattle.query_leaves.specs.declared.occurrence.Change.TheVariants as change
use Rattle.query_leaves.specs.declared.occurrence.TheConstants.{EVERY}
use Rattle.query_leaves.specs.Digests.{digest}
use Rattle.query_leaves.specs.Changes.{change_leaf, change_all, change_key, passes_by}
use Rattle.query_leaves.specs.Expand.{Occurrence}
use Rattle.query_leaves.proofs.Changes.{lists_reversed}
use Rattle.query_leaves.proofs.Above.{all_changes}

-- names with other digests differ
differ_by : (x : Bool) (a b : List ℕ) → bytes_eq a b ≡ x → (digest a ≡ digest b → ⊥) → bytes_eq a b ≡ false
differ_by true a b same other = absurd (other (ap digest ((bytes_eq-Decides a b).0 same)))
differ_by false a b differs other = differs

-- a change that asks for a name of another digest
pub passed_over : (key own : ℕ) (c : Change) (name : List ℕ) → key ≡ change_key c → own ≡ digest name → (key ≡ own → ⊥) → (key ≡ EVERY → ⊥) → true ≡ passes_by name c
passed_over key own (change.Named n) name is mine other each = absurd (each is)
passed_over key own (change.Keep l) name is mine other each = absurd (each is)
passed_over key own (change.Test n p) name is mine other each = sym (ap not (differ_by (bytes_eq name n.now.text) name n.now.text refl (λ e. other (is ∙ sym e ∙ sym mine))))

neither : (a b : Bool) → (a || b) ≡ false → (a ≡ false) × (b ≡ false)
neither true b e = absurd cc
neither false b e = (refl, e)

other_digest : (a b : ℕ) → nat_eq a b ≡ false → a ≡ b → ⊥
other_digest a b apart same = absurd (cc (apart, eq-eqb a b same))

none_listed : (names : List (Bor (List ℕ))) (name : List ℕ) → list_any (λ d. nat_eq d (digest name)) (map (λ n. digest n.now) names) ≡ false → lists_name (map (λ n. n.now) names) name ≡ false
none_listed [] name e = refl
none_listed (n ∷ ns) name e =
    let p = neither (nat_eq (digest n.now) (digest name)) _ e in
    ap (λ b. b || lists_name (map (λ m. m.now) ns) name) (differ_by (bytes_eq n.now name) n.now name refl (other_digest _ _ p.0)) ∙ none_listed ns name p.1

-- what a change that asks for none of the names leaves as it is
pub not_changed : (key : ℕ) (c : Change) (ty : List ℕ) (tests : List Pred) (names : List (Bor (List ℕ))) → key ≡ change_key c → (key ≡ EVERY → ⊥) → list_any (λ d. nat_eq d key) (map (λ n. digest n.now) names) ≡ false → change_leaf c (record { type = ty; tests = tests; names = map (λ n. n.now) (reverse names) }) ≡ record { type = ty; tests = tests; names = map (λ n. n.now) (reverse names) }
not_changed key (change.Named n) ty tests names is each none = absurd (each is)
not_changed key (change.Keep l) ty tests names is each none = absurd (each is)
not_changed key (change.Test n p) ty tests names is each none =
    let text = λ (m : Bor (List ℕ)). m.now in
    let name = n.now.text in
    let out : lists_name (map text (reverse names)) name ≡ false = lists_reversed text names name ∙ none_listed names name (ap (λ k. list_any (λ d. nat_eq d k) (map (λ n. digest n.now) names)) (sym is) ∙ none) in
    ap (λ b. record { type = ty; tests = cond b (p.now ∷ tests) tests; names = map text (reverse names) }) out

next_key : (cs : List Change) (keys : List ℕ) (k key : ℕ) (d : Change) → k < length cs → keys ≡ map change_key cs → key ≡ get_or keys k key → key ≡ change_key (get_or cs k d)
next_key cs keys k key d less are at =
    get_or_read (map change_key cs) k key (omega (arith, less, length-map cs change_key)) (subst (λ ks. key ≡ get_or ks k key) are at) (change_key d)
    ∙ get_or-map change_key cs k d (change_key d) less

-- up to the next change, which is made
pub next_made : (cs : List Change) (k : ℕ) (x : Change) (o before after : Occurrence) → k < length cs → x ≡ get_or cs k x → before ≡ change_all (take k cs) o → after ≡ change_leaf x before → after ≡ change_all (take (k + 1) cs) o
next_made cs k x o before after less at so_far made =
    made ∙ ap (change_leaf x) so_far ∙ ap (λ y. change_leaf y (change_all (take k cs) o)) at
    ∙ sym (ap (λ l. change_all l o) (take_more cs k x less) ∙ all_changes (take k cs) (get_or cs k x ∷ []) o)

-- up to the next change, which is passed over
pub next_passed : (cs : List Change) (keys : List ℕ) (k key : ℕ) (o before : Occurrence) → k < length cs → keys ≡ map change_key cs → key ≡ get_or keys k key → before ≡ change_all (take k cs) o → ((c : Change) → key ≡ change_key c → change_leaf c before ≡ before) → before ≡ change_all (take (k + 1) cs) o
next_passed [] keys k key o before less are at so_far same = absurd (omega (arith, less))
next_passed (d ∷ ds) keys k key o before less are at so_far same =
    let cs = d ∷ ds in
    let x = get_or cs k d in
    sym (same x (next_key cs keys k key d less are at)) ∙ ap (change_leaf x) so_far
    ∙ sym (ap (λ l. change_all l o) (take_more cs k d less) ∙ all_changes (take k cs) (x ∷ []) o)
