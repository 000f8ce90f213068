-- The attributes of a declaration in turn, each tested with the names of those before it.
use Rattle.std.proofs.Common.{◌≡◌, refl, sym, ap, ap₂, ◌∙◌, ℕ, suc, ◌+◌, ◌<◌, add-one, not, List, [], ◌∷◌, ◌++◌, Option, Some, None, length, drop, get_or}
use Rattle.std.proofs.Math.Seq.{drop-cons}
use Rattle.std.specs.Prelude.{Err}
use Rattle.std.specs.Option.{option_or}
use Rattle.cer_base.specs.declared.OrMemory.{OrMemory}
use Rattle.cer_base.specs.declared.OrMemory.TheVariants as wanted
use Rattle.cel_terms.specs.Meaning.{lists_name}
use Rattle.ceql_grammar.specs.declared.faults.QueryFault.TheVariants.{NameTaken}
use Rattle.ceql_grammar.specs.declared.faults.QueryError.{QueryError}
use Rattle.ceql_grammar.specs.declared.terms.AttrDecl.{AttrDecl}
use Rattle.ceql_parser.specs.FirstFaults.{unless_named, FindsFault}
use Rattle.ceql_parser.specs.StatementFaults.{repeats_fault}
use Rattle.ceql_parser.specs.NameSets.{HaveSameNames}
use Rattle.ceql_parser.proofs.NameSetLemmas.{same_self, same_both, same_turned}

-- the fault of an attribute with a name of an earlier one
abbrev taken_fault : List (List ℕ) → AttrDecl → Option QueryError
taken_fault earlier a = unless_named (not (lists_name earlier a.name.text)) NameTaken a.name

repeats_same : (a b : List (List ℕ)) → HaveSameNames a b → (attrs : List AttrDecl) → repeats_fault a attrs ≡ repeats_fault b attrs
repeats_same a b s [] = refl
repeats_same a b s (x ∷ xs) =
    ap₂ (λ o p. option_or o p) (ap (λ t. unless_named (not t) NameTaken x.name) (s.at x.name.text))
    (repeats_same (a ++ x.name.text ∷ []) (b ++ x.name.text ∷ []) (same_both a b (x.name.text ∷ []) (x.name.text ∷ []) s (same_self (x.name.text ∷ []))) xs)

-- the attributes from place i on
repeats_step : (earlier : List (List ℕ)) (attrs : List AttrDecl) (i : ℕ) (d : AttrDecl) → i < length attrs → repeats_fault earlier (drop i attrs) ≡ option_or (taken_fault earlier (get_or attrs i d)) (repeats_fault (earlier ++ (get_or attrs i d).name.text ∷ []) (drop (i + 1) attrs))
repeats_step earlier attrs i d h = rw (add-one, drop-cons attrs i d) refl

skips : {Y : Type 0} (o p : Option Y) → o ≡ None → option_or o p ≡ p
skips None p e = refl
skips (Some y) p e = absurd cc

stops : {Y : Type 0} (o p : Option Y) (y : Y) → o ≡ Some y → option_or o p ≡ Some y
stops None p y e = absurd cc
stops (Some z) p y e = e

pub repeats_kept : (attrs : List AttrDecl) (i : ℕ) (a : AttrDecl) (total : Option QueryError) (now new : List (List ℕ)) → i < length attrs → a ≡ get_or attrs i a → total ≡ repeats_fault now (drop i attrs) → unless_named (not (lists_name now a.name.text)) NameTaken a.name ≡ None → HaveSameNames new (now ++ a.name.text ∷ []) → total ≡ repeats_fault new (drop (i + 1) attrs)
repeats_kept attrs i a total now new h at before here s =
    before ∙ repeats_step now attrs i a h
    ∙ skips (taken_fault now (get_or attrs i a)) (repeats_fault (now ++ (get_or attrs i a).name.text ∷ []) (drop (i + 1) attrs)) (ap (taken_fault now) (sym at) ∙ here)
    ∙ ap (λ x. repeats_fault (now ++ x.name.text ∷ []) (drop (i + 1) attrs)) (sym at)
    ∙ repeats_same (now ++ a.name.text ∷ []) new (same_turned new (now ++ a.name.text ∷ []) s) (drop (i + 1) attrs)

pub repeats_told : (T U : Type 0) (attrs : List AttrDecl) (i : ℕ) (a : AttrDecl) (stop : OrMemory QueryError) (total : Option QueryError) (now : List (List ℕ)) → i < length attrs → a ≡ get_or attrs i a → total ≡ repeats_fault now (drop i attrs) → FindsFault {T = T} (Err stop) (unless_named (not (lists_name now a.name.text)) NameTaken a.name) → FindsFault {T = U} (Err stop) total
repeats_told T U attrs i a (wanted.Fault e) total now h at before told =
    before ∙ repeats_step now attrs i a h
    ∙ stops (taken_fault now (get_or attrs i a)) (repeats_fault (now ++ (get_or attrs i a).name.text ∷ []) (drop (i + 1) attrs)) e (ap (taken_fault now) (sym at) ∙ told)
repeats_told T U attrs i a wanted.Memory total now h at before told = tt
