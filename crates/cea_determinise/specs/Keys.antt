-- When two states are equal, and when two pairs of state and class are.
use Rattle.std.specs.Prelude.{◌≡◌, Bool, true, false, ◌&&◌, List, refl, eqb}
use Rattle.std.proofs.Common.{subst}
use Rattle.std.specs.Bool.{Decides, beq}
use Rattle.std.specs.Cmp.{booleans_Decides}
use Rattle.std.specs.Cmp.Lexicographic.{pointwise, pointwise_decides}
use Rattle.std.proofs.lemmas.Bool.{and_parts, false≢true}
use Rattle.std.proofs.lemmas.Bool.Decides.{Decides-eqb}
use Rattle.cea_determinise.specs.declared.cea.StateSets.{StateSets}
use Rattle.cea_determinise.specs.declared.cea.Phase.{Phase}
use Rattle.cea_determinise.specs.declared.cea.Phase.TheVariants.{Before, Within, After}
use Rattle.cea_determinise.specs.declared.table.TransitionKey.{TransitionKey}

abbrev pub is_same_set : List Bool → List Bool → Bool
is_same_set a b = pointwise beq a b

abbrev pub is_same_phase : Phase → Phase → Bool
is_same_phase Before Before = true
is_same_phase Before Within = false
is_same_phase Before After = false
is_same_phase Within Before = false
is_same_phase Within Within = true
is_same_phase Within After = false
is_same_phase After Before = false
is_same_phase After Within = false
is_same_phase After After = true

-- the sets and the phase are the same
abbrev pub are_same_sets : StateSets → StateSets → Bool
are_same_sets p q = is_same_set p.fresh q.fresh && (is_same_set p.waiting q.waiting && is_same_phase p.phase q.phase)

-- the state and the class are the same
abbrev pub is_same_key : TransitionKey → TransitionKey → Bool
is_same_key p q = eqb p.state q.state && eqb p.event_class q.event_class

both : (a b : Bool) → a ≡ true → b ≡ true → a && b ≡ true
both true b e f = f
both false b e f = e

same_phase : (s t : Phase) → is_same_phase s t ≡ true → s ≡ t
same_phase Before Before e = refl
same_phase Before Within e = absurd (false≢true e)
same_phase Before After e = absurd (false≢true e)
same_phase Within Before e = absurd (false≢true e)
same_phase Within Within e = refl
same_phase Within After e = absurd (false≢true e)
same_phase After Before e = absurd (false≢true e)
same_phase After Within e = absurd (false≢true e)
same_phase After After e = refl

own_phase : (s : Phase) → is_same_phase s s ≡ true
own_phase Before = refl
own_phase Within = refl
own_phase After = refl

pub Decides-set : (a b : List Bool) → Decides (is_same_set a b) (a ≡ b)
Decides-set a b = pointwise_decides booleans_Decides a b

own_set : (a : List Bool) → is_same_set a a ≡ true
own_set a = (pointwise_decides booleans_Decides a a).1 refl

own_sets : (p : StateSets) → are_same_sets p p ≡ true
own_sets p = both _ _ (own_set p.fresh) (both _ _ (own_set p.waiting) (own_phase p.phase))

own_key : (p : TransitionKey) → is_same_key p p ≡ true
own_key p = both _ _ ((Decides-eqb p.state p.state).1 refl) ((Decides-eqb p.event_class p.event_class).1 refl)

pub Decides-sets : (p q : StateSets) → Decides (are_same_sets p q) (p ≡ q)
Decides-sets p q = (same, λ e. subst (λ r. are_same_sets p r ≡ true) e (own_sets p))
  where
    same : are_same_sets p q ≡ true → p ≡ q
    same e =
        let front = and_parts (is_same_set p.fresh q.fresh) (is_same_set p.waiting q.waiting && is_same_phase p.phase q.phase) e in
        let back = and_parts (is_same_set p.waiting q.waiting) (is_same_phase p.phase q.phase) front.1 in
        let fresh = (pointwise_decides booleans_Decides p.fresh q.fresh).0 front.0 in
        let waiting = (pointwise_decides booleans_Decides p.waiting q.waiting).0 back.0 in
        let phase = same_phase p.phase q.phase back.1 in
        λ i. record { fresh = fresh i; waiting = waiting i; phase = phase i }

pub Decides-key : (p q : TransitionKey) → Decides (is_same_key p q) (p ≡ q)
Decides-key p q = (same, λ e. subst (λ r. is_same_key p r ≡ true) e (own_key p))
  where
    same : is_same_key p q ≡ true → p ≡ q
    same e =
        let parts = and_parts (eqb p.state q.state) (eqb p.event_class q.event_class) e in
        let state = (Decides-eqb p.state q.state).0 parts.0 in
        let event_class = (Decides-eqb p.event_class q.event_class).0 parts.1 in
        λ i. record { state = state i; event_class = event_class i }
