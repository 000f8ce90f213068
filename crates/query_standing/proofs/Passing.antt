-- Events of a key that its lists have let pass.
use Rattle.std.proofs.Common.{◌≡◌, ℕ, ◌<◌, ◌⊎◌, inl, inr, ℤ, Bool, List, [], ◌∷◌, ◌++◌, refl, sym, ap, subst, ◌∙◌, All, append_assoc}
use Rattle.std.proofs.lemmas.List.Elements.{All-nil, All-cons, All-head, All-tail}
use Rattle.cer_base.specs.declared.node.Node.{Node}
use Rattle.stream_schema.specs.Types.{Declared}
use Rattle.stream_schema.specs.declared.Event.{Event}
use Rattle.stream_schema.specs.declared.Value.{Value}
use Rattle.cel_terms.specs.declared.Query.{Query}
use Rattle.cea_determinise.specs.Runs.{Automaton}
use Rattle.cea_determinise.specs.Strict.{Standing}
use Rattle.cea_determinise.specs.Cea as stored
use Rattle.cea_determinise.specs.LazyDfa.{Table}
use Rattle.cer_base.specs.Members.{Member}
use Rattle.event_update.specs.Reach.{Seen, Reaches}
use Rattle.event_update.specs.Stands.{Stands}
use Rattle.event_update.specs.Dormancy.{IsSkipInsensitive, IsSilent}
use Rattle.event_update.proofs.SkipInsensitive.{ComeAfter, skip_insensitive_stands, skip_insensitive_reaches}
use Rattle.query_standing.specs.Keys.{positions, AreSeen}
use Rattle.query_standing.specs.Kept.{Rows, QueryState, KeyStands, KeyIsKept}
use Rattle.query_standing.proofs.Lists.{Rises, rises_apart}
use Rattle.query_standing.proofs.Link.{positions_append}

pub append_none : {X : Type 0} (xs : List X) → xs ++ [] ≡ xs
append_none [] = refl
append_none (x ∷ xs) = ap (λ zs. x ∷ zs) (append_none xs)

pub all_front : {X : Type 0} (P : X → Type 0) (xs ys : List X) → All P (xs ++ ys) → All P xs
all_front P [] ys h = All-nil P
all_front P (x ∷ xs) ys h = All-cons P x xs (All-head P x (xs ++ ys) h) (all_front P xs ys (All-tail P x (xs ++ ys) h))

-- all of the positions are below a number
pub all_below : (n : ℕ) (xs : List Seen) → All (λ p. p < n) (positions xs) → All (λ (x : Seen). x.stamp.pos < n) xs
all_below n [] a = All-nil (λ (x : Seen). x.stamp.pos < n)
all_below n (x ∷ xs) a = All-cons (λ (x : Seen). x.stamp.pos < n) x xs (All-head (λ p. p < n) x.stamp.pos (positions xs) a) (all_below n xs (All-tail (λ p. p < n) x.stamp.pos (positions xs) a))

-- what is seen in order comes one after the other
pub come_after : (xs zs : List Seen) → Rises (positions (xs ++ zs)) → ComeAfter xs zs
come_after xs [] r = tt
come_after xs (z ∷ zs) r = (
  all_below z.stamp.pos xs (rises_apart (positions xs) z.stamp.pos (positions zs) (subst Rises (positions_append xs (z ∷ zs)) r)).0,
  come_after (xs ++ z ∷ []) zs (subst (λ ys. Rises (positions ys)) (sym (append_assoc xs (z ∷ []) zs)) r),
)

-- lists that stand for all events have let none pass
pub kept_whole : (schema : Declared) (q : Query) (events : List Event) (query_state : QueryState) (key : List Value) (rows : Rows) → KeyStands schema q events query_state key rows → KeyIsKept schema q events query_state key rows
kept_whole schema q events query_state key rows k = record {
  taken = k.seen;
  no_op = [];
  are_seen = subst (AreSeen schema q events key) (sym (append_none k.seen)) k.are_seen;
  silent = All-nil IsSilent;
  skip_insensitive = inl refl;
  stands = k.stands;
}

-- where lists have let none pass they stand for all events
pub seen_taken : (schema : Declared) (q : Query) (events : List Event) (query_state : QueryState) (key : List Value) (rows : Rows) (k : KeyIsKept schema q events query_state key rows) → k.no_op ≡ [] → AreSeen schema q events key k.taken
seen_taken schema q events query_state key rows k none = subst (AreSeen schema q events key) (ap (λ ps. k.taken ++ ps) none ∙ append_none k.taken) k.are_seen

-- what stands without the events that passed, and one more, stands with them
pub with_no_op : (table : Table) (a : Automaton) (strict : Bool) (low : ℤ) (taken no_op : List Seen) (last : Seen) (nodes : List Node) (rows : Rows) → stored.automaton_of_cea table.cea ≡ a → table.cea.strict ≡ strict → (no_op ≡ []) ⊎ IsSkipInsensitive a strict → All IsSilent no_op → Rises (positions (taken ++ no_op)) → All (λ (x : Seen). x.stamp.pos < last.stamp.pos) (taken ++ no_op) → Stands table low (taken ++ last ∷ []) nodes rows → Stands table low ((taken ++ no_op) ++ last ∷ []) nodes rows
with_no_op table a strict low taken no_op last nodes rows automaton is_strict (inl none) silent rise later st = subst (λ xs. Stands table low (xs ++ last ∷ []) nodes rows) (sym (ap (λ ps. taken ++ ps) none ∙ append_none taken)) st
with_no_op table a strict low taken no_op last nodes rows automaton is_strict (inr skip_insensitive) silent rise later st =
    skip_insensitive_stands table low taken no_op last nodes rows
    (subst (λ b. IsSkipInsensitive b table.cea.strict) (sym automaton) (subst (IsSkipInsensitive a) (sym is_strict) skip_insensitive))
    silent (come_after taken no_op rise) later st

-- and so does where a member leads
pub leads_with_no_op : (a : Automaton) (strict : Bool) (taken no_op : List Seen) (last : Seen) (t : Standing) (m : Member) → (no_op ≡ []) ⊎ IsSkipInsensitive a strict → All IsSilent no_op → Rises (positions (taken ++ no_op)) → All (λ (x : Seen). x.stamp.pos < last.stamp.pos) (taken ++ no_op) → Reaches a strict (taken ++ last ∷ []) t m → Reaches a strict ((taken ++ no_op) ++ last ∷ []) t m
leads_with_no_op a strict taken no_op last t m (inl none) silent rise later r = subst (λ xs. Reaches a strict (xs ++ last ∷ []) t m) (sym (ap (λ ps. taken ++ ps) none ∙ append_none taken)) r
leads_with_no_op a strict taken no_op last t m (inr skip_insensitive) silent rise later r = skip_insensitive_reaches a strict taken no_op last t m skip_insensitive silent (come_after taken no_op rise) later r
