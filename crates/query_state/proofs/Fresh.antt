-- What a query state is for which the last event was not a no-op. For callers of the crate too.
use Rattle.std.proofs.Common.{◌≡◌, ℕ, ◌==◌, true, sym, ap, None}
use Rattle.std.specs.Prelude.{if◌then◌else◌}
use Rattle.std.proofs.lemmas.Bool.{eq-eqb}
use Rattle.all_or_none.specs.Phases.{Phase}
use Rattle.all_or_none.specs.Dormancy.{here_at, phase_at}

-- once as many events as it was taken to, it is as it is kept
pub fresh_seen : (count : ℕ) (p : Phase) → p.upto ≡ count → phase_at count p ≡ p
fresh_seen count p is = (λ i. record p { kept = record p.kept { here = here i } })
  where
    now : (count == p.upto) ≡ true
    now = eq-eqb count p.upto (sym is)

    here : here_at p.upto count p.kept.here ≡ p.kept.here
    here = ap (λ b. if b then p.kept.here else None) now
