-- A list as its first entry and the rest.
use Rattle.std.proofs.Common.{◌≡◌, ℕ, zero, suc, ◌-◌, ◌≤◌, List, ◌∷◌, ap, ◌∙◌, arith}
use Rattle.std.specs.Prelude.{insert}
use Rattle.cer_base.specs.declared.node.Root.{Root}

before : (k : ℕ) → suc k - 1 ≡ k
before k = omega arith

-- an entry that goes into the rest
pub insert_rest : (l xs ys : List Root) (x e : Root) (k : ℕ) → x ∷ xs ≡ l → 1 ≤ k → ys ≡ insert xs (k - 1) e → x ∷ ys ≡ insert l k e
insert_rest l xs ys x e zero is some at = absurd (omega arith)
insert_rest l xs ys x e (suc k) is some at = ap (λ es. x ∷ es) at ∙ ap (λ i. x ∷ insert xs i e) (before k) ∙ ap (λ es. insert es (suc k) e) is
