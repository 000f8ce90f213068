-- Whether a list has a name.
use Rattle.std.proofs.Common.{◌≡◌, refl, ap, ◌||◌, ℕ, List, [], ◌∷◌, map, bytes_eq, Bor}
use Rattle.std.specs.List.{list_any}
use Rattle.cel_terms.specs.declared.Name.{Name}
use Rattle.cel_terms.specs.Meaning.{lists_name}

pub named_is : (names : List (Bor (List ℕ))) (name : List ℕ) → lists_name (map (λ n. n.now) names) name ≡ list_any (λ n. bytes_eq n.now name) names
named_is [] name = refl
named_is (n ∷ ns) name = ap (λ b. bytes_eq n.now name || b) (named_is ns name)

pub listed_is : (listed : List Name) (name : List ℕ) → lists_name (map (λ n. n.text) listed) name ≡ list_any (λ n. bytes_eq n.text name) listed
listed_is [] name = refl
listed_is (n ∷ ns) name = ap (λ b. bytes_eq n.text name || b) (listed_is ns name)
