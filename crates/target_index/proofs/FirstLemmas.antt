-- The first of some nodes in tree order.
use Rattle.std.proofs.Common.{◌≡◌, ◌≤◌, ℕ, zero, suc, nat_eq, Bool, true, false, ◌||◌, take, refl, List, [], Option, Some, None, ◌∷◌}
use Rattle.std.specs.List.{list_any}
use Rattle.forest.specs.Forest.{Forest}
use Rattle.forest.specs.Keys.{Keyed}
use Rattle.forest.specs.Order.{place_of}
use Rattle.plain_types.specs.declared.node.Node.{Node}

-- it is one of the keys, and none of them comes before it
abbrev pub IsLeast : Forest (Keyed Node) → List ℕ → Option ℕ → Type 0
IsLeast tree keys None = keys ≡ []
IsLeast tree keys (Some key) = (list_any (nat_eq key) keys ≡ true) × ((other : ℕ) → list_any (nat_eq other) keys ≡ true → place_of tree key ≤ place_of tree other)

pub any_of_front : (key place : ℕ) (keys : List ℕ) → list_any (nat_eq key) (take place keys) ≡ true → list_any (nat_eq key) keys ≡ true
any_of_front key zero [] h = h
any_of_front key zero (other ∷ keys) h = absurd (cc)
any_of_front key (suc place) [] h = h
any_of_front key (suc place) (other ∷ keys) h = either (nat_eq key other) h (any_of_front key place keys)
  where
    either : (b : Bool) → (b || list_any (nat_eq key) (take place keys)) ≡ true → (list_any (nat_eq key) (take place keys) ≡ true → list_any (nat_eq key) keys ≡ true) → (b || list_any (nat_eq key) keys) ≡ true
    either true h more = refl
    either false h more = more h
