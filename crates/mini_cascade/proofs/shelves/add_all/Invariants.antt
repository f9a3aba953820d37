use Rattle.std.proofs.Common.{◌≡◌, ◌||◌, ℕ, List, Bor, nat_eq, drop}
use Rattle.std.specs.List.{list_any}
use Rattle.mini_cascade.specs.Machinery.Shelves.{is_filed}
use Rattle.mini_cascade.proofs.shelves.add_all.Given as goal

abbrev pub invariant-loop-name : goal.invariant-loop-name
invariant-loop-name l =
    (place : ℕ) → (list_any (nat_eq place) l.places.items || list_any (λ (name : Bor (List ℕ)). is_filed l.shelf name.now place) (drop l.name-index l.names))
    ≡ (list_any (nat_eq place) l.initial.places.items || list_any (λ (name : Bor (List ℕ)). is_filed l.shelf name.now place) l.names)
