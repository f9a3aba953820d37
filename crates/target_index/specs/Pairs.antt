-- Elements that are paired with ids (our own).
use Rattle.std.specs.Prelude.{ℕ, nat_eq, Bool, List, [], IsSome}
use Rattle.std.specs.List.{list_any}
use Rattle.std.specs.Map.{lookup}
use Rattle.std.specs.Option.{option_map_or}
use Rattle.std.specs.Str.{bytes_eq}

-- the elements that are paired with an id, by their keys, in no stated order, and how many more find room there
-- without memory
pub record Paired : Type 0 where
  pub keys : List ℕ
  pub room : ℕ

-- ids, each with what is paired with it
abbrev pub Pairs : Type 0
Pairs = List (List ℕ × Paired)

abbrev pub IsEntered : Pairs → List ℕ → Type 0
IsEntered pairs id = IsSome (lookup (bytes_eq id) pairs)

abbrev pub keys_of : Pairs → List ℕ → List ℕ
keys_of pairs id = option_map_or (λ (paired : Paired). paired.keys) (lookup (bytes_eq id) pairs) []

abbrev pub room_of : Pairs → List ℕ → ℕ
room_of pairs id = option_map_or (λ (paired : Paired). paired.room) (lookup (bytes_eq id) pairs) 0

abbrev pub is_pair : Pairs → List ℕ → ℕ → Bool
is_pair pairs id key = list_any (nat_eq key) (keys_of pairs id)
