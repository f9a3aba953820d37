-- Values by names, as a map keeps them (our own).
use Rattle.std.specs.Prelude.{ℕ, Bool, false, ◌==◌, List, Option, map}
use Rattle.std.specs.Map.{lookup}
use Rattle.std.specs.Option.{option_map_or}
use Rattle.std.specs.Str.{bytes_eq, chars}

-- the entries of a map from texts, which have these bytes
abbrev pub by_names : {K V : Type 0} → (K → List ℕ) → List (K × V) → List (List ℕ × V)
by_names bytes entries = map (λ entry. (chars (bytes entry.0), entry.1)) entries

abbrev pub value_of : {V : Type 0} → List (List ℕ × V) → List ℕ → Option V
value_of values name = lookup (bytes_eq name) values

-- whether the place that was found is this one
abbrev pub is_at : Option ℕ → ℕ → Bool
is_at found place = option_map_or (λ at. at == place) found false
