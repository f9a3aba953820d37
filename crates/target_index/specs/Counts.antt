-- How often ids come.
use Rattle.std.specs.Prelude.{ℕ, List, unwrap_or}
use Rattle.std.specs.Map.{lookup}
use Rattle.std.specs.Str.{bytes_eq}
use Rattle.target_index.specs.Views.{by_id}

abbrev pub count_of : List (List ℕ × ℕ) → List ℕ → ℕ
count_of counts id = unwrap_or (lookup (bytes_eq id) counts) 0

abbrev pub counts_of : {K : Type 0} → (K → List ℕ) → List (K × ℕ) → List (List ℕ × ℕ)
counts_of bytes entries = by_id bytes (λ count. count) entries
