-- Values by ids, as a map keeps them.
use Rattle.std.specs.Prelude.{ℕ, List, map}
use Rattle.std.specs.Str.{chars}
use Rattle.indexmap.specs.IndexSet.{IndexSet, spare}
use Rattle.target_index.specs.Pairs.{Paired, Pairs}

-- the entries of a map, each by the characters of its key, with what its value shows
abbrev pub by_id : {K V W : Type 0} → (K → List ℕ) → (V → W) → List (K × V) → List (List ℕ × W)
by_id {K} {V} bytes show entries = map (λ (entry : K × V). (chars (bytes entry.0), show entry.1)) entries

abbrev pub paired : {S : Type 0} → IndexSet ℕ S → Paired
paired set = record { keys = set.keys; room = spare set }

abbrev pub pairs_of : {K S : Type 0} → (K → List ℕ) → List (K × IndexSet ℕ S) → Pairs
pairs_of bytes entries = by_id bytes paired entries
