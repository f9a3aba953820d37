use Rattle.std.proofs.Common.{◌≡◌, ℕ, ◌+◌, ◌-◌, ◌≤◌, length, take, drop, take-add, List, ◌++◌, Option, sym, ◌∙◌, ap}
use Rattle.std.proofs.lemmas.List.{take_rest}
use Rattle.ports.specs.Grown.{grown}
use Rattle.ports.proofs.GrownLemmas.{grown_after}

-- a front of what is left, after what stands before it
take_more : (bytes : List ℕ) (start count : ℕ) → start ≤ length bytes
    → take start bytes ++ take count (take (length bytes - start) (drop start bytes)) ≡ take (start + count) bytes
take_more bytes start count within = rw take_rest (sym (take-add start count bytes))

-- the same, as it went out
pub written_more : (before middle now : Option (List ℕ)) (bytes : List ℕ) (start count : ℕ) → start ≤ length bytes
    → middle ≡ grown before (take start bytes)
    → now ≡ grown middle (take count (take (length bytes - start) (drop start bytes)))
    → now ≡ grown before (take (start + count) bytes)
written_more before middle now bytes start count within written more =
    grown_after before middle now _ _ written more ∙ ap (λ bs. grown before bs) (take_more bytes start count within)
