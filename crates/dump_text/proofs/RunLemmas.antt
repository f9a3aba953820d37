-- Runs of bytes between two escapes.
use Rattle.std.proofs.Common.{◌≡◌, ℕ, ◌+◌, ◌-◌, ◌<◌, ◌≤◌, true, false, List, [], ◌∷◌, ◌++◌, length, get_or, take, drop, sym, ◌∙◌, ap, append-nil, append_assoc, cond, arith, get_or-drop, length-drop, take_all}
use Rattle.std.proofs.lemmas.List.{take_more, get_or_default}
use Rattle.std.specs.List.{flat_map}
use Rattle.dump_definitions.specs.Dump.{escape, is_escaped, shown}
use Rattle.ports.proofs.PieceLemmas.{pieces-more}

-- one byte more
shown_more : (bytes : List ℕ) (place : ℕ) → place < length bytes
    → flat_map shown (take (place + 1) bytes) ≡ flat_map shown (take place bytes) ++ shown (get_or bytes place 0)
shown_more bytes place below = pieces-more shown bytes place (get_or bytes place 0) below (get_or_default bytes place 0 (get_or bytes place 0) below)

-- one escape more
pub escape_more : (bytes : List ℕ) (place : ℕ) → place < length bytes → is_escaped (get_or bytes place 0) ≡ true
    → flat_map shown (take (place + 1) bytes) ≡ flat_map shown (take place bytes) ++ escape (get_or bytes place 0)
escape_more bytes place below escaped =
    shown_more bytes place below
    ∙ ap (λ b. flat_map shown (take place bytes) ++ cond b (escape (get_or bytes place 0)) (get_or bytes place 0 ∷ [])) escaped

-- a run that is one byte longer
run_more : (bytes : List ℕ) (start place : ℕ) → start ≤ place → place < length bytes
    → take (place + 1 - start) (drop start bytes) ≡ take (place - start) (drop start bytes) ++ get_or bytes place 0 ∷ []
run_more bytes start place within below =
    let longer : place + 1 - start ≡ (place - start) + 1 = omega arith in
    let at : start + (place - start) ≡ place = omega arith in
    let inside : place - start < length (drop start bytes) = omega (arith, length-drop start bytes) in
    ap (λ n. take n (drop start bytes)) longer
    ∙ take_more (drop start bytes) (place - start) 0 inside
    ∙ ap (λ b. take (place - start) (drop start bytes) ++ b ∷ []) (get_or-drop start bytes (place - start) 0 ∙ ap (λ n. get_or bytes n 0) at)

-- one plain byte more
pub plain_more : (bytes : List ℕ) (start place : ℕ) → start ≤ place → place < length bytes → is_escaped (get_or bytes place 0) ≡ false
    → flat_map shown (take place bytes) ≡ flat_map shown (take start bytes) ++ take (place - start) (drop start bytes)
    → flat_map shown (take (place + 1) bytes) ≡ flat_map shown (take start bytes) ++ take (place + 1 - start) (drop start bytes)
plain_more bytes start place within below plain so_far =
    shown_more bytes place below
    ∙ ap (λ b. flat_map shown (take place bytes) ++ cond b (escape (get_or bytes place 0)) (get_or bytes place 0 ∷ [])) plain
    ∙ ap (λ bs. bs ++ get_or bytes place 0 ∷ []) so_far
    ∙ append_assoc (flat_map shown (take start bytes)) (take (place - start) (drop start bytes)) (get_or bytes place 0 ∷ [])
    ∙ ap (λ bs. flat_map shown (take start bytes) ++ bs) (sym (run_more bytes start place within below))

-- no run yet
pub run_none : (bytes : List ℕ) (start : ℕ) → flat_map shown (take start bytes) ≡ flat_map shown (take start bytes) ++ take (start - start) (drop start bytes)
run_none bytes start = let none : start - start ≡ 0 = omega arith in rw none (sym (append-nil (flat_map shown (take start bytes))))

-- the run at the end
pub run_last : (bytes : List ℕ) (start place : ℕ) → length bytes ≤ place → place ≤ length bytes
    → flat_map shown (take place bytes) ≡ flat_map shown (take start bytes) ++ take (place - start) (drop start bytes)
    → flat_map shown (take start bytes) ++ take (length bytes - start) (drop start bytes) ++ [] ≡ flat_map shown bytes
run_last bytes start place low high so_far =
    let end : length bytes ≡ place = omega arith in
    append-nil (flat_map shown (take start bytes) ++ take (length bytes - start) (drop start bytes))
    ∙ ap (λ n. flat_map shown (take start bytes) ++ take (n - start) (drop start bytes)) end
    ∙ sym so_far
    ∙ ap (λ bs. flat_map shown bs) (take_all place bytes low)
