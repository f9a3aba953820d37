-- Paths: a node's is its parent's and its position, and a path that is led past a node that comes is led back where it goes.
use Rattle.std.proofs.Common.{◌≡◌, ◌==◌, ◌<◌, ◌+◌, ◌-◌, ℕ, suc, nat_lt, true, false, List, [], ◌∷◌, length, Option, None, refl, ap, inl, inr, arith, ltb-true, ltb-false, lt-ltb, ne_eqb}
use Rattle.std.proofs.lemmas.Bool.{cases_Bool}
use Rattle.std.specs.List.{last_or}
use Rattle.node_arena.specs.AtPaths.{leads_into, once_out}
use Rattle.edit_inverses.specs.Inverses.{child_at, last_position, once_in, parent_path}

-- A node's path.

last_there : (first : ℕ) (o : Option ℕ) (path : List ℕ) → last_or o (first ∷ path) ≡ last_or None (first ∷ path)
last_there first o path = refl

pub whole_path : (path : List ℕ) → 0 < length path → path ≡ child_at (parent_path path) (last_position path)
whole_path [] some = absurd (omega arith)
whole_path (first ∷ []) some = refl
whole_path (first ∷ (next ∷ path)) some =
    let long : length (first ∷ (next ∷ path)) - 1 ≡ suc (length (next ∷ path) - 1) = omega arith in
    rw long (ap (λ rest. first ∷ rest) (whole_path (next ∷ path) (omega arith)))

pub child_long : (parent : List ℕ) (index : ℕ) → 0 < length (child_at parent index)
child_long [] index = omega arith
child_long (p ∷ parent) index = omega arith

-- Past a node that comes.

pub out_of_in : (there path : List ℕ) → once_out there (once_in there path) ≡ path
out_of_in [] path = refl
out_of_in (come ∷ []) [] = refl
out_of_in (come ∷ (next ∷ above)) [] = refl
out_of_in (come ∷ []) (position ∷ path) = elim (cases_Bool (nat_lt position come)) [
  | inl e ↦
      let low : position < come = ltb-true position come e in
      let stays : nat_lt come position ≡ false = ne_lt come position (omega arith) in
      rw (e, stays) refl
  | inr e ↦
      let low = ltb-false position come e in
      let moves : nat_lt come (position + 1) ≡ true = lt-ltb come (position + 1) (omega arith) in
      let back : position + 1 - 1 ≡ position = omega arith in
      rw (e, moves, back) refl
]
  where
    ne_lt : (a b : ℕ) → (a < b → ⊥) → nat_lt a b ≡ false
    ne_lt a b not_low = elim (cases_Bool (nat_lt a b)) [
      | inl e ↦ absurd (not_low (ltb-true a b e))
      | inr e ↦ e
    ]
out_of_in (step ∷ (next ∷ above)) (position ∷ path) = elim (cases_Bool (step == position)) [
  | inl e ↦ rw e (ap (λ rest. position ∷ rest) (out_of_in (next ∷ above) path))
  | inr e ↦ rw e refl
]

pub not_into : (there path : List ℕ) → 0 < length there → leads_into there (once_in there path) ≡ false
not_into [] path some = absurd (omega arith)
not_into (come ∷ []) [] some = refl
not_into (come ∷ (next ∷ above)) [] some = refl
not_into (come ∷ []) (position ∷ path) some = elim (cases_Bool (nat_lt position come)) [
  | inl e ↦
      let low : position < come = ltb-true position come e in
      let other : (come == position) ≡ false = ne_eqb come position (λ same. omega (arith, same, low)) in
      rw (e, other) refl
  | inr e ↦
      let low = ltb-false position come e in
      let other : (come == position + 1) ≡ false = ne_eqb come (position + 1) (λ same. omega (arith, same, low)) in
      rw (e, other) refl
]
not_into (step ∷ (next ∷ above)) (position ∷ path) some = elim (cases_Bool (step == position)) [
  | inl e ↦ rw e (not_into (next ∷ above) path (omega arith))
  | inr e ↦ rw e refl
]
