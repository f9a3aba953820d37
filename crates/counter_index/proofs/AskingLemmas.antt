-- How many elements ask for starts.
use Rattle.std.proofs.Common.{◌≡◌, ◌<◌, ◌≤◌, ◌+◌, ◌++◌, ◌∷◌, ℕ, zero, suc, Bool, true, false, not, eqb, List, [], Option, None, cond, inl, inr, length, get_or, set, replicate, refl, sym, ap, subst, ◌∙◌, arith}
use Rattle.std.proofs.lemmas.Bool.{cases_Bool, eqb-false, ne_eqb, not-true, not_from_false}
use Rattle.std.proofs.Math.ListN.{length-set}
use Rattle.snapshot_board.specs.Records.{Records}
use Rattle.snapshot_board.specs.Slots.{held_in, records_in}
use Rattle.snapshot_board.proofs.SlotLemmas.{get-held_in}
use Rattle.counter_index.specs.Machinery.Asking.{HasAsking, count_asking, is_asking}

module _ {T : Type 0} (asks : T → Bool) where
  abbrev one_if : Bool → ℕ
  one_if b = cond b 1 0

  one-small : (b : Bool) → one_if b ≤ 1
  one-small true = omega arith
  one-small false = omega arith

  count-small : (slots : List (Option T)) → count_asking asks slots ≤ length slots
  count-small [] = omega arith
  count-small (slot ∷ slots) = omega (arith, one-small (is_asking asks slot), count-small slots)

  -- an exchange at one place
  put-count : (slots : List (Option T)) (place : ℕ) (kept : Option T) → place < length slots
      → count_asking asks (set slots place kept) + one_if (is_asking asks (get_or slots place None)) ≡ count_asking asks slots + one_if (is_asking asks kept)
  put-count [] place kept within = absurd (omega arith)
  put-count (slot ∷ slots) zero kept within = omega arith
  put-count (slot ∷ slots) (suc place) kept within = omega (arith, put-count slots place kept (omega arith))

  any-default : (slots : List (Option T)) (place : ℕ) (default other : Option T) → place < length slots → get_or slots place default ≡ get_or slots place other
  any-default [] place default other within = absurd (omega arith)
  any-default (slot ∷ slots) zero default other within = refl
  any-default (slot ∷ slots) (suc place) default other within = any-default slots place default other (omega arith)

  -- one comes to the place of a slot, or not, and one goes, or not
  module _ (slots : List (Option T)) (place : ℕ) (kept slot default : Option T) (came went : Bool) (within : place < length slots) (comes : came ≡ is_asking asks kept) (was : slot ≡ get_or slots place default) (goes : went ≡ is_asking asks slot) where
    put-counted : count_asking asks (set slots place kept) + one_if went ≡ count_asking asks slots + one_if came
    put-counted =
        ap (λ (b : Bool). count_asking asks (set slots place kept) + one_if b) (goes ∙ ap (is_asking asks) (was ∙ any-default slots place default None within))
        ∙ put-count slots place kept within
        ∙ ap (λ (b : Bool). count_asking asks slots + one_if b) (sym comes)

    none-counted : count_asking asks (set slots place None) + one_if went ≡ count_asking asks slots + 0
    none-counted =
        ap (λ (b : Bool). count_asking asks (set slots place None) + one_if b) (goes ∙ ap (is_asking asks) (was ∙ any-default slots place default None within))
        ∙ put-count slots place None within

    pub few-asking : (count room : ℕ) → count ≡ count_asking asks slots → room ≡ length slots → count + one_if came ≤ room + one_if went
    few-asking count room is all = omega (arith, is, all, put-counted, count-small (set slots place kept), length-set slots place kept)

    pub some-asking : (count : ℕ) → count ≡ count_asking asks slots → one_if went ≤ count
    some-asking count is = omega (arith, is, none-counted)

    pub count-put : (count later : ℕ) (slots' : List (Option T)) → count ≡ count_asking asks slots → slots' ≡ set slots place kept → later + one_if went ≡ count + one_if came
        → later ≡ count_asking asks slots'
    count-put count later slots' is put told = let there : later ≡ count_asking asks (set slots place kept) = omega (arith, is, told, put-counted) in there ∙ ap (count_asking asks) (sym put)

  -- empty slots ask for nothing
  pub count-added : (slots : List (Option T)) (additional : ℕ) → count_asking asks (slots ++ replicate additional None) ≡ count_asking asks slots
  count-added [] zero = refl
  count-added [] (suc additional) = omega (arith, count-added [] additional)
  count-added (slot ∷ slots) additional = ap (λ count. one_if (is_asking asks slot) + count) (count-added slots additional)

  -- some element asks where there are any

  find-asking : (slots : List (Option T)) → 0 < count_asking asks slots → (place : ℕ) × (is_asking asks (get_or slots place None) ≡ true)
  find-asking [] some = absurd (omega arith)
  find-asking (slot ∷ slots) some =
      elim (cases_Bool (is_asking asks slot)) [
        | inl is ↦ (0, is)
        | inr other ↦
            let rest = find-asking slots (omega (arith, ap one_if other)) in
            (suc rest.0, rest.1)
      ]

  has-count : (slots : List (Option T)) (place : ℕ) → is_asking asks (get_or slots place None) ≡ true → 0 < count_asking asks slots
  has-count [] place is = absurd (cc)
  has-count (slot ∷ slots) zero is = omega (arith, ap one_if is)
  has-count (slot ∷ slots) (suc place) is = omega (arith, has-count slots place is)

  pub asking-found : (slots : List (Option T)) → 0 < count_asking asks slots → HasAsking asks (held_in slots)
  asking-found slots some =
      let found = find-asking slots some in
      (found.0, ap (is_asking asks) (get-held_in slots found.0) ∙ found.1)

  pub asking-counted : (slots : List (Option T)) → HasAsking asks (held_in slots) → 0 < count_asking asks slots
  asking-counted slots has = has-count slots has.0 (sym (ap (is_asking asks) (get-held_in slots has.0)) ∙ has.1)

  module _ (slots : List (Option T)) (records : Records T) (view : records_in slots ≡ records) (count : ℕ) (is : count ≡ count_asking asks slots) where
    has-some : 0 < count → HasAsking asks records.held
    has-some some = subst (λ (r : Records T). HasAsking asks r.held) view (asking-found slots (omega (arith, is)))

    some-counted : HasAsking asks records.held → 0 < count
    some-counted has = let some = asking-counted slots (subst (λ (r : Records T). HasAsking asks r.held) (sym view) has) in omega (arith, is, some)

    -- the test for any
    pub any-asking : not (eqb count 0) ≡ true → HasAsking asks records.held
    any-asking is = let some = eqb-false count 0 (not-true (eqb count 0) is) in has-some (omega (arith, some))

    pub asking-any : HasAsking asks records.held → not (eqb count 0) ≡ true
    asking-any has = let some = some-counted has in not_from_false (eqb count 0) (ne_eqb count 0 (λ none. absurd (omega (arith, none, some))))
