-- Records under keys (our own).
use Rattle.std.specs.Prelude.{ℕ, List, [], ◌∷◌, refl}
use Rattle.std.specs.Ordering.{nat_cmp}
use Rattle.std.specs.FinMap.{FinMap, code, insert, remove}
use Rattle.std.specs.Coded.{Coded, code_by, coded×, coded_ℕ}

-- the records that are held, each under its key, and the number below which keys have room
pub record Records (R : Type 0) : Type 0 where
  pub held : FinMap nat_cmp R
  pub room : ℕ

-- records are coded as the pair of their map and their room
abbrev pub records_code : {R : Type 0} → Coded R → Coded (Records R)
records_code {R} record_code =
    code_by
    (FinMap nat_cmp R × ℕ)
    (coded× (code coded_ℕ record_code) coded_ℕ)
    (λ records. (records.held, records.room))
    (λ pair. record { held = pair.0; room = pair.1 })
    (λ _. refl)

module _ {R : Type 0} where
  -- a map once these records are put under these keys, the first of them first
  abbrev pub put_all : List (ℕ × R) → FinMap nat_cmp R → FinMap nat_cmp R
  put_all [] held = held
  put_all (put ∷ puts) held = put_all puts (insert held put.0 put.1)

  -- a map once the records of these keys are taken, the first of them first
  abbrev pub take_all : List ℕ → FinMap nat_cmp R → FinMap nat_cmp R
  take_all [] held = held
  take_all (key ∷ keys) held = take_all keys (remove held key)
