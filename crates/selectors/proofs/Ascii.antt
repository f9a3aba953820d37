-- Bytes that are all ASCII, as the standard library says it and as a test.
use Rattle.std.proofs.Common.{◌≡◌, ℕ, zero, suc, Bool, true, false, ◌&&◌, ltb, List, [], ◌∷◌, refl, ap, ◌∙◌, arith}
use Rattle.std.specs.Str.{chars, IsAscii, IsNotAscii}
use Rattle.std.proofs.lemmas.Str.{chars-IsAscii}
use Rattle.std.proofs.lemmas.Bool.Decides.{nat_tests}
use Rattle.reading.specs.Characters.{is_ascii}

pub all_ascii : (bytes : List ℕ) → IsAscii bytes → is_ascii bytes ≡ true
all_ascii [] all = refl
all_ascii (byte ∷ bytes) all =
    let first : ltb byte 128 ≡ true = grind (arith, nat_tests, all 0) in
    rw (first, all_ascii bytes (λ i. all (suc i))) refl

pub not_all_ascii : (bytes : List ℕ) → IsNotAscii bytes → is_ascii bytes ≡ false
not_all_ascii [] some = absurd (omega (arith, some.1))
not_all_ascii (byte ∷ bytes) (zero, some) =
    let first : ltb byte 128 ≡ false = grind (arith, nat_tests, some) in
    rw first refl
not_all_ascii (byte ∷ bytes) (suc i, some) = go (ltb byte 128) (not_all_ascii bytes (i, some))
  where
    go : (first : Bool) → is_ascii bytes ≡ false → first && is_ascii bytes ≡ false
    go true more = more
    go false more = refl

pub ascii_text : (bytes text : List ℕ) → IsAscii bytes → text ≡ bytes → (is_ascii bytes ≡ true) × (chars text ≡ bytes)
ascii_text bytes text all e = (all_ascii bytes all, ap chars e ∙ chars-IsAscii bytes all)
