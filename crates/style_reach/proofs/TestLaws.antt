-- Tests that are joined, and values of which one may be missing.
use Rattle.std.proofs.Common.{◌≡◌, ◌||◌, ◌&&◌, Bool, true, false, Option, Some, None, option_map, refl, ap, ◌∙◌}
use Rattle.std.specs.Option.{option_or}

pub or-first : (a b : Bool) → a ≡ true → (a || b) ≡ true
or-first true b h = refl
or-first false b h = absurd (cc)

pub or-second : (a b : Bool) → b ≡ true → (a || b) ≡ true
or-second true b h = refl
or-second false b h = h

pub or-none : (b : Bool) → (b || false) ≡ b
or-none true = refl
or-none false = refl

pub or-false-first : (a b : Bool) → (a || b) ≡ false → a ≡ false
or-false-first false b h = refl
or-false-first true b h = absurd (cc)

pub or-false-second : (a b : Bool) → (a || b) ≡ false → b ≡ false
or-false-second false b h = h
or-false-second true b h = absurd (cc)

pub and-first : (a b : Bool) → (a && b) ≡ true → a ≡ true
and-first true b h = refl
and-first false b h = absurd (cc)

pub and-second : (a b : Bool) → (a && b) ≡ true → b ≡ true
and-second true b h = h
and-second false b h = absurd (cc)

pub map-or : {A B : Type 0} (f : A → B) (a b : Option A) → option_map f (option_or a b) ≡ option_or (option_map f a) (option_map f b)
map-or f None b = refl
map-or f (Some a) b = refl

pub or-same : {A : Type 0} (a b c d : Option A) → a ≡ c → b ≡ d → option_or a b ≡ option_or c d
or-same a b c d p q = ap (λ o. option_or o b) p ∙ ap (λ o. option_or c o) q
