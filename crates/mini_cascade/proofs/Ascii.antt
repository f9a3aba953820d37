-- Words of ASCII characters: their bytes are their characters.
use Rattle.std.proofs.Common.{◌≡◌, ℕ, zero, suc, ◌<◌, true, ltb, List, [], ◌∷◌, get_or, arith}
use Rattle.std.specs.List.{list_all}
use Rattle.std.specs.Str.{chars}
use Rattle.std.proofs.lemmas.Bool.{and_parts}
use Rattle.std.proofs.lemmas.Bool.Decides.{nat_tests}
use Rattle.std.proofs.lemmas.Str.{chars-IsAscii}
use Rattle.reading.specs.Characters.{is_ascii}

first_below : (first : ℕ) (rest : List ℕ) → ltb first 128 ≡ true → ((place : ℕ) → get_or rest place 0 < 128) → (place : ℕ) → get_or (first ∷ rest) place 0 < 128
first_below first rest small others zero = grind (arith, nat_tests)
first_below first rest small others (suc place) = others place

below : (word : List ℕ) → is_ascii word ≡ true → (place : ℕ) → get_or word place 0 < 128
below [] ascii place = omega arith
below (first ∷ rest) ascii place =
    let both = and_parts (ltb first 128) (list_all (λ byte. ltb byte 128) rest) ascii in
    first_below first rest both.0 (below rest both.1) place

pub chars-ascii : (word : List ℕ) → is_ascii word ≡ true → chars word ≡ word
chars-ascii word ascii = chars-IsAscii word (below word ascii)
