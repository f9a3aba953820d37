-- A text is a word of ASCII characters in any ASCII case exactly where its bytes are.
use Rattle.std.proofs.Common.{◌≡◌, ◌↔◌, ℕ, ◌<◌, Bool, true, false, ltb, IsTrue, List, [], ◌∷◌, length, map, refl, sym, ap, ◌∙◌, arith}
use Rattle.std.specs.List.{list_all}
use Rattle.std.specs.Str.{encode_utf8_all}
use Rattle.std.specs.Char.{to_ascii_lowercase}
use Rattle.std.proofs.lemmas.Bool.{and_parts}
use Rattle.std.proofs.lemmas.Bool.Decides.{nat_tests}
use Rattle.std.proofs.lemmas.Slice.Eq.{bytes_eq-Decides}
use Rattle.std.proofs.lemmas.Str.{encode_ascii, char_from_byte, length-le-encodes}
use Rattle.css_definitions.specs.Words.{is_word}
use Rattle.reading.specs.Characters.{is_ascii}

abbrev lower_case : List ℕ → List ℕ
lower_case text = map to_ascii_lowercase text

small : (c d : ℕ) → d < 128 → to_ascii_lowercase c ≡ to_ascii_lowercase d → c < 128
small c d le e = grind (arith, nat_tests)

heads : (x y : ℕ) (xs ys : List ℕ) → lower_case (x ∷ xs) ≡ lower_case (y ∷ ys) → (to_ascii_lowercase x ≡ to_ascii_lowercase y) × (lower_case xs ≡ lower_case ys)
heads x y xs ys e = (cc, cc)

first_small : (b : ℕ) (bs : List ℕ) → is_ascii (b ∷ bs) ≡ true → (b < 128) × (is_ascii bs ≡ true)
first_small b bs ascii = let a = and_parts (ltb b 128) (list_all (λ byte. ltb byte 128) bs) ascii in (grind (arith, nat_tests, a.0), a.1)

word_bytes : (cs bs : List ℕ) → is_ascii bs ≡ true → lower_case cs ≡ lower_case bs → lower_case (encode_utf8_all cs) ≡ lower_case bs
word_bytes [] [] ascii e = refl
word_bytes [] (b ∷ bs) ascii e = absurd cc
word_bytes (c ∷ cs) [] ascii e = absurd cc
word_bytes (c ∷ cs) (b ∷ bs) ascii e =
    let a = first_small b bs ascii in
    let same = heads c b cs bs e in
    rw (encode_ascii c (small c b a.0 same.0), same.0, word_bytes cs bs a.1 same.1) refl

bytes_word : (cs bs : List ℕ) → is_ascii bs ≡ true → lower_case (encode_utf8_all cs) ≡ lower_case bs → lower_case cs ≡ lower_case bs
bytes_word [] bs ascii e = e
bytes_word (c ∷ cs) bs ascii e = go (λ more. bytes_word cs more) (encode_utf8_all (c ∷ cs)) bs refl ascii e
  where
    go : ((more : List ℕ) → is_ascii more ≡ true → lower_case (encode_utf8_all cs) ≡ lower_case more → lower_case cs ≡ lower_case more)
        → (all bs : List ℕ) → all ≡ encode_utf8_all (c ∷ cs) → is_ascii bs ≡ true → lower_case all ≡ lower_case bs → lower_case (c ∷ cs) ≡ lower_case bs
    go again [] bs all_is ascii h = absurd (omega (arith, length-le-encodes (c ∷ cs), ap length all_is))
    go again (x ∷ xs) [] all_is ascii h = absurd cc
    go again (x ∷ xs) (b ∷ bs) all_is ascii h =
        let a = first_small b bs ascii in
        let same = heads x b xs bs h in
        let first : c ≡ x = char_from_byte (x ∷ xs) (encode_utf8_all cs) c all_is (small x b a.0 same.0) (omega arith) in
        let small_c : c < 128 = omega (arith, small x b a.0 same.0) in
        let both : x ∷ xs ≡ c ∷ encode_utf8_all cs = all_is ∙ rw (encode_ascii c small_c) refl in
        let rest_is : xs ≡ encode_utf8_all cs = cc in
        rw (first, same.0, again bs a.1 (rw rest_is at same.1)) refl

-- a test that says of the bytes what the other says of the characters
pub same_test : (test : Bool) (cs bs : List ℕ) → is_ascii bs ≡ true → (IsTrue test ↔ (lower_case (encode_utf8_all cs) ≡ lower_case bs)) → test ≡ is_word cs bs
same_test true cs bs ascii iff = sym ((bytes_eq-Decides (lower_case cs) (lower_case bs)).1 (bytes_word cs bs ascii (iff.0 refl)))
same_test false cs bs ascii iff = go (is_word cs bs) refl
  where
    go : (word : Bool) → is_word cs bs ≡ word → false ≡ word
    go true e = iff.1 (word_bytes cs bs ascii ((bytes_eq-Decides (lower_case cs) (lower_case bs)).0 e))
    go false e = refl
