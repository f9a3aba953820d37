-- Escapes that change only ASCII characters, and these into ASCII text, may be written byte by byte.
use Rattle.std.proofs.Common.{◌≡◌, ◌==◌, ℕ, ◌/◌, ◌%◌, ◌<◌, ◌≤◌, Bool, true, false, List, [], ◌∷◌, ◌++◌, refl, sym, ◌∙◌, ap, append-nil, cond, arith, encode_utf8_all, ◌⊎◌, inl, inr, lit<, nat_lt}
use Rattle.std.proofs.lemmas.Grind.{flat_map-append}
use Rattle.std.proofs.lemmas.Bool.{cases_lt}
use Rattle.std.proofs.lemmas.Bool.Decides.{nat_tests}
use Rattle.std.proofs.lemmas.Str.{encode_ascii, encodes-append, encodes-chars}
use Rattle.std.proofs.Math.Utf8.{encode}
use borrow.Author.Tests.{ltb-true}
use Rattle.std.specs.Char.{digit_char}
use Rattle.std.specs.List.{flat_map}
use Rattle.std.specs.Str.{IsUtf8, chars}
use Rattle.dump_definitions.specs.Dump.{escape, hexadecimal, is_escaped, quoted, shown}

-- P holds of each
abbrev pub Each : (ℕ → Type 0) → List ℕ → Type 0
Each P [] = Unit {0}
Each P (b ∷ bs) = P b × Each P bs

each_append : (P : ℕ → Type 0) (xs ys : List ℕ) → Each P xs → Each P ys → Each P (xs ++ ys)
each_append P [] ys p q = q
each_append P (x ∷ xs) ys p q = (p.0, each_append P xs ys p.1 q)

each_cond : (P : ℕ → Type 0) (b : Bool) (xs ys : List ℕ) → Each P xs → Each P ys → Each P (cond b xs ys)
each_cond P true xs ys p q = p
each_cond P false xs ys p q = q

each_if : (P : ℕ → Type 0) (b : Bool) (xs ys : List ℕ) → (b ≡ true → Each P xs) → Each P ys → Each P (cond b xs ys)
each_if P true xs ys p q = p refl
each_if P false xs ys p q = q

-- ASCII bytes are their own encoding
pub low_encodes : (bs : List ℕ) → Each (λ b. b < 128) bs → encode_utf8_all bs ≡ bs
low_encodes [] p = refl
low_encodes (b ∷ bs) p = ap (λ xs. xs ++ encode_utf8_all bs) (encode_ascii b p.0) ∙ ap (λ xs. b ∷ xs) (low_encodes bs p.1)

-- the bytes of another character are none of ASCII's
encode_high : (c : ℕ) → 128 ≤ c → Each (λ b. 128 ≤ b) (encode c)
unfolding encode
encode_high c high =
    let High : ℕ → Type 0 = λ b. 128 ≤ b in
    each_cond High (nat_lt c 128) _ _ (high, tt)
    (each_cond High (nat_lt c 2048) _ _ (omega arith, (omega arith, tt))
    (each_cond High (nat_lt c 65536) _ _ (omega arith, (omega arith, (omega arith, tt)))
    (omega arith, (omega arith, (omega arith, (omega arith, tt))))))

module _ (f : ℕ → List ℕ) (low : (c : ℕ) → c < 128 → Each (λ b. b < 128) (f c)) (high : (c : ℕ) → 128 ≤ c → f c ≡ c ∷ []) where
  all_high : (bs : List ℕ) → Each (λ b. 128 ≤ b) bs → flat_map f bs ≡ bs
  all_high [] p = refl
  all_high (b ∷ bs) p = ap (λ xs. xs ++ flat_map f bs) (high b p.0) ∙ ap (λ xs. b ∷ xs) (all_high bs p.1)

  one_character : (c : ℕ) → (c < 128) ⊎ (128 ≤ c) → flat_map f (encode c) ≡ encode_utf8_all (f c)
  one_character c (inl below) =
      ap (λ bs. flat_map f bs) (encode_ascii c below)
      ∙ append-nil (f c)
      ∙ sym (low_encodes (f c) (low c below))
  one_character c (inr above) =
      all_high (encode c) (encode_high c above)
      ∙ sym (append-nil (encode c))
      ∙ ap (λ cs. encode_utf8_all cs) (sym (high c above))

  pub bytewise : (cs : List ℕ) → flat_map f (encode_utf8_all cs) ≡ encode_utf8_all (flat_map f cs)
  bytewise [] = refl
  bytewise (c ∷ cs) =
      flat_map-append f (encode c) (encode_utf8_all cs)
      ∙ ap (λ xs. xs ++ flat_map f (encode_utf8_all cs)) (one_character c (cases_lt c 128))
      ∙ ap (λ xs. encode_utf8_all (f c) ++ xs) (bytewise cs)
      ∙ sym (encodes-append (f c) (flat_map f cs))

digit_low : (d : ℕ) → d < 16 → digit_char d < 128
digit_low d low = grind (arith, nat_tests)

-- an ASCII character is shown in ASCII
shown_low : (c : ℕ) → c < 128 → Each (λ b. b < 128) (shown c)
shown_low c low =
    let Low : ℕ → Type 0 = λ b. b < 128 in
    let small : c / 16 < 16 = omega arith in
    let rest : c % 16 < 16 = omega arith in
    each_cond Low (is_escaped c) _ _
    (each_cond Low (c == 34) _ _ (lit< tt, (lit< tt, tt))
    (each_cond Low (c == 92) _ _ (lit< tt, (lit< tt, tt))
    (each_cond Low (c == 10) _ _ (lit< tt, (lit< tt, tt))
    (lit< tt, (lit< tt, (lit< tt, each_append Low (hexadecimal c) (125 ∷ []) (digits_low c small rest) (lit< tt, tt)))))))
    (low, tt)
  where
    digits_low : (c : ℕ) → c / 16 < 16 → c % 16 < 16 → Each (λ b. b < 128) (hexadecimal c)
    digits_low c small rest =
        each_if (λ b. b < 128) (nat_lt c 16) _ _
        (λ t. (digit_low c (ltb-true c 16 t), tt))
        (digit_low (c / 16) small, (digit_low (c % 16) rest, tt))

-- another one as it stands
shown_high : (c : ℕ) → 128 ≤ c → shown c ≡ c ∷ []
shown_high c high = ap (λ t. cond t (escape c) (c ∷ [])) plain
  where
    plain : is_escaped c ≡ false
    plain = grind (arith, nat_tests)

-- the bytes of a quoted text
pub quoted_bytes : (bs : List ℕ) → IsUtf8 bs → (34 ∷ flat_map shown bs) ++ 34 ∷ [] ≡ encode_utf8_all (quoted (chars bs))
quoted_bytes bs utf8 =
    let text : flat_map shown bs ≡ encode_utf8_all (flat_map shown (chars bs)) =
    ap (λ xs. flat_map shown xs) (sym (encodes-chars bs utf8)) ∙ bytewise shown shown_low shown_high (chars bs) in
    let quote : encode 34 ≡ 34 ∷ [] = encode_ascii 34 (lit< tt) in
    rw (quote, encodes-append (flat_map shown (chars bs)) (34 ∷ []), ← text, quote) refl

-- pieces one after the other have their bytes one after the other
pub encodes-flat_map : {X : Type 0} (piece : X → List ℕ) (items : List X)
    → flat_map (λ item. encode_utf8_all (piece item)) items ≡ encode_utf8_all (flat_map piece items)
encodes-flat_map piece [] = refl
encodes-flat_map piece (item ∷ items) =
    ap (λ bs. encode_utf8_all (piece item) ++ bs) (encodes-flat_map piece items) ∙ sym (encodes-append (piece item) (flat_map piece items))
