-- Blanks are ASCII: what is written of a text may be written byte by byte.
use Rattle.std.proofs.Common.{◌≡◌, ℕ, ◌<◌, ◌≤◌, Bool, true, false, cond, List, [], ◌∷◌, ◌++◌, refl, sym, ap, ap₂, ◌∙◌, append-nil, arith, encode_utf8_all, ◌⊎◌, inl, inr, nat_lt, lit<}
use Rattle.std.proofs.lemmas.Bool.{cases_lt, or_from}
use Rattle.std.proofs.lemmas.Bool.Decides.{nat_tests}
use Rattle.std.proofs.lemmas.Str.{encode_ascii, encodes-append}
use Rattle.std.proofs.Math.Utf8.{encode}
use Rattle.std.specs.List.{list_any}
use Rattle.text_view.specs.Lines.{is_blank}
use Rattle.text_view.specs.Machinery.Writing.{behind, behind_blank, behind_text, one_shown, shown, space_before}
use Rattle.text_view.specs.declared.line_state.LineState.{LineState}
use Rattle.text_view.specs.declared.line_state.LineState.TheVariants.{Start, Word, Blank}
use Rattle.text_view.proofs.WritingLaws.{behind-append, behind_word, shown-append, word_shown}

high_byte : (b : ℕ) → 128 ≤ b → is_blank b ≡ false
high_byte b high = grind (arith, nat_tests)

-- at least one byte, and none of ASCII
abbrev AreHigh : List ℕ → Type 0
AreHigh [] = Unit {0}
AreHigh (b ∷ bytes) = (128 ≤ b) × AreHigh bytes

abbrev IsHigh : List ℕ → Type 0
IsHigh [] = ⊥
IsHigh (b ∷ bytes) = (128 ≤ b) × AreHigh bytes

high_cond : (b : Bool) (xs ys : List ℕ) → IsHigh xs → IsHigh ys → IsHigh (cond b xs ys)
high_cond true xs ys p q = p
high_cond false xs ys p q = q

-- the bytes of a character beyond ASCII
encode_high : (c : ℕ) → 128 ≤ c → IsHigh (encode c)
unfolding encode
encode_high c high =
    high_cond (nat_lt c 128) _ _ (high, tt)
    (high_cond (nat_lt c 2048) _ _ (omega arith, (omega arith, tt))
    (high_cond (nat_lt c 65536) _ _ (omega arith, (omega arith, (omega arith, tt)))
    (omega arith, (omega arith, (omega arith, (omega arith, tt))))))

no_blanks : (bytes : List ℕ) → AreHigh bytes → list_any is_blank bytes ≡ false
no_blanks [] high = refl
no_blanks (b ∷ bytes) high = or_from (is_blank b) (list_any is_blank bytes) (high_byte b high.0) (no_blanks bytes high.1)

space_encodes : (state : LineState) (text : List ℕ) → encode_utf8_all (space_before state ++ text) ≡ space_before state ++ encode_utf8_all text
space_encodes Start text = refl
space_encodes Word text = refl
space_encodes Blank text = ap (λ first. first ++ encode_utf8_all text) (encode_ascii 32 (lit< tt))

bytes_of_word : (state : LineState) (bytes : List ℕ) → IsHigh bytes → (shown state bytes ≡ space_before state ++ bytes) × (behind_text state bytes ≡ Word)
bytes_of_word state [] high = absurd high
bytes_of_word state (b ∷ bytes) high = let solid = no_blanks (b ∷ bytes) high in (word_shown state b bytes solid, behind_word state b bytes solid)

shown_if : (b : Bool) (state : LineState) (c : ℕ) → c < 128 → cond b [] (space_before state ++ c ∷ []) ≡ encode_utf8_all (cond b [] (space_before state ++ c ∷ []))
shown_if true state c low = refl
shown_if false state c low = sym (space_encodes state (c ∷ []) ∙ ap (λ bytes. space_before state ++ (bytes ++ [])) (encode_ascii c low))

-- one character

one_behind : (state : LineState) (c : ℕ) → (c < 128) ⊎ (128 ≤ c) → behind_text state (encode c) ≡ behind state c
one_behind state c (inl low) = ap (behind_text state) (encode_ascii c low)
one_behind state c (inr high) = (bytes_of_word state (encode c) (encode_high c high)).1 ∙ sym (ap (λ b. cond b (behind_blank state) Word) (high_byte c high))

one_bytes : (state : LineState) (c : ℕ) → (c < 128) ⊎ (128 ≤ c) → shown state (encode c) ≡ encode_utf8_all (one_shown state c)
one_bytes state c (inl low) = ap (shown state) (encode_ascii c low) ∙ append-nil (one_shown state c) ∙ shown_if (is_blank c) state c low
one_bytes state c (inr high) =
    (bytes_of_word state (encode c) (encode_high c high)).0
    ∙ ap (λ bytes. space_before state ++ bytes) (sym (append-nil (encode c)))
    ∙ sym (space_encodes state (c ∷ []))
    ∙ sym (ap (λ b. encode_utf8_all (cond b [] (space_before state ++ c ∷ []))) (high_byte c high))

-- a text

pub behind_bytes : (state : LineState) (text : List ℕ) → behind_text state (encode_utf8_all text) ≡ behind_text state text
behind_bytes state [] = refl
behind_bytes state (c ∷ text) =
    behind-append state (encode c) (encode_utf8_all text)
    ∙ ap (λ s. behind_text s (encode_utf8_all text)) (one_behind state c (cases_lt c 128))
    ∙ behind_bytes (behind state c) text

pub shown_bytes : (state : LineState) (text : List ℕ) → shown state (encode_utf8_all text) ≡ encode_utf8_all (shown state text)
shown_bytes state [] = refl
shown_bytes state (c ∷ text) =
    shown-append state (encode c) (encode_utf8_all text)
    ∙ ap₂ (λ first (s : LineState). first ++ shown s (encode_utf8_all text)) (one_bytes state c (cases_lt c 128)) (one_behind state c (cases_lt c 128))
    ∙ ap (λ rest. encode_utf8_all (one_shown state c) ++ rest) (shown_bytes (behind state c) text)
    ∙ sym (encodes-append (one_shown state c) (shown (behind state c) text))
