-- A text that is cut between two characters.
use Rattle.std.proofs.Common.{◌≡◌, ℕ, ◌-◌, Bool, true, List, [], ◌∷◌, ◌++◌, length, take, drop, refl, sym, ap, ◌∙◌, append_assoc, arith}
use Rattle.std.specs.Char.{encode_utf8}
use Rattle.std.specs.Str.{chars, IsUtf8, IsCharBoundary}
use Rattle.std.proofs.lemmas.List.{take_at, drop_at, length-append, append-nil, append_cancel_right}
use Rattle.std.proofs.lemmas.Str.{chars-append, IsUtf8-take, IsCharBoundary-at_seam}
use Rattle.reading.specs.Reading.{span}

-- rest is what follows the characters front in the text
pub record Cut (whole front rest : List ℕ) : Type 0 where
  pub bytes : List ℕ
  pub parts : whole ≡ bytes ++ rest
  pub chars_are : chars whole ≡ front ++ chars rest

pub Cut-start : (whole : List ℕ) → Cut whole [] whole
Cut-start whole = record { bytes = []; parts = refl; chars_are = refl }

pub Cut-more : (whole front rest : List ℕ) (c : ℕ) (after : List ℕ) → Cut whole front rest → rest ≡ encode_utf8 c ++ after → chars rest ≡ c ∷ chars after → Cut whole (front ++ c ∷ []) after
Cut-more whole front rest c after cut p q = record {
  bytes = cut.bytes ++ encode_utf8 c;
  parts = cut.parts ∙ ap (λ (t : List ℕ). cut.bytes ++ t) p ∙ sym (append_assoc cut.bytes (encode_utf8 c) after);
  chars_are = cut.chars_are ∙ ap (λ (t : List ℕ). front ++ t) q ∙ sym (append_assoc front (c ∷ []) (chars after));
}

module _ (whole front rest : List ℕ) (cut : Cut whole front rest) (rest_utf8 : IsUtf8 rest) where
  place : length cut.bytes ≡ length whole - length rest
  place = omega (arith, ap length cut.parts, length-append cut.bytes rest)

  pub Cut-boundary : IsCharBoundary whole (length whole - length rest)
  Cut-boundary = rw (← place) (IsCharBoundary-at_seam whole cut.bytes rest cut.parts rest_utf8)

  pub Cut-rest : drop (length whole - length rest) whole ≡ rest
  Cut-rest = ap (λ (t : List ℕ). drop (length whole - length rest) t) cut.parts ∙ drop_at cut.bytes rest _ place

  take_is : take (length whole - length rest) whole ≡ cut.bytes
  take_is = ap (λ (t : List ℕ). take (length whole - length rest) t) cut.parts ∙ take_at cut.bytes rest _ place

  pub Cut-front : IsUtf8 whole → chars (take (length whole - length rest) whole) ≡ front
  Cut-front utf8 =
      let bytes_utf8 : IsUtf8 (take (length whole - length rest) whole) = IsUtf8-take whole _ utf8 Cut-boundary in
      let front_utf8 : IsUtf8 cut.bytes = rw take_is at bytes_utf8 in
      let both : chars cut.bytes ++ chars rest ≡ front ++ chars rest = sym (chars-append cut.bytes rest front_utf8) ∙ sym (ap chars cut.parts) ∙ cut.chars_are in
      ap chars take_is ∙ append_cancel_right (chars cut.bytes) front (chars rest) both

-- the longest front of characters that pass the test goes as far as this rest, at least
pub record Runs (test : ℕ → Bool) (whole rest : List ℕ) : Type 0 where
  pub front : List ℕ
  pub cut : Cut whole front rest
  pub span_is : span test (chars whole) ≡ (front ++ (span test (chars rest)).0, (span test (chars rest)).1)

pub Runs-start : (test : ℕ → Bool) (whole : List ℕ) → Runs test whole whole
Runs-start test whole = record { front = []; cut = Cut-start whole; span_is = refl }

pub Runs-more : (test : ℕ → Bool) (whole rest : List ℕ) (c : ℕ) (after : List ℕ) → Runs test whole rest → rest ≡ encode_utf8 c ++ after → chars rest ≡ c ∷ chars after → test c ≡ true
    → Runs test whole after
unfolding span
Runs-more test whole rest c after runs p q t = record {
  front = runs.front ++ c ∷ [];
  cut = Cut-more whole runs.front rest c after runs.cut p q;
  span_is = runs.span_is ∙ rw (q, t, append_assoc) refl;
}

pub Runs-end : (test : ℕ → Bool) (whole rest : List ℕ) → Runs test whole rest → IsUtf8 whole → IsUtf8 rest → span test (chars rest) ≡ ([], chars rest)
    → span test (chars whole) ≡ (chars (take (length whole - length rest) whole), chars (drop (length whole - length rest) whole))
Runs-end test whole rest runs whole_utf8 rest_utf8 stops =
    let front = Cut-front whole runs.front rest runs.cut rest_utf8 whole_utf8 in
    let back = Cut-rest whole runs.front rest runs.cut rest_utf8 in
    runs.span_is ∙ rw (stops, front, back, append-nil) refl
