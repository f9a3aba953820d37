-- Texts as bytes and as characters.
use Rattle.std.proofs.Common.{◌≡◌, ℕ, List, refl, sym, ap, ◌∙◌}
use Rattle.std.specs.Prelude.{encode_utf8_all}
use Rattle.std.specs.Str.{chars, bytes_eq, IsUtf8}
use Rattle.std.proofs.lemmas.Bool.Decides.{same_from_decides, Decides-like}
use Rattle.std.proofs.lemmas.Slice.Eq.{bytes_eq-Decides}
use Rattle.std.proofs.lemmas.Str.{encodes-chars}

-- two texts are equal as bytes where they are equal as characters
pub bytes_eq-chars : (a b : List ℕ) → IsUtf8 a → IsUtf8 b → bytes_eq a b ≡ bytes_eq (chars a) (chars b)
bytes_eq-chars a b p q =
    same_from_decides _ _
    (Decides-like _ (λ e. ap chars e) (λ e. sym (encodes-chars a p) ∙ ap encode_utf8_all e ∙ encodes-chars b q) (bytes_eq-Decides a b))
    (bytes_eq-Decides (chars a) (chars b))
