use Rattle.std.proofs.Common.{◌≡◌, ℕ, Bool, true, false, List, refl, sym, ◌∙◌, ap}
use Rattle.std.specs.Prelude.{Ok, Err}
use Rattle.std.specs.Str.{IsUtf8, chars, is_utf8}
use Rattle.std.specs.Str.Lossy.{utf8_valid_len}
use Rattle.std.proofs.lemmas.Str.{IsUtf8-from_is_utf8, is_utf8-from_IsUtf8}
use Rattle.marker_cli.specs.declared.status.FileAt.{FileAt}
use Rattle.marker_cli.specs.declared.status.Status.TheVariants.{NotUtf8}
use Rattle.marker_cli.specs.Turns.{text_of}

pub text_is : (file : FileAt) (bytes text characters : List ℕ) → IsUtf8 bytes → text ≡ bytes → characters ≡ chars text → text_of file bytes ≡ Ok characters
text_is file bytes text characters utf8 same is = rw (is_utf8-from_IsUtf8 bytes utf8) (ap Ok (sym (is ∙ ap chars same)))

not_true : (b : Bool) → (b ≡ true → ⊥) → b ≡ false
not_true true no_true = absurd (no_true refl)
not_true false no_true = refl

pub text_is_not : (file : FileAt) (bytes : List ℕ) (offset : ℕ) → (IsUtf8 bytes → ⊥) → offset ≡ utf8_valid_len bytes → text_of file bytes ≡ Err (NotUtf8 file offset)
text_is_not file bytes offset no_text is = rw (is_not, is) refl
  where
    is_not : is_utf8 bytes ≡ false
    is_not = not_true (is_utf8 bytes) (λ t. no_text (IsUtf8-from_is_utf8 bytes t))
