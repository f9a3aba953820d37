-- Texts as bytes and as characters.
use Rattle.std.proofs.Common.{◌≡◌, ◌==◌, ℕ, false, List, [], ◌∷◌, length, Option, Some, None, option_map, refl, sym, ap, ◌∙◌, arith}
use Rattle.std.proofs.lemmas.Bool.Decides.{nat_tests}
use Rattle.std.specs.Borrow.{Bor}
use Rattle.std.specs.Option.{option_eq, option_map_or}
use Rattle.std.specs.Prelude.{option_copied, encode_utf8_all, codes}
use Rattle.std.specs.Str.{chars, bytes_eq}
use Rattle.std.proofs.lemmas.Option.{none-some, same_Some}
use Rattle.std.proofs.lemmas.Str.{chars-nil}
use Rattle.node_arena.proofs.NodeLaws.{same-test}

-- two names that were looked up are equal as bytes where they are equal as characters
pub same-names : (r s : Option (Bor (List ℕ))) (x y : Option (List ℕ)) (a b : List ℕ)
    → option_map chars (option_copied r) ≡ x → option_copied r ≡ option_map encode_utf8_all x → x ≡ Some a
    → option_map chars (option_copied s) ≡ y → option_copied s ≡ option_map encode_utf8_all y → y ≡ Some b
    → option_eq (λ (m n : Bor (List ℕ)). bytes_eq m.now n.now) r s ≡ bytes_eq a b
same-names None s x y a b read_x written_x is_x read_y written_y is_y = absurd (none-some a (read_x ∙ is_x))
same-names (Some m) None x y a b read_x written_x is_x read_y written_y is_y = absurd (none-some b (read_y ∙ is_y))
same-names (Some m) (Some n) x y a b read_x written_x is_x read_y written_y is_y =
    same-test m.now n.now a b
    (same_Some _ _ (read_x ∙ is_x)) (same_Some _ _ (written_x ∙ ap (option_map encode_utf8_all) is_x))
    (same_Some _ _ (read_y ∙ is_y)) (same_Some _ _ (written_y ∙ ap (option_map encode_utf8_all) is_y))

not-none : (x : ℕ) (xs : List ℕ) → (length (x ∷ xs) == 0) ≡ false
not-none x xs = grind (arith, nat_tests)

pub no-bytes : (bytes characters : List ℕ) → chars bytes ≡ characters → bytes ≡ encode_utf8_all characters → (length bytes == 0) ≡ (length characters == 0)
no-bytes [] characters read written = ap (λ cs. length cs == 0) (sym chars-nil ∙ read)
no-bytes (byte ∷ bytes) [] read written = absurd (cc)
no-bytes (byte ∷ bytes) (c ∷ cs) read written = not-none byte bytes ∙ sym (not-none c cs)

-- characters that were looked up are none where their bytes are
pub no-characters : (bytes : List ℕ) (o : Option (List ℕ)) → Some (chars bytes) ≡ o → Some bytes ≡ option_map encode_utf8_all o → (length bytes == 0) ≡ option_map_or (λ cs. length cs == 0) o false
no-characters bytes None read written = absurd (none-some (chars bytes) (sym read))
no-characters bytes (Some characters) read written = no-bytes bytes characters (same_Some _ _ read) (same_Some _ _ written)

pub id-characters : chars (105 ∷ 100 ∷ []) ≡ codes "id"
unfolding chars
id-characters = refl

pub class-characters : chars (99 ∷ 108 ∷ 97 ∷ 115 ∷ 115 ∷ []) ≡ codes "class"
unfolding chars
class-characters = refl
