-- Whether a text is empty, told by its bytes.
use Rattle.std.proofs.Common.{◌≡◌, ◌≢◌, ℕ, ◌≤◌, Bool, true, false, ◌||◌, ◌&&◌, eqb, List, [], ◌∷◌, length, refl, sym, ap, ◌∙◌, append-nil, arith}
use Rattle.std.specs.Char.{encode_utf8}
use Rattle.std.specs.Str.{chars, encode_utf8_all, IsUtf8}
use Rattle.std.proofs.lemmas.Bool.{eqb-true}
use Rattle.std.proofs.lemmas.List.{length-append, nil_from_length}
use Rattle.std.proofs.lemmas.Str.{chars-nil, encodes-chars, length-encode, len_utf8_bounds}
use Rattle.std.proofs.lemmas.Bool.Decides.{nat_tests}
use Rattle.plain_types.specs.Building.{Building}
use Rattle.plain_types.specs.Rows.{row}
use Rattle.plain_types.specs.declared.row.Row.{Row}
use Rattle.plain_types.specs.declared.node.Node.TheVariants.{Text}
use Rattle.xhtml_reader.specs.Machinery.Keeping.{text_rows, with_text}

encode_some : (c : ℕ) → 1 ≤ length (encode_utf8 c)
encode_some c = omega (arith, length-encode c, len_utf8_bounds c)

pub empty_same : (bytes characters : List ℕ) → bytes ≡ encode_utf8_all characters → eqb (length bytes) 0 ≡ eqb (length characters) 0
empty_same bytes [] e = ap (λ (t : List ℕ). eqb (length t) 0) e
empty_same bytes (c ∷ cs) e =
    let some : 1 ≤ length bytes = omega (arith, ap length e, length-append (encode_utf8 c) (encode_utf8_all cs), encode_some c) in
    full (length bytes) (length (c ∷ cs)) some (some_more c cs)
  where
    full : (m n : ℕ) → 1 ≤ m → 1 ≤ n → eqb m 0 ≡ eqb n 0
    full m n h k = grind (arith, nat_tests)

    some_more : (c : ℕ) (cs : List ℕ) → 1 ≤ length (c ∷ cs)
    some_more c cs = omega arith

pub none_there : (bytes characters : List ℕ) → bytes ≡ encode_utf8_all characters → eqb (length bytes) 0 ≡ true → characters ≡ []
none_there bytes characters e h = nil_from_length characters (eqb-true (length characters) 0 (sym (empty_same bytes characters e) ∙ h))

pub some_there : (bytes characters : List ℕ) → bytes ≡ encode_utf8_all characters → eqb (length bytes) 0 ≡ false → characters ≢ []
some_there bytes characters e h none = let bad : true ≡ false = ap (λ (t : List ℕ). eqb (length t) 0) (sym none) ∙ sym (empty_same bytes characters e) ∙ h in absurd cc

pub text_rows-some : (depth : ℕ) (characters : List ℕ) → characters ≢ [] → text_rows depth characters ≡ row depth (Text characters) ∷ []
text_rows-some depth [] some = absurd (some refl)
text_rows-some depth (c ∷ cs) some = refl

-- the last of three tests
pub third : (a b d r : Bool) → a ≡ false → b ≡ true → r ≡ d → r ≡ (a || (b && d))
third a b d r e f h = rw (e, f) h

pub with_no_text : (built : Building) (characters : List ℕ) → characters ≡ [] → built ≡ with_text built characters
with_no_text built characters none = rw none (ap (λ (all : List Row). record { rows = all; inside = built.inside }) (sym (append-nil built.rows)))

pub full_chars : (bytes : List ℕ) → IsUtf8 bytes → eqb (length bytes) 0 ≡ false → chars bytes ≢ []
full_chars bytes utf8 e = some_there bytes (chars bytes) (sym (encodes-chars bytes utf8)) e

pub empty_chars : (bytes : List ℕ) → eqb (length bytes) 0 ≡ true → chars bytes ≡ []
empty_chars bytes e = ap chars (nil_from_length bytes (eqb-true (length bytes) 0 e)) ∙ chars-nil
