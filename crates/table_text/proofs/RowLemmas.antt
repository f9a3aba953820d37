-- The bytes of rows, and the values that have one.
use Rattle.std.proofs.Common.{◌≡◌, ℕ, zero, suc, ℤ, pos, negsuc, ◌+ℤ◌, ◌-ℤ◌, ◌≤ℤ◌, ◌<ℤ◌, List, [], ◌∷◌, ◌++◌, refl, sym, ◌∙◌, ap, arith, encode_utf8_all, lit<, unsigned_abs}
use Rattle.std.proofs.lemmas.Int.{ints}
use Rattle.std.proofs.lemmas.Str.{encode_ascii, encodes-append, encodes-IsAscii}
use lib.Utf8.{encode}
use Rattle.std.specs.Fmt.{signed_decimal}
use Rattle.std.specs.List.{flat_map}
use Rattle.std.specs.Str.{IsAscii}
use Rattle.dump_definitions.specs.Dump.{quoted}
use Rattle.css_definitions.specs.Representation.{natural, representation}
use Rattle.plain_types.specs.declared.counter_style.CounterStyle.{CounterStyle}
use Rattle.plain_types.specs.declared.style_ref.StyleRef.{StyleRef}
use Rattle.table_text.specs.Rows.{row_text, rows, values_between, values_from}

natural-none : (z : ℤ) → z ≤ℤ pos 0 → natural z ≡ 0
natural-none (pos zero) low = refl
natural-none (pos (suc n)) low = absurd (omega (arith, ints))
natural-none (negsuc n) low = refl

-- the first value, and those after it
pub values-first : (from to : ℤ) → from ≤ℤ to → values_between from to ≡ from ∷ values_between (from +ℤ pos 1) to
values-first from to below =
    let more : ℕ = unsigned_abs (to -ℤ from) in
    let all : (to -ℤ from) +ℤ pos 1 ≡ pos (suc more) = omega (arith, ints) in
    let others : (to -ℤ (from +ℤ pos 1)) +ℤ pos 1 ≡ pos more = omega (arith, ints) in
    ap (λ z. values_from from (natural z)) all ∙ ap (λ z. from ∷ values_from (from +ℤ pos 1) (natural z)) (sym others)

pub values-none : (from to : ℤ) → to <ℤ from → values_between from to ≡ []
values-none from to above = ap (values_from from) (natural-none ((to -ℤ from) +ℤ pos 1) (omega (arith, ints)))

-- a row in its parts
pub row_bytes : (table : List CounterStyle) (style : StyleRef) (value : ℤ) (digits text : List ℕ) → digits ≡ signed_decimal value → IsAscii digits
    → text ≡ representation table style value
    → digits ++ ((32 ∷ []) ++ (encode_utf8_all (quoted text) ++ 10 ∷ [])) ≡ encode_utf8_all (row_text table style value)
unfolding encode
row_bytes table style value digits text is ascii shown =
    ap (λ bs. bs ++ ((32 ∷ []) ++ (encode_utf8_all (quoted text) ++ 10 ∷ []))) (sym (encodes-IsAscii digits ascii) ∙ ap encode_utf8_all is)
    ∙ ap (λ bs. encode_utf8_all (signed_decimal value) ++ bs)
    (ap (λ bs. bs ++ (encode_utf8_all (quoted text) ++ 10 ∷ [])) (sym (encode_ascii 32 (lit< tt)))
    ∙ ap (λ bs. encode_utf8_all (32 ∷ []) ++ bs)
    (ap (λ bs. encode_utf8_all (quoted text) ++ (bs ++ [])) (sym (encode_ascii 10 (lit< tt))) ∙ sym (encodes-append (quoted text) (10 ∷ [])))
    ∙ sym (encodes-append (32 ∷ []) (quoted text ++ 10 ∷ [])))
    ∙ sym (encodes-append (signed_decimal value) (32 ∷ (quoted text ++ 10 ∷ [])))
    ∙ ap (λ cs. encode_utf8_all (signed_decimal value ++ 32 ∷ (quoted cs ++ 10 ∷ []))) shown

-- rows from the first value on
pub rows-first : (table : List CounterStyle) (style : StyleRef) (from to : ℤ) → from ≤ℤ to
    → rows table style (values_between from to) ≡ encode_utf8_all (row_text table style from) ++ rows table style (values_between (from +ℤ pos 1) to)
rows-first table style from to below =
    ap (rows table style) (values-first from to below)
    ∙ encodes-append (row_text table style from) (flat_map (row_text table style) (values_between (from +ℤ pos 1) to))

pub rows-none : (table : List CounterStyle) (style : StyleRef) (from to : ℤ) → to <ℤ from → rows table style (values_between from to) ≡ []
rows-none table style from to above = ap (rows table style) (values-none from to above)
