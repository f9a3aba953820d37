-- The rows of a table of values in a counter style (our own).
use Rattle.std.specs.Prelude.{ℕ, zero, suc, ℤ, pos, ◌+ℤ◌, ◌-ℤ◌, List, [], ◌∷◌, ◌++◌, encode_utf8_all}
use Rattle.std.specs.Fmt.{signed_decimal}
use Rattle.std.specs.List.{flat_map}
use Rattle.plain_types.specs.declared.counter_style.CounterStyle.{CounterStyle}
use Rattle.plain_types.specs.declared.style_ref.StyleRef.{StyleRef}
use Rattle.dump_definitions.specs.Dump.{quoted}
use Rattle.css_definitions.specs.Representation.{natural, representation}

-- so many values, from this one on
abbrev pub values_from : ℤ → ℕ → List ℤ
values_from first zero = []
values_from first (suc more) = first ∷ values_from (first +ℤ pos 1) more

-- the values from the one to the other, in order; none where the first is above the last
abbrev pub values_between : ℤ → ℤ → List ℤ
values_between from to = values_from from (natural ((to -ℤ from) +ℤ pos 1))

-- the characters of a row: VALUE "TEXT" and a line feed
abbrev pub row_text : List CounterStyle → StyleRef → ℤ → List ℕ
row_text table style value = signed_decimal value ++ 32 ∷ (quoted (representation table style value) ++ 10 ∷ [])

-- the bytes of the rows
abbrev pub rows : List CounterStyle → StyleRef → List ℤ → List ℕ
rows table style values = encode_utf8_all (flat_map (row_text table style) values)
