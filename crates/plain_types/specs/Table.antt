-- Tables of counter styles.
use Rattle.std.specs.Prelude.{◌≡◌, ◌≢◌, ℕ, Bool, true, false, IsTrue, nat_le, pos, List, [], ◌∷◌, length, map, Option, Some, None, option_and_then, codes}
use Rattle.std.specs.List.{AllPairs, list_all, position, slice_get}
use Rattle.std.specs.Str.{bytes_eq}
use Rattle.plain_types.specs.declared.counter_style.CounterStyle.{CounterStyle}
use Rattle.plain_types.specs.declared.style_ref.System.{System}
use Rattle.plain_types.specs.declared.style_ref.System.TheVariants.{Cyclic, Numeric, Alphabetic, Symbolic, Additive, Fixed, Extends}
use Rattle.plain_types.specs.StyleNames.{style_name}

-- CSS Counter Styles 3, 3.1.1 to 3.1.6: whether so many symbols and so many additive tuples are enough for
-- the system; `extends` is no algorithm of its own
abbrev pub is_supplied : System → ℕ → ℕ → Bool
is_supplied Cyclic symbols tuples = nat_le 1 symbols
is_supplied Numeric symbols tuples = nat_le 2 symbols
is_supplied Alphabetic symbols tuples = nat_le 2 symbols
is_supplied Symbolic symbols tuples = nat_le 1 symbols
is_supplied Additive symbols tuples = nat_le 1 tuples
is_supplied (Fixed first) symbols tuples = nat_le 1 symbols
is_supplied (Extends name) symbols tuples = false

abbrev pub has_its_symbols : CounterStyle → Bool
has_its_symbols style = is_supplied style.system (length style.symbols) (length style.weights)

-- CSS Counter Styles 3, 6.1: `decimal`, with the initial values of 3.2 to 3.7 for the descriptors that
-- its rule leaves out
abbrev pub decimal_style : CounterStyle
decimal_style = record {
  name = codes "decimal";
  system = Numeric;
  symbols = map (λ c. c ∷ []) (codes "0123456789");
  weights = [];
  before = codes "-";
  after = [];
  prefix = [];
  suffix = codes ". ";
  ranges = record { low = None; high = None } ∷ [];
  width = pos 0;
  pad = [];
  fallback = codes "decimal";
}

-- the place of the style of this name, predefined names in any ASCII case
abbrev pub place_named : List CounterStyle → List ℕ → Option ℕ
place_named table name = position (λ (style : CounterStyle). bytes_eq style.name (style_name name)) table

-- the style of this name
abbrev pub style_named : List CounterStyle → List ℕ → Option CounterStyle
style_named table name = option_and_then (slice_get table) (place_named table name)

-- A table has a style once under each name, each can represent numbers, and `decimal` is among them.
pub record IsTable (table : List CounterStyle) : Type 0 where
  pub distinct : AllPairs (λ (first second : CounterStyle). first.name ≢ second.name) table
  pub decimal : style_named table (codes "decimal") ≡ Some decimal_style
  pub supplied : IsTrue (list_all has_its_symbols table)
