-- Attributes by their names: DOM, 4.9.2 "Interface Attr". Names are compared as written.
use Rattle.std.specs.Prelude.{ℕ, nat_eq, Bool, List, Option, option_map, find}
use Rattle.std.specs.Cmp.Lexicographic.{pointwise}
use Rattle.plain_types.specs.declared.attr.Attr.{Attr}

-- the attribute is of this name
abbrev pub is_named : List ℕ → Attr → Bool
is_named name attr = pointwise nat_eq attr.name name

-- the value of the attribute of this name, if there is one
abbrev pub value_of : List ℕ → List Attr → Option (List ℕ)
value_of name attrs = option_map (λ (attr : Attr). attr.value) (find (is_named name) attrs)
