-- Rules of which each has a name of its own.
use Rattle.std.specs.Prelude.{ℕ, Bool, List, [], ◌∷◌, cond}
use Rattle.std.specs.Str.{bytes_eq}
use Rattle.plain_types.specs.declared.counter_style.StyleDef.{StyleDef}
use Rattle.plain_types.specs.StyleNames.{style_name}

-- the name of a rule
abbrev pub name_of : StyleDef → List ℕ
name_of rule = style_name rule.name

-- whether a rule has this name
abbrev pub is_named : List ℕ → StyleDef → Bool
is_named name rule = bytes_eq name (name_of rule)

-- a rule more: it takes the place of the one with its name, or the last place
abbrev pub with_rule : List StyleDef → StyleDef → List StyleDef
with_rule [] rule = rule ∷ []
with_rule (other ∷ rules) rule = cond (is_named (name_of rule) other) (rule ∷ rules) (other ∷ with_rule rules rule)
