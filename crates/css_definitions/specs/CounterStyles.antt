-- Finished counter styles from `@counter-style` rules: CSS Counter Styles 3, 3.
use Rattle.std.specs.Prelude.{ℕ, zero, suc, Bool, true, false, not, ◌&&◌, ◌||◌, pos, List, [], ◌∷◌, ◌++◌, Option, Some, None, is_some, length, map, filter, cond, codes}
use Rattle.std.specs.List.{fold, list_any}
use Rattle.std.specs.Option.{option_map_or}
use Rattle.std.specs.Str.{bytes_eq}
use Rattle.plain_types.specs.declared.counter_style.Bounds.{Bounds}
use Rattle.plain_types.specs.declared.counter_style.CounterStyle.{CounterStyle}
use Rattle.plain_types.specs.declared.counter_style.Descriptor.{Descriptor}
use Rattle.plain_types.specs.declared.counter_style.Descriptor.TheVariants as descriptor
use Rattle.plain_types.specs.declared.counter_style.StyleDef.{StyleDef}
use Rattle.plain_types.specs.declared.style_ref.System.{System}
use Rattle.plain_types.specs.declared.style_ref.System.TheVariants.{Alphabetic, Symbolic, Additive, Extends}
use Rattle.plain_types.specs.StyleNames.{lower_case, style_name}
use Rattle.plain_types.specs.Table.{decimal_style, has_its_symbols}
use Rattle.css_definitions.specs.PredefinedStyles.{predefined}

-- What the descriptors of one rule say.

-- 3.1: the system that a rule names last; a rule that names none is `symbolic`
abbrev pub system_after : System → Descriptor → System
system_after before (descriptor.System system) = system
system_after before _ = before

abbrev pub system_of : StyleDef → System
system_of rule = fold system_after Symbolic rule.descriptors

-- 3.1.7: the name of the style that a rule extends
abbrev pub extended_by : System → Option (List ℕ)
extended_by (Extends name) = Some (style_name name)
extended_by _ = None

-- 3.5: `auto` is all numbers, the positive numbers or the numbers from 0, by the system
abbrev pub automatic_range : System → List Bounds
automatic_range Alphabetic = record { low = Some (pos 1); high = None } ∷ []
automatic_range Symbolic = record { low = Some (pos 1); high = None } ∷ []
automatic_range Additive = record { low = Some (pos 0); high = None } ∷ []
automatic_range _ = record { low = None; high = None } ∷ []

-- 3.2 to 3.8: a style of this system of which nothing else is said
abbrev pub initial_style : System → CounterStyle
initial_style system = record {
  name = [];
  system = system;
  symbols = [];
  weights = [];
  before = codes "-";
  after = [];
  prefix = [];
  suffix = codes ". ";
  ranges = automatic_range system;
  width = pos 0;
  pad = [];
  fallback = codes "decimal";
}

-- a style of which a descriptor says one thing more; the system is settled before
abbrev pub described : CounterStyle → Descriptor → CounterStyle
described style (descriptor.System system) = style
described style (descriptor.Negative before after) = record style { before = before; after = after }
described style (descriptor.Prefix text) = record style { prefix = text }
described style (descriptor.Suffix text) = record style { suffix = text }
described style descriptor.RangeAuto = record style { ranges = automatic_range style.system }
described style (descriptor.Range ranges) = record style { ranges = ranges }
described style (descriptor.Pad width symbol) = record style { width = width; pad = symbol }
described style (descriptor.Fallback name) = record style { fallback = name }
described style (descriptor.Symbols symbols) = record style { symbols = symbols }
described style (descriptor.Additive weights) = record style { weights = weights }

-- the style of a rule over another style, which has what the rule does not say; of one descriptor the
-- last holds
abbrev pub over : StyleDef → CounterStyle → CounterStyle
over rule style = record (fold described style rule.descriptors) { name = style_name rule.name }

-- the style of a rule that extends no other
abbrev pub own_style : StyleDef → CounterStyle
own_style rule = over rule (initial_style (system_of rule))

-- Which rules define a style.

-- 3 and CSS Values 4, 4.2: names that no style has
abbrev pub excluded_names : List (List ℕ)
excluded_names =
    [] ∷ codes "none" ∷ codes "inherit" ∷ codes "initial" ∷ codes "unset" ∷ codes "revert" ∷ codes "revert-layer" ∷ codes "default" ∷ []

-- 3: styles that no rule replaces
abbrev pub kept_names : List (List ℕ)
kept_names =
    codes "decimal" ∷ codes "disc" ∷ codes "square" ∷ codes "circle" ∷ codes "disclosure-open" ∷ codes "disclosure-closed" ∷ []

abbrev pub may_be_defined : List ℕ → Bool
may_be_defined name = not (list_any (bytes_eq (lower_case name)) (excluded_names ++ kept_names))

abbrev pub gives_symbols : Descriptor → Bool
gives_symbols (descriptor.Symbols symbols) = true
gives_symbols (descriptor.Additive weights) = true
gives_symbols _ = false

-- 3.1.1 to 3.1.6: a rule gives as many symbols as its system asks for; 3.1.7: and none where it extends
-- another style
abbrev pub gives_right_symbols : StyleDef → Bool
gives_right_symbols rule =
    cond (is_some (extended_by (system_of rule))) (not (list_any gives_symbols rule.descriptors)) (has_its_symbols (own_style rule))

abbrev pub defines : StyleDef → Bool
defines rule = may_be_defined rule.name && gives_right_symbols rule

-- the predefined rules and then those of an author that define a style
abbrev pub rules_with : List StyleDef → List StyleDef
rules_with styles = predefined ++ filter defines styles

-- Finished styles. Names are as `style_name` has them.
module _ (rules : List StyleDef) where
  -- 3: the last rule of a name holds, and it replaces the others whole
  abbrev pub last_named : List ℕ → Option StyleDef
  last_named name = fold (λ found (rule : StyleDef). cond (bytes_eq (style_name rule.name) name) (Some rule) found) None rules

  -- 3.1.7: what the style of a name extends; an undefined name counts as `decimal`, which extends nothing
  abbrev pub extended_name : List ℕ → Option (List ℕ)
  extended_name name = option_map_or (λ rule. extended_by (system_of rule)) (last_named name) None

  -- `extends` leads from one name to another in so many steps at most
  abbrev pub leads_to : ℕ → List ℕ → List ℕ → Bool
  leads_to zero from to = false
  leads_to (suc steps) from to = option_map_or (λ next. bytes_eq next to || leads_to steps next to) (extended_name from) false

  -- a cycle has no more names than there are rules
  abbrev pub is_on_cycle : List ℕ → Bool
  is_on_cycle name = leads_to (length rules) name name

  -- 3.1.7: a style that extends another has the descriptors that it does not give from that style as
  -- finished; where it is on a cycle, from `decimal`. So many styles in a row extend another.
  abbrev pub finished_within : ℕ → List ℕ → CounterStyle
  finished_within zero name = decimal_style
  finished_within (suc styles) name =
      option_map_or
      (λ rule. option_map_or (λ other. over rule (cond (is_on_cycle name) decimal_style (finished_within styles other))) (extended_by (system_of rule)) (own_style rule))
      (last_named name) decimal_style

  -- no more than there are rules
  abbrev pub finished : List ℕ → CounterStyle
  finished name = finished_within (length rules) name

-- names, each once, in the order in which they come first
abbrev pub distinct : List (List ℕ) → List (List ℕ)
distinct [] = []
distinct (name ∷ names) = name ∷ filter (λ other. not (bytes_eq name other)) (distinct names)

-- the finished style of each name that is defined
abbrev pub finished_styles : List StyleDef → List CounterStyle
finished_styles styles =
    map (finished (rules_with styles)) (distinct (map (λ (rule : StyleDef). style_name rule.name) (rules_with styles)))
