-- Rules by their places, what they extend, and how far their styles are finished.
use Rattle.std.specs.Prelude.{◌≡◌, ℕ, zero, suc, ◌<◌, ◌==◌, ◌||◌, Bool, true, false, cond, List, [], ◌∷◌, Option, Some, None, is_some, length, slice_index_or, unwrap_or}
use Rattle.std.specs.List.{list_any, position, slice_get}
use Rattle.std.specs.Option.{option_and_then, option_map_or}
use Rattle.plain_types.specs.declared.counter_style.CounterStyle.{CounterStyle}
use Rattle.plain_types.specs.declared.counter_style.StyleDef.{StyleDef}
use Rattle.plain_types.specs.Table.{decimal_style}
use Rattle.css_definitions.specs.CounterStyles.{extended_by, over, own_style, system_of}
use Rattle.counter_style_table.specs.Rules.{is_named}

-- Places that extend one another. Each may extend another one, its base.
module _ (base : ℕ → Option ℕ) where
  -- the place that so many steps of `extends` lead to
  abbrev pub led : ℕ → ℕ → Option ℕ
  led zero place = Some place
  led (suc steps) place = option_and_then (led steps) (base place)

  -- a place that leads back to itself
  pub record OnCycle (place : ℕ) : Type 0 where
    pub steps : ℕ
    pub back : led (suc steps) place ≡ Some place

  -- each of these places extends the one before it, the first of them `other`, and none is on a cycle
  abbrev pub AreExtending : ℕ → List ℕ → Type 0
  AreExtending other [] = Unit {0}
  AreExtending other (place ∷ places) = (base place ≡ Some other) × (OnCycle place → ⊥) × AreExtending place places

-- `own` is the style at a place that extends none, `over` the style at a place over the one that it
-- extends; there are so many places.
module _ (base : ℕ → Option ℕ) where
  -- `extends` leads from one place to another in so many steps at most
  abbrev pub leads : ℕ → ℕ → ℕ → Bool
  leads zero from to = false
  leads (suc steps) from to = option_map_or (λ next. (next == to) || leads steps next to) (base from) false

  module _ (own : ℕ → CounterStyle) (over : ℕ → CounterStyle → CounterStyle) (count : ℕ) where
    abbrev pub finished_within : ℕ → ℕ → CounterStyle
    finished_within zero place = decimal_style
    finished_within (suc styles) place =
        option_map_or (λ other. over place (cond (leads count place place) decimal_style (finished_within styles other))) (base place) (own place)

module _ (rules : List StyleDef) where
  -- the place of the style that a rule extends, where it is defined
  abbrev pub base_of : StyleDef → Option ℕ
  base_of rule = option_and_then (λ name. position (is_named name) rules) (extended_by (system_of rule))

  abbrev pub base : ℕ → Option ℕ
  base place = option_and_then base_of (slice_get rules place)

  -- the style of a rule that extends nothing or an undefined style
  abbrev pub own_of : StyleDef → CounterStyle
  own_of rule = cond (is_some (extended_by (system_of rule))) (over rule decimal_style) (own_style rule)

  abbrev pub own : ℕ → CounterStyle
  own place = option_map_or own_of (slice_get rules place) decimal_style

  abbrev pub over_at : ℕ → CounterStyle → CounterStyle
  over_at place style = option_map_or (λ rule. over rule style) (slice_get rules place) style

  -- the finished style at a place
  abbrev pub finished_at : ℕ → CounterStyle
  finished_at place = finished_within base own over_at (length rules) (length rules) place

-- the place is one of a path
abbrev pub is_on_path : ℕ → List ℕ → Bool
is_on_path place path = list_any (λ other. other == place) path

abbrev pub AreBelow : ℕ → List ℕ → Type 0
AreBelow count [] = Unit {0}
AreBelow count (place ∷ places) = (place < count) × AreBelow count places

-- whether the style at a place is finished
abbrev pub is_done : List (Option CounterStyle) → ℕ → Bool
is_done styles place = is_some (slice_index_or styles place None)

-- it is finished, or its place is one of a path
abbrev pub is_covered : List (Option CounterStyle) → List ℕ → ℕ → Bool
is_covered styles path place = is_done styles place || is_on_path place path

abbrev pub EitherFact : Bool → Type 0 → Type 0 → Type 0
EitherFact true first second = first
EitherFact false first second = second

-- These places can be finished one after the other, the first over this style, each other over the one
-- before it. Where there is a cycle, the places down to its head are on it and are finished over `decimal`.
module _ (base : ℕ → Option ℕ) (over : ℕ → CounterStyle → CounterStyle) (finished : ℕ → CounterStyle) where
  abbrev pub AreReady : Option ℕ → CounterStyle → List ℕ → Type 0
  AreReady None style [] = Unit {0}
  AreReady None style (place ∷ places) = (over place style ≡ finished place) × AreExtending base place places
  AreReady (Some head) style [] = ⊥
  AreReady (Some head) style (place ∷ places) =
      (style ≡ decimal_style) × (over place style ≡ finished place)
      × EitherFact (head == place) (AreExtending base place places) (AreReady (Some head) style places)

-- the style at a place that is finished, or `decimal`
abbrev pub style_from : List (Option CounterStyle) → Option ℕ → CounterStyle
style_from styles None = decimal_style
style_from styles (Some place) = unwrap_or (slice_index_or styles place None) decimal_style

-- How far the styles of rules are finished, between one way down and the next.
pub record AreSettled (rules : List StyleDef) (styles : List (Option CounterStyle)) : Type 0 where
  pub room : length styles ≡ length rules
  pub right : (place : ℕ) (style : CounterStyle) → slice_index_or styles place None ≡ Some style → style ≡ finished_at rules place
  pub closed : (place other : ℕ) → is_done styles place ≡ true → base rules place ≡ Some other → is_done styles other ≡ true
  pub plain : (place : ℕ) → place < length rules → base rules place ≡ None → is_done styles place ≡ true

-- A way down, from its start along `extends` to a place that is finished or begun: its places, the last
-- first, the head of the cycle that it ends in, if there is one, and the place that its last one extends.
pub record IsDescent (rules : List StyleDef) (styles : List (Option CounterStyle)) (path : List ℕ) (cycle from : Option ℕ) : Type 0 where
  pub below : AreBelow (length rules) path
  pub ready : AreReady (base rules) (over_at rules) (finished_at rules) cycle (style_from styles from) path
  pub decimal_first : (head : ℕ) → cycle ≡ Some head → from ≡ None
  pub covered : (place other : ℕ) → is_on_path place path ≡ true → base rules place ≡ Some other → is_covered styles path other ≡ true
