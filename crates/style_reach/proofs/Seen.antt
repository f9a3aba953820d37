-- What selectors that look only at some aspects see of where an element stands.
use Rattle.std.specs.Prelude.{◌≡◌, Bool, true, false, ◌&&◌, ◌||◌, if◌then◌else◌, List, [], map}
use Rattle.std.specs.List.{AllByRecursion}
use Rattle.plain_types.specs.declared.selector.Compound.{Compound}
use Rattle.plain_types.specs.declared.selector.Selector.{Selector}
use Rattle.plain_types.specs.declared.selector.Simple.{Simple}
use Rattle.plain_types.specs.declared.selector.Simple.TheFolds.{fold-Simple, fold-Compound}
use Rattle.plain_types.specs.declared.selector.Simple.TheOpen.{Simple-F}
use Rattle.plain_types.specs.declared.selector_parts.Join.{Join}
use Rattle.plain_types.specs.declared.sheet.Features.{Features}
use Rattle.plain_types.specs.declared.sheet.StyleRule.{StyleRule}
use Rattle.css_reader.specs.Features.{any_true, depends_by_simples, is_sibling_join}
use Rattle.selector_match.specs.Elements.{Element, Level, Standing}

module _ (features : Features) where
  -- an element on the way from the root: its emptiness counts where `:empty` stands somewhere
  abbrev pub seen_element : Element → Element
  seen_element element = record { name = element.name; attrs = element.attrs; is_empty = features.empties && element.is_empty }

  -- a sibling of one: all of it where a combinator leads to siblings, else its name, by which positions count
  abbrev pub seen_sibling : Element → Element
  seen_sibling element = if features.siblings then seen_element element else record { name = element.name; attrs = []; is_empty = false }

  abbrev pub seen_siblings : List Element → List Element
  seen_siblings elements = if features.siblings || features.positions then map seen_sibling elements else []

  abbrev pub seen_level : Level → Level
  seen_level level = record { element = seen_element level.element; earlier = seen_siblings level.earlier; later = seen_siblings level.later }

  abbrev pub seen : Standing → Standing
  seen standing = record { level = seen_level standing.level; above = map seen_level standing.above }

-- Whether a simple selector looks at the position of its element, where it is known of its choices whether they do.
abbrev pub position_by_choices : Simple-F Bool Bool → Bool
position_by_choices (Simple-F.Nth a b from_end same_type) = true
position_by_choices (Simple-F.Only same_type) = true
position_by_choices (Simple-F.Is choices) = any_true choices
position_by_choices (Simple-F.Weightless choices) = any_true choices
position_by_choices (Simple-F.Not choices) = any_true choices
position_by_choices _ = false

-- And whether it looks at its emptiness.
abbrev pub emptiness_by_choices : Simple-F Bool Bool → Bool
emptiness_by_choices Simple-F.Empty = true
emptiness_by_choices (Simple-F.Is choices) = any_true choices
emptiness_by_choices (Simple-F.Weightless choices) = any_true choices
emptiness_by_choices (Simple-F.Not choices) = any_true choices
emptiness_by_choices _ = false

-- The same at any depth, where one of these two tells it of each simple selector.
module _ (by_choices : Simple-F Bool Bool → Bool) where
  abbrev pub simple_looks : Simple → Bool
  simple_looks simple = fold-Simple Bool Bool by_choices depends_by_simples simple

  abbrev pub compound_looks : Compound → Bool
  compound_looks compound = fold-Compound Bool Bool by_choices depends_by_simples compound

  abbrev pub selector_looks : Selector → Bool
  selector_looks selector = any_true (map compound_looks selector.compounds)

-- Selectors whose parts look at no more than this.

abbrev pub FitsJoin : Features → Join → Type 0
FitsJoin features join = is_sibling_join join ≡ true → features.siblings ≡ true

pub record FitsCompound (features : Features) (compound : Compound) : Type 0 where
  pub position : compound_looks position_by_choices compound ≡ true → features.positions ≡ true
  pub emptiness : compound_looks emptiness_by_choices compound ≡ true → features.empties ≡ true

pub record FitsSelector (features : Features) (selector : Selector) : Type 0 where
  pub joins : AllByRecursion (FitsJoin features) selector.joins
  pub compounds : AllByRecursion (FitsCompound features) selector.compounds

abbrev pub FitsRule : Features → StyleRule → Type 0
FitsRule features rule = AllByRecursion (FitsSelector features) rule.selectors
