-- What the selectors of a sheet look at: Selectors 4, 4, "Tree-Structural pseudo-classes" and "Combinators".
use Rattle.std.specs.Prelude.{Bool, true, false, List, map}
use Rattle.std.specs.List.{list_any}
use Rattle.plain_types.specs.declared.selector.Compound.{Compound}
use Rattle.plain_types.specs.declared.selector.Selector.{Selector}
use Rattle.plain_types.specs.declared.selector.Simple.{Simple}
use Rattle.plain_types.specs.declared.selector.Simple.TheFolds.{fold-Simple, fold-Compound}
use Rattle.plain_types.specs.declared.selector.Simple.TheOpen.{Simple-F, Compound-F}
use Rattle.plain_types.specs.declared.selector_parts.Join.{Join}
use Rattle.plain_types.specs.declared.selector_parts.Join.TheVariants as join
use Rattle.plain_types.specs.declared.sheet.Features.{Features}
use Rattle.plain_types.specs.declared.sheet.Sheet.{Sheet}
use Rattle.plain_types.specs.declared.sheet.StyleRule.{StyleRule}
use Rattle.css_reader.specs.declared.features.Aspect.{Aspect}
use Rattle.css_reader.specs.declared.features.Aspect.TheVariants as aspect

-- `+` and `~`
abbrev pub is_sibling_join : Join → Bool
is_sibling_join join.Next = true
is_sibling_join join.Later = true
is_sibling_join _ = false

abbrev pub is_position : Aspect → Bool
is_position aspect.Position = true
is_position aspect.Emptiness = false

abbrev pub is_emptiness : Aspect → Bool
is_emptiness aspect.Position = false
is_emptiness aspect.Emptiness = true

abbrev pub any_true : List Bool → Bool
any_true tests = list_any (λ test. test) tests

-- Whether a simple selector depends on an aspect of its element: `:nth-child()`, `:only-child` and their kin
-- on its position, `:empty` on its emptiness; and `:is()`, `:where()` and `:not()` where a choice does, of
-- which it is known here.
abbrev pub depends_by_choices : Aspect → Simple-F Bool Bool → Bool
depends_by_choices aspect (Simple-F.Nth a b from_end same_type) = is_position aspect
depends_by_choices aspect (Simple-F.Only same_type) = is_position aspect
depends_by_choices aspect Simple-F.Empty = is_emptiness aspect
depends_by_choices aspect (Simple-F.Is choices) = any_true choices
depends_by_choices aspect (Simple-F.Weightless choices) = any_true choices
depends_by_choices aspect (Simple-F.Not choices) = any_true choices
depends_by_choices aspect _ = false

abbrev pub depends_by_simples : Compound-F Bool Bool → Bool
depends_by_simples compound = any_true compound.simples

-- the same at any depth
abbrev pub simple_depends : Aspect → Simple → Bool
simple_depends aspect simple = fold-Simple Bool Bool (depends_by_choices aspect) depends_by_simples simple

abbrev pub compound_depends : Aspect → Compound → Bool
compound_depends aspect compound = fold-Compound Bool Bool (depends_by_choices aspect) depends_by_simples compound

abbrev pub depends : Aspect → Selector → Bool
depends aspect selector = any_true (map (compound_depends aspect) selector.compounds)

abbrev pub joins_siblings : Selector → Bool
joins_siblings selector = list_any is_sibling_join selector.joins

-- a selector of a rule passes
abbrev pub some_selector : (Selector → Bool) → List StyleRule → Bool
some_selector passes rules = list_any (λ (rule : StyleRule). list_any passes rule.selectors) rules

abbrev pub features : Sheet → Features
features sheet = record {
  siblings = some_selector joins_siblings sheet.rules;
  positions = some_selector (depends aspect.Position) sheet.rules;
  empties = some_selector (depends aspect.Emptiness) sheet.rules;
}
