-- Sheets under which nothing is generated (our own).
use Rattle.std.specs.Prelude.{ℕ, Bool, true, false, not, ◌&&◌, ◌||◌, List, [], ◌∷◌, ◌++◌, IsTrue, codes}
use Rattle.std.specs.List.{list_all, list_any}
use Rattle.std.specs.Option.{option_map_or}
use Rattle.plain_types.specs.declared.content.Content.{Content}
use Rattle.plain_types.specs.declared.content.Content.TheVariants as content
use Rattle.plain_types.specs.declared.declaration.Declared.{Declared}
use Rattle.plain_types.specs.declared.declaration.Said.{Said}
use Rattle.plain_types.specs.declared.declaration.Said.TheVariants as said
use Rattle.plain_types.specs.declared.selector.Compound.{Compound}
use Rattle.plain_types.specs.declared.selector.Selector.{Selector}
use Rattle.plain_types.specs.declared.selector.Simple.TheFolds.{fold-Compound}
use Rattle.plain_types.specs.declared.selector.Simple.TheOpen.{Simple-F, Compound-F}
use Rattle.plain_types.specs.declared.selector_parts.Join.{Join}
use Rattle.plain_types.specs.declared.selector_parts.PseudoElement.{PseudoElement}
use Rattle.plain_types.specs.declared.selector_parts.PseudoElement.TheVariants.{Marker, Before, After}
use Rattle.plain_types.specs.declared.sheet.Sheet.{Sheet}
use Rattle.plain_types.specs.declared.sheet.StyleRule.{StyleRule}
use Rattle.mini_cascade.specs.Declarations.{is_same}
use Rattle.mini_cascade.specs.Properties.{content_said}

-- Selectors of a pseudo-element of every element.

-- Selectors 4, 5.2: the simple selector is `*`
abbrev pub is_universal : Simple-F Bool Bool → Bool
is_universal Simple-F.Any = true
is_universal _ = false

-- each simple selector of a compound selector is so
abbrev pub are_universal : Compound-F Bool Bool → Bool
are_universal compound = list_all (λ universal. universal) compound.simples

-- the compound selector is `*`, or has no simple selector, as before a pseudo-element that stands alone
abbrev pub takes_each : Compound → Bool
takes_each compound = fold-Compound Bool Bool is_universal are_universal compound

-- it is the only one
abbrev pub takes_each_alone : List Compound → List Join → Bool
takes_each_alone (compound ∷ []) [] = takes_each compound
takes_each_alone _ _ = false

-- the selector selects this pseudo-element of every element, as `*::before` does
abbrev pub selects_each : PseudoElement → Selector → Bool
selects_each pseudo selector = is_same selector.pseudo pseudo && takes_each_alone selector.compounds selector.joins

-- Declarations.

-- CSS Generated Content 3, 2: the value is `none`
abbrev pub is_none : Said Content → Bool
is_none (said.Value content.Nothing) = true
is_none _ = false

-- `content: none !important`
abbrev pub silences : Declared → Bool
silences declared = declared.important && option_map_or is_none (content_said declared.what) false

-- no important `content` of another value
abbrev pub keeps_silence : Declared → Bool
keeps_silence declared = not declared.important || option_map_or is_none (content_said declared.what) true

-- Sheets.

-- a rule for this pseudo-element of every element, which says `content: none !important`
abbrev pub silences_each : PseudoElement → StyleRule → Bool
silences_each pseudo rule = list_any (selects_each pseudo) rule.selectors && list_any silences rule.declared

-- each important `content` in the sheet is `none`
abbrev pub all_keep_silence : Sheet → Bool
all_keep_silence sheet = list_all (λ (rule : StyleRule). list_all keeps_silence rule.declared) sheet.rules

-- The sheet says `content: none !important` of the three pseudo-elements of every element, and no other important `content`.
-- What else it says, and in which order, does not matter.
pub record IsSilent (sheet : Sheet) : Type 0 where
  pub marker : IsTrue (list_any (silences_each Marker) sheet.rules)
  pub before : IsTrue (list_any (silences_each Before) sheet.rules)
  pub after : IsTrue (list_any (silences_each After) sheet.rules)
  pub others : IsTrue (all_keep_silence sheet)

-- the text of `examples/baked.css`. The first rule is for readers that know no `content` of markers.
unfoldable pub silencing_text : List ℕ
silencing_text =
    codes "/* Behind a sheet whose texts were baked into a document: nothing is generated a second time. */\n"
    ++ codes "*{list-style-type:none!important}*::marker,*::before,*::after{content:none!important}\n"
