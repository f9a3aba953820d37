-- The declarations that apply to an element or to one of its pseudo-elements, in the order in which they
-- appear: CSS Cascade 5, 5 and 6.
use Rattle.std.specs.Prelude.{ℕ, Bool, true, false, ◌&&◌, List, [], ◌++◌, Option, map, filter, option_map, unwrap_or}
use Rattle.std.specs.List.{flat_map}
use Rattle.forest.specs.Forest.{Forest}
use Rattle.forest.specs.Keys.{Keyed}
use Rattle.plain_types.specs.declared.declaration.Declaration.{Declaration}
use Rattle.plain_types.specs.declared.declaration.Declaration.TheVariants as declaration
use Rattle.plain_types.specs.declared.declaration.Declared.{Declared}
use Rattle.plain_types.specs.declared.node.Node.{Node}
use Rattle.plain_types.specs.declared.selector.Selector.{Selector}
use Rattle.plain_types.specs.declared.selector_parts.PseudoElement.{PseudoElement}
use Rattle.plain_types.specs.declared.selector_parts.PseudoElement.TheVariants.{Own, Marker, Before, After, Never}
use Rattle.plain_types.specs.declared.sheet.Sheet.{Sheet}
use Rattle.plain_types.specs.declared.sheet.StyleRule.{StyleRule}
use Rattle.selector_match.specs.Matching.{matches}
use Rattle.mini_cascade.specs.Greatest.{greatest}
use Rattle.mini_cascade.specs.Hints.{hints_of}
use Rattle.mini_cascade.specs.StyleAttributes.{inline_of}
use Rattle.selectors.specs.Specificity.{nothing, is_less, specificity}
use Rattle.mini_cascade.specs.Ranks.{cascade_level}
use Rattle.mini_cascade.specs.declared.rank.Attachment.TheVariants.{Rule, Direct}
use Rattle.mini_cascade.specs.declared.rank.Level.TheVariants as level
use Rattle.mini_cascade.specs.declared.rank.Origin.{Origin}
use Rattle.mini_cascade.specs.declared.rank.Origin.TheVariants as origin
use Rattle.mini_cascade.specs.declared.rank.Rank.{Rank}
use Rattle.selectors.specs.declared.specificity.Specificity.{Specificity}

-- a declaration that applies, with its rank
pub record Applied : Type 0 where
  pub rank : Rank
  pub what : Declaration

-- the two are the same
abbrev pub is_same : PseudoElement → PseudoElement → Bool
is_same Own Own = true
is_same Marker Marker = true
is_same Before Before = true
is_same After After = true
is_same Never Never = true
is_same _ _ = false

-- Our own, less than CSS Lists 3, 3.1 allows: of the declarations for `::marker` only those of `content` count.
abbrev pub counts_for : PseudoElement → Declaration → Bool
counts_for Marker (declaration.Content said) = true
counts_for Marker _ = false
counts_for _ _ = true

abbrev pub ranked : Rank → Declaration → Applied
ranked rank what = record { rank = rank; what = what }

-- the rank of a declaration in a rule
abbrev pub rule_rank : Origin → Bool → Specificity → Rank
rule_rank origin important specificity = record { level = cascade_level origin important; attachment = Rule specificity }

-- the declarations of a rule that matches with this specificity
abbrev pub declared_with : PseudoElement → Origin → List Declared → Specificity → List Applied
declared_with pseudo origin declared specificity =
    map (λ (d : Declared). ranked (rule_rank origin d.important specificity) d.what)
    (filter (λ (d : Declared). counts_for pseudo d.what) declared)

-- CSS 2.2, 6.4.4: hints are normal declarations of the author with specificity 0, before all of the author's rules
abbrev pub hint_rank : Rank
hint_rank = record { level = level.Author; attachment = Rule nothing }

abbrev pub hinted : PseudoElement → List Declaration → List Applied
hinted Own hints = map (ranked hint_rank) hints
hinted _ hints = []

-- CSS Style Attributes, 3 and 4: the declarations of a `style` attribute are the author's; they apply to its element
-- alone, and to none of its pseudo-elements
abbrev pub attached_rank : Bool → Rank
attached_rank important = record { level = cascade_level origin.Author important; attachment = Direct }

abbrev pub attached : PseudoElement → List Declared → List Applied
attached Own declared = map (λ (d : Declared). ranked (attached_rank d.important) d.what) declared
attached _ declared = []

module _ (tree : Forest (Keyed Node)) (key : ℕ) (pseudo : PseudoElement) where
  -- CSS Cascade 5, 5: the selector selects the element, or its pseudo-element
  abbrev pub selects : Selector → Bool
  selects selector = is_same selector.pseudo pseudo && matches tree key selector

  -- Selectors 4, "Calculating a selector's specificity": of the selectors of a rule that match the most specific one counts
  abbrev pub specificity_in : StyleRule → Option Specificity
  specificity_in rule = greatest is_less (map specificity (filter selects rule.selectors))

  -- a rule without a selector that matches declares nothing
  abbrev pub declared_in : Origin → StyleRule → List Applied
  declared_in origin rule = unwrap_or (option_map (declared_with pseudo origin rule.declared) (specificity_in rule)) []

  abbrev pub applied : Sheet → Sheet → List Applied
  applied agent author =
      flat_map (declared_in origin.UserAgent) agent.rules
      ++ (hinted pseudo (hints_of tree key) ++ (flat_map (declared_in origin.Author) author.rules ++ attached pseudo (inline_of tree key)))
