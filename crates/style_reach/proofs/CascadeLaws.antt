-- An element that the same selectors match in two documents, and that is the same there, has the same style under the
-- same parent.
use Rattle.std.proofs.Common.{◌≡◌, ℕ, ◌&&◌, cond, List, [], ◌∷◌, ◌++◌, map, refl, sym, ap, ◌∙◌, Option, option_map}
use Rattle.std.specs.List.{filter, flat_map, AllByRecursion}
use Rattle.std.specs.Option.{option_and_then, option_map_or}
use Rattle.std.specs.Prelude.{codes, unwrap_or}
use Rattle.std.proofs.lemmas.List.Concat.{flat_map-cons}
use Rattle.forest.specs.Forest.{Forest}
use Rattle.forest.specs.Keys.{Keyed}
use Rattle.forest.specs.Spots.{label_of}
use Rattle.plain_types.specs.Attributes.{value_of}
use Rattle.plain_types.specs.declared.declaration.Declaration.{Declaration}
use Rattle.plain_types.specs.declared.declaration.Declared.{Declared}
use Rattle.plain_types.specs.declared.node.Node.{Node}
use Rattle.plain_types.specs.declared.sheet.Features.{Features}
use Rattle.plain_types.specs.declared.sheet.Sheet.{Sheet}
use Rattle.plain_types.specs.declared.sheet.StyleRule.{StyleRule}
use Rattle.plain_types.specs.declared.selector.Selector.{Selector}
use Rattle.plain_types.specs.declared.selector_parts.PseudoElement.{PseudoElement}
use Rattle.plain_types.specs.declared.selector_parts.PseudoElement.TheVariants.{Own, Marker, Before, After}
use Rattle.plain_types.specs.declared.style.Style.{Style}
use Rattle.node_arena.specs.Nodes.{node_attrs, node_name}
use Rattle.css_reader.specs.Sheets.{inline_declarations}
use Rattle.selector_match.specs.Elements.{standing_of}
use Rattle.selector_match.specs.Matching.{matches}
use Rattle.selectors.specs.Specificity.{is_less, specificity}
use Rattle.mini_cascade.specs.Declarations.{Applied, attached, declared_in, declared_with, hinted, is_same, selects}
use Rattle.mini_cascade.specs.Greatest.{greatest}
use Rattle.mini_cascade.specs.Hints.{hints, hints_of}
use Rattle.mini_cascade.specs.StyleAttributes.{inline_of}
use Rattle.mini_cascade.specs.Styles.{applied_to, element_style, styles_under}
use Rattle.mini_cascade.specs.declared.rank.Origin.{Origin}
use Rattle.mini_cascade.specs.declared.rank.Origin.TheVariants as origin
use Rattle.style_reach.proofs.Seen.{FitsRule, FitsSelector, seen}
use Rattle.style_reach.proofs.SelectorLaws.{matches-seen}

-- Two documents where the node of a key is the same, and the same is seen of where it stands.
pub record IsSeenAlike (features : Features) (key : ℕ) (old new : Forest (Keyed Node)) : Type 0 where
  pub stands : option_map (seen features) (standing_of old key) ≡ option_map (seen features) (standing_of new key)
  pub label : label_of old key ≡ label_of new key

pub seen-then : (features : Features) (key : ℕ) (old mid new : Forest (Keyed Node)) → IsSeenAlike features key old mid → IsSeenAlike features key mid new → IsSeenAlike features key old new
seen-then features key old mid new first second = record { stands = first.stands ∙ second.stands; label = first.label ∙ second.label }

module _ (features : Features) (old new : Forest (Keyed Node)) (key : ℕ) (alike : IsSeenAlike features key old new) where
  matches-same : (selector : Selector) → FitsSelector features selector → matches old key selector ≡ matches new key selector
  matches-same selector fits = matches-seen features old new key alike.stands selector fits

  selected-same : (pseudo : PseudoElement) (selectors : List Selector) → AllByRecursion (FitsSelector features) selectors → filter (selects old key pseudo) selectors ≡ filter (selects new key pseudo) selectors
  selected-same pseudo [] fits = refl
  selected-same pseudo (selector ∷ selectors) fits =
      ap (λ b. cond (is_same selector.pseudo pseudo && b) (selector ∷ filter (selects old key pseudo) selectors) (filter (selects old key pseudo) selectors)) (matches-same selector fits.0)
      ∙ ap (λ (rest : List Selector). cond (selects new key pseudo selector) (selector ∷ rest) rest) (selected-same pseudo selectors fits.1)

  rule-same : (pseudo : PseudoElement) (from : Origin) (rule : StyleRule) → FitsRule features rule → declared_in old key pseudo from rule ≡ declared_in new key pseudo from rule
  rule-same pseudo from rule fits =
      ap (λ (selectors : List Selector). unwrap_or (option_map (declared_with pseudo from rule.declared) (greatest is_less (map specificity selectors))) []) (selected-same pseudo rule.selectors fits)

  rules-same : (pseudo : PseudoElement) (from : Origin) (rules : List StyleRule) → AllByRecursion (FitsRule features) rules → flat_map (declared_in old key pseudo from) rules ≡ flat_map (declared_in new key pseudo from) rules
  rules-same pseudo from [] fits = refl
  rules-same pseudo from (rule ∷ rules) fits =
      flat_map-cons (declared_in old key pseudo from) rule rules
      ∙ ap (λ (xs : List Applied). xs ++ flat_map (declared_in old key pseudo from) rules) (rule-same pseudo from rule fits.0)
      ∙ ap (λ (xs : List Applied). declared_in new key pseudo from rule ++ xs) (rules-same pseudo from rules fits.1)
      ∙ sym (flat_map-cons (declared_in new key pseudo from) rule rules)

  -- hints and the `style` attribute are told by the node alone
  hints-same : hints_of old key ≡ hints_of new key
  hints-same = ap (λ o. hints (unwrap_or (option_and_then node_name o) []) (unwrap_or (option_map node_attrs o) [])) alike.label

  inline-same : inline_of old key ≡ inline_of new key
  inline-same = ap (λ o. option_map_or inline_declarations (value_of (codes "style") (unwrap_or (option_map node_attrs o) [])) []) alike.label

  module _ (agent author : Sheet) (agent_fits : AllByRecursion (FitsRule features) agent.rules) (author_fits : AllByRecursion (FitsRule features) author.rules) where
    applied-same : (pseudo : PseudoElement) → applied_to old agent author key pseudo ≡ applied_to new agent author key pseudo
    applied-same pseudo =
        let all : List Applied → List Declaration → List Applied → List Declared → List Applied = λ by_agent hinting by_author inline. by_agent ++ (hinted pseudo hinting ++ (by_author ++ attached pseudo inline)) in
        let by_agent = rules-same pseudo origin.UserAgent agent.rules agent_fits in
        let by_author = rules-same pseudo origin.Author author.rules author_fits in
        ap (λ xs. all xs (hints_of old key) (flat_map (declared_in old key pseudo origin.Author) author.rules) (inline_of old key)) by_agent
        ∙ ap (λ hs. all (flat_map (declared_in new key pseudo origin.UserAgent) agent.rules) hs (flat_map (declared_in old key pseudo origin.Author) author.rules) (inline_of old key)) hints-same
        ∙ ap (λ xs. all (flat_map (declared_in new key pseudo origin.UserAgent) agent.rules) (hints_of new key) xs (inline_of old key)) by_author
        ∙ ap (λ ds. all (flat_map (declared_in new key pseudo origin.UserAgent) agent.rules) (hints_of new key) (flat_map (declared_in new key pseudo origin.Author) author.rules) ds) inline-same

    pub style-same : (parent : Option Style) → element_style old agent author key parent ≡ element_style new agent author key parent
    style-same parent =
        let before = applied_to old agent author key in
        let now = applied_to new agent author key in
        ap (λ own. styles_under own (before Marker) (before Before) (before After) parent) (applied-same Own)
        ∙ ap (λ marker. styles_under (now Own) marker (before Before) (before After) parent) (applied-same Marker)
        ∙ ap (λ text. styles_under (now Own) (now Marker) text (before After) parent) (applied-same Before)
        ∙ ap (λ text. styles_under (now Own) (now Marker) (now Before) text parent) (applied-same After)
