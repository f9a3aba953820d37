-- The user agent's sheet takes no plain element's box away.
use Rattle.std.proofs.Common.{◌≡◌, ◌&&◌, ℕ, Bool, true, false, List, [], ◌∷◌, Option, Some, None, filter, map, refl, sym, ap, ◌∙◌, codes}
use Rattle.std.specs.List.{flat_map, list_all, list_any}
use Rattle.std.specs.Option.{option_map_or}
use Rattle.std.specs.Str.{bytes_eq}
use Rattle.forest.specs.Forest.{Forest}
use Rattle.forest.specs.Keys.{Keyed, without_keys}
use Rattle.plain_types.specs.declared.node.Node.{Node}
use Rattle.plain_types.specs.Attributes.{value_of}
use Rattle.plain_types.specs.declared.selector.Compound.{Compound}
use Rattle.plain_types.specs.declared.selector.Selector.{Selector}
use Rattle.plain_types.specs.declared.selector.Simple.{Simple, Simple-F, roll-Simple, map-Simple}
use Rattle.plain_types.specs.declared.selector.Simple.TheFolds.{fold-roll-Simple, fold-roll-Compound}
use Rattle.plain_types.specs.declared.selector.Simple.TheOpen as layer
use Rattle.plain_types.specs.declared.selector.Simple.TheVariants as simple
use Rattle.plain_types.specs.declared.selector_parts.AttrTest.TheVariants as test
use Rattle.plain_types.specs.declared.selector_parts.PseudoElement.TheVariants.{Own}
use Rattle.plain_types.specs.declared.sheet.StyleRule.{StyleRule}
use Rattle.selectors.specs.Simples.{present}
use Rattle.selector_match.specs.Elements.{Standing, standing_of}
use Rattle.selector_match.specs.Matching.{compound_matches, matches_complex, matches_compound, matches_simple, simple_matches}
use Rattle.mini_cascade.specs.Declarations.{declared_in, is_same, selects}
use Rattle.mini_cascade.specs.declared.rank.Origin.TheVariants.{UserAgent}
use Rattle.marker_cli.proofs.PlainTrees.{ArePlain, hidden_names}
use Rattle.marker_cli.proofs.PlainElements.{IsPlainStanding, or_parts, stands_plain}
use Rattle.marker_cli.proofs.LeftBoxes.{all_leave, none_applied, rule_leaves, rules_applied}

-- a selector of one simple selector
abbrev pub selector_of : Simple → Selector
selector_of simple = record { compounds = record { simples = simple ∷ [] } ∷ []; joins = []; pseudo = Own }

abbrev pub hiding_selectors : List Selector
hiding_selectors = selector_of (present (codes "hidden")) ∷ map (λ name. selector_of (simple.Element name)) hidden_names

-- the first rule hides elements, and no other declares that one has no box
abbrev pub HidesThese : List StyleRule → Type 0
HidesThese [] = ⊥
HidesThese (first ∷ rest) = (first.selectors ≡ hiding_selectors) × (list_all rule_leaves rest ≡ true)

-- whether an element that stands there, if there is one, matches
abbrev matched : Option Standing → Selector → Bool
matched standing selector = is_same Own selector.pseudo && option_map_or (matches_complex selector) standing false

-- a simple selector that is no choice of others
alone : (standing : Standing) (one : Simple-F Simple Compound) (whole : Simple) → roll-Simple one ≡ whole
    → matches_simple standing whole ≡ simple_matches standing (map-Simple Simple Compound Bool Bool (matches_simple standing) (matches_compound standing) one)
alone standing one whole is = ap (matches_simple standing) (sym is) ∙ fold-roll-Simple Bool Bool (simple_matches standing) compound_matches one

no_match : (standing : Standing) (simple : Simple) → matches_simple standing simple ≡ false → matched (Some standing) (selector_of simple) ≡ false
no_match standing simple other =
    let compound : matches_compound standing (record { simples = simple ∷ [] }) ≡ false =
    fold-roll-Compound Bool Bool (simple_matches standing) compound_matches (record { simples = simple ∷ [] }) ∙ ap (λ b. b && true) other in
    ap (λ b. b && true) compound

unnamed : (standing : Standing) (name : List ℕ) → bytes_eq standing.level.element.name name ≡ false → matched (Some standing) (selector_of (simple.Element name)) ≡ false
unnamed standing name other = no_match standing (simple.Element name) (alone standing (layer.Element name) (simple.Element name) (simple.rolls-Element name) ∙ other)

unhidden : (standing : Standing) → value_of (codes "hidden") standing.level.element.attrs ≡ None → matched (Some standing) (selector_of (present (codes "hidden"))) ≡ false
unhidden standing none =
    let name = codes "hidden" in
    no_match standing (present name)
    (alone standing (layer.Attr name test.Present [] false) (present name) (simple.rolls-Attr name test.Present [] false) ∙ ap (λ (value : Option (List ℕ)). option_map_or (λ text. true) value false) none)

none_matched : (standing : Option Standing) → IsPlainStanding standing → filter (matched standing) hiding_selectors ≡ []
none_matched None plain = nothing hiding_selectors
  where
    and_nothing : (b : Bool) → (b && false) ≡ false
    and_nothing true = refl
    and_nothing false = refl

    nothing : (selectors : List Selector) → filter (matched None) selectors ≡ []
    nothing [] = refl
    nothing (selector ∷ selectors) = rw (and_nothing (is_same Own selector.pseudo)) (nothing selectors)
none_matched (Some standing) plain = rw (unhidden standing plain.unhidden) (named hidden_names plain.shown)
  where
    named : (names : List (List ℕ)) → list_any (bytes_eq standing.level.element.name) names ≡ false → filter (matched (Some standing)) (map (λ name. selector_of (simple.Element name)) names) ≡ []
    named [] none = refl
    named (name ∷ names) none =
        let parts = or_parts _ _ none in
        rw (unnamed standing name parts.0) (named names parts.1)

pub agent_leaves : (rules : List StyleRule) (tree : Forest (Keyed Node)) (key : ℕ) → HidesThese rules → ArePlain (without_keys tree)
    → all_leave (flat_map (declared_in tree key Own UserAgent) rules) ≡ true
agent_leaves [] tree key hides plain = absurd hides
agent_leaves (first ∷ rest) tree key hides plain =
    let none = ap (filter (selects tree key Own)) hides.0 ∙ none_matched (standing_of tree key) (stands_plain tree key plain) in
    rw (none_applied tree key UserAgent first none) (rules_applied tree key UserAgent rest hides.1)
