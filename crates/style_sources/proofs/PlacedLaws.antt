-- Declarations with where they stand: as the code holds them, how they are ordered, and without their places.
use Rattle.std.proofs.Common.{◌≡◌, ℕ, ◌+◌, Bool, if◌then◌else◌, List, [], ◌∷◌, ◌++◌, Option, Some, None, map, filter, flat_map, option_map, unwrap_or, refl, sym, ap, ap₂, ◌∙◌, inl, inr, length, get_or, drop, ◌<◌, append_assoc}
use Rattle.std.proofs.lemmas.Bool.{cases_Bool}
use Rattle.std.proofs.lemmas.List.{at_drop_more, map-append}
use Rattle.forest.specs.Forest.{Forest}
use Rattle.forest.specs.Keys.{Keyed}
use Rattle.plain_types.specs.declared.declaration.Declaration.{Declaration}
use Rattle.plain_types.specs.declared.declaration.Declared.{Declared}
use Rattle.plain_types.specs.declared.node.Node.{Node}
use Rattle.plain_types.specs.declared.selector_parts.PseudoElement.TheVariants.{Own}
use Rattle.plain_types.specs.declared.sheet.StyleRule.{StyleRule}
use Rattle.reading.specs.Reading.{◌then◌}
use Rattle.selectors.specs.declared.specificity.Specificity.{Specificity}
use Rattle.mini_cascade.specs.Declarations as cascade
use Rattle.mini_cascade.specs.Declarations.{Applied, applied, attached_rank, hint_rank, ranked, specificity_in}
use Rattle.mini_cascade.specs.Greatest.{greater, greatest}
use Rattle.mini_cascade.specs.Hints.{hints_of}
use Rattle.mini_cascade.specs.StyleAttributes.{inline_of}
use Rattle.mini_cascade.specs.Styles as styles
use Rattle.mini_cascade.specs.declared.rank.Origin.{Origin}
use Rattle.mini_cascade.specs.declared.rank.Origin.TheVariants as origin
use Rattle.mini_cascade.proofs.GreatestLaws.{IsOrder}
use Rattle.mini_cascade.proofs.Ordering.{declaration_order}
use Rattle.style_sources.specs.Laws.{PlacedAreThoseThatApply}
use Rattle.style_sources.specs.Sources.{Placed, attached, declared_from, declared_in, declared_with, gives_way, hinted, placed}
use Rattle.style_sources.specs.declared.place.DeclarationPlace.TheVariants.{Rule}
use Rattle.style_sources.specs.declared.place.SheetOrigin.{SheetOrigin}
use Rattle.style_sources.specs.declared.place.SheetOrigin.TheVariants.{UserAgent, Author}
use Rattle.style_sources.specs.declared.placed.PlacedDeclaration.{PlacedDeclaration}

-- as the code holds it
abbrev pub placed_of : PlacedDeclaration → Placed
placed_of d = placed d.place d.important d.specificity d.what.now

pub placed_order : IsOrder gives_way
placed_order = record {
  less = λ a b c. declaration_order.less a.applied b.applied c.applied;
  not_less = λ a b c. declaration_order.not_less a.applied b.applied c.applied;
}

-- without their places
abbrev pub bare : List Placed → List Applied
bare declarations = map (λ (p : Placed). p.applied) declarations

abbrev cascade_origin : SheetOrigin → Origin
cascade_origin UserAgent = origin.UserAgent
cascade_origin Author = origin.Author

-- all declarations count for the element itself
bare_rule : (from : SheetOrigin) (number : ℕ) (declared : List Declared) (specificity : Specificity)
    → bare (declared_with (Rule from number) declared specificity) ≡ cascade.declared_with Own (cascade_origin from) declared specificity
bare_rule UserAgent number [] specificity = refl
bare_rule Author number [] specificity = refl
bare_rule UserAgent number (first ∷ rest) specificity =
    ap (λ more. (placed (Rule UserAgent number) first.important specificity first.what).applied ∷ more) (bare_rule UserAgent number rest specificity)
bare_rule Author number (first ∷ rest) specificity =
    ap (λ more. (placed (Rule Author number) first.important specificity first.what).applied ∷ more) (bare_rule Author number rest specificity)

bare_attached : (declared : List Declared) → bare (attached declared) ≡ cascade.attached Own declared
bare_attached [] = refl
bare_attached (first ∷ rest) = ap (λ more. ranked (attached_rank first.important) first.what ∷ more) (bare_attached rest)

bare_hinted : (hints : List Declaration) → bare (hinted hints) ≡ cascade.hinted Own hints
bare_hinted [] = refl
bare_hinted (first ∷ rest) = ap (λ more. ranked hint_rank first ∷ more) (bare_hinted rest)

bare_where : (from : SheetOrigin) (number : ℕ) (declared : List Declared) (specificity : Option Specificity)
    → bare (unwrap_or (option_map (declared_with (Rule from number) declared) specificity) []) ≡ unwrap_or (option_map (cascade.declared_with Own (cascade_origin from) declared) specificity) []
bare_where from number declared None = refl
bare_where from number declared (Some specificity) = bare_rule from number declared specificity

module _ (tree : Forest (Keyed Node)) (key : ℕ) where
  bare_from : (from : SheetOrigin) (number : ℕ) (rules : List StyleRule)
      → bare (declared_from tree key from number rules) ≡ flat_map (cascade.declared_in tree key Own (cascade_origin from)) rules
  bare_from from number [] = refl
  bare_from from number (rule ∷ rules) =
      map-append (λ (p : Placed). p.applied) (declared_in tree key (Rule from number) rule) (declared_from tree key from (number + 1) rules)
      ∙ ap₂ (λ first rest. first ++ rest) (bare_where from number rule.declared (specificity_in tree key Own rule)) (bare_from from (number + 1) rules)

pub those_of_the_cascade : PlacedAreThoseThatApply
those_of_the_cascade tree agent author key =
    let by_agent = declared_from tree key UserAgent 0 agent.rules in
    let by_hints = hinted (hints_of tree key) in
    let by_author = declared_from tree key Author 0 author.rules in
    let by_attribute = attached (inline_of tree key) in
    map-append (λ (p : Placed). p.applied) by_agent (by_hints ++ (by_author ++ by_attribute))
    ∙ ap₂ (λ first rest. first ++ rest) (bare_from tree key UserAgent 0 agent.rules)
    (map-append (λ (p : Placed). p.applied) by_hints (by_author ++ by_attribute)
    ∙ ap₂ (λ first rest. first ++ rest) (bare_hinted (hints_of tree key))
    (map-append (λ (p : Placed). p.applied) by_author by_attribute
    ∙ ap₂ (λ first rest. first ++ rest) (bare_from tree key Author 0 author.rules) (bare_attached (inline_of tree key))))

-- The declarations of rules, where the code has come to one of them.
module _ (tree : Forest (Keyed Node)) (key : ℕ) (from : SheetOrigin) (rules : List StyleRule) where
  pub rule_added : (number : ℕ) (rule : StyleRule) (old next end : List Placed) → number < length rules → rule ≡ get_or rules number rule
      → next ≡ old ++ declared_in tree key (Rule from number) rule → old ++ declared_from tree key from number (drop number rules) ≡ end
      → next ++ declared_from tree key from (number + 1) (drop (number + 1) rules) ≡ end
  rule_added number rule old next end within here is reaches =
      let whole = declared_from tree key from number in
      let behind = declared_from tree key from (number + 1) (drop (number + 1) rules) in
      let opened = at_drop_more (λ rest. old ++ whole rest) rules number rule within in
      let named = ap (λ (first : StyleRule). old ++ whole (first ∷ drop (number + 1) rules)) (sym here) in
      ap (λ (list : List Placed). list ++ behind) is ∙ append_assoc old (declared_in tree key (Rule from number) rule) behind ∙ sym named ∙ sym opened ∙ reaches

-- The greatest is the same without the places.

bare_greater : (one other : Option Placed) → option_map (λ (p : Placed). p.applied) (greater gives_way one other)
    ≡ greater styles.gives_way (option_map (λ (p : Placed). p.applied) one) (option_map (λ (p : Placed). p.applied) other)
bare_greater None other = refl
bare_greater (Some one) None = refl
bare_greater (Some one) (Some other) = elim (cases_Bool (styles.gives_way other.applied one.applied)) [
  | inl below ↦ rw below refl
  | inr above ↦ rw above refl
]

bare_greatest : (all : List Placed) → option_map (λ (p : Placed). p.applied) (greatest gives_way all) ≡ greatest styles.gives_way (bare all)
bare_greatest [] = refl
bare_greatest (first ∷ rest) = bare_greater (Some first) (greatest gives_way rest) ∙ ap (greater styles.gives_way (Some first.applied)) (bare_greatest rest)

bare_filter : (test : Declaration → Bool) (all : List Placed) → bare (filter (λ (p : Placed). test p.applied.what) all) ≡ filter (λ (a : Applied). test a.what) (bare all)
bare_filter test [] = refl
bare_filter test (first ∷ rest) = elim (cases_Bool (test first.applied.what)) [
  | inl passes ↦ rw passes (ap (λ more. first.applied ∷ more) (bare_filter test rest))
  | inr fails ↦ rw fails (bare_filter test rest)
]

bare_then : {X : Type 0} (says : Declaration → Option X) (told : Option Placed)
    → (option_map (λ (p : Placed). p.applied) told then λ a. says a.what) ≡ (told then λ p. says p.applied.what)
bare_then says None = refl
bare_then says (Some told) = refl

-- what the greatest that passes says is what the greatest with its place says
pub same_saying : {X : Type 0} (says : Declaration → Option X) (test : Declaration → Bool) (all : List Placed) (without : List Applied) → bare all ≡ without
    → (greatest styles.gives_way (filter (λ (a : Applied). test a.what) without) then λ a. says a.what)
    ≡ (greatest gives_way (filter (λ (p : Placed). test p.applied.what) all) then λ p. says p.applied.what)
same_saying says test all without is =
    let those = λ (some : List Applied). greatest styles.gives_way some then λ a. says a.what in
    ap (λ some. those (filter (λ (a : Applied). test a.what) some)) (sym is)
    ∙ ap those (sym (bare_filter test all))
    ∙ ap (λ (told : Option Applied). told then λ a. says a.what) (sym (bare_greatest (filter (λ (p : Placed). test p.applied.what) all)))
    ∙ bare_then says (greatest gives_way (filter (λ (p : Placed). test p.applied.what) all))
