-- Selectors match the same elements of same documents.
use Rattle.std.proofs.Common.{◌≡◌, ◌+◌, ◌&&◌, ◌||◌, ◌==◌, ℕ, Bool, true, false, cond, not, List, [], ◌∷◌, length, reverse, codes, bytes_eq, Option, Some, None, refl, ap, ap₂}
use Rattle.std.proofs.Math.Path.{fun_ext}
use Rattle.std.specs.Option.{option_map_or, option_or}
use Rattle.forest.specs.Forest.{Forest, Empty, Tree}
use Rattle.forest.specs.Keys.{Keyed, without_keys}
use Rattle.plain_types.specs.declared.attr.Attr.{Attr}
use Rattle.plain_types.specs.declared.node.Node.{Node}
use Rattle.plain_types.specs.declared.node.Node.TheVariants as node
use Rattle.plain_types.specs.declared.selector.Compound.{Compound}
use Rattle.plain_types.specs.declared.selector.Selector.{Selector}
use Rattle.plain_types.specs.declared.selector.Simple.TheFolds.{fold-Compound}
use Rattle.plain_types.specs.declared.selector.Simple.TheOpen.{Simple-F}
use Rattle.plain_types.specs.declared.selector_parts.Join.{Join}
use Rattle.plain_types.specs.declared.selector_parts.Join.TheVariants.{Descendant, Child, Next, Later}
use Rattle.selector_match.specs.Attributes.{has_word, passes_in_case}
use Rattle.selector_match.specs.Elements.{Element, Level, Standing, ancestors, ancestors_in, among, are_nothing, earlier_siblings, element_with, elements, level_of, levels_back, standing_in, standing_of}
use Rattle.selector_match.specs.Matching.{compound_matches, has_attr, led, matches, matches_before, matches_complex, matches_compound, matches_from, simple_matches}
use Rattle.selector_match.specs.Positions.{is_counted, is_nth, sibling_count, siblings}
use Rattle.same_documents.specs.Sameness.{AreSame, AreSameAttrs, AreSameKeyed}
use Rattle.same_documents.proofs.SameEdits.{same_bare}
use Rattle.same_texts.proofs.Pairing.{AreEach, IsBoth, both_trees, each_any, each_count, each_length, each_one}

-- Where elements stand.

pub record IsSameElement (element other : Element) : Type 0 where
  pub name : element.name ≡ other.name
  pub attrs : AreSameAttrs element.attrs other.attrs
  pub empty : element.is_empty ≡ other.is_empty

pub record IsSameLevel (level other : Level) : Type 0 where
  pub element : IsSameElement level.element other.element
  pub earlier : AreEach IsSameElement level.earlier other.earlier
  pub later : AreEach IsSameElement level.later other.later

pub record IsSameStanding (standing other : Standing) : Type 0 where
  pub level : IsSameLevel standing.level other.level
  pub above : AreEach IsSameLevel standing.above other.above

same_ancestors : (above other : List Level) → AreEach IsSameLevel above other → AreEach IsSameStanding (ancestors_in above) (ancestors_in other)
same_ancestors [] [] h = tt
same_ancestors [] (level ∷ other) h = absurd h
same_ancestors (level ∷ above) [] h = absurd h
same_ancestors (level ∷ above) (next ∷ other) h = (record { level = h.0; above = h.1 }, same_ancestors above other h.1)

same_back : (earlier other later next : List Element) → AreEach IsSameElement earlier other → AreEach IsSameElement later next → AreEach IsSameLevel (levels_back earlier later) (levels_back other next)
same_back [] [] later next h g = tt
same_back [] (e ∷ other) later next h g = absurd h
same_back (e ∷ earlier) [] later next h g = absurd h
same_back (e ∷ earlier) (f ∷ other) later next h g = (record { element = h.0; earlier = h.1; later = g }, same_back earlier other (e ∷ later) (f ∷ next) h.1 (h.0, g))

same_among : (above over levels others : List Level) → AreEach IsSameLevel above over → AreEach IsSameLevel levels others → AreEach IsSameStanding (among above levels) (among over others)
same_among above over [] [] h g = tt
same_among above over [] (level ∷ others) h g = absurd g
same_among above over (level ∷ levels) [] h g = absurd g
same_among above over (level ∷ levels) (next ∷ others) h g = (record { level = g.0; above = h }, same_among above over levels others h g.1)

-- Matching.

module _ (s t : Standing) (h : IsSameStanding s t) where
  attr_same : (name : List ℕ) (test : List ℕ → Bool) → has_attr s.level.element name test ≡ has_attr t.level.element name test
  attr_same name test = ap (λ value. option_map_or test value false) (h.level.element.attrs name)

  counted_same : (same_type : Bool) (e f : Element) → IsSameElement e f → is_counted same_type s.level.element e ≡ is_counted same_type t.level.element f
  counted_same same_type e f same = ap₂ (λ name other. not same_type || bytes_eq name other) same.name h.level.element.name

  siblings_same : (after : Bool) → AreEach IsSameElement (siblings after s.level) (siblings after t.level)
  siblings_same true = h.level.later
  siblings_same false = h.level.earlier

  count_same : (after same_type : Bool) → sibling_count after same_type s.level ≡ sibling_count after same_type t.level
  count_same after same_type =
      each_count IsSameElement (is_counted same_type s.level.element) (is_counted same_type t.level.element) (counted_same same_type) (siblings after s.level) (siblings after t.level) (siblings_same after)

  simple_same : (simple : Simple-F Bool Bool) → simple_matches s simple ≡ simple_matches t simple
  simple_same Simple-F.Any = refl
  simple_same (Simple-F.Element name) = ap (λ n. bytes_eq n name) h.level.element.name
  simple_same (Simple-F.Id name) = attr_same (codes "id") (λ value. bytes_eq value name)
  simple_same (Simple-F.Class name) = attr_same (codes "class") (λ value. has_word value name)
  simple_same Simple-F.Root = ap (λ n. n == 0) (each_length IsSameLevel s.above t.above h.above)
  simple_same Simple-F.Empty = h.level.element.empty
  simple_same Simple-F.Never = refl
  simple_same (Simple-F.Attr name test value fold) = attr_same name (λ text. passes_in_case fold test text value)
  simple_same (Simple-F.Only same_type) = ap₂ (λ before after. (before == 0) && (after == 0)) (count_same false same_type) (count_same true same_type)
  simple_same (Simple-F.Nth a b from_end same_type) = ap (λ n. is_nth a b (n + 1)) (count_same from_end same_type)
  simple_same (Simple-F.Is choices) = refl
  simple_same (Simple-F.Weightless choices) = refl
  simple_same (Simple-F.Not choices) = refl

  compound_same : (compound : Compound) → matches_compound s compound ≡ matches_compound t compound
  compound_same compound = ap (λ test. fold-Compound Bool Bool test compound_matches compound) (fun_ext simple_same)

  led_same : (join : Join) → AreEach IsSameStanding (led join s) (led join t)
  led_same Descendant = same_ancestors s.above t.above h.above
  led_same Child = each_one IsSameStanding (ancestors s) (ancestors t) (same_ancestors s.above t.above h.above)
  led_same Later = earlier_same
    where
      earlier_same : AreEach IsSameStanding (earlier_siblings s) (earlier_siblings t)
      earlier_same =
          same_among s.above t.above (levels_back s.level.earlier (s.level.element ∷ s.level.later)) (levels_back t.level.earlier (t.level.element ∷ t.level.later)) h.above
          (same_back s.level.earlier t.level.earlier (s.level.element ∷ s.level.later) (t.level.element ∷ t.level.later) h.level.earlier (h.level.element, h.level.later))
  led_same Next =
      each_one IsSameStanding (earlier_siblings s) (earlier_siblings t)
      (same_among s.above t.above (levels_back s.level.earlier (s.level.element ∷ s.level.later)) (levels_back t.level.earlier (t.level.element ∷ t.level.later)) h.above
      (same_back s.level.earlier t.level.earlier (s.level.element ∷ s.level.later) (t.level.element ∷ t.level.later) h.level.earlier (h.level.element, h.level.later)))

before_same : (joins : List Join) (compounds : List Compound) (s t : Standing) → IsSameStanding s t → matches_before joins compounds s ≡ matches_before joins compounds t
before_same [] [] s t h = refl
before_same [] (compound ∷ compounds) s t h = refl
before_same (join ∷ joins) [] s t h = refl
before_same (join ∷ joins) (compound ∷ compounds) s t h =
    each_any IsSameStanding (λ other. matches_compound other compound && matches_before joins compounds other) (λ other. matches_compound other compound && matches_before joins compounds other)
    (λ one other same. ap₂ (λ a b. a && b) (compound_same one other same compound) (before_same joins compounds one other same)) (led join s) (led join t) (led_same s t h join)

from_same : (compounds : List Compound) (joins : List Join) (s t : Standing) → IsSameStanding s t → matches_from compounds joins s ≡ matches_from compounds joins t
from_same [] joins s t h = refl
from_same (last ∷ compounds) joins s t h = ap₂ (λ a b. a && b) (compound_same s t h last) (before_same joins compounds s t h)

complex_same : (selector : Selector) (s t : Option Standing) → IsBoth IsSameStanding s t → option_map_or (matches_complex selector) s false ≡ option_map_or (matches_complex selector) t false
complex_same selector None None h = refl
complex_same selector None (Some t) h = absurd h
complex_same selector (Some s) None h = absurd h
complex_same selector (Some s) (Some t) h = from_same (reverse selector.compounds) (reverse selector.joins) s t h

-- Elements of same documents stand in the same places.

nothing_same : (x y : Forest Node) → AreSame x y → are_nothing x ≡ are_nothing y
nothing_same Empty Empty h = refl
nothing_same Empty (Tree m d s) h = absurd h
nothing_same (Tree n c r) Empty h = absurd h
nothing_same (Tree (node.Element name attrs) c r) (Tree (node.Element other others) d s) h = refl
nothing_same (Tree (node.Element name attrs) c r) (Tree (node.Text others) d s) h = absurd h.0
nothing_same (Tree (node.Text characters) c r) (Tree (node.Element other others) d s) h = absurd h.0
nothing_same (Tree (node.Text characters) c r) (Tree (node.Text others) d s) h = ap₂ (λ text rest. (length text == 0) && rest) h.0 (nothing_same r s h.2)

with_same : (name other : List ℕ) (attrs others : List Attr) (c d : Forest Node) → name ≡ other → AreSameAttrs attrs others → AreSame c d → IsSameElement (element_with name attrs c) (element_with other others d)
with_same name other attrs others c d named same below = record { name = named; attrs = same; empty = nothing_same c d below }

elements_same : (x y : Forest Node) → AreSame x y → AreEach IsSameElement (elements x) (elements y)
elements_same Empty Empty h = tt
elements_same Empty (Tree m d s) h = absurd h
elements_same (Tree n c r) Empty h = absurd h
elements_same (Tree (node.Element name attrs) c r) (Tree (node.Element other others) d s) h = (with_same name other attrs others c d h.0.0 h.0.1 h.1, elements_same r s h.2)
elements_same (Tree (node.Element name attrs) c r) (Tree (node.Text others) d s) h = absurd h.0
elements_same (Tree (node.Text characters) c r) (Tree (node.Element other others) d s) h = absurd h.0
elements_same (Tree (node.Text characters) c r) (Tree (node.Text others) d s) h = elements_same r s h.2

either_same : (here : Bool) (a b c d : Option Standing) → IsBoth IsSameStanding a b → IsBoth IsSameStanding c d → IsBoth IsSameStanding (cond here a c) (cond here b d)
either_same true a b c d h g = h
either_same false a b c d h g = g

or_same : (a b c d : Option Standing) → IsBoth IsSameStanding a b → IsBoth IsSameStanding c d → IsBoth IsSameStanding (option_or a c) (option_or b d)
or_same None None c d h g = g
or_same None (Some b) c d h g = absurd h
or_same (Some a) None c d h g = absurd h
or_same (Some a) (Some b) c d h g = h

abbrev StandAlike : Forest (Keyed Node) → Forest (Keyed Node) → Type 0
StandAlike x y =
    (above over : List Level) (earlier before : List Element) (key : ℕ) → AreEach IsSameLevel above over → AreEach IsSameElement earlier before
    → IsBoth IsSameStanding (standing_in above earlier x key) (standing_in over before y key)

stand_alike : (x y : Forest (Keyed Node)) → AreSameKeyed x y → StandAlike x y
stand_alike = both_trees StandAlike (λ above over earlier before key h g. tt)
    (λ place name attrs others c d r s same down on below beside above over earlier before key h g.
    let here : Element = element_with name attrs (without_keys c) in
    let there : Element = element_with name others (without_keys d) in
    let it : IsSameElement here there = with_same name name attrs others (without_keys c) (without_keys d) refl same (same_bare c d down) in
    let level : IsSameLevel (level_of earlier here r) (level_of before there s) = record { element = it; earlier = g; later = elements_same (without_keys r) (without_keys s) (same_bare r s on) } in
    either_same (place == key) (Some (record { level = level_of earlier here r; above = above })) (Some (record { level = level_of before there s; above = over }))
    (option_or (standing_in (level_of earlier here r ∷ above) [] c key) (standing_in above (here ∷ earlier) r key))
    (option_or (standing_in (level_of before there s ∷ over) [] d key) (standing_in over (there ∷ before) s key))
    (record { level = level; above = h })
    (or_same (standing_in (level_of earlier here r ∷ above) [] c key) (standing_in (level_of before there s ∷ over) [] d key) (standing_in above (here ∷ earlier) r key) (standing_in over (there ∷ before) s key)
    (below (level_of earlier here r ∷ above) (level_of before there s ∷ over) [] [] key (level, h) tt)
    (beside above over (here ∷ earlier) (there ∷ before) key h (it, g))))
    (λ place characters c d r s down on below beside above over earlier before key h g. beside above over earlier before key h g)

pub matched_alike : (document other : Forest (Keyed Node)) → AreSameKeyed document other → (key : ℕ) (selector : Selector) → matches document key selector ≡ matches other key selector
matched_alike document other same key selector =
    complex_same selector (standing_of document key) (standing_of other key) (stand_alike document other same [] [] [] [] key tt tt)
