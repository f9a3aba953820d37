-- A selector sees no more of where its element stands than the features say.
use Rattle.std.proofs.Common.{◌≡◌, ℕ, ◌||◌, ◌&&◌, Bool, true, false, List, [], ◌∷◌, map, take, reverse, refl, sym, ap, ◌∙◌, Option, Some, None}
use mathlib.Core.List.{reverse_aux}
use Rattle.std.specs.List.{list_any, AllByRecursion}
use Rattle.std.specs.Option.{option_map_or, option_map}
use Rattle.std.proofs.lemmas.List.{take-map}
use Rattle.forest.specs.Forest.{Forest}
use Rattle.forest.specs.Keys.{Keyed}
use Rattle.plain_types.specs.declared.node.Node.{Node}
use Rattle.plain_types.specs.declared.sheet.Features.{Features}
use Rattle.plain_types.specs.declared.selector.Compound.{Compound}
use Rattle.plain_types.specs.declared.selector.Selector.{Selector}
use Rattle.plain_types.specs.declared.selector_parts.Join.{Join}
use Rattle.plain_types.specs.declared.selector_parts.Join.TheVariants.{Descendant, Child, Next, Later}
use Rattle.selector_match.specs.Elements.{Element, Level, Standing, ancestors_in, levels_back, among, earlier_siblings, standing_of}
use Rattle.selector_match.specs.Matching.{matches_compound, matches_before, matches_from, matches_complex, matches, led}
use Rattle.style_reach.proofs.CompoundLaws.{compound-seen}
use Rattle.style_reach.proofs.Seen.{seen, seen_level, seen_element, seen_siblings, FitsJoin, FitsCompound, FitsSelector}

any-map : {A B : Type 0} (p : B → Bool) (f : A → B) (xs : List A) → list_any p (map f xs) ≡ list_any (λ x. p (f x)) xs
any-map p f [] = refl
any-map p f (x ∷ xs) = ap (λ b. p (f x) || b) (any-map p f xs)

any-same : {A : Type 0} (p q : A → Bool) → ((x : A) → p x ≡ q x) → (xs : List A) → list_any p xs ≡ list_any q xs
any-same p q same [] = refl
any-same p q same (x ∷ xs) = ap (λ b. b || list_any p xs) (same x) ∙ ap (λ b. q x || b) (any-same p q same xs)

all-onto : {A : Type 0} (P : A → Type 0) (xs ys : List A) → AllByRecursion P xs → AllByRecursion P ys → AllByRecursion P (reverse_aux xs ys)
all-onto P [] ys h k = k
all-onto P (x ∷ xs) ys h k = all-onto P xs (x ∷ ys) h.1 (h.0, k)

all-reverse : {A : Type 0} (P : A → Type 0) (xs : List A) → AllByRecursion P xs → AllByRecursion P (reverse xs)
all-reverse P xs h = all-onto P xs [] h tt

siblings-whole : (s p e : Bool) → s ≡ true → (elements : List Element) → seen_siblings (record { siblings = s; positions = p; empties = e }) elements ≡ map (seen_element (record { siblings = s; positions = p; empties = e })) elements
siblings-whole true p e on elements = refl
siblings-whole false p e on elements = absurd (cc)

module _ (features : Features) where
  whole : features.siblings ≡ true → (elements : List Element) → seen_siblings features elements ≡ map (seen_element features) elements
  whole on elements = siblings-whole features.siblings features.positions features.empties on elements

  ancestors-seen : (above : List Level) → ancestors_in (map (seen_level features) above) ≡ map (seen features) (ancestors_in above)
  ancestors-seen [] = refl
  ancestors-seen (level ∷ above) = ap (λ rest. seen features (record { level = level; above = above }) ∷ rest) (ancestors-seen above)

  among-seen : (above levels : List Level) → among (map (seen_level features) above) (map (seen_level features) levels) ≡ map (seen features) (among above levels)
  among-seen above [] = refl
  among-seen above (level ∷ levels) = ap (λ rest. seen features (record { level = level; above = above }) ∷ rest) (among-seen above levels)

  levels-seen : features.siblings ≡ true → (earlier later : List Element)
      → levels_back (map (seen_element features) earlier) (map (seen_element features) later) ≡ map (seen_level features) (levels_back earlier later)
  levels-seen on [] later = refl
  levels-seen on (nearest ∷ earlier) later =
      let f = seen_element features in
      let rest = levels_back (map f earlier) (f nearest ∷ map f later) in
      ap (λ (xs : List Element). record { element = f nearest; earlier = xs; later = map f later } ∷ rest) (sym (whole on earlier))
      ∙ ap (λ (xs : List Element). record { element = f nearest; earlier = seen_siblings features earlier; later = xs } ∷ rest) (sym (whole on later))
      ∙ ap (λ (levels : List Level). seen_level features (record { element = nearest; earlier = earlier; later = later }) ∷ levels) (levels-seen on earlier (nearest ∷ later))

  earlier-seen : features.siblings ≡ true → (standing : Standing) → earlier_siblings (seen features standing) ≡ map (seen features) (earlier_siblings standing)
  earlier-seen on standing =
      let f = seen_element features in
      let level = standing.level in
      let above = map (seen_level features) standing.above in
      ap (λ (xs : List Element). among above (levels_back xs (f level.element ∷ seen_siblings features level.later))) (whole on level.earlier)
      ∙ ap (λ (xs : List Element). among above (levels_back (map f level.earlier) (f level.element ∷ xs))) (whole on level.later)
      ∙ ap (among above) (levels-seen on level.earlier (level.element ∷ level.later))
      ∙ among-seen standing.above (levels_back level.earlier (level.element ∷ level.later))

  led-seen : (join : Join) → FitsJoin features join → (standing : Standing) → led join (seen features standing) ≡ map (seen features) (led join standing)
  led-seen Descendant fits standing = ancestors-seen standing.above
  led-seen Child fits standing = ap (take 1) (ancestors-seen standing.above) ∙ take-map (seen features) 1 (ancestors_in standing.above)
  led-seen Later fits standing = earlier-seen (fits refl) standing
  led-seen Next fits standing =
      ap (take 1) (earlier-seen (fits refl) standing)
      ∙ take-map (seen features) 1 (among standing.above (levels_back standing.level.earlier (standing.level.element ∷ standing.level.later)))

  before-seen : (joins : List Join) (compounds : List Compound) → AllByRecursion (FitsJoin features) joins → AllByRecursion (FitsCompound features) compounds
      → (standing : Standing) → matches_before joins compounds standing ≡ matches_before joins compounds (seen features standing)
  before-seen [] [] joined fits standing = refl
  before-seen [] (compound ∷ compounds) joined fits standing = refl
  before-seen (join ∷ joins) [] joined fits standing = refl
  before-seen (join ∷ joins) (compound ∷ compounds) joined fits standing =
      let goes : Standing → Bool = λ (other : Standing). matches_compound other compound && matches_before joins compounds other in
      any-same goes (λ (other : Standing). goes (seen features other))
      (λ other. ap (λ b. b && matches_before joins compounds other) (compound-seen features other compound fits.0)
      ∙ ap (λ b. matches_compound (seen features other) compound && b) (before-seen joins compounds joined.1 fits.1 other))
      (led join standing)
      ∙ sym (any-map goes (seen features) (led join standing))
      ∙ ap (list_any goes) (sym (led-seen join joined.0 standing))

  from-seen : (compounds : List Compound) (joins : List Join) → AllByRecursion (FitsJoin features) joins → AllByRecursion (FitsCompound features) compounds
      → (standing : Standing) → matches_from compounds joins standing ≡ matches_from compounds joins (seen features standing)
  from-seen [] joins joined fits standing = refl
  from-seen (last ∷ compounds) joins joined fits standing =
      ap (λ b. b && matches_before joins compounds standing) (compound-seen features standing last fits.0)
      ∙ ap (λ b. matches_compound (seen features standing) last && b) (before-seen joins compounds joined fits.1 standing)

  complex-seen : (selector : Selector) → FitsSelector features selector → (standing : Standing) → matches_complex selector standing ≡ matches_complex selector (seen features standing)
  complex-seen selector fits standing =
      from-seen (reverse selector.compounds) (reverse selector.joins)
      (all-reverse (FitsJoin features) selector.joins fits.joins) (all-reverse (FitsCompound features) selector.compounds fits.compounds) standing

  seen-or : (selector : Selector) → FitsSelector features selector → (o : Option Standing)
      → option_map_or (matches_complex selector) o false ≡ option_map_or (matches_complex selector) (option_map (seen features) o) false
  seen-or selector fits None = refl
  seen-or selector fits (Some standing) = complex-seen selector fits standing

  -- where the same is seen of where an element stands in two documents, the same selectors match it
  pub matches-seen : (old new : Forest (Keyed Node)) (key : ℕ) → option_map (seen features) (standing_of old key) ≡ option_map (seen features) (standing_of new key)
      → (selector : Selector) → FitsSelector features selector → matches old key selector ≡ matches new key selector
  matches-seen old new key same selector fits =
      seen-or selector fits (standing_of old key)
      ∙ ap (λ o. option_map_or (matches_complex selector) o false) same
      ∙ sym (seen-or selector fits (standing_of new key))
