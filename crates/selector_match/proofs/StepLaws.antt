-- A complex selector from its end, step by step.
use Rattle.std.proofs.Common.{◌≡◌, ◌≢◌, ◌∷◌, ◌++◌, ◌&&◌, ◌||◌, ◌+◌, ◌<◌, ◌≤◌, ℕ, zero, suc, List, [], Bool, true, false, Option, Some, length, take, reverse, get_or, refl, sym, ap, ◌∙◌, arith, add-one}
use Rattle.std.specs.List.{list_any}
use Rattle.std.specs.Option.{option_map_or}
use Rattle.std.proofs.lemmas.List.{take_more, take_all, reverse-append, length-reverse}
use Rattle.std.proofs.lemmas.Option.{slice_get-get_or}
use Rattle.forest.specs.Forest.{Forest}
use Rattle.forest.specs.Keys.{Keyed}
use Rattle.plain_types.specs.declared.node.Node.{Node}
use Rattle.plain_types.specs.declared.selector.Compound.{Compound}
use Rattle.plain_types.specs.declared.selector.Selector.{Selector}
use Rattle.plain_types.specs.declared.selector_parts.Join.{Join}
use Rattle.plain_types.specs.declared.selector_parts.Join.TheVariants.{Descendant, Child, Next, Later}
use Rattle.selector_match.specs.Elements.{Level, Standing, standing_of, ancestors_in, ancestors, earlier_siblings}
use Rattle.selector_match.specs.Matching.{matches, matches_compound, led, matches_before, matches_from, matches_complex}
use Rattle.selector_match.specs.Machinery.Walks.{matched_before, join_before, IsRowDone}
use Rattle.selector_match.proofs.ChainLaws.{chain-up, ancestors-chain, siblings-chain, siblings-row, row-same}

abbrev pub no_compound : Compound
no_compound = record { simples = [] }

-- the last of the first ones comes first from the end
reverse-more : {A : Type 0} (xs : List A) (d : A) (n : ℕ) → n < length xs → reverse (take (suc n) xs) ≡ get_or xs n d ∷ reverse (take n xs)
reverse-more xs d n h =
    let more : take (suc n) xs ≡ take n xs ++ get_or xs n d ∷ [] = ap (λ m. take m xs) (sym (add-one n)) ∙ take_more xs n d h in
    ap reverse more ∙ reverse-append (take n xs) (get_or xs n d ∷ [])

reverse-all : {A : Type 0} (xs : List A) (d : A) (n : ℕ) → length xs ≡ suc n → reverse xs ≡ get_or xs n d ∷ reverse (take n xs)
reverse-all xs d n is = ap reverse (sym (take_all (suc n) xs (omega arith))) ∙ reverse-more xs d n (omega arith)

module _ (selector : Selector) (whole : length selector.compounds ≡ length selector.joins + 1) where
  -- a step back over the combinator before a place
  pub leads : (place : ℕ) → place < length selector.joins → (element : Standing) → matched_before selector (suc place) element
      ≡ list_any (λ other. matches_compound other (get_or selector.compounds place no_compound) && matched_before selector place other) (led (get_or selector.joins place Descendant) element)
  leads place within element =
      ap (λ (joins : List Join). matches_before joins (reverse (take (suc place) selector.compounds)) element) (reverse-more selector.joins Descendant place within)
      ∙ ap (λ (compounds : List Compound). matches_before (get_or selector.joins place Descendant ∷ reverse (take place selector.joins)) compounds element) (reverse-more selector.compounds no_compound place (omega arith))

  pub join-is : (place : ℕ) → place < length selector.joins → join_before selector (suc place) ≡ Some (get_or selector.joins place Descendant)
  join-is place within = slice_get-get_or selector.joins place Descendant within

  -- Where no combinator among siblings comes first, the ancestors tell all.

  up-by : (join : Join) → join ≢ Next → join ≢ Later → (x y : Standing) → x.above ≡ y.above → led join x ≡ led join y
  up-by Descendant not_next not_later x y same = ap ancestors_in same
  up-by Child not_next not_later x y same = ap (λ (above : List Level). take 1 (ancestors_in above)) same
  up-by Next not_next not_later x y same = absurd (not_next refl)
  up-by Later not_next not_later x y same = absurd (not_later refl)

  pub up-only : (place : ℕ) → place ≤ length selector.joins → IsRowDone selector place → (x y : Standing) → x.above ≡ y.above → matched_before selector place x ≡ matched_before selector place y
  up-only zero within done x y same = refl
  up-only (suc place) within done x y same =
      let one : Standing → Bool = λ other. matches_compound other (get_or selector.compounds place no_compound) && matched_before selector place other in
      let is = join-is place (omega (arith, within)) in
      leads place (omega (arith, within)) x
      ∙ ap (list_any one) (up-by (get_or selector.joins place Descendant) (λ e. done.not_next (is ∙ ap (λ j. Some j) e)) (λ e. done.not_later (is ∙ ap (λ j. Some j) e)) x y same)
      ∙ sym (leads place (omega (arith, within)) y)

  -- Where `+` does not come first, what matches before an earlier sibling matches before the element.

  back-by : (join : Join) → join ≢ Next → (one m : Standing → Bool) → ((x : Standing) → m x ≡ list_any one (led join x)) → (at : Standing) → list_any m (earlier_siblings at) ≡ true → m at ≡ true
  back-by Descendant not_next one m is at h = row-same m at.above (m at) (λ x same. is x ∙ ap (λ (above : List Level). list_any one (ancestors_in above)) same ∙ sym (is at)) (earlier_siblings at) (siblings-row at) h
  back-by Child not_next one m is at h = row-same m at.above (m at) (λ x same. is x ∙ ap (λ (above : List Level). list_any one (take 1 (ancestors_in above))) same ∙ sym (is at)) (earlier_siblings at) (siblings-row at) h
  back-by Next not_next one m is at h = absurd (not_next refl)
  back-by Later not_next one m is at h = is at ∙ chain-up earlier_siblings m one (λ x here. sym (is x) ∙ here) (earlier_siblings at) (siblings-chain at) h

  pub back-only : (place : ℕ) → place ≤ length selector.joins → join_before selector place ≢ Some Next → (at : Standing) → list_any (matched_before selector place) (earlier_siblings at) ≡ true → matched_before selector place at ≡ true
  back-only zero within not_next at h = refl
  back-only (suc place) within not_next at h =
      back-by (get_or selector.joins place Descendant) (λ e. not_next (join-is place (omega (arith, within)) ∙ ap (λ j. Some j) e))
      (λ other. matches_compound other (get_or selector.compounds place no_compound) && matched_before selector place other) (matched_before selector (suc place)) (leads place (omega (arith, within))) at h

  -- Where a descendant combinator comes first, what matches before an ancestor matches before the element.

  above-by : (join : Join) → join ≢ Next → join ≢ Later → join ≢ Child → (one m : Standing → Bool) → ((x : Standing) → m x ≡ list_any one (led join x)) → (at : Standing) → list_any m (ancestors at) ≡ true → m at ≡ true
  above-by Descendant not_next not_later not_child one m is at h = is at ∙ chain-up ancestors m one (λ x here. sym (is x) ∙ here) (ancestors at) (ancestors-chain at) h
  above-by Child not_next not_later not_child one m is at h = absurd (not_child refl)
  above-by Next not_next not_later not_child one m is at h = absurd (not_next refl)
  above-by Later not_next not_later not_child one m is at h = absurd (not_later refl)

  pub above-only : (place : ℕ) → place ≤ length selector.joins → IsRowDone selector place → join_before selector place ≢ Some Child → (at : Standing) → list_any (matched_before selector place) (ancestors at) ≡ true → matched_before selector place at ≡ true
  above-only zero within done not_child at h = refl
  above-only (suc place) within done not_child at h =
      let is = join-is place (omega (arith, within)) in
      above-by (get_or selector.joins place Descendant) (λ e. done.not_next (is ∙ ap (λ j. Some j) e)) (λ e. done.not_later (is ∙ ap (λ j. Some j) e)) (λ e. not_child (is ∙ ap (λ j. Some j) e))
      (λ other. matches_compound other (get_or selector.compounds place no_compound) && matched_before selector place other) (matched_before selector (suc place)) (leads place (omega (arith, within))) at h

  -- Where no combinator is left, all is matched.

  none-by : (join : Join) → join ≢ Next → join ≢ Later → join ≢ Child → join ≢ Descendant → ⊥
  none-by Descendant not_next not_later not_child not_descendant = not_descendant refl
  none-by Child not_next not_later not_child not_descendant = not_child refl
  none-by Next not_next not_later not_child not_descendant = not_next refl
  none-by Later not_next not_later not_child not_descendant = not_later refl

  pub none-left : (place : ℕ) → place ≤ length selector.joins → IsRowDone selector place → join_before selector place ≢ Some Child → join_before selector place ≢ Some Descendant → (at : Standing) → matched_before selector place at ≡ true
  none-left zero within done not_child not_descendant at = refl
  none-left (suc place) within done not_child not_descendant at =
      let is = join-is place (omega (arith, within)) in
      absurd (none-by (get_or selector.joins place Descendant) (λ e. done.not_next (is ∙ ap (λ j. Some j) e)) (λ e. done.not_later (is ∙ ap (λ j. Some j) e)) (λ e. not_child (is ∙ ap (λ j. Some j) e)) (λ e. not_descendant (is ∙ ap (λ j. Some j) e)))

  -- the element matches the last compound, and those before it are matched before the element
  pub matches-last : (last : ℕ) → length selector.joins ≡ last → (element : Standing) → matches_complex selector element ≡ (matches_compound element (get_or selector.compounds last no_compound) && matched_before selector last element)
  matches-last last is element =
      ap (λ (compounds : List Compound). matches_from compounds (reverse selector.joins) element) (reverse-all selector.compounds no_compound last (omega arith))
      ∙ ap (λ (joins : List Join). matches_compound element (get_or selector.compounds last no_compound) && matches_before (reverse joins) (reverse (take last selector.compounds)) element) (sym (take_all last selector.joins (omega arith)))

-- Our own: a selector of another shape matches nothing.

and_false : (a : Bool) → (a && false) ≡ false
and_false true = refl
and_false false = refl

none-any : {A : Type 0} (f : A → Bool) (xs : List A) → ((x : A) → f x ≡ false) → list_any f xs ≡ false
none-any f [] none = refl
none-any f (x ∷ xs) none = ap (λ b. b || list_any f xs) (none x) ∙ none-any f xs none

unequal : (joins : List Join) (compounds : List Compound) (standing : Standing) → length joins ≢ length compounds → matches_before joins compounds standing ≡ false
unequal [] [] standing h = absurd (h refl)
unequal [] (compound ∷ compounds) standing h = refl
unequal (join ∷ joins) [] standing h = refl
unequal (join ∷ joins) (compound ∷ compounds) standing h =
    none-any (λ (other : Standing). matches_compound other compound && matches_before joins compounds other) (led join standing)
    (λ other. ap (λ b. matches_compound other compound && b) (unequal joins compounds other (λ e. h (ap suc e))) ∙ and_false (matches_compound other compound))

misshapen-from : (compounds : List Compound) (joins : List Join) (standing : Standing) → length compounds ≢ suc (length joins) → matches_from compounds joins standing ≡ false
misshapen-from [] joins standing h = refl
misshapen-from (last ∷ compounds) joins standing h =
    ap (λ b. matches_compound standing last && b) (unequal joins compounds standing (λ e. h (ap suc (sym e)))) ∙ and_false (matches_compound standing last)

pub misshapen : (selector : Selector) (standing : Standing) → length selector.compounds ≢ suc (length selector.joins) → matches_complex selector standing ≡ false
misshapen selector standing h =
    misshapen-from (reverse selector.compounds) (reverse selector.joins) standing (λ e. h (sym (length-reverse selector.compounds) ∙ e ∙ ap suc (length-reverse selector.joins)))

-- what stands there tells whether the selector matches
pub matches-there : (tree : Forest (Keyed Node)) (key : ℕ) (selector : Selector) (element : Standing) → Some element ≡ standing_of tree key → matches tree key selector ≡ matches_complex selector element
matches-there tree key selector element is = sym (ap (λ (o : Option Standing). option_map_or (matches_complex selector) o false) is)
