-- How far a selector is matched, from its last compound back. The place of a compound is how many stand before it.
use Rattle.std.specs.Prelude.{◌≡◌, ◌≢◌, ℕ, zero, suc, ◌-◌, ◌<◌, ◌≤◌, Bool, true, ◌&&◌, ◌∷◌, length, take, reverse, slice_get, Option, Some, None}
use Rattle.std.specs.List.{list_any}
use Rattle.plain_types.specs.declared.selector.Compound.{Compound}
use Rattle.plain_types.specs.declared.selector.Selector.{Selector}
use Rattle.plain_types.specs.declared.selector_parts.Join.{Join}
use Rattle.plain_types.specs.declared.selector_parts.Join.TheVariants.{Child, Next, Later}
use Rattle.selector_match.specs.Elements.{Standing, ancestors, earlier_siblings}
use Rattle.selector_match.specs.Matching.{led, matches_before, matches_compound}

-- the compounds before this place, and the combinators between, are matched before the element
abbrev pub matched_before : Selector → ℕ → Standing → Bool
matched_before selector place element = matches_before (reverse (take place selector.joins)) (reverse (take place selector.compounds)) element

-- the combinator before this place
abbrev pub join_before : Selector → ℕ → Option Join
join_before selector zero = None
join_before selector (suc place) = slice_get selector.joins place

-- this combinator stands before the place, and this compound before it
pub record IsStep (selector : Selector) (place : ℕ) (join : Join) (compound : Compound) : Type 0 where
  pub some : 0 < place
  pub leads : (element : Standing) → matched_before selector place element
      ≡ list_any (λ other. matches_compound other compound && matched_before selector (place - 1) other) (led join element)

-- no sibling combinator stands before the place
pub record IsRowDone (selector : Selector) (place : ℕ) : Type 0 where
  pub not_next : join_before selector place ≢ Some Next
  pub not_later : join_before selector place ≢ Some Later

-- A walk over `+` came to this element and place: what is left is matched exactly where all is. No
-- earlier sibling of the first element does better.
pub record IsNearestSibling (selector : Selector) (place : ℕ) (element : Standing) (end : Standing × ℕ) : Type 0 where
  pub same : matched_before selector place element ≡ matched_before selector end.1 end.0
  pub best : list_any (matched_before selector place) (earlier_siblings element) ≡ true → matched_before selector end.1 end.0 ≡ true
  pub row : (other : Standing) → matched_before selector place other ≡ true → list_any (matched_before selector end.1) (other ∷ earlier_siblings other) ≡ true
  pub above : end.0.above ≡ element.above
  pub not_next : join_before selector end.1 ≢ Some Next
  pub fewer : length (earlier_siblings end.0) ≤ length (earlier_siblings element)
  pub left : end.1 ≤ place

-- The sibling combinators before the first place end at this one: what is left is matched exactly where all is, and
-- before each other element where all is.
pub record EndsRow (selector : Selector) (place : ℕ) (element : Standing) (left : ℕ) : Type 0 where
  pub same : matched_before selector place element ≡ matched_before selector left element
  pub others : (other : Standing) → matched_before selector place other ≡ true → matched_before selector left other ≡ true
  pub done : IsRowDone selector left
  pub fewer : left ≤ place

-- A walk up over `>` came to this element and place: what is left is matched exactly where all is. No
-- ancestor of the first element does better.
pub record IsNearestAncestor (selector : Selector) (place : ℕ) (element : Standing) (end : Standing × ℕ) : Type 0 where
  pub same : matched_before selector place element ≡ matched_before selector end.1 end.0
  pub best : list_any (matched_before selector place) (ancestors element) ≡ true → matched_before selector end.1 end.0 ≡ true
  pub done : IsRowDone selector end.1
  pub not_child : join_before selector end.1 ≢ Some Child
  pub fewer : length (ancestors end.0) ≤ length (ancestors element)
  pub left : end.1 ≤ place
