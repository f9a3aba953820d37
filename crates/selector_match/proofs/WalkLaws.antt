-- The turns of the walks along siblings and ancestors.
use Rattle.std.proofs.Common.{◌≡◌, ◌≢◌, ◌∷◌, ◌&&◌, ◌||◌, ◌+◌, ◌-◌, ◌≤◌, ℕ, List, [], Bool, true, false, Option, Some, length, take, refl, sym, ap, subst, ◌∙◌, inl, inr, arith}
use Rattle.std.specs.List.{list_any}
use Rattle.std.specs.Prelude.{IfSome, IfNone, None}
use Rattle.std.proofs.lemmas.Bool.{and_parts, or_cases, or_left}
use Rattle.std.proofs.lemmas.Option.{none-some}
use Rattle.plain_types.specs.declared.selector.Compound.{Compound}
use Rattle.plain_types.specs.declared.selector.Selector.{Selector}
use Rattle.plain_types.specs.declared.selector_parts.Join.TheVariants.{Descendant, Child, Next, Later}
use Rattle.selector_match.specs.Elements.{Standing, ancestors, earlier_siblings}
use Rattle.selector_match.specs.Matching.{matches_compound}
use Rattle.selector_match.specs.Machinery.Outcomes.{IsOutcome}
use Rattle.selector_match.specs.Machinery.Walks.{matched_before, join_before, IsStep, IsRowDone, IsNearestSibling, EndsRow, IsNearestAncestor}
use Rattle.selector_match.proofs.ChainLaws.{IsChain, any-mono, any-first, only-first, chain-down, chain-up, chain-stays, commits, ancestors-chain, siblings-chain, siblings-row, row-same}
use Rattle.selector_match.proofs.StepLaws.{up-only, back-only, above-only, none-left}

pub none-so : {A : Type 0} {P : Type 0} (o : Option A) → P → IfNone o P
none-so None p = p
none-so (Some x) p = tt

module _ (selector : Selector) where
  -- an element that matches a compound, and before which the compounds before a place are matched
  abbrev pub matches_at : Compound → ℕ → Standing → Bool
  matches_at compound place other = matches_compound other compound && matched_before selector place other

  -- Over `+`.

  pub record InNext (place : ℕ) (element at : Standing) (left : ℕ) : Type 0 where
    pub same : matched_before selector place element ≡ matched_before selector left at
    pub best : list_any (matched_before selector place) (earlier_siblings element) ≡ true → list_any (matched_before selector left) (earlier_siblings at) ≡ true
    pub row : (other : Standing) → matched_before selector place other ≡ true → list_any (matched_before selector left) (other ∷ earlier_siblings other) ≡ true
    pub above : at.above ≡ element.above
    pub fewer : length (earlier_siblings at) ≤ length (earlier_siblings element)
    pub left_is : left ≤ place

  pub next-begins : (place : ℕ) (element at : Standing) → at ≡ element → InNext place element at place
  next-begins place element at is = record {
    same = ap (matched_before selector place) (sym is);
    best = λ h. ap (λ (x : Standing). list_any (matched_before selector place) (earlier_siblings x)) is ∙ h;
    row = λ other h. or_left (matched_before selector place other) (list_any (matched_before selector place) (earlier_siblings other)) h;
    above = ap (λ (x : Standing). x.above) is;
    fewer = omega (arith, ap (λ (x : Standing). length (earlier_siblings x)) is);
    left_is = omega arith;
  }

  -- what is left behind a step is matched before one of those to which it leads
  leads-on : (left : ℕ) (compound : Compound) (xs : List Standing) → list_any (matches_at compound (left - 1)) xs ≡ true → list_any (matched_before selector (left - 1)) xs ≡ true
  leads-on left compound xs h =
      any-mono (matches_at compound (left - 1)) (matched_before selector (left - 1)) (λ other both. (and_parts (matches_compound other compound) (matched_before selector (left - 1) other) both).1) xs h

  next-leads : (left : ℕ) (compound : Compound) → IsStep selector left Next compound → (x : Standing) → matched_before selector left x ≡ true → list_any (matched_before selector (left - 1)) (earlier_siblings x) ≡ true
  next-leads left compound step x h =
      leads-on left compound (earlier_siblings x) (any-first (matches_at compound (left - 1)) (earlier_siblings x) (sym (step.leads x) ∙ h))

  later-leads : (left : ℕ) (compound : Compound) → IsStep selector left Later compound → (x : Standing) → matched_before selector left x ≡ true → list_any (matched_before selector (left - 1)) (earlier_siblings x) ≡ true
  later-leads left compound step x h = leads-on left compound (earlier_siblings x) (sym (step.leads x) ∙ h)

  child-leads : (left : ℕ) (compound : Compound) → IsStep selector left Child compound → (x : Standing) → matched_before selector left x ≡ true → list_any (matched_before selector (left - 1)) (ancestors x) ≡ true
  child-leads left compound step x h =
      leads-on left compound (ancestors x) (any-first (matches_at compound (left - 1)) (ancestors x) (sym (step.leads x) ∙ h))

  -- an element and its earlier siblings
  whole-chain : (x : Standing) → IsChain earlier_siblings (x ∷ earlier_siblings x)
  whole-chain x = (refl, siblings-chain x)

  next-shows : (at other : Standing) (left : ℕ) (compound : Compound) (b : Bool) → IsStep selector left Next compound → earlier_siblings at ≡ other ∷ earlier_siblings other → matches_at compound (left - 1) other ≡ b → matched_before selector left at ≡ b
  next-shows at other left compound b step back is =
      step.leads at ∙ ap (λ (xs : List Standing). list_any (matches_at compound (left - 1)) (take 1 xs)) back ∙ only-first (matches_at compound (left - 1)) other b is

  pub next-turn : (place : ℕ) (element at other : Standing) (left : ℕ) (compound : Compound) → InNext place element at left → IsStep selector left Next compound
      → earlier_siblings at ≡ other ∷ earlier_siblings other → other.above ≡ at.above → matches_compound other compound ≡ true → InNext place element other (left - 1)
  next-turn place element at other left compound i step back above found = record {
    same = i.same ∙ next-shows at other left compound (matched_before selector (left - 1) other) step back (ap (λ b. b && matched_before selector (left - 1) other) found);
    best = λ h. chain-down earlier_siblings (matched_before selector left) (matched_before selector (left - 1)) (next-leads left compound step) other (earlier_siblings other) (whole-chain other)
        (subst (λ (xs : List Standing). list_any (matched_before selector left) xs ≡ true) back (i.best h));
    row = λ x h. chain-up earlier_siblings (matched_before selector left) (matched_before selector (left - 1)) (next-leads left compound step) (x ∷ earlier_siblings x) (whole-chain x) (i.row x h);
    above = above ∙ i.above;
    fewer = omega (arith, i.fewer, ap length back);
    left_is = omega (arith, i.left_is);
  }

  pub next-fails : (place : ℕ) (element at other : Standing) (left : ℕ) (compound : Compound) → InNext place element at left → IsStep selector left Next compound
      → earlier_siblings at ≡ other ∷ earlier_siblings other → matches_compound other compound ≡ false → matched_before selector place element ≡ false
  next-fails place element at other left compound i step back no_match =
      i.same ∙ next-shows at other left compound false step back (ap (λ b. b && matched_before selector (left - 1) other) no_match)

  pub next-lacks : (place : ℕ) (element at : Standing) (left : ℕ) (compound : Compound) → InNext place element at left → IsStep selector left Next compound
      → earlier_siblings at ≡ [] → matched_before selector place element ≡ false
  next-lacks place element at left compound i step none =
      i.same ∙ step.leads at ∙ ap (λ (xs : List Standing). list_any (matches_at compound (left - 1)) (take 1 xs)) none

  -- Over `+` and `~`.

  pub record InRow (place : ℕ) (element at : Standing) (left : ℕ) : Type 0 where
    pub same : matched_before selector place element ≡ matched_before selector left at
    pub row : (other : Standing) → matched_before selector place other ≡ true → list_any (matched_before selector left) (other ∷ earlier_siblings other) ≡ true
    pub above : at.above ≡ element.above
    pub not_next : join_before selector left ≢ Some Next
    pub left_is : left ≤ place

  pub row-begins : (place : ℕ) (element : Standing) (end : Standing × ℕ) → IsNearestSibling selector place element end → InRow place element end.0 end.1
  row-begins place element end nearest = record { same = nearest.same; row = nearest.row; above = nearest.above; not_next = nearest.not_next; left_is = nearest.left }

  later-shows : (at other : Standing) (left : ℕ) (compound : Compound) → IsStep selector left Later compound → earlier_siblings at ≡ other ∷ earlier_siblings other
      → matched_before selector left at ≡ list_any (matches_at compound (left - 1)) (other ∷ earlier_siblings other)
  later-shows at other left compound step back = step.leads at ∙ ap (list_any (matches_at compound (left - 1))) back

  -- a sibling is taken
  pub row-takes : (place : ℕ) (element at other : Standing) (left : ℕ) (compound : Compound) (end : Standing × ℕ) → InRow place element at left → IsStep selector left Later compound
      → earlier_siblings at ≡ other ∷ earlier_siblings other → other.above ≡ at.above → matches_compound other compound ≡ true → IsNearestSibling selector (left - 1) other end → InRow place element end.0 end.1
  row-takes place element at other left compound end i step back above found nearest = record {
    same =
        i.same ∙ later-shows at other left compound step back
        ∙ commits (λ x. matches_compound x compound) (matched_before selector (left - 1)) other (earlier_siblings other) (matched_before selector end.1 end.0) found nearest.same nearest.best;
    row = λ x h. chain-stays earlier_siblings (matched_before selector (left - 1)) (matched_before selector end.1) nearest.row (x ∷ earlier_siblings x) (whole-chain x)
        (chain-up earlier_siblings (matched_before selector left) (matched_before selector (left - 1)) (later-leads left compound step) (x ∷ earlier_siblings x) (whole-chain x) (i.row x h));
    above = nearest.above ∙ above ∙ i.above;
    not_next = nearest.not_next;
    left_is = omega (arith, nearest.left, i.left_is);
  }

  -- or passed over
  pub row-passes : (place : ℕ) (element at other : Standing) (left : ℕ) (compound : Compound) → InRow place element at left → IsStep selector left Later compound
      → earlier_siblings at ≡ other ∷ earlier_siblings other → other.above ≡ at.above → matches_at compound (left - 1) other ≡ false → InRow place element other left
  row-passes place element at other left compound i step back above no_match = record {
    same =
        i.same ∙ later-shows at other left compound step back
        ∙ ap (λ b. b || list_any (matches_at compound (left - 1)) (earlier_siblings other)) no_match
        ∙ sym (step.leads other);
    row = i.row;
    above = above ∙ i.above;
    not_next = i.not_next;
    left_is = i.left_is;
  }

  pub row-lacks : (place : ℕ) (element at : Standing) (left : ℕ) (compound : Compound) → InRow place element at left → IsStep selector left Later compound
      → earlier_siblings at ≡ [] → matched_before selector place element ≡ false
  row-lacks place element at left compound i step none = i.same ∙ step.leads at ∙ ap (list_any (matches_at compound (left - 1))) none

  -- Over `>`.

  pub record InUp (place : ℕ) (element at : Standing) (left : ℕ) : Type 0 where
    pub same : matched_before selector place element ≡ matched_before selector left at
    pub best : list_any (matched_before selector place) (ancestors element) ≡ true → list_any (matched_before selector left) (ancestors at) ≡ true
    pub done : IsRowDone selector left
    pub fewer : length (ancestors at) ≤ length (ancestors element)
    pub left_is : left ≤ place

  pub up-begins : (place : ℕ) (element at : Standing) → at ≡ element → IsRowDone selector place → InUp place element at place
  up-begins place element at is done = record {
    same = ap (matched_before selector place) (sym is);
    best = λ h. ap (λ (x : Standing). list_any (matched_before selector place) (ancestors x)) is ∙ h;
    done = done;
    fewer = omega (arith, ap (λ (x : Standing). length (ancestors x)) is);
    left_is = omega arith;
  }

  child-shows : (at parent : Standing) (left : ℕ) (compound : Compound) (b : Bool) → IsStep selector left Child compound → ancestors at ≡ parent ∷ ancestors parent → matches_at compound (left - 1) parent ≡ b → matched_before selector left at ≡ b
  child-shows at parent left compound b step up is =
      step.leads at ∙ ap (λ (xs : List Standing). list_any (matches_at compound (left - 1)) (take 1 xs)) up ∙ only-first (matches_at compound (left - 1)) parent b is

  pub up-turn : (place : ℕ) (element at parent : Standing) (left rest : ℕ) (compound : Compound) → InUp place element at left → IsStep selector left Child compound
      → ancestors at ≡ parent ∷ ancestors parent → matches_compound parent compound ≡ true → EndsRow selector (left - 1) parent rest → InUp place element parent rest
  up-turn place element at parent left rest compound i step up found ends = record {
    same = i.same ∙ child-shows at parent left compound (matched_before selector rest parent) step up (ap (λ b. b && matched_before selector (left - 1) parent) found ∙ ends.same);
    best = λ h. any-mono (matched_before selector (left - 1)) (matched_before selector rest) ends.others (ancestors parent)
        (chain-down ancestors (matched_before selector left) (matched_before selector (left - 1)) (child-leads left compound step) parent (ancestors parent) (refl, ancestors-chain parent)
        (subst (λ (xs : List Standing). list_any (matched_before selector left) xs ≡ true) up (i.best h)));
    done = ends.done;
    fewer = omega (arith, i.fewer, ap length up);
    left_is = omega (arith, i.left_is, ends.fewer);
  }

  pub up-fails : (place : ℕ) (element at parent : Standing) (left : ℕ) (compound : Compound) → InUp place element at left → IsStep selector left Child compound
      → ancestors at ≡ parent ∷ ancestors parent → matches_at compound (left - 1) parent ≡ false → matched_before selector place element ≡ false
  up-fails place element at parent left compound i step up no_match = i.same ∙ child-shows at parent left compound false step up no_match

  pub up-lacks : (place : ℕ) (element at : Standing) (left : ℕ) (compound : Compound) → InUp place element at left → IsStep selector left Child compound
      → ancestors at ≡ [] → matched_before selector place element ≡ false
  up-lacks place element at left compound i step none =
      i.same ∙ step.leads at ∙ ap (λ (xs : List Standing). list_any (matches_at compound (left - 1)) (take 1 xs)) none

  -- a walk up after a row
  up-after : (place : ℕ) (element : Standing) (left : ℕ) (end : Standing × ℕ) → EndsRow selector place element left → IsNearestAncestor selector left element end → IsNearestAncestor selector place element end
  up-after place element left end ends nearest = record {
    same = ends.same ∙ nearest.same;
    best = λ h. nearest.best (any-mono (matched_before selector place) (matched_before selector left) ends.others (ancestors element) h);
    done = nearest.done;
    not_child = nearest.not_child;
    fewer = nearest.fewer;
    left = omega (arith, nearest.left, ends.fewer);
  }

  pub up-found : (place : ℕ) (element : Standing) (left : ℕ) (found : Option (Standing × ℕ)) → EndsRow selector place element left → IfSome found (IsNearestAncestor selector left element) → IfSome found (IsNearestAncestor selector place element)
  up-found place element left None ends nearest = tt
  up-found place element left (Some end) ends nearest = up-after place element left end ends nearest

  -- Over `>` and descendant combinators.

  pub record InColumn (place : ℕ) (element at : Standing) (left : ℕ) : Type 0 where
    pub same : matched_before selector place element ≡ matched_before selector left at
    pub done : IsRowDone selector left
    pub not_child : join_before selector left ≢ Some Child
    pub left_is : left ≤ place

  pub column-begins : (place : ℕ) (element : Standing) (end : Standing × ℕ) → IsNearestAncestor selector place element end → InColumn place element end.0 end.1
  column-begins place element end nearest = record { same = nearest.same; done = nearest.done; not_child = nearest.not_child; left_is = nearest.left }

  descendant-shows : (at parent : Standing) (left : ℕ) (compound : Compound) → IsStep selector left Descendant compound → ancestors at ≡ parent ∷ ancestors parent
      → matched_before selector left at ≡ list_any (matches_at compound (left - 1)) (parent ∷ ancestors parent)
  descendant-shows at parent left compound step up = step.leads at ∙ ap (list_any (matches_at compound (left - 1))) up

  -- an ancestor is taken
  pub column-takes : (place : ℕ) (element at parent : Standing) (left : ℕ) (compound : Compound) (end : Standing × ℕ) → InColumn place element at left → IsStep selector left Descendant compound
      → ancestors at ≡ parent ∷ ancestors parent → matches_compound parent compound ≡ true → IsNearestAncestor selector (left - 1) parent end → InColumn place element end.0 end.1
  column-takes place element at parent left compound end i step up found nearest = record {
    same =
        i.same ∙ descendant-shows at parent left compound step up
        ∙ commits (λ x. matches_compound x compound) (matched_before selector (left - 1)) parent (ancestors parent) (matched_before selector end.1 end.0) found nearest.same nearest.best;
    done = nearest.done;
    not_child = nearest.not_child;
    left_is = omega (arith, nearest.left, i.left_is);
  }

  -- or passed over
  pub column-passes : (place : ℕ) (element at parent : Standing) (left : ℕ) (compound : Compound) → InColumn place element at left → IsStep selector left Descendant compound
      → ancestors at ≡ parent ∷ ancestors parent → matches_at compound (left - 1) parent ≡ false → InColumn place element parent left
  column-passes place element at parent left compound i step up no_match = record {
    same =
        i.same ∙ descendant-shows at parent left compound step up
        ∙ ap (λ b. b || list_any (matches_at compound (left - 1)) (ancestors parent)) no_match
        ∙ sym (step.leads parent);
    done = i.done;
    not_child = i.not_child;
    left_is = i.left_is;
  }

  pub column-lacks : (place : ℕ) (element at : Standing) (left : ℕ) (compound : Compound) → InColumn place element at left → IsStep selector left Descendant compound
      → ancestors at ≡ [] → matched_before selector place element ≡ false
  column-lacks place element at left compound i step none = i.same ∙ step.leads at ∙ ap (list_any (matches_at compound (left - 1))) none

  module _ (whole : length selector.compounds ≡ length selector.joins + 1) where
    pub next-ends : (place : ℕ) (element at : Standing) (left : ℕ) → place ≤ length selector.joins → InNext place element at left → join_before selector left ≢ Some Next → IsNearestSibling selector place element (at, left)
    next-ends place element at left within i not_next = record {
      same = i.same;
      best = λ h. back-only selector whole left (omega (arith, i.left_is)) not_next at (i.best h);
      row = i.row;
      above = i.above;
      not_next = not_next;
      fewer = i.fewer;
      left = i.left_is;
    }

    row-others : (left : ℕ) → left ≤ length selector.joins → IsRowDone selector left → (other : Standing) → list_any (matched_before selector left) (other ∷ earlier_siblings other) ≡ true → matched_before selector left other ≡ true
    row-others left within done other h = elim (or_cases (matched_before selector left other) (list_any (matched_before selector left) (earlier_siblings other)) h) [
      | inl here ↦ here
      | inr there ↦
          row-same (matched_before selector left) other.above (matched_before selector left other) (λ x same. up-only selector whole left within done x other same) (earlier_siblings other) (siblings-row other) there
    ]

    pub row-ends : (place : ℕ) (element at : Standing) (left : ℕ) → place ≤ length selector.joins → InRow place element at left → join_before selector left ≢ Some Later → EndsRow selector place element left
    row-ends place element at left within i not_later =
        let done : IsRowDone selector left = record { not_next = i.not_next; not_later = not_later } in
        record {
          same = i.same ∙ up-only selector whole left (omega (arith, i.left_is)) done at element i.above;
          others = λ other h. row-others left (omega (arith, i.left_is)) done other (i.row other h);
          done = done;
          fewer = i.left_is;
        }

    pub up-ends : (place : ℕ) (element at : Standing) (left : ℕ) → place ≤ length selector.joins → InUp place element at left → join_before selector left ≢ Some Child → IsNearestAncestor selector place element (at, left)
    up-ends place element at left within i not_child = record {
      same = i.same;
      best = λ h. above-only selector whole left (omega (arith, i.left_is)) i.done not_child at (i.best h);
      done = i.done;
      not_child = not_child;
      fewer = i.fewer;
      left = i.left_is;
    }

    pub column-ends : (place : ℕ) (element at : Standing) (left : ℕ) → place ≤ length selector.joins → InColumn place element at left → join_before selector left ≢ Some Descendant → matched_before selector place element ≡ true
    column-ends place element at left within i not_descendant = i.same ∙ none-left selector whole left (omega (arith, i.left_is)) i.done i.not_child not_descendant at

    -- What came of matching what is left before an element of the walk, tells what comes of all.

    pub row-recalls : (place : ℕ) (element at : Standing) (left : ℕ) (outcome : Option ℕ) → place ≤ length selector.joins → InRow place element at left → IsOutcome selector left at outcome → IsOutcome selector place element outcome
    row-recalls place element at left None within i none = i.same ∙ none
    row-recalls place element at left (Some end) within i ends =
        let few : end ≤ length selector.joins = omega (arith, within, i.left_is, ends.fewer) in
        record {
          same = i.same ∙ ends.same ∙ up-only selector whole end few ends.done at element i.above;
          others = λ other h. row-others end few ends.done other (any-mono (matched_before selector left) (matched_before selector end) ends.others (other ∷ earlier_siblings other) (i.row other h));
          done = ends.done;
          fewer = omega (arith, i.left_is, ends.fewer);
        }

  -- what is matched before an element comes out at the beginning of the selector
  pub all-ends : (place : ℕ) (element : Standing) → matched_before selector place element ≡ true → EndsRow selector place element 0
  all-ends place element is = record {
    same = is;
    others = λ other h. refl;
    done = record { not_next = λ e. absurd (none-some Next e); not_later = λ e. absurd (none-some Later e) };
    fewer = omega arith;
  }

  pub tells-end : (place : ℕ) (element : Standing) (outcome : Option ℕ) → IsOutcome selector place element outcome → IfSome outcome (EndsRow selector place element)
  tells-end place element None is = tt
  tells-end place element (Some end) is = is

  pub tells-none : (place : ℕ) (element : Standing) (outcome : Option ℕ) → IsOutcome selector place element outcome → IfNone outcome (matched_before selector place element ≡ false)
  tells-none place element None is = is
  tells-none place element (Some end) is = tt
