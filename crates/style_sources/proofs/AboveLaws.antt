-- The greatest of a list stands above all.
use Rattle.std.proofs.Common.{◌≡◌, Bool, true, false, if◌then◌else◌, List, [], ◌∷◌, ◌++◌, Option, Some, None, IfSome, IfNone, refl, sym, ap, inl, inr, subst}
use Rattle.std.proofs.lemmas.Bool.{both_ways, cases_Bool}
use Rattle.std.specs.List.{AllByRecursion}
use Rattle.mini_cascade.specs.Greatest.{greater, greatest}
use Rattle.mini_cascade.proofs.GreatestLaws.{IsOrder}
use Rattle.style_sources.specs.Laws.{IsAboveAll}

module _ {X : Type 0} (is_less : X → X → Bool) where
  some_of_two : (first : X) (other : Option X) → IfNone (greater is_less (Some first) other) ⊥
  some_of_two first None = tt
  some_of_two first (Some other) = tt

  of_none : (o : Option X) (rest : List X) → IfNone o ⊥ → IfNone o (rest ≡ [])
  of_none None rest h = absurd h
  of_none (Some x) rest h = tt

  pub none_left : (all : List X) → IfNone (greatest is_less all) (all ≡ [])
  none_left [] = refl
  none_left (first ∷ rest) = of_none (greater is_less (Some first) (greatest is_less rest)) (first ∷ rest) (some_of_two first (greatest is_less rest))

  module _ (order : IsOrder is_less) where
    abbrev Below : X → List X → Type 0
    Below top others = AllByRecursion (λ (other : X). is_less other top ≡ true) others

    abbrev NotAbove : X → List X → Type 0
    NotAbove one others = AllByRecursion (λ (other : X). is_less one other ≡ false) others

    -- what one that is below another is not below is below the other too
    between : (one other top : X) → is_less one other ≡ false → is_less one top ≡ true → is_less other top ≡ true
    between one other top not_below below = elim (cases_Bool (is_less other top)) [
      | inl e ↦ e
      | inr e ↦ absurd (both_ways (is_less one top) (order.not_less one other top not_below e) below)
    ]

    all_below : (one top : X) (others : List X) → is_less one top ≡ true → Below one others → Below top others
    all_below one top [] below h = tt
    all_below one top (other ∷ others) below h = (order.less other one top h.0 below, all_below one top others below h.1)

    parts_below : (one top : X) (before behind : List X) → is_less one top ≡ true → NotAbove one before → Below one behind → Below top (before ++ one ∷ behind)
    parts_below one top [] behind below h g = (below, all_below one top behind below g)
    parts_below one top (other ∷ before) behind below h g = (between one other top h.0 below, parts_below one top before behind below h.1 g)

    one_more : (first one : X) (rest : List X) (is : Bool) → is_less one first ≡ is → IsAboveAll is_less one rest → IsAboveAll is_less (if is then first else one) (first ∷ rest)
    one_more first one rest true below above = record {
      before = [];
      behind = rest;
      parts = refl;
      not_less = tt;
      above = subst (Below first) (sym above.parts) (parts_below one first above.before above.behind below above.not_less above.above);
    }
    one_more first one rest false not_below above = record {
      before = first ∷ above.before;
      behind = above.behind;
      parts = ap (λ more. first ∷ more) above.parts;
      not_less = (not_below, above.not_less);
      above = above.above;
    }

    first_of : (first : X) (rest : List X) (best : Option X) → IfNone best (rest ≡ []) → IfSome best (λ one. IsAboveAll is_less one rest)
        → IfSome (greater is_less (Some first) best) (λ one. IsAboveAll is_less one (first ∷ rest))
    first_of first rest None none above = record { before = []; behind = []; parts = ap (λ more. first ∷ more) none; not_less = tt; above = tt }
    first_of first rest (Some one) none above = one_more first one rest (is_less one first) refl above

    pub greatest_above : (all : List X) → IfSome (greatest is_less all) (λ one. IsAboveAll is_less one all)
    greatest_above [] = tt
    greatest_above (first ∷ rest) = first_of first rest (greatest is_less rest) (none_left rest) (greatest_above rest)
