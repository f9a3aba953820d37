-- Entries whose keys are distinct are found by their keys. Throughout, k is a key, xs entries, n a node, c what is under it, r what is
-- after it, g trees, and i what they are handed.
use Rattle.std.proofs.Common.{◌≡◌, ◌==◌, ◌+◌, ◌≤◌, ◌++◌, ◌∷◌, ℕ, nat_eq, false, cond, List, [], Option, Some, None, inl, inr, refl, ap, subst, ◌∙◌, arith, eq-eqb, eqb-true}
use Rattle.std.specs.Cmp.{nat_eq_equiv}
use Rattle.std.specs.List.{AllByRecursion, IsDistinct}
use Rattle.std.proofs.lemmas.Bool.{cases_Bool}
use Rattle.std.proofs.lemmas.List.Elements.{All-cons, All-head, All-nil, All-tail}
use Rattle.std.proofs.lemmas.Map.Keys.{IsDistinct-head, IsDistinct-tail}
use Rattle.forest.specs.Forest.{Forest, Empty, Tree}
use Rattle.forest.specs.Keys.{Keyed, HasDistinctKeys, times}
use Rattle.plain_types.specs.declared.counter_style.CounterStyle.{CounterStyle}
use Rattle.plain_types.specs.declared.node.Node.{Node}
use Rattle.plain_types.specs.declared.style.ElementStyle.{ElementStyle}
use Rattle.plain_types.specs.declared.style.Style.{Style}
use Rattle.box_eval.specs.Evaluation.{Element, StyledNode, Text, styled}
use Rattle.box_eval.specs.Starts.{no_starts}
use Rattle.merged_walk.specs.Entries.{Holds, first_at}
use Rattle.merged_walk.specs.Evaluators.{past_all}
use Rattle.surroundings.specs.declared.surroundings.Surroundings.{Surroundings}
use Rattle.surroundings.specs.StyledEvaluators.{inside_node, is_element, past_styled, root_surroundings, styled_evaluator}
use Rattle.document_walk.proofs.StyledKeys.{styled_distinct}
use Rattle.start_reach.proofs.TurnedLaws.{key-flipped}
use Rattle.counter_index.specs.declared.deeds.CounterDeeds.{CounterDeeds}
use Rattle.counter_index.specs.Documents.{all_deeds, counter_deeds_in, counter_deeds_of}
use Rattle.counter_index.specs.Exchanges.{keys_in}

module _ {R : Type 0} where
  abbrev pub entries : ℕ → List (ℕ × R) → ℕ
  entries k [] = 0
  entries k (x ∷ xs) = cond {A = ℕ} (x.0 == k) 1 0 + entries k xs

  entries-split : (k : ℕ) (xs ys : List (ℕ × R)) → entries k (xs ++ ys) ≡ entries k xs + entries k ys
  entries-split k [] ys = omega arith
  entries-split k (x ∷ xs) ys = let rest = entries-split k xs ys in omega (arith, rest)

  behind-it : (key : ℕ) (its : R) (held : ℕ → Option R) (xs : List (ℕ × R)) → entries key xs ≡ 0 → Holds held xs → Holds (λ k. cond (key == k) (Some its) (held k)) xs
  behind-it key its held [] none h = All-nil (λ (x : ℕ × R). cond (key == x.0) (Some its) (held x.0) ≡ Some x.1)
  behind-it key its held (x ∷ xs) none h = elim (cases_Bool (x.0 == key)) [
    | inl e ↦ absurd (let some : 1 + entries key xs ≡ 0 = rw e at none in omega (arith, some))
    | inr e ↦
        let rest : 0 + entries key xs ≡ 0 = rw e at none in
        All-cons (λ (x : ℕ × R). cond (key == x.0) (Some its) (held x.0) ≡ Some x.1) x xs
        (ap (λ b. cond b (Some its) (held x.0)) (key-flipped key x.0 ∙ e) ∙ All-head (λ (x : ℕ × R). held x.0 ≡ Some x.1) x xs h)
        (behind-it key its held xs (omega (arith, rest)) (All-tail (λ (x : ℕ × R). held x.0 ≡ Some x.1) x xs h))
  ]

  pub first-held : (xs : List (ℕ × R)) → ((k : ℕ) → entries k xs ≤ 1) → Holds (first_at xs) xs
  first-held [] once = All-nil (λ (x : ℕ × R). first_at {R = R} [] x.0 ≡ Some x.1)
  first-held (x ∷ xs) once =
      let here : 1 + entries x.0 xs ≤ 1 = rw (eq-eqb x.0 x.0 refl) at (once x.0) in
      All-cons (λ (y : ℕ × R). first_at (x ∷ xs) y.0 ≡ Some y.1) x xs
      (ap (λ b. cond b (Some x.1) (first_at xs x.0)) (eq-eqb x.0 x.0 refl))
      (behind-it x.0 x.1 (first_at xs) xs (omega (arith, here)) (first-held xs (λ k. (let both = once k in omega (arith, both)))))

-- What the elements of a document do.
module _ (table : List CounterStyle) (k : ℕ) where
  own-entry : (key : ℕ) (label : StyledNode) (its : CounterDeeds) → entries k (cond (is_element label) ((key, its) ∷ []) []) ≤ cond {A = ℕ} (key == k) 1 0
  own-entry key (Element element) its = omega arith
  own-entry key Text its = omega arith

  counted : (g : Forest (Keyed StyledNode)) (i : Option Surroundings) → entries k (counter_deeds_in table i g) ≤ times k g
  counted Empty i = omega arith
  counted (Tree n c r) i =
      let inside : Option Surroundings = inside_node table n i in
      let x : Option Surroundings = past_all (styled_evaluator table) inside c in
      let below : List (ℕ × CounterDeeds) = counter_deeds_in table inside c in
      let own : List (ℕ × CounterDeeds) = cond (is_element n.label) ((n.key, counter_deeds_of table n i x) ∷ []) [] in
      let beside : List (ℕ × CounterDeeds) = counter_deeds_in table (past_styled table n i x) r in
      omega (
        arith,
        entries-split k below (own ++ beside),
        entries-split k own beside,
        own-entry n.key n.label (counter_deeds_of table n i x),
        counted c inside,
        counted r (past_styled table n i x),
      )

pub deeds-held : (table : List CounterStyle) (style : ℕ → Option Style → ElementStyle) (tree : Forest (Keyed Node)) → HasDistinctKeys tree
    → Holds (all_deeds table style tree) (counter_deeds_in table root_surroundings (styled style no_starts tree))
deeds-held table style tree distinct =
    let document : Forest (Keyed StyledNode) = styled style no_starts tree in
    first-held (counter_deeds_in table root_surroundings document)
    (λ k. (let few = counted table k document root_surroundings in let once = styled_distinct style no_starts tree None distinct k in omega (arith, few, once)))

-- Entries of which each key comes once.
module _ {T : Type 0} where
  apart-none : (k : ℕ) (xs : List (ℕ × Option T)) → AllByRecursion (λ y. nat_eq k y ≡ false) (keys_in xs) → entries k xs ≡ 0
  apart-none k [] apart = refl
  apart-none k (x ∷ xs) apart =
      let here : (x.0 == k) ≡ false = nat_eq_equiv.symm x.0 k ∙ apart.0 in
      let rest = apart-none k xs apart.1 in
      rw here (omega (arith, rest))

  pub once-few : (xs : List (ℕ × Option T)) → IsDistinct nat_eq (keys_in xs) → (k : ℕ) → entries k xs ≤ 1
  once-few [] once k = omega arith
  once-few (x ∷ xs) once k = elim (cases_Bool (x.0 == k)) [
    | inl e ↦
        let same : x.0 ≡ k = eqb-true x.0 k e in
        let none = apart-none k xs (subst (λ key. AllByRecursion (λ y. nat_eq key y ≡ false) (keys_in xs)) same (IsDistinct-head nat_eq x.0 (keys_in xs) once)) in
        rw e (omega (arith, none))
    | inr e ↦ let rest = once-few xs (IsDistinct-tail nat_eq x.0 (keys_in xs) once) k in rw e (omega (arith, rest))
  ]
