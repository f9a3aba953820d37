-- How often trees have an element of a key. Throughout, n is a node, c what is under it, r what is after it, f trees, k the key, and b whether
-- the node of this key is an element.
use Rattle.std.proofs.Common.{◌≡◌, ◌==◌, ◌≤◌, ◌+◌, ◌||◌, ℕ, Bool, true, false, cond, List, [], ◌∷◌, ◌++◌, Option, Some, refl, sym, ap, subst, ◌∙◌, inl, inr, arith}
use Rattle.std.proofs.Math.Bool.{or-false}
use Rattle.std.proofs.lemmas.List.Folds.{list_any-append}
use Rattle.std.proofs.lemmas.Option.{none-some, same_Some}
use Rattle.forest.specs.Forest.{Forest, Empty, Tree}
use Rattle.forest.specs.Keys.{Keyed, HasDistinctKeys, times}
use Rattle.forest.specs.Spots.{Spot, spot}
use Rattle.forest.proofs.SpotLaws.{below-or-after, chosen, distinct-parts, first_found, spot-counted, the_spot}
use Rattle.plain_types.specs.declared.node.Node.{Node}
use Rattle.edit_merge.specs.EditMerges.{is_element}
use Rattle.edit_work.specs.KeyedSources.{element_key, elements_in, is_among}

abbrev pub one : Bool → ℕ
one b = cond {A = ℕ} b 1 0

pub or-one : (x y : Bool) → (one x + one y) ≤ 1 → one (x || y) ≡ one x + one y
or-one true true few = absurd (omega (arith, few))
or-one true false few = refl
or-one false y few = omega arith

pub one-true : (x : Bool) → one x ≡ 1 → x ≡ true
one-true true h = refl
one-true false h = absurd (omega (arith, h))

pub one-false : (x : Bool) → one x ≡ 0 → x ≡ false
one-false true h = absurd (omega (arith, h))
one-false false h = refl

never : (t : Bool) (x : ℕ) → cond {A = ℕ} t 1 0 + x ≡ 0 → t ≡ true → ⊥
never true x none is = omega (arith, none)
never false x none is = cc is

module _ (k : ℕ) where
  among-three : (some more others : List ℕ) → is_among (some ++ (more ++ others)) k ≡ (is_among some k || (is_among more k || is_among others k))
  among-three some more others =
      list_any-append (λ other. other == k) some (more ++ others) ∙ ap (λ b. is_among some k || b) (list_any-append (λ other. other == k) more others)

  own-by : (key : ℕ) (element t b : Bool) → (key == k) ≡ t → (t ≡ true → element ≡ b) → one (is_among (cond element (key ∷ []) []) k) ≡ cond b (one t) 0
  own-by key true t true is says = ap (λ t. one (t || false)) is ∙ ap one (or-false t)
  own-by key true true false is says = absurd (cc (says refl))
  own-by key true false false is says = ap (λ t. one (t || false)) is
  own-by key false true true is says = absurd (cc (says refl))
  own-by key false false true is says = refl
  own-by key false t false is says = refl

  sum-by : (b x y z : Bool) (u v w : ℕ) → (u + (v + w)) ≤ 1 → one x ≡ cond b u 0 → one y ≡ cond b v 0 → one z ≡ cond b w 0 → one (x || (y || z)) ≡ cond b (u + (v + w)) 0
  sum-by true x y z u v w few own below beside =
      let inner : one (y || z) ≡ one y + one z = or-one y z (omega (arith, few, below, beside)) in
      let outer : one (x || (y || z)) ≡ one x + one (y || z) = or-one x (y || z) (omega (arith, few, own, below, beside, inner)) in
      omega (arith, own, below, beside, inner, outer)
  sum-by false x y z u v w few own below beside =
      let inner : one (y || z) ≡ one y + one z = or-one y z (omega (arith, below, beside)) in
      let outer : one (x || (y || z)) ≡ one x + one (y || z) = or-one x (y || z) (omega (arith, own, below, beside, inner)) in
      omega (arith, own, below, beside, inner, outer)

  none-by : (b : Bool) → 0 ≡ cond {A = ℕ} b 0 0
  none-by true = refl
  none-by false = refl

  module _ (b : Bool) where
    -- a node of this key is an element, or is none
    abbrev pub Says : Forest (Keyed Node) → Type 0
    Says Empty = Unit {0}
    Says (Tree n c r) = ((n.key == k) ≡ true → is_element n.label ≡ b) × Says c × Says r

    says-absent : (f : Forest (Keyed Node)) → times k f ≡ 0 → Says f
    says-absent Empty none = tt
    says-absent (Tree n c r) none = (
      λ is. absurd (never (n.key == k) (times k c + times k r) none is),
      says-absent c (omega (arith, none)),
      says-absent r (omega (arith, none)),
    )

    pub says-there : (f : Forest (Keyed Node)) (p : Option ℕ) (e : List (Keyed Node)) (s : Spot Node) → HasDistinctKeys f → spot p e f k ≡ Some s → is_element s.label ≡ b → Says f
    says-there Empty p e s d at is = absurd (none-some s at)
    says-there (Tree n c r) p e s d at is =
        let parts = distinct-parts n c r d in
        elim (chosen (n.key == k) _ _ _ at) [
          | inl h ↦
              let same : the_spot p e n.label c r ≡ s = same_Some (the_spot p e n.label c r) s h.1 in
              let few : (1 + (times k c + times k r)) ≤ 1 = subst (λ t. (cond {A = ℕ} t 1 0 + (times k c + times k r)) ≤ 1) h.0 (d k) in (
                λ _. ap (λ (s : Spot Node). is_element s.label) same ∙ is,
                says-absent c (omega (arith, few)),
                says-absent r (omega (arith, few)),
              )
          | inr h ↦ elim (first_found _ _ s h.1) [
            | inl below ↦
                let there = spot-counted c (Some n.key) [] k s below in (
                  λ own. absurd (let no : true ≡ false = sym own ∙ h.0 in cc),
                  says-there c (Some n.key) [] s parts.0 below is,
                  says-absent r (omega (arith, d k, there)),
                )
            | inr beside ↦
                let there = spot-counted r p (e ++ n ∷ []) k s beside.1 in (
                  λ own. absurd (let no : true ≡ false = sym own ∙ h.0 in cc),
                  says-absent c (below-or-after n c r k d there),
                  says-there r p (e ++ n ∷ []) s parts.1 beside.1 is,
                )
          ]
        ]

    pub elements-count : (f : Forest (Keyed Node)) → HasDistinctKeys f → Says f → one (is_among (elements_in f) k) ≡ cond b (times k f) 0
    elements-count Empty d says = none-by b
    elements-count (Tree n c r) d says =
        let parts = distinct-parts n c r d in
        ap one (among-three (element_key n) (elements_in c) (elements_in r))
        ∙ sum-by b (is_among (element_key n) k) (is_among (elements_in c) k) (is_among (elements_in r) k) (one (n.key == k)) (times k c) (times k r) (d k)
        (own-by n.key (is_element n.label) (n.key == k) b refl says.0) (elements-count c parts.0 says.1) (elements-count r parts.1 says.2)
