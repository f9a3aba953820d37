-- Chains of elements: earlier siblings, and ancestors. Where the nearest element matches, none further along the
-- chain does better.
use Rattle.std.proofs.Common.{◌≡◌, ◌∷◌, ◌&&◌, ◌||◌, List, [], Bool, true, false, take, refl, sym, ap, subst, ◌∙◌, inl, inr}
use Rattle.std.specs.List.{list_any}
use Rattle.std.specs.Prelude.{IfSome, IfNone, Option, Some, None}
use Rattle.std.proofs.lemmas.Bool.{cases_Bool, or_cases, or_left, or_right, and_parts, both_ways, false_from_ne_true}
use Rattle.selector_match.specs.Elements.{Element, Level, Standing, ancestors_in, ancestors, levels_back, among, earlier_siblings}
use Rattle.selector_match.specs.Positions.{siblings}
use Rattle.selector_match.specs.Machinery.Lookups.{IsBeside}

-- each element of a chain has the rest of it before itself
abbrev pub IsChain : (Standing → List Standing) → List Standing → Type 0
IsChain next [] = Unit {0}
IsChain next (x ∷ rest) = (next x ≡ rest) × IsChain next rest

pub any-mono : {A : Type 0} (p q : A → Bool) → ((x : A) → p x ≡ true → q x ≡ true) → (xs : List A) → list_any p xs ≡ true → list_any q xs ≡ true
any-mono p q goes [] h = h
any-mono p q goes (x ∷ xs) h = elim (or_cases (p x) (list_any p xs) h) [
  | inl here ↦ or_left (q x) (list_any q xs) (goes x here)
  | inr there ↦ or_right (q x) (list_any q xs) (any-mono p q goes xs there)
]

pub any-same : {A : Type 0} (p q : A → Bool) → ((x : A) → p x ≡ q x) → (xs : List A) → list_any p xs ≡ list_any q xs
any-same p q same [] = refl
any-same p q same (x ∷ xs) = ap (λ b. b || list_any p xs) (same x) ∙ ap (λ b. q x || b) (any-same p q same xs)

pub any-first : {A : Type 0} (p : A → Bool) (xs : List A) → list_any p (take 1 xs) ≡ true → list_any p xs ≡ true
any-first p [] h = h
any-first p (x ∷ xs) h = elim (or_cases (p x) false h) [
  | inl here ↦ or_left (p x) (list_any p xs) here
  | inr there ↦ absurd (both_ways _ refl there)
]

pub only-first : {A : Type 0} (p : A → Bool) (x : A) (b : Bool) → p x ≡ b → list_any p (x ∷ []) ≡ b
only-first p x true is = or_left (p x) false is
only-first p x false is = ap (λ c. c || false) is

module _ (next : Standing → List Standing) (p q : Standing → Bool) where
  -- what leads on from an element of a chain leads on from the first
  pub chain-down : ((x : Standing) → p x ≡ true → list_any q (next x) ≡ true) → (x : Standing) (rest : List Standing) → IsChain next (x ∷ rest) → list_any p (x ∷ rest) ≡ true → list_any q rest ≡ true
  chain-down leads x [] chain h = elim (or_cases (p x) false h) [
    | inl here ↦ subst (λ (xs : List Standing). list_any q xs ≡ true) chain.0 (leads x here)
    | inr there ↦ there
  ]
  chain-down leads x (y ∷ rest) chain h = elim (or_cases (p x) (list_any p (y ∷ rest)) h) [
    | inl here ↦ subst (λ (xs : List Standing). list_any q xs ≡ true) chain.0 (leads x here)
    | inr there ↦ or_right (q y) (list_any q rest) (chain-down leads y rest chain.1 there)
  ]

  pub chain-up : ((x : Standing) → p x ≡ true → list_any q (next x) ≡ true) → (xs : List Standing) → IsChain next xs → list_any p xs ≡ true → list_any q xs ≡ true
  chain-up leads [] chain h = h
  chain-up leads (x ∷ rest) chain h = or_right (q x) (list_any q rest) (chain-down leads x rest chain h)

  -- the same where it may lead to the element itself
  pub chain-stays : ((x : Standing) → p x ≡ true → list_any q (x ∷ next x) ≡ true) → (xs : List Standing) → IsChain next xs → list_any p xs ≡ true → list_any q xs ≡ true
  chain-stays leads [] chain h = h
  chain-stays leads (x ∷ rest) chain h = elim (or_cases (p x) (list_any p rest) h) [
    | inl here ↦ subst (λ (xs : List Standing). list_any q (x ∷ xs) ≡ true) chain.0 (leads x here)
    | inr there ↦ or_right (q x) (list_any q rest) (chain-stays leads rest chain.1 there)
  ]

-- the nearest element is taken for good
pub commits : (matches before : Standing → Bool) (x : Standing) (rest : List Standing) (end : Bool) → matches x ≡ true → before x ≡ end → (list_any before rest ≡ true → end ≡ true)
    → list_any (λ other. matches other && before other) (x ∷ rest) ≡ end
commits matches before x rest end found same best =
    elim (cases_Bool end) [
      | inl good ↦ or_left (matches x && before x) (list_any (λ other. matches other && before other) rest) (ap (λ b. b && before x) found ∙ same ∙ good) ∙ sym good
      | inr bad ↦
          ap (λ b. b || list_any (λ other. matches other && before other) rest) (ap (λ b. b && before x) found ∙ same ∙ bad)
          ∙ false_from_ne_true (list_any (λ other. matches other && before other) rest) (λ there.
          both_ways end bad (best (any-mono (λ other. matches other && before other) before (λ other both. (and_parts (matches other) (before other) both).1) rest there)))
          ∙ sym bad
    ]

-- The chains of an element.

abbrev pub IsRow : List Level → List Standing → Type 0
IsRow above [] = Unit {0}
IsRow above (x ∷ rest) = (x.above ≡ above) × (earlier_siblings x ≡ rest) × IsRow above rest

upward : (above : List Level) → IsChain ancestors (ancestors_in above)
upward [] = tt
upward (level ∷ above) = (refl, upward above)

pub ancestors-chain : (x : Standing) → IsChain ancestors (ancestors x)
ancestors-chain x = upward x.above

row : (above : List Level) (earlier later : List Element) → IsRow above (among above (levels_back earlier later))
row above [] later = tt
row above (nearest ∷ earlier) later = (refl, refl, row above earlier (nearest ∷ later))

pub siblings-row : (x : Standing) → IsRow x.above (earlier_siblings x)
siblings-row x = row x.above x.level.earlier (x.level.element ∷ x.level.later)

row-chain : (above : List Level) (xs : List Standing) → IsRow above xs → IsChain earlier_siblings xs
row-chain above [] r = tt
row-chain above (x ∷ rest) r = (r.1, row-chain above rest r.2)

pub siblings-chain : (x : Standing) → IsChain earlier_siblings (earlier_siblings x)
siblings-chain x = row-chain x.above (earlier_siblings x) (siblings-row x)

-- what only ancestors tell is told by each of a row
pub row-same : (p : Standing → Bool) (above : List Level) (b : Bool) → ((x : Standing) → x.above ≡ above → p x ≡ b) → (xs : List Standing) → IsRow above xs → list_any p xs ≡ true → b ≡ true
row-same p above b same [] r h = absurd (both_ways _ refl h)
row-same p above b same (x ∷ rest) r h = elim (or_cases (p x) (list_any p rest) h) [
  | inl here ↦ sym (same x r.0) ∙ here
  | inr there ↦ row-same p above b same rest r.2 there
]

abbrev the_standing : Element → List Element → List Element → List Level → Standing
the_standing here earlier later above = record { level = record { element = here; earlier = earlier; later = later }; above = above }

-- the siblings before an element are the nearest, and those before that
back-chain : (first second : Standing) → IsBeside false first second → earlier_siblings first ≡ second ∷ earlier_siblings second
back-chain first second beside =
    let here = second.level.element in
    let earlier = second.level.earlier in
    ap (λ (levels : List Element). among first.above (levels_back levels (first.level.element ∷ first.level.later))) beside.onward
    ∙ ap (λ (later : List Element). the_standing here earlier later first.above ∷ among first.above (levels_back earlier (here ∷ later))) (sym beside.back)
    ∙ ap (λ (above : List Level). the_standing here earlier second.level.later above ∷ among above (levels_back earlier (here ∷ second.level.later))) (sym beside.above)

pub previous : (first : Standing) (o : Option Standing) → IfSome o (λ second. siblings false first.level ≡ second.level.element ∷ siblings false second.level)
    → IfSome o (λ second. siblings true second.level ≡ first.level.element ∷ siblings true first.level) → IfSome o (λ second. second.above ≡ first.above)
    → IfSome o (λ second. earlier_siblings first ≡ second ∷ earlier_siblings second)
previous first None onward back above = tt
previous first (Some second) onward back above = back-chain first second (record { onward = onward; back = back; above = above })

pub no-previous : (first : Standing) (o : Option Standing) → IfNone o (siblings false first.level ≡ []) → IfNone o (earlier_siblings first ≡ [])
no-previous first None none = ap (λ (earlier : List Element). among first.above (levels_back earlier (first.level.element ∷ first.level.later))) none
no-previous first (Some second) none = tt
