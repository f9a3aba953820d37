-- What is told of the nodes of a document, where only those of a span tell something.
use Rattle.std.proofs.Common.{◌≡◌, ◌<◌, ◌≤◌, ◌+◌, ◌++◌, ◌⊎◌, ℕ, zero, suc, Bool, true, false, cond, List, [], ◌∷◌, Option, Some, None, flat_map, slice_get, take, refl, sym, ap, subst, inl, inr, arith}
use Rattle.std.specs.Prelude.{IfSome}
use Rattle.forest.specs.Forest.{Forest}
use Rattle.forest.specs.Keys.{HasDistinctKeys, Keyed, keys}
use Rattle.forest.specs.Order.{place_of}
use Rattle.plain_types.specs.declared.node.Node.{Node}
use Rattle.referring_elements.proofs.WalkLemmas.{place_is}
use Rattle.merged_walk.specs.Entries.{last_at}
use Rattle.kept_elements.specs.declared.kept_change.KeptChange.{KeptChange}
use Rattle.planned_lines.specs.declared.span.Span.{Span}
use Rattle.planned_lines.specs.PutLines.{looked_up}
use Rattle.planned_lines.specs.Spans.{AreWithin, IsWithin}
use Rattle.planned_lines.proofs.PutLemmas.{last_has}

module _ {A : Type 0} (told : ℕ → List A) where
  -- items in front of a place that tell nothing
  front : (xs : List ℕ) (place : ℕ) → ((i x : ℕ) → i < place → slice_get xs i ≡ Some x → told x ≡ []) → flat_map told (take place xs) ≡ []
  front [] zero none = refl
  front [] (suc place) none = refl
  front (x ∷ xs) zero none = refl
  front (x ∷ xs) (suc place) none =
      rw (none 0 x (omega arith) refl) (front xs place (λ i y low is. none (suc i) y (omega (arith, low)) is))

  -- items from a place on that tell nothing
  behind : (xs : List ℕ) (place : ℕ) → ((i x : ℕ) → place ≤ i → slice_get xs i ≡ Some x → told x ≡ []) → flat_map told xs ≡ flat_map told (take place xs)
  behind [] zero none = refl
  behind [] (suc place) none = refl
  behind (x ∷ xs) zero none = rw (none 0 x (omega arith) refl) (behind xs 0 (λ i y high is. none (suc i) y (omega arith) is))
  behind (x ∷ xs) (suc place) none = ap (λ rest. told x ++ rest) (behind xs place (λ i y high is. none (suc i) y (omega (arith, high)) is))

  module _ (tree : Forest (Keyed Node)) (distinct : HasDistinctKeys tree) (span : Span) (others : (key : ℕ) → IsWithin tree span key ⊎ (told key ≡ [])) where
    -- the nodes before the span tell nothing
    pub none_before : flat_map told (take (place_of tree span.first) (keys tree)) ≡ []
    none_before = front (keys tree) (place_of tree span.first) (λ i key low is. elim (others key) [
      | inl within ↦ absurd (omega (arith, low, within.first, place_is tree i key distinct is))
      | inr none ↦ none
    ])

    -- nor do those behind it
    pub none_behind : flat_map told (keys tree) ≡ flat_map told (take (place_of tree span.last + 1) (keys tree))
    none_behind = behind (keys tree) (place_of tree span.last + 1) (λ i key high is. elim (others key) [
      | inl within ↦ absurd (omega (arith, high, within.last, place_is tree i key distinct is))
      | inr none ↦ none
    ])

-- of a node outside a span, in which all stand that show another text by what is put, nothing is looked up
pub others_none : (tree : Forest (Keyed Node)) (span : Span) (puts : List (ℕ × KeptChange)) → AreWithin tree span puts → (key : ℕ) {put : Option KeptChange}
    → put ≡ last_at puts key → IsWithin tree span key ⊎ (looked_up key put ≡ [])
others_none tree span puts all key {put} is = by put (sym is)
  where
    by : (o : Option KeptChange) → last_at puts key ≡ o → IsWithin tree span key ⊎ (looked_up key o ≡ [])
    by None last = inr refl
    by (Some change) last = chosen change.shows_other refl
      where
        chosen : (b : Bool) → change.shows_other ≡ b → IsWithin tree span key ⊎ (cond b (key ∷ []) [] ≡ [])
        chosen true shows = inl (last_has (λ k one. one.shows_other ≡ true → IsWithin tree span k) puts all key change last shows)
        chosen false silent = inr refl

-- what holds of a value that is there
pub for_some : {A : Type 0} (found : Option A) (value : A) (P : A → Type 0) → found ≡ Some value → P value → IfSome found P
for_some {A} found value P is holds = subst (λ (o : Option A). IfSome o P) (sym is) holds
