-- What is kept stands in what is kept alone. Throughout, n is a node, c what is under it, r what is after it, q and top
-- are keys, and m is a merge.
use Rattle.std.proofs.Common.{◌≡◌, ◌==◌, ◌<◌, ◌+◌, ◌||◌, ◌++◌, ℕ, Bool, true, false, cond, List, [], ◌∷◌, refl, sym, ap, subst, ◌∙◌, inl, inr, arith}
use Rattle.std.specs.List.{list_any}
use Rattle.forest.specs.Forest.{Tree}
use Rattle.forest.specs.Keys.{Keyed, HasDistinctKeys, times}
use Rattle.forest.proofs.SpotLaws.{distinct-parts, some_or_none}
use Rattle.plain_types.specs.declared.node.Node.{Node}
use Rattle.merged_walk.specs.Merges.{Merge, End, Kept, Turned, Gone, Come, new_of, old_of}
use Rattle.style_reach.specs.Ancestors.{ancestors_in, is_within}
use Rattle.style_reach.proofs.AncestorLaws.{ancestors-below, ancestors-beside}
use Rattle.styled_merge.specs.Stays.{IsUnturned}
use Rattle.styled_merge.proofs.KeptCounts.{counted, kept_times}

is-key : (b : Bool) (n : ℕ) → 0 < cond {A = ℕ} b 1 0 + n → n ≡ 0 → b ≡ true
is-key true n h none = refl
is-key false n h none = absurd (omega arith)

not-key : (b : Bool) (n : ℕ) → cond {A = ℕ} b 1 0 + n ≡ 0 → b ≡ false
not-key true n h = absurd (omega arith)
not-key false n h = refl

module _ (top q : ℕ) where
  abbrev has_top : List (Keyed Node) → Bool
  has_top ns = list_any (λ (n : Keyed Node). n.key == top) ns

  neither : (n : Keyed Node) (ns : List (Keyed Node)) → (n.key == top) ≡ false → has_top ns ≡ false → has_top (n ∷ ns) ≡ false
  neither n ns first rest = ap (λ b. b || has_top ns) first ∙ rest

  kept-there : (m : Merge Node) → 0 < kept_times q m → 0 < times q (old_of m)
  kept-there m h = omega (arith, counted q m)

  -- the node of `top` is no ancestor of that of `q`, if it is none of the roots'
  abbrev IsClear : Merge Node → Type 0
  IsClear m =
      (above : List (Keyed Node)) → HasDistinctKeys (old_of m) → kept_times top m ≡ 0 → 0 < kept_times q m → has_top above ≡ false → has_top (ancestors_in above (old_of m) q) ≡ false

  clear-step : (n : Keyed Node) (c r : Merge Node) → IsClear c → IsClear r → (above : List (Keyed Node)) → HasDistinctKeys (Tree n (old_of c) (old_of r))
      → cond {A = ℕ} (n.key == top) 1 0 + (kept_times top c + kept_times top r) ≡ 0 → 0 < cond {A = ℕ} (n.key == q) 1 0 + (kept_times q c + kept_times q r)
      → has_top above ≡ false → has_top (ancestors_in above (Tree n (old_of c) (old_of r)) q) ≡ false
  clear-step n c r below beside above d none some free =
      let parts = distinct-parts n (old_of c) (old_of r) d in
      let here : (n.key == top) ≡ false = not-key (n.key == top) _ none in
      elim (some_or_none (kept_times q c)) [
        | inr inside ↦
            ap has_top (ancestors-below above n (old_of c) (old_of r) q d (kept-there c inside))
            ∙ below (n ∷ above) parts.0 (omega arith) inside (neither n above here free)
        | inl outside ↦ elim (some_or_none (kept_times q r)) [
          | inr later ↦
              ap has_top (ancestors-beside above n (old_of c) (old_of r) q d (kept-there r later)) ∙ beside above parts.1 (omega arith) later free
          | inl never ↦
              let is : (n.key == q) ≡ true = is-key (n.key == q) (kept_times q c + kept_times q r) some (omega arith) in
              ap (λ b. has_top (cond b (n ∷ above) (ancestors_in (n ∷ above) (old_of c) q ++ ancestors_in above (old_of r) q))) is ∙ neither n above here free
        ]
      ]

  clear : (m : Merge Node) → IsClear m
  clear End above d none some free = absurd (omega arith)
  clear (Kept n c r) above d none some free = clear-step n c r (clear c) (clear r) above d none some free
  clear (Turned was n c r) above d none some free = clear-step was c r (clear c) (clear r) above d none some free
  clear (Gone n c r) above d none some free =
      ap has_top (ancestors-beside above n c (old_of r) q d (kept-there r some)) ∙ clear r above (distinct-parts n c (old_of r) d).1 none some free
  clear (Come n c r) above d none some free = clear r above d none some free

  -- what is kept is in nothing that is not kept
  pub outside-old : (m : Merge Node) → HasDistinctKeys (old_of m) → kept_times top m ≡ 0 → 0 < kept_times q m → is_within (old_of m) top q ≡ false
  outside-old m d none some = clear m [] d none some refl

-- The same of the new forest.

abbrev mirror : Merge Node → Merge Node
mirror End = End
mirror (Kept n c r) = Kept n (mirror c) (mirror r)
mirror (Turned was n c r) = Turned n was (mirror c) (mirror r)
mirror (Gone n c r) = Come n c (mirror r)
mirror (Come n c r) = Gone n c (mirror r)

old-mirror : (m : Merge Node) → old_of (mirror m) ≡ new_of m
old-mirror End = refl
old-mirror (Kept n c r) = let below = old-mirror c in let beside = old-mirror r in λ x. Tree n (below x) (beside x)
old-mirror (Turned was n c r) = let below = old-mirror c in let beside = old-mirror r in λ x. Tree n (below x) (beside x)
old-mirror (Gone n c r) = old-mirror r
old-mirror (Come n c r) = ap (Tree n c) (old-mirror r)

kept-mirror : (q : ℕ) (m : Merge Node) → IsUnturned m → kept_times q (mirror m) ≡ kept_times q m
kept-mirror q End h = refl
kept-mirror q (Kept n c r) h = let below = kept-mirror q c h.0 in let beside = kept-mirror q r h.1 in λ x. cond {A = ℕ} (n.key == q) 1 0 + (below x + beside x)
kept-mirror q (Turned was n c r) h = absurd h.0
kept-mirror q (Gone n c r) h = kept-mirror q r h
kept-mirror q (Come n c r) h = kept-mirror q r h

pub outside-new : (top q : ℕ) (m : Merge Node) → IsUnturned m → HasDistinctKeys (new_of m) → kept_times top m ≡ 0 → 0 < kept_times q m → is_within (new_of m) top q ≡ false
outside-new top q m h d none some =
    let is = old-mirror m in
    subst (λ f. is_within f top q ≡ false) is
    (outside-old top q (mirror m) (subst HasDistinctKeys (sym is) d) (kept-mirror top m h ∙ none) (omega (arith, kept-mirror q m h)))
