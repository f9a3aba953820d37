-- What goes does not stay. Throughout, n is a node, c what is under it, r what is after it, m a merge, and k a key.
use Rattle.std.proofs.Common.{◌≡◌, ◌==◌, ◌<◌, ◌+◌, ◌||◌, ◌&&◌, ℕ, Bool, true, false, cond, Option, refl, ap, inl, inr, arith}
use Rattle.std.proofs.lemmas.Bool.{cases_Bool}
use Rattle.forest.specs.Forest.{Tree, Empty}
use Rattle.forest.specs.Keys.{HasDistinctKeys, times}
use Rattle.plain_types.specs.declared.node.Node.{Node}
use Rattle.plain_types.specs.declared.style.Style.{Style}
use Rattle.box_eval.specs.Evaluation.{style_within}
use Rattle.box_eval.specs.Starts.{no_starts}
use Rattle.merged_walk.specs.Counts.{weigh_places}
use Rattle.merged_walk.specs.Merges.{Merge, End, Kept, Turned, Gone, Come, old_of}
use Rattle.surroundings.specs.MergedLevels.{HasLeaves}
use Rattle.edit_merge.specs.EditMerges.{is_element}
use Rattle.start_reach.specs.TurnedElements.{stays}
use Rattle.styled_merge.specs.StyledMerges.{Styling, styled_merge}
use Rattle.touched_starts.proofs.IndexedDeeds.{times-styled}

module _ (k : ℕ) where
  abbrev one : Bool → ℕ
  one b = cond {A = ℕ} b 1 0

  -- how often nodes of this key go, and how often they stay
  abbrev pub gone_times : {L : Type 0} → Merge L → ℕ
  gone_times m = weigh_places (times k) (λ _. 0) m

  abbrev stay_times : Merge Node → ℕ
  stay_times End = 0
  stay_times (Kept n c r) = one (n.key == k) + (stay_times c + stay_times r)
  stay_times (Turned was n c r) = one (n.key == k) + (stay_times c + stay_times r)
  stay_times (Gone n c r) = stay_times r
  stay_times (Come n c r) = stay_times r

  own-stays : (element here below beside : Bool) (u v : ℕ) → (below ≡ true → 0 < u) → (beside ≡ true → 0 < v)
      → ((element && here) || (below || beside)) ≡ true → 0 < one here + (u + v)
  own-stays element true below beside u v under after is = omega arith
  own-stays true false true beside u v under after is = let some = under refl in omega (arith, some)
  own-stays true false false true u v under after is = let some = after refl in omega (arith, some)
  own-stays true false false false u v under after is = absurd (cc)
  own-stays false false true beside u v under after is = let some = under refl in omega (arith, some)
  own-stays false false false true u v under after is = let some = after refl in omega (arith, some)
  own-stays false false false false u v under after is = absurd (cc)

  stays-counted : (m : Merge Node) → stays is_element k m ≡ true → 0 < stay_times m
  stays-counted End is = absurd (cc)
  stays-counted (Kept n c r) is = own-stays (is_element n.label) (n.key == k) (stays is_element k c) (stays is_element k r) (stay_times c) (stay_times r) (stays-counted c) (stays-counted r) is
  stays-counted (Turned was n c r) is = own-stays (is_element n.label) (n.key == k) (stays is_element k c) (stays is_element k r) (stay_times c) (stay_times r) (stays-counted c) (stays-counted r) is
  stays-counted (Gone n c r) is = stays-counted r is
  stays-counted (Come n c r) is = stays-counted r is

  old-counted : (m : Merge Node) → HasLeaves is_element m → times k (old_of m) ≡ stay_times m + gone_times m
  old-counted End h = refl
  old-counted (Kept n c r) h = omega (arith, old-counted c h.1, old-counted r h.2)
  old-counted (Turned was n c r) h =
      let same : one (was.key == k) ≡ one (n.key == k) = ap (λ key. one (key == k)) h.2 in
      omega (arith, same, old-counted c h.3, old-counted r h.4)
  old-counted (Gone n c r) h = omega (arith, old-counted r h)
  old-counted (Come n c r) h = omega (arith, old-counted r h.2)

  -- what goes does not stay
  pub gone-not-stays : (m : Merge Node) → HasLeaves is_element m → HasDistinctKeys (old_of m) → 0 < gone_times m → stays is_element k m ≡ false
  gone-not-stays m leaves distinct goes =
      elim (cases_Bool (stays is_element k m)) [
        | inl is ↦ absurd (omega (arith, stays-counted m is, old-counted m leaves, distinct k, goes))
        | inr not ↦ not
      ]

  -- styles change no key
  pub gone-styled : (old new : Styling) (m : Merge Node) (parent : Option Style) → gone_times (styled_merge old new no_starts no_starts parent m) ≡ gone_times m
  gone-styled old new End parent = refl
  gone-styled old new (Kept n c r) parent =
      let below = gone-styled old new c (style_within old no_starts parent n.key n.label) in
      let beside = gone-styled old new r parent in
      λ i. below i + beside i
  gone-styled old new (Turned was n c r) parent =
      let below = gone-styled old new c (style_within old no_starts parent was.key was.label) in
      let beside = gone-styled old new r parent in
      λ i. below i + beside i
  gone-styled old new (Gone n c r) parent =
      let here = times-styled old k (Tree n c Empty) parent in
      let beside = gone-styled old new r parent in
      λ i. here i + beside i
  gone-styled old new (Come n c r) parent = let beside = gone-styled old new r parent in λ i. 0 + beside i
