-- The stops of a merge lead to nodes of its new forest.
use Rattle.std.proofs.Common.{◌≡◌, ◌==◌, ◌<◌, ◌≤◌, ℕ, suc, Bool, true, false, cond, [], ◌∷◌, ◌++◌, Option, Some, None, arith, refl, sym, subst, ap, if◌then◌else◌, eq-eqb}
use Rattle.std.specs.Prelude.{All}
use Rattle.std.proofs.lemmas.List.Elements.{All-append, All-cons, All-nil}
use Rattle.std.proofs.lemmas.Option.{none-some, same_Some}
use Rattle.forest.specs.Forest.{Forest, Empty, Tree}
use Rattle.forest.specs.Keys.{Keyed, times}
use Rattle.forest.specs.Spots.{IsLink, first_key}
use Rattle.forest.proofs.SpotLaws.{spot-some}
use Rattle.merged_walk.specs.declared.stop.Stop.{Stop}
use Rattle.merged_walk.specs.declared.stop.Way.TheVariants.{Past, Inside, Anew}
use Rattle.merged_walk.specs.Merges.{Merge, End, Kept, Turned, Gone, Come, has_place, new_of}
use Rattle.merged_walk.specs.Stops.{stop_at, stops_of}

module _ {L : Type 0} (is_element : L → Bool) (f : Forest (Keyed L)) where
  abbrev Leads : Stop → Type 0
  Leads stop = IsLink f stop.link

  first_counts : (g : Forest (Keyed L)) (k : ℕ) → first_key g ≡ Some k → 0 < times k g
  first_counts Empty k e = absurd (none-some k e)
  first_counts (Tree n c r) k e =
      let same : n.key ≡ k = same_Some n.key k e in
      let one : cond {A = ℕ} (n.key == k) 1 0 ≡ 1 = ap (λ b. cond {A = ℕ} b 1 0) (eq-eqb n.key k same) in
      omega (arith, one)

  leads : (g : Forest (Keyed L)) → ((k : ℕ) → times k g ≤ times k f) → IsLink f (first_key g)
  leads g within = by (first_key g) refl
    where
      by : (o : Option ℕ) → first_key g ≡ o → IsLink f (first_key g)
      by None e = subst (IsLink f) (sym e) tt
      by (Some k) e = subst (IsLink f) (sym e) (let some = first_counts g k e in spot-some f None [] k (omega (arith, some, within k)))

  pub stops_lead : (d : ℕ) (m : Merge L) → ((k : ℕ) → times k (new_of m) ≤ times k f) → All Leads (stops_of is_element d m)
  stops_lead d End within = All-nil Leads
  stops_lead d (Kept n c r) within =
      All-append Leads (if has_place c then stop_at is_element d Inside (Kept n c r) ∷ stops_of is_element (suc d) c else []) (stops_of is_element d r)
      (by (has_place c) (stops_lead (suc d) c (λ k. omega (arith, within k))))
      (stops_lead d r (λ k. omega (arith, within k)))
    where
      by : (b : Bool) → All Leads (stops_of is_element (suc d) c) → All Leads (if b then stop_at is_element d Inside (Kept n c r) ∷ stops_of is_element (suc d) c else [])
      by true below = All-cons Leads (stop_at is_element d Inside (Kept n c r)) (stops_of is_element (suc d) c) (leads (new_of (Kept n c r)) within) below
      by false below = All-nil Leads
  stops_lead d (Turned was n c r) within =
      All-cons Leads (stop_at is_element d Inside (Turned was n c r)) (stops_of is_element (suc d) c ++ stops_of is_element d r) (leads (new_of (Turned was n c r)) within)
      (All-append Leads (stops_of is_element (suc d) c) (stops_of is_element d r) (stops_lead (suc d) c (λ k. omega (arith, within k))) (stops_lead d r (λ k. omega (arith, within k))))
  stops_lead d (Gone n c r) within = All-cons Leads (stop_at is_element d Past (Gone n c r)) (stops_of is_element d r) (leads (new_of (Gone n c r)) within) (stops_lead d r within)
  stops_lead d (Come n c r) within =
      All-cons Leads (stop_at is_element d Anew (Come n c r)) (stops_of is_element d r) (leads (new_of (Come n c r)) within) (stops_lead d r (λ k. omega (arith, within k)))
