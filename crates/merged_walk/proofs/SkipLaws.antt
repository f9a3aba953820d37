-- What is skipped: a level up to its first place, of which nothing is evaluated where it is handed the same.
-- Throughout, e is an evaluator, i what a level is handed, n a node, c what is under it, r what is after it, and m
-- a merge.
use Rattle.std.proofs.Common.{◌≡◌, ◌+◌, ◌||◌, ℕ, Bool, true, false, cond, List, [], ◌++◌, refl, sym, ap, ◌∙◌, arith, append_assoc}
use Rattle.std.specs.Prelude.{not}
use Rattle.forest.specs.Forest.{Forest}
use Rattle.forest.specs.Keys.{Keyed}
use Rattle.merged_walk.specs.Merges.{Merge, End, Kept, Turned, Gone, Come, old_of, new_of, has_place, from_place}
use Rattle.merged_walk.specs.Stops.{stops_of}
use Rattle.merged_walk.specs.Evaluators.{Asks, Evaluator, IsSound, told, past_all, told_all, AllFit, count_of_elements}
use Rattle.merged_walk.specs.Counts.{anew_count, come_count}
use Rattle.merged_walk.specs.Walks.{handed_at_place}
use Rattle.merged_walk.proofs.MergeLaws.{old-new}
use Rattle.merged_walk.proofs.CountLaws.{anew-none, weigh-none}

module _ {L K H : Type 0} (e : Evaluator L K H) where
  -- Behind what is skipped of m stands there, which is handed that. Of the front the two evaluations tell the same.
  pub record Skips (m : Merge L) (i : H) (there : Merge L) (that : H) : Type 0 where
    pub front : List (ℕ × K)
    pub new : told_all e i (new_of m) ≡ front ++ told_all e that (new_of there)
    pub old : told_all e i (old_of m) ≡ front ++ told_all e that (old_of there)
    pub new_end : past_all e i (new_of m) ≡ past_all e that (new_of there)
    pub old_end : past_all e i (old_of m) ≡ past_all e that (old_of there)
    pub anew : anew_count e i i m ≡ anew_count e that that there
    pub come : come_count e.is_element m ≡ come_count e.is_element there
    pub stops : (d : ℕ) → stops_of e.is_element d m ≡ stops_of e.is_element d there

  skips-nothing : (m : Merge L) (i : H) → Skips m i m i
  skips-nothing m i = record { front = []; new = refl; old = refl; new_end = refl; old_end = refl; anew = refl; come = refl; stops = λ d. refl }

  regroup : (x y z front rest : List (ℕ × K)) → z ≡ front ++ rest → x ++ (y ++ z) ≡ ((x ++ y) ++ front) ++ rest
  regroup x y z front rest q = sym (append_assoc x y z) ∙ ap (λ all. (x ++ y) ++ all) q ∙ sym (append_assoc (x ++ y) front rest)

  skips-tree : IsSound e → (n : Keyed L) (c r : Merge L) (i : H) (there : Merge L) (that : H) → has_place c ≡ false
      → Skips r (e.past n i (past_all e (e.within n i) (new_of c))) there that → Skips (Kept n c r) i there that
  skips-tree s n c r i there that h rest =
      let behind = past_all e (e.within n i) (new_of c) in
      let below = told_all e (e.within n i) (new_of c) in
      let same = old-new c h in
      let zero : cond {A = ℕ} (e.is_element n.label) (cond (has_place c || not (e.is_same i i)) 1 0) 0 ≡ 0 = rw (h, s.itself i) (either (e.is_element n.label)) in
      record {
        front = (below ++ told e n i behind) ++ rest.front;
        new = regroup below (told e n i behind) _ rest.front _ rest.new;
        old =
            ap (λ c. told_all e (e.within n i) c ++ (told e n i (past_all e (e.within n i) c) ++ told_all e (e.past n i (past_all e (e.within n i) c)) (old_of r))) same
            ∙ regroup below (told e n i behind) _ rest.front _ rest.old;
        new_end = rest.new_end;
        old_end = ap (λ c. past_all e (e.past n i (past_all e (e.within n i) c)) (old_of r)) same ∙ rest.old_end;
        anew =
            ap (λ o. cond {A = ℕ} (e.is_element n.label) (cond (has_place c || not (e.is_same i i)) 1 0) 0 + (anew_count e (e.within n i) (e.within n i) c + anew_count e (e.past n i behind) (e.past n i (past_all e (e.within n i) o)) r)) same
            ∙ omega (arith, zero, anew-none e s c (e.within n i) h, rest.anew);
        come = omega (arith, weigh-none (λ _. 0) (λ (g : Forest (Keyed L)). count_of_elements e.is_element g) c h, rest.come);
        stops = λ d. rw h (rest.stops d);
      }
    where
      either : (b : Bool) → cond {A = ℕ} b 0 0 ≡ 0
      either true = refl
      either false = refl

  -- what is skipped of a level that is handed this
  pub skips : IsSound e → (m : Merge L) (i : H) → Skips m i (from_place m) (handed_at_place e i m)
  skips s End i = skips-nothing End i
  skips s (Kept n c r) i =
      let rest = skips s r (e.past n i (past_all e (e.within n i) (new_of c))) in
      elim (has_place c) as (λ b. has_place c ≡ b → Skips (Kept n c r) i (cond b (Kept n c r) (from_place r)) (cond b i (handed_at_place e (e.past n i (past_all e (e.within n i) (new_of c))) r))) [
        | true ↦ λ h. skips-nothing (Kept n c r) i
        | false ↦ λ h. skips-tree s n c r i (from_place r) (handed_at_place e (e.past n i (past_all e (e.within n i) (new_of c))) r) h rest
      ] refl
  skips s (Turned was n c r) i = skips-nothing (Turned was n c r) i
  skips s (Gone n c r) i = skips-nothing (Gone n c r) i
  skips s (Come n c r) i = skips-nothing (Come n c r) i

  -- what can be opened and closed behind what is skipped
  pub fit-skips : (asks : Asks L H) (m : Merge L) (i : H) → AllFit e asks i (new_of m) → AllFit e asks (handed_at_place e i m) (new_of (from_place m))
  fit-skips asks End i fit = fit
  fit-skips asks (Kept n c r) i fit =
      elim (has_place c) as (λ b. AllFit e asks (cond b i (handed_at_place e (e.past n i (past_all e (e.within n i) (new_of c))) r)) (new_of (cond b (Kept n c r) (from_place r)))) [
        | true ↦ fit
        | false ↦ fit-skips asks r (e.past n i (past_all e (e.within n i) (new_of c))) fit.3
      ]
  fit-skips asks (Turned was n c r) i fit = fit
  fit-skips asks (Gone n c r) i fit = fit
  fit-skips asks (Come n c r) i fit = fit
