-- The stops behind open nodes are above the level under these, and the stops of a level link to its nodes. Throughout,
-- d is a depth, n a node, c what is under it, r what is after it, m a merge, b an open node and bs those above it.
use Rattle.std.proofs.Common.{◌≡◌, ◌<◌, ◌≤◌, ◌++◌, ◌∷◌, ℕ, suc, Bool, true, false, cond, List, [], length, Some, refl, sym, ap, subst, ◌∙◌, arith, eq-eqb}
use Rattle.std.proofs.lemmas.Option.{none-some, same_Some}
use Rattle.forest.specs.Forest.{Forest, Empty, Tree}
use Rattle.forest.specs.Keys.{Keyed, times}
use Rattle.forest.specs.Spots.{first_key}
use Rattle.merged_walk.specs.declared.stop.Stop.{Stop}
use Rattle.merged_walk.specs.declared.stop.Way.TheVariants.{Past, Inside, Anew}
use Rattle.merged_walk.specs.Merges.{Merge, End, Kept, Turned, Gone, Come, new_of, has_place}
use Rattle.merged_walk.specs.Stops.{stop_at, stops_of}
use Rattle.merged_walk.specs.Walks.{Open, is_fresh, stops_behind}

-- there is no stop, or the first is above this depth
abbrev pub IsShallow : ℕ → List Stop → Type 0
IsShallow depth [] = Unit {0}
IsShallow depth (stop ∷ stops) = stop.depth < depth

shallow-below : (d k : ℕ) (stops : List Stop) → d ≤ k → IsShallow d stops → IsShallow k stops
shallow-below d k [] le h = tt
shallow-below d k (x ∷ xs) le h = omega (arith, le, h)

-- by cases on a test
pub by_test : (b : Bool) (P : Bool → Type 0) → (b ≡ true → P true) → (b ≡ false → P false) → P b
by_test true P holds fails = holds refl
by_test false P holds fails = fails refl

abbrev pub first_stop : Stop → List Stop → Stop
first_stop other [] = other
first_stop other (x ∷ xs) = x

module _ {L : Type 0} (is_element : L → Bool) where
  pub shallow-level : (d : ℕ) (m : Merge L) (rest : List Stop) → IsShallow d rest → IsShallow (suc d) (stops_of is_element d m ++ rest)
  shallow-level d End rest h = shallow-below d (suc d) rest (omega arith) h
  shallow-level d (Kept n c r) rest h =
      by_test (has_place c)
      (λ b. IsShallow (suc d) ((cond b (stop_at is_element d Inside (Kept n c r) ∷ stops_of is_element (suc d) c) [] ++ stops_of is_element d r) ++ rest))
      (λ _. omega arith) (λ _. shallow-level d r rest h)
  shallow-level d (Turned was n c r) rest h = omega arith
  shallow-level d (Gone n c r) rest h = omega arith
  shallow-level d (Come n c r) rest h = omega arith

  first-counted : (g : Forest (Keyed L)) (k : ℕ) → first_key g ≡ Some k → 0 < times k g
  first-counted Empty k h = absurd (none-some k h)
  first-counted (Tree n c r) k h = rw (eq-eqb n.key k (same_Some _ _ h)) (omega arith)

  -- where the first stop is that of the level's front, it links to the front
  links-front : (d : ℕ) (m : Merge L) (stop it : Stop) (k : ℕ) → stop ≡ it → it.link ≡ first_key (new_of m) → stop.link ≡ Some k → 0 < times k (new_of m)
  links-front d m stop it k is front link = first-counted (new_of m) k (sym front ∙ sym (ap (λ (s : Stop). s.link) is) ∙ link)

  links-kept : (d : ℕ) (n : Keyed L) (c r : Merge L) (rest stops : List Stop) (stop : Stop) (k : ℕ) (b : Bool)
      → stop ∷ stops ≡ (cond b (stop_at is_element d Inside (Kept n c r) ∷ stops_of is_element (suc d) c) [] ++ stops_of is_element d r) ++ rest
      → stop.link ≡ Some k
      → (stop ∷ stops ≡ stops_of is_element d r ++ rest → 0 < times k (new_of r))
      → 0 < times k (new_of (Kept n c r))
  links-kept d n c r rest stops stop k true is link beside =
      links-front d (Kept n c r) stop (stop_at is_element d Inside (Kept n c r)) k (ap (first_stop stop) is) refl link
  links-kept d n c r rest stops stop k false is link beside = omega (arith, beside is)

  -- the first stop of a level links to one of its nodes
  pub links_there : (d : ℕ) (m : Merge L) (rest stops : List Stop) (stop : Stop) (k : ℕ) → IsShallow d rest → stop ∷ stops ≡ stops_of is_element d m ++ rest → stop.depth ≡ d → stop.link ≡ Some k → 0 < times k (new_of m)
  links_there d End rest stops stop k low is deep link = absurd (let low' : IsShallow d (stop ∷ stops) = subst (IsShallow d) (sym is) low in omega (arith, low', deep))
  links_there d (Kept n c r) rest stops stop k low is deep link = links-kept d n c r rest stops stop k (has_place c) is link (λ is. links_there d r rest stops stop k low is deep link)
  links_there d (Turned was n c r) rest stops stop k low is deep link =
      links-front d (Turned was n c r) stop (stop_at is_element d Inside (Turned was n c r)) k (ap (first_stop stop) is) refl link
  links_there d (Gone n c r) rest stops stop k low is deep link =
      links-front d (Gone n c r) stop (stop_at is_element d Past (Gone n c r)) k (ap (first_stop stop) is) refl link
  links_there d (Come n c r) rest stops stop k low is deep link =
      links-front d (Come n c r) stop (stop_at is_element d Anew (Come n c r)) k (ap (first_stop stop) is) refl link

module _ {L H : Type 0} (is_element : L → Bool) where
  shallow-open : (b : Open L H) (bs : List (Open L H)) (fresh : Bool) → IsShallow (length bs) (stops_behind is_element bs)
      → IsShallow (suc (length bs)) (cond fresh [] (stops_of is_element (length bs) b.after) ++ stops_behind is_element bs)
  shallow-open b bs true h = shallow-below (length bs) (suc (length bs)) (stops_behind is_element bs) (omega arith) h
  shallow-open b bs false h = shallow-level is_element (length bs) b.after (stops_behind is_element bs) h

  pub shallow-behind : (bs : List (Open L H)) → IsShallow (length bs) (stops_behind is_element bs)
  shallow-behind [] = tt
  shallow-behind (b ∷ bs) = shallow-open b bs (is_fresh bs) (shallow-behind bs)
