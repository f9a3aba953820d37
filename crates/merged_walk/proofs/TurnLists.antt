-- Lists as turns take them apart: what is told, and stops.
use Rattle.std.proofs.Common.{◌≡◌, ◌≤◌, Bool, true, false, cond, List, [], ◌∷◌, ◌++◌, length, refl, sym, ap, ◌∙◌, arith, append_assoc}
use Rattle.std.specs.Prelude.{not}
use Rattle.merged_walk.specs.declared.stop.Stop.{Stop}
use Rattle.merged_walk.specs.Stops.{places_ahead}
use Rattle.merged_walk.specs.WalkTurns.{IsTaken}

-- what is told below a node, of it, beside it and behind its level
pub regroup : {A : Type 0} (below own beside behind : List A) → (below ++ (own ++ beside)) ++ behind ≡ below ++ (own ++ (beside ++ behind))
regroup below own beside behind = append_assoc below (own ++ beside) behind ∙ ap (λ all. below ++ all) (append_assoc own beside behind)

pub rest_is : {A : Type 0} (x y : A) (xs ys : List A) → (x ∷ xs) ≡ (y ∷ ys) → xs ≡ ys
rest_is x y xs ys is = cc

pub none_either : {A : Type 0} (b : Bool) → cond {A = List A} b [] [] ≡ []
none_either true = refl
none_either false = refl

-- The stop of a node that is entered is taken off, and those under the node come first.
pub take_inside : (b : Bool) (stop : Stop) (stops later inside beside behind : List Stop) → (b ≡ false → inside ≡ []) → IsTaken b stop stops later
    → stops ≡ (cond b (stop ∷ inside) [] ++ beside) ++ behind → later ≡ inside ++ (beside ++ behind)
take_inside true stop stops later inside beside behind none taken is =
    rest_is stop stop later ((inside ++ beside) ++ behind) (sym taken ∙ is) ∙ append_assoc inside beside behind
take_inside false stop stops later inside beside behind none taken is = rw (none refl) (sym taken ∙ is)

-- On a level that isn't fresh the stop of a node that comes is taken off.
pub take_fresh : (fresh : Bool) (stop : Stop) (stops later beside behind : List Stop) → IsTaken (not fresh) stop stops later
    → stops ≡ cond fresh [] (stop ∷ beside) ++ behind → later ≡ cond fresh [] beside ++ behind
take_fresh true stop stops later beside behind taken is = sym taken ∙ is
take_fresh false stop stops later beside behind taken is = rest_is stop stop later (beside ++ behind) (sym taken ∙ is)

pub fewer : (b : Bool) (stop : Stop) (stops later : List Stop) → IsTaken b stop stops later → length later ≤ length stops
fewer true stop stops later taken = rw taken (omega arith)
fewer false stop stops later taken = rw taken (omega arith)

pub fewer_places : (b : Bool) (stop : Stop) (stops later : List Stop) → IsTaken b stop stops later → places_ahead later ≤ places_ahead stops
fewer_places true stop stops later taken = rw taken (omega arith)
fewer_places false stop stops later taken = rw taken (omega arith)
