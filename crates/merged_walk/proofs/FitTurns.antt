-- At each turn the nodes that are left can be opened and closed with what they are handed. Throughout, e is an
-- evaluator, n a node, c what is under it, r what is after it, b an open node and bs those above it.
use Rattle.std.proofs.Common.{◌≡◌, List, sym, subst}
use Rattle.forest.specs.Forest.{Forest}
use Rattle.forest.specs.Keys.{Keyed}
use Rattle.merged_walk.specs.Merges.{Merge, End, Kept, Turned, Gone, Come, new_of}
use Rattle.merged_walk.specs.Evaluators.{Asks, Evaluator, IsSound, past_all, AllFit}
use Rattle.merged_walk.specs.Walks.{FitBehind, Fits, Open, State}
use Rattle.merged_walk.specs.WalkTurns.{WalkTurn, entering, entering_turned, entering_fresh, leaving, missing, passing, passing_fresh, skipping}
use Rattle.merged_walk.proofs.MergeLaws.{new-all_come}
use Rattle.merged_walk.proofs.SkipLaws.{fit-skips, skips}

module _ {L K H : Type 0} (e : Evaluator L K H) (asks : Asks L H) where
  fits-here : (now : State L K H) (here : Merge L) → now.here ≡ here → Fits e asks now → Fits e asks (record now { here = here })
  fits-here now here is f = subst (λ m. Fits e asks (record now { here = m })) is f

  -- behind a node of which nothing is kept the same is handed on
  fits-passed : (i x : H) (bs : List (Open L H)) (g : Forest (Keyed L)) → x ≡ i → AllFit e asks x g × FitBehind e asks bs (past_all e x g) → AllFit e asks i g × FitBehind e asks bs (past_all e i g)
  fits-passed i x bs g same h = subst (λ y. AllFit e asks y g × FitBehind e asks bs (past_all e y g)) same h

  pub fits-turn : IsSound e → (now next : State L K H) → WalkTurn e now next → Fits e asks now → Fits e asks next
  fits-turn s now next (entering n c r later spent is _ _ _ _ _) f =
      let w = fits-here now (Kept n c r) is f in record { here = w.here.1; behind = (w.here.2, w.here.3, w.behind) }
  fits-turn s now next (entering_turned was n c r later spent is _ _ _ _ _ _) f =
      let w = fits-here now (Turned was n c r) is f in record { here = w.here.1; behind = (w.here.2, w.here.3, w.behind) }
  fits-turn s now next (entering_fresh n c r later spent is _ _ _) f =
      let w = fits-here now (Come n c r) is f in
      let past = λ (g : Forest (Keyed L)). e.past n now.handed (past_all e (e.within n now.handed) g) in
      record {
        here = subst (AllFit e asks (e.within n now.handed)) (sym (new-all_come c)) w.here.1;
        behind =
            subst (λ g. asks.closes n now.handed (past_all e (e.within n now.handed) g) × AllFit e asks (past g) (new_of r) × FitBehind e asks now.above (past_all e (past g) (new_of r)))
            (sym (new-all_come c)) (w.here.2, w.here.3, w.behind);
      }
  fits-turn s now next (passing n r is text) f =
      let w = fits-here now (Kept n End r) is f in
      let rest = fits-passed now.handed _ now.above (new_of r) (s.text n now.handed (e.within n now.handed) text) (w.here.3, w.behind) in
      record { here = rest.0; behind = rest.1 }
  fits-turn s now next (passing_fresh n r later is text _) f =
      let w = fits-here now (Come n _ r) is f in
      let rest = fits-passed now.handed _ now.above (new_of r) (s.text n now.handed (e.within n now.handed) text) (w.here.3, w.behind) in
      record { here = rest.0; behind = rest.1 }
  fits-turn s now next (missing n c r stop later is _ _) f = let w = fits-here now (Gone n c r) is f in record { here = w.here; behind = w.behind }
  fits-turn s now next (skipping n c r spent is _ _ _ _) f =
      let w = fits-here now (Kept n c r) is f in
      record {
        here = fit-skips e asks (Kept n c r) now.handed w.here;
        behind = subst (FitBehind e asks now.above) (skips e s (Kept n c r) now.handed).new_end w.behind;
      }
  fits-turn s now next (leaving b bs spent above is _) f =
      let w = subst (λ bs. Fits e asks (record now { above = bs; here = End })) above (fits-here now End is f) in
      record { here = w.behind.1; behind = w.behind.2 }
