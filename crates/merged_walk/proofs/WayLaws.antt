-- The way of a path and the stops into it, step by step.
use Rattle.std.proofs.Common.{◌≡◌, ◌+◌, ℕ, suc, List, [], ◌∷◌, ◌++◌, length, ap, ◌∙◌, arith}
use Rattle.forest.specs.Forest.{Forest, Empty, Tree}
use Rattle.forest.specs.Keys.{Keyed}
use Rattle.forest.specs.Paths.{on_path, trees_from}
use Rattle.merged_walk.specs.declared.stop.Stop.{Stop}
use Rattle.merged_walk.specs.EditStops.{on_way, stop_inside, stops_into}

module _ {L : Type 0} where
  abbrev first_node : Forest (Keyed L) → List (Keyed L)
  first_node Empty = []
  first_node (Tree n c r) = n ∷ []

  -- one step more leads through the node at the path
  pub on_way-step : (path : List ℕ) (position : ℕ) (g : Forest (Keyed L)) (n : Keyed L) (c r : Forest (Keyed L)) → on_path path g ≡ Tree n c r → on_way (path ++ position ∷ []) g ≡ on_way path g ++ (n ∷ [])
  on_way-step [] position Empty n c r is = absurd (cc)
  on_way-step [] position (Tree m d s) n c r is = ap first_node is
  on_way-step (next ∷ path) position Empty n c r is = absurd (cc)
  on_way-step (next ∷ path) position (Tree m d s) n c r is = ap (λ nodes. m ∷ nodes) (on_way-step path position (trees_from next d) n c r is)

  -- and so one stop more
  pub stops_into-step : (d : ℕ) (nodes : List (Keyed L)) (n : Keyed L) → stops_into d (nodes ++ (n ∷ [])) ≡ stops_into d nodes ++ (stop_inside (d + length nodes) n.key ∷ [])
  stops_into-step d [] n = ap (λ k. stop_inside k n.key ∷ []) (omega arith)
  stops_into-step d (m ∷ nodes) n =
      ap (λ (rest : List Stop). stop_inside d m.key ∷ rest)
      (stops_into-step (suc d) nodes n ∙ ap (λ k. stops_into (suc d) nodes ++ (stop_inside k n.key ∷ [])) (omega arith))
