-- The stops where two nodes go and come again, by how their paths stand to one another.
use Rattle.std.proofs.Common.{◌≡◌, ℕ, Bool, true, false, cond, List, sym, ap, ◌∙◌}
use Rattle.forest.specs.Forest.{Forest}
use Rattle.forest.specs.Keys.{Keyed}
use Rattle.forest.specs.Paths.{path_of}
use Rattle.plain_types.specs.declared.node.Node.{Node}
use Rattle.node_arena.specs.AtPaths.{leads_into}
use Rattle.merged_walk.specs.declared.stop.Stop.{Stop}
use Rattle.merged_walk.specs.EditStops.{is_before, joined, relabelling_stops}
use Rattle.edit_merge.specs.EditMerges.{is_element}
use Rattle.edit_merge.specs.NodeStops.{stops_at_node, stops_at_nodes}

module _ (tree : Forest (Keyed Node)) (one other : ℕ) (path place : List ℕ) (path_is : path ≡ path_of tree one) (place_is : place ≡ path_of tree other) where
  abbrev chosen : (into away : Bool) → List Stop
  chosen into away =
      cond into (stops_at_node tree one) (cond away (stops_at_node tree other) (joined (is_before (path_of tree one) (path_of tree other)) (stops_at_node tree one) (stops_at_node tree other)))

  abbrev stops_on : List ℕ → List Stop
  stops_on way = relabelling_stops is_element way tree

  into-is : (b : Bool) → leads_into path place ≡ b → leads_into (path_of tree one) (path_of tree other) ≡ b
  into-is b is = (λ x. leads_into (sym path_is x) (sym place_is x)) ∙ is

  away-is : (b : Bool) → leads_into place path ≡ b → leads_into (path_of tree other) (path_of tree one) ≡ b
  away-is b is = (λ x. leads_into (sym place_is x) (sym path_is x)) ∙ is

  pub one-holds : leads_into path place ≡ true → stops_on path ≡ stops_at_nodes tree one other
  one-holds into = ap stops_on path_is ∙ sym (ap (λ b. chosen b (leads_into (path_of tree other) (path_of tree one))) (into-is true into))

  pub other-holds : leads_into path place ≡ false → leads_into place path ≡ true → stops_on place ≡ stops_at_nodes tree one other
  other-holds out into =
      ap stops_on place_is
      ∙ sym (ap (λ b. chosen b (leads_into (path_of tree other) (path_of tree one))) (into-is false out) ∙ ap (chosen false) (away-is true into))

  pub none-holds : leads_into path place ≡ false → leads_into place path ≡ false → joined (is_before path place) (stops_on path) (stops_on place) ≡ stops_at_nodes tree one other
  none-holds out away =
      (λ x. joined (is_before (path_is x) (place_is x)) (stops_on (path_is x)) (stops_on (place_is x)))
      ∙ sym (ap (λ b. chosen b (leads_into (path_of tree other) (path_of tree one))) (into-is false out) ∙ ap (chosen false) (away-is false away))
