-- A whole document comes: a walk over it may begin. Throughout, n is a node, c what is under it, and r what is after it.
use Rattle.std.proofs.Common.{◌≡◌, ◌∷◌, ℕ, List, [], Option, Some, None, refl, sym, ap, subst, ◌∙◌}
use Rattle.std.proofs.lemmas.List.Elements.{All-nil}
use Rattle.forest.specs.Forest.{Forest, Empty, Tree}
use Rattle.forest.specs.Keys.{Keyed, without_keys}
use Rattle.forest.specs.Spots.{first_key}
use Rattle.plain_types.specs.Tree.{AreSound, IsOne}
use Rattle.plain_types.specs.declared.node.Node.{Node}
use Rattle.plain_types.specs.declared.node.Node.TheVariants as node
use Rattle.plain_types.specs.declared.style.Style.{Style}
use Rattle.node_arena.specs.Document.{IsKeyedDocument}
use Rattle.node_arena.proofs.ToTree.{sound-root}
use Rattle.box_eval.specs.Evaluation.{StyledNode, styled_trees}
use Rattle.merged_walk.specs.declared.stop.Stop.{Stop}
use Rattle.merged_walk.specs.declared.stop.Way.TheVariants.{Anew}
use Rattle.merged_walk.specs.Entries.{Holds}
use Rattle.merged_walk.specs.Merges.{all_come}
use Rattle.merged_walk.specs.Stops.{stops_of}
use Rattle.merged_walk.proofs.MergeLaws.{new-all_come, old-all_come}
use Rattle.surroundings.specs.declared.told.Told.{Told}
use Rattle.surroundings.specs.declared.walked.Walked.{Walked}
use Rattle.surroundings.specs.MergedLevels.{AreAllLed, AreLeaves}
use Rattle.surroundings.specs.StyledEvaluators.{is_element}
use Rattle.document_walk.specs.Catching.{Reading, document_of}
use Rattle.document_walk.specs.CatchingUp.{CanCatchUp, told_all}
use Rattle.document_walk.proofs.StandingLemmas.{leaves_come}

led_come : (g : Forest (Keyed StyledNode)) → AreAllLed (all_come g)
led_come Empty = tt
led_come (Tree n c r) = led_come r

no_trees : (trees : Forest (Keyed Node)) → without_keys trees ≡ Empty → trees ≡ Empty
no_trees Empty h = refl
no_trees (Tree n c r) h = absurd (let clash : Tree n.label (without_keys c) (without_keys r) ≡ Empty = h in cc)

module _ (from : Reading) where
  leaves_node : (parent : Option Style) (key : ℕ) (label : Node) (c r : Forest (Keyed Node)) → AreSound (without_keys (Tree (record { key = key; label = label }) c r))
      → ((parent : Option Style) → AreSound (without_keys c) → AreLeaves is_element (styled_trees from.style from.start parent c))
      → (AreSound (without_keys r) → AreLeaves is_element (styled_trees from.style from.start parent r))
      → AreLeaves is_element (styled_trees from.style from.start parent (Tree (record { key = key; label = label }) c r))
  leaves_node parent key (node.Element name attrs) c r h below beside =
      let its = sound-root (node.Element name attrs) c (without_keys r) h in ((λ text. absurd (cc)), below (Some (from.style key parent).own) its.1, beside its.2)
  leaves_node parent key (node.Text characters) c r h below beside =
      let its = sound-root (node.Text characters) c (without_keys r) h in ((λ _. ap (styled_trees from.style from.start parent) its.0), below parent its.1, beside its.2)

  leaves_styled : (parent : Option Style) (trees : Forest (Keyed Node)) → AreSound (without_keys trees) → AreLeaves is_element (styled_trees from.style from.start parent trees)
  leaves_styled parent Empty h = tt
  leaves_styled parent (Tree n c r) h = leaves_node parent n.key n.label c r h (λ parent h. leaves_styled parent c h) (leaves_styled parent r)

  -- the one stop is the root
  abbrev stop_at_root : Option ℕ → Stop
  stop_at_root link = record { depth = 0; link = link; way = Anew; from = None }

  stops_come : (trees : Forest (Keyed Node)) (root : ℕ) → IsOne (without_keys trees) → Some root ≡ first_key trees
      → stop_at_root (Some root) ∷ [] ≡ stops_of is_element 0 (all_come (styled_trees from.style from.start None trees))
  stops_come Empty root one first = absurd one
  stops_come (Tree n c r) root one first =
      ap (λ link. stop_at_root link ∷ []) first ∙ ap (λ r. stops_of is_element 0 (all_come (styled_trees from.style from.start None (Tree n c r)))) (sym (no_trees r one))

  -- where nothing was kept, a walk over the whole document may begin
  pub can_come : (kept : ℕ → Option Walked) (root : ℕ) (stops : List Stop) → IsKeyedDocument from.tree → Some root ≡ first_key from.tree → ((key : ℕ) → kept key ≡ None)
      → stops ≡ stop_at_root (Some root) ∷ [] → CanCatchUp from kept stops (all_come (document_of from)) (λ _. None)
  can_come kept root stops is first none stop = record {
    new = new-all_come (document_of from);
    holds = subst (λ trees. Holds (λ _. None) (told_all from trees)) (sym (old-all_come (document_of from))) (All-nil (λ (entry : ℕ × Told). None ≡ Some entry.1));
    read = none;
    stops = stop ∙ stops_come from.tree root is.is_tree.one first;
    leaves = leaves_come (document_of from) (leaves_styled None from.tree is.is_tree.sound);
    led = led_come (document_of from);
  }
