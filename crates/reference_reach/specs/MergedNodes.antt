-- What the merge of a document before and after an edit says of its nodes (our own).
use Rattle.std.specs.Prelude.{◌≡◌, ℕ, Bool, false, List, [], ◌∷◌, ◌++◌, Option, if◌then◌else◌, flat_map}
use Rattle.std.specs.List.{list_any}
use Rattle.std.specs.Option.{option_to_list}
use Rattle.forest.specs.Forest.{Forest, Empty, Tree, labels}
use Rattle.forest.specs.Keys.{Keyed}
use Rattle.forest.specs.Spots.{on_link}
use Rattle.plain_types.specs.declared.node.Node.{Node}
use Rattle.node_arena.specs.Changes.{alone}
use Rattle.generated_texts.specs.References.{has_id}
use Rattle.merged_walk.specs.declared.stop.Stop.{Stop}
use Rattle.merged_walk.specs.declared.stop.Way.{Way}
use Rattle.merged_walk.specs.declared.stop.Way.TheVariants.{Past, Inside, Anew}
use Rattle.merged_walk.specs.Merges.{Merge, End, Kept, Turned, Gone, Come, has_place}
use Rattle.edit_work.specs.KeyedSources.{elements_in}

-- the elements of the new document that come, are turned or have a place under them: only elements have children
abbrev pub entered_elements : Merge Node → List ℕ
entered_elements End = []
entered_elements (Kept node children after) =
    (if has_place children then node.key ∷ [] else []) ++ (entered_elements children ++ entered_elements after)
entered_elements (Turned was node children after) = node.key ∷ (entered_elements children ++ entered_elements after)
entered_elements (Gone node children after) = entered_elements after
entered_elements (Come node children after) = elements_in (Tree node children Empty) ++ entered_elements after

-- The same, told by the stops of a walk: the nodes that it goes into, and what it evaluates anew.

abbrev pub elements_by : Forest (Keyed Node) → Way → (link : Option ℕ) → List ℕ
elements_by new Past link = []
elements_by new Inside link = option_to_list link
elements_by new Anew link = elements_in (alone (on_link new link))

abbrev pub elements_at_stops : Forest (Keyed Node) → List Stop → List ℕ
elements_at_stops new stops = flat_map (λ (stop : Stop). elements_by new stop.way stop.link) stops

module _ (id : List ℕ) where
  -- a node in trees has the id
  abbrev pub is_held_in : Forest (Keyed Node) → Bool
  is_held_in trees = list_any (λ (node : Keyed Node). has_id id node.label) (labels trees)

  -- No node that goes or comes has the id. What is turned keeps its key, and has the id where it had it before.
  abbrev pub IsLeftAlone : Merge Node → Type 0
  IsLeftAlone End = Unit {0}
  IsLeftAlone (Kept node children after) = IsLeftAlone children × IsLeftAlone after
  IsLeftAlone (Turned was node children after) =
      (was.key ≡ node.key) × (has_id id was.label ≡ has_id id node.label) × IsLeftAlone children × IsLeftAlone after
  IsLeftAlone (Gone node children after) = (is_held_in (Tree node children Empty) ≡ false) × IsLeftAlone after
  IsLeftAlone (Come node children after) = (is_held_in (Tree node children Empty) ≡ false) × IsLeftAlone after
