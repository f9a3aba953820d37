-- The numbers of a document, while its nodes are counted in tree order.
use Rattle.std.proofs.Common.{◌≡◌, ◌∙◌, ap, ℕ, ◌+◌, is_some, List, [], ◌∷◌, Option, None, Some, Bor, option_copied, refl, take}
use Rattle.std.specs.Option.{option_map_or}
use Rattle.forest.specs.Forest.{Forest, size}
use Rattle.forest.specs.Keys.{Keyed, keys}
use Rattle.forest.specs.Order.{place_of}
use Rattle.plain_types.specs.declared.node.Node.{Node}
use Rattle.generated_texts.specs.declared.entry.NodeEntry.{NodeEntry}
use Rattle.node_arena.specs.Nodes.{name_of}
use Rattle.marker_engine.specs.declared.census.Census.{Census}
use Rattle.document_walk.specs.Elements.{one_where}
use Rattle.marker_engine.specs.Census.{boxes_in, lines_in, saturated}

-- the numbers with one more node, of which this is kept
abbrev pub with_node : Census → Option NodeEntry → Census
with_node census entry = record {
  elements = saturated (census.elements + one_where (is_some entry));
  boxes = saturated (census.boxes + option_map_or boxes_in entry 0);
  lines = saturated (census.lines + option_map_or lines_in entry 0);
}

-- something behind a reference is something
pub some_copied : {A : Type 0} (o : Option (Bor A)) → is_some (option_copied o) ≡ is_some o
some_copied None = refl
some_copied (Some value) = refl

-- three numbers are the same one by one
pub same_numbers : (one other : Census) → one.elements ≡ other.elements → one.boxes ≡ other.boxes → one.lines ≡ other.lines → one ≡ other
same_numbers one other elements boxes lines =
    ap (λ n. record { elements = n; boxes = one.boxes; lines = one.lines }) elements
    ∙ ap (λ n. record { elements = other.elements; boxes = n; lines = one.lines }) boxes
    ∙ ap (λ n. record { elements = other.elements; boxes = other.boxes; lines = n }) lines

-- the weights of keys, added up
abbrev pub total : (ℕ → ℕ) → List ℕ → ℕ
total weight [] = 0
total weight (key ∷ rest) = weight key + total weight rest

module _ (document : Forest (Keyed Node)) where
  -- the node of this key weighs 1 where it is an element, and else nothing
  abbrev pub element_weight : ℕ → ℕ
  element_weight key = one_where (is_some (name_of document key))

  -- how many nodes come before the one at which a walk in tree order stands; at its end all of them
  abbrev pub nodes_before : Option ℕ → ℕ
  nodes_before link = option_map_or (place_of document) link (size document)

  -- the weights of these
  abbrev pub total_before : (ℕ → ℕ) → Option ℕ → ℕ
  total_before weight link = total weight (take (nodes_before link) (keys document))

  -- the numbers of these
  abbrev pub census_before : (ℕ → Option NodeEntry) → Option ℕ → Census
  census_before entry_of link = record {
    elements = saturated (total_before element_weight link);
    boxes = saturated (total_before (λ key. option_map_or boxes_in (entry_of key) 0) link);
    lines = saturated (total_before (λ key. option_map_or lines_in (entry_of key) 0) link);
  }
