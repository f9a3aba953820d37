-- Boxes, elements and lines.
use Rattle.std.proofs.Common.{◌≡◌, ◌+◌, ℕ, true, List, Option, Some, None, option_map, is_some, refl, arith}
use Rattle.std.specs.Option.{option_and_then, option_map_or}
use Rattle.forest.specs.Forest.{Forest, Empty, Tree, weigh}
use Rattle.forest.specs.Keys.{HasDistinctKeys, Keyed, without_keys}
use Rattle.plain_types.specs.declared.node.Node.{Node}
use Rattle.node_arena.specs.Nodes.{name_of, node_name}
use Rattle.generated_texts.specs.declared.entry.NodeEntry.{NodeEntry}
use Rattle.document_walk.specs.Elements.{element_count, one_where}
use Rattle.document_walk.proofs.ElementLemmas.{weigh-without_keys}
use Rattle.marker_engine.specs.Census.{boxes_in, lines_in}
use Rattle.marker_engine.proofs.Counts.{weigh-labels}

-- each element has an entry that says that it has its box
abbrev pub EachHasABox : (ℕ → Option NodeEntry) → Forest (Keyed Node) → Type 0
EachHasABox entry_of document = (key : ℕ) → option_map (λ (entry : NodeEntry). entry.has_box) (entry_of key) ≡ option_map (λ name. true) (name_of document key)

one_entry : (entry : Option NodeEntry) (name : Option (List ℕ)) → option_map (λ (entry : NodeEntry). entry.has_box) entry ≡ option_map (λ name. true) name
    → option_map_or boxes_in entry 0 ≡ one_where (is_some name) + option_map_or lines_in entry 0
one_entry None None same = refl
one_entry None (Some name) same = absurd (cc)
one_entry (Some entry) None same = absurd (cc)
one_entry (Some entry) (Some name) same = let has : entry.has_box ≡ true = cc in rw has refl

weigh_both : {L : Type 0} (all one other : L → ℕ) → ((label : L) → all label ≡ one label + other label) → (trees : Forest L) → weigh all trees ≡ weigh one trees + weigh other trees
weigh_both all one other each Empty = refl
weigh_both all one other each (Tree label children after) =
    let here = each label in
    let below = weigh_both all one other each children in
    let beside = weigh_both all one other each after in
    omega (arith, here, below, beside)

pub boxes_are : (entry_of : ℕ → Option NodeEntry) (document : Forest (Keyed Node)) → HasDistinctKeys document → EachHasABox entry_of document
    → weigh (λ (node : Keyed Node). option_map_or boxes_in (entry_of node.key) 0) document
    ≡ element_count (without_keys document) + weigh (λ (node : Keyed Node). option_map_or lines_in (entry_of node.key) 0) document
boxes_are entry_of document distinct each =
    let both = weigh_both (λ (node : Keyed Node). option_map_or boxes_in (entry_of node.key) 0) (λ (node : Keyed Node). one_where (is_some (name_of document node.key))) (λ (node : Keyed Node). option_map_or lines_in (entry_of node.key) 0)
    (λ node. one_entry (entry_of node.key) (name_of document node.key) (each node.key)) document in
    let named = weigh-labels (λ (label : Option Node). one_where (is_some (option_and_then node_name label))) document distinct in
    let keyless = weigh-without_keys (λ (node : Node). one_where (is_some (node_name node))) document in
    omega (arith, both, named, keyless)
