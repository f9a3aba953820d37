-- The elements that ids name, and what is known of them: DOM, 4.2.4 and 4.9, and CSS Generated Content 3, 2.6.
use Rattle.std.specs.Prelude.{ℕ, ◌==◌, Bool, false, List, [], Option, Some, None, codes, cond, find, flat_map, option_map, unwrap_or}
use Rattle.std.specs.Option.{option_and_then, option_map_or}
use Rattle.std.specs.Str.{bytes_eq}
use Rattle.forest.specs.Forest.{Forest, labels}
use Rattle.forest.specs.Keys.{Keyed}
use Rattle.forest.specs.Spots.{children_of}
use Rattle.plain_types.specs.declared.content.Part.{Part}
use Rattle.plain_types.specs.declared.content.Part.TheVariants.{Content, Before, After}
use Rattle.plain_types.specs.declared.counter.Counter.{Counter}
use Rattle.plain_types.specs.declared.counter_style.CounterStyle.{CounterStyle}
use Rattle.plain_types.specs.declared.node.Node.{Node}
use Rattle.plain_types.specs.Attributes.{value_of}
use Rattle.node_arena.specs.Nodes.{node_attrs, node_characters}
use Rattle.content_eval.specs.Targets.{Known, flat_text}
use Rattle.box_eval.specs.declared.element_record.ElementRecord.{ElementRecord}
use Rattle.box_eval.specs.declared.made.Made.{Made}

-- DOM, 4.9: the node is an element of this id, compared as written
abbrev pub has_id : List ℕ → Node → Bool
has_id id node = option_map_or (bytes_eq id) (value_of (codes "id") (node_attrs node)) false

-- DOM, 4.2.4: of the elements of an id, the first in tree order
abbrev pub first_holder : Forest (Keyed Node) → List ℕ → Option ℕ
first_holder document id = option_map (λ (node : Keyed Node). node.key) (find (λ (node : Keyed Node). has_id id node.label) (labels document))

-- the characters of all texts in trees, in tree order
abbrev pub characters_in : Forest (Keyed Node) → List ℕ
characters_in trees = flat_map (λ (node : Keyed Node). unwrap_or (node_characters node.label) []) (labels trees)

-- CSS Generated Content 3, 2.6.3: the characters under the element that an id names
abbrev pub known_characters : Forest (Keyed Node) → List ℕ → List ℕ
known_characters document id = option_map_or (λ key. characters_in (children_of document key)) (first_holder document id) []

-- what is kept under a key
abbrev pub kept_at : {V : Type 0} → List (ℕ × V) → ℕ → Option V
kept_at {V} kept key = option_map (λ (entry : ℕ × V). entry.1) (find (λ (entry : ℕ × V). entry.0 == key) kept)

-- the box of an element that `target-text()` asks for; its own content is no box
abbrev pub asked_box : ElementRecord → Part → Option Made
asked_box element Content = None
asked_box element Before = element.before
asked_box element After = element.after

-- What is known of the targets of a document of which this is said.
module _ (table : List CounterStyle) (document : Forest (Keyed Node)) (records : List (ℕ × ElementRecord)) where
  -- what is said of the element that an id names
  abbrev pub target_record : List ℕ → Option ElementRecord
  target_record id = option_and_then (kept_at records) (first_holder document id)

  -- 2.6: the counters of its own box, where it has one
  abbrev pub known_counters : List ℕ → Option (List Counter)
  known_counters id = option_and_then (λ (element : ElementRecord). cond element.has_box (Some element.own) None) (target_record id)

  -- what flat texts rest on: all but flat texts
  abbrev pub known_to_flat_texts : Known
  known_to_flat_texts = record { counters = known_counters; characters = known_characters document; flat = λ id part. None }

  -- and the flat texts of its boxes
  abbrev pub known_flat : List ℕ → Part → Option (List ℕ)
  known_flat id part =
      option_map (λ (made : Made). flat_text table known_to_flat_texts made.pieces)
      (option_and_then (λ (element : ElementRecord). asked_box element part) (target_record id))

  abbrev pub known_targets : Known
  known_targets = record { counters = known_counters; characters = known_characters document; flat = known_flat }
