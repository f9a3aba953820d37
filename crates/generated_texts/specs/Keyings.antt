-- Other keys for the nodes of a document (our own).
use Rattle.std.specs.Prelude.{◌≡◌, ℕ, List, map, option_map}
use Rattle.forest.specs.Forest.{Forest, map_labels}
use Rattle.forest.specs.Keys.{Keyed}
use Rattle.plain_types.specs.declared.box_id.BoxId.{BoxId}
use Rattle.plain_types.specs.declared.counter.Counter.{Counter}
use Rattle.box_eval.specs.declared.change.Change.{Change}
use Rattle.box_eval.specs.declared.element_record.ElementRecord.{ElementRecord}
use Rattle.box_eval.specs.declared.made.Made.{Made}
use Rattle.generated_texts.specs.declared.entry.NodeEntry.{NodeEntry}

-- different keys are given different ones
abbrev pub KeepsApart : (ℕ → ℕ) → Type 0
KeepsApart rekey = (one other : ℕ) → rekey one ≡ rekey other → one ≡ other

-- `rekey` gives each key the one that stands in its place.
module _ (rekey : ℕ → ℕ) where
  abbrev pub rekeyed_node : {L : Type 0} → Keyed L → Keyed L
  rekeyed_node node = record { key = rekey node.key; label = node.label }

  -- the same trees under other keys
  abbrev pub rekeyed : {L : Type 0} → Forest (Keyed L) → Forest (Keyed L)
  rekeyed trees = map_labels rekeyed_node trees

  -- boxes are told by the keys of their elements, and counters by the boxes that created them
  abbrev pub rekeyed_box : BoxId → BoxId
  rekeyed_box box = record { key = rekey box.key; kind = box.kind }

  abbrev pub rekeyed_counter : Counter → Counter
  rekeyed_counter counter = record counter { creator = rekeyed_box counter.creator }

  abbrev pub rekeyed_set : List Counter → List Counter
  rekeyed_set set = map rekeyed_counter set

  -- a counter that a box changes is told by the box that created it
  abbrev pub rekeyed_change : Change → Change
  rekeyed_change change = record change { creator = rekeyed_box change.creator }

  -- a marker, before or after box: the pieces of its text have no keys
  abbrev pub rekeyed_made : Made → Made
  rekeyed_made made = record { set = rekeyed_set made.set; pieces = made.pieces; changes = map rekeyed_change made.changes }

  -- what the evaluation says of an element
  abbrev pub rekeyed_record : ElementRecord → ElementRecord
  rekeyed_record element = record {
    has_box = element.has_box;
    own = rekeyed_set element.own;
    exit = rekeyed_set element.exit;
    depth_before = element.depth_before;
    depth_after = element.depth_after;
    marker = option_map rekeyed_made element.marker;
    before = option_map rekeyed_made element.before;
    after = option_map rekeyed_made element.after;
  }

  abbrev pub rekeyed_records : List (ℕ × ElementRecord) → List (ℕ × ElementRecord)
  rekeyed_records records = map (λ (element : ℕ × ElementRecord). (rekey element.0, rekeyed_record element.1)) records

  -- what is kept of an element: its texts have no keys
  abbrev pub rekeyed_entry : NodeEntry → NodeEntry
  rekeyed_entry entry = record entry { own = rekeyed_set entry.own; exit = rekeyed_set entry.exit }

  abbrev pub rekeyed_entries : List (ℕ × NodeEntry) → List (ℕ × NodeEntry)
  rekeyed_entries entries = map (λ (entry : ℕ × NodeEntry). (rekey entry.0, rekeyed_entry entry.1)) entries
