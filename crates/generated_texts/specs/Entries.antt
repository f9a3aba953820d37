-- What is kept of a document's elements: their counters and depths, and the texts of their boxes (our own).
use Rattle.std.specs.Prelude.{ℕ, List, map, option_map}
use Rattle.forest.specs.Forest.{Forest}
use Rattle.forest.specs.Keys.{Keyed}
use Rattle.plain_types.specs.declared.counter_style.CounterStyle.{CounterStyle}
use Rattle.plain_types.specs.declared.node.Node.{Node}
use Rattle.plain_types.specs.declared.sheet.Sheet.{Sheet}
use Rattle.content_eval.specs.Targets.{Known, flat_text, full_text}
use Rattle.box_eval.specs.declared.element_record.ElementRecord.{ElementRecord}
use Rattle.box_eval.specs.declared.made.Made.{Made}
use Rattle.generated_texts.specs.declared.entry.BoxText.{BoxText}
use Rattle.generated_texts.specs.declared.entry.NodeEntry.{NodeEntry}
use Rattle.generated_texts.specs.Documents.{counter_styles, document_evaluation}
use Rattle.generated_texts.specs.References.{known_targets}

module _ (table : List CounterStyle) (known : Known) where
  -- the texts of a box
  abbrev pub box_text : Made → BoxText
  box_text made = record { flat = flat_text table known made.pieces; full = full_text table known made.pieces }

  -- what is kept of an element of which this is said
  abbrev pub node_entry : ElementRecord → NodeEntry
  node_entry element = record {
    has_box = element.has_box;
    own = element.own;
    exit = element.exit;
    depth_before = element.depth_before;
    depth_after = element.depth_after;
    marker = option_map box_text element.marker;
    before = option_map box_text element.before;
    after = option_map box_text element.after;
  }

  abbrev pub node_entries : List (ℕ × ElementRecord) → List (ℕ × NodeEntry)
  node_entries records = map (λ (element : ℕ × ElementRecord). (element.0, node_entry element.1)) records

-- what is kept of the elements of a document under the author's sheet, under their keys
abbrev pub document_entries : Sheet → Forest (Keyed Node) → List (ℕ × NodeEntry)
document_entries author document =
    let table = counter_styles author in
    let records = document_evaluation author document in
    node_entries table (known_targets table document records) records
