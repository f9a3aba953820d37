-- What a walk over a document makes of an element.
use Rattle.std.specs.Prelude.{ℕ, ℤ, Bool, true, false, ◌&&◌, List, [], ◌++◌, Option, Some, None, cond}
use Rattle.forest.specs.Forest.{Forest}
use Rattle.forest.specs.Keys.{Keyed}
use Rattle.plain_types.specs.declared.box_id.BoxId.{BoxId}
use Rattle.plain_types.specs.declared.counter_style.CounterStyle.{CounterStyle}
use Rattle.plain_types.specs.declared.node.Node.{Node}
use Rattle.plain_types.specs.declared.style.ElementStyle.{ElementStyle}
use Rattle.plain_types.specs.declared.style.Style.{Style}
use Rattle.node_arena.specs.Nodes.{attrs_of}
use Rattle.box_eval.specs.declared.change.Change.{Change}
use Rattle.box_eval.specs.declared.element_record.ElementRecord.{ElementRecord}
use Rattle.box_eval.specs.declared.entry.Closing.{Closing}
use Rattle.box_eval.specs.declared.entry.Entry.{Entry}
use Rattle.box_eval.specs.declared.inputs.Inputs.{Inputs}
use Rattle.box_eval.specs.declared.inputs.Start.{Start}
use Rattle.box_eval.specs.Boxes.{generates_box}
use Rattle.box_eval.specs.Elements.{Handed, Styled, by_parent, closing_of, entry_of}
use Rattle.box_eval.specs.Evaluation.{changes_in, element_starts}
use Rattle.box_eval.specs.Starts.{has_starts}
use Rattle.document_walk.specs.declared.opened.Opened.{Opened}

-- What is made of an element with a box, and of one without.

-- what its boxes before its children do to counters
abbrev pub changes_before : Option Opened → List Change
changes_before None = []
changes_before (Some opened) = opened.entry.changes ++ changes_in opened.entry.before

-- whether one of its boxes asks for the start of a reversed counter
abbrev pub asks_before : Option Opened → Bool
asks_before None = false
asks_before (Some opened) = has_starts opened.starts

-- the starts that they were given
abbrev pub starts_before : Option Opened → List Start
starts_before None = []
starts_before (Some opened) = opened.starts

-- what its own box does to counters
abbrev pub own_changes : Option Opened → List Change
own_changes None = []
own_changes (Some opened) = opened.entry.changes

abbrev pub told_opened : ℕ → Entry → Closing → ElementRecord
told_opened depth entry closing = record {
  has_box = true;
  own = entry.own;
  exit = closing.exit;
  depth_before = depth;
  depth_after = closing.depth;
  marker = entry.marker;
  before = entry.before;
  after = closing.after;
}

module _ (table : List CounterStyle) (document : Forest (Keyed Node)) (key : ℕ) where
  -- the element as it is evaluated
  abbrev pub element_of : Opened → Styled
  element_of opened = record { attrs = attrs_of document key; style = opened.style; starts = opened.starts }

  -- it, from its children on, where this is handed on behind them
  abbrev pub closing_with : Opened → Handed → Closing
  closing_with opened behind = closing_of table by_parent key (element_of opened) behind

-- an element of this style, of which this was made, and what it stood on
abbrev pub opened_by : ElementStyle → Inputs × Entry → Opened
opened_by style made = record { parent = made.0.parent; depth = made.0.depth; style = style; starts = made.0.starts; entry = made.1 }

module _ (table : List CounterStyle) (style : ℕ → Option Style → ElementStyle) (start : BoxId → List ℕ → ℤ) (document : Forest (Keyed Node)) where
  -- an element with a box, as far as its children come, where its parent has this style and it is handed this
  abbrev pub opened_with : ℕ → Option Style → Handed → Opened
  opened_with key parent handed =
      let styles = style key parent in
      let starts = element_starts start key styles in
      record {
        parent = handed.parent;
        depth = handed.depth;
        style = styles;
        starts = starts;
        entry = entry_of table by_parent key (record { attrs = attrs_of document key; style = styles; starts = starts }) handed;
      }

  -- an element, where its parent has a box or not
  abbrev pub opened_in : Bool → ℕ → Option Style → Handed → Option Opened
  opened_in boxed key parent handed = cond (boxed && generates_box (style key parent)) (Some (opened_with key parent handed)) None
