-- The evaluation of a styled document as what is handed from node to node (our own). In an element without a box nothing
-- is handed.
use Rattle.std.specs.Prelude.{◌≡◌, ◌∷◌, ℕ, Bool, true, false, List, [], Option, Some, None, if◌then◌else◌, unwrap_or}
use Rattle.std.specs.Option.{option_eq}
use Rattle.forest.specs.Keys.{Keyed}
use Rattle.plain_types.specs.declared.box_kind.BoxKind.TheVariants as kind
use Rattle.plain_types.specs.declared.counter_style.CounterStyle.{CounterStyle}
use Rattle.counter_sets.specs.Sets.{is_by_peer}
use Rattle.box_eval.specs.declared.change.Change.{Change}
use Rattle.box_eval.specs.declared.element_record.ElementRecord.{ElementRecord}
use Rattle.box_eval.specs.declared.inputs.Start.{Start}
use Rattle.box_eval.specs.Boxes.{box_of}
use Rattle.box_eval.specs.Elements.{Handed, at_root, by_parent, entry_of}
use Rattle.box_eval.specs.Evaluation.{StyledNode, Element, Text, is_boxed, past_node, record_of, within, without_box}
use Rattle.box_eval.specs.Starts.{node_asks_for_start}
use Rattle.merged_walk.specs.Evaluators.{Asks, Evaluator}
use Rattle.surroundings.specs.declared.surroundings.Surroundings.{Surroundings}
use Rattle.surroundings.specs.declared.told.Told.{Told}
use Rattle.surroundings.specs.Surroundings.{HandsOn, IsBehindBox, IsByOther, handed_by, is_same, surroundings_of}

abbrev pub is_element : StyledNode → Bool
is_element (Element element) = true
is_element Text = false

-- what the root is handed
abbrev pub root_surroundings : Option Surroundings
root_surroundings = Some (surroundings_of at_root)

-- a box of it asks for the start of a reversed counter
abbrev pub asks_of : Keyed StyledNode → Option Surroundings → Bool
asks_of node None = false
asks_of node (Some around) = node_asks_for_start (is_boxed true node.label) node.label

-- the starts that its boxes were given
abbrev pub starts_in : Bool → StyledNode → List Start
starts_in true (Element element) = element.starts
starts_in _ label = []

abbrev pub starts_of : Keyed StyledNode → Option Surroundings → List Start
starts_of node None = []
starts_of node (Some around) = starts_in (is_boxed true node.label) node.label

module _ (table : List CounterStyle) where
  -- what a node hands to its first child
  abbrev pub inside_node : Keyed StyledNode → Option Surroundings → Option Surroundings
  inside_node node None = None
  inside_node node (Some around) =
      if is_boxed true node.label then Some (surroundings_of (within table by_parent true node.key node.label (handed_by around))) else None

  -- what it hands to the node after it
  abbrev pub past_styled : Keyed StyledNode → (handed behind : Option Surroundings) → Option Surroundings
  past_styled node None behind = None
  past_styled node (Some around) behind =
      Some (surroundings_of (past_node table by_parent (is_boxed true node.label) node.key node.label (handed_by around) (handed_by (unwrap_or behind around))))

  -- what is said of it
  abbrev pub said_in : Bool → ℕ → StyledNode → (handed behind : Handed) → ElementRecord
  said_in boxed key (Element element) handed behind = record_of table by_parent boxed key element handed behind
  said_in boxed key Text handed behind = without_box

  abbrev pub said_of : Keyed StyledNode → (handed behind : Option Surroundings) → ElementRecord
  said_of node None behind = without_box
  said_of node (Some around) behind =
      said_in (is_boxed true node.label) node.key node.label (handed_by around) (handed_by (unwrap_or behind around))

  -- what its own box does to counters
  abbrev pub own_changes_in : Bool → ℕ → StyledNode → Handed → List Change
  own_changes_in true key (Element element) handed = (entry_of table by_parent key element handed).changes
  own_changes_in _ key label handed = []

  abbrev pub own_changes_of : Keyed StyledNode → Option Surroundings → List Change
  own_changes_of node None = []
  own_changes_of node (Some around) = own_changes_in (is_boxed true node.label) node.key node.label (handed_by around)

  -- what is kept of it
  abbrev pub kept_of : Keyed StyledNode → (handed behind : Option Surroundings) → Told
  kept_of node handed behind = record {
    said = said_of node handed behind;
    walked = record { handed = handed; behind = behind };
    asks = asks_of node handed;
    starts = starts_of node handed;
    changes = own_changes_of node handed;
  }

  abbrev pub styled_evaluator : Evaluator StyledNode Told (Option Surroundings)
  styled_evaluator = record {
    is_element = is_element;
    within = inside_node;
    past = past_styled;
    kept = kept_of;
    handed_in = λ told. told.walked.handed;
    behind_in = λ told. told.walked.behind;
    is_same = option_eq is_same;
  }

-- What the calls ask for that open an element and close it.

-- no counter that it is handed was created by one of its boxes
abbrev pub opens_styled : Keyed StyledNode → (handed : Option Surroundings) → Type 0
opens_styled node None = Unit {0}
opens_styled node (Some around) = HandsOn (IsByOther node.key) around

-- what is handed on behind children: no counter that its after box created, and a box was before
pub record IsBehindChildren (key : ℕ) (around : Surroundings) : Type 0 where
  pub others : HandsOn (λ counter. is_by_peer (box_of key kind.After ∷ []) counter ≡ false) around
  pub box : IsBehindBox around

abbrev pub closes_styled : Keyed StyledNode → (handed behind : Option Surroundings) → Type 0
closes_styled node handed None = Unit {0}
closes_styled node handed (Some around) = IsBehindChildren node.key around

abbrev pub styled_asks : Asks StyledNode (Option Surroundings)
styled_asks = record { opens = opens_styled; closes = closes_styled }
