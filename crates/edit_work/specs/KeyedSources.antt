-- A document and the text of its sheet, as they are before an edit or after it (our own).
use Rattle.std.specs.Prelude.{◌==◌, ◌+◌, ℕ, ℤ, Bool, List, [], ◌∷◌, ◌++◌, if◌then◌else◌, filter, length, not, Option}
use Rattle.std.specs.List.{filter_map, list_any}
use Rattle.std.specs.Option.{option_map_or}
use Rattle.forest.specs.Forest.{Forest, Empty, Tree}
use Rattle.forest.specs.Keys.{Keyed}
use Rattle.forest.specs.Spots.{children_of, roots}
use Rattle.plain_types.specs.declared.box_id.BoxId.{BoxId}
use Rattle.plain_types.specs.declared.counter_style.CounterStyle.{CounterStyle}
use Rattle.plain_types.specs.declared.node.Node.{Node}
use Rattle.plain_types.specs.declared.sheet.Sheet.{Sheet}
use Rattle.content_eval.specs.Targets.{reference}
use Rattle.box_eval.specs.declared.element_record.ElementRecord.{ElementRecord}
use Rattle.box_eval.specs.declared.inputs.Inputs.{Inputs}
use Rattle.box_eval.specs.declared.made.Made.{Made}
use Rattle.box_eval.specs.Evaluation.{StyledNode, all_inputs, styled}
use Rattle.box_eval.specs.Starts.{document_starts}
use Rattle.generated_texts.specs.Documents.{counter_styles, document_evaluation, document_style}
use Rattle.generated_texts.specs.References.{kept_at}
use Rattle.generated_texts.specs.StyleElements.{author_sheet}
use Rattle.edit_merge.specs.EditMerges.{is_element}

-- marker_engine's `Source` is the same without keys
pub record KeyedSource : Type 0 where
  pub tree : Forest (Keyed Node)
  pub sheet : List ℕ

-- Elements, by their keys.

abbrev pub element_key : Keyed Node → List ℕ
element_key node = if is_element node.label then node.key ∷ [] else []

-- the elements of trees, in tree order
abbrev pub elements_in : Forest (Keyed Node) → List ℕ
elements_in Empty = []
elements_in (Tree node children after) = element_key node ++ (elements_in children ++ elements_in after)

-- those of nodes side by side
abbrev pub elements_of : List (Keyed Node) → List ℕ
elements_of [] = []
elements_of (node ∷ nodes) = element_key node ++ elements_of nodes

-- the child elements of an element
abbrev pub child_elements : Forest (Keyed Node) → ℕ → List ℕ
child_elements tree key = elements_of (roots (children_of tree key))

abbrev pub is_among : List ℕ → ℕ → Bool
is_among keys key = list_any (λ other. other == key) keys

-- these, and those of the others that are not among them
abbrev pub either : (keys others : List ℕ) → List ℕ
either keys others = keys ++ filter (λ key. not (is_among keys key)) others

-- Evaluations.

module _ (source : KeyedSource) where
  abbrev pub author : Sheet
  author = author_sheet source.sheet source.tree

  abbrev pub table : List CounterStyle
  table = counter_styles author

  -- the starts of its reversed counters
  abbrev pub own_starts : BoxId → List ℕ → ℤ
  own_starts = document_starts table (document_style author source.tree) source.tree

  -- the document as it is evaluated with these starts, and the inputs of its elements
  abbrev pub styled_with : (BoxId → List ℕ → ℤ) → Forest (Keyed StyledNode)
  styled_with start = styled (document_style author source.tree) start source.tree

  abbrev pub inputs_with : (BoxId → List ℕ → ℤ) → List Inputs
  inputs_with start = all_inputs table (styled_with start)

  -- its evaluation, which is that with its own starts
  abbrev pub records : List (ℕ × ElementRecord)
  records = document_evaluation author source.tree

-- References.

-- the ids to which a box refers, once for each piece that does
abbrev pub references_in : Option Made → List (List ℕ)
references_in made = option_map_or (λ (box : Made). filter_map reference box.pieces) made []

-- the references of an element: those of its marker, its before and its after box
abbrev pub references_of : ElementRecord → List (List ℕ)
references_of element = references_in element.marker ++ (references_in element.before ++ references_in element.after)

-- those that an element of the document holds
abbrev pub references_held : KeyedSource → ℕ → List (List ℕ)
references_held source key = option_map_or references_of (kept_at (records source) key) []

-- an element weighs 1, and 1 for each reference that it holds before the edit and after it
abbrev pub weight : (before after : KeyedSource) → ℕ → ℕ
weight before after key = 1 + (length (references_held before key) + length (references_held after key))
