-- Laws of the reach: what stands neither in the trees that an edit changes nor in those that it reaches keeps its
-- styles.
use Rattle.std.specs.Prelude.{◌≡◌, ◌≢◌, ◌==◌, ◌||◌, ℕ, ℤ, false, List, Option, None, IsSome, IfSome}
use Rattle.forest.specs.Forest.{Forest}
use Rattle.forest.specs.Keys.{HasDistinctKeys, Keyed, without_keys}
use Rattle.forest.specs.Paths.{key_at}
use Rattle.forest.specs.Spots.{IsLive, children_of, label_of}
use Rattle.plain_types.specs.declared.box_id.BoxId.{BoxId}
use Rattle.plain_types.specs.declared.edit.Edit.{Edit}
use Rattle.plain_types.specs.declared.edit.Edit.TheVariants.{Insert, Remove, Move, SetAttr, UnsetAttr, ReplaceSheet}
use Rattle.plain_types.specs.declared.node.Node.{Node}
use Rattle.plain_types.specs.declared.sheet.Features.{Features}
use Rattle.plain_types.specs.declared.sheet.Sheet.{Sheet}
use Rattle.plain_types.specs.declared.style.Style.{Style}
use Rattle.node_arena.specs.Document.{IsKeyedDocument}
use Rattle.node_arena.specs.Edits.{IsEdited, edited_sheet, place_fault}
use Rattle.node_arena.specs.Nodes.{name_of}
use Rattle.node_arena.specs.Reversals.{is_live}
use Rattle.mini_cascade.specs.Styles.{element_style}
use Rattle.box_eval.specs.Evaluation.{styled}
use Rattle.generated_texts.specs.Documents.{agent_sheet, document_style}
use Rattle.generated_texts.specs.StyleElements.{author_sheet}
use Rattle.style_reach.specs.Ancestors.{is_within}
use Rattle.style_reach.specs.Reaches.{all_features, reach}
use Rattle.style_reach.specs.declared.extent.Reach.{Reach}
use Rattle.style_reach.specs.declared.extent.Reach.TheVariants.{Own, Under, Both, All}

-- the document allows the edit, which makes another of it
pub record Edits (edit : Edit) (old new : Forest (Keyed Node)) : Type 0 where
  pub document : IsKeyedDocument old
  pub allowed : place_fault edit (without_keys old) ≡ None
  pub edited : IsEdited edit old new

-- the node that an edit takes out, moves or addresses; what it puts in is no node of the document before it
abbrev pub edited_node : Edit → Forest (Keyed Node) → Option ℕ
edited_node (Insert parent index fragment) tree = None
edited_node (Remove path) tree = key_at tree path
edited_node (Move from parent index) tree = key_at tree from
edited_node (SetAttr path name value) tree = key_at tree path
edited_node (UnsetAttr path name) tree = key_at tree path
edited_node (ReplaceSheet text) tree = None

-- the node does not stand where an edit reaches beside the edited trees
abbrev pub IsBeyond : Reach → Forest (Keyed Node) → ℕ → Type 0
IsBeyond Own tree key = Unit {0}
IsBeyond (Under top) tree key = is_within tree top key ≡ false
IsBeyond (Both first second) tree key = (is_within tree first key ≡ false) × (is_within tree second key ≡ false)
IsBeyond All tree key = ⊥

-- an element that is neither in the edited tree nor where the edit reaches
pub record IsUntouched (features : Features) (edit : Edit) (tree : Forest (Keyed Node)) (key : ℕ) : Type 0 where
  pub element : IsSome (name_of tree key)
  pub outside : IfSome (edited_node edit tree) (λ top. is_within tree top key ≡ false)
  pub beyond : IsBeyond (reach features tree edit) tree key

-- What stands in a node is that node, and what comes under it.
abbrev pub IsWithinByChildren : Type 0
IsWithinByChildren =
    (tree : Forest (Keyed Node)) → HasDistinctKeys tree → (top key : ℕ) → IsLive tree top → IsLive tree key
    → is_within tree top key ≡ ((top == key) || is_live (children_of tree top) key)

-- Under any two sheets it has, in the edited document, the styles that it had, where its parent has the same style.
abbrev pub StylesStay : Type 0
StylesStay =
    (agent author : Sheet) (edit : Edit) (old new : Forest (Keyed Node)) (key : ℕ) → Edits edit old new
    → IsUntouched (all_features agent author) edit old key
    → (parent : Option Style) → element_style new agent author key parent ≡ element_style old agent author key parent

-- An edit that does not reach everywhere leaves the author's sheet, and with it the counter styles, as it was.
abbrev pub SheetsStay : Type 0
SheetsStay =
    (features : Features) (edit : Edit) (old new : Forest (Keyed Node)) (sheet_text : List ℕ) → Edits edit old new
    → reach features old edit ≢ All → author_sheet (edited_sheet edit sheet_text) new ≡ author_sheet sheet_text old

-- So the edited document gives it the styles that the document before gave it, with the same attributes; and the same
-- starts, where the starts of counters are the same.
abbrev pub DocumentStylesStay : Type 0
DocumentStylesStay =
    (edit : Edit) (old new : Forest (Keyed Node)) (sheet_text : List ℕ) (key : ℕ) → Edits edit old new
    → IsUntouched (all_features agent_sheet (author_sheet sheet_text old)) edit old key
    → (start : BoxId → List ℕ → ℤ)
    → label_of (styled (document_style (author_sheet (edited_sheet edit sheet_text) new) new) start new) key
    ≡ label_of (styled (document_style (author_sheet sheet_text old) old) start old) key
