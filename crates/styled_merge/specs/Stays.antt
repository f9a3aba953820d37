-- What is the same of the elements of a merge before and after an edit (our own).
use Rattle.std.specs.Prelude.{◌≡◌, ℕ, List, Option}
use Rattle.forest.specs.Keys.{Keyed}
use Rattle.plain_types.specs.declared.box_kind.BoxKind.{BoxKind}
use Rattle.plain_types.specs.declared.node.Node.{Node}
use Rattle.plain_types.specs.declared.node.Node.TheVariants.{Element, Text}
use Rattle.plain_types.specs.declared.style.Style.{Style}
use Rattle.box_eval.specs.Boxes.{box_of}
use Rattle.box_eval.specs.Evaluation.{element_starts, style_within}
use Rattle.merged_walk.specs.Merges.{Merge, End, Kept, Turned, Gone, Come}
use Rattle.styled_merge.specs.StyledMerges.{Starting, Styling}

-- a fact of the key of a node, if it is an element
abbrev pub OfElement : (ℕ → Type 0) → ℕ → Node → Type 0
OfElement Holds key (Element name attrs) = Holds key
OfElement Holds key (Text characters) = Unit {0}

-- of each element that is kept
abbrev pub OfEachKept : (ℕ → Type 0) → Merge Node → Type 0
OfEachKept Holds End = Unit {0}
OfEachKept Holds (Kept node children after) = OfElement Holds node.key node.label × OfEachKept Holds children × OfEachKept Holds after
OfEachKept Holds (Turned was node children after) = OfEachKept Holds children × OfEachKept Holds after
OfEachKept Holds (Gone node children after) = OfEachKept Holds after
OfEachKept Holds (Come node children after) = OfEachKept Holds after

-- a fact of each node that is turned
abbrev pub OfEachTurned : ((was node : Keyed Node) → Type 0) → Merge Node → Type 0
OfEachTurned Holds End = Unit {0}
OfEachTurned Holds (Kept node children after) = OfEachTurned Holds children × OfEachTurned Holds after
OfEachTurned Holds (Turned was node children after) = Holds was node × OfEachTurned Holds children × OfEachTurned Holds after
OfEachTurned Holds (Gone node children after) = OfEachTurned Holds after
OfEachTurned Holds (Come node children after) = OfEachTurned Holds after

-- no node is turned
abbrev pub IsUnturned : Merge Node → Type 0
IsUnturned merge = OfEachTurned (λ was node. ⊥) merge

-- whatever style its parent has, the element has the same styles
abbrev pub HasSameStyle : (old new : Styling) → ℕ → Type 0
HasSameStyle old new key = (parent : Option Style) → old key parent ≡ new key parent

-- whatever style its parent has, the reversed counters that its own boxes create without a number have the same starts
abbrev pub HasSameStarts : (new : Styling) (was_start start : Starting) → ℕ → Type 0
HasSameStarts new was_start start key =
    (parent : Option Style) → element_starts was_start key (new key parent) ≡ element_starts start key (new key parent)

-- each box that it can have has the same start for every name, whatever counters the box creates
abbrev pub HasSameBoxStarts : (was_start start : Starting) → ℕ → Type 0
HasSameBoxStarts was_start start key = (kind : BoxKind) (name : List ℕ) → was_start (box_of key kind) name ≡ start (box_of key kind) name

-- whatever style its parent has, the node hands the same one on to its children
abbrev pub HandsSameStyle : (old new : Styling) (was_start start : Starting) (was node : Keyed Node) → Type 0
HandsSameStyle old new was_start start was node =
    (parent : Option Style) → style_within old was_start parent was.key was.label ≡ style_within new start parent node.key node.label

-- each element that stays has the same styles and starts, or hands the same style on
pub record StaysStyled (old new : Styling) (was_start start : Starting) (merge : Merge Node) : Type 0 where
  pub styles : OfEachKept (HasSameStyle old new) merge
  pub starts : OfEachKept (HasSameStarts new was_start start) merge
  pub turned : OfEachTurned (HandsSameStyle old new was_start start) merge
