-- The examples of the crate's page, computed: what is read by keys in the scope of a counter.
use Rattle.std.proofs.Common.{◌≡◌, ℕ, true, List, [], ◌∷◌, Option, None, refl}
use Rattle.std.specs.Prelude.{negsuc}
use Rattle.forest.specs.Forest.{Forest, Empty, Tree}
use Rattle.forest.specs.Keys.{Keyed}
use Rattle.forest.specs.Spots.{keyed}
use Rattle.plain_types.specs.declared.box_id.BoxId.{BoxId}
use Rattle.plain_types.specs.declared.box_kind.BoxKind.TheVariants as kind
use Rattle.plain_types.specs.declared.content.Content.TheVariants as content
use Rattle.plain_types.specs.declared.style.Display.TheVariants as display
use Rattle.plain_types.specs.declared.style.ListType.TheVariants as list_type
use Rattle.plain_types.specs.declared.style.Quotes.TheVariants as quotes
use Rattle.plain_types.specs.declared.style.Style.{Style}
use Rattle.plain_types.specs.declared.style_ref.StyleRef.TheVariants as style_ref
use Rattle.box_eval.specs.declared.change.Change.{Change}
use Rattle.box_eval.specs.Boxes.{box_of}
use Rattle.box_eval.specs.Evaluation.{StyledNode, Element, Text}
use Rattle.merged_walk.specs.Entries.{first_at}
use Rattle.surroundings.specs.StyledEvaluators.{root_surroundings}
use Rattle.scope_deeds.specs.Counting.{Counting, counting_in}
use Rattle.scope_deeds.specs.KeptScopes.{kept_scope}

-- Styles.

-- the counter `c`
abbrev c : List ℕ
c = 99 ∷ []

abbrev plain : Style
plain = record { display = display.Plain; content = content.Normal; resets = []; increments = []; assigns = []; list_type = list_type.Style style_ref.Nothing; quotes = quotes.Nothing }

abbrev absent : Style
absent = record plain { display = display.Absent }

-- `counter-reset: reversed(c)`
abbrev resetting : Style
resetting = record plain { resets = record { name = c; reversed = true; value = None } ∷ [] }

-- `counter-increment: c -1`
abbrev stepping : Style
stepping = record plain { increments = record { name = c; value = negsuc 0 } ∷ [] }

-- that of a pseudo-element that has a box
abbrev boxed : Style → Style
boxed style = record style { content = content.Items [] }

-- Documents.

abbrev Nodes : Type 0
Nodes = Forest (Keyed StyledNode)

abbrev element : ℕ → (own before after : Style) → (children later : Nodes) → Nodes
element key own before after children later =
    Tree (keyed key (Element (record { attrs = []; style = record { own = own; marker = plain; before = before; after = after }; starts = [] }))) children later

abbrev leaf : ℕ → Style → Nodes → Nodes
leaf key own later = element key own plain plain Empty later

abbrev text : ℕ → Nodes → Nodes
text key later = Tree (keyed key Text) Empty later

abbrev kept_of : Nodes → ℕ → Option Counting
kept_of document = first_at (counting_in [] root_surroundings document)

abbrev read : BoxId → Nodes → List Change
read creator document = kept_scope (kept_of document) creator c document

-- -1 to the counter of this box
abbrev step : BoxId → Change
step creator = record { creator = creator; name = c; event = record { by = negsuc 0; assigned = None } }

-- Two headings. The second one resets the name, and ends the first one's row.

abbrev headings : Nodes
headings = element 0 plain plain plain (leaf 1 resetting (leaf 2 stepping (leaf 3 stepping (leaf 4 resetting (leaf 5 stepping Empty))))) Empty

first-heading : read (box_of 1 kind.Element) headings ≡ step (box_of 1 kind.Element) ∷ (step (box_of 1 kind.Element) ∷ [])
first-heading = refl

second-heading : read (box_of 4 kind.Element) headings ≡ step (box_of 4 kind.Element) ∷ []
second-heading = refl

-- A before box creates the counter. A text and a child without a box are passed. The own box counts, but this counter is not there yet.

abbrev children : Nodes
children = leaf 2 stepping (text 3 (element 4 absent plain plain (leaf 5 stepping Empty) (leaf 6 stepping Empty)))

abbrev by_before : Nodes
by_before = element 1 plain (boxed resetting) (boxed stepping) children Empty

before-box : read (box_of 1 kind.Before) by_before ≡ step (box_of 1 kind.Before) ∷ (step (box_of 1 kind.Before) ∷ (step (box_of 1 kind.Before) ∷ []))
before-box = refl

abbrev counted_before : Nodes
counted_before = element 1 stepping (boxed resetting) plain (leaf 2 stepping Empty) Empty

own-box-too : read (box_of 1 kind.Before) counted_before ≡ step (box_of 1 kind.Element) ∷ (step (box_of 1 kind.Before) ∷ [])
own-box-too = refl

-- An after box creates the counter: it is read alone.

abbrev by_after : Nodes
by_after = element 1 plain plain (boxed (record resetting { increments = stepping.increments })) children Empty

after-box : read (box_of 1 kind.After) by_after ≡ step (box_of 1 kind.After) ∷ []
after-box = refl

-- The after box of the parent is the last sibling box.

abbrev by_child : Nodes
by_child = element 0 plain plain (boxed stepping) (leaf 1 resetting (leaf 2 stepping Empty)) Empty

parents-after-box : read (box_of 1 kind.Element) by_child ≡ step (box_of 1 kind.Element) ∷ (step (box_of 1 kind.Element) ∷ [])
parents-after-box = refl
