-- The example of the crate's page, computed: a figure moves behind another. And a figure is put in that holds an id which an
-- earlier one holds.
use Rattle.std.proofs.Common.{◌≡◌, ℕ, Bool, true, false, List, [], ◌∷◌, ◌++◌, Option, Some, None, codes, refl}
use Rattle.std.specs.Prelude.{filter}
use Rattle.forest.specs.Forest.{Forest, Empty, Tree}
use Rattle.forest.specs.Keys.{Keyed}
use Rattle.forest.specs.Spots.{keyed}
use Rattle.plain_types.specs.declared.content.Part.TheVariants.{After}
use Rattle.plain_types.specs.declared.edit.Edit.{Edit}
use Rattle.plain_types.specs.declared.edit.Edit.TheVariants.{Insert, Move}
use Rattle.plain_types.specs.declared.node.Node.{Node}
use Rattle.plain_types.specs.declared.node.Node.TheVariants.{Element, Text}
use Rattle.node_arena.specs.AtPaths.{inserted_at, moved}
use Rattle.content_eval.specs.declared.generated.Piece.{Piece}
use Rattle.content_eval.specs.declared.generated.Piece.TheVariants as piece
use Rattle.box_eval.specs.declared.element_record.ElementRecord.{ElementRecord}
use Rattle.generated_texts.specs.References.{first_holder}
use Rattle.edit_merge.specs.EditMerges.{edit_merge}
use Rattle.edit_work.specs.KeyedSources.{elements_in}
use Rattle.reference_reach.specs.ChangedTargets.{Evaluated, has_changed_target, has_other_target, has_referring_target, refers, refers_through}
use Rattle.reference_reach.specs.MergedNodes.{entered_elements}

-- an element, with the ids that it holds
abbrev element : ℕ → List (List ℕ) → Keyed Node
element key [] = keyed key (Element [] [])
element key (id ∷ ids) = keyed key (Element [] (record { name = codes "id"; value = id } ∷ []))

abbrev figure : ℕ → List ℕ → Forest (Keyed Node) → Forest (Keyed Node)
figure key id after = Tree (element key (id ∷ [])) Empty after

abbrev document : Forest (Keyed Node)
document =
    Tree (element 0 [])
    (Tree (element 1 (codes "r" ∷ [])) Empty
    (Tree (element 2 []) Empty
    (Tree (element 3 []) Empty
    (Tree (element 4 (codes "one" ∷ [])) (Tree (keyed 5 (Text (codes "Frame"))) Empty Empty)
    (figure 6 (codes "two") (figure 7 (codes "three") Empty))))))
    Empty

-- what is said of an element whose after box has these pieces
abbrev said_with : List Piece → ElementRecord
said_with pieces = record {
  has_box = true;
  own = [];
  exit = [];
  depth_before = 0;
  depth_after = 0;
  marker = None;
  before = None;
  after = Some (record { set = []; pieces = pieces; changes = [] });
}

-- an element that refers to the one of this url, as the three before the figures do
abbrev referring_to : ℕ → List ℕ → ℕ × ElementRecord
referring_to key url = (key, said_with (piece.TargetText url After ∷ []))

abbrev with_references : Forest (Keyed Node) → Evaluated
with_references tree = record { tree = tree; said = referring_to 1 (codes "#one") ∷ (referring_to 2 (codes "#r") ∷ (referring_to 3 (codes "#three") ∷ [])) }

abbrev before : Evaluated
before = with_references document

-- An edit that changes the elements which its merge enters and these visited ones: the elements that refer to ids with
-- changed targets, and those that refer to these.
abbrev HasReferring : Edit → Forest (Keyed Node) → (entered visited first second : List ℕ) → Type 0
HasReferring edit new entered visited first second =
    (entered_elements (edit_merge edit document new) ≡ entered)
    × (filter (refers before (with_references new) (visited ++ entered)) (elements_in new) ≡ first)
    × (filter (refers_through before (with_references new) (visited ++ entered)) (elements_in new) ≡ second)

abbrev move_figure : Edit
move_figure = Move (3 ∷ []) [] 4

abbrev with_moved : Forest (Keyed Node)
with_moved = moved (3 ∷ []) [] 4 document

the-first-figure-moves : HasReferring move_figure with_moved (0 ∷ (4 ∷ [])) (4 ∷ (6 ∷ [])) (1 ∷ []) (2 ∷ [])
the-first-figure-moves = (refl, refl, refl)

abbrev move_changes : List ℕ
move_changes = 4 ∷ (6 ∷ (0 ∷ (4 ∷ [])))

its-target-is-changed : has_changed_target before (with_references with_moved) move_changes (codes "one") ≡ true
its-target-is-changed = refl

the-second-is-changed-too : has_changed_target before (with_references with_moved) move_changes (codes "two") ≡ true
the-second-is-changed-too = refl

the-third-is-not : has_changed_target before (with_references with_moved) move_changes (codes "three") ≡ false
the-third-is-not = refl

a-referring-target : has_referring_target before (with_references with_moved) move_changes (codes "r") ≡ true
a-referring-target = refl

-- A later figure that holds an id of an earlier one is the target of none: no element's texts change, however many refer to
-- the earlier one.

abbrev put_figure : Edit
put_figure = Insert [] 6 (Tree (Element [] (record { name = codes "id"; value = codes "one" } ∷ [])) Empty Empty)

abbrev with_another : Forest (Keyed Node)
with_another = inserted_at [] 6 (figure 8 (codes "one") Empty) document

a-second-holder-comes : HasReferring put_figure with_another (0 ∷ (8 ∷ [])) (8 ∷ []) [] []
a-second-holder-comes = (refl, refl, refl)

-- An earlier one takes the target away.

abbrev put_first : Edit
put_first = Insert [] 0 (Tree (Element [] (record { name = codes "id"; value = codes "one" } ∷ [])) Empty Empty)

abbrev with_first : Forest (Keyed Node)
with_first = inserted_at [] 0 (figure 8 (codes "one") Empty) document

a-new-first-holder-comes : HasReferring put_first with_first (0 ∷ (8 ∷ [])) (8 ∷ []) (1 ∷ []) (2 ∷ [])
a-new-first-holder-comes = (refl, refl, refl)
