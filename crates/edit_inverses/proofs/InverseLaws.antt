-- Inverse edits are allowed, and undo.
use Rattle.std.proofs.Common.{◌≡◌, ◌&&◌, ℕ, Bool, true, false, cond, not, List, Option, Some, None, refl, sym, ap, subst, ◌∙◌}
use Rattle.forest.specs.Forest.{Forest, Empty, Tree}
use Rattle.forest.specs.Paths.{on_path, trees_from}
use Rattle.forest.specs.Changes.{splice}
use Rattle.plain_types.specs.Tree.{AreSound, IsTree}
use Rattle.plain_types.specs.declared.edit.Edit.TheVariants.{Insert, Remove, Move, SetAttr, UnsetAttr, ReplaceSheet}
use Rattle.plain_types.specs.declared.node.Node.{Node}
use Rattle.node_arena.specs.AtPaths.{inserted_at, leads_into, moved, once_out, removed_at, with_children, with_tree, without_first}
use Rattle.node_arena.specs.Changes.{alone}
use Rattle.node_arena.specs.Edits.{edited_sheet, has_room_at, is_element_at, is_inner_at, no_place_unless}
use Rattle.node_arena.specs.declared.place_fault.PlaceFault.TheVariants.{NoPlace, IntoItself}
use Rattle.node_arena.proofs.AtPathLaws.{stays}
use Rattle.same_documents.specs.Sameness.{AreSame}
use Rattle.same_documents.proofs.SameEdits.{same_refl}
use Rattle.edit_inverses.specs.Inverses.{child_at, last_position, move_back, once_in, parent_path, value_at, with_value}
use Rattle.edit_inverses.specs.Laws.{InversesAreAllowed, InversesUndo, InversesUndoSheets, IsAllowed}
use Rattle.edit_inverses.proofs.PathLaws.{child_long, not_into, out_of_in, whole_path}
use Rattle.edit_inverses.proofs.PlaceLaws.{HasElementPlace, HasInner, both_true, element_place, element_there, inner, inner_there, is_element_label, room_there, there_unless}
use Rattle.edit_inverses.proofs.SoundLaws.{above_element, sound_at, sound_beside, sound_on, sound_splice, sound_under, sound_with, sound_without}
use Rattle.edit_inverses.proofs.TreeLaws.{IsChild, inserted_removed, inserted_there, is_child, place_left, removed_inserted}
use Rattle.edit_inverses.proofs.ValueLaws.{set_allowed, set_undone, unset_allowed, unset_undone}

-- equal documents are the same
equal_same : (document other : Forest Node) → document ≡ other → AreSame document other
equal_same document other e = subst (AreSame document) e (same_refl document)

-- A tree that comes to an element.
module _ (parent : List ℕ) (index : ℕ) (x : Forest Node) (m : Node) (t s : Forest Node) (place : HasElementPlace parent index x) where
  abbrev with_it : Forest Node
  with_it = inserted_at parent index (Tree m t s) x

  sound_with_it : AreSound x → AreSound (Tree m t s) → AreSound with_it
  sound_with_it sound own =
      let first = place.place.first in
      let before : AreSound (Tree first.label first.children first.after) = subst AreSound first.is (sound_on parent x sound) in
      sound_at (with_children (with_tree index (Tree m t s))) refl parent x sound
      (rw first.is
      (sound_with first.label first.children (splice index m t first.children) first.after place.element before
      (sound_splice index m t s first.children own (sound_under first.label first.children first.after before))))

  inner_it : is_inner_at (child_at parent index) with_it ≡ true
  inner_it =
      inner_there (child_at parent index) with_it m t (trees_from index place.place.first.children) (child_long parent index) (inserted_there parent index x m t s place.place)

-- A node that goes, and the place that it leaves.
module _ (path : List ℕ) (x : Forest Node) (found : HasInner path x) where
  abbrev its_parent : List ℕ
  its_parent = parent_path path

  abbrev its_index : ℕ
  its_index = last_position path

  its_path : path ≡ child_at its_parent its_index
  its_path = whole_path path found.long

  child : IsChild its_parent its_index x found.first.label found.first.children
  child = is_child its_parent its_index x found.first.label found.first.children found.first.after (ap (λ p. on_path p x) (sym its_path) ∙ found.first.is)

  abbrev without_it : Forest Node
  without_it = removed_at path x

  sound_without_it : AreSound x → AreSound without_it
  sound_without_it sound = sound_at without_first refl path x sound (sound_without (on_path path x) (sound_on path x sound))

  left : AreSound x → HasElementPlace its_parent its_index without_it
  left sound = subst (λ p. HasElementPlace its_parent its_index (removed_at p x)) (sym its_path) there
    where
      there : HasElementPlace its_parent its_index (removed_at (child_at its_parent its_index) x)
      there = record {
        place = place_left its_parent its_index x found.first.label found.first.children child;
        element =
            above_element child.above.label child.above.children child.above.after its_index found.first.label found.first.children child.behind
            (subst AreSound child.above.is (sound_on its_parent x sound)) child.child;
      }

  -- it comes back
  back : (s : Forest Node) → inserted_at its_parent its_index (Tree found.first.label found.first.children s) without_it ≡ x
  back s =
      ap (λ p. inserted_at its_parent its_index (Tree found.first.label found.first.children s) (removed_at p x)) its_path
      ∙ inserted_removed its_parent its_index x found.first.label found.first.children child s

found_inner : (path : List ℕ) (document : Forest Node) → IsAllowed (Remove path) document → HasInner path document
found_inner path document allowed = inner path document (there_unless (is_inner_at path document) allowed.place)

found_place : (parent : List ℕ) (index : ℕ) (fragment document : Forest Node) → IsAllowed (Insert parent index fragment) document → HasElementPlace parent index document
found_place parent index fragment document allowed =
    let both = both_true (is_element_at parent document) (has_room_at parent index document) (there_unless (is_element_at parent document && has_room_at parent index document) allowed.place) in
    element_place parent index document both.0 both.1

place_allowed : (parent : List ℕ) (index : ℕ) (document : Forest Node) → HasElementPlace parent index document → (is_element_at parent document ≡ true) × (has_room_at parent index document ≡ true)
place_allowed parent index document place =
    (element_there parent document place.place.first.label place.place.first.children place.place.first.after place.place.first.is place.element, room_there parent index document place.place)

-- An insertion.

insert_allowed : (parent : List ℕ) (index : ℕ) (fragment document : Forest Node) → IsAllowed (Insert parent index fragment) document → IsAllowed (Remove (child_at parent index)) (inserted_at parent index fragment document)
insert_allowed parent index Empty document allowed = absurd allowed.inserts.one
insert_allowed parent index (Tree m t s) document allowed =
    let place = found_place parent index (Tree m t s) document allowed in record {
      sound = sound_with_it parent index document m t s place allowed.sound allowed.inserts.sound;
      inserts = tt;
      place = ap no_place_unless (inner_it parent index document m t s place);
    }

insert_undone : (parent : List ℕ) (index : ℕ) (fragment document : Forest Node) → IsAllowed (Insert parent index fragment) document → removed_at (child_at parent index) (inserted_at parent index fragment document) ≡ document
insert_undone parent index Empty document allowed = absurd allowed.inserts.one
insert_undone parent index (Tree m t s) document allowed =
    let place = found_place parent index (Tree m t s) document allowed in removed_inserted parent index document m t s place.place

-- A removal.

alone_is_tree : (n : Node) (c r : Forest Node) → AreSound (Tree n c r) → IsTree (alone (Tree n c r))
alone_is_tree n c r sound = record { one = refl; sound = sound_beside n c r Empty sound tt }

remove_allowed : (path : List ℕ) (document : Forest Node) → IsAllowed (Remove path) document → IsAllowed (Insert (parent_path path) (last_position path) (alone (on_path path document))) (removed_at path document)
remove_allowed path document allowed =
    let found = found_inner path document allowed in
    let there = place_allowed (parent_path path) (last_position path) (removed_at path document) (left path document found allowed.sound) in record {
      sound = sound_without_it path document found allowed.sound;
      inserts = rw found.first.is (alone_is_tree found.first.label found.first.children found.first.after (subst AreSound found.first.is (sound_on path document allowed.sound)));
      place = rw (there.0, there.1) refl;
    }

remove_undone : (path : List ℕ) (document : Forest Node) → IsAllowed (Remove path) document → inserted_at (parent_path path) (last_position path) (alone (on_path path document)) (removed_at path document) ≡ document
remove_undone path document allowed =
    let found = found_inner path document allowed in
    ap (λ y. inserted_at (parent_path path) (last_position path) (alone y) (removed_at path document)) found.first.is ∙ back path document found Empty

-- A move.
module _ (from parent : List ℕ) (to : ℕ) (document : Forest Node) (allowed : IsAllowed (Move from parent to) document) where
  abbrev rest : Forest Node
  rest = removed_at from document

  abbrev onto : List ℕ
  onto = once_out from parent

  abbrev new : Forest Node
  new = moved from parent to document

  abbrev there : List ℕ
  there = child_at onto to

  abbrev home : List ℕ
  home = once_in there (parent_path from)

  parts : (is_inner_at from document ≡ true) × (is_element_at parent document ≡ true) × (leads_into from parent ≡ false) × (has_room_at onto to rest ≡ true)
  parts = told (is_inner_at from document) (is_element_at parent document) (leads_into from parent) (has_room_at onto to rest) allowed.place
    where
      told : (a b c d : Bool) → cond (not (a && b)) (Some NoPlace) (cond c (Some IntoItself) (no_place_unless d)) ≡ None → (a ≡ true) × (b ≡ true) × (c ≡ false) × (d ≡ true)
      told true true false true e = (refl, refl, refl, refl)
      told true true false false e = absurd (cc)
      told true true true d e = absurd (cc)
      told true false c d e = absurd (cc)
      told false b c d e = absurd (cc)

  taken : HasInner from document
  taken = inner from document parts.0

  abbrev node : Node
  node = taken.first.label

  abbrev below : Forest Node
  below = taken.first.children

  -- the new parent is still there
  free : HasElementPlace onto to rest
  free = element_place onto to rest (ap is_element_label (stays from parent document taken.long parts.2).0 ∙ parts.1) parts.3

  abbrev whole : Forest Node
  whole = inserted_at onto to (Tree node below taken.first.after) rest

  new_is : new ≡ whole
  new_is = ap (λ y. inserted_at onto to y rest) taken.first.is

  rest_again : removed_at there new ≡ rest
  rest_again = ap (removed_at there) new_is ∙ removed_inserted onto to rest node below taken.first.after free.place

  abbrev beside : Forest Node
  beside = trees_from to free.place.first.children

  stands : on_path there new ≡ Tree node below beside
  stands = ap (on_path there) new_is ∙ inserted_there onto to rest node below taken.first.after free.place

  home_out : once_out there home ≡ parent_path from
  home_out = out_of_in there (parent_path from)

  move_undone : moved there home (last_position from) new ≡ document
  move_undone =
      ap (λ p. inserted_at p (last_position from) (on_path there new) (removed_at there new)) home_out
      ∙ ap (λ y. inserted_at (parent_path from) (last_position from) y (removed_at there new)) stands
      ∙ ap (inserted_at (parent_path from) (last_position from) (Tree node below beside)) rest_again
      ∙ back from document taken beside

  ready : (is_element_at (parent_path from) rest ≡ true) × (has_room_at (parent_path from) (last_position from) rest ≡ true)
  ready = place_allowed (parent_path from) (last_position from) rest (left from document taken allowed.sound)

  home_there : is_element_at home new ≡ true
  home_there =
      ap is_element_label (sym (stays there home new (child_long onto to) (not_into there (parent_path from) (child_long onto to))).0)
      ∙ ap (λ p. is_element_at p (removed_at there new)) home_out
      ∙ ap (is_element_at (parent_path from)) rest_again
      ∙ ready.0

  home_room : has_room_at (once_out there home) (last_position from) (removed_at there new) ≡ true
  home_room = ap (λ p. has_room_at p (last_position from) (removed_at there new)) home_out ∙ ap (has_room_at (parent_path from) (last_position from)) rest_again ∙ ready.1

  moved_there : is_inner_at there new ≡ true
  moved_there = inner_there there new node below beside (child_long onto to) stands

  move_allowed : IsAllowed (move_back from there) new
  move_allowed = record {
    sound = rw new_is (sound_with_it onto to rest node below taken.first.after free (sound_without_it from document taken allowed.sound) (subst AreSound taken.first.is (sound_on from document allowed.sound)));
    inserts = tt;
    place = rw (moved_there, home_there, not_into there (parent_path from) (child_long onto to), home_room) refl;
  }

-- All edits.

pub inverses_allowed : InversesAreAllowed
inverses_allowed (Insert parent index fragment) document sheet allowed = insert_allowed parent index fragment document allowed
inverses_allowed (Remove path) document sheet allowed = remove_allowed path document allowed
inverses_allowed (Move from parent index) document sheet allowed = move_allowed from parent index document allowed
inverses_allowed (SetAttr path name value) document sheet allowed = set_allowed path name value document allowed
inverses_allowed (UnsetAttr path name) document sheet allowed = unset_allowed path name document allowed
inverses_allowed (ReplaceSheet text) document sheet allowed = record { sound = allowed.sound; inserts = tt; place = refl }

pub inverses_undo : InversesUndo
inverses_undo (Insert parent index fragment) document sheet allowed = equal_same _ _ (insert_undone parent index fragment document allowed)
inverses_undo (Remove path) document sheet allowed = equal_same _ _ (remove_undone path document allowed)
inverses_undo (Move from parent index) document sheet allowed = equal_same _ _ (move_undone from parent index document allowed)
inverses_undo (SetAttr path name value) document sheet allowed = set_undone path name value document allowed
inverses_undo (UnsetAttr path name) document sheet allowed = unset_undone path name document allowed
inverses_undo (ReplaceSheet text) document sheet allowed = same_refl document

value_keeps_sheet : (path name : List ℕ) (had : Option (List ℕ)) (sheet : List ℕ) → edited_sheet (with_value path name had) sheet ≡ sheet
value_keeps_sheet path name None sheet = refl
value_keeps_sheet path name (Some value) sheet = refl

pub inverses_undo_sheets : InversesUndoSheets
inverses_undo_sheets (Insert parent index fragment) document sheet allowed = refl
inverses_undo_sheets (Remove path) document sheet allowed = refl
inverses_undo_sheets (Move from parent index) document sheet allowed = refl
inverses_undo_sheets (SetAttr path name value) document sheet allowed = value_keeps_sheet path name (value_at path name document) sheet
inverses_undo_sheets (UnsetAttr path name) document sheet allowed = value_keeps_sheet path name (value_at path name document) sheet
inverses_undo_sheets (ReplaceSheet text) document sheet allowed = refl
