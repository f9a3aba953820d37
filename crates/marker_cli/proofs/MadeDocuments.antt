-- A document that is made up is plain, and stays so under its edits.
use Rattle.std.proofs.Common.{◌≡◌, ◌==◌, ◌&&◌, ◌+◌, ℕ, zero, suc, nat_lt, Bool, true, false, cond, List, [], ◌∷◌, ◌++◌, Option, Some, None, refl, sym, ap, subst, ◌∙◌, arith, codes}
use Rattle.std.specs.Fmt.{decimal}
use Rattle.forest.specs.Forest.{Forest, Empty}
use Rattle.plain_types.specs.Tree.{HasDistinctNames}
use Rattle.plain_types.specs.declared.attr.Attr.{Attr}
use Rattle.plain_types.specs.declared.edit.Edit.{Edit}
use Rattle.plain_types.specs.declared.edit.Edit.TheVariants.{Insert, Remove, Move, SetAttr, UnsetAttr, ReplaceSheet}
use Rattle.plain_types.specs.declared.node.Node.{Node}
use Rattle.node_arena.specs.AtPaths.{relabelled_at}
use Rattle.node_arena.specs.Copies.{is_element}
use Rattle.node_arena.specs.Edits.{edited, edited_sheet, no_place_unless, place_fault, set_attr}
use Rattle.node_arena.proofs.AtPathLaws.{stays}
use Rattle.node_arena.proofs.MoveLaws.{inner-long}
use Rattle.node_arena.proofs.PrepareLaws.{allowed-move}
use Rattle.edit_script.specs.Draws.{drawn, next_state, state_after}
use Rattle.edit_script.specs.Generator.{attr, document, draws_of, edit_of_kind, edits, edits_of, heading, item, item_list, item_path, kind_drawn, link, list_path, section, section_count, sections}
use Rattle.marker_cli.proofs.PlainTrees.{ArePlain, inserted_plain, part_plain, removed_plain, set_plain, unset_plain}

-- The document.

none_twice : HasDistinctNames []
none_twice = λ i j d low high. absurd (omega arith)

once_alone : (attr : Attr) → HasDistinctNames (attr ∷ [])
once_alone attr = λ i j d low high. absurd (omega arith)

item_plain : (after : Forest Node) → ArePlain after → ArePlain (item after)
item_plain after others = (record { shown = refl; unhidden = refl; unstyled = refl; distinct = none_twice }, tt, others)

heading_plain : (number : ℕ) (after : Forest Node) → ArePlain after → ArePlain (heading number after)
heading_plain number after others = (record { shown = refl; unhidden = refl; unstyled = refl; distinct = none_twice }, (refl, tt), others)

list_plain : (after : Forest Node) → ArePlain after → ArePlain (item_list after)
list_plain after others =
    (record { shown = refl; unhidden = refl; unstyled = refl; distinct = none_twice }, item_plain (item (item Empty)) (item_plain (item Empty) (item_plain Empty tt)), others)

link_plain : (target : ℕ) (after : Forest Node) → ArePlain after → ArePlain (link target after)
link_plain target after others = (
  record { shown = refl; unhidden = refl; unstyled = refl; distinct = none_twice },
  (record { shown = refl; unhidden = refl; unstyled = refl; distinct = once_alone (attr (codes "href") (codes "#s" ++ decimal target)) }, tt, tt),
  others,
)

section_plain : (number target : ℕ) (after : Forest Node) → ArePlain after → ArePlain (section number target after)
unfolding section
section_plain number target after others = (
  record { shown = refl; unhidden = refl; unstyled = refl; distinct = once_alone (attr (codes "id") (codes "s" ++ decimal number)) },
  heading_plain number (item_list (link target Empty)) (list_plain (link target Empty) (link_plain target Empty tt)),
  others,
)

sections_plain : (all left number state : ℕ) → ArePlain (sections all left number state)
unfolding sections
sections_plain all zero number state = tt
sections_plain all (suc left) number state =
    section_plain number (drawn all (next_state state)) (sections all left (number + 1) (next_state state)) (sections_plain all left (number + 1) (next_state state))

pub document_plain : (seed edits : ℕ) → ArePlain (document seed edits)
unfolding document
document_plain seed edits =
    (record { shown = refl; unhidden = refl; unstyled = refl; distinct = none_twice }, sections_plain (section_count edits) (section_count edits) 0 seed, tt)

-- The edits.

-- what an edit of such a run does
abbrev pub IsPlainEdit : Edit → Type 0
IsPlainEdit (Insert parent index fragment) = ArePlain fragment
IsPlainEdit (Remove path) = Unit {0}
IsPlainEdit (Move from parent index) = Unit {0}
IsPlainEdit (SetAttr path name value) = name ≡ codes "value"
IsPlainEdit (UnsetAttr path name) = Unit {0}
IsPlainEdit (ReplaceSheet text) = ⊥

chosen : (passes : Bool) (one other : Edit) → IsPlainEdit one → IsPlainEdit other → IsPlainEdit (cond passes one other)
chosen true one other first second = first
chosen false one other first second = second

kind_plain : (kind section place target : ℕ) → IsPlainEdit (edit_of_kind kind section place target)
kind_plain kind section place target =
    let unset = UnsetAttr (item_path section place) (codes "value") in
    let set = SetAttr (item_path section place) (codes "value") (decimal place) in
    let move = Move (item_path section place) (list_path target) 0 in
    let remove = Remove (item_path section place) in
    let insert = Insert (list_path section) place (item Empty) in
    let fifth = chosen (kind == 8) set unset refl tt in
    let fourth = chosen (kind == 7) move (cond (kind == 8) set unset) tt fifth in
    let third = chosen (nat_lt kind 7) remove (cond (kind == 7) move (cond (kind == 8) set unset)) tt fourth in
    chosen (nat_lt kind 4) insert (cond (nat_lt kind 7) remove (cond (kind == 7) move (cond (kind == 8) set unset))) (item_plain Empty tt) third

abbrev pub AreEach : (Edit → Type 0) → List Edit → Type 0
AreEach Is [] = Unit {0}
AreEach Is (edit ∷ edits) = Is edit × AreEach Is edits

edits_plain : (all left state : ℕ) → AreEach IsPlainEdit (edits all left state)
unfolding edits
edits_plain all zero state = tt
edits_plain all (suc left) state = (
  kind_plain (kind_drawn state) (drawn all (state_after 1 state)) (drawn 4 (state_after 3 state)) (drawn all (state_after 4 state)),
  edits_plain all left (state_after (draws_of (kind_drawn state)) state),
)

pub run_plain : (seed count : ℕ) → AreEach IsPlainEdit (edits_of seed count)
unfolding edits_of
run_plain seed count = edits_plain (section_count count) count (state_after (section_count count) seed)

-- What an edit leaves.

has_element : (element room : Bool) → no_place_unless (element && room) ≡ None → element ≡ true
has_element true room placed = refl
has_element false room placed = absurd (cc)

pub edited_plain : (edit : Edit) (tree : Forest Node) → IsPlainEdit edit → place_fault edit tree ≡ None → ArePlain tree → ArePlain (edited edit tree)
edited_plain (Insert parent index fragment) tree new placed plain = inserted_plain parent index fragment tree (has_element _ _ placed) new plain
edited_plain (Remove path) tree new placed plain = removed_plain path tree plain
edited_plain (Move from parent index) tree new placed plain =
    let allowed = allowed-move from parent index tree placed in
    let label = (stays from parent tree (inner-long from tree allowed.0) allowed.2).0 in
    let element = ap (λ (l : Option Node). elim l [ None ↦ false | Some node ↦ is_element node ]) label ∙ allowed.1 in
    inserted_plain _ index _ _ element (part_plain from tree plain) (removed_plain from tree plain)
edited_plain (SetAttr path name value) tree new placed plain =
    let P : List ℕ → Type 0 = λ n. ArePlain (relabelled_at path (set_attr n value) tree) in subst P (sym new) (set_plain value path tree plain)
edited_plain (UnsetAttr path name) tree new placed plain = unset_plain name path tree plain
edited_plain (ReplaceSheet text) tree new placed plain = absurd new

pub same_sheet : (edit : Edit) (sheet : List ℕ) → IsPlainEdit edit → edited_sheet edit sheet ≡ sheet
same_sheet (Insert parent index fragment) sheet new = refl
same_sheet (Remove path) sheet new = refl
same_sheet (Move from parent index) sheet new = refl
same_sheet (SetAttr path name value) sheet new = refl
same_sheet (UnsetAttr path name) sheet new = refl
same_sheet (ReplaceSheet text) sheet new = absurd new
