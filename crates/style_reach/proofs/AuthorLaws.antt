-- An edit that does not reach everywhere leaves the author's sheet as it was.
use Rattle.std.proofs.Common.{◌≡◌, ◌≢◌, ◌<◌, ◌&&◌, ◌||◌, ℕ, Bool, true, false, cond, List, [], ◌∷◌, ◌++◌, length, Option, Some, None, refl, sym, ap, subst, ◌∙◌}
use Rattle.std.specs.Prelude.{codes, option_and_then}
use Rattle.std.specs.List.{list_any}
use Rattle.std.specs.Str.{bytes_eq}
use Rattle.std.proofs.lemmas.List.Folds.{list_any-append}
use Rattle.forest.specs.Forest.{Forest, Empty, Tree, labels}
use Rattle.forest.specs.Keys.{Keyed, without_keys}
use Rattle.forest.specs.Paths.{key_at, trees_from}
use Rattle.forest.specs.Spots.{children_of, label_of, on_link, parent_of}
use Rattle.forest.specs.Changes.{put_children, put_label}
use Rattle.forest.proofs.PathLaws.{path-live}
use Rattle.plain_types.specs.declared.attr.Attr.{Attr}
use Rattle.plain_types.specs.declared.edit.Edit.{Edit}
use Rattle.plain_types.specs.declared.edit.Edit.TheVariants.{Insert, Remove, Move, SetAttr, UnsetAttr, ReplaceSheet}
use Rattle.plain_types.specs.declared.node.Node.{Node}
use Rattle.plain_types.specs.declared.node.Node.TheVariants as node
use Rattle.plain_types.specs.declared.sheet.Features.{Features}
use Rattle.css_reader.specs.Sheets.{sheets}
use Rattle.node_arena.specs.declared.change.ChildPlace.{ChildPlace}
use Rattle.node_arena.specs.AtPaths.{from_position, once_out, relabelled_at, with_tree, without_first}
use Rattle.node_arena.specs.Changes.{HasPlace, alone, cut}
use Rattle.node_arena.specs.Document.{IsKeyedDocument}
use Rattle.node_arena.specs.Edits.{edited_sheet, set_attr, unset_attr, with_attr, with_its_key, without_attr}
use Rattle.node_arena.proofs.EditLaws.{children-changed, relabelled-is}
use Rattle.node_arena.proofs.MoveLaws.{inner-long}
use Rattle.node_arena.proofs.PrepareLaws.{allowed-move, removed-is}
use Rattle.node_arena.proofs.TakeLaws.{branch-is, taken}
use Rattle.generated_texts.specs.StyleElements.{author_sheet, style_text, style_texts}
use Rattle.style_reach.specs.Laws.{Edits, SheetsStay}
use Rattle.style_reach.specs.Reaches.{reach, reach_in_tree}
use Rattle.style_reach.specs.TouchedSheets.{have_style, holds_style, is_in_style, is_style, is_style_of, parent_at, passes, tells_language, touches_sheet}
use Rattle.style_reach.specs.declared.extent.Reach.TheVariants.{All}
use Rattle.style_reach.proofs.AttributeLaws.{set-text, unset-text}
use Rattle.style_reach.proofs.EditLaws.{Found, element-of, found-child, found-element, there-is}
use Rattle.style_reach.proofs.RowLaws.{HasElement, has-element}
use Rattle.style_reach.proofs.SheetLaws.{children-texts, coming-texts, going-texts, label-texts}
use Rattle.style_reach.proofs.TakenLaws.{ancestors-rest, document-rest, label-rest, moved-is, there}
use Rattle.style_reach.proofs.TestLaws.{and-first, or-false-first, or-false-second}
use Rattle.style_reach.proofs.Replaced.{IsReplaced, put-children, put-label}

have-alone : (f : Forest (Keyed Node)) → have_style (without_keys f) ≡ false → have_style (without_keys (alone f)) ≡ false
have-alone Empty free = refl
have-alone (Tree n c r) free =
    let inside = labels (without_keys c) in
    let first : is_style n.label ≡ false = or-false-first (is_style n.label) _ free in
    let tail : (list_any is_style inside || list_any is_style (labels (without_keys r))) ≡ false = sym (list_any-append is_style inside (labels (without_keys r))) ∙ or-false-second (is_style n.label) _ free in
    let second : list_any is_style inside ≡ false = or-false-first (list_any is_style inside) _ tail in
    ap (λ b. b || list_any is_style (inside ++ [])) first ∙ list_any-append is_style inside [] ∙ ap (λ b. b || false) second

-- what passes is told where the node is known
passes-at : (test : ℕ → Bool) (o : Option ℕ) (q : ℕ) → o ≡ Some q → passes test o ≡ false → test q ≡ false
passes-at test o q is free = sym (ap (passes test) is) ∙ free

module _ (f : Forest (Keyed Node)) (d : IsKeyedDocument f) where
  -- a tree without style elements comes among the children of an element that stands in none
  comes-texts : (p i : ℕ) (trees : Forest (Keyed Node)) (e : HasElement f p) → is_in_style f p ≡ false → have_style (without_keys (alone trees)) ≡ false
      → style_texts (put_children p (with_tree i trees (children_of f p)) f) ≡ style_texts f
  comes-texts p i trees e out free =
      let children : children_of f p ≡ e.spot.children = rw e.at refl in
      let now = with_tree i trees e.spot.children in
      rw children
      (children-texts p e.spot.label e.spot.children now (coming-texts i trees e.spot.children free) f (put_children p now f) (put-children f None [] p now e.spot d.distinct e.at) [] d.distinct out)

  -- a node goes that is none, and in which none stands
  goes-texts : (q : ℕ) (place : ChildPlace) → HasPlace f q place → is_in_style f place.parent ≡ false → holds_style f q ≡ false → style_texts (cut place f) ≡ style_texts f
  goes-texts q place has out free =
      let its = taken f q place d has in
      let gone : have_style (without_keys (alone (trees_from place.index its.above.children))) ≡ false =
      ap (λ g. have_style (without_keys (alone g))) its.here ∙ sym (ap (λ g. have_style (without_keys g)) (branch-is f q place its)) ∙ free in
      let now = from_position without_first place.index its.above.children in
      ap style_texts its.rest
      ∙ children-texts place.parent its.above.label its.above.children now (going-texts place.index its.above.children gone) f (put_children place.parent now f)
      (put-children f None [] place.parent now its.above d.distinct its.above_at) [] d.distinct out

  -- an element gets other attributes, and its text stays
  relabels-texts : (path : List ℕ) (change : Node → Node) (e : Found f path) (attrs : List Attr) → change (node.Element e.element.name e.element.attrs) ≡ node.Element e.element.name attrs
      → ((c : Forest (Keyed Node)) → style_text (node.Element e.element.name attrs) c ≡ style_text (node.Element e.element.name e.element.attrs) c)
      → style_texts (relabelled_at path (with_its_key change) f) ≡ style_texts f
  relabels-texts path change e attrs new same =
      let old : Node = node.Element e.element.name e.element.attrs in
      let now : Node = node.Element e.element.name attrs in
      let children = e.element.spot.children in
      let label : Some old ≡ label_of f e.key = ap (λ l. Some l) (sym e.element.label) ∙ rw e.element.at refl in
      ap style_texts (sym (relabelled-is change f path e.key old d.distinct e.at label) ∙ ap (λ l. put_label e.key l f) new)
      ∙ label-texts e.key old now children refl (same children) f (put_label e.key now f)
      (subst (λ l. IsReplaced e.key l now children children f (put_label e.key now f)) e.element.label (put-label f None [] e.key now e.element.spot d.distinct e.element.at))

  -- the addressed element does not tell of its sheet's language
  tells-not : (path name : List ℕ) (e : Found f path) → tells_language f path name ≡ false → (is_style (node.Element e.element.name e.element.attrs) && bytes_eq name (codes "type")) ≡ false
  tells-not path name e free =
      let here : passes (is_style_of f) (key_at f path) ≡ is_style (node.Element e.element.name e.element.attrs) =
      ap (passes (is_style_of f)) e.at ∙ rw e.element.at (ap is_style e.element.label) in
      ap (λ b. b && bytes_eq name (codes "type")) (sym here) ∙ free

pub texts-stay : (edit : Edit) (old new : Forest (Keyed Node)) → Edits edit old new → touches_sheet old edit ≡ false → style_texts new ≡ style_texts old
texts-stay (Insert parent index fragment) old new edits free =
    let d = edits.document in
    let e = found-element old parent d.distinct (and-first _ _ (there-is _ edits.allowed)) in
    let keys = edits.edited.keys in
    let none : have_style (without_keys keys.0) ≡ false = ap have_style keys.1 ∙ or-false-first _ _ free in
    let out = passes-at (is_in_style old) (key_at old parent) e.key e.at (or-false-second (have_style fragment) _ free) in
    ap style_texts (keys.3 ∙ children-changed (with_tree index keys.0) old parent e.key d.distinct e.at)
    ∙ comes-texts old d e.key index keys.0 e.element out (have-alone keys.0 none)
texts-stay (Remove path) old new edits free =
    let d = edits.document in
    let e = found-child old path d (there-is _ edits.allowed) in
    let above : parent_at old path ≡ Some e.place.parent = ap (option_and_then (parent_of old)) e.at ∙ e.has.parent in
    ap style_texts (edits.edited.keys ∙ removed-is old path e.key e.place d e.at e.has)
    ∙ goes-texts old d e.key e.place e.has (passes-at (is_in_style old) (parent_at old path) e.place.parent above (or-false-second (passes (holds_style old) (key_at old path)) _ free))
    (passes-at (holds_style old) (key_at old path) e.key e.at (or-false-first _ _ free))
texts-stay (Move from parent index) old new edits free =
    let d = edits.document in
    let can = allowed-move from parent index (without_keys old) edits.allowed in
    let e = found-child old from d can.0 in
    let t = found-element old parent d.distinct can.1 in
    let q = e.key in
    let rest = cut e.place old in
    let long : 0 < length from = inner-long from (without_keys old) can.0 in
    let above : parent_at old from ≡ Some e.place.parent = ap (option_and_then (parent_of old)) e.at ∙ e.has.parent in
    let later = or-false-second (passes (holds_style old) (key_at old from)) _ free in
    let none = passes-at (holds_style old) (key_at old from) q e.at (or-false-first _ _ free) in
    let left = passes-at (is_in_style old) (parent_at old from) e.place.parent above (or-false-first _ _ later) in
    let entered = passes-at (is_in_style old) (key_at old parent) t.key t.at (or-false-second (passes (is_in_style old) (parent_at old from)) _ later) in
    let live = path-live rest (once_out from parent) t.key (there old q e.place d e.has from parent index t.key e.at t.at long can.2) in
    let moved_label = label-rest old q e.place d e.has from parent index t.key e.at t.at long can.2 in
    let element = has-element rest t.key (element-of rest t.key t.element.name t.element.attrs (moved_label ∙ (rw t.element.at (ap (λ l. Some l) t.element.label)))) in
    let out : is_in_style rest t.key ≡ false = ap (list_any (λ (n : Keyed Node). is_style n.label)) (ancestors-rest old q e.place d e.has t.key live) ∙ entered in
    ap style_texts (edits.edited.keys ∙ moved-is old q e.place d e.has from parent index t.key e.at t.at long can.2)
    ∙ comes-texts rest (document-rest old q e.place d e.has) t.key index (on_link old (Some q)) element out none
    ∙ goes-texts old d q e.place e.has left none
texts-stay (SetAttr path name value) old new edits free =
    let d = edits.document in
    let e = found-element old path d.distinct (there-is _ edits.allowed) in
    ap style_texts edits.edited.keys
    ∙ relabels-texts old d path (set_attr name value) e (with_attr name value e.element.attrs) refl
    (λ c. set-text e.element.name name value e.element.attrs c (tells-not old d path name e free))
texts-stay (UnsetAttr path name) old new edits free =
    let d = edits.document in
    let e = found-element old path d.distinct (there-is _ edits.allowed) in
    ap style_texts edits.edited.keys
    ∙ relabels-texts old d path (unset_attr name) e (without_attr name e.element.attrs) refl
    (λ c. unset-text e.element.name name e.element.attrs c (tells-not old d path name e free))
texts-stay (ReplaceSheet text) old new edits free = absurd (cc)

-- only a new sheet has another text
pub sheet-stays : (edit : Edit) (tree : Forest (Keyed Node)) (sheet_text : List ℕ) → touches_sheet tree edit ≡ false → edited_sheet edit sheet_text ≡ sheet_text
sheet-stays (Insert parent index fragment) tree sheet_text free = refl
sheet-stays (Remove path) tree sheet_text free = refl
sheet-stays (Move from parent index) tree sheet_text free = refl
sheet-stays (SetAttr path name value) tree sheet_text free = refl
sheet-stays (UnsetAttr path name) tree sheet_text free = refl
sheet-stays (ReplaceSheet text) tree sheet_text free = absurd (cc)

-- an edit that touches no sheet
pub author-stays : (edit : Edit) (old new : Forest (Keyed Node)) (sheet_text : List ℕ) → Edits edit old new → touches_sheet old edit ≡ false
    → author_sheet (edited_sheet edit sheet_text) new ≡ author_sheet sheet_text old
author-stays edit old new sheet_text edits free =
    ap (λ text. sheets (text ∷ style_texts new)) (sheet-stays edit old sheet_text free) ∙ ap (λ texts. sheets (sheet_text ∷ texts)) (texts-stay edit old new edits free)

pub touches-not : (features : Features) (edit : Edit) (tree : Forest (Keyed Node)) → reach features tree edit ≢ All → touches_sheet tree edit ≡ false
touches-not features edit tree other =
    elim (touches_sheet tree edit) as (λ b. cond b All (reach_in_tree features tree edit) ≢ All → b ≡ false) [
      | true ↦ λ other. absurd (other refl)
      | false ↦ λ other. refl
    ] other

pub sheets-stay : SheetsStay
sheets-stay features edit old new sheet_text edits other = author-stays edit old new sheet_text edits (touches-not features edit old other)
