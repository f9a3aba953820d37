-- An element that is neither in an edited tree nor where the edit reaches: the document before the edit and the one after
-- it are alike around it.
use Rattle.std.proofs.Common.{◌≡◌, ◌==◌, ◌<◌, ◌≤◌, ◌+◌, ◌&&◌, ◌||◌, ℕ, Bool, true, false, cond, List, length, Option, Some, None, is_some, refl, sym, ap, subst, ◌∙◌, arith}
use Rattle.std.specs.Prelude.{IfSome, IsSomeAnd, IsTrue, nat_lt, option_and_then, unwrap_or}
use Rattle.std.proofs.lemmas.Option.{none-some, same_Some}
use Rattle.forest.specs.Forest.{Forest, Empty, Tree}
use Rattle.forest.specs.Keys.{Keyed, HasDistinctKeys, times, without_keys}
use Rattle.forest.specs.Paths.{key_at}
use Rattle.forest.specs.Spots.{Spot, keyed, IsLive, children_of, index_of, label_of, on_link, parent_of}
use Rattle.forest.specs.Changes.{put_children, put_label}
use Rattle.forest.proofs.ChangeLaws.{weigh-splice}
use Rattle.forest.proofs.PathLaws.{path-live}
use Rattle.forest.proofs.SpotLaws.{live-counted}
use Rattle.plain_types.specs.declared.attr.Attr.{Attr}
use Rattle.plain_types.specs.declared.edit.Edit.{Edit}
use Rattle.plain_types.specs.declared.edit.Edit.TheVariants.{Insert, Remove, Move, SetAttr, UnsetAttr, ReplaceSheet}
use Rattle.plain_types.specs.declared.node.Node.{Node}
use Rattle.plain_types.specs.declared.node.Node.TheVariants as node
use Rattle.plain_types.specs.declared.sheet.Features.{Features}
use Rattle.node_arena.specs.declared.change.ChildPlace.{ChildPlace}
use Rattle.node_arena.specs.declared.place_fault.PlaceFault.TheVariants.{NoPlace}
use Rattle.node_arena.specs.AtPaths.{from_position, once_out, relabelled_at, removed_at, with_tree, without_first}
use Rattle.node_arena.specs.Changes.{HasPlace, IsElementKey, alone, cut}
use Rattle.node_arena.specs.Copies.{is_element}
use Rattle.node_arena.specs.Document.{IsKeyedDocument}
use Rattle.node_arena.specs.Edits.{is_element_at, is_inner_at, no_place_unless, set_attr, unset_attr, with_attr, with_its_key, without_attr}
use Rattle.node_arena.proofs.CutLaws.{weigh-cut}
use Rattle.node_arena.proofs.EditLaws.{children-changed, relabelled-is}
use Rattle.node_arena.proofs.KeyAtLaws.{no-element-found, node-found}
use Rattle.node_arena.proofs.MoveLaws.{inner-long}
use Rattle.node_arena.proofs.PrepareLaws.{allowed-move, element-key-at, has-place, inner-parent, removed-is}
use Rattle.node_arena.proofs.TakeLaws.{branch-is, taken}
use Rattle.style_reach.specs.Ancestors.{inclusive_ancestors, is_within}
use Rattle.style_reach.specs.Laws.{Edits, IsBeyond, edited_node}
use Rattle.style_reach.specs.Reaches.{attribute_at, both, coming_at, going_at, reach_in_tree, seen_from, under}
use Rattle.style_reach.proofs.AncestorLaws.{outside}
use Rattle.style_reach.proofs.Alike.{Alike, itself, none}
use Rattle.style_reach.proofs.RowLaws.{HasElement, attribute-row, children-row, comes-among, goes-among, has-element}
use Rattle.style_reach.proofs.TakenLaws.{ancestors-rest, document-rest, label-rest, live-rest, moved-is, parent-rest, there, within-rest}
use Rattle.style_reach.proofs.TestLaws.{and-first, and-second}

-- What an allowed edit finds.

pub there-is : (b : Bool) → no_place_unless b ≡ None → b ≡ true
there-is true h = refl
there-is false h = absurd (none-some NoPlace (sym h))

-- an element at a path
pub record Found (f : Forest (Keyed Node)) (path : List ℕ) : Type 0 where
  pub key : ℕ
  pub at : key_at f path ≡ Some key
  pub element : HasElement f key

pub found-element : (f : Forest (Keyed Node)) (path : List ℕ) → HasDistinctKeys f → is_element_at path (without_keys f) ≡ true → Found f path
found-element f path d is =
    elim (key_at f path) as (λ (o : Option ℕ). key_at f path ≡ o → Found f path) [
      | None ↦ λ free. absurd (let nothing : is_element_at path (without_keys f) ≡ false = no-element-found f path free in cc)
      | Some q ↦ λ at. record { key = q; at = at; element = has-element f q (element-key-at f path q d at is) }
    ] refl

-- a node at a path that is not the root, and its place
pub record FoundChild (f : Forest (Keyed Node)) (path : List ℕ) : Type 0 where
  pub key : ℕ
  pub at : key_at f path ≡ Some key
  pub place : ChildPlace
  pub has : HasPlace f key place

some-key : (o : Option ℕ) → is_some o ≡ true → (q : ℕ) × (o ≡ Some q)
some-key None h = absurd (cc)
some-key (Some q) h = (q, refl)

pub found-child : (f : Forest (Keyed Node)) (path : List ℕ) → IsKeyedDocument f → is_inner_at path (without_keys f) ≡ true → FoundChild f path
found-child f path d is =
    let q = some-key (key_at f path) (sym (node-found f path) ∙ and-second (nat_lt 0 (length path)) _ is) in
    let live : IsLive f q.0 = path-live f path q.0 q.1 in
    elim (parent_of f q.0) as (λ (o : Option ℕ). parent_of f q.0 ≡ o → FoundChild f path) [
      | None ↦ λ free. absurd (inner-parent f path q.0 d q.1 is free)
      | Some p ↦ λ above. record { key = q.0; at = q.1; place = record { parent = p; index = index_of f q.0 }; has = has-place f q.0 (record { parent = p; index = index_of f q.0 }) d live above refl }
    ] refl

pub element-of : (f : Forest (Keyed Node)) (q : ℕ) (name : List ℕ) (attrs : List Attr) → label_of f q ≡ Some (node.Element name attrs) → IsElementKey f q
element-of f q name attrs label = subst (λ (o : Option Node). IsSomeAnd o (λ (n : Node). IsTrue (is_element n))) (sym label) refl

-- Where the reach is told.

beyond-under : (o : Option ℕ) (tree : Forest (Keyed Node)) (key top : ℕ) → IsBeyond (under o) tree key → o ≡ Some top → is_within tree top key ≡ false
beyond-under None tree key top h is = absurd (none-some top is)
beyond-under (Some other) tree key top h is = subst (λ k. is_within tree k key ≡ false) (same_Some _ _ is) h

if-some : {A : Type 0} (P : A → Type 0) (o : Option A) (x : A) → IfSome o P → o ≡ Some x → P x
if-some P None x h is = absurd (none-some x is)
if-some P (Some y) x h is = subst P (same_Some _ _ is) h

both-told : (a b : Bool) (x y z w : ℕ) (tree : Forest (Keyed Node)) (key : ℕ) → IsBeyond (both (cond a (Some x) (cond b (Some y) None)) (cond a (Some z) (cond b (Some w) None))) tree key
    → ((top : ℕ) → cond a (Some x) (cond b (Some y) None) ≡ Some top → is_within tree top key ≡ false)
    × ((top : ℕ) → cond a (Some z) (cond b (Some w) None) ≡ Some top → is_within tree top key ≡ false)
both-told true b x y z w tree key h =
    ((λ top is. subst (λ k. is_within tree k key ≡ false) (same_Some x top is) h.0), (λ top is. subst (λ k. is_within tree k key ≡ false) (same_Some z top is) h.1))
both-told false true x y z w tree key h =
    ((λ top is. subst (λ k. is_within tree k key ≡ false) (same_Some y top is) h.0), (λ top is. subst (λ k. is_within tree k key ≡ false) (same_Some w top is) h.1))
both-told false false x y z w tree key h = ((λ top is. absurd (none-some top is)), (λ top is. absurd (none-some top is)))

-- The two steps of an edit: what is taken out goes, and then the rest is done.

abbrev pub between : Edit → Forest (Keyed Node) → Forest (Keyed Node)
between (Move from parent index) tree = removed_at from tree
between (Insert parent index fragment) tree = tree
between (Remove path) tree = tree
between (SetAttr path name value) tree = tree
between (UnsetAttr path name) tree = tree
between (ReplaceSheet text) tree = tree

pub record Steps (features : Features) (key : ℕ) (old mid new : Forest (Keyed Node)) : Type 0 where
  pub first : Alike features key old mid
  pub second : Alike features key mid new
  pub ancestors : inclusive_ancestors mid key ≡ inclusive_ancestors old key

module _ (features : Features) (key : ℕ) where
  not-key : (b : Bool) → cond {A = ℕ} b 1 0 ≡ 0 → b ≡ false
  not-key true h = absurd (omega arith)
  not-key false h = refl

  -- a tree comes that does not have the node of the key
  coming : (i : ℕ) (trees c : Forest (Keyed Node)) → times key (alone trees) ≡ 0 → (times key (with_tree i trees c) ≤ times key c) × (features ≡ none → Alike features key c (with_tree i trees c))
  coming i Empty c free = (omega arith, λ is. itself features key c)
  coming i (Tree m t r) c free =
      let all : cond (m.key == key) 1 0 + (times key t + 0) ≡ 0 = free in
      let grown : times key (with_tree i (Tree m t r) c) ≡ times key c + (cond (m.key == key) 1 0 + times key t) = weigh-splice (λ (n : Keyed Node). cond (n.key == key) 1 0) i m t c in
      (omega arith, λ is. comes-among features key i m t c is (record { node_is = not-key (m.key == key) (omega arith); children_are = omega arith }))

  alone-few : (trees : Forest (Keyed Node)) → times key (alone trees) ≤ times key trees
  alone-few Empty = omega arith
  alone-few (Tree m t r) = omega arith

  -- a node comes among the children of an element
  comes-in : (f : Forest (Keyed Node)) (i : ℕ) (trees : Forest (Keyed Node)) (p : ℕ) (e : HasElement f p) → IsKeyedDocument f → IsLive f key → times key (alone trees) ≡ 0
      → ((top : ℕ) → seen_from features f p ≡ Some top → is_within f top key ≡ false) → Alike features key f (put_children p (with_tree i trees (children_of f p)) f)
  comes-in f i trees p e d live free seen =
      let children : children_of f p ≡ e.spot.children = rw e.at refl in
      let row = coming i trees e.spot.children free in
      rw children (children-row features key f d live p e (with_tree i trees e.spot.children) row.0 row.1 seen)

  -- a node goes from among them
  goes-from : (f : Forest (Keyed Node)) (q : ℕ) (place : ChildPlace) → IsKeyedDocument f → HasPlace f q place → IsLive f key → is_within f q key ≡ false
      → ((top : ℕ) → seen_from features f place.parent ≡ Some top → is_within f top key ≡ false) → Alike features key f (cut place f)
  goes-from f q place d has live out seen =
      let its = taken f q place d has in
      let e = has-element f place.parent has.element in
      let same : its.above ≡ e.spot = same_Some _ _ (sym its.above_at ∙ e.at) in
      let away = outside f q key its.own d.distinct its.own_at live out in
      let fewer : times key (from_position without_first place.index its.above.children) ≤ times key its.above.children =
      omega (arith, weigh-cut (λ (n : Keyed Node). cond (n.key == key) 1 0) place.index its.above.children) in
      rw its.rest (subst (λ (s : Spot Node). Alike features key f (put_children place.parent (from_position without_first place.index s.children) f)) (sym same)
      (children-row features key f d live place.parent e (from_position without_first place.index e.spot.children)
      (subst (λ (s : Spot Node). times key (from_position without_first place.index s.children) ≤ times key s.children) same fewer)
      (λ is. subst (λ (s : Spot Node). Alike features key s.children (from_position without_first place.index s.children)) same
      (goes-among features key place.index (keyed q its.own.label) its.own.children its.own.after its.above.children its.here is (record { node_is = away.0; children_are = away.1 })))
      seen))

  -- an element gets other attributes
  relabels : (f : Forest (Keyed Node)) (path : List ℕ) (change : Node → Node) (e : Found f path) (attrs : List Attr) → IsKeyedDocument f → IsLive f key
      → change (node.Element e.element.name e.element.attrs) ≡ node.Element e.element.name attrs → is_within f e.key key ≡ false
      → IsBeyond (under (attribute_at features f path)) f key → Alike features key f (relabelled_at path (with_its_key change) f)
  relabels f path change e attrs d live new out beyond =
      let label : Some (node.Element e.element.name e.element.attrs) ≡ label_of f e.key = ap (λ l. Some l) (sym e.element.label) ∙ rw e.element.at refl in
      subst (Alike features key f) (ap (λ l. put_label e.key l f) (sym new) ∙ relabelled-is change f path e.key (node.Element e.element.name e.element.attrs) d.distinct e.at label)
      (attribute-row features key f d live e.key e.element attrs out (λ some top above. beyond-under (attribute_at features f path) f key top beyond (rw (some, e.at) above)))

  pub edit-steps : (edit : Edit) (old new : Forest (Keyed Node)) → Edits edit old new → IsLive old key → IfSome (edited_node edit old) (λ top. is_within old top key ≡ false)
      → IsBeyond (reach_in_tree features old edit) old key → Steps features key old (between edit old) new
  edit-steps (Insert parent index fragment) old new edits live out beyond =
      let d = edits.document in
      let e = found-element old parent d.distinct (and-first _ _ (there-is _ edits.allowed)) in
      let keys = edits.edited.keys in
      let none_there : times key keys.0 ≡ 0 = omega (arith, keys.2 key, live-counted old key live) in
      let at : coming_at features old parent ≡ seen_from features old e.key = ap (option_and_then (seen_from features old)) e.at in
      record {
        first = itself features key old;
        ancestors = refl;
        second =
            subst (Alike features key old) (sym (keys.3 ∙ children-changed (with_tree index keys.0) old parent e.key d.distinct e.at))
            (comes-in old index keys.0 e.key e.element d live (omega (arith, alone-few keys.0))
            (λ top is. beyond-under (coming_at features old parent) old key top beyond (at ∙ is)));
      }
  edit-steps (Remove path) old new edits live out beyond =
      let d = edits.document in
      let e = found-child old path d (there-is _ edits.allowed) in
      let at : going_at features old path ≡ seen_from features old e.place.parent = ap (λ o. option_and_then (seen_from features old) (option_and_then (parent_of old) o)) e.at ∙ ap (option_and_then (seen_from features old)) e.has.parent in
      record {
        first = itself features key old;
        ancestors = refl;
        second =
            subst (Alike features key old) (sym (edits.edited.keys ∙ removed-is old path e.key e.place d e.at e.has))
            (goes-from old e.key e.place d e.has live (if-some (λ top. is_within old top key ≡ false) _ e.key out e.at)
            (λ top is. beyond-under (going_at features old path) old key top beyond (at ∙ is)));
      }
  edit-steps (Move from parent index) old new edits live out beyond =
      let d = edits.document in
      let can = allowed-move from parent index (without_keys old) edits.allowed in
      let e = found-child old from d can.0 in
      let t = found-element old parent d.distinct can.1 in
      let q = e.key in
      let its = taken old q e.place d e.has in
      let rest = cut e.place old in
      let long : 0 < length from = inner-long from (without_keys old) can.0 in
      let out_of : is_within old q key ≡ false = if-some (λ top. is_within old top key ≡ false) _ q out e.at in
      let away = outside old q key its.own d.distinct its.own_at live out_of in
      let live_rest : IsLive rest key = live-rest old q e.place d e.has key live away.0 away.1 in
      let going : going_at features old from ≡ seen_from features old e.place.parent = ap (λ o. option_and_then (seen_from features old) (option_and_then (parent_of old) o)) e.at ∙ ap (option_and_then (seen_from features old)) e.has.parent in
      let coming : coming_at features old parent ≡ seen_from features old t.key = ap (option_and_then (seen_from features old)) t.at in
      let seen = both-told (features.siblings && features.empties) _ _ e.place.parent _ t.key old key (subst (λ o. IsBeyond (both o (seen_from features old t.key)) old key) going (subst (λ o. IsBeyond (both (going_at features old from) o) old key) coming beyond)) in
      let at_rest = there old q e.place d e.has from parent index t.key e.at t.at long can.2 in
      let live_t : IsLive rest t.key = path-live rest (once_out from parent) t.key at_rest in
      let up : parent_of rest t.key ≡ parent_of old t.key = parent-rest old q e.place d e.has t.key live_t in
      let moved_label = label-rest old q e.place d e.has from parent index t.key e.at t.at long can.2 in
      let element : HasElement rest t.key = has-element rest t.key (element-of rest t.key t.element.name t.element.attrs (moved_label ∙ (rw t.element.at (ap (λ l. Some l) t.element.label)))) in
      let same_seen : seen_from features rest t.key ≡ seen_from features old t.key =
      ap (λ o. cond (features.siblings && features.empties) (Some (unwrap_or o t.key)) (cond (features.siblings || (features.positions || features.empties)) (Some t.key) None)) up in
      let nothing : times key (alone (on_link old (Some q))) ≡ 0 = ap (times key) (branch-is old q e.place its) ∙ rw (away.0, away.1) refl in
      let gone : removed_at from old ≡ rest = removed-is old from q e.place d e.at e.has in
      record {
        ancestors = ap (λ g. inclusive_ancestors g key) gone ∙ ancestors-rest old q e.place d e.has key live_rest;
        first = subst (Alike features key old) (sym gone) (goes-from old q e.place d e.has live out_of seen.0);
        second =
            subst (λ g. Alike features key g new) (sym gone)
            (subst (Alike features key rest) (sym (edits.edited.keys ∙ moved-is old q e.place d e.has from parent index t.key e.at t.at long can.2))
            (comes-in rest index (on_link old (Some q)) t.key element (document-rest old q e.place d e.has) live_rest nothing
            (λ top is. within-rest old q e.place d e.has top key live_rest ∙ seen.1 top (sym same_seen ∙ is))));
      }
  edit-steps (SetAttr path name value) old new edits live out beyond =
      let d = edits.document in
      let e = found-element old path d.distinct (there-is _ edits.allowed) in
      record {
        first = itself features key old;
        ancestors = refl;
        second =
            subst (Alike features key old) (sym edits.edited.keys)
            (relabels old path (set_attr name value) e (with_attr name value e.element.attrs) d live refl (if-some (λ top. is_within old top key ≡ false) _ e.key out e.at) beyond);
      }
  edit-steps (UnsetAttr path name) old new edits live out beyond =
      let d = edits.document in
      let e = found-element old path d.distinct (there-is _ edits.allowed) in
      record {
        first = itself features key old;
        ancestors = refl;
        second =
            subst (Alike features key old) (sym edits.edited.keys)
            (relabels old path (unset_attr name) e (without_attr name e.element.attrs) d live refl (if-some (λ top. is_within old top key ≡ false) _ e.key out e.at) beyond);
      }
  edit-steps (ReplaceSheet text) old new edits live out beyond = absurd beyond
