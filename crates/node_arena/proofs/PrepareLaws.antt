-- What prepared changes do.
use Rattle.std.proofs.Common.{◌≡◌, ℕ, true, false, IsTrue, List, Option, Some, IsSomeAnd, refl, sym, subst, ◌∙◌, ◌<◌, ◌++◌, ◌∷◌, [], length, drop, None, Vec, Global, ap, arith, Bool, not, ◌&&◌, cond, nat_le, ◌==◌, option_map, Contains, inl, inr, is_some, vec_capacity}
use Rattle.forest.specs.Forest.{Forest, Empty, Tree}
use Rattle.forest.specs.Keys.{Keyed, times, without_keys, HasDistinctKeys}
use Rattle.forest.specs.Spots.{label_of, Spot, spot_of, IsLive, parent_of, index_of, children_of, on_link, first_key, child_count_of, root_keys}
use Rattle.forest.specs.Paths.{key_at, path_of, on_path}
use Rattle.forest.specs.Changes.{put_label}
use Rattle.forest.proofs.SpotLaws.{live-spot}
use Rattle.forest.proofs.PathLaws.{path-live, parent-live, path_of-key_at, key_at-path_of, route-of_root}
use Rattle.forest.proofs.SiblingLaws.{child-index}
use Rattle.plain_types.specs.declared.attr.Attr.{Attr}
use Rattle.plain_types.specs.declared.edit.Edit.TheVariants.{SetAttr, UnsetAttr, Remove, Move, Insert}
use Rattle.plain_types.specs.declared.node.Node.{Node}
use Rattle.plain_types.specs.declared.node.Node.TheVariants.{Element, Text}
use Rattle.node_arena.specs.declared.change.Change.TheVariants.{Relabel, PutIn, TakeOut, Move as MoveChild}
use Rattle.node_arena.specs.Changes.{IsElementKey, Prepares, HasPlace, AreKeysOf, alone, cut, hung, changed, HasBodies, KeepsAside, aside, KeepsEntries, IsFreePlace}
use Rattle.node_arena.specs.Copies.{is_element}
use Rattle.node_arena.specs.Document.{Document, IsKeyedDocument}
use Rattle.node_arena.specs.Edits.{set_attr, unset_attr, with_attr, without_attr, is_element_at, is_inner_at, move_fault, has_room_at, no_place_unless, IsEdited, HasKeysApart}
use Rattle.node_arena.proofs.AtPathLaws.{removed-child, stays}
use Rattle.node_arena.proofs.AttrLaws.{distinct-with, distinct-without}
use Rattle.node_arena.proofs.EditLaws.{relabelled-is, is-edited, children-changed, removed-natural}
use Rattle.node_arena.proofs.EntryLaws.{one-tree, tree_in-is, entries-absent}
use Rattle.node_arena.proofs.HangLaws.{root-counted}
use Rattle.node_arena.proofs.KeyAtLaws.{element-found, on-map, first-map, label-found, count-found, on-link-at}
use Rattle.node_arena.proofs.MoveLaws.{inner-long, path-child}
use Rattle.node_arena.proofs.SoundLaws.{above-element}
use Rattle.node_arena.proofs.ToTree.{sound-at}
use Rattle.node_arena.specs.declared.change.ChildPlace.{ChildPlace}
use Rattle.node_arena.specs.AtPaths.{from_position, without_first, removed_at, first_label, label_at, child_count_at, leads_into, once_out, inserted_at, moved, with_tree}
use Rattle.node_arena.specs.Children.{HasRoom}
use Rattle.node_arena.specs.declared.place_fault.PlaceFault.TheVariants.{NoPlace, IntoItself}
use Rattle.node_arena.proofs.TakeLaws.{taken, weigh-taken}
use Rattle.std.proofs.lemmas.Option.{none-some}
use Rattle.std.proofs.lemmas.Bool.{leb-true, cases_lt}
use Rattle.node_arena.specs.declared.change.Change.{Change}
use Rattle.slab.specs.Slab.{Slab, get}
use Rattle.plain_types.specs.Tree.{AreSound}
use Rattle.node_arena.specs.declared.entry.Entry.{Entry}
use Rattle.node_arena.specs.Added.{IsAdded}
use Rattle.node_arena.specs.Entries.{links_of, links_in, tree_in, IsArena}
use Rattle.node_arena.proofs.AddLaws.{tree-added}
use Rattle.node_arena.proofs.CountLaws.{entry-used}
use Rattle.node_arena.proofs.CutLaws.{bodies-entries}
use Rattle.node_arena.proofs.FreeLaws.{listed-contains, contains-listed}
use Rattle.node_arena.proofs.StepLaws.{seen}

-- an element stands at a path
pub element-key : (f : Forest (Keyed Node)) (q : ℕ) (node : Node) → Some node ≡ label_of f q → IsTrue (is_element node) → IsElementKey f q
element-key f q node label element = subst (λ (o : Option Node). IsSomeAnd o (λ n. IsTrue (is_element n))) label element

pub text-there : (f : Forest (Keyed Node)) (path characters : List ℕ) (q : ℕ) → IsKeyedDocument f → key_at f path ≡ Some q → Some (Text characters) ≡ label_of f q → is_element_at path (without_keys f) ≡ true → ⊥
text-there f path characters q d is label element =
    let none : is_element_at path (without_keys f) ≡ false = element-found f path q (Text characters) d.distinct is label in
    let e : false ≡ true = sym none ∙ element in cc

pub prepares-set : (document : Document) (path name value tag : List ℕ) (attrs : List Attr) (q : ℕ) → IsKeyedDocument document.tree → key_at document.tree path ≡ Some q → Some (Element tag attrs) ≡ label_of document.tree q
    → Prepares (SetAttr path name value) document document (Relabel q (Element tag (with_attr name value attrs)))
prepares-set document path name value tag attrs q d is label = record {
  can = record {
    old = element-key document.tree q (Element tag attrs) label refl;
    new = refl;
    sound = distinct-with name value attrs (sound-at document.tree q (Element tag attrs) d (path-live document.tree path q is) label);
  };
  edits = is-edited (SetAttr path name value) document.tree (put_label q (Element tag (with_attr name value attrs)) document.tree) (relabelled-is (set_attr name value) document.tree path q (Element tag attrs) d.distinct is label);
  fresh = λ key never. absurd never;
  reserved = λ key never. absurd never;
  others = λ key none. refl;
}

pub prepares-unset : (document : Document) (path name tag : List ℕ) (attrs : List Attr) (q : ℕ) → IsKeyedDocument document.tree → key_at document.tree path ≡ Some q → Some (Element tag attrs) ≡ label_of document.tree q
    → Prepares (UnsetAttr path name) document document (Relabel q (Element tag (without_attr name attrs)))
prepares-unset document path name tag attrs q d is label = record {
  can = record {
    old = element-key document.tree q (Element tag attrs) label refl;
    new = refl;
    sound = distinct-without name attrs (sound-at document.tree q (Element tag attrs) d (path-live document.tree path q is) label);
  };
  edits = is-edited (UnsetAttr path name) document.tree (put_label q (Element tag (without_attr name attrs)) document.tree) (relabelled-is (unset_attr name) document.tree path q (Element tag attrs) d.distinct is label);
  fresh = λ key never. absurd never;
  reserved = λ key never. absurd never;
  others = λ key none. refl;
}

-- A node that isn't the root.

-- it has a parent
pub inner-parent : (f : Forest (Keyed Node)) (path : List ℕ) (q : ℕ) → IsKeyedDocument f → key_at f path ≡ Some q → is_inner_at path (without_keys f) ≡ true → parent_of f q ≡ None → ⊥
inner-parent f path q d is inner none =
    let live : IsLive f q = path-live f path q is in
    let long : 0 < length path = inner-long path (without_keys f) inner in
    let empty : path ≡ [] = sym (path_of-key_at f path q d.distinct is) ∙ ap (drop 1) (route-of_root f q d.distinct live none) in
    let short : length path ≡ 0 = ap length empty in
    absurd (omega arith)

parent-element : (f : Forest (Keyed Node)) (q p : ℕ) (s : Spot Node) → IsKeyedDocument f → IsLive f q → parent_of f q ≡ Some p → spot_of f p ≡ Some s → IsElementKey f p
parent-element f q p s d live above at =
    let label : Some s.label ≡ label_of f p = rw at refl in
    let there : 0 < times q (children_of f p) = root-counted (children_of f p) (index_of f q) q (child-index f q p d.distinct live above) in
    element-key f p s.label label (above-element s.label (children_of f p) q there (sound-at f p s.label d (parent-live f q p d.distinct live above) label))

pub has-place : (f : Forest (Keyed Node)) (q : ℕ) (place : ChildPlace) → IsKeyedDocument f → IsLive f q → parent_of f q ≡ Some place.parent → index_of f q ≡ place.index → HasPlace f q place
has-place f q place d live above index =
    let s = live-spot f place.parent (parent-live f q place.parent d.distinct live above) in
    record { live = live; parent = above; index = index; element = parent-element f q place.parent s.0 d live above s.1 }

-- it is taken out where its path leads
pub removed-is : (f : Forest (Keyed Node)) (path : List ℕ) (q : ℕ) (place : ChildPlace) → IsKeyedDocument f → key_at f path ≡ Some q → HasPlace f q place → removed_at path f ≡ cut place f
removed-is f path q place d is h =
    let p : ℕ = place.parent in
    let above : IsLive f p = parent-live f q p d.distinct h.live h.parent in
    let way : path ≡ path_of f p ++ place.index ∷ [] = sym (path_of-key_at f path q d.distinct is) ∙ path-child f q p d h.live above h.parent ∙ ap (λ i. path_of f p ++ i ∷ []) h.index in
    ap (λ way. removed_at way f) way
    ∙ removed-child (path_of f p) place.index f
    ∙ children-changed (from_position without_first place.index) f (path_of f p) p d.distinct (key_at-path_of f p (one-tree f d) above)

pub prepares-removal : (document : Document) (path : List ℕ) (q : ℕ) (place : ChildPlace) (list : Vec ℕ Global) → IsKeyedDocument document.tree → key_at document.tree path ≡ Some q → HasPlace document.tree q place → AreKeysOf list.items (alone (on_link document.tree (Some q)))
    → Prepares (Remove path) document document (TakeOut q list place)
prepares-removal document path q place list d is h all = record {
  can = record { stands = h; listed = all };
  edits = is-edited (Remove path) document.tree (cut place document.tree) (sym (removed-is document.tree path q place d is h));
  fresh = λ key never. absurd never;
  reserved = λ key never. absurd never;
  others = λ key none. refl;
}

-- Moves.

first-key : (g : Forest (Keyed Node)) → first_key g ≡ option_map (λ (n : Keyed Node). n.key) (first_label g)
first-key Empty = refl
first-key (Tree n c r) = refl

-- what makes a move possible
pub allowed-move : (from parent : List ℕ) (index : ℕ) (g : Forest Node) → move_fault from parent index g ≡ None
    → (is_inner_at from g ≡ true) × (is_element_at parent g ≡ true) × (leads_into from parent ≡ false) × (has_room_at (once_out from parent) index (removed_at from g) ≡ true)
allowed-move from parent index g none = tests (is_inner_at from g) (is_element_at parent g) (leads_into from parent) (has_room_at (once_out from parent) index (removed_at from g)) none
  where
    room : (r : Bool) → no_place_unless r ≡ None → r ≡ true
    room true e = refl
    room false e = absurd (none-some NoPlace (sym e))

    tests : (a b l r : Bool) → cond (not (a && b)) (Some NoPlace) (cond l (Some IntoItself) (no_place_unless r)) ≡ None → (a ≡ true) × (b ≡ true) × (l ≡ false) × (r ≡ true)
    tests true true true r e = absurd (none-some IntoItself (sym e))
    tests true true false r e = (refl, refl, refl, room r e)
    tests true false l r e = absurd (none-some NoPlace (sym e))
    tests false b l r e = absurd (none-some NoPlace (sym e))

element-of : (o : Option Node) → (elim o [ None ↦ false | Some node ↦ is_element node ]) ≡ true → IsSomeAnd o (λ node. IsTrue (is_element node))
element-of None e = absurd (cc)
element-of (Some node) e = e

pub element-key-at : (f : Forest (Keyed Node)) (path : List ℕ) (q : ℕ) → HasDistinctKeys f → key_at f path ≡ Some q → is_element_at path (without_keys f) ≡ true → IsElementKey f q
element-key-at f path q d is element =
    subst (λ (o : Option Node). IsSomeAnd o (λ node. IsTrue (is_element node))) (label-found f path q d is) (element-of (label_at path (without_keys f)) element)

label-found-at : (f : Forest (Keyed Node)) (path : List ℕ) → label_at path (without_keys f) ≡ option_map (λ (n : Keyed Node). n.label) (first_label (on_path path f))
label-found-at f path = ap first_label (on-map (λ (n : Keyed Node). n.label) path f) ∙ first-map (λ (n : Keyed Node). n.label) (on_path path f)

-- the same node stands at two paths of two trees
label-same : (rest f : Forest (Keyed Node)) (path parent : List ℕ) → first_label (on_path path rest) ≡ first_label (on_path parent f) → label_at path (without_keys rest) ≡ label_at parent (without_keys f)
label-same rest f path parent same = label-found-at rest path ∙ ap (option_map (λ (n : Keyed Node). n.label)) same ∙ sym (label-found-at f parent)

pub prepares-move : (document : Document) (from parent : List ℕ) (index q t : ℕ) (place : ChildPlace) → IsKeyedDocument document.tree → key_at document.tree from ≡ Some q → HasPlace document.tree q place → key_at document.tree parent ≡ Some t
    → move_fault from parent index (without_keys document.tree) ≡ None → HasRoom document.entries t
    → Prepares (Move from parent index) document document (MoveChild q place (record { parent = t; index = index }))
prepares-move document from parent index q t place d is stands above allowed room =
    let f : Forest (Keyed Node) = document.tree in
    let g : Forest Node = without_keys f in
    let rest : Forest (Keyed Node) = cut place f in
    let path : List ℕ = once_out from parent in
    let to : ChildPlace = record { parent = t; index = index } in
    let can = allowed-move from parent index g allowed in
    let long : 0 < length from = inner-long from g can.0 in
    let gone : removed_at from f ≡ rest = removed-is f from q place d is stands in
    let without : removed_at from g ≡ without_keys rest = sym (removed-natural (λ (n : Keyed Node). n.label) from f) ∙ ap (λ x. without_keys x) gone in
    let its = taken f q place d stands in
    let distinct : HasDistinctKeys rest = λ x. omega (arith, weigh-taken (λ (n : Keyed Node). cond (n.key == x) 1 0) f q place d.distinct its, d.distinct x) in
    let same : first_label (on_path path rest) ≡ first_label (on_path parent f) = ap (λ x. first_label (on_path path x)) (sym gone) ∙ (stays from parent f long can.2).0 in
    let there : key_at rest path ≡ Some t = first-key (on_path path rest) ∙ ap (option_map (λ (n : Keyed Node). n.key)) same ∙ sym (first-key (on_path parent f)) ∙ above in
    let labels : label_at path (without_keys rest) ≡ label_at parent g = label-same rest f path parent same in
    let element : is_element_at path (without_keys rest) ≡ true =
    subst (λ (o : Option Node). (elim o [ None ↦ false | Some node ↦ is_element node ]) ≡ true) (sym labels) can.1 in
    let few : nat_le index (child_count_of rest t) ≡ true = ap (nat_le index) (sym (count-found rest path t distinct there) ∙ ap (child_count_at path) (sym without)) ∙ can.3 in
    let led : hung to (on_link f (Some q)) rest ≡ moved from parent index f =
    sym (ap (λ x. inserted_at path index x (removed_at from f)) (on-link-at f from q d.distinct is)
    ∙ ap (inserted_at path index (on_link f (Some q))) gone
    ∙ children-changed (with_tree index (on_link f (Some q))) rest path t distinct there) in
    record {
      can = record {
        stands = stands;
        free = record { element = element-key-at rest path t distinct there element; within = leb-true index (child_count_of rest t) few };
        room = λ _. room;
      };
      edits = is-edited (Move from parent index) f (hung to (on_link f (Some q)) rest) led;
      fresh = λ key never. absurd never;
      reserved = λ key never. absurd never;
      others = λ key none. refl;
    }

-- the same of a document whose tree is as before
pub prepares-move-in : (old document : Document) (from parent : List ℕ) (index q t : ℕ) (place : ChildPlace) → document.tree ≡ old.tree → KeepsEntries old document → IsKeyedDocument old.tree → key_at old.tree from ≡ Some q → HasPlace old.tree q place → key_at old.tree parent ≡ Some t
    → move_fault from parent index (without_keys old.tree) ≡ None → HasRoom document.entries t
    → Prepares (Move from parent index) old document (MoveChild q place (record { parent = t; index = index }))
prepares-move-in old document from parent index q t place same keep d is stands above allowed room =
    let change : Change = MoveChild q place (record { parent = t; index = index }) in
    let h = prepares-move document from parent index q t place (subst IsKeyedDocument (sym same) d) (subst (λ f. key_at f from ≡ Some q) (sym same) is) (subst (λ f. HasPlace f q place) (sym same) stands) (subst (λ f. key_at f parent ≡ Some t) (sym same) above) (subst (λ f. move_fault from parent index (without_keys f) ≡ None) (sym same) allowed) room in
    record { can = h.can; edits = subst (λ f. IsEdited (Move from parent index) f (changed document change)) same h.edits; fresh = λ key never. absurd never; reserved = λ key never. absurd never; others = λ key none. keep key }

-- Insertions.

pub keeps-aside : (nodes new : Slab Entry) (root : ℕ) (document : Document) (tree : Forest Node) (all : List ℕ) (key : ℕ) → IsArena nodes root → seen nodes root ≡ document → (h : IsAdded nodes new tree all key) → KeepsAside document (seen new root) tree all key
keeps-aside nodes new root document tree all key arena view h =
    subst (λ d. KeepsAside d (seen new root) tree all key) view (
    let f : Forest (Keyed Node) = tree_in nodes root in
    let t : Forest (Keyed Node) = h.added in
    let its : tree_in new key ≡ t = tree_in-is new key t h.holds in
    let there : (x : ℕ) → 0 < times x t → Contains all x = λ x more. listed-contains all t x h.listed more in
    let none : (x : ℕ) → 0 < times x t → get nodes x ≡ None = λ x more. h.only.fresh x (there x more) in
    let now : tree_in new root ≡ f = tree-added nodes new root arena tree all key h in
    record {
      kept = record {
        bodies = subst (HasBodies (links_in new)) (sym its) (bodies-entries (links_in new) t None 0 h.holds.entries);
        root = ap root_keys its ∙ h.holds.roots;
        apart = λ x. elim (cases_lt 0 (times x t)) [
          | inl more ↦
              let zero_times : times x f ≡ 0 = entries-absent (links_in nodes) f None 0 x arena.holds.entries (ap (option_map links_of) (none x more)) in
              omega (arith, h.holds.distinct x, ap (times x) its, ap (times x) now)
          | inr few ↦ omega (arith, arena.holds.distinct x, ap (times x) its, ap (times x) now)
        ];
        sound = subst (λ g. AreSound (without_keys g)) (sym its) (subst AreSound (sym h.tree_is) h.sound.sound);
      };
      listed = λ x. h.listed x ∙ sym (ap (times x) its);
      tree_is = ap (λ g. without_keys g) its ∙ h.tree_is;
      fresh = λ x more. none x (subst (λ g. 0 < times x g) its more);
      reserved = λ x more. entry-used new t None 0 x h.holds.entries (subst (λ g. 0 < times x g) its more);
      others = λ x few. h.only.others x (λ in_all. absurd (let more = contains-listed all t x h.listed in_all in let same = ap (times x) its in omega arith));
    }
    )

no-some : (o : Option Entry) → is_some o ≡ false → o ≡ None
no-some None e = refl
no-some (Some entry) e = absurd (cc)

none-room : (o : Option Entry) → o ≡ None → IsSomeAnd o (λ (entry : Entry). length entry.children.items < vec_capacity entry.children) → ⊥
none-room None e h = h
none-room (Some entry) e h = cc

-- what is kept aside changes no other entry
module _ (mid new : Document) (fragment : Forest Node) (keys : List ℕ) (key : ℕ) (h : KeepsAside mid new fragment keys key) where
  room-kept : (t : ℕ) → HasRoom mid.entries t → HasRoom new.entries t
  room-kept t room = elim (cases_lt 0 (times t (aside new key))) [
    | inl more ↦ absurd (none-room (get mid.entries t) (h.fresh t more) room)
    | inr few ↦ subst (λ (o : Option Entry). IsSomeAnd o (λ (entry : Entry). length entry.children.items < vec_capacity entry.children)) (sym (h.others t (omega arith))) room
  ]

  pub prepares-insertion : (old : Document) (parent : List ℕ) (index t : ℕ) (list : Vec ℕ Global) → list.items ≡ keys → mid.tree ≡ old.tree → new.tree ≡ mid.tree → KeepsEntries old mid → IsKeyedDocument old.tree → key_at old.tree parent ≡ Some t → is_element_at parent (without_keys old.tree) ≡ true
      → has_room_at parent index (without_keys old.tree) ≡ true → HasRoom mid.entries t → Prepares (Insert parent index fragment) old new (PutIn key list (record { parent = t; index = index }))
  prepares-insertion old parent index t list items to_mid to_new same d is element room_at room =
      let f : Forest (Keyed Node) = old.tree in
      let place : ChildPlace = record { parent = t; index = index } in
      let added : Forest (Keyed Node) = aside new key in
      let now : new.tree ≡ f = to_new ∙ to_mid in
      let few : nat_le index (child_count_of f t) ≡ true = ap (nat_le index) (sym (count-found f parent t d.distinct is)) ∙ room_at in
      let free : IsFreePlace f place = record { element = element-key-at f parent t d.distinct is element; within = leb-true index (child_count_of f t) few } in
      let apart : HasKeysApart added f = subst (HasKeysApart added) now h.kept.apart in
      let led : hung place added new.tree ≡ inserted_at parent index added f = ap (hung place added) now ∙ sym (children-changed (with_tree index added) f parent t d.distinct is) in
      record {
        can = record {
          kept = h.kept;
          listed = subst (λ ks. AreKeysOf ks added) (sym items) h.listed;
          free = subst (λ g. IsFreePlace g place) (sym now) free;
          room = room-kept t room;
        };
        edits = is-edited (Insert parent index fragment) f (hung place added new.tree) (added, h.tree_is, apart, led);
        fresh = λ x more. no-some (get old.entries x) (sym (same x) ∙ ap (λ o. is_some o) (h.fresh x more));
        reserved = h.reserved;
        others = λ x none. ap (λ o. is_some o) (h.others x (elim (cases_lt 0 (times x added)) [ inl more ↦ absurd (none more) | inr few ↦ omega arith ])) ∙ same x;
      }
