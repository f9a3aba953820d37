-- The former targets of an edit, by the ids of the nodes that it takes out, moves or puts in.
use Rattle.std.proofs.Common.{◌≡◌, ◌∙◌, ◌||◌, ◌+◌, ℕ, Bool, true, false, not, cond, codes, List, [], ◌∷◌, ◌++◌, flat_map, Option, Some, None, refl, sym, ap, ap₂, subst, inl, inr, append-nil, eq-eqb}
use Rattle.std.proofs.Math.Bool.{or-false}
use Rattle.std.specs.Prelude.{encode_utf8_all, filter, find, is_some, nat_eq, option_map}
use Rattle.std.specs.List.{AllByRecursion, list_any}
use Rattle.std.specs.Option.{option_eq, option_map_or}
use Rattle.std.specs.Str.{bytes_eq, chars}
use Rattle.std.proofs.Math.Utf8.{encode}
use Rattle.std.proofs.lemmas.Bool.{both_ways, cases_Bool, or_parts}
use Rattle.std.proofs.lemmas.Grind.{flat_map-append}
use Rattle.std.proofs.lemmas.List.Folds.{list_any-append}
use Rattle.std.proofs.lemmas.Slice.Eq.{bytes_eq-Decides}
use Rattle.forest.specs.Forest.{Forest, Empty, Tree, labels}
use Rattle.forest.specs.Keys.{Keyed, without_keys}
use Rattle.forest.specs.Paths.{on_path}
use Rattle.plain_types.specs.Attributes.{is_named}
use Rattle.plain_types.specs.Rows.{rows}
use Rattle.plain_types.specs.Tree.{IsOne}
use Rattle.plain_types.specs.declared.attr.Attr.{Attr}
use Rattle.plain_types.specs.declared.edit.Edit.{Edit}
use Rattle.plain_types.specs.declared.edit.Edit.TheVariants.{Insert, Move, Remove, ReplaceSheet, SetAttr, UnsetAttr}
use Rattle.plain_types.specs.declared.node.Node.{Node}
use Rattle.plain_types.specs.declared.node.Node.TheVariants.{Element, Text}
use Rattle.plain_types.specs.declared.row.Row.{Row}
use Rattle.node_arena.specs.AtPaths.{first_label, inserted_at, relabelled_at, with_label}
use Rattle.node_arena.specs.Changes.{alone}
use Rattle.node_arena.specs.Edits.{has_room_at, is_element_at, set_attr, unset_attr, with_attr, with_its_key, without_attr}
use Rattle.node_arena.proofs.AtPathLaws.{on-changed}
use Rattle.generated_texts.specs.References.{first_holder, has_id}
use Rattle.edit_merge.specs.EditMerges.{inserted_tree}
use Rattle.edit_merge.specs.Laws.{IsDone}
use Rattle.edit_merge.proofs.PlaceLaws.{both-are, element-there, inserted-there, keys-there, one-root, there-is}
use Rattle.reference_reach.specs.ChangedTargets.{has_other_target}
use Rattle.reference_reach.specs.ExchangedNodes.{OthersKeepTargets}
use Rattle.reference_reach.specs.ExchangedNodes.{first_node as first_of}
use Rattle.reference_reach.specs.MergedNodes.{is_held_in}
use Rattle.referring_elements.specs.declared.former.FormerTarget.{FormerTarget}
use Rattle.dirty_walk.specs.Exchanges.{element_of, elements_in, first_node, id_of, leaving}
use Rattle.dirty_walk.specs.FormerTargets.{AreFormerTargetsOf}
use Rattle.dirty_walk.specs.Machinery.FormerLists.{coming_formers, former_of, formers_in, formers_of}
use Rattle.dirty_walk.specs.declared.exchange.ElementId.{ElementId}

-- Attributes.

module _ {X : Type 0} (test : X → Bool) where
  none_left : (xs : List X) → find test (filter (λ x. not (test x)) xs) ≡ None
  none_left [] = refl
  none_left (x ∷ xs) = elim (cases_Bool (test x)) [
    | inl e ↦ rw e (none_left xs)
    | inr e ↦ rw (e, e) (none_left xs)
  ]

  -- others go
  same_found : (other : X → Bool) → ((x : X) → other x ≡ true → test x ≡ false) → (xs : List X) → find test (filter (λ x. not (other x)) xs) ≡ find test xs
  same_found other apart [] = refl
  same_found other apart (x ∷ xs) = elim (cases_Bool (other x)) [
    | inl e ↦ rw (e, apart x e) (same_found other apart xs)
    | inr e ↦ rw e (ap (λ o. cond (test x) (Some x) o) (same_found other apart xs))
  ]

abbrev id_name : List ℕ
id_name = codes "id"

-- an attribute of another name is not the id
apart : (name : List ℕ) → bytes_eq name id_name ≡ false → (attr : Attr) → is_named name attr ≡ true → is_named id_name attr ≡ false
apart name other attr is = ap (λ (n : List ℕ). bytes_eq n id_name) ((bytes_eq-Decides attr.name name).0 is) ∙ other

found_beside : (name value : List ℕ) → bytes_eq name id_name ≡ false → (attrs : List Attr) → find (is_named id_name) (with_attr name value attrs) ≡ find (is_named id_name) attrs
found_beside name value other [] = rw other refl
found_beside name value other (attr ∷ attrs) = elim (cases_Bool (is_named name attr)) [
  | inl e ↦ rw (e, other, apart name other attr e) refl
  | inr e ↦ rw e (ap (λ o. cond (is_named id_name attr) (Some attr) o) (found_beside name value other attrs))
]

found_set : (value : List ℕ) (attrs : List Attr) → find (is_named id_name) (with_attr id_name value attrs) ≡ Some (record { name = id_name; value = value })
found_set value [] = refl
found_set value (attr ∷ attrs) = elim (cases_Bool (is_named id_name attr)) [
  | inl e ↦ rw e refl
  | inr e ↦ rw (e, e) (found_set value attrs)
]

module _ (document : Forest (Keyed Node)) (id : List ℕ) where
  abbrev has_found : Option Attr → Bool
  has_found attr = option_map_or (bytes_eq id) (option_map (λ (a : Attr). a.value) attr) false

  -- the id is among them
  abbrev lists : List FormerTarget → Bool
  lists former = list_any (λ (target : FormerTarget). bytes_eq id target.id) former

  lists-append : (some more : List FormerTarget) → lists (some ++ more) ≡ (lists some || lists more)
  lists-append some more = list_any-append (λ (target : FormerTarget). bytes_eq id target.id) some more

  lists_of : (o : Option (List ℕ)) → lists (former_of document o) ≡ option_map_or (bytes_eq id) o false
  lists_of None = refl
  lists_of (Some other) = or-false (bytes_eq id other)

  -- Elements.

  lists_one : (n : Keyed Node) → lists (formers_of document (element_of n)) ≡ has_id id n.label
  lists_one n = by n.label
    where
      by : (label : Node) → lists (formers_of document (element_of (record { key = n.key; label = label }))) ≡ has_id id label
      by (Element name attrs) = ap lists (append-nil (former_of document (id_of (Element name attrs)))) ∙ lists_of (id_of (Element name attrs))
      by (Text characters) = refl

  lists_nodes : (ns : List (Keyed Node)) → lists (formers_of document (flat_map element_of ns)) ≡ list_any (λ (n : Keyed Node). has_id id n.label) ns
  lists_nodes [] = refl
  lists_nodes (n ∷ ns) =
      ap lists (flat_map-append (λ (element : ElementId). former_of document element.id) (element_of n) (flat_map element_of ns))
      ∙ lists-append (formers_of document (element_of n)) (formers_of document (flat_map element_of ns))
      ∙ ap₂ (λ a b. a || b) (lists_one n) (lists_nodes ns)

  lists_elements : (trees : Forest (Keyed Node)) → lists (formers_of document (elements_in trees)) ≡ is_held_in id trees
  lists_elements trees = lists_nodes (labels trees)

  -- Nodes of a fragment.

  lists_rows : (all : List Row) → lists (formers_in document all) ≡ list_any (λ (row : Row). has_id id row.node) all
  lists_rows [] = refl
  lists_rows (row ∷ all) =
      lists-append (former_of document (id_of row.node)) (formers_in document all) ∙ ap₂ (λ a b. a || b) (lists_of (id_of row.node)) (lists_rows all)

  any_rows : (depth : ℕ) (f : Forest Node) → list_any (λ (row : Row). has_id id row.node) (rows depth f) ≡ list_any (has_id id) (labels f)
  any_rows depth Empty = refl
  any_rows depth (Tree node c r) =
      ap (λ b. has_id id node || b)
      (list_any-append (λ (row : Row). has_id id row.node) (rows (depth + 1) c) (rows depth r)
      ∙ ap₂ (λ a b. a || b) (any_rows (depth + 1) c) (any_rows depth r)
      ∙ sym (list_any-append (has_id id) (labels c) (labels r)))

  any_keyed : (f : Forest (Keyed Node)) → list_any (has_id id) (labels (without_keys f)) ≡ is_held_in id f
  any_keyed Empty = refl
  any_keyed (Tree n c r) =
      ap (λ b. has_id id n.label || b)
      (list_any-append (has_id id) (labels (without_keys c)) (labels (without_keys r))
      ∙ ap₂ (λ a b. a || b) (any_keyed c) (any_keyed r)
      ∙ sym (list_any-append (λ (n : Keyed Node). has_id id n.label) (labels c) (labels r)))

  lists_fragment : (f : Forest (Keyed Node)) → lists (formers_in document (rows 0 (without_keys f))) ≡ is_held_in id f
  lists_fragment f = lists_rows (rows 0 (without_keys f)) ∙ any_rows 0 (without_keys f) ∙ any_keyed f

  -- Elements whose attributes change.

  set_has : (name value : List ℕ) (node : Node) → has_id id node ≡ false → lists (cond (bytes_eq name id_name) (former_of document (Some value)) []) ≡ false → has_id id (set_attr name value node) ≡ false
  set_has name value (Text characters) was set = refl
  set_has name value (Element tag attrs) was set = elim (cases_Bool (bytes_eq name id_name)) [
    | inl e ↦
        ap (λ (n : List ℕ). has_found (find (is_named id_name) (with_attr n value attrs))) ((bytes_eq-Decides name id_name).0 e)
        ∙ ap has_found (found_set value attrs)
        ∙ sym (lists_of (Some value))
        ∙ ap (λ b. lists (cond b (former_of document (Some value)) [])) (sym e)
        ∙ set
    | inr e ↦ ap has_found (found_beside name value e attrs) ∙ was
  ]

  unset_has : (name : List ℕ) (node : Node) → has_id id node ≡ false → has_id id (unset_attr name node) ≡ false
  unset_has name (Text characters) was = refl
  unset_has name (Element tag attrs) was = elim (cases_Bool (bytes_eq name id_name)) [
    | inl e ↦
        ap (λ (n : List ℕ). has_found (find (is_named id_name) (without_attr n attrs))) ((bytes_eq-Decides name id_name).0 e) ∙ ap has_found (none_left (is_named id_name) attrs)
    | inr e ↦ ap has_found (same_found (is_named id_name) (is_named name) (apart name e) attrs) ∙ was
  ]

  first_has : (change : Node → Node) → ((node : Node) → has_id id node ≡ false → has_id id (change node) ≡ false) → (g : Forest (Keyed Node)) → is_held_in id (first_of g) ≡ false
      → is_held_in id (first_of (with_label (with_its_key change) g)) ≡ false
  first_has change stays Empty was = refl
  first_has change stays (Tree n c r) was = or-false (has_id id (change n.label)) ∙ stays n.label (sym (or-false (has_id id n.label)) ∙ was)

  same_first : (g : Forest (Keyed Node)) → first_node g ≡ first_of g
  same_first Empty = refl
  same_first (Tree n c r) = refl

  come_has : (change : Node → Node) (path : List ℕ) (old new : Forest (Keyed Node)) → ((node : Node) → has_id id node ≡ false → has_id id (change node) ≡ false)
      → new ≡ relabelled_at path (with_its_key change) old → is_held_in id (first_of (on_path path old)) ≡ false → is_held_in id (first_of (on_path path new)) ≡ false
  come_has change path old new stays is was =
      ap (λ (g : Forest (Keyed Node)). is_held_in id (first_of g)) (ap (on_path path) is ∙ on-changed (with_label (with_its_key change)) path old refl)
      ∙ first_has change stays (on_path path old) was

-- an id that is not among them has the same target after the edit
keeps : OthersKeepTargets → (id : List ℕ) (edit : Edit) (old new : Forest (Keyed Node)) → IsDone edit old new → lists old id (formers_of old (elements_in (leaving edit old))) ≡ false → lists old id (coming_formers old edit) ≡ false
    → first_holder new id ≡ first_holder old id
keeps law id (Insert parent index fragment) old new done left come =
    let is = done.edited.keys in
    let can = both-are (is_element_at parent (without_keys old)) (has_room_at parent index (without_keys old)) (there-is _ done.allowed) in
    let above = element-there parent old can.0 in
    let z = one-root is.0 (subst IsOne (sym is.1) done.fragment) in
    let whole : new ≡ inserted_at parent index (Tree z.0 z.1 Empty) old = is.3 ∙ ap (λ t. inserted_at parent index t old) z.2 in
    let there : alone (on_path (parent ++ index ∷ []) new) ≡ is.0 = ap (inserted_tree parent index) whole
    ∙ inserted-there parent index z.0 z.1 old (ap (λ t. is_some (first_label t)) above.on) (keys-there parent index old can.1)
    ∙ sym z.2 in
    law (Insert parent index fragment) old new done id refl
    (ap (is_held_in id) there ∙ sym (lists_fragment old id is.0) ∙ ap (λ (f : Forest Node). lists old id (formers_in old (rows 0 f))) is.1 ∙ come)
keeps law id (Remove path) old new done left come = law (Remove path) old new done id (sym (lists_elements old id (alone (on_path path old))) ∙ left) refl
keeps law id (Move from parent index) old new done left come = law (Move from parent index) old new done id (sym (lists_elements old id (alone (on_path from old))) ∙ come) refl
keeps law id (SetAttr path name value) old new done left come =
    let was = ap (is_held_in id) (sym (same_first old id (on_path path old))) ∙ sym (lists_elements old id (first_node (on_path path old))) ∙ left in
    law (SetAttr path name value) old new done id was
    (come_has old id (set_attr name value) path old new (λ node had. set_has old id name value node had come) done.edited.keys was)
keeps law id (UnsetAttr path name) old new done left come =
    let was = ap (is_held_in id) (sym (same_first old id (on_path path old))) ∙ sym (lists_elements old id (first_node (on_path path old))) ∙ left in
    law (UnsetAttr path name) old new done id was
    (come_has old id (unset_attr name) path old new (λ node had. unset_has old id name node had) done.edited.keys was)
keeps law id (ReplaceSheet text) old new done left come = law (ReplaceSheet text) old new done id refl refl

-- Each of them named the element that it says.

module _ (document : Forest (Keyed Node)) where
  abbrev Were : List FormerTarget → Type 0
  Were former = AllByRecursion (λ (target : FormerTarget). target.element ≡ first_holder document target.id) former

  were_both : (some more : List FormerTarget) → Were some → Were more → Were (some ++ more)
  were_both [] more one other = other
  were_both (target ∷ some) more one other = (one.0, were_both some more one.1 other)

  were_of : (o : Option (List ℕ)) → Were (former_of document o)
  were_of None = tt
  were_of (Some id) = (refl, tt)

  were_all : {A : Type 0} (of : A → Option (List ℕ)) (all : List A) → Were (flat_map (λ a. former_of document (of a)) all)
  were_all of [] = tt
  were_all of (a ∷ all) = were_both (former_of document (of a)) (flat_map (λ a. former_of document (of a)) all) (were_of (of a)) (were_all of all)

  were_elements : (elements : List ElementId) → Were (formers_of document elements)
  were_elements elements = were_all (λ (element : ElementId). element.id) elements

  were_if : (b : Bool) (value : List ℕ) → Were (cond b (former_of document (Some value)) [])
  were_if true value = (refl, tt)
  were_if false value = tt

  were_coming : (edit : Edit) → Were (coming_formers document edit)
  were_coming (Insert parent index fragment) = were_all (λ (row : Row). id_of row.node) (rows 0 fragment)
  were_coming (Remove path) = tt
  were_coming (Move from parent index) = were_elements (elements_in (alone (on_path from document)))
  were_coming (SetAttr path name value) = were_if (bytes_eq name id_name) value
  were_coming (UnsetAttr path name) = tt
  were_coming (ReplaceSheet text) = tt

same_some : (o : Option ℕ) → not (option_eq nat_eq o o) ≡ false
same_some None = refl
same_some (Some key) = ap not (eq-eqb key key refl)

same_target : (o other : Option ℕ) → o ≡ other → not (option_eq nat_eq o other) ≡ false
same_target o other same = ap (λ (p : Option ℕ). not (option_eq nat_eq o p)) (sym same) ∙ same_some o

-- what is listed is an edit's
pub former_are : OthersKeepTargets → (edit : Edit) (old : Forest (Keyed Node)) (former : List FormerTarget) → former ≡ formers_of old (elements_in (leaving edit old)) ++ coming_formers old edit → AreFormerTargetsOf edit old former
former_are law edit old former are before after its done =
    let gone = elements_in (leaving edit old) in
    record {
      were = subst (λ (tree : Forest (Keyed Node)). Were tree former) (sym its)
          (subst (Were old) (sym are) (were_both old (formers_of old gone) (coming_formers old edit) (were_elements old gone) (were_coming old edit)));
      complete = λ id other. elim (cases_Bool (lists old id former)) [
        | inl e ↦ e
        | inr e ↦
            let parts = or_parts (lists old id (formers_of old gone)) (lists old id (coming_formers old edit)) (sym (lists-append old id (formers_of old gone) (coming_formers old edit)) ∙ ap (lists old id) (sym are) ∙ e) in
            let same = keeps law id edit old after.tree done parts.0 parts.1 in
            absurd (both_ways (has_other_target before after id) (same_target (first_holder before.tree id) (first_holder after.tree id) (ap (λ (tree : Forest (Keyed Node)). first_holder tree id) its ∙ sym same)) other)
      ];
    }

-- How a text that is looked at is compared with the name.

pub id-characters : chars (codes "id") ≡ codes "id"
unfolding chars
id-characters = refl

pub id-bytes : codes "id" ≡ encode_utf8_all (codes "id")
unfolding encode
id-bytes = refl
