-- A node of the document and the node that is evaluated. Throughout, n is a styled node, i what it is handed, and b
-- whether it has a box.
use Rattle.std.proofs.Common.{◌≡◌, ◌∷◌, ℕ, Bool, true, false, cond, List, [], Option, Some, None, refl, sym, ap, ◌∙◌, arith}
use Rattle.std.specs.Prelude.{is_some, option_map, unwrap_or, map}
use Rattle.std.specs.Option.{option_and_then}
use Rattle.forest.specs.Forest.{Forest, Empty, Tree, size}
use Rattle.forest.specs.Keys.{Keyed}
use Rattle.forest.specs.Spots.{IsLive, Spot, after_of, children_of, first_child_of, first_key, keyed, label_of, next_sibling_of, on_link, tree_of}
use Rattle.forest.proofs.SpotLaws.{live-spot}
use Rattle.plain_types.specs.declared.attr.Attr.{Attr}
use Rattle.plain_types.specs.declared.node.Node.{Node}
use Rattle.plain_types.specs.declared.node.Node.TheVariants as node
use Rattle.plain_types.specs.declared.style.Style.{Style}
use Rattle.node_arena.specs.Nodes.{attrs_of, name_of, node_attrs, node_name}
use Rattle.box_eval.specs.Boxes.{generates_box}
use Rattle.box_eval.specs.Elements.{Handed, Styled, by_parent, children_handed, closing_of, entry_of}
use Rattle.box_eval.specs.Evaluation.{Element, StyledNode, Text, element_starts, past_node, record_of, style_within, styled_node, styled_trees}
use Rattle.box_eval.specs.Starts.{node_asks_for_start}
use Rattle.surroundings.specs.declared.surroundings.Surroundings.{Surroundings}
use Rattle.surroundings.specs.Surroundings.{handed_behind, handed_by, handed_inside, surroundings_of}
use Rattle.surroundings.specs.StyledEvaluators.{asks_of, inside_node, is_element, own_changes_in, own_changes_of, past_styled, said_of, starts_in, starts_of}
use Rattle.surroundings.proofs.Ties.{inside-entry}
use Rattle.document_walk.specs.declared.opened.Opened.{Opened}
use Rattle.document_walk.specs.Catching.{Reading, inside_opened, opened_at, past_by, said_by, style_above}
use Rattle.document_walk.specs.Machinery.Standing.{AreBoxed, Handing, OpenNode, attrs_in, frame_of, opened_as, opened_of, parent_style, style_in}
use Rattle.document_walk.specs.Walking.{asks_before, closing_with, opened_in, own_changes, starts_before, told_opened}

module _ (from : Reading) where
  -- to give nodes styles changes neither their number nor their keys
  pub styled_size : (parent : Option Style) (trees : Forest (Keyed Node)) → size (styled_trees from.style from.start parent trees) ≡ size trees
  styled_size parent Empty = refl
  styled_size parent (Tree n c r) =
      let below = styled_size (style_within from.style from.start parent n.key n.label) c in
      let beside = styled_size parent r in omega (arith, below, beside)

  pub styled_first : (parent : Option Style) (trees : Forest (Keyed Node)) → first_key (styled_trees from.style from.start parent trees) ≡ first_key trees
  styled_first parent Empty = refl
  styled_first parent (Tree n c r) = refl

  -- an element of the document is an element, and hands on its own style
  pub styled_element : (parent : Option Style) (key : ℕ) (label : Node) → is_element (styled_node from.style from.start parent key label) ≡ is_some (node_name label)
  styled_element parent key (node.Element name attrs) = refl
  styled_element parent key (node.Text characters) = refl

  pub style_down : (parent : Option Style) (key : ℕ) (label : Node) → is_some (node_name label) ≡ true
      → style_in (styled_node from.style from.start parent key label) ≡ style_within from.style from.start parent key label
  style_down parent key (node.Element name attrs) named = refl
  style_down parent key (node.Text characters) named = absurd (cc)

  pub attrs_styled : (parent : Option Style) (key : ℕ) (label : Node) → attrs_in (styled_node from.style from.start parent key label) ≡ node_attrs label
  attrs_styled parent key (node.Element name attrs) = refl
  attrs_styled parent key (node.Text characters) = refl

  -- What was made of an open node tells its style.

  style_if : (b : Bool) (opened : Opened) → is_some (cond b (Some opened) None) ≡ true → option_map (λ (opened : Opened). opened.style.own) (cond b (Some opened) None) ≡ Some opened.style.own
  style_if true opened h = refl
  style_if false opened h = absurd (cc)

  style_as : (key : ℕ) (label : StyledNode) (around : Surroundings) → is_some (opened_as from key label around) ≡ true
      → option_map (λ (opened : Opened). opened.style.own) (opened_as from key label around) ≡ style_in label
  style_as key (Element element) around h = style_if (generates_box element.style) _ h
  style_as key Text around h = absurd (cc)

  style_of : (n : Keyed StyledNode) (i : Handing) → is_some (opened_of from n i) ≡ true → option_map (λ (opened : Opened). opened.style.own) (opened_of from n i) ≡ style_in n.label
  style_of n None h = absurd (cc)
  style_of n (Some around) h = style_as n.key n.label around h

  pub style_is : (above : List OpenNode) (around : Surroundings) → AreBoxed from above (Some around) → style_above (map (frame_of from) above) ≡ parent_style above
  style_is [] around h = refl
  style_is (b ∷ above) around h = style_of b.node b.handed (sym h.0)

  -- What the code makes of an element is what is made of its node.

  made_as : (key : ℕ) (parent : Option Style) (name : List ℕ) (attrs : List Attr) (around : Surroundings) → attrs_of from.tree key ≡ attrs
      → opened_in from.table from.style from.start from.tree true key parent (handed_by around) ≡ opened_as from key (styled_node from.style from.start parent key (node.Element name attrs)) around
  made_as key parent name attrs around e =
      let styles = from.style key parent in
      let starts = element_starts from.start key styles in
      ap (λ (attrs : List Attr). cond (generates_box styles)
      (Some (record {
        parent = around.parent;
        depth = around.depth;
        style = styles;
        starts = starts;
        entry = entry_of from.table by_parent key (record { attrs = attrs; style = styles; starts = starts }) (handed_by around);
      })) None) e

  pub opens_at : (above : List OpenNode) (key : ℕ) (label : Node) (i : Handing) → AreBoxed from above i → label_of from.tree key ≡ Some label → is_some (node_name label) ≡ true
      → opened_at from (map (frame_of from) above) key i ≡ opened_of from (keyed key (styled_node from.style from.start (parent_style above) key label)) i
  opens_at above key (node.Text characters) i boxed labelled named = absurd (cc)
  opens_at above key (node.Element name attrs) None boxed labelled named = refl
  opens_at above key (node.Element name attrs) (Some around) boxed labelled named =
      ap (λ parent. opened_in from.table from.style from.start from.tree true key parent (handed_by around)) (style_is above around boxed)
      ∙ made_as key (parent_style above) name attrs around (ap (λ o. unwrap_or (option_map node_attrs o) []) labelled)

  -- What it hands to its children.

  abbrev pub made_in : ℕ → Styled → Surroundings → Opened
  made_in key element around = record {
    parent = around.parent;
    depth = around.depth;
    style = element.style;
    starts = element.starts;
    entry = entry_of from.table by_parent key element (handed_by around);
  }

  inside_if : (b : Bool) (opened : Opened) (inner : Handed) → handed_inside opened.entry ≡ surroundings_of inner
      → inside_opened (cond b (Some opened) None) ≡ cond b (Some (surroundings_of inner)) None
  inside_if true opened inner e = ap (λ around. Some around) e
  inside_if false opened inner e = refl

  inside_as : (key : ℕ) (label : StyledNode) (around : Surroundings) → inside_opened (opened_as from key label around) ≡ inside_node from.table (record { key = key; label = label }) (Some around)
  inside_as key Text around = refl
  inside_as key (Element element) around =
      inside_if (generates_box element.style) (made_in key element around) (children_handed from.table by_parent key element (handed_by around)) (inside-entry from.table key element (handed_by around))

  pub inside_is : (n : Keyed StyledNode) (i : Handing) → inside_opened (opened_of from n i) ≡ inside_node from.table n i
  inside_is n None = refl
  inside_is n (Some around) = inside_as n.key n.label around

  some_inside : (opened : Option Opened) → is_some (inside_opened opened) ≡ is_some opened
  some_inside None = refl
  some_inside (Some opened) = refl

  pub boxed_inside : (n : Keyed StyledNode) (i : Handing) → is_some (inside_node from.table n i) ≡ is_some (opened_of from n i)
  boxed_inside n i = ap (λ inner. is_some inner) (sym (inside_is n i)) ∙ some_inside (opened_of from n i)

  pub boxed_past : (n : Keyed StyledNode) (i behind : Handing) → is_some (past_styled from.table n i behind) ≡ is_some i
  boxed_past n None behind = refl
  boxed_past n (Some around) behind = refl

  pub boxed_as : (above : List OpenNode) (i j : Handing) → is_some i ≡ is_some j → AreBoxed from above j → AreBoxed from above i
  boxed_as [] i j e h = e ∙ h
  boxed_as (b ∷ above) i j e h = (e ∙ h.0, h.1)

  -- What it hands on behind it, and what is told of it, once it is left.

  closing_as : (key : ℕ) (element : Styled) (around behind : Surroundings) → attrs_of from.tree key ≡ element.attrs
      → closing_with from.table from.tree key (made_in key element around) (handed_by behind) ≡ closing_of from.table by_parent key element (handed_by behind)
  closing_as key element around behind e =
      ap (λ attrs. closing_of from.table by_parent key (record { attrs = attrs; style = element.style; starts = element.starts }) (handed_by behind)) e

  record LeftIf (key : ℕ) (element : Styled) (around : Surroundings) (behind : Handing) (b : Bool) : Type 0 where
    pub said : said_by from key (cond b (Some (made_in key element around)) None) behind ≡ record_of from.table by_parent b key element (handed_by around) (handed_by (unwrap_or behind around))
    pub asks : asks_before (cond b (Some (made_in key element around)) None) ≡ node_asks_for_start b (Element element)
    pub starts : starts_before (cond b (Some (made_in key element around)) None) ≡ starts_in b (Element element)
    pub changes : own_changes (cond b (Some (made_in key element around)) None) ≡ own_changes_in from.table b key (Element element) (handed_by around)
    pub past :
        past_by from key (cond b (Some (made_in key element around)) None) (Some around) behind
        ≡ Some (surroundings_of (past_node from.table by_parent b key (Element element) (handed_by around) (handed_by (unwrap_or behind around))))

  left_if : (key : ℕ) (element : Styled) (around : Surroundings) (behind : Handing) (b : Bool) → is_some behind ≡ is_some (cond b (Some (made_in key element around)) None)
      → attrs_of from.tree key ≡ element.attrs → LeftIf key element around behind b
  left_if key element around behind false h e = record { said = refl; asks = refl; starts = refl; changes = refl; past = refl }
  left_if key element around None true h e = absurd (cc)
  left_if key element around (Some behind) true h e =
      let entry = entry_of from.table by_parent key element (handed_by around) in
      let closing = closing_as key element around behind e in
      record {
        said = ap (told_opened around.depth entry) closing;
        asks = refl;
        starts = refl;
        changes = refl;
        past = ap (λ closing. Some (handed_behind around.parent entry.own closing)) closing;
      }

  pub record IsLeft (n : Keyed StyledNode) (i behind : Handing) : Type 0 where
    pub said : said_by from n.key (opened_of from n i) behind ≡ said_of from.table n i behind
    pub asks : asks_before (opened_of from n i) ≡ asks_of n i
    pub starts : starts_before (opened_of from n i) ≡ starts_of n i
    pub changes : own_changes (opened_of from n i) ≡ own_changes_of from.table n i
    pub past : past_by from n.key (opened_of from n i) i behind ≡ past_styled from.table n i behind

  left_as : (key : ℕ) (label : StyledNode) (around : Surroundings) (behind : Handing) → is_some behind ≡ is_some (opened_as from key label around) → attrs_of from.tree key ≡ attrs_in label
      → IsLeft (record { key = key; label = label }) (Some around) behind
  left_as key Text around behind h e = record { said = refl; asks = refl; starts = refl; changes = refl; past = refl }
  left_as key (Element element) around behind h e =
      let left = left_if key element around behind (generates_box element.style) h e in
      record { said = left.said; asks = left.asks; starts = left.starts; changes = left.changes; past = left.past }

  pub is_left : (n : Keyed StyledNode) (i behind : Handing) → is_some behind ≡ is_some (opened_of from n i) → attrs_of from.tree n.key ≡ attrs_in n.label → IsLeft n i behind
  is_left n None behind h e = record { said = refl; asks = refl; starts = refl; changes = refl; past = refl }
  is_left n (Some around) behind h e = left_as n.key n.label around behind h e

  -- What stands at a link.

  abbrev root_of : {L : Type 0} → L → Forest L → L
  root_of other Empty = other
  root_of other (Tree n c r) = n

  abbrev under : {L : Type 0} → Forest L → Forest L
  under Empty = Empty
  under (Tree n c r) = c

  abbrev behind : {L : Type 0} → Forest L → Forest L
  behind Empty = Empty
  behind (Tree n c r) = r

  pub record Here (parent : Option Style) (key : ℕ) (n : Keyed StyledNode) (c r : Forest (Keyed StyledNode)) : Type 0 where
    pub label : Node
    pub labelled : label_of from.tree key ≡ Some label
    pub is : n ≡ keyed key (styled_node from.style from.start parent key label)
    pub children : styled_trees from.style from.start (style_within from.style from.start parent key label) (children_of from.tree key) ≡ c
    pub after : styled_trees from.style from.start parent (after_of from.tree key) ≡ r
    pub key_is : n.key ≡ key
    pub element : is_some (name_of from.tree key) ≡ is_element n.label
    pub attrs : attrs_of from.tree n.key ≡ attrs_in n.label

  pub here_is : (parent : Option Style) (key : ℕ) (n : Keyed StyledNode) (c r : Forest (Keyed StyledNode)) → IsLive from.tree key
      → styled_trees from.style from.start parent (on_link from.tree (Some key)) ≡ Tree n c r → Here parent key n c r
  here_is parent key n c r live on =
      let s = live-spot from.tree key live in
      let spot : Spot Node = s.0 in
      let same : styled_trees from.style from.start parent (tree_of key (Some spot)) ≡ Tree n c r =
      sym (ap (λ o. styled_trees from.style from.start parent (tree_of key o)) s.1) ∙ on in
      let is : n ≡ keyed key (styled_node from.style from.start parent key spot.label) = sym (ap (root_of n) same) in
      let labelled : label_of from.tree key ≡ Some spot.label = ap (option_map (λ (s : Spot Node). s.label)) s.1 in
      let key_is : n.key ≡ key = ap (λ (n : Keyed StyledNode). n.key) is in
      record {
        label = spot.label;
        labelled = labelled;
        is = is;
        children =
            ap (λ o. styled_trees from.style from.start (style_within from.style from.start parent key spot.label) (unwrap_or (option_map (λ (s : Spot Node). s.children) o) Empty)) s.1
            ∙ ap under same;
        after =
            ap (λ o. styled_trees from.style from.start parent (unwrap_or (option_map (λ (s : Spot Node). s.after) o) Empty)) s.1
            ∙ ap behind same;
        key_is = key_is;
        element =
            ap (λ o. is_some (option_and_then node_name o)) labelled
            ∙ sym (styled_element parent key spot.label) ∙ ap (λ (n : Keyed StyledNode). is_element n.label) (sym is);
        attrs =
            ap (attrs_of from.tree) key_is ∙ ap (λ o. unwrap_or (option_map node_attrs o) []) labelled
            ∙ sym (attrs_styled parent key spot.label) ∙ ap (λ (n : Keyed StyledNode). attrs_in n.label) (sym is);
      }

  -- the trees that come first below a node, and those after it, stand at the links that the document has there
  pub next_first : (parent : Option Style) (key : ℕ) (r : Forest (Keyed StyledNode)) → styled_trees from.style from.start parent (after_of from.tree key) ≡ r → next_sibling_of from.tree key ≡ first_key r
  next_first parent key r e = sym (styled_first parent (after_of from.tree key)) ∙ ap first_key e

  pub child_first : (parent : Option Style) (key : ℕ) (c : Forest (Keyed StyledNode)) → styled_trees from.style from.start parent (children_of from.tree key) ≡ c → first_child_of from.tree key ≡ first_key c
  child_first parent key c e = sym (styled_first parent (children_of from.tree key)) ∙ ap first_key e
