-- The evaluation says the same of the elements of same documents.
use Rattle.std.proofs.Common.{◌≡◌, ◌∷◌, ◌++◌, ℕ, ℤ, List, [], Bool, true, false, cond, fold, unwrap_or, Option, Some, None, refl, ap, ap₂, ◌∙◌}
use Rattle.std.proofs.Math.Path.{fun_ext}
use Rattle.forest.specs.Forest.{Forest, Tree}
use Rattle.forest.specs.Keys.{Keyed}
use Rattle.plain_types.specs.declared.attr.Attr.{Attr}
use Rattle.plain_types.specs.declared.box_id.BoxId.{BoxId}
use Rattle.plain_types.specs.declared.box_kind.BoxKind.{BoxKind}
use Rattle.plain_types.specs.declared.box_kind.BoxKind.TheVariants as kind
use Rattle.plain_types.specs.declared.content.Item.{Item}
use Rattle.plain_types.specs.declared.content.Item.TheVariants as item
use Rattle.plain_types.specs.declared.content.Url.{Url}
use Rattle.plain_types.specs.declared.content.Url.TheVariants.{Given, FromAttr}
use Rattle.plain_types.specs.declared.counter.Counter.{Counter}
use Rattle.plain_types.specs.declared.counter_style.CounterStyle.{CounterStyle}
use Rattle.plain_types.specs.declared.node.Node.{Node}
use Rattle.plain_types.specs.declared.sheet.Sheet.{Sheet}
use Rattle.plain_types.specs.declared.style.ElementStyle.{ElementStyle}
use Rattle.plain_types.specs.declared.style.Quotes.{Quotes}
use Rattle.plain_types.specs.declared.style.Style.{Style}
use Rattle.content_eval.specs.Contents.{depth_behind, piece_of, pieces, set_behind, url_of}
use Rattle.content_eval.specs.declared.generated.Generated.{Generated}
use Rattle.content_eval.specs.declared.generated.Piece.{Piece}
use Rattle.content_eval.specs.declared.generated.Piece.TheVariants as piece
use Rattle.box_eval.specs.Boxes.{box_of, has_items, has_marker, has_pseudo_box}
use Rattle.box_eval.specs.Elements.{Handed, Replacing, Styled, at_root, before_of, behind_marker, by_peers, children_handed, closing_of, content_of, default_content, entry_of, formed_box, inherited_by, inside, is_replaced_in, items_of, marker_formed, marker_of, no_box, own_counted, past, past_formed, pseudo_counted, pseudo_formed}
use Rattle.box_eval.specs.Evaluation.{Element, StyledNode, Text, changes, changes_in, element_starts, evaluation, first_changes, is_boxed, last_changes, past_node, past_trees, record_of, records, records_of, styled, styled_trees, within}
use Rattle.box_eval.specs.Starts.{document_records, document_starts, no_starts, starts_by}
use Rattle.box_eval.specs.declared.element_record.ElementRecord.{ElementRecord}
use Rattle.box_eval.specs.declared.entry.Closing.{Closing}
use Rattle.box_eval.specs.declared.entry.Entry.{Entry}
use Rattle.box_eval.specs.declared.formed.Formed.{Formed}
use Rattle.box_eval.specs.declared.inputs.Start.{Start}
use Rattle.generated_texts.specs.Documents.{counter_styles, document_evaluation, document_style}
use Rattle.same_documents.specs.Sameness.{AreSameAttrs, AreSameKeyed}
use Rattle.same_texts.proofs.Pairing.{both_trees}
use Rattle.same_texts.proofs.SameStyles.{style_same}

-- One element with other attributes that are the same by name.
module _ (table : List CounterStyle) (attrs others : List Attr) (same : AreSameAttrs attrs others) where
  url_same : (url : Url) → url_of attrs url ≡ url_of others url
  url_same (Given url) = refl
  url_same (FromAttr name) = ap (λ value. unwrap_or value []) (same name)

  piece_same : (quotes : Quotes) (set : List Counter) (depth : ℕ) (what : Item) → piece_of table attrs quotes set depth what ≡ piece_of table others quotes set depth what
  piece_same quotes set depth (item.Chars text) = refl
  piece_same quotes set depth (item.Attr name) = ap (λ value. piece.Chars (unwrap_or value [])) (same name)
  piece_same quotes set depth (item.Quote kind) = refl
  piece_same quotes set depth (item.Counter name style) = refl
  piece_same quotes set depth (item.Counters name between style) = refl
  piece_same quotes set depth (item.TargetCounter url name style) = ap (λ text. piece.TargetCounter text name style) (url_same url)
  piece_same quotes set depth (item.TargetCounters url name between style) = ap (λ text. piece.TargetCounters text name between style) (url_same url)
  piece_same quotes set depth (item.TargetText url part) = ap (λ text. piece.TargetText text part) (url_same url)

  pieces_same : (quotes : Quotes) (is_replaced : Counter → Bool) (creator : BoxId) (set : List Counter) (depth : ℕ) (items : List Item) → pieces table attrs quotes is_replaced creator set depth items ≡ pieces table others quotes is_replaced creator set depth items
  pieces_same quotes is_replaced creator set depth [] = refl
  pieces_same quotes is_replaced creator set depth (first ∷ items) =
      ap₂ (λ one rest. one ∷ rest) (piece_same quotes (set_behind is_replaced creator set first) depth first)
      (pieces_same quotes is_replaced creator (set_behind is_replaced creator set first) (depth_behind depth first) items)

  module _ (replacing : Replacing) (key : ℕ) (style : ElementStyle) (starts : List Start) where
    abbrev one : Styled
    one = record { attrs = attrs; style = style; starts = starts }

    abbrev two : Styled
    two = record { attrs = others; style = style; starts = starts }

    content_same : (kind : BoxKind) (own : Style) (set : List Counter) (handed : Handed) → content_of table replacing key one kind own set handed ≡ content_of table replacing key two kind own set handed
    content_same kind own set handed =
        let creator = box_of key kind in
        let is_replaced = is_replaced_in table replacing key one kind handed in
        let items = items_of own.content in
        let make : List Piece → Generated = λ all. record {
          pieces = all;
          set = fold (set_behind is_replaced creator) set items;
          depth = fold depth_behind handed.depth items;
        } in
        ap make (pieces_same own.quotes is_replaced creator set handed.depth items)

    marker_formed_same : (handed : Handed) → marker_formed table replacing key one handed ≡ marker_formed table replacing key two handed
    marker_formed_same handed =
        ap (λ content. cond (has_marker style) (formed_box [] (cond (has_items style.marker.content) content (default_content table style.own.list_type (inherited_by handed) handed.depth))) (no_box handed.depth))
        (content_same kind.Marker style.marker (inherited_by handed) handed)

    pseudo_same : (kind : BoxKind) (own : Style) (handed : Handed) → pseudo_formed table replacing key one kind own handed ≡ pseudo_formed table replacing key two kind own handed
    pseudo_same kind own handed =
        let counted = pseudo_counted table replacing key one kind own handed in
        ap (λ content. cond (has_pseudo_box own) (formed_box counted.changes content) (no_box handed.depth)) (content_same kind own counted.set handed)

    marker_same : (handed : Handed) → marker_of table replacing key one handed ≡ marker_of table replacing key two handed
    marker_same handed = marker_formed_same (inside (own_counted table replacing key one handed).set handed.depth)

    behind_same : (handed : Handed) → behind_marker table replacing key one handed ≡ behind_marker table replacing key two handed
    behind_same handed = ap (λ formed. past_formed (box_of key kind.Marker) formed (inside (own_counted table replacing key one handed).set handed.depth)) (marker_same handed)

    before_same : (handed : Handed) → before_of table replacing key one handed ≡ before_of table replacing key two handed
    before_same handed =
        ap (pseudo_formed table replacing key one kind.Before style.before) (behind_same handed)
        ∙ pseudo_same kind.Before style.before (behind_marker table replacing key two handed)

    inner_same : (handed : Handed) → children_handed table replacing key one handed ≡ children_handed table replacing key two handed
    inner_same handed = ap₂ (past_formed (box_of key kind.Before)) (before_same handed) (behind_same handed)

    entry_same : (handed : Handed) → entry_of table replacing key one handed ≡ entry_of table replacing key two handed
    entry_same handed =
        let counted = own_counted table replacing key one handed in
        let make : Formed → Formed → Entry = λ marker before. record {
          own = counted.set;
          changes = counted.changes;
          marker = marker.made;
          before = before.made;
          depth = before.depth;
        } in
        ap₂ make (marker_same handed) (before_same handed)

    closing_same : (handed : Handed) → closing_of table replacing key one handed ≡ closing_of table replacing key two handed
    closing_same handed =
        let make : Formed → Closing = λ after. record {
          after = after.made;
          exit = unwrap_or (past_formed (box_of key kind.After) after handed).preceding [];
          depth = after.depth;
        } in
        ap make (pseudo_same kind.After style.after handed)

-- Two nodes with one key of which the same is said.
module _ (table : List CounterStyle) where
  record AreTold (key : ℕ) (label other : StyledNode) : Type 0 where
    pub boxed : (has : Bool) → is_boxed has label ≡ is_boxed has other
    pub inner : (has : Bool) (handed : Handed) → within table by_peers has key label handed ≡ within table by_peers has key other handed
    pub next : (has : Bool) (handed behind : Handed) → past_node table by_peers has key label handed behind ≡ past_node table by_peers has key other handed behind
    pub said : (has : Bool) (handed behind : Handed) → records_of table by_peers has key label handed behind ≡ records_of table by_peers has key other handed behind
    pub first : (has : Bool) (handed : Handed) → first_changes table by_peers has key label handed ≡ first_changes table by_peers has key other handed
    pub last : (has : Bool) (behind : Handed) → last_changes table by_peers has key label behind ≡ last_changes table by_peers has key other behind

  texts_told : (key : ℕ) → AreTold key Text Text
  texts_told key = record {
    boxed = λ has. refl;
    inner = λ has handed. refl;
    next = λ has handed behind. refl;
    said = λ has handed behind. refl;
    first = λ has handed. refl;
    last = λ has behind. refl;
  }

  module _ (key : ℕ) (attrs others : List Attr) (same : AreSameAttrs attrs others) (style : ElementStyle) (starts : List Start) where
    abbrev element : Styled
    element = record { attrs = attrs; style = style; starts = starts }

    abbrev other : Styled
    other = record { attrs = others; style = style; starts = starts }

    opened : (handed : Handed) → entry_of table by_peers key element handed ≡ entry_of table by_peers key other handed
    opened = entry_same table attrs others same by_peers key style starts

    closed : (handed : Handed) → closing_of table by_peers key element handed ≡ closing_of table by_peers key other handed
    closed = closing_same table attrs others same by_peers key style starts

    inner_told : (has : Bool) (handed : Handed) → within table by_peers has key (Element element) handed ≡ within table by_peers has key (Element other) handed
    inner_told true handed = inner_same table attrs others same by_peers key style starts handed
    inner_told false handed = refl

    next_told : (has : Bool) (handed behind : Handed) → past_node table by_peers has key (Element element) handed behind ≡ past_node table by_peers has key (Element other) handed behind
    next_told true handed behind = ap₂ (λ (entry : Entry) (closing : Closing). past (box_of key kind.Element) entry.own closing.exit closing.depth handed) (opened handed) (closed behind)
    next_told false handed behind = refl

    record_told : (has : Bool) (handed behind : Handed) → record_of table by_peers has key element handed behind ≡ record_of table by_peers has key other handed behind
    record_told true handed behind =
        let make : Entry → Closing → ElementRecord = λ entry closing. record {
          has_box = true;
          own = entry.own;
          exit = closing.exit;
          depth_before = handed.depth;
          depth_after = closing.depth;
          marker = entry.marker;
          before = entry.before;
          after = closing.after;
        } in
        ap₂ make (opened handed) (closed behind)
    record_told false handed behind = refl

    first_told : (has : Bool) (handed : Handed) → first_changes table by_peers has key (Element element) handed ≡ first_changes table by_peers has key (Element other) handed
    first_told true handed = ap (λ (entry : Entry). entry.changes ++ changes_in entry.before) (opened handed)
    first_told false handed = refl

    last_told : (has : Bool) (behind : Handed) → last_changes table by_peers has key (Element element) behind ≡ last_changes table by_peers has key (Element other) behind
    last_told true behind = ap (λ (closing : Closing). changes_in closing.after) (closed behind)
    last_told false behind = refl

    elements_told : AreTold key (Element element) (Element other)
    elements_told = record {
      boxed = λ has. refl;
      inner = inner_told;
      next = next_told;
      said = λ has handed behind. ap (λ record_said. (key, record_said) ∷ []) (record_told has handed behind);
      first = first_told;
      last = last_told;
    }

  -- Trees side by side.

  record AreSaid (boxed : Bool) (handed : Handed) (x y : Forest (Keyed StyledNode)) : Type 0 where
    pub past : past_trees table by_peers boxed handed x ≡ past_trees table by_peers boxed handed y
    pub records : records table by_peers boxed handed x ≡ records table by_peers boxed handed y
    pub changes : changes table by_peers boxed handed x ≡ changes table by_peers boxed handed y

  abbrev AlwaysSaid : Forest (Keyed StyledNode) → Forest (Keyed StyledNode) → Type 0
  AlwaysSaid x y = (boxed : Bool) (handed : Handed) → AreSaid boxed handed x y

  module _ (key : ℕ) (label other : StyledNode) (told : AreTold key label other) (c d r s : Forest (Keyed StyledNode)) (below : AlwaysSaid c d) (beside : AlwaysSaid r s) (boxed : Bool) (handed : Handed) where
    abbrev has : Bool
    has = is_boxed boxed label

    abbrev first_in : Bool → Handed
    first_in b = within table by_peers b key other handed

    abbrev behind_in : Bool → Handed
    behind_in b = past_trees table by_peers b (first_in b) d

    abbrev next_in : Bool → Handed
    next_in b = past_node table by_peers b key other handed (behind_in b)

    abbrev behind_was : Handed
    behind_was = past_trees table by_peers has (within table by_peers has key label handed) c

    behind_is : behind_was ≡ behind_in has
    behind_is = ap (λ first. past_trees table by_peers has first c) (told.inner has handed) ∙ (below has (first_in has)).past

    next_is : past_node table by_peers has key label handed behind_was ≡ next_in has
    next_is = ap (past_node table by_peers has key label handed) behind_is ∙ told.next has handed (behind_in has)

    tree_said : AreSaid boxed handed (Tree (record { key = key; label = label }) c r) (Tree (record { key = key; label = other }) d s)
    tree_said = record {
      past =
          ap (λ next. past_trees table by_peers boxed next r) next_is ∙ (beside boxed (next_in has)).past
          ∙ ap (λ b. past_trees table by_peers boxed (next_in b) s) (told.boxed boxed);
      records =
          ap₂ (λ under rest. under ++ rest) (ap (λ first. records table by_peers has first c) (told.inner has handed) ∙ (below has (first_in has)).records)
          (ap₂ (λ own rest. own ++ rest) (ap (records_of table by_peers has key label handed) behind_is ∙ told.said has handed (behind_in has))
          (ap (λ next. records table by_peers boxed next r) next_is ∙ (beside boxed (next_in has)).records))
          ∙ ap (λ b. records table by_peers b (first_in b) d ++ (records_of table by_peers b key other handed (behind_in b) ++ records table by_peers boxed (next_in b) s)) (told.boxed boxed);
      changes =
          ap₂ (λ own rest. own ++ rest) (told.first has handed)
          (ap₂ (λ under rest. under ++ rest) (ap (λ first. changes table by_peers has first c) (told.inner has handed) ∙ (below has (first_in has)).changes)
          (ap₂ (λ own rest. own ++ rest) (ap (last_changes table by_peers has key label) behind_is ∙ told.last has (behind_in has))
          (ap (λ next. changes table by_peers boxed next r) next_is ∙ (beside boxed (next_in has)).changes)))
          ∙ ap (λ b.
          first_changes table by_peers b key other handed
          ++ (changes table by_peers b (first_in b) d ++ (last_changes table by_peers b key other (behind_in b) ++ changes table by_peers boxed (next_in b) s))) (told.boxed boxed);
    }

  module _ (style : ℕ → Option Style → ElementStyle) (start : BoxId → List ℕ → ℤ) where
    abbrev StyledSaid : Forest (Keyed Node) → Forest (Keyed Node) → Type 0
    StyledSaid x y = (parent : Option Style) → AlwaysSaid (styled_trees style start parent x) (styled_trees style start parent y)

    styled_said : (x y : Forest (Keyed Node)) → AreSameKeyed x y → StyledSaid x y
    styled_said = both_trees StyledSaid (λ parent boxed handed. record { past = refl; records = refl; changes = refl })
        (λ key name attrs others c d r s same down on below beside parent.
        tree_said key
        (Element (record { attrs = attrs; style = style key parent; starts = element_starts start key (style key parent) }))
        (Element (record { attrs = others; style = style key parent; starts = element_starts start key (style key parent) }))
        (elements_told key attrs others same (style key parent) (element_starts start key (style key parent)))
        (styled_trees style start (Some (style key parent).own) c) (styled_trees style start (Some (style key parent).own) d) (styled_trees style start parent r) (styled_trees style start parent s)
        (below (Some (style key parent).own)) (beside parent))
        (λ key characters c d r s down on below beside parent.
        tree_said key Text Text (texts_told key) (styled_trees style start parent c) (styled_trees style start parent d) (styled_trees style start parent r) (styled_trees style start parent s) (below parent) (beside parent))

  -- A whole document.
  module _ (style : ℕ → Option Style → ElementStyle) (document other : Forest (Keyed Node)) (same : AreSameKeyed document other) where
    starts_same : document_starts table style document ≡ document_starts table style other
    starts_same = ap starts_by (styled_said style no_starts document other same None true at_root).changes

    document_same : document_records table style document ≡ document_records table style other
    document_same =
        ap (λ start. evaluation table (styled style start document)) starts_same
        ∙ (styled_said style (document_starts table style other) document other same None true at_root).records

pub evaluation_same : (author : Sheet) (document other : Forest (Keyed Node)) → AreSameKeyed document other → document_evaluation author document ≡ document_evaluation author other
evaluation_same author document other same =
    ap (λ style. document_records (counter_styles author) style document) (fun_ext (λ key. fun_ext (λ parent. style_same author document other same key parent)))
    ∙ document_same (counter_styles author) (document_style author other) document other same
