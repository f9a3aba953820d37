-- The boxes of an element, under other keys.
use Rattle.std.proofs.Common.{◌≡◌, ◌∷◌, ℕ, pos, List, [], Bool, false, cond, Option, Some, None, map, refl, ap, ◌∙◌}
use Rattle.std.specs.Prelude.{filter, fold, option_map, unwrap_or}
use Rattle.std.specs.List.{join_by}
use Rattle.plain_types.specs.declared.attr.Attr.{Attr}
use Rattle.plain_types.specs.declared.box_id.BoxId.{BoxId}
use Rattle.plain_types.specs.declared.box_kind.BoxKind.{BoxKind}
use Rattle.plain_types.specs.declared.box_kind.BoxKind.TheVariants as kind
use Rattle.plain_types.specs.declared.content.Item.{Item}
use Rattle.plain_types.specs.declared.content.Item.TheVariants as item
use Rattle.plain_types.specs.declared.counter.Counter.{Counter}
use Rattle.plain_types.specs.declared.counter_style.CounterStyle.{CounterStyle}
use Rattle.plain_types.specs.declared.style.ListType.{ListType}
use Rattle.plain_types.specs.declared.style.ListType.TheVariants as list_type
use Rattle.plain_types.specs.declared.style.Quotes.{Quotes}
use Rattle.plain_types.specs.declared.style.Style.{Style}
use Rattle.plain_types.specs.declared.style_ref.StyleRef.{StyleRef}
use Rattle.css_definitions.specs.Representation.{marker_text}
use Rattle.counter_sets.specs.Sets.{is_named}
use Rattle.content_eval.specs.Contents.{counter_text, depth_behind, generated, innermost_text, joined_text, piece_of, pieces, set_behind}
use Rattle.content_eval.specs.declared.generated.Generated.{Generated}
use Rattle.content_eval.specs.declared.generated.Piece.{Piece}
use Rattle.content_eval.specs.declared.generated.Piece.TheVariants as piece
use Rattle.box_eval.specs.Boxes.{box_of, has_items, has_marker, has_pseudo_box, is_list_item}
use Rattle.box_eval.specs.Elements.{Handed, Styled, after_of, before_of, behind_marker, by_peers, children_handed, closing_of, content_of, default_content, default_text, entry_of, formed_box, inherited_by, inside, is_replaced_in, items_of, marker_content, marker_formed, marker_of, no_box, own_counted, past_formed, pseudo_counted, pseudo_formed}
use Rattle.box_eval.specs.Properties.{counted, list_item}
use Rattle.box_eval.specs.declared.counting.Counted.{Counted}
use Rattle.box_eval.specs.declared.entry.Closing.{Closing}
use Rattle.box_eval.specs.declared.entry.Entry.{Entry}
use Rattle.box_eval.specs.declared.formed.Formed.{Formed}
use Rattle.box_eval.specs.declared.made.Made.{Made}
use Rattle.generated_texts.specs.Keyings.{rekeyed_box, rekeyed_change, rekeyed_counter, rekeyed_made, rekeyed_set}
use Rattle.generated_texts.proofs.ListLemmas.{filter_map, fold_map, join_map}
use Rattle.generated_texts.proofs.Rekeyed.{AreApart}
use Rattle.generated_texts.proofs.RekeyedSets.{cond_map, counted_rekeyed, inherited_rekeyed, or_none, rekeyed_counted, rekeyed_start, same_innermost, same_peers, with_counter_rekeyed}

-- Content.
module _ (rekey : ℕ → ℕ) where
  abbrev pub rekeyed_generated : Generated → Generated
  rekeyed_generated content = record content { set = rekeyed_set rekey content.set }

  module _ (table : List CounterStyle) where
    pub same_text : (set : List Counter) (name : List ℕ) (style : StyleRef) → innermost_text table (rekeyed_set rekey set) name style ≡ innermost_text table set name style
    same_text set name style = same_innermost rekey (counter_text table style) (λ _. refl) set name []

    pub same_joined : (set : List Counter) (name between : List ℕ) (style : StyleRef) → joined_text table (rekeyed_set rekey set) name between style ≡ joined_text table set name between style
    same_joined set name between style =
        ap (join_by (counter_text table style) between) (filter_map (rekeyed_counter rekey) (is_named name) (is_named name) (λ _. refl) set)
        ∙ join_map (rekeyed_counter rekey) (counter_text table style) (counter_text table style) (λ _. refl) between (filter (is_named name) set)

    same_piece : (attrs : List Attr) (quotes : Quotes) (set : List Counter) (depth : ℕ) (what : Item) → piece_of table attrs quotes (rekeyed_set rekey set) depth what ≡ piece_of table attrs quotes set depth what
    same_piece attrs quotes set depth (item.Chars text) = refl
    same_piece attrs quotes set depth (item.Attr name) = refl
    same_piece attrs quotes set depth (item.Quote kind) = refl
    same_piece attrs quotes set depth (item.Counter name style) = ap (λ text. piece.Chars text) (same_text set name style)
    same_piece attrs quotes set depth (item.Counters name between style) = ap (λ text. piece.Chars text) (same_joined set name between style)
    same_piece attrs quotes set depth (item.TargetCounter url name style) = refl
    same_piece attrs quotes set depth (item.TargetCounters url name between style) = refl
    same_piece attrs quotes set depth (item.TargetText url part) = refl

    same_default : (type : ListType) (set : List Counter) → default_text table type (rekeyed_set rekey set) ≡ default_text table type set
    same_default (list_type.Chars text) set = refl
    same_default (list_type.Style style) set = ap (marker_text table style) (same_innermost rekey (λ (counter : Counter). counter.value) (λ _. refl) set list_item (pos 0))

    default_rekeyed : (type : ListType) (set : List Counter) (depth : ℕ) → default_content table type (rekeyed_set rekey set) depth ≡ rekeyed_generated (default_content table type set depth)
    default_rekeyed type set depth = ap (λ text. record (rekeyed_generated (default_content table type set depth)) { pieces = piece.Chars text ∷ [] }) (same_default type set)

  module _ (old new : Counter → Bool) (tied : (counter : Counter) → new (rekeyed_counter rekey counter) ≡ old counter) (box : BoxId) where
    behind_rekeyed : (set : List Counter) (what : Item) → set_behind new (rekeyed_box rekey box) (rekeyed_set rekey set) what ≡ rekeyed_set rekey (set_behind old box set what)
    behind_rekeyed set (item.Chars text) = refl
    behind_rekeyed set (item.Attr name) = refl
    behind_rekeyed set (item.Quote kind) = refl
    behind_rekeyed set (item.Counter name style) = with_counter_rekeyed rekey old new tied box set name
    behind_rekeyed set (item.Counters name between style) = with_counter_rekeyed rekey old new tied box set name
    behind_rekeyed set (item.TargetCounter url name style) = refl
    behind_rekeyed set (item.TargetCounters url name between style) = refl
    behind_rekeyed set (item.TargetText url part) = refl

    module _ (table : List CounterStyle) (attrs : List Attr) (quotes : Quotes) where
      same_pieces : (items : List Item) (set : List Counter) (depth : ℕ) → pieces table attrs quotes new (rekeyed_box rekey box) (rekeyed_set rekey set) depth items ≡ pieces table attrs quotes old box set depth items
      same_pieces [] set depth = refl
      same_pieces (first ∷ items) set depth =
          let behind = set_behind old box set first in
          ap (λ after. piece_of table attrs quotes after depth first ∷ pieces table attrs quotes new (rekeyed_box rekey box) after (depth_behind depth first) items) (behind_rekeyed set first)
          ∙ ap (λ (one : Piece). one ∷ pieces table attrs quotes new (rekeyed_box rekey box) (rekeyed_set rekey behind) (depth_behind depth first) items) (same_piece table attrs quotes behind depth first)
          ∙ ap (λ rest. piece_of table attrs quotes behind depth first ∷ rest) (same_pieces items behind (depth_behind depth first))

      generated_rekeyed : (items : List Item) (set : List Counter) (depth : ℕ) → generated table items attrs quotes (rekeyed_box rekey box) new (rekeyed_set rekey set) depth ≡ rekeyed_generated (generated table items attrs quotes box old set depth)
      generated_rekeyed items set depth =
          let make : List Piece → List Counter → Generated = λ pieces set. record { pieces = pieces; set = set; depth = fold depth_behind depth items } in
          ap (λ all. make all (fold (set_behind new (rekeyed_box rekey box)) (rekeyed_set rekey set) items)) (same_pieces items set depth)
          ∙ ap (make (pieces table attrs quotes old box set depth items)) (fold_map (rekeyed_set rekey) (set_behind old box) (set_behind new (rekeyed_box rekey box)) behind_rekeyed items set)

-- What boxes are made of, and hand on.
module _ (rekey : ℕ → ℕ) where
  abbrev pub rekeyed_formed : Formed → Formed
  rekeyed_formed formed = record { made = option_map (rekeyed_made rekey) formed.made; depth = formed.depth }

  abbrev pub rekeyed_handed : Handed → Handed
  rekeyed_handed handed = record {
    parent = rekeyed_set rekey handed.parent;
    earlier = map (rekeyed_box rekey) handed.earlier;
    sibling = option_map (rekeyed_set rekey) handed.sibling;
    preceding = option_map (rekeyed_set rekey) handed.preceding;
    depth = handed.depth;
  }

  abbrev pub rekeyed_styled : Styled → Styled
  rekeyed_styled element = record element { starts = map (rekeyed_start rekey) element.starts }

  abbrev pub rekeyed_opening : Entry → Entry
  rekeyed_opening entry = record {
    own = rekeyed_set rekey entry.own;
    changes = map (rekeyed_change rekey) entry.changes;
    marker = option_map (rekeyed_made rekey) entry.marker;
    before = option_map (rekeyed_made rekey) entry.before;
    depth = entry.depth;
  }

  abbrev pub rekeyed_closing : Closing → Closing
  rekeyed_closing closing = record { after = option_map (rekeyed_made rekey) closing.after; exit = rekeyed_set rekey closing.exit; depth = closing.depth }

  past_made : (box : BoxId) (made : Option Made) (depth : ℕ) (handed : Handed) → past_formed (rekeyed_box rekey box) (record { made = option_map (rekeyed_made rekey) made; depth = depth }) (rekeyed_handed handed) ≡ rekeyed_handed (past_formed box (record { made = made; depth = depth }) handed)
  past_made box None depth handed = refl
  past_made box (Some made) depth handed = refl

  past_rekeyed : (box : BoxId) (formed : Formed) (handed : Handed) → past_formed (rekeyed_box rekey box) (rekeyed_formed formed) (rekeyed_handed handed) ≡ rekeyed_handed (past_formed box formed handed)
  past_rekeyed box formed handed = past_made box formed.made formed.depth handed

  -- The boxes of an element.
  module _ (apart : AreApart rekey) (table : List CounterStyle) (key : ℕ) (element : Styled) where
    abbrev new_key : ℕ
    new_key = rekey key

    abbrev new_element : Styled
    new_element = rekeyed_styled element

    tied : (which : BoxKind) (handed : Handed) (counter : Counter) → is_replaced_in table by_peers new_key new_element which (rekeyed_handed handed) (rekeyed_counter rekey counter) ≡ is_replaced_in table by_peers key element which handed counter
    tied which handed counter = same_peers rekey apart (box_of key which ∷ handed.earlier) counter

    counted_in : (which : BoxKind) (is_item : Bool) (style : Style) (handed : Handed)
        → counted (is_replaced_in table by_peers new_key new_element which (rekeyed_handed handed)) (box_of new_key which) new_element.starts is_item style (inherited_by (rekeyed_handed handed))
        ≡ rekeyed_counted rekey (counted (is_replaced_in table by_peers key element which handed) (box_of key which) element.starts is_item style (inherited_by handed))
    counted_in which is_item style handed =
        ap (counted (is_replaced_in table by_peers new_key new_element which (rekeyed_handed handed)) (box_of new_key which) new_element.starts is_item style) (inherited_rekeyed rekey apart handed.parent handed.sibling handed.preceding)
        ∙ counted_rekeyed rekey (is_replaced_in table by_peers key element which handed) (is_replaced_in table by_peers new_key new_element which (rekeyed_handed handed)) (tied which handed) (box_of key which) apart element.starts is_item style (inherited_by handed)

    content_rekeyed : (which : BoxKind) (style : Style) (set : List Counter) (handed : Handed) → content_of table by_peers new_key new_element which style (rekeyed_set rekey set) (rekeyed_handed handed) ≡ rekeyed_generated rekey (content_of table by_peers key element which style set handed)
    content_rekeyed which style set handed =
        generated_rekeyed rekey (is_replaced_in table by_peers key element which handed) (is_replaced_in table by_peers new_key new_element which (rekeyed_handed handed)) (tied which handed) (box_of key which) table element.attrs style.quotes (items_of style.content) set handed.depth

    pub own_rekeyed : (handed : Handed) → own_counted table by_peers new_key new_element (rekeyed_handed handed) ≡ rekeyed_counted rekey (own_counted table by_peers key element handed)
    own_rekeyed handed = counted_in kind.Element (is_list_item element.style.own.display) element.style.own handed

    marker_content_rekeyed : (handed : Handed) → marker_content table by_peers new_key new_element (rekeyed_handed handed) ≡ rekeyed_generated rekey (marker_content table by_peers key element handed)
    marker_content_rekeyed handed =
        let has = has_items element.style.marker.content in
        let set = inherited_by handed in
        let content = content_of table by_peers key element kind.Marker element.style.marker set handed in
        ap (λ inherited. cond has (content_of table by_peers new_key new_element kind.Marker element.style.marker inherited (rekeyed_handed handed)) (default_content table element.style.own.list_type inherited handed.depth)) (inherited_rekeyed rekey apart handed.parent handed.sibling handed.preceding)
        ∙ ap (λ one. cond has one (default_content table element.style.own.list_type (rekeyed_set rekey set) handed.depth)) (content_rekeyed kind.Marker element.style.marker set handed)
        ∙ ap (cond has (rekeyed_generated rekey content)) (default_rekeyed rekey table element.style.own.list_type set handed.depth)
        ∙ cond_map (rekeyed_generated rekey) has content (default_content table element.style.own.list_type set handed.depth)

    marker_formed_rekeyed : (handed : Handed) → marker_formed table by_peers new_key new_element (rekeyed_handed handed) ≡ rekeyed_formed (marker_formed table by_peers key element handed)
    marker_formed_rekeyed handed =
        ap (λ content. cond (has_marker element.style) (formed_box [] content) (no_box handed.depth)) (marker_content_rekeyed handed)
        ∙ cond_map rekeyed_formed (has_marker element.style) (formed_box [] (marker_content table by_peers key element handed)) (no_box handed.depth)

    pseudo_rekeyed : (which : BoxKind) (style : Style) (handed : Handed) → pseudo_formed table by_peers new_key new_element which style (rekeyed_handed handed) ≡ rekeyed_formed (pseudo_formed table by_peers key element which style handed)
    pseudo_rekeyed which style handed =
        let has = has_pseudo_box style in
        let counted = pseudo_counted table by_peers key element which style handed in
        ap (λ (one : Counted). cond has (formed_box one.changes (content_of table by_peers new_key new_element which style one.set (rekeyed_handed handed))) (no_box handed.depth)) (counted_in which false style handed)
        ∙ ap (λ content. cond has (formed_box (map (rekeyed_change rekey) counted.changes) content) (no_box handed.depth)) (content_rekeyed which style counted.set handed)
        ∙ cond_map rekeyed_formed has (formed_box counted.changes (content_of table by_peers key element which style counted.set handed)) (no_box handed.depth)

    marker_rekeyed : (handed : Handed) → marker_of table by_peers new_key new_element (rekeyed_handed handed) ≡ rekeyed_formed (marker_of table by_peers key element handed)
    marker_rekeyed handed =
        ap (λ (own : Counted). marker_formed table by_peers new_key new_element (inside own.set handed.depth)) (own_rekeyed handed)
        ∙ marker_formed_rekeyed (inside (own_counted table by_peers key element handed).set handed.depth)

    behind_marker_rekeyed : (handed : Handed) → behind_marker table by_peers new_key new_element (rekeyed_handed handed) ≡ rekeyed_handed (behind_marker table by_peers key element handed)
    behind_marker_rekeyed handed =
        let around = inside (own_counted table by_peers key element handed).set handed.depth in
        ap (λ (own : Counted). past_formed (box_of new_key kind.Marker) (marker_of table by_peers new_key new_element (rekeyed_handed handed)) (inside own.set handed.depth)) (own_rekeyed handed)
        ∙ ap (λ formed. past_formed (box_of new_key kind.Marker) formed (rekeyed_handed around)) (marker_rekeyed handed)
        ∙ past_rekeyed (box_of key kind.Marker) (marker_of table by_peers key element handed) around

    before_rekeyed : (handed : Handed) → before_of table by_peers new_key new_element (rekeyed_handed handed) ≡ rekeyed_formed (before_of table by_peers key element handed)
    before_rekeyed handed =
        ap (pseudo_formed table by_peers new_key new_element kind.Before element.style.before) (behind_marker_rekeyed handed)
        ∙ pseudo_rekeyed kind.Before element.style.before (behind_marker table by_peers key element handed)

    -- what the children are handed, and the element on both sides of them
    pub children_rekeyed : (handed : Handed) → children_handed table by_peers new_key new_element (rekeyed_handed handed) ≡ rekeyed_handed (children_handed table by_peers key element handed)
    children_rekeyed handed =
        let next = behind_marker table by_peers key element handed in
        ap (past_formed (box_of new_key kind.Before) (before_of table by_peers new_key new_element (rekeyed_handed handed))) (behind_marker_rekeyed handed)
        ∙ ap (λ formed. past_formed (box_of new_key kind.Before) formed (rekeyed_handed next)) (before_rekeyed handed)
        ∙ past_rekeyed (box_of key kind.Before) (before_of table by_peers key element handed) next

    pub opening_rekeyed : (handed : Handed) → entry_of table by_peers new_key new_element (rekeyed_handed handed) ≡ rekeyed_opening (entry_of table by_peers key element handed)
    opening_rekeyed handed =
        let make : Counted → Formed → Formed → Entry = λ own marker before. record { own = own.set; changes = own.changes; marker = marker.made; before = before.made; depth = before.depth } in
        let own = rekeyed_counted rekey (own_counted table by_peers key element handed) in
        let marker = rekeyed_formed (marker_of table by_peers key element handed) in
        ap (λ one. make one (marker_of table by_peers new_key new_element (rekeyed_handed handed)) (before_of table by_peers new_key new_element (rekeyed_handed handed))) (own_rekeyed handed)
        ∙ ap (λ one. make own one (before_of table by_peers new_key new_element (rekeyed_handed handed))) (marker_rekeyed handed)
        ∙ ap (make own marker) (before_rekeyed handed)

    pub closing_rekeyed : (handed : Handed) → closing_of table by_peers new_key new_element (rekeyed_handed handed) ≡ rekeyed_closing (closing_of table by_peers key element handed)
    closing_rekeyed handed =
        let make : Formed → List Counter → Closing = λ formed exit. record { after = formed.made; exit = exit; depth = formed.depth } in
        let after = after_of table by_peers key element handed in
        ap (λ formed. make formed (unwrap_or (past_formed (box_of new_key kind.After) formed (rekeyed_handed handed)).preceding [])) (pseudo_rekeyed kind.After element.style.after handed)
        ∙ ap (λ (next : Handed). make (rekeyed_formed after) (unwrap_or next.preceding [])) (past_rekeyed (box_of key kind.After) after handed)
        ∙ ap (make (rekeyed_formed after)) (or_none rekey apart (past_formed (box_of key kind.After) after handed).preceding)
