-- The evaluation of documents, under other keys.
use Rattle.std.proofs.Common.{◌≡◌, ◌∷◌, ◌++◌, ◌&&◌, ℕ, ℤ, List, [], Bool, true, false, cond, not, Option, Some, None, map, refl, sym, ap, ◌∙◌}
use Rattle.std.proofs.lemmas.List.{map-append}
use Rattle.std.specs.Prelude.{filter, is_some, option_map}
use Rattle.std.specs.Str.{bytes_eq}
use Rattle.forest.specs.Forest.{Forest, Empty, Tree, map_labels}
use Rattle.forest.specs.Keys.{Keyed}
use Rattle.plain_types.specs.declared.box_id.BoxId.{BoxId}
use Rattle.plain_types.specs.declared.box_kind.BoxKind.TheVariants as kind
use Rattle.plain_types.specs.declared.counter_style.CounterStyle.{CounterStyle}
use Rattle.plain_types.specs.declared.node.Node.{Node}
use Rattle.plain_types.specs.declared.node.Node.TheVariants as node
use Rattle.plain_types.specs.declared.style.ElementStyle.{ElementStyle}
use Rattle.plain_types.specs.declared.style.ResetOp.{ResetOp}
use Rattle.plain_types.specs.declared.style.Style.{Style}
use Rattle.counter_sets.specs.Sets.{is_same_box}
use Rattle.reversed_start.specs.Starts.{start}
use Rattle.box_eval.specs.Boxes.{box_of, generates_box, has_pseudo_box}
use Rattle.box_eval.specs.Elements.{Handed, Styled, at_root, by_peers, closing_of, entry_of, past}
use Rattle.box_eval.specs.Evaluation.{Element, StyledNode, Text, all_changes, box_starts, changes, changes_in, element_starts, evaluation, first_changes, is_boxed, last_changes, past_node, past_trees, record_of, records, records_of, style_within, styled, styled_node, styled_trees, within}
use Rattle.box_eval.specs.Properties.{last_resets}
use Rattle.box_eval.specs.Starts.{document_records, document_starts, events_of, no_starts, started, starts_by}
use Rattle.box_eval.specs.declared.change.Change.{Change}
use Rattle.box_eval.specs.declared.element_record.ElementRecord.{ElementRecord}
use Rattle.box_eval.specs.declared.entry.Closing.{Closing}
use Rattle.box_eval.specs.declared.entry.Entry.{Entry}
use Rattle.box_eval.specs.declared.inputs.Start.{Start}
use Rattle.box_eval.specs.declared.made.Made.{Made}
use Rattle.generated_texts.specs.Keyings.{rekeyed, rekeyed_box, rekeyed_change, rekeyed_made, rekeyed_record, rekeyed_records}
use Rattle.generated_texts.proofs.ListLemmas.{filter_map, map_map, map_same}
use Rattle.generated_texts.proofs.Rekeyed.{AreApart}
use Rattle.generated_texts.proofs.RekeyedBoxes.{children_rekeyed, closing_rekeyed, opening_rekeyed, rekeyed_handed, rekeyed_opening, rekeyed_styled}
use Rattle.generated_texts.proofs.RekeyedSets.{cond_map, rekeyed_start, same_box}

join_two : {X Y : Type 0} (f : X → Y) (one other : List Y) (one_old other_old : List X) → one ≡ map f one_old → other ≡ map f other_old → one ++ other ≡ map f (one_old ++ other_old)
join_two f one other one_old other_old e g = ap (λ xs. xs ++ other) e ∙ ap (λ ys. map f one_old ++ ys) g ∙ sym (map-append f one_old other_old)

module _ (rekey : ℕ → ℕ) where
  abbrev pub rekeyed_label : StyledNode → StyledNode
  rekeyed_label (Element element) = Element (rekeyed_styled rekey element)
  rekeyed_label Text = Text

  abbrev pub rekeyed_trees : Forest (Keyed StyledNode) → Forest (Keyed StyledNode)
  rekeyed_trees trees = map_labels (λ (node : Keyed StyledNode). record { key = rekey node.key; label = rekeyed_label node.label }) trees

  abbrev pub with_rekeyed_record : ℕ × ElementRecord → ℕ × ElementRecord
  with_rekeyed_record entry = (rekey entry.0, rekeyed_record rekey entry.1)

  same_boxed : (boxed : Bool) (label : StyledNode) → is_boxed boxed (rekeyed_label label) ≡ is_boxed boxed label
  same_boxed boxed (Element element) = refl
  same_boxed boxed Text = refl

  changes_in_rekeyed : (made : Option Made) → changes_in (option_map (rekeyed_made rekey) made) ≡ map (rekeyed_change rekey) (changes_in made)
  changes_in_rekeyed None = refl
  changes_in_rekeyed (Some made) = refl

  -- One node.
  module _ (apart : AreApart rekey) (table : List CounterStyle) where
    within_rekeyed : (has : Bool) (key : ℕ) (label : StyledNode) (handed : Handed) → within table by_peers has (rekey key) (rekeyed_label label) (rekeyed_handed rekey handed) ≡ rekeyed_handed rekey (within table by_peers has key label handed)
    within_rekeyed true key (Element element) handed = children_rekeyed rekey apart table key element handed
    within_rekeyed true key Text handed = refl
    within_rekeyed false key (Element element) handed = refl
    within_rekeyed false key Text handed = refl

    past_node_rekeyed : (has : Bool) (key : ℕ) (label : StyledNode) (handed behind : Handed) → past_node table by_peers has (rekey key) (rekeyed_label label) (rekeyed_handed rekey handed) (rekeyed_handed rekey behind) ≡ rekeyed_handed rekey (past_node table by_peers has key label handed behind)
    past_node_rekeyed true key (Element element) handed behind =
        let box = box_of (rekey key) kind.Element in
        let new = rekeyed_styled rekey element in
        ap (λ (entry : Entry). past box entry.own (closing_of table by_peers (rekey key) new (rekeyed_handed rekey behind)).exit (closing_of table by_peers (rekey key) new (rekeyed_handed rekey behind)).depth (rekeyed_handed rekey handed)) (opening_rekeyed rekey apart table key element handed)
        ∙ ap (λ (closing : Closing). past box (rekeyed_opening rekey (entry_of table by_peers key element handed)).own closing.exit closing.depth (rekeyed_handed rekey handed)) (closing_rekeyed rekey apart table key element behind)
    past_node_rekeyed true key Text handed behind = refl
    past_node_rekeyed false key (Element element) handed behind = refl
    past_node_rekeyed false key Text handed behind = refl

    record_rekeyed : (has : Bool) (key : ℕ) (element : Styled) (handed behind : Handed) → record_of table by_peers has (rekey key) (rekeyed_styled rekey element) (rekeyed_handed rekey handed) (rekeyed_handed rekey behind) ≡ rekeyed_record rekey (record_of table by_peers has key element handed behind)
    record_rekeyed true key element handed behind =
        let make : Entry → Closing → ElementRecord = λ entry closing. record { has_box = true; own = entry.own; exit = closing.exit; depth_before = handed.depth; depth_after = closing.depth; marker = entry.marker; before = entry.before; after = closing.after } in
        ap (λ entry. make entry (closing_of table by_peers (rekey key) (rekeyed_styled rekey element) (rekeyed_handed rekey behind))) (opening_rekeyed rekey apart table key element handed)
        ∙ ap (make (rekeyed_opening rekey (entry_of table by_peers key element handed))) (closing_rekeyed rekey apart table key element behind)
    record_rekeyed false key element handed behind = refl

    records_of_rekeyed : (has : Bool) (key : ℕ) (label : StyledNode) (handed behind : Handed) → records_of table by_peers has (rekey key) (rekeyed_label label) (rekeyed_handed rekey handed) (rekeyed_handed rekey behind) ≡ rekeyed_records rekey (records_of table by_peers has key label handed behind)
    records_of_rekeyed has key (Element element) handed behind = ap (λ element. (rekey key, element) ∷ []) (record_rekeyed has key element handed behind)
    records_of_rekeyed has key Text handed behind = refl

    first_rekeyed : (has : Bool) (key : ℕ) (label : StyledNode) (handed : Handed) → first_changes table by_peers has (rekey key) (rekeyed_label label) (rekeyed_handed rekey handed) ≡ map (rekeyed_change rekey) (first_changes table by_peers has key label handed)
    first_rekeyed true key (Element element) handed =
        let entry = entry_of table by_peers key element handed in
        ap (λ (one : Entry). one.changes ++ changes_in one.before) (opening_rekeyed rekey apart table key element handed)
        ∙ join_two (rekeyed_change rekey) (map (rekeyed_change rekey) entry.changes) (changes_in (option_map (rekeyed_made rekey) entry.before)) entry.changes (changes_in entry.before) refl (changes_in_rekeyed entry.before)
    first_rekeyed true key Text handed = refl
    first_rekeyed false key (Element element) handed = refl
    first_rekeyed false key Text handed = refl

    last_rekeyed : (has : Bool) (key : ℕ) (label : StyledNode) (behind : Handed) → last_changes table by_peers has (rekey key) (rekeyed_label label) (rekeyed_handed rekey behind) ≡ map (rekeyed_change rekey) (last_changes table by_peers has key label behind)
    last_rekeyed true key (Element element) behind =
        ap (λ (closing : Closing). changes_in closing.after) (closing_rekeyed rekey apart table key element behind)
        ∙ changes_in_rekeyed (closing_of table by_peers key element behind).after
    last_rekeyed true key Text behind = refl
    last_rekeyed false key (Element element) behind = refl
    last_rekeyed false key Text behind = refl

    -- Trees side by side.

    pub record FollowKeys (boxed : Bool) (handed : Handed) (trees : Forest (Keyed StyledNode)) : Type 0 where
      pub past : past_trees table by_peers boxed (rekeyed_handed rekey handed) (rekeyed_trees trees) ≡ rekeyed_handed rekey (past_trees table by_peers boxed handed trees)
      pub records : records table by_peers boxed (rekeyed_handed rekey handed) (rekeyed_trees trees) ≡ rekeyed_records rekey (records table by_peers boxed handed trees)
      pub changes : changes table by_peers boxed (rekeyed_handed rekey handed) (rekeyed_trees trees) ≡ map (rekeyed_change rekey) (changes table by_peers boxed handed trees)

    pub follow_keys : (trees : Forest (Keyed StyledNode)) (boxed : Bool) (handed : Handed) → FollowKeys boxed handed trees
    follow_keys Empty boxed handed = record { past = refl; records = refl; changes = refl }
    follow_keys (Tree node children after) boxed handed =
        let key = node.key in
        let label = rekeyed_label node.label in
        let handed_too = rekeyed_handed rekey handed in
        let children_too = rekeyed_trees children in
        let after_too = rekeyed_trees after in
        let has = is_boxed boxed node.label in
        let has_is : is_boxed boxed label ≡ has = same_boxed boxed node.label in
        let first = within table by_peers has key node.label handed in
        let first_is : within table by_peers has (rekey key) label handed_too ≡ rekeyed_handed rekey first = within_rekeyed has key node.label handed in
        let below = follow_keys children has first in
        let behind = past_trees table by_peers has first children in
        let behind_is : past_trees table by_peers has (within table by_peers has (rekey key) label handed_too) children_too ≡ rekeyed_handed rekey behind =
        ap (λ inner. past_trees table by_peers has inner children_too) first_is ∙ below.past in
        let next = past_node table by_peers has key node.label handed behind in
        let next_is : past_node table by_peers has (rekey key) label handed_too (past_trees table by_peers has (within table by_peers has (rekey key) label handed_too) children_too) ≡ rekeyed_handed rekey next =
        ap (past_node table by_peers has (rekey key) label handed_too) behind_is ∙ past_node_rekeyed has key node.label handed behind in
        let rest = follow_keys after boxed next in
        let inner_of : Bool → Handed = λ b. within table by_peers b (rekey key) label handed_too in
        let behind_of : Bool → Handed = λ b. past_trees table by_peers b (inner_of b) children_too in
        let next_of : Bool → Handed = λ b. past_node table by_peers b (rekey key) label handed_too (behind_of b) in
        record {
          past = ap (λ b. past_trees table by_peers boxed (next_of b) after_too) has_is ∙ ap (λ onward. past_trees table by_peers boxed onward after_too) next_is ∙ rest.past;
          records =
              ap (λ b. records table by_peers b (inner_of b) children_too ++ (records_of table by_peers b (rekey key) label handed_too (behind_of b) ++ records table by_peers boxed (next_of b) after_too)) has_is
              ∙ join_two with_rekeyed_record (records table by_peers has (inner_of has) children_too) (records_of table by_peers has (rekey key) label handed_too (behind_of has) ++ records table by_peers boxed (next_of has) after_too)
              (records table by_peers has first children) (records_of table by_peers has key node.label handed behind ++ records table by_peers boxed next after)
              (ap (λ inner. records table by_peers has inner children_too) first_is ∙ below.records)
              (join_two with_rekeyed_record (records_of table by_peers has (rekey key) label handed_too (behind_of has)) (records table by_peers boxed (next_of has) after_too)
              (records_of table by_peers has key node.label handed behind) (records table by_peers boxed next after)
              (ap (records_of table by_peers has (rekey key) label handed_too) behind_is ∙ records_of_rekeyed has key node.label handed behind)
              (ap (λ onward. records table by_peers boxed onward after_too) next_is ∙ rest.records));
          changes =
              ap (λ b. first_changes table by_peers b (rekey key) label handed_too ++ (changes table by_peers b (inner_of b) children_too ++ (last_changes table by_peers b (rekey key) label (behind_of b) ++ changes table by_peers boxed (next_of b) after_too))) has_is
              ∙ join_two (rekeyed_change rekey) (first_changes table by_peers has (rekey key) label handed_too) (changes table by_peers has (inner_of has) children_too ++ (last_changes table by_peers has (rekey key) label (behind_of has) ++ changes table by_peers boxed (next_of has) after_too))
              (first_changes table by_peers has key node.label handed) (changes table by_peers has first children ++ (last_changes table by_peers has key node.label behind ++ changes table by_peers boxed next after))
              (first_rekeyed has key node.label handed)
              (join_two (rekeyed_change rekey) (changes table by_peers has (inner_of has) children_too) (last_changes table by_peers has (rekey key) label (behind_of has) ++ changes table by_peers boxed (next_of has) after_too)
              (changes table by_peers has first children) (last_changes table by_peers has key node.label behind ++ changes table by_peers boxed next after)
              (ap (λ inner. changes table by_peers has inner children_too) first_is ∙ below.changes)
              (join_two (rekeyed_change rekey) (last_changes table by_peers has (rekey key) label (behind_of has)) (changes table by_peers boxed (next_of has) after_too)
              (last_changes table by_peers has key node.label behind) (changes table by_peers boxed next after)
              (ap (last_changes table by_peers has (rekey key) label) behind_is ∙ last_rekeyed has key node.label behind)
              (ap (λ onward. changes table by_peers boxed onward after_too) next_is ∙ rest.changes)));
        }

    pub changes_rekeyed : (document : Forest (Keyed StyledNode)) → all_changes table (rekeyed_trees document) ≡ map (rekeyed_change rekey) (all_changes table document)
    changes_rekeyed document = (follow_keys document true at_root).changes

    pub evaluation_rekeyed : (document : Forest (Keyed StyledNode)) → evaluation table (rekeyed_trees document) ≡ rekeyed_records rekey (evaluation table document)
    evaluation_rekeyed document = (follow_keys document true at_root).records

  -- Styles and starts.

  abbrev StartsFollow : (old new : BoxId → List ℕ → ℤ) → Type 0
  StartsFollow old new = (box : BoxId) (name : List ℕ) → new (rekeyed_box rekey box) name ≡ old box name

  module _ (old new : BoxId → List ℕ → ℤ) (told : StartsFollow old new) where
    box_starts_rekeyed : (box : BoxId) (style : Style) → box_starts new (rekeyed_box rekey box) style ≡ map (rekeyed_start rekey) (box_starts old box style)
    box_starts_rekeyed box style =
        let resets = filter (λ (reset : ResetOp). reset.reversed && not (is_some reset.value)) (last_resets style.resets) in
        let make : ResetOp → Start = λ reset. record { creator = box; name = reset.name; value = old box reset.name } in
        let make_too : ResetOp → Start = λ reset. record { creator = rekeyed_box rekey box; name = reset.name; value = new (rekeyed_box rekey box) reset.name } in
        map_same make_too (λ reset. rekeyed_start rekey (make reset)) (λ reset. ap (λ (value : ℤ). record { creator = rekeyed_box rekey box; name = reset.name; value = value }) (told box reset.name)) resets
        ∙ sym (map_map make (rekeyed_start rekey) resets)

    element_starts_rekeyed : (key : ℕ) (style : ElementStyle) → element_starts new (rekey key) style ≡ map (rekeyed_start rekey) (element_starts old key style)
    element_starts_rekeyed key style =
        let own = box_starts old (box_of key kind.Element) style.own in
        let before = box_starts old (box_of key kind.Before) style.before in
        let after = box_starts old (box_of key kind.After) style.after in
        let own_too = box_starts new (box_of (rekey key) kind.Element) style.own in
        let before_too = cond (has_pseudo_box style.before) (box_starts new (box_of (rekey key) kind.Before) style.before) [] in
        let after_too = cond (has_pseudo_box style.after) (box_starts new (box_of (rekey key) kind.After) style.after) [] in
        let if_any : List Start → List Start = λ starts. cond (generates_box style) starts [] in
        let all = own ++ (cond (has_pseudo_box style.before) before [] ++ cond (has_pseudo_box style.after) after []) in
        ap if_any
        (join_two (rekeyed_start rekey) own_too (before_too ++ after_too) own (cond (has_pseudo_box style.before) before [] ++ cond (has_pseudo_box style.after) after []) (box_starts_rekeyed (box_of key kind.Element) style.own)
        (join_two (rekeyed_start rekey) before_too after_too (cond (has_pseudo_box style.before) before []) (cond (has_pseudo_box style.after) after [])
        (ap (λ starts. cond (has_pseudo_box style.before) starts []) (box_starts_rekeyed (box_of key kind.Before) style.before) ∙ cond_map (map (rekeyed_start rekey)) (has_pseudo_box style.before) before [])
        (ap (λ starts. cond (has_pseudo_box style.after) starts []) (box_starts_rekeyed (box_of key kind.After) style.after) ∙ cond_map (map (rekeyed_start rekey)) (has_pseudo_box style.after) after [])))
        ∙ cond_map (map (rekeyed_start rekey)) (generates_box style) all []

    module _ (style style_too : ℕ → Option Style → ElementStyle) (same : (key : ℕ) (parent : Option Style) → style_too (rekey key) parent ≡ style key parent) where
      node_rekeyed : (parent : Option Style) (key : ℕ) (label : Node) → styled_node style_too new parent (rekey key) label ≡ rekeyed_label (styled_node style old parent key label)
      node_rekeyed parent key (node.Element name attrs) =
          let make : ElementStyle → List Start → StyledNode = λ styles starts. Element (record { attrs = attrs; style = styles; starts = starts }) in
          ap (λ styles. make styles (element_starts new (rekey key) styles)) (same key parent)
          ∙ ap (make (style key parent)) (element_starts_rekeyed key (style key parent))
      node_rekeyed parent key (node.Text characters) = refl

      within_same : (parent : Option Style) (key : ℕ) (label : Node) → style_within style_too new parent (rekey key) label ≡ style_within style old parent key label
      within_same parent key (node.Element name attrs) = ap (λ (styles : ElementStyle). Some styles.own) (same key parent)
      within_same parent key (node.Text characters) = refl

      styled_rekeyed : (trees : Forest (Keyed Node)) (parent : Option Style) → styled_trees style_too new parent (rekeyed rekey trees) ≡ rekeyed_trees (styled_trees style old parent trees)
      styled_rekeyed Empty parent = refl
      styled_rekeyed (Tree node children after) parent =
          let children_too = rekeyed rekey children in
          let after_too = rekeyed rekey after in
          let make : StyledNode → Forest (Keyed StyledNode) → Forest (Keyed StyledNode) → Forest (Keyed StyledNode) = λ label below beside. Tree (record { key = rekey node.key; label = label }) below beside in
          let label = rekeyed_label (styled_node style old parent node.key node.label) in
          let inner = style_within style old parent node.key node.label in
          ap (λ one. make one (styled_trees style_too new (style_within style_too new parent (rekey node.key) node.label) children_too) (styled_trees style_too new parent after_too)) (node_rekeyed parent node.key node.label)
          ∙ ap (λ within. make label (styled_trees style_too new within children_too) (styled_trees style_too new parent after_too)) (within_same parent node.key node.label)
          ∙ ap (λ below. make label below (styled_trees style_too new parent after_too)) (styled_rekeyed children inner)
          ∙ ap (make label (rekeyed_trees (styled_trees style old inner children))) (styled_rekeyed after parent)

  -- Whole documents.
  module _ (apart : AreApart rekey) where
    same_events : (changes : List Change) (box : BoxId) (name : List ℕ) → events_of (map (rekeyed_change rekey) changes) (rekeyed_box rekey box) name ≡ events_of changes box name
    same_events changes box name =
        let test : Change → Bool = λ change. is_same_box change.creator box && bytes_eq change.name name in
        let test_too : Change → Bool = λ change. is_same_box change.creator (rekeyed_box rekey box) && bytes_eq change.name name in
        ap (map (λ (change : Change). change.event)) (filter_map (rekeyed_change rekey) test test_too (λ change. ap (λ b. b && bytes_eq change.name name) (same_box rekey apart change.creator box)) changes)
        ∙ map_map (rekeyed_change rekey) (λ (change : Change). change.event) (filter test changes)

    module _ (table : List CounterStyle) (style style_too : ℕ → Option Style → ElementStyle) (same : (key : ℕ) (parent : Option Style) → style_too (rekey key) parent ≡ style key parent) (document : Forest (Keyed Node)) where
      starts_follow : StartsFollow (document_starts table style document) (document_starts table style_too (rekeyed rekey document))
      starts_follow box name =
          let plain = styled style no_starts document in
          ap (λ trees. starts_by (all_changes table trees) (rekeyed_box rekey box) name) (styled_rekeyed no_starts no_starts (λ _ _. refl) style style_too same document None)
          ∙ ap (λ changes. starts_by changes (rekeyed_box rekey box) name) (changes_rekeyed apart table plain)
          ∙ ap start (same_events (all_changes table plain) box name)

      pub document_rekeyed : document_records table style_too (rekeyed rekey document) ≡ rekeyed_records rekey (document_records table style document)
      document_rekeyed =
          ap (evaluation table) (styled_rekeyed (document_starts table style document) (document_starts table style_too (rekeyed rekey document)) starts_follow style style_too same document None)
          ∙ evaluation_rekeyed apart table (started table style document)
