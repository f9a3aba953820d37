-- An evaluation that asks an index for starts is that with the document's own. Throughout, b is whether the parent of a node has a box, p
-- the style of the parent, n a node, c what is under it, r what is after it, g trees, m a merge, k a key, l a label, and t whether an
-- element is turned.
use Rattle.std.proofs.Common.{◌≡◌, ◌&&◌, ℕ, Bool, true, false, cond, List, [], Option, None, refl, sym, ap, subst, ◌∙◌}
use Rattle.forest.specs.Forest.{Forest, Empty, Tree}
use Rattle.forest.specs.Keys.{Keyed, HasDistinctKeys}
use Rattle.forest.specs.Spots.{IsLive}
use Rattle.plain_types.specs.declared.counter_style.CounterStyle.{CounterStyle}
use Rattle.plain_types.specs.declared.node.Node.{Node}
use Rattle.plain_types.specs.declared.node.Node.TheVariants as node
use Rattle.plain_types.specs.declared.style.ElementStyle.{ElementStyle}
use Rattle.plain_types.specs.declared.style.Style.{Style}
use Rattle.box_eval.specs.Boxes.{box_of}
use Rattle.box_eval.specs.Evaluation.{Element, StyledNode, element_starts, style_within, styled_node, styled_trees}
use Rattle.box_eval.specs.Properties.{start_in}
use Rattle.box_eval.specs.Starts.{document_starts, no_starts}
use Rattle.generated_texts.specs.Documents.{agent_sheet, document_style}
use Rattle.merged_walk.specs.Merges.{Merge, End, Kept, Turned, Gone, Come, new_of}
use Rattle.edit_merge.specs.EditMerges.{is_element}
use Rattle.style_reach.specs.Reaches.{all_features}
use Rattle.styled_merge.specs.Stays.{HasSameStyle, IsUnturned, OfEachKept}
use Rattle.styled_merge.specs.StyledMerges.{Starting, Styling, styled_by, styled_merge}
use Rattle.styled_merge.proofs.KeptLaws.{new-whole, unturned-whole}
use Rattle.styled_merge.proofs.StartLaws.{starts-by-boxes}
use Rattle.edit_work.specs.KeyedSources.{author, is_among, own_starts, table}
use Rattle.start_reach.specs.SecondMerges.{first_merge}
use Rattle.start_reach.specs.TurnedElements.{turned_where}
use Rattle.start_reach.proofs.LawLemmas.{edits, merges, same-styles}
use Rattle.start_reach.proofs.TurnedLaws.{at_node}
use Rattle.counter_index.specs.declared.index.CounterIndex.{CounterIndex}
use Rattle.counter_index.specs.Documents.{IsCounterIndex}
use Rattle.counter_index.specs.Indexes.{asked_at, value_at, with_values}
use Rattle.scope_deeds.specs.Reversed.{is_start_of}
use Rattle.counter_index.proofs.IndexLemmas.{asked_are_own, asked_starts_are_kept, index_keeps_what_is_asked, one-key, same-told}
use Rattle.touched_starts.specs.Laws.{SecondMergesAreAsked, StartsAreAsked}
use Rattle.touched_starts.proofs.IndexedNodes.{Asks, Stays, told-starts, whole-asks, whole-stays}
use Rattle.touched_starts.proofs.KeptNodes.{same-inner}
use Rattle.touched_starts.proofs.NodeFacts.{OfNodes, boxed_in, of-both, same-within, within_of}

module _ (table : List CounterStyle) (style : ℕ → Option Style → ElementStyle) (tree : Forest (Keyed Node)) (index : CounterIndex) (keeps : IsCounterIndex table style tree index) where
  abbrev own : Starting
  own = document_starts table style tree

  -- the index has the starts of an element
  pub record HasItsStarts (b : Bool) (p : Option Style) (n : Keyed Node) : Type 0 where
    pub asks : is_element n.label ≡ true → asked_at index n.key ≡ cond b (element_starts no_starts n.key (style n.key p)) []
    pub stays : Stays table style tree b p n

  pub whole-starts : HasDistinctKeys tree → OfNodes style HasItsStarts true None tree
  whole-starts distinct =
      of-both style (Asks table style tree) (Stays table style tree) HasItsStarts
      (λ b p n asks stays. record { asks = λ element. index_keeps_what_is_asked table style tree index keeps.deeds n.key ∙ asks element; stays = stays }) tree true None
      (whole-asks table style tree distinct) (whole-stays table style tree distinct)

  same-asked : (k : ℕ) → with_values (value_at index) (asked_at index k) ≡ with_values own (asked_at index k)
  same-asked k =
      same-told (value_at index) own (asked_at index k)
      (λ creator name is.
      let here : creator.key ≡ k = one-key k (IsLive tree k) creator name (asked_at index k) (asked_are_own table style tree index keeps.deeds k) is in
      asked_starts_are_kept table style tree index keeps.starts creator name (ap (λ at. is_start_of creator name (asked_at index at)) here ∙ is))

  same-starts : (b : Bool) (p : Option Style) (n : Keyed Node) → is_element n.label ≡ true → HasItsStarts b p n
      → element_starts (value_at index) n.key (style n.key p) ≡ element_starts own n.key (style n.key p)
  same-starts true p n element has =
      let asked = has.asks element in
      sym (told-starts (value_at index) n.key (style n.key p))
      ∙ ap (with_values (value_at index)) (sym asked)
      ∙ same-asked n.key
      ∙ ap (with_values own) asked
      ∙ told-starts own n.key (style n.key p)
  same-starts false p n element has =
      starts-by-boxes (value_at index) own style n.key
      (λ which name.
      ap (λ starts. start_in starts (box_of n.key which) name) (keeps.starts n.key ∙ ap (with_values own) (has.asks element))
      ∙ sym (has.stays.zero refl which name)) p

  same-label : (k : ℕ) (l : Node) (p : Option Style) → (is_element l ≡ true → element_starts (value_at index) k (style k p) ≡ element_starts own k (style k p))
      → styled_node style (value_at index) p k l ≡ styled_node style own p k l
  same-label k (node.Text characters) p same = refl
  same-label k (node.Element name attrs) p same = ap (λ given. Element (record { attrs = attrs; style = style k p; starts = given })) (same refl)

  pub same-node : (b : Bool) (p : Option Style) (n : Keyed Node) → HasItsStarts b p n → styled_by style (value_at index) p n ≡ styled_by style own p n
  same-node b p n has =
      let here = same-label n.key n.label p (λ element. same-starts b p n element has) in
      λ i. record { key = n.key; label = here i }

  pub same-trees : (g : Forest (Keyed Node)) (b : Bool) (p : Option Style) → OfNodes style HasItsStarts b p g → styled_trees style (value_at index) p g ≡ styled_trees style own p g
  same-trees Empty b p h = refl
  same-trees (Tree n c r) b p h =
      let here = same-node b p n h.0 in
      let below =
      ap (λ q. styled_trees style (value_at index) q c) (same-within style (value_at index) no_starts p n.key n.label)
      ∙ same-trees c (boxed_in style b p n) (within_of style p n) h.1
      ∙ ap (λ q. styled_trees style own q c) (same-within style no_starts own p n.key n.label) in
      let beside = same-trees r b p h.2 in
      λ i. Tree (here i) (below i) (beside i)

  -- Merges.
  module _ (old : Styling) (was_start : Starting) (test : ℕ → Bool) where
    abbrev turned : Merge Node → Merge Node
    turned m = turned_where is_element test m

    abbrev by_index : Option Style → Merge Node → Merge StyledNode
    by_index p m = styled_merge old style was_start (value_at index) p m

    abbrev by_own : Option Style → Merge Node → Merge StyledNode
    by_own p m = styled_merge old style was_start own p m

    merged-node : (t : Bool) (n : Keyed Node) (c r : Merge Node) (p : Option Style) → styled_by style (value_at index) p n ≡ styled_by style own p n
        → by_index (style_within old was_start p n.key n.label) c ≡ by_own (style_within old was_start p n.key n.label) c → by_index p r ≡ by_own p r
        → by_index p (at_node is_element t n c r) ≡ by_own p (at_node is_element t n c r)
    merged-node true n c r p here below beside = λ i. Turned (styled_by old was_start p n) (here i) (below i) (beside i)
    merged-node false n c r p here below beside = λ i. Kept (styled_by old was_start p n) (below i) (beside i)

    pub same-merge : (m : Merge Node) (b : Bool) (p : Option Style) → IsUnturned m → OfEachKept (HasSameStyle old style) m → OfNodes style HasItsStarts b p (new_of m) → by_index p (turned m) ≡ by_own p (turned m)
    same-merge End b p unturned styles h = refl
    same-merge (Kept n c r) b p unturned styles h =
        let inner : style_within old was_start p n.key n.label ≡ within_of style p n = same-inner old style was_start p n.key n.label styles.0 ∙ same-within style was_start no_starts p n.key n.label in
        let below =
        ap (λ q. by_index q (turned c)) inner
        ∙ same-merge c (boxed_in style b p n) (within_of style p n) unturned.0 styles.1 h.1
        ∙ ap (λ q. by_own q (turned c)) (sym inner) in
        merged-node (is_element n.label && test n.key) n (turned c) (turned r) p (same-node b p n h.0) below (same-merge r b p unturned.1 styles.2 h.2)
    same-merge (Turned was n c r) b p unturned styles h = absurd unturned.0
    same-merge (Gone n c r) b p unturned styles h =
        ap (Gone (styled_by old was_start p n) (styled_trees old was_start (style_within old was_start p n.key n.label) c)) (same-merge r b p unturned styles h)
    same-merge (Come n c r) b p unturned styles h =
        let here = same-node b p n h.0 in
        let below =
        ap (λ q. styled_trees style (value_at index) q c) (same-within style (value_at index) no_starts p n.key n.label)
        ∙ same-trees c (boxed_in style b p n) (within_of style p n) h.1
        ∙ ap (λ q. styled_trees style own q c) (same-within style no_starts own p n.key n.label) in
        let beside = same-merge r b p unturned styles h.2 in
        λ i. Come (here i) (below i) (beside i)

pub starts_are_asked : StartsAreAsked
starts_are_asked table style tree index distinct keeps = same-trees table style tree index keeps tree true None (whole-starts table style tree index keeps distinct)

pub second_merges_are_asked : SecondMergesAreAsked
second_merges_are_asked edit before after leads now is keys =
    let old = document_style (author before) before.tree in
    let new = document_style (author after) after.tree in
    let looks = all_features agent_sheet (author before) in
    let its = edits edit before after leads in
    let both = merges edit before after leads in
    let has = whole-starts (table after) new after.tree now is leads.done.after.distinct in
    same-merge (table after) new after.tree now is old (own_starts before) (is_among keys) (first_merge edit before after) true None (unturned-whole edit before.tree after.tree its both looks)
    (same-styles edit before after leads)
    (subst (λ tree. OfNodes new (HasItsStarts (table after) new after.tree now is) true None tree) (sym (new-whole edit before.tree after.tree its both looks)) has)
