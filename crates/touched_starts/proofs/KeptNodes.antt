-- What is true of the nodes that a merge keeps, before the edit and after it. Throughout, b is whether the parent of a node has a box, p the
-- style of the parent, n a node, c what is under it, r what is after it, m a merge, k a key, l a label, and t whether an element is turned.
use Rattle.std.proofs.Common.{◌≡◌, ◌==◌, ◌&&◌, ◌||◌, ℕ, Bool, true, false, Option, Some, refl, ap, subst, inl, inr, eq-eqb, eqb-true}
use Rattle.std.proofs.lemmas.Bool.{and_from, and_parts, or_cases, or_left, or_right}
use Rattle.forest.specs.Keys.{Keyed}
use Rattle.plain_types.specs.declared.node.Node.{Node}
use Rattle.plain_types.specs.declared.node.Node.TheVariants as node
use Rattle.plain_types.specs.declared.style.ElementStyle.{ElementStyle}
use Rattle.plain_types.specs.declared.style.Style.{Style}
use Rattle.box_eval.specs.Boxes.{generates_box}
use Rattle.box_eval.specs.Evaluation.{is_boxed, style_within, styled_node}
use Rattle.box_eval.specs.Starts.{no_starts}
use Rattle.merged_walk.specs.Merges.{Merge, End, Kept, Turned, Gone, Come, new_of, old_of}
use Rattle.edit_merge.specs.EditMerges.{is_element}
use Rattle.styled_merge.specs.Stays.{HasSameStyle, IsUnturned, OfEachKept, OfElement}
use Rattle.styled_merge.specs.StyledMerges.{Starting, Styling}
use Rattle.start_reach.specs.TurnedElements.{HasSameStartsUnder, KeptHaveSameStarts, stays, turned_where}
use Rattle.start_reach.proofs.TurnedLaws.{at_node}
use Rattle.touched_starts.proofs.NodeFacts.{OfNodes, boxed_in, same-within, within_of}

-- An element that is kept has the same style, and so has its box.
module _ (old new : Styling) where
  pub same-box : (b : Bool) (p : Option Style) (k : ℕ) (l : Node) → OfElement (HasSameStyle old new) k l
      → is_boxed b (styled_node old no_starts p k l) ≡ is_boxed b (styled_node new no_starts p k l)
  same-box b p k (node.Text characters) styles = refl
  same-box b p k (node.Element name attrs) styles = ap (λ (s : ElementStyle). b && generates_box s) (styles p)

  pub same-inner : (start : Starting) (p : Option Style) (k : ℕ) (l : Node) → OfElement (HasSameStyle old new) k l → style_within old start p k l ≡ style_within new start p k l
  same-inner start p k (node.Text characters) styles = refl
  same-inner start p k (node.Element name attrs) styles = ap (λ (s : ElementStyle). Some s.own) (styles p)

  own-style : (k : ℕ) (l : Node) → OfElement (HasSameStyle old new) k l → is_element l ≡ true → HasSameStyle old new k
  own-style k (node.Text characters) styles is = absurd (cc is)
  own-style k (node.Element name attrs) styles is = styles

  module _ (whole : Merge Node) (Was Is : Bool → Option Style → Keyed Node → Type 0) where
    pub record KeptNode (b : Bool) (p : Option Style) (n : Keyed Node) : Type 0 where
      pub was : Was b p n
      pub is : Is b p n
      pub style : HasSameStyle old new n.key
      pub there : stays is_element n.key whole ≡ true

    abbrev pub OfKept : Bool → Option Style → Merge Node → Type 0
    OfKept b p End = Unit {0}
    OfKept b p (Kept n c r) = (is_element n.label ≡ true → KeptNode b p n) × OfKept (boxed_in new b p n) (within_of new p n) c × OfKept b p r
    OfKept b p (Turned was n c r) = ⊥
    OfKept b p (Gone n c r) = OfKept b p r
    OfKept b p (Come n c r) = OfKept b p r

    pub of-kept : (m : Merge Node) (b : Bool) (p : Option Style) → IsUnturned m → OfEachKept (HasSameStyle old new) m → OfNodes old Was b p (old_of m) → OfNodes new Is b p (new_of m)
        → ((k : ℕ) → stays is_element k m ≡ true → stays is_element k whole ≡ true) → OfKept b p m
    of-kept End b p unturned styles was is there = tt
    of-kept (Kept n c r) b p unturned styles was is there =
        let own : ℕ → Bool = λ k. is_element n.label && n.key == k in
        let below : ℕ → Bool = λ k. stays is_element k c in
        let beside : ℕ → Bool = λ k. stays is_element k r in
        let under = subst (λ b. OfNodes old Was b (within_of new p n) (old_of c)) (same-box b p n.key n.label styles.0)
        (subst (λ q. OfNodes old Was (boxed_in old b p n) q (old_of c)) (same-inner no_starts p n.key n.label styles.0) was.1) in (
          λ element. record {
            was = was.0;
            is = is.0;
            style = own-style n.key n.label styles.0 element;
            there = there n.key (or_left (own n.key) (below n.key || beside n.key) (and_from (is_element n.label) (n.key == n.key) element (eq-eqb n.key n.key refl)));
          },
          of-kept c (boxed_in new b p n) (within_of new p n) unturned.0 styles.1 under is.1 (λ k at. there k (or_right (own k) (below k || beside k) (or_left (below k) (beside k) at))),
          of-kept r b p unturned.1 styles.2 was.2 is.2 (λ k at. there k (or_right (own k) (below k || beside k) (or_right (below k) (beside k) at))),
        )
    of-kept (Turned was_node n c r) b p unturned styles was is there = absurd unturned.0
    of-kept (Gone n c r) b p unturned styles was is there = of-kept r b p unturned styles was.2 is there
    of-kept (Come n c r) b p unturned styles was is there = of-kept r b p unturned styles was is.2 there

    -- the element of a key that stays
    pub record KeptAt (k : ℕ) : Type 0 where
      pub boxed : Bool
      pub parent : Option Style
      pub node : Keyed Node
      pub key : node.key ≡ k
      pub element : is_element node.label ≡ true
      pub kept : KeptNode boxed parent node

    pub kept-at : (m : Merge Node) (b : Bool) (p : Option Style) → OfKept b p m → (k : ℕ) → stays is_element k m ≡ true → KeptAt k
    kept-at End b p h k is = absurd (cc is)
    kept-at (Kept n c r) b p h k is = elim (or_cases (is_element n.label && n.key == k) (stays is_element k c || stays is_element k r) is) [
      | inl own ↦
          let both = and_parts (is_element n.label) (n.key == k) own in
          record { boxed = b; parent = p; node = n; key = eqb-true n.key k both.1; element = both.0; kept = h.0 both.0 }
      | inr rest ↦ elim (or_cases (stays is_element k c) (stays is_element k r) rest) [
        | inl below ↦ kept-at c (boxed_in new b p n) (within_of new p n) h.1 k below
        | inr beside ↦ kept-at r b p h.2 k beside
      ]
    ]
    kept-at (Turned was n c r) b p h k is = absurd h
    kept-at (Gone n c r) b p h k is = kept-at r b p h k is
    kept-at (Come n c r) b p h k is = kept-at r b p h k is

    -- where each element that is kept and not turned has the starts that it had
    module _ (was_start start : Starting) (test : ℕ → Bool)
        (same : (b : Bool) (p : Option Style) (n : Keyed Node) → is_element n.label ≡ true → KeptNode b p n → test n.key ≡ false → HasSameStartsUnder new was_start start p n.key) where
      own-same : (k : ℕ) (l : Node) (p : Option Style) → (is_element l && test k) ≡ false → (is_element l ≡ true → test k ≡ false → HasSameStartsUnder new was_start start p k)
          → OfElement (HasSameStartsUnder new was_start start p) k l
      own-same k (node.Text characters) p not its = tt
      own-same k (node.Element name attrs) p not its = its refl not

      node-same : (t : Bool) (n : Keyed Node) (c r : Merge Node) (p : Option Style) → (t ≡ false → OfElement (HasSameStartsUnder new was_start start p) n.key n.label)
          → KeptHaveSameStarts new was_start start (style_within new start p n.key n.label) c → KeptHaveSameStarts new was_start start p r
          → KeptHaveSameStarts new was_start start p (at_node is_element t n c r)
      node-same true n c r p own below beside = (below, beside)
      node-same false n c r p own below beside = (own refl, below, beside)

      pub all-same : (m : Merge Node) (b : Bool) (p : Option Style) → OfKept b p m → KeptHaveSameStarts new was_start start p (turned_where is_element test m)
      all-same End b p h = tt
      all-same (Kept n c r) b p h =
          let t : Bool = is_element n.label && test n.key in
          let below = all-same c (boxed_in new b p n) (within_of new p n) h.1 in
          node-same t n (turned_where is_element test c) (turned_where is_element test r) p
          (λ not. own-same n.key n.label p not (λ element unturned. same b p n element (h.0 element) unturned))
          (subst (λ q. KeptHaveSameStarts new was_start start q (turned_where is_element test c)) (same-within new no_starts start p n.key n.label) below)
          (all-same r b p h.2)
      all-same (Turned was n c r) b p h = absurd h
      all-same (Gone n c r) b p h = all-same r b p h
      all-same (Come n c r) b p h = all-same r b p h
