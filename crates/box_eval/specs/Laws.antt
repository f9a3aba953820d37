-- Laws of the evaluation of whole documents.
use Rattle.std.specs.Prelude.{◌≡◌, ℕ, ℤ, Bool, true, false, List, ◌∷◌, Option, Some, None, flat_map}
use Rattle.std.specs.List.{AllByRecursion}
use Rattle.forest.specs.Forest.{Forest, Empty, Tree}
use Rattle.forest.specs.Keys.{Keyed, HasDistinctKeys}
use Rattle.plain_types.specs.declared.box_id.BoxId.{BoxId}
use Rattle.plain_types.specs.declared.box_kind.BoxKind.TheVariants as kind
use Rattle.plain_types.specs.declared.counter.Counter.{Counter}
use Rattle.plain_types.specs.declared.counter_style.CounterStyle.{CounterStyle}
use Rattle.plain_types.specs.declared.node.Node.{Node}
use Rattle.plain_types.specs.declared.style.ElementStyle.{ElementStyle}
use Rattle.plain_types.specs.declared.style.Style.{Style}
use Rattle.counter_sets.specs.Sets.{is_by_peer, is_missing_in}
use Rattle.box_eval.specs.declared.change.Change.{Change}
use Rattle.box_eval.specs.declared.made.Made.{Made}
use Rattle.box_eval.specs.Boxes.{box_of}
use Rattle.box_eval.specs.Elements.{Handed, Replacing, Styled, after_of, at_root, before_of, behind_marker, by_parent, by_peers, inside, marker_of, own_counted}
use Rattle.box_eval.specs.Evaluation.{Element, StyledNode, all_box_changes, all_changes, box_changes, changes, evaluation, inputs, is_boxed, past_node, past_trees, records, styled, within}
use Rattle.box_eval.specs.Starts.{any_asks_for_start, document_records, document_starts, no_starts, started, starts_by}

-- Of a box's counters, those that the parent's set lacks were created by the box itself or by a sibling box
-- before it, and no others were: what its peers created is what the parent's set lacks.
abbrev pub IsScoped : List BoxId → List Counter → List Counter → Type 0
IsScoped peers parent set = AllByRecursion (λ counter. is_by_peer peers counter ≡ is_missing_in parent counter) set

-- so it is with a box of a pseudo-element that is handed this, where there is one
abbrev pub IsMadeScoped : BoxId → Handed → Option Made → Type 0
IsMadeScoped box handed None = Unit {0}
IsMadeScoped box handed (Some made) = IsScoped (box ∷ handed.earlier) handed.parent made.set

module _ (table : List CounterStyle) (replacing : Replacing) where
  -- with all boxes of an element; `behind` is handed on behind its children
  pub record AreBoxesScoped (key : ℕ) (element : Styled) (handed behind : Handed) : Type 0 where
    pub own : IsScoped (box_of key kind.Element ∷ handed.earlier) handed.parent (own_counted table replacing key element handed).set
    pub marker : IsMadeScoped (box_of key kind.Marker) (inside (own_counted table replacing key element handed).set handed.depth) (marker_of table replacing key element handed).made
    pub before : IsMadeScoped (box_of key kind.Before) (behind_marker table replacing key element handed) (before_of table replacing key element handed).made
    pub after : IsMadeScoped (box_of key kind.After) behind (after_of table replacing key element behind).made

  abbrev pub IsNodeScoped : Bool → ℕ → StyledNode → Handed → Handed → Type 0
  IsNodeScoped true key (Element element) handed behind = AreBoxesScoped key element handed behind
  IsNodeScoped _ key label handed behind = Unit {0}

  -- and with all boxes of trees side by side
  abbrev pub AreScoped : Bool → Handed → Forest (Keyed StyledNode) → Type 0
  AreScoped boxed handed Empty = Unit {0}
  AreScoped boxed handed (Tree node children after) =
      let has = is_boxed boxed node.label in
      let first = within table replacing has node.key node.label handed in
      let behind = past_trees table replacing has first children in
      IsNodeScoped has node.key node.label handed behind
      × AreScoped has first children
      × AreScoped boxed (past_node table replacing has node.key node.label handed behind) after

abbrev pub OfEachDocument : (List CounterStyle → Forest (Keyed StyledNode) → Type 0) → Type 0
OfEachDocument law = (table : List CounterStyle) (document : Forest (Keyed StyledNode)) → HasDistinctKeys document → law table document

-- each set is scoped
abbrev pub EachSetIsScoped : List CounterStyle → Forest (Keyed StyledNode) → Type 0
EachSetIsScoped table document = AreScoped table by_peers true at_root document

-- so the parent's set tells what a new counter replaces
pub record DoesParentTell (table : List CounterStyle) (document : Forest (Keyed StyledNode)) : Type 0 where
  pub records : records table by_peers true at_root document ≡ records table by_parent true at_root document
  pub changes : changes table by_peers true at_root document ≡ changes table by_parent true at_root document
  pub box_changes : box_changes table by_peers true at_root document ≡ box_changes table by_parent true at_root document
  pub inputs : inputs table by_peers true at_root document ≡ inputs table by_parent true at_root document

-- And where the parent's set tells it, nothing depends on the sibling boxes before: it is the same with these as
-- with those that are handed on.
pub record ForgetsEarlier (table : List CounterStyle) (boxed : Bool) (handed : Handed) (earlier : List BoxId) (trees : Forest (Keyed StyledNode)) : Type 0 where
  pub records : records table by_parent boxed handed trees ≡ records table by_parent boxed (record handed { earlier = earlier }) trees
  pub changes : changes table by_parent boxed handed trees ≡ changes table by_parent boxed (record handed { earlier = earlier }) trees
  pub box_changes : box_changes table by_parent boxed handed trees ≡ box_changes table by_parent boxed (record handed { earlier = earlier }) trees
  pub inputs : inputs table by_parent boxed handed trees ≡ inputs table by_parent boxed (record handed { earlier = earlier }) trees

abbrev pub ParentsNeedNoPeers : Type 0
ParentsNeedNoPeers =
    (table : List CounterStyle) (trees : Forest (Keyed StyledNode)) (boxed : Bool) (handed : Handed) (earlier : List BoxId) → ForgetsEarlier table boxed handed earlier trees

-- So of trees side by side that two documents share, with the same styles and starts, the same is said in both where
-- the first of them is handed the same: the counters of its parent, of its sibling before and of the box just before it,
-- and the quote depth.
abbrev pub SharedTreesAreToldByWhatTheyAreHanded : Type 0
SharedTreesAreToldByWhatTheyAreHanded =
    (table : List CounterStyle) (trees : Forest (Keyed StyledNode)) (boxed : Bool) (first second : Handed)
    → first.parent ≡ second.parent → first.sibling ≡ second.sibling → first.preceding ≡ second.preceding → first.depth ≡ second.depth
    → records table by_parent boxed first trees ≡ records table by_parent boxed second trees

-- What the boxes of a document do to counters is what each of them does, in tree order.
abbrev pub ChangesAreThoseOfBoxes : Type 0
ChangesAreThoseOfBoxes =
    (table : List CounterStyle) (document : Forest (Keyed StyledNode)) → all_changes table document ≡ flat_map (λ (box : BoxId × List Change). box.1) (all_box_changes table document)

-- What each box does to counters does not depend on the starts of reversed counters, which change values alone: with
-- all starts the same boxes stand in the document, and each of them does the same.
abbrev pub StartsKeepBoxChanges : Type 0
StartsKeepBoxChanges =
    (table : List CounterStyle) (style : ℕ → Option Style → ElementStyle) (start : BoxId → List ℕ → ℤ) (document : Forest (Keyed Node)) → all_box_changes table (styled style start document) ≡ all_box_changes table (styled style no_starts document)

-- And so what they do all together does not.
abbrev pub StartsKeepChanges : Type 0
StartsKeepChanges =
    (table : List CounterStyle) (style : ℕ → Option Style → ElementStyle) (start : BoxId → List ℕ → ℤ) (document : Forest (Keyed Node)) → all_changes table (styled style start document) ≡ all_changes table (styled style no_starts document)

-- So the starts with which a document is evaluated are those that the changes of this very evaluation give.
abbrev pub StartsAreOwn : Type 0
StartsAreOwn =
    (table : List CounterStyle) (style : ℕ → Option Style → ElementStyle) (document : Forest (Keyed Node)) → document_starts table style document ≡ starts_by (all_changes table (started table style document))

-- And where no box asks for a start, the evaluation with all of them 0 is that with the document's.
abbrev pub NoStartMattersWhereNoneIsAsked : Type 0
NoStartMattersWhereNoneIsAsked =
    (table : List CounterStyle) (style : ℕ → Option Style → ElementStyle) (document : Forest (Keyed Node))
    → any_asks_for_start true (styled style no_starts document) ≡ false → document_records table style document ≡ evaluation table (styled style no_starts document)
