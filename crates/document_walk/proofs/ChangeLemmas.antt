-- What a walk collects is what the boxes of the document do to counters. Throughout, n is a styled node, c what is under it, r
-- what is after it, b an open node, bs those above it, and i what is handed.
use Rattle.std.proofs.Common.{◌≡◌, ◌++◌, ℕ, Bool, true, false, cond, List, [], ◌∷◌, Option, Some, None, refl, sym, ap, ◌∙◌, append_assoc, append-nil}
use Rattle.std.specs.Prelude.{unwrap_or}
use Rattle.forest.specs.Forest.{Forest, Empty, Tree}
use Rattle.forest.specs.Keys.{Keyed, HasDistinctKeys}
use Rattle.plain_types.specs.declared.counter_style.CounterStyle.{CounterStyle}
use Rattle.box_eval.specs.declared.change.Change.{Change}
use Rattle.box_eval.specs.declared.entry.Closing.{Closing}
use Rattle.box_eval.specs.Boxes.{generates_box}
use Rattle.box_eval.specs.Elements.{Handed, Styled, at_root, by_parent, closing_of}
use Rattle.box_eval.specs.Evaluation.{StyledNode, Element, Text, all_changes, changes, changes_in, first_changes, last_changes, past_node, within}
use Rattle.box_eval.proofs.DocumentLemmas as documents
use Rattle.box_eval.proofs.EntryLemmas.{closing_any}
use Rattle.merged_walk.specs.Evaluators.{Evaluator, past_all}
use Rattle.merged_walk.specs.Merges.{Merge, Come, new_of}
use Rattle.surroundings.specs.declared.surroundings.Surroundings.{Surroundings}
use Rattle.surroundings.specs.declared.told.Told.{Told}
use Rattle.surroundings.specs.Surroundings.{handed_by, surroundings_of}
use Rattle.surroundings.specs.StyledEvaluators.{inside_node, is_element, past_styled, root_surroundings, said_in, styled_evaluator}
use Rattle.surroundings.proofs.Said as said
use Rattle.document_walk.specs.Catching.{Reading, with_changes}
use Rattle.document_walk.specs.Machinery.Standing.{Handing, OpenNode, changes_behind, changes_left, opened_as, opened_of}
use Rattle.document_walk.specs.TreeChanges.{changes_after_children, changes_before_children, tree_changes}
use Rattle.document_walk.specs.Walking.{changes_before}
use Rattle.document_walk.proofs.NodeLemmas.{made_in}

pub with-more : (collected : Option (List Change)) (xs ys : List Change) → with_changes (with_changes collected xs) ys ≡ with_changes collected (xs ++ ys)
with-more None xs ys = refl
with-more (Some changes) xs ys = ap Some (append_assoc changes xs ys)

pub with-none : (collected : Option (List Change)) → with_changes collected [] ≡ collected
with-none None = refl
with-none (Some changes) = ap Some (append-nil changes)

module _ (table : List CounterStyle) where
  abbrev e : Evaluator StyledNode Told (Option Surroundings)
  e = styled_evaluator table

  -- A text has no box.

  before-text : (key : ℕ) (label : StyledNode) (i : Option Surroundings) → is_element label ≡ false → changes_before_children table (record { key = key; label = label }) i ≡ []
  before-text key (Element element) i h = absurd (cc)
  before-text key Text None h = refl
  before-text key Text (Some around) h = refl

  after-text : (key : ℕ) (label : StyledNode) (i behind : Option Surroundings) → is_element label ≡ false → changes_after_children table (record { key = key; label = label }) i behind ≡ []
  after-text key (Element element) i behind h = absurd (cc)
  after-text key Text None behind h = refl
  after-text key Text (Some around) behind h = refl

  -- In an element without a box there are none.

  none-handed : (trees : Forest (Keyed StyledNode)) → tree_changes table None trees ≡ []
  none-handed Empty = refl
  none-handed (Tree n c r) = λ i. none-handed c i ++ none-handed r i

  none-node : (key : ℕ) (label : StyledNode) (c r : Forest (Keyed StyledNode)) (handed : Handed)
      → changes table by_parent false handed c ≡ [] → changes table by_parent false handed r ≡ [] → changes table by_parent false handed (Tree (record { key = key; label = label }) c r) ≡ []
  none-node key (Element element) c r handed below beside = λ i. below i ++ beside i
  none-node key Text c r handed below beside = λ i. below i ++ beside i

  no-changes : (trees : Forest (Keyed StyledNode)) (handed : Handed) → changes table by_parent false handed trees ≡ []
  no-changes Empty handed = refl
  no-changes (Tree n c r) handed = none-node n.key n.label c r handed (no-changes c handed) (no-changes r handed)

  unboxed : (c : Forest (Keyed StyledNode)) (handed : Handed) → tree_changes table None c ≡ changes table by_parent false handed c
  unboxed c handed = none-handed c ∙ sym (no-changes c handed)

  -- Elsewhere.

  abbrev Agree : Forest (Keyed StyledNode) → Handed → Type 0
  Agree trees handed = tree_changes table (Some (surroundings_of handed)) trees ≡ changes table by_parent true handed trees

  agree-text : (key : ℕ) (c r : Forest (Keyed StyledNode)) (handed : Handed) → Agree r handed → Agree (Tree (record { key = key; label = Text }) c r) handed
  agree-text key c r handed beside = λ i. unboxed c handed i ++ beside i

  -- what is under an element and behind it, by whether it has a box
  agree-if : (key : ℕ) (element : Styled) (c r : Forest (Keyed StyledNode)) (handed : Handed) → ((inner : Handed) → Agree c inner) → ((next : Handed) → Agree r next) → (b : Bool)
      → first_changes table by_parent b key (Element element) (handed_by (surroundings_of handed))
      ++ (tree_changes table (said.inner_if table key element c r handed b) c
      ++ (changes_in (said_in table b key (Element element) (handed_by (surroundings_of handed)) (handed_by (unwrap_or (past_all e (said.inner_if table key element c r handed b) c) (surroundings_of handed)))).after
      ++ tree_changes table (said.next_with table key element c r handed b (past_all e (said.inner_if table key element c r handed b) c)) r))
      ≡ first_changes table by_parent b key (Element element) handed
      ++ (changes table by_parent b (within table by_parent b key (Element element) handed) c
      ++ (last_changes table by_parent b key (Element element) (said.behind_if table key element c r handed b)
      ++ changes table by_parent true (past_node table by_parent b key (Element element) handed (said.behind_if table key element c r handed b)) r))
  agree-if key element c r handed below beside true =
      let inner = within table by_parent true key (Element element) handed in
      let behind = said.behind_if table key element c r handed true in
      let first = first_changes table by_parent true key (Element element) handed in
      let children = λ (inner : Handed). (said.agrees table c inner).past in
      let last = ap (λ x. changes_in (closing_of table by_parent key element (handed_by (unwrap_or x (surroundings_of handed)))).after) (children inner)
      ∙ ap (λ (closing : Closing). changes_in closing.after) (sym (closing_any table key element behind [])) in
      let next = ap (λ x. tree_changes table x r) (said.next-is table key element c r handed children true) ∙ beside (past_node table by_parent true key (Element element) handed behind) in
      λ i. first ++ (below inner i ++ (last i ++ next i))
  agree-if key element c r handed below beside false = λ i. unboxed c handed i ++ beside handed i

  agree-node : (key : ℕ) (label : StyledNode) (c r : Forest (Keyed StyledNode)) (handed : Handed) → ((inner : Handed) → Agree c inner) → ((next : Handed) → Agree r next)
      → Agree (Tree (record { key = key; label = label }) c r) handed
  agree-node key (Element element) c r handed below beside = agree-if key element c r handed below beside (generates_box element.style)
  agree-node key Text c r handed below beside = agree-text key c r handed (beside handed)

  agree : (trees : Forest (Keyed StyledNode)) (handed : Handed) → Agree trees handed
  agree Empty handed = refl
  agree (Tree n c r) handed = agree-node n.key n.label c r handed (agree c) (agree r)

  -- a whole document
  pub document_changes : (trees : Forest (Keyed StyledNode)) → HasDistinctKeys trees → tree_changes table root_surroundings trees ≡ all_changes table trees
  document_changes trees distinct = agree trees at_root ∙ sym (documents.told table trees true at_root distinct (documents.root_level trees)).changes

four : {A : Type 0} (xs ys zs ws vs : List A) → (xs ++ (ys ++ (zs ++ ws))) ++ vs ≡ xs ++ (ys ++ (zs ++ (ws ++ vs)))
four xs ys zs ws vs =
    append_assoc xs (ys ++ (zs ++ ws)) vs
    ∙ ap (λ all. xs ++ all) (append_assoc ys (zs ++ ws) vs)
    ∙ ap (λ all. xs ++ (ys ++ all)) (append_assoc zs ws vs)

module _ (from : Reading) where
  -- what the code made of an element tells what its boxes do
  opened-if : (key : ℕ) (element : Styled) (around : Surroundings) (b : Bool)
      → changes_before (cond b (Some (made_in from key element around)) None) ≡ first_changes from.table by_parent b key (Element element) (handed_by around)
  opened-if key element around true = refl
  opened-if key element around false = refl

  opened-as : (key : ℕ) (label : StyledNode) (around : Surroundings)
      → changes_before (opened_as from key label around) ≡ changes_before_children from.table (record { key = key; label = label }) (Some around)
  opened-as key (Element element) around = opened-if key element around (generates_box element.style)
  opened-as key Text around = refl

  pub changes_opened : (n : Keyed StyledNode) (i : Handing) → changes_before (opened_of from n i) ≡ changes_before_children from.table n i
  changes_opened n None = refl
  changes_opened n (Some around) = opened-as n.key n.label around

  -- a node that comes is entered
  pub changes_entered : (bs : List OpenNode) (i : Handing) (b : OpenNode) (c : Forest (Keyed StyledNode)) (m : Merge StyledNode) → b.handed ≡ i → new_of m ≡ c
      → changes_left from bs i (Come b.node c b.after) ≡ changes_before_children from.table b.node i ++ changes_left from (b ∷ bs) (inside_node from.table b.node i) m
  changes_entered bs i b c m handed is =
      let n = b.node in
      let g = new_of b.after in
      let e = styled_evaluator from.table in
      let first = changes_before_children from.table n i in
      let inner = inside_node from.table n i in
      let x = past_all e inner c in
      let next = past_styled from.table n i x in
      four first (tree_changes from.table inner c) (changes_after_children from.table n i x) (tree_changes from.table next g) (changes_behind from bs (past_all e next g))
      ∙ ap (λ j. first ++ (tree_changes from.table inner c ++ (changes_after_children from.table n j x ++ (tree_changes from.table (past_styled from.table n j x) g ++ changes_behind from bs (past_all e (past_styled from.table n j x) g)))))
      (sym handed)
      ∙ ap (λ c. first ++ (tree_changes from.table inner c ++ changes_behind from (b ∷ bs) (past_all e inner c))) (sym is)

  -- a text that comes is passed
  pub changes_passed : (bs : List OpenNode) (i : Handing) (n : Keyed StyledNode) (r : Merge StyledNode) → is_element n.label ≡ false → changes_left from bs i (Come n Empty r) ≡ changes_left from bs i r
  changes_passed bs i n r text =
      let e = styled_evaluator from.table in
      let g = new_of r in
      let y = inside_node from.table n i in
      let next = past_styled from.table n i y in
      ap (λ first. (first ++ (changes_after_children from.table n i y ++ tree_changes from.table next g)) ++ changes_behind from bs (past_all e next g)) (before-text from.table n.key n.label i text)
      ∙ ap (λ last. (last ++ tree_changes from.table next g) ++ changes_behind from bs (past_all e next g)) (after-text from.table n.key n.label i y text)
      ∙ ap (λ j. tree_changes from.table j g ++ changes_behind from bs (past_all e j g)) ((said.sound from.table).text n i y text)
