-- Where no element's style is `display: none`, each element has its box.
use Rattle.std.proofs.Common.{◌≡◌, ◌==◌, ◌&&◌, ◌||◌, ◌∷◌, ◌++◌, ℕ, ℤ, List, [], Bool, true, false, not, Option, Some, None, refl, sym, ap, subst, ◌∙◌, inl, inr, eq-eqb}
use Rattle.std.proofs.lemmas.Bool.{cases_Bool}
use Rattle.std.specs.Prelude.{is_some, option_map}
use Rattle.forest.specs.Forest.{Forest, Empty, Tree}
use Rattle.forest.specs.Keys.{Keyed, without_keys}
use Rattle.plain_types.specs.Tree.{AreSound}
use Rattle.plain_types.specs.declared.box_id.BoxId.{BoxId}
use Rattle.plain_types.specs.declared.counter_style.CounterStyle.{CounterStyle}
use Rattle.plain_types.specs.declared.node.Node.{Node}
use Rattle.plain_types.specs.declared.node.Node.TheVariants as node
use Rattle.plain_types.specs.declared.style.ElementStyle.{ElementStyle}
use Rattle.plain_types.specs.declared.style.Style.{Style}
use Rattle.node_arena.specs.Nodes.{name_of}
use Rattle.content_eval.specs.Targets.{Known}
use Rattle.box_eval.specs.Boxes.{is_absent}
use Rattle.box_eval.specs.Elements.{Handed, at_root, by_peers}
use Rattle.box_eval.specs.Evaluation.{past_node, past_trees, records, records_of, styled_node, styled_trees, within}
use Rattle.box_eval.specs.Starts.{document_starts}
use Rattle.box_eval.specs.declared.element_record.ElementRecord.{ElementRecord}
use Rattle.generated_texts.specs.Documents.{counter_styles, document_evaluation, document_style}
use Rattle.generated_texts.specs.Entries.{document_entries, node_entries}
use Rattle.generated_texts.specs.Laws.{EachElementHasItsBox}
use Rattle.generated_texts.specs.References.{kept_at, known_targets}
use Rattle.generated_texts.specs.declared.entry.NodeEntry.{NodeEntry}
use Rattle.generated_texts.proofs.EntryKeys.{elements_keys, has_element, named-element}

abbrev HaveBoxes : List (ℕ × ElementRecord) → Type 0
HaveBoxes [] = Unit {0}
HaveBoxes (element ∷ rest) = (element.1.has_box ≡ true) × HaveBoxes rest

HaveBoxes-append : (some others : List (ℕ × ElementRecord)) → HaveBoxes some → HaveBoxes others → HaveBoxes (some ++ others)
HaveBoxes-append [] others have more = more
HaveBoxes-append (element ∷ some) others have more = (have.0, HaveBoxes-append some others have.1 more)

or-true : (b : Bool) → (b || true) ≡ true
or-true true = refl
or-true false = refl

module _ (table : List CounterStyle) (style : ℕ → Option Style → ElementStyle) (start : BoxId → List ℕ → ℤ) where
  -- the elements in these trees
  abbrev AreShown : Forest (Keyed Node) → Type 0
  AreShown trees = (key : ℕ) (parent : Option Style) → has_element key trees ≡ true → is_absent (style key parent).own.display ≡ false

  -- in these trees, whose parent has a box
  abbrev AllHave : Forest (Keyed Node) → Type 0
  AllHave trees =
      AreSound (without_keys trees) → AreShown trees → (parent : Option Style) (handed : Handed) → HaveBoxes (records table by_peers true handed (styled_trees style start parent trees))

  have-node : (key : ℕ) (label : Node) (children after : Forest (Keyed Node)) → AllHave children → AllHave after → AllHave (Tree (record { key = key; label = label }) children after)
  have-node key (node.Element name attrs) children after below beside sound shown parent handed =
      let label = styled_node style start parent key (node.Element name attrs) in
      let children_too = styled_trees style start (Some (style key parent).own) children in
      let after_too = styled_trees style start parent after in
      let itself = eq-eqb key key refl in
      subst (λ has.
      HaveBoxes (records table by_peers has (within table by_peers has key label handed) children_too
      ++ (records_of table by_peers has key label handed (past_trees table by_peers has (within table by_peers has key label handed) children_too)
      ++ records table by_peers true (past_node table by_peers has key label handed (past_trees table by_peers has (within table by_peers has key label handed) children_too)) after_too)))
      (sym (ap not (shown key parent (rw itself (or-true (has_element key children))))))
      (HaveBoxes-append _ _ (below sound.1 (λ other above at. shown other above (rw at refl)) (Some (style key parent).own) _)
      (refl, beside sound.2 (λ other above at. shown other above (rw (at, or-true (key == other && true)) (or-true (has_element other children)))) parent _))
  have-node key (node.Text characters) Empty after below beside sound shown parent handed =
      beside sound.1 (λ other above at. shown other above (rw at (or-true (key == other && false)))) parent handed
  have-node key (node.Text characters) (Tree first children others) after below beside sound shown parent handed = absurd (let none = sound.0 in cc)

  all_have : (trees : Forest (Keyed Node)) → AllHave trees
  all_have Empty = λ sound shown parent handed. tt
  all_have (Tree first children after) = have-node first.key first.label children after (all_have children) (all_have after)

kept-boxes : (table : List CounterStyle) (known : Known) (elements : List (ℕ × ElementRecord)) (key : ℕ) → HaveBoxes elements
    → option_map (λ (entry : NodeEntry). entry.has_box) (kept_at (node_entries table known elements) key) ≡ option_map (λ (entry : NodeEntry). true) (kept_at (node_entries table known elements) key)
kept-boxes table known [] key have = refl
kept-boxes table known (element ∷ rest) key have = elim (cases_Bool (element.0 == key)) [
  | inl e ↦ rw (e, have.0) refl
  | inr e ↦ rw e (kept-boxes table known rest key have.1)
]

both-there : {X Y Z : Type 0} (z : Z) (one : Option X) (other : Option Y) → is_some one ≡ is_some other → option_map (λ _. z) one ≡ option_map (λ _. z) other
both-there z None None same = refl
both-there z (Some x) (Some y) same = refl
both-there z None (Some y) same = absurd (cc)
both-there z (Some x) None same = absurd (cc)

pub each_has_box : EachElementHasItsBox
each_has_box author document distinct sound shown key =
    let table = counter_styles author in
    let style = document_style author document in
    let elements = document_evaluation author document in
    kept-boxes table (known_targets table document elements) elements key
    (all_have table style (document_starts table style document) document sound
    (λ other parent at. shown other parent (named-element other document None [] (distinct other) ∙ at)) None at_root)
    ∙ both-there true (kept_at (document_entries author document) key) (name_of document key) (elements_keys author document key distinct)
