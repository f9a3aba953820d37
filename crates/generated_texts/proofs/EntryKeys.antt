-- The keys under which something is kept of a document: those of its elements.
use Rattle.std.proofs.Common.{◌≡◌, ◌==◌, ◌&&◌, ◌||◌, ◌≤◌, ◌<◌, ◌+◌, ◌∷◌, ◌++◌, ℕ, ℤ, List, [], Bool, true, false, cond, Option, Some, None, refl, sym, ap₂, ◌∙◌, arith, inl, inr}
use Rattle.std.proofs.Math.Bool.{or-false}
use Rattle.std.proofs.lemmas.Bool.{cases_Bool}
use Rattle.std.proofs.lemmas.List.Folds.{list_any-append}
use Rattle.std.specs.Prelude.{is_some, option_map}
use Rattle.std.specs.List.{list_any}
use Rattle.std.specs.Option.{option_and_then, option_or}
use Rattle.forest.specs.Forest.{Forest, Empty, Tree}
use Rattle.forest.specs.Keys.{Keyed, HasDistinctKeys, times}
use Rattle.forest.specs.Spots.{Spot, spot}
use Rattle.forest.proofs.SpotLaws.{spot-counted}
use Rattle.plain_types.specs.declared.box_id.BoxId.{BoxId}
use Rattle.plain_types.specs.declared.counter_style.CounterStyle.{CounterStyle}
use Rattle.plain_types.specs.declared.node.Node.{Node}
use Rattle.plain_types.specs.declared.node.Node.TheVariants as node
use Rattle.plain_types.specs.declared.sheet.Sheet.{Sheet}
use Rattle.plain_types.specs.declared.style.ElementStyle.{ElementStyle}
use Rattle.plain_types.specs.declared.style.Style.{Style}
use Rattle.node_arena.specs.Nodes.{name_of, node_name}
use Rattle.box_eval.specs.Elements.{Handed, at_root, by_peers}
use Rattle.box_eval.specs.Evaluation.{is_boxed, past_node, past_trees, records, records_of, style_within, styled_node, styled_trees, within}
use Rattle.box_eval.specs.Starts.{document_starts}
use Rattle.box_eval.specs.declared.element_record.ElementRecord.{ElementRecord}
use Rattle.generated_texts.specs.Documents.{counter_styles, document_evaluation, document_style}
use Rattle.generated_texts.specs.Entries.{document_entries, node_entry}
use Rattle.generated_texts.specs.References.{kept_at, known_targets}
use Rattle.generated_texts.proofs.ListLemmas.{any_map}

-- whether something is kept under a key
abbrev is_kept : {V : Type 0} → ℕ → List (ℕ × V) → Bool
is_kept {V} key kept = list_any (λ (entry : ℕ × V). entry.0 == key) kept

some-kept : {V : Type 0} (key : ℕ) (kept : List (ℕ × V)) → is_some (kept_at kept key) ≡ is_kept key kept
some-kept key [] = refl
some-kept key (entry ∷ kept) = elim (cases_Bool (entry.0 == key)) [
  | inl e ↦ rw e refl
  | inr e ↦ rw e (some-kept key kept)
]

-- whether an element among trees has a key
abbrev pub has_element : ℕ → Forest (Keyed Node) → Bool
has_element key Empty = false
has_element key (Tree node children after) =
    has_element key children || ((node.key == key && is_some (node_name node.label)) || has_element key after)

module _ (key : ℕ) where
  module _ (table : List CounterStyle) (style : ℕ → Option Style → ElementStyle) (start : BoxId → List ℕ → ℤ) where
    kept-node : (boxed : Bool) (parent : Option Style) (own : ℕ) (label : Node) (handed behind : Handed)
        → is_kept key (records_of table by_peers boxed own (styled_node style start parent own label) handed behind) ≡ (own == key && is_some (node_name label))
    kept-node boxed parent own (node.Element name attrs) handed behind = elim (cases_Bool (own == key)) [ inl e ↦ rw e refl | inr e ↦ rw e refl ]
    kept-node boxed parent own (node.Text characters) handed behind = elim (cases_Bool (own == key)) [ inl e ↦ rw e refl | inr e ↦ rw e refl ]

    kept-trees : (trees : Forest (Keyed Node)) (boxed : Bool) (parent : Option Style) (handed : Handed)
        → is_kept key (records table by_peers boxed handed (styled_trees style start parent trees)) ≡ has_element key trees
    kept-trees Empty boxed parent handed = refl
    kept-trees (Tree node children after) boxed parent handed =
        let label = styled_node style start parent node.key node.label in
        let inner = style_within style start parent node.key node.label in
        let inside = styled_trees style start inner children in
        let has = is_boxed boxed label in
        let first = within table by_peers has node.key label handed in
        let behind = past_trees table by_peers has first inside in
        let next = past_node table by_peers has node.key label handed behind in
        let below = records table by_peers has first inside in
        let here = records_of table by_peers has node.key label handed behind in
        let beside = records table by_peers boxed next (styled_trees style start parent after) in
        list_any-append (λ (entry : ℕ × ElementRecord). entry.0 == key) below (here ++ beside)
        ∙ ap₂ (λ a b. a || b) (kept-trees children has inner first)
        (list_any-append (λ (entry : ℕ × ElementRecord). entry.0 == key) here beside
        ∙ ap₂ (λ a b. a || b) (kept-node has parent node.key node.label handed behind) (kept-trees after boxed parent next))

  no-element : (trees : Forest (Keyed Node)) → times key trees ≡ 0 → has_element key trees ≡ false
  no-element Empty none = refl
  no-element (Tree node children after) none =
      elim (node.key == key) as (λ b. cond b 1 0 + (times key children + times key after) ≡ 0 → (has_element key children || ((b && is_some (node_name node.label)) || has_element key after)) ≡ false) [
        | true ↦ λ h. absurd (omega arith)
        | false ↦ λ h. rw (no-element children (omega arith), no-element after (omega arith)) refl
      ] none

  -- whether the node that stands there is an element
  abbrev pub is_named : Option (Spot Node) → Bool
  is_named place = is_some (option_and_then node_name (option_map (λ (s : Spot Node). s.label) place))

  -- it stands below a node, or behind it
  beside : (children after : Forest (Keyed Node)) (below behind : Option (Spot Node)) → times key children + times key after ≤ 1
      → ((s : Spot Node) → below ≡ Some s → 0 < times key children)
      → is_named below ≡ has_element key children → is_named behind ≡ has_element key after
      → is_named (option_or below behind) ≡ (has_element key children || has_element key after)
  beside children after None behind once counted below_is behind_is = rw (← below_is) behind_is
  beside children after (Some s) behind once counted below_is behind_is =
      let there = counted s refl in
      rw (no-element after (omega (arith, there, once))) (below_is ∙ sym (or-false (has_element key children)))

  pub named-element : (trees : Forest (Keyed Node)) (parent : Option ℕ) (earlier : List (Keyed Node)) → times key trees ≤ 1
      → is_named (spot parent earlier trees key) ≡ has_element key trees
  named-element Empty parent earlier once = refl
  named-element (Tree node children after) parent earlier once =
      elim (cases_Bool (node.key == key)) [
        | inl e ↦
            let alone : (1 + (times key children + times key after)) ≤ 1 = rw e at once in
            rw (e, no-element children (omega (arith, alone)), no-element after (omega (arith, alone))) (sym (or-false (is_some (node_name node.label))))
        | inr e ↦
            let rest : (0 + (times key children + times key after)) ≤ 1 = rw e at once in
            rw e
            (beside children after (spot (Some node.key) [] children key) (spot parent (earlier ++ node ∷ []) after key) (omega (arith, rest))
            (λ s is. spot-counted children (Some node.key) [] key s is)
            (named-element children (Some node.key) [] (omega (arith, rest)))
            (named-element after parent (earlier ++ node ∷ []) (omega (arith, rest))))
      ]

pub elements_keys : (author : Sheet) (document : Forest (Keyed Node)) (key : ℕ) → HasDistinctKeys document
    → is_some (kept_at (document_entries author document) key) ≡ is_some (name_of document key)
elements_keys author document key distinct =
    let table = counter_styles author in
    let style = document_style author document in
    let elements = document_evaluation author document in
    let known = known_targets table document elements in
    some-kept key (document_entries author document)
    ∙ any_map (λ (element : ℕ × ElementRecord). (element.0, node_entry table known element.1)) (λ element. element.0 == key) (λ entry. entry.0 == key) (λ element. refl) elements
    ∙ kept-trees key table style (document_starts table style document) document true None at_root
    ∙ sym (named-element key document None [] (distinct key))
